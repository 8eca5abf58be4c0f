-- The steps of a walk over slots: a lemma for each way out. Assumes nothing.
use mathlib.Core.Path.{◌≡◌, refl, sym, ap, ◌∙◌}
use mathlib.Core.Bool.{Bool, true, false, cond}
use mathlib.Core.List.{List, [], ◌∷◌}
use Prim.Native.Nat.{ℕ, ◌+◌, ◌-◌, ◌≤◌, ◌<◌}
use native.Mathlib.Omega.{arith}
use lib.Dec.{eqb}
use lib.ListN.{length, drop, length-drop, drop_of_length-le}
use lib.Seq.{drop-drop}
use borrow.Author.Tests.{eq-eqb, ne_eqb, le-leb, lt-leb}
use Rattle.lexis.specs.Text.{byte, bytes}
use Rattle.lexis.specs.Bytes.{is, digit}
use Rattle.lexis.specs.Runs.{past, byte_at}
use Rattle.lexis.specs.Durations.{letter_slot, in_either_case, letter_behind, digit_slot, filled, fill, fill_all, behind_time, behind_date, slots_of}
use Rattle.lexis.specs.Clauses.Answers.{unless_zero, PlaceIs, SlotIs, filled_at, FillRoom, FillIs, FlagIs}
use Rattle.lexis.specs.declared.durations.Slots.{Slots}
use Rattle.std.specs.Prelude.{Option, Some, None}
use Rattle.lexis.proofs.Options.{above_some, none_zero, some_above}
use Rattle.lexis.proofs.Places.{drop_in}

-- a slot of a pattern
module _ (w : List ℕ) (at letter : ℕ) where
  pub letter_none : length w ≤ at → SlotIs w at (letter_slot letter (drop at w)) None
  unfolding letter_slot
  letter_none h = record { is = rw (drop_of_length-le w h) refl; inside = tt }

  module _ (h : at < length w) where
    pub letter_here : byte_at w at ≡ letter → SlotIs w at (letter_slot letter (drop at w)) (Some 1)
    unfolding letter_slot
    letter_here e = record { is = rw (drop_in w at h, eq-eqb (byte_at w at) letter e) refl; inside = omega arith }

    pub letter_other : (byte_at w at ≡ letter → ⊥) → SlotIs w at (letter_slot letter (drop at w)) None
    unfolding letter_slot
    letter_other e = record { is = rw (drop_in w at h, ne_eqb (byte_at w at) letter e) refl; inside = tt }

-- a run counted from its start
pub past_from : (test : ℕ → Bool) (at n : ℕ) (bs : List ℕ) → past test (at + n) bs ≡ at + past test n bs
unfolding past
past_from test at n [] = refl
past_from test at n (b ∷ bs) =
    let h = past_from test at (n + 1) bs in
    let a : at + n + 1 ≡ at + (n + 1) = omega arith in
    by (test b) (past test (n + 1) bs) (ap (λ k. past test k bs) a ∙ h)
  where
    by : (t : Bool) {x : ℕ} (y : ℕ) → x ≡ at + y → cond t x (at + n) ≡ at + cond t y n
    by true y e = e
    by false y e = refl

-- a slot of a word
module _ (w : List ℕ) (at letter end : ℕ) (p : PlaceIs w at (past (is digit) at (drop at w)) end) where
  digits_are : past (is digit) 0 (drop at w) ≡ end - at
  digits_are =
      let e = past_from (is digit) at 0 (drop at w) in
      let a : at + 0 ≡ at = omega arith in
      let f : past (is digit) at (drop at w) ≡ at + past (is digit) 0 (drop at w) = rw a at e in
      let g = p.is in
      omega arith

  behind_digits : drop (end - at) (drop at w) ≡ drop end w
  behind_digits = let a : at + (end - at) ≡ end = let l = p.low in omega arith in rw (drop-drop, a)

  pub digit_few : end - at < 1 → SlotIs w at (digit_slot letter (drop at w)) None
  unfolding digit_slot
  digit_few l = record { is = rw (digits_are, lt-leb 1 (end - at) l) refl; inside = tt }

  pub digit_many : 4 < end - at → SlotIs w at (digit_slot letter (drop at w)) None
  unfolding digit_slot
  digit_many l = record { is = rw (digits_are, le-leb 1 (end - at) (omega arith), lt-leb (end - at) 4 l) refl; inside = tt }

  module _ (l : 1 ≤ end - at) (m : end - at ≤ 4) where
    reached : digit_slot letter (drop at w) ≡ letter_behind (end - at) letter (drop end w)
    unfolding digit_slot
    reached = rw (digits_are, le-leb 1 (end - at) l, le-leb (end - at) 4 m, behind_digits) refl

    pub digit_ended : length w ≤ end → SlotIs w at (digit_slot letter (drop at w)) None
    unfolding letter_behind
    digit_ended e = record { is = rw (reached, drop_of_length-le w e) refl; inside = tt }

    module _ (n : end < length w) (r : Bool) (q : r ≡ in_either_case letter (byte_at w end)) where
      pub digit_letter : r ≡ true → SlotIs w at (digit_slot letter (drop at w)) (Some (end - at + 1))
      unfolding letter_behind
      digit_letter e =
          let k = p.low in
          record {
            is = rw (reached, drop_in w end n, ← q, e) (above_some (end - at + 1) (λ z. omega arith));
            inside = omega arith;
          }

      pub digit_other : r ≡ false → SlotIs w at (digit_slot letter (drop at w)) None
      unfolding letter_behind
      digit_other e = record { is = rw (reached, drop_in w end n, ← q, e) refl; inside = tt }

-- one slot
module _ (slot : ℕ → List ℕ → ℕ) (w : List ℕ) (x : Slots) (bit letter : ℕ) (r : Option ℕ)
    (q : SlotIs w x.at (slot letter (drop x.at w)) r) where
  pub fill_none : r ≡ None → FillRoom w x bit → FillIs w (x.flag + bit) (fill slot bit letter (filled_at w x)) x
  unfolding fill
  fill_none e d =
      let z = none_zero (slot letter (drop x.at w)) (sym e ∙ q.is) in
      record { is = rw (eq-eqb (slot letter (drop x.at w)) 0 z) refl; inside = d.inside; few = omega arith }

  pub fill_some : (size : ℕ) → r ≡ Some size → FillIs w (x.flag + bit) (fill slot bit letter (filled_at w x))
      (record { flag = x.flag + bit; at = x.at + size })
  unfolding fill
  fill_some size e =
      let z = some_above (slot letter (drop x.at w)) size (sym e ∙ q.is) in
      record {
        is = rw (ne_eqb (slot letter (drop x.at w)) 0 z.1, ← z.0, drop-drop) refl;
        inside = rw e at q.inside;
        few = omega arith;
      }

-- slot after slot
module _ (slot : ℕ → List ℕ → ℕ) (w : List ℕ) (at : ℕ) (a b c : Slots) where
  pub dates_filled : (d : Slots)
      → FillIs w 1 (fill slot 1 (byte "y") (filled 0 (drop at w))) a
      → FillIs w (a.flag + 2) (fill slot 2 (byte "m") (filled_at w a)) b
      → FillIs w (b.flag + 4) (fill slot 4 (byte "w") (filled_at w b)) c
      → FillIs w (c.flag + 8) (fill slot 8 (byte "d") (filled_at w c)) d
      → FillIs w 15 (fill_all slot 1 (bytes "ymwd") (filled 0 (drop at w))) d
  unfolding fill_all
  dates_filled d f g h k =
      record { is = rw (← f.is, ← g.is, ← h.is) k.is; inside = k.inside; few = let i = f.few in let j = g.few in let l = h.few in let m = k.few in omega arith }

  pub times_filled : FillIs w 16 (fill slot 16 (byte "h") (filled 0 (drop at w))) a
      → FillIs w (a.flag + 32) (fill slot 32 (byte "m") (filled_at w a)) b
      → FillIs w (b.flag + 64) (fill slot 64 (byte "s") (filled_at w b)) c
      → FillIs w 112 (fill_all slot 16 (bytes "hms") (filled 0 (drop at w))) c
  unfolding fill_all
  times_filled f g h =
      record { is = rw (← f.is, ← g.is) h.is; inside = h.inside; few = let i = f.few in let j = g.few in let l = h.few in omega arith }

-- behind T
module _ (slot : ℕ → List ℕ → ℕ) (w : List ℕ) (at flag : ℕ) (x : Slots)
    (q : FillIs w 112 (fill_all slot 16 (bytes "hms") (filled 0 (drop at w))) x) where
  pub time_left : x.at < length w → FlagIs (behind_time slot flag (drop at w)) None
  unfolding behind_time
  time_left l =
      let e = length-drop x.at w in
      record { is = rw (← q.is, ne_eqb (length (drop x.at w)) 0 (λ z. omega arith)) refl; few = tt }

  module _ (l : length w ≤ x.at) where
    at_end_lem : eqb (length (drop x.at w)) 0 ≡ true
    at_end_lem = let e = length-drop x.at w in eq-eqb (length (drop x.at w)) 0 (omega arith)

    pub time_none : x.flag < 1 → FlagIs (behind_time slot flag (drop at w)) None
    unfolding behind_time
    time_none k = record { is = rw (← q.is, at_end_lem, lt-leb 1 x.flag k) refl; few = tt }

    pub time_some : 1 ≤ x.flag → flag ≤ 15 → FlagIs (behind_time slot flag (drop at w)) (Some (flag + x.flag))
    unfolding behind_time
    time_some k f =
        record {
          is = rw (← q.is, at_end_lem, le-leb 1 x.flag k) (above_some (flag + x.flag) (λ z. omega arith));
          few = let m = q.few in omega arith;
        }

-- P and slots
module _ (slot : ℕ → List ℕ → ℕ) (w : List ℕ) where
  pub slots_empty : length w ≡ 0 → FlagIs (slots_of slot w) None
  unfolding slots_of
  slots_empty e = record { is = no_byte w e; few = tt }
    where
      no_byte : (v : List ℕ) → length v ≡ 0 → None ≡ unless_zero (slots_of slot v)
      no_byte [] e = refl
      no_byte (b ∷ v) e = absurd (omega arith)

  pub slots_other : (byte_at w 0 ≡ byte "P" → ⊥) → FlagIs (slots_of slot w) None
  unfolding slots_of
  slots_other n = record { is = rw (ne_eqb (byte_at w 0) (byte "P") n) refl; few = tt }

  module _ (x : Slots) (p : byte_at w 0 ≡ byte "P")
      (q : FillIs w 15 (fill_all slot 1 (bytes "ymwd") (filled 0 (drop 1 w))) x) where
    opened : slots_of slot w ≡ behind_date slot (filled_at w x)
    unfolding slots_of
    opened = rw (eq-eqb (byte_at w 0) (byte "P") p, ← q.is) refl

    pub slots_end : (r : Option ℕ) → x.at ≡ length w → FlagIs x.flag r → FlagIs (slots_of slot w) r
    unfolding behind_date
    slots_end r e k =
        let d = length-drop x.at w in
        record { is = rw (opened, eq-eqb (length (drop x.at w)) 0 (omega arith)) k.is; few = k.few }

    module _ (n : x.at ≡ length w → ⊥) where
      unended : behind_date slot (filled_at w x)
          ≡ cond (eqb (byte_at w x.at) (byte "T")) (behind_time slot x.flag (drop (x.at + 1) w)) 0
      unfolding behind_date
      unended =
          let d = length-drop x.at w in
          let i = q.inside in
          rw (ne_eqb (length (drop x.at w)) 0 (λ z. omega arith), drop-drop, drop_in w x.at (omega arith)) refl

      pub slots_not_time : (byte_at w x.at ≡ byte "T" → ⊥) → FlagIs (slots_of slot w) None
      slots_not_time m = record { is = rw (opened, unended, ne_eqb (byte_at w x.at) (byte "T") m) refl; few = tt }

      pub slots_time : (r : Option ℕ) → byte_at w x.at ≡ byte "T"
          → FlagIs (behind_time slot x.flag (drop (x.at + 1) w)) r
          → FlagIs (slots_of slot w) r
      slots_time r e k = record { is = rw (opened, unended, eq-eqb (byte_at w x.at) (byte "T") e) k.is; few = k.few }

pub ruleset of_letters = (letter_none, letter_here, letter_other)

pub ruleset of_digits = (digit_few, digit_many, digit_ended, digit_letter, digit_other)

pub ruleset of_fills = (fill_some, fill_none)

pub ruleset of_times = (time_left, time_none, time_some)

pub ruleset of_slots = (slots_empty, slots_other, slots_end, slots_not_time, slots_time)
