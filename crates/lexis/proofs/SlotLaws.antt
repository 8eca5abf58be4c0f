-- A walk over slots fills those that the rules find, and no others. Assumes nothing.
use mathlib.Core.Path.{◌≡◌, refl, sym, ap, ◌∙◌, subst}
use mathlib.Core.Logic.{◌≢◌, ◌↔◌}
use mathlib.Core.Bool.{true, false, ◌&&◌}
use mathlib.Core.List.{List, [], ◌∷◌, ◌++◌, append-nil, append_assoc}
use Prim.Native.Nat.{ℕ, suc, ◌+◌, ◌*◌, ◌≤◌}
use native.Mathlib.Omega.{arith}
use lib.Dec.{eqb, leb, eqb-suc-zero}
use lib.ListN.{length, drop}
use lib.Seq.{drop-append_seam}
use borrow.Author.Tests.{eqb-true, eqb-false, ne_eqb, leb-true, le-leb}
use Rattle.lexis.specs.Text.{byte, bytes}
use Rattle.lexis.specs.Runs.{byte_at}
use Rattle.lexis.specs.SpellingRules.{Small}
use Rattle.lexis.specs.SpellingRules
use Rattle.lexis.specs.Durations.{Filled, filled, fill, fill_all, none_left, behind_time, behind_date, slots_of}
use Rattle.lexis.specs.DurationRules.{SlotsInOrder, SlotsBehindP}
use Rattle.lexis.specs.DurationRules
use Rattle.lexis.proofs.Cases.{by_cond, and_left, and_right}

-- what stands behind slots: the end, or T
pub data Stop : List ℕ → Type 0 where
  ended : Stop []
  time_follows : (bs : List ℕ) → Stop (byte "T" ∷ bs)

-- how slots are read, and what they are: a slot that is read is one; one that stands there is read, and no other letter's is
pub record SlotsRead (slot : ℕ → List ℕ → ℕ) (Slot : ℕ → List ℕ → Type 0) : Type 0 where
  pub took : (letter : ℕ) (bs : List ℕ) → slot letter bs ≢ 0
      → (v : List ℕ) × (rest : List ℕ) × (bs ≡ v ++ rest) × (slot letter bs ≡ length v) × Slot letter v
  pub there : (letter : ℕ) (v rest : List ℕ) → Small letter → Slot letter v
      → (slot letter (v ++ rest) ≡ length v) × (length v ≢ 0)
  pub apart : (letter other : ℕ) (v rest : List ℕ) → Small letter → Small other → eqb letter other ≡ false
      → Slot other v → slot letter (v ++ rest) ≡ 0
  pub stops : (letter : ℕ) (rest : List ℕ) → Small letter → Stop rest → slot letter rest ≡ 0

-- small letters, none of them twice
abbrev pub Fresh : ℕ → List ℕ → Type 0
Fresh letter [] = Unit {0}
Fresh letter (other ∷ letters) = (eqb letter other ≡ false) × Fresh letter letters

abbrev pub Letters : List ℕ → Type 0
Letters [] = Unit {0}
Letters (letter ∷ letters) = Small letter × Fresh letter letters × Letters letters

-- what a walk from x on has come to
pub record Walked (Slot : ℕ → List ℕ → Type 0) (bit : ℕ) (letters : List ℕ) (x y : Filled) : Type 0 where
  pub word : List ℕ
  pub flag : ℕ
  pub slots : SlotsInOrder Slot bit letters word flag
  pub rest : x.rest ≡ word ++ y.rest
  pub sum : y.flag ≡ x.flag + flag

-- the letters before T and behind it are such
date_letters : Letters (bytes "ymwd")
date_letters = (
  SpellingRules.small (omega arith) (omega arith),
  (refl, (refl, (refl, tt))),
  (
    SpellingRules.small (omega arith) (omega arith),
    (refl, (refl, tt)),
    (
      SpellingRules.small (omega arith) (omega arith),
      (refl, tt),
      (SpellingRules.small (omega arith) (omega arith), tt, tt),
    ),
  ),
)

time_letters : Letters (bytes "hms")
time_letters = (
  SpellingRules.small (omega arith) (omega arith),
  (refl, (refl, tt)),
  (
    SpellingRules.small (omega arith) (omega arith),
    (refl, tt),
    (SpellingRules.small (omega arith) (omega arith), tt, tt),
  ),
)

no_bytes : (bs : List ℕ) → eqb (length bs) 0 ≡ true → bs ≡ []
no_bytes [] h = refl
no_bytes (b ∷ bs) h = absurd (omega (arith, eqb-true (suc (length bs)) 0 h))

-- one slot at least
pub slots_some : {Slot : ℕ → List ℕ → Type 0} {w : List ℕ} {f : ℕ} → SlotsBehindP Slot w f → f ≢ 0
slots_some (DurationRules.dates k n) = n
slots_some (DurationRules.times k l n) = λ z. n (omega arith)

module _ (slot : ℕ → List ℕ → ℕ) (Slot : ℕ → List ℕ → Type 0) (law : SlotsRead slot Slot) where
  -- a walk fills slots in their order
  walked : (letters : List ℕ) (bit : ℕ) (x : Filled) → Walked Slot bit letters x (fill_all slot bit letters x)
  unfolding fill_all fill
  walked [] bit x = record { word = []; flag = 0; slots = DurationRules.none; rest = refl; sum = omega arith }
  walked (letter ∷ letters) bit x =
      by_cond (λ (z : Filled). Walked Slot bit (letter ∷ letters) x (fill_all slot (bit * 2) letters z)) (eqb (slot letter x.rest) 0)
      (λ e. passed (walked letters (bit * 2) x))
      (λ e. taken (λ z. walked letters (bit * 2) z) (law.took letter x.rest (eqb-false _ 0 e)))
    where
      passed : Walked Slot (bit * 2) letters x (fill_all slot (bit * 2) letters x)
          → Walked Slot bit (letter ∷ letters) x (fill_all slot (bit * 2) letters x)
      passed k = record { word = k.word; flag = k.flag; slots = DurationRules.left_out k.slots; rest = k.rest; sum = k.sum }

      taken : ((z : Filled) → Walked Slot (bit * 2) letters z (fill_all slot (bit * 2) letters z))
          → (v : List ℕ) × (rest : List ℕ) × (x.rest ≡ v ++ rest) × (slot letter x.rest ≡ length v) × Slot letter v
          → Walked Slot bit (letter ∷ letters) x (fill_all slot (bit * 2) letters (filled (x.flag + bit) (drop (slot letter x.rest) x.rest)))
      taken again (v, rest, e, n, h) =
          let d : drop (slot letter x.rest) x.rest ≡ rest = rw (n, e, drop-append_seam) in
          let k = again (filled (x.flag + bit) rest) in
          let sum = k.sum in
          rw d (record {
            word = v ++ k.word;
            flag = bit + k.flag;
            slots = DurationRules.filled h k.slots;
            rest = e ∙ (ap (λ (l : List ℕ). v ++ l) k.rest ∙ sym (append_assoc v k.word _));
            sum = omega arith;
          })

  -- where other letters' slots stand, or none, the letter's does not
  absent : {bit flag : ℕ} {letters w : List ℕ} → (letter : ℕ) (rest : List ℕ) → Small letter → Fresh letter letters
      → Letters letters → Stop rest → SlotsInOrder Slot bit letters w flag → slot letter (w ++ rest) ≡ 0
  absent letter rest c f l t DurationRules.none = law.stops letter rest c t
  absent letter rest c f l t (DurationRules.left_out k) = absent letter rest c f.1 l.2 t k
  absent letter rest c f l t (DurationRules.filled {letter = other} {v = v} {w = w} h k) =
      rw (append_assoc v w rest) (law.apart letter other v (w ++ rest) c l.0 f.0 h)

  -- slots in their order are filled
  walks : {bit flag : ℕ} {letters w : List ℕ} → (rest : List ℕ) (n : ℕ) → Letters letters → Stop rest
      → SlotsInOrder Slot bit letters w flag → fill_all slot bit letters (filled n (w ++ rest)) ≡ filled (n + flag) rest
  unfolding fill_all fill
  walks rest n l t DurationRules.none = let e : n + 0 ≡ n = omega arith in rw e refl
  walks rest n l t (DurationRules.left_out k) =
      rw (absent _ rest l.0 l.1 l.2 t k) (walks rest n l.2 t k)
  walks rest n l t (DurationRules.filled {bit = bit} {letter = letter} {flag = flag} {v = v} {w = w} h k) =
      let e = law.there letter v (w ++ rest) l.0 h in
      let a : n + bit + flag ≡ n + (bit + flag) = omega arith in
      rw (append_assoc v w rest, e.0, ne_eqb (length v) 0 e.1, drop-append_seam, ← a) (walks rest (n + bit) l.2 t k)

  from_start : {bit flag : ℕ} {letters w : List ℕ} → (rest : List ℕ) → Letters letters → Stop rest
      → SlotsInOrder Slot bit letters w flag → fill_all slot bit letters (filled 0 (w ++ rest)) ≡ filled flag rest
  from_start {flag = flag} rest l t k = let a : 0 + flag ≡ flag = omega arith in rw a at (walks rest 0 l t k)

  -- what a walk behind T finds
  time_of_lem : (flag : ℕ) (bs : List ℕ) (f : ℕ) → behind_time slot flag bs ≡ f → f ≢ 0
      → (time : ℕ) × SlotsInOrder Slot 16 (bytes "hms") bs time × (time ≢ 0) × (f ≡ flag + time)
  unfolding behind_time
  time_of_lem flag bs f e n =
      let y = fill_all slot 16 (bytes "hms") (filled 0 bs) in
      by_cond (λ (k : ℕ). k ≡ f → (time : ℕ) × SlotsInOrder Slot 16 (bytes "hms") bs time × (time ≢ 0) × (f ≡ flag + time)) (none_left y && leb 1 y.flag)
      (λ h g. found (walked (bytes "hms") 16 (filled 0 bs)) (no_bytes y.rest (and_left (none_left y) (leb 1 y.flag) h)) (leb-true 1 y.flag (and_right (none_left y) (leb 1 y.flag) h)) (sym g))
      (λ h g. absurd (n (sym g)))
      e
    where
      found : Walked Slot 16 (bytes "hms") (filled 0 bs) (fill_all slot 16 (bytes "hms") (filled 0 bs))
          → (fill_all slot 16 (bytes "hms") (filled 0 bs)).rest ≡ []
          → 1 ≤ (fill_all slot 16 (bytes "hms") (filled 0 bs)).flag
          → f ≡ flag + (fill_all slot 16 (bytes "hms") (filled 0 bs)).flag
          → (time : ℕ) × SlotsInOrder Slot 16 (bytes "hms") bs time × (time ≢ 0) × (f ≡ flag + time)
      found k r l g =
          let s = k.sum in
          let w : bs ≡ k.word = rw (r, append-nil k.word) at k.rest in
          (k.flag, rw w k.slots, λ z. omega arith, omega arith)

  -- what a walk behind P finds
  date_of_lem : (bs : List ℕ) (f : ℕ) → behind_date slot (fill_all slot 1 (bytes "ymwd") (filled 0 bs)) ≡ f → f ≢ 0
      → SlotsBehindP Slot (byte "P" ∷ bs) f
  unfolding behind_date
  date_of_lem bs f e n =
      let x = fill_all slot 1 (bytes "ymwd") (filled 0 bs) in
      let k = walked (bytes "ymwd") 1 (filled 0 bs) in
      by_cond (λ (m : ℕ). m ≡ f → SlotsBehindP Slot (byte "P" ∷ bs) f) (none_left x)
      (λ h g. alone k (no_bytes x.rest h) g)
      (λ h. by_cond (λ (m : ℕ). m ≡ f → SlotsBehindP Slot (byte "P" ∷ bs) f) (eqb (byte_at x.rest 0) (byte "T"))
      (λ i g. timed k (first x.rest (eqb-true _ _ i)) (time_of_lem x.flag (drop 1 x.rest) f g n))
      (λ i g. absurd (n (sym g))))
      e
    where
      first : (l : List ℕ) → byte_at l 0 ≡ byte "T" → l ≡ byte "T" ∷ drop 1 l
      first [] i = absurd (omega (arith, i))
      first (b ∷ l) i = λ j. i j ∷ l

      alone : Walked Slot 1 (bytes "ymwd") (filled 0 bs) (fill_all slot 1 (bytes "ymwd") (filled 0 bs))
          → (fill_all slot 1 (bytes "ymwd") (filled 0 bs)).rest ≡ []
          → (fill_all slot 1 (bytes "ymwd") (filled 0 bs)).flag ≡ f
          → SlotsBehindP Slot (byte "P" ∷ bs) f
      alone k r g =
          let s = k.sum in
          let w : bs ≡ k.word = rw (r, append-nil k.word) at k.rest in
          let z : f ≡ k.flag = omega arith in
          rw (w, z) (DurationRules.dates k.slots (λ i. n (z ∙ i)))

      timed : Walked Slot 1 (bytes "ymwd") (filled 0 bs) (fill_all slot 1 (bytes "ymwd") (filled 0 bs))
          → (fill_all slot 1 (bytes "ymwd") (filled 0 bs)).rest
          ≡ byte "T" ∷ drop 1 (fill_all slot 1 (bytes "ymwd") (filled 0 bs)).rest
          → (time : ℕ) × SlotsInOrder Slot 16 (bytes "hms") (drop 1 (fill_all slot 1 (bytes "ymwd") (filled 0 bs)).rest) time
          × (time ≢ 0) × (f ≡ (fill_all slot 1 (bytes "ymwd") (filled 0 bs)).flag + time)
          → SlotsBehindP Slot (byte "P" ∷ bs) f
      timed k r (time, slots, m, g) =
          let s = k.sum in
          let w : bs ≡ k.word ++ (byte "T" ∷ drop 1 (fill_all slot 1 (bytes "ymwd") (filled 0 bs)).rest) =
          k.rest ∙ ap (λ (l : List ℕ). k.word ++ l) r in
          let z : f ≡ k.flag + time = omega arith in
          subst (λ (l : List ℕ). SlotsBehindP Slot (byte "P" ∷ l) f) (sym w) (rw z (DurationRules.times k.slots slots m))

  -- the walk finds what the rules say
  found_slots : (w : List ℕ) (f : ℕ) → slots_of slot w ≡ f → f ≢ 0 → SlotsBehindP Slot w f
  unfolding slots_of
  found_slots [] f e n = absurd (n (sym e))
  found_slots (b ∷ bs) f e n =
      by_cond (λ (m : ℕ). m ≡ f → SlotsBehindP Slot (b ∷ bs) f) (eqb b (byte "P"))
      (λ h g. subst (λ (i : ℕ). SlotsBehindP Slot (i ∷ bs) f) (sym (eqb-true b (byte "P") h)) (date_of_lem bs f g n))
      (λ h g. absurd (n (sym g)))
      e

  slots_time : (date time : ℕ) (w v : List ℕ)
      → fill_all slot 16 (bytes "hms") (filled 0 v) ≡ filled time []
      → fill_all slot 1 (bytes "ymwd") (filled 0 (w ++ (byte "T" ∷ v))) ≡ filled date (byte "T" ∷ v)
      → time ≢ 0 → slots_of slot (byte "P" ∷ (w ++ (byte "T" ∷ v))) ≡ date + time
  unfolding slots_of behind_date behind_time
  slots_time date time w v g e n = rw (e, eqb-suc-zero (length v), g, le-leb 1 time (omega arith)) refl

  -- what the rules say, the walk finds
  slots_found : {w : List ℕ} {f : ℕ} → SlotsBehindP Slot w f → slots_of slot w ≡ f
  unfolding slots_of behind_date behind_time
  slots_found (DurationRules.dates {w = w} {flag = flag} k n) =
      let e = from_start [] date_letters ended k in
      rw (append-nil w) at (ap (behind_date slot) e)
  slots_found (DurationRules.times {w = w} {v = v} {date = date} {time = time} k l n) =
      let e = from_start (byte "T" ∷ v) date_letters (time_follows v) k in
      let g = from_start [] time_letters ended l in
      slots_time date time w v (rw append-nil at g) e n

  pub slots_is : (w : List ℕ) (f : ℕ) → f ≢ 0 → (slots_of slot w ≡ f) ↔ SlotsBehindP Slot w f
  slots_is w f n = (λ e. found_slots w f e n, slots_found)
