-- Steps of the functions of the memo: bits of a byte, bits of the memo, and the chain of attributes that is marked. Assumes nothing.
use mathlib.Core.Path.{◌≡◌, refl, sym, ap, ◌∙◌}
use mathlib.Core.Bool.{Bool, true, false, not, ◌&&◌, ◌||◌, beq, false≢true}
use mathlib.Core.List.{List}
use Prim.Native.Nat.{ℕ, zero, suc, ◌+◌, ◌*◌, ◌-◌, ◌/◌, ◌%◌, ◌^◌, ◌≤◌, ◌<◌}
use native.Mathlib.Omega.{arith}
use lib.Dec.{eqb, ltb}
use lib.ListN.{length, get_or, set, get_or-eq_default}
use lib.Seq.{set_out, get_or-set_same, get_or-set_other}
use borrow.Author.Tests.{eqb-true, eqb-false, ne_eqb, ltb-true, not-true, not-false}
use Rattle.lexis.proofs.Cases.{and_left, and_right}
use Rattle.values.proofs.Common.{all_below, below, by_order}
use Rattle.table.specs.Records.{field, record_in}
use Rattle.table.specs.Clauses.Answers.{record_of}
use Rattle.table.specs.declared.records.Entry.{Entry}
use Rattle.judge_admission.specs.Clauses.Items.{Lies}
use Rattle.judge_tape.specs.Clauses.Memo.{bit_of, with_bit, marked, mark_bit, Marks, record_count, base_of, VisitOf, seen_before, admitted_in, mark_along, mark_chain, OnChain, here, later, ChainGood, Marking, before, new, ChainMarked}
use Rattle.judge_tape.specs.declared.members.Block.{Block}
use Rattle.judge_tape.specs.declared.memo.Visit.{Visit}
use Rattle.judge_admission.proofs.ItemSteps.{left}

-- of a byte and a bit: with the bit set it is a byte, and no other bit differs
abbrev bit_fits : ℕ → ℕ → Bool
bit_fits b k = bit_of b k || ltb (b + 2 ^ k) 256

abbrev bit_alone : ℕ → ℕ → Bool
bit_alone b k = bit_of (with_bit b k) k && all_below 8 (λ j. eqb j k || beq (bit_of (with_bit b k) j) (bit_of b j))

bytes_right : all_below 256 (λ b. all_below 8 (λ k. bit_fits b k && bit_alone b k)) ≡ true
bytes_right = refl

or_second : (a b : Bool) → (a || b) ≡ true → a ≡ false → b ≡ true
or_second true b h e = absurd (false≢true (sym e))
or_second false b h e = h

beq_true : (a b : Bool) → beq a b ≡ true → a ≡ b
beq_true true true h = refl
beq_true true false h = absurd (false≢true h)
beq_true false true h = absurd (false≢true h)
beq_true false false h = refl

power_fits : (k : ℕ) → k < 8 → 1 * 2 ^ k % 2 ^ 8 ≡ 2 ^ k
power_fits k l = eqb-true (1 * 2 ^ k % 2 ^ 8) (2 ^ k) (below 8 (λ i. eqb (1 * 2 ^ i % 2 ^ 8) (2 ^ i)) refl k l)

module _ (b k : ℕ) (l : b < 256) (m : k < 8) where
  byte_right_lem : (bit_fits b k && bit_alone b k) ≡ true
  byte_right_lem = below 8 (λ k. bit_fits b k && bit_alone b k) (below 256 (λ b. all_below 8 (λ k. bit_fits b k && bit_alone b k)) bytes_right b l) k m

  bit_added : bit_of b k ≡ false → b + 1 * 2 ^ k % 2 ^ 8 < 256
  bit_added h = rw (power_fits k m) (ltb-true (b + 2 ^ k) 256 (or_second (bit_of b k) (ltb (b + 2 ^ k) 256) (and_left (bit_fits b k) (bit_alone b k) byte_right_lem) h))

  bit_set : bit_of (with_bit b k) k ≡ true
  bit_set = and_left (bit_of (with_bit b k) k) _ (and_right (bit_fits b k) (bit_alone b k) byte_right_lem)

  bit_other : (j : ℕ) → j < 8 → (j ≡ k → ⊥) → bit_of (with_bit b k) j ≡ bit_of b j
  bit_other j n h =
      let t = below 8 (λ j. eqb j k || beq (bit_of (with_bit b k) j) (bit_of b j)) (and_right (bit_of (with_bit b k) k) _ (and_right (bit_fits b k) (bit_alone b k) byte_right_lem)) j n in
      beq_true (bit_of (with_bit b k) j) (bit_of b j) (or_second (eqb j k) _ t (ne_eqb j k h))

-- a byte with a bit set
module _ (b k : ℕ) (m : k < 8) (t : Bool) (e : t ≡ bit_of b k) where
  pub bit_there : t ≡ true → b ≡ with_bit b k
  bit_there h = rw (sym e ∙ h)

  pub bit_not : t ≡ false → b + 1 * 2 ^ k % 2 ^ 8 ≡ with_bit b k
  bit_not h = rw (power_fits k m, sym e ∙ h)

  pub bit_room : b < 256 → t ≡ false → b + 1 * 2 ^ k % 2 ^ 8 < 256
  bit_room l h = bit_added b k l m (sym e ∙ h)

-- a bit of the memo
pub marked_inside : (memo : List ℕ) (i : ℕ) (r : Bool) → r ≡ bit_of (get_or memo (i / 8) 0) (i % 8) → r ≡ marked memo i
unfolding marked
marked_inside memo i r e = e

pub no_bit : (k : ℕ) → k < 8 → bit_of 0 k ≡ false
no_bit k l = not-true (bit_of 0 k) (below 8 (λ i. not (bit_of 0 i)) refl k l)

pub marked_outside : (memo : List ℕ) (i : ℕ) → length memo ≤ i / 8 → false ≡ marked memo i
unfolding marked
marked_outside memo i h = rw (get_or-eq_default memo 0 {n = i / 8} h) (sym (no_bit (i % 8) (omega arith)))

-- a bit that is set, and one behind the end
pub mark_inside : (memo : List ℕ) (i b r : ℕ) → b ≡ get_or memo (i / 8) 0 → b < 256 → i / 8 < length memo
    → r ≡ with_bit b (i % 8) → Marks memo i (set memo (i / 8) r)
unfolding marked
mark_inside memo i b r eb lb li er = record {
  set = λ h. rw (get_or-set_same memo (i / 8) r 0 li, er) (bit_set b (i % 8) lb (omega arith));
  other = λ j n. by j n (eqb (j / 8) (i / 8)) refl;
}
  where
    by : (j : ℕ) → (j ≡ i → ⊥) → (t : Bool) → eqb (j / 8) (i / 8) ≡ t
        → bit_of (get_or (set memo (i / 8) r) (j / 8) 0) (j % 8) ≡ bit_of (get_or memo (j / 8) 0) (j % 8)
    by j n true e =
        let q = eqb-true (j / 8) (i / 8) e in
        rw (q, get_or-set_same memo (i / 8) r 0 li, er, ← eb) (bit_other b (i % 8) lb (omega arith) (j % 8) (omega arith) (λ z. n (omega arith)))
    by j n false e = rw (get_or-set_other memo (i / 8) (j / 8) r 0 (eqb-false (j / 8) (i / 8) e))

pub mark_outside : (memo : List ℕ) (i : ℕ) → length memo ≤ i / 8 → Marks memo i memo
mark_outside memo i h = record { set = λ k. absurd (omega arith); other = λ j n. refl }

pub bit_inside : (memo : List ℕ) (i b r : ℕ) → b ≡ get_or memo (i / 8) 0 → r ≡ with_bit b (i % 8)
    → set memo (i / 8) r ≡ mark_bit memo i
unfolding mark_bit
bit_inside memo i b r eb er = rw (er, eb)

pub bit_outside : (memo : List ℕ) (i : ℕ) → length memo ≤ i / 8 → memo ≡ mark_bit memo i
unfolding mark_bit
bit_outside memo i h = sym (set_out memo (i / 8) _ h)

-- a visit
pub base_fits : (records : List ℕ) (b : Block) (count : ℕ) → count ≡ record_count records → base_of records b ≤ 8_388_608
    → b.first * count < 2 ^ 64
base_fits records b count e h = rw e (omega arith)

pub seen_outermost : (records memo : List ℕ) (b : Block) → b.first ≡ 0 → false ≡ seen_before records memo b
unfolding seen_before
seen_outermost records memo b z = rw z

module _ (records : List ℕ) (b : Block) (count base : ℕ) (ec : count ≡ record_count records)
    (eb : base ≡ b.first * count) (small : base_of records b ≤ 8_388_608) where
  base_is : base ≡ base_of records b
  base_is = eb ∙ ap (λ c. b.first * c) ec

  pub base_near : base ≤ 8_388_608
  base_near = rw base_is small

  pub visit_outermost : VisitOf records b (record { base = base; again = false })
  visit_outermost = record { base = base_is; small = base_near; again = λ h. absurd (false≢true h) }

  pub visit_row : (seen : Bool) → (b.first ≡ 0 → ⊥) → VisitOf records b (record { base = base; again = seen })
  visit_row seen z = record { base = base_is; small = base_near; again = λ h. omega arith }

  pub seen_row : (memo : List ℕ) (p : ℕ) → p ≡ base + 0 → (seen : Bool) → seen ≡ marked memo p → (b.first ≡ 0 → ⊥)
      → seen ≡ seen_before records memo b
  unfolding seen_before
  seen_row memo p e seen h z = let q = base_is in let f : p ≡ base_of records b = omega arith in rw (ne_eqb b.first 0 z, ← f) h

  pub visit_bit : (p : ℕ) → p ≡ base + 0 → (memo after : List ℕ) → after ≡ mark_bit memo p
      → after ≡ mark_bit memo (base_of records b)
  visit_bit p e memo after m = let q = base_is in let f : p ≡ base_of records b = omega arith in rw f at m

  pub visit_marks : (p : ℕ) → p ≡ base + 0 → (memo after : List ℕ) → Marks memo p after
      → Marks memo (base_of records b) after
  visit_marks p e memo after m = let q = base_is in let f : p ≡ base_of records b = omega arith in rw f at m

-- the test of an attribute
module _ (memo : List ℕ) (v : Visit) (n : ℕ) where
  pub none_left : n ≡ 0 → true ≡ admitted_in memo v n
  none_left h = rw h

  module _ (z : n ≡ 0 → ⊥) where
    pub visit_again : v.again ≡ true → (p : ℕ) → p ≡ v.base + n → (r : Bool) → r ≡ marked memo p
        → r ≡ admitted_in memo v n
    visit_again a p q r e = rw (ne_eqb n 0 z, a, ← q) e

    pub visit_first : v.again ≡ false → false ≡ admitted_in memo v n
    visit_first a = rw (ne_eqb n 0 z, a)

-- marking a chain: at attribute n of those from `first` on, with fuel for those that are left
pub record InChain (records start : List ℕ) (v : Visit) (first : ℕ) (memo : List ℕ) (n : ℕ) : Type 0 where
  pub good : ChainGood records first
  pub small : v.base ≤ 8_388_608
  pub same : length memo ≡ length start
  pub inside : (k : ℕ) → OnChain records k n → OnChain records k first
  pub marked : ChainMarked records start v.base first memo
  pub fuel : ℕ
  pub enough : 0 < n → record_count records ≤ n + fuel
  pub is : mark_along records v fuel n memo ≡ mark_chain records v first start

pub chain_none : (records memo : List ℕ) (base first : ℕ) → ChainMarked records memo base first memo
chain_none records memo base first = record { each = λ j h. before h }

pub chain_first : (records memo : List ℕ) (v : Visit) (first : ℕ) → not v.again ≡ true
    → memo ≡ mark_chain records v first memo
chain_first records memo v first h = rw (not-true v.again h)

pub chain_start : (records memo : List ℕ) (v : Visit) (first : ℕ) → ChainGood records first → v.base ≤ 8_388_608
    → not v.again ≡ false → InChain records memo v first memo first
chain_start records memo v first g s h = record {
  good = g;
  small = s;
  same = refl;
  inside = λ k h. h;
  marked = chain_none records memo v.base first;
  fuel = record_count records;
  enough = λ z. omega arith;
  is = rw (not-false v.again h);
}

-- an attribute that is not marked is no 0
pub left_some : (memo : List ℕ) (v : Visit) (n : ℕ) (r : Bool) → r ≡ admitted_in memo v n → not r ≡ true → 0 < n
left_some memo v zero r e h = absurd (false≢true (sym (not-true r h) ∙ e))
left_some memo v (suc n) r e h = omega arith

-- where one is admitted, the chain is marked
along_end : (records memo : List ℕ) (v : Visit) (fuel n : ℕ) → admitted_in memo v n ≡ true
    → mark_along records v fuel n memo ≡ memo
unfolding mark_along
along_end records memo v zero n h = refl
along_end records memo v (suc fuel) n h = rw h

along_next : (records memo : List ℕ) (v : Visit) (fuel n : ℕ) → 0 < fuel → admitted_in memo v n ≡ false
    → mark_along records v (fuel - 1) (field (record_in records n) 3) (mark_bit memo (v.base + n))
    ≡ mark_along records v fuel n memo
unfolding mark_along
along_next records memo v zero n p h = absurd (omega arith)
along_next records memo v (suc fuel) n p h = let s : suc fuel - 1 ≡ fuel = omega arith in rw (h, s)

module _ (records start : List ℕ) (v : Visit) (first : ℕ) (memo : List ℕ) (n : ℕ)
    (i : InChain records start v first memo n) (r : Bool) (e : r ≡ admitted_in memo v n) where
  pub chain_end : not r ≡ false → memo ≡ mark_chain records v first start
  chain_end h = sym (along_end records memo v i.fuel n (sym e ∙ not-false r h)) ∙ i.is

  module _ (h : not r ≡ true) where
    at_chain : OnChain records n first
    at_chain = i.inside n (here (left_some memo v n r e h))

    pub chain_lies : Lies records n
    chain_lies = i.good.lies n at_chain

    module _ (x : Entry) (q : record_of x ≡ record_in records n) where
      chain_up : 0 < x.d → n < x.d
      chain_up = rw (← q) at (i.good.up n at_chain)

      pub chain_less : left records x.d < left records n
      chain_less =
          let l = chain_lies in
          let z = left_some memo v n r e h in
          rw (ne_eqb n 0 (λ y. omega arith))
          (by_order x.d 0
          (λ k. let y : x.d ≡ 0 = omega arith in rw y (omega arith))
          (λ k. let u = chain_up k in rw (ne_eqb x.d 0 (λ y. omega arith)) (omega arith)))

      pub chain_next : (p : ℕ) → p ≡ v.base + n → (after : List ℕ) → length after ≡ length memo
          → after ≡ mark_bit memo p → Marks memo p after → InChain records start v first after x.d
      chain_next p ep after el ea m = record {
        good = i.good;
        small = i.small;
        same = el ∙ i.same;
        inside = λ k o. i.inside k (later n (left_some memo v n r e h) (rw (← q) o));
        marked = record { each = λ j t. by j t (eqb j p) refl };
        fuel = i.fuel - 1;
        enough = λ z. let u = chain_up z in let w = i.enough (left_some memo v n r e h) in omega arith;
        is = rw (ea, ep, ap (λ y. field y 3) q) (along_next records memo v i.fuel n some (sym e ∙ not-true r h) ∙ i.is);
      }
        where
          some : 0 < i.fuel
          some = let l = chain_lies in let w = i.enough (left_some memo v n r e h) in omega arith

          by : (j : ℕ) → marked after j ≡ true → (b : Bool) → eqb j p ≡ b → Marking records start v.base first j
          by j t true y = new n at_chain (eqb-true j p y ∙ ep)
          by j t false y = i.marked.each j (sym (m.other j (eqb-false j p y)) ∙ t)
