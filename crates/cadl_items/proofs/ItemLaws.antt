-- Items by twos in the scratch: what a store changes, and lists of items that grow at their end. Assumes nothing.
use mathlib.Core.Path.{◌≡◌, refl, ◌∙◌}
use mathlib.Core.Bool.{Bool, true, false, cond}
use mathlib.Core.List.{List, [], ◌∷◌, ◌++◌}
use Prim.Native.Nat.{ℕ, zero, suc, ◌+◌, ◌*◌, ◌<◌}
use native.Mathlib.Omega.{arith}
use native.Mathlib.Numerals.{add-one}
use lib.Dec.{eqb}
use borrow.Author.Tests.{ne_eqb, eqb-false}
use lib.ListN.{length, set, length-set}
use lib.Seq.{get_or-set_same, get_or-set_other}
use Rattle.refusals.specs.Limits.{item_limit, record_limit}
use Rattle.refusals.specs.Reading.{Reading, refused, got, refuse, read_then, read_unless}
use Rattle.refusals.specs.Refusals.{refusal}
use Rattle.refusals.specs.declared.Cause.TheVariants.{TooManyItems, TooManyRecords}
use Rattle.refusals.specs.declared.Refusal.{Refusal}
use Rattle.std.specs.declared.result.Result.{Result}
use Rattle.std.specs.declared.result.Result.TheVariants.{Ok, Err}
use Rattle.cadl_items.specs.Clauses.Spans.{with_item, first_of, second_of, latest}
use Rattle.cadl_items.specs.Clauses.Answers.{items_from}
use Rattle.cadl_items.specs.Clauses.Items.{Kept, roomy, record_left, room_left}

-- a store puts both numbers of an item, and no item before it changes
module _ (scratch : List ℕ) (i a b : ℕ) (room : 2 * i + 1 < length scratch) where
  pub item_first : first_of (with_item scratch i a b) i ≡ a
  item_first = get_or-set_other (set scratch (2 * i) a) (2 * i + 1) (2 * i) b 0 (λ e. omega arith) ∙ get_or-set_same scratch (2 * i) a 0 (omega arith)

  pub item_second : second_of (with_item scratch i a b) i ≡ b
  item_second = get_or-set_same (set scratch (2 * i) a) (2 * i + 1) b 0 (rw length-set (omega arith))

pub item_kept : (scratch : List ℕ) (i a b : ℕ) → Kept i scratch (with_item scratch i a b)
item_kept scratch i a b = record {
  same = λ j l. get_or-set_other (set scratch (2 * i) a) (2 * i + 1) j b 0 (λ e. omega arith) ∙ get_or-set_other scratch (2 * i) j a 0 (λ e. omega arith);
}

pub all_kept : (scratch : List ℕ) (i : ℕ) → Kept i scratch scratch
all_kept scratch i = record { same = λ j l. refl }

module _ (count : ℕ) (before after : List ℕ) (k : Kept count before after) (i : ℕ) (l : i < count) where
  pub first_kept : first_of after i ≡ first_of before i
  first_kept = k.same (2 * i) (omega arith)

  pub second_kept : second_of after i ≡ second_of before i
  second_kept = k.same (2 * i + 1) (omega arith)

module _ {A : Type 0} where
  -- one more item, the latest first
  pub latest_more : (f : ℕ → A) (n : ℕ) → latest f 0 (n + 1) ≡ f n ∷ latest f 0 n
  unfolding latest
  latest_more f n = let z : 0 + n ≡ n = omega arith in rw (add-one, z)

  pub latest_same : (f g : ℕ → A) (n : ℕ) → ((j : ℕ) → j < n → f j ≡ g j) → latest f 0 n ≡ latest g 0 n
  unfolding latest
  latest_same f g zero h = refl
  latest_same f g (suc n) h =
      let a = h n (omega arith) in
      let b = latest_same f g n (λ j l. h j (omega arith)) in
      let z : 0 + n ≡ n = omega arith in
      rw (z, a, b)

  -- one more item, the earliest first
  items_more : (f : ℕ → ℕ → A) (number i n : ℕ)
      → items_from f number i (n + 1) ≡ items_from f number i n ++ (f (number + n) (i + n) ∷ [])
  unfolding items_from
  items_more f number i zero = let a : number + 0 ≡ number = omega arith in let b : i + 0 ≡ i = omega arith in rw (a, b)
  items_more f number i (suc n) =
      let h = items_more f (number + 1) (i + 1) n in
      let a : number + suc n ≡ number + 1 + n = omega arith in
      let b : i + suc n ≡ i + 1 + n = omega arith in
      let d : suc n + 1 ≡ suc (n + 1) = omega arith in
      rw (d, a, b, h)

  pub items_last : (f : ℕ → ℕ → A) (number n : ℕ)
      → items_from f number 0 (n + 1) ≡ items_from f number 0 n ++ (f (number + n) n ∷ [])
  items_last f number n = let z : 0 + n ≡ n = omega arith in rw z at (items_more f number 0 n)

  pub items_same : (f g : ℕ → ℕ → A) (number i n : ℕ) → ((m j : ℕ) → j < i + n → f m j ≡ g m j)
      → items_from f number i n ≡ items_from g number i n
  unfolding items_from
  items_same f g number i zero h = refl
  items_same f g number i (suc n) h =
      let a = h number i (omega arith) in
      let b = items_same f g (number + 1) (i + 1) n (λ m j l. h m j (omega arith)) in
      rw (a, b)

  -- the first token of an item, and the rest of the list, where there is room and where there is none
  module _ {B : Type 0} (place : A → ℕ) (number count : ℕ) (go : A → ℕ → Reading B) where
    pub roomy_none : (r : Reading A) → eqb count item_limit ≡ true
        → read_then (roomy place number count r) go ≡ read_then r (λ x p. refuse TooManyItems (place x))
    unfolding roomy
    roomy_none (refused x) e = refl
    roomy_none (got x p) e = rw e

    pub roomy_some : (r : Reading A) → eqb count item_limit ≡ false
        → read_then (roomy place number count r) go
        ≡ read_then r (λ x p. read_unless (eqb number record_limit) TooManyRecords (place x) (go x p))
    unfolding roomy
    roomy_some (refused x) e = refl
    roomy_some (got x p) e = rw e (by (eqb number record_limit))
      where
        by : (b : Bool)
            → read_then (cond b (refuse TooManyRecords (place x)) (got x p)) go
            ≡ cond b (refuse TooManyRecords (place x)) (go x p)
        by true = refl
        by false = refl

  -- the answer about the room, as the definitions' reading of an item's first token
  module _ (place : A → ℕ) (number count : ℕ) (x : A) (p : ℕ) where
    pub roomy_full : (y : Refusal) → Err y ≡ room_left number count (place x) → refused y ≡ roomy place number count (got x p)
    unfolding roomy
    roomy_full y e = by (eqb count item_limit) (eqb number record_limit) e
      where
        by : (a b : Bool)
            → ◌≡◌ {A = Result (Unit {0}) Refusal} (Err y) (cond a (Err (refusal TooManyItems (place x))) (cond b (Err (refusal TooManyRecords (place x))) (Ok tt)))
            → refused y ≡ read_unless a TooManyItems (place x) (read_unless b TooManyRecords (place x) (got x p))
        by true b e = cc
        by false true e = cc
        by false false e = let z : ◌≡◌ {A = ℕ} 0 1 = cc in absurd (omega arith)

    pub roomy_there : (count ≡ item_limit → ⊥) → (number ≡ record_limit → ⊥) → got x p ≡ roomy place number count (got x p)
    unfolding roomy
    roomy_there n k = rw (ne_eqb count item_limit n, ne_eqb number record_limit k)

-- room that is left for one more record
module _ (number place : ℕ) where
  pub no_record : {B : Type 0} (y : Refusal) → Err y ≡ record_left number place → (r : Reading B)
      → refused y ≡ read_unless (eqb number record_limit) TooManyRecords place r
  no_record y e r = by (eqb number record_limit) e
    where
      by : (b : Bool) → ◌≡◌ {A = Result (Unit {0}) Refusal} (Err y) (cond b (Err (refusal TooManyRecords place)) (Ok tt))
          → refused y ≡ read_unless b TooManyRecords place r
      by true e = cc
      by false e = let z : ◌≡◌ {A = ℕ} 0 1 = cc in absurd (omega arith)

  pub record_there : (u : Unit {0}) → Ok u ≡ record_left number place → number ≡ record_limit → ⊥
  record_there u e = by (eqb number record_limit) refl e
    where
      by : (b : Bool) → eqb number record_limit ≡ b
          → ◌≡◌ {A = Result (Unit {0}) Refusal} (Ok u) (cond b (Err (refusal TooManyRecords place)) (Ok tt)) → number ≡ record_limit → ⊥
      by true k e = let z : ◌≡◌ {A = ℕ} 0 1 = cc in absurd (omega arith)
      by false k e = eqb-false number record_limit k

-- and for one more item
module _ (number count place : ℕ) (u : Unit {0}) (e : Ok u ≡ room_left number count place) where
  left : (b : Bool) → eqb count item_limit ≡ b
      → ◌≡◌ {A = Result (Unit {0}) Refusal} (Ok u) (cond b (Err (refusal TooManyItems place)) (record_left number place))
      → (count ≡ item_limit → ⊥) × (number ≡ record_limit → ⊥)
  left true k e = let z : ◌≡◌ {A = ℕ} 0 1 = cc in absurd (omega arith)
  left false k e = (eqb-false count item_limit k, record_there number place u e)

  pub item_left : count ≡ item_limit → ⊥
  item_left = (left (eqb count item_limit) refl e).0

  pub number_left : number ≡ record_limit → ⊥
  number_left = (left (eqb count item_limit) refl e).1
