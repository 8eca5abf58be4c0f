-- The rules describe one table, and no other. Assumes nothing.
use mathlib.Core.Path.{◌≡◌, refl, sym, ap₂, ◌∙◌}
use mathlib.Core.Bool.{Bool}
use mathlib.Core.List.{List, [], ◌∷◌, ◌++◌}
use Prim.Native.Nat.{ℕ, zero, suc, ◌+◌, ◌*◌, ◌-◌, ◌≤◌, ◌<◌}
use native.Mathlib.Omega.{arith}
use lib.ListN.{get_or, take, drop, length-drop, take-append-drop}
use lib.Seq.{get_or-drop, take-add, ext_get_or}
use Rattle.values.proofs.Common.{by_order}
use Rattle.table.specs.Records.{Record, record_size, encode, make}
use Rattle.table.specs.TableRules.{Holds}
use Rattle.table.proofs.HoldsLaws.{byte_is_lem, byte_there}
use Rattle.table.proofs.HeldLaws.{held_is}
use Rattle.table_merge.specs.Joining.{moved}
use Rattle.table_merge.specs.Clauses.Answers.{shifts}
use Rattle.table_merge.specs.MergeRules.{Sizes, count_of, pool_of, BothTables, IsMerged}
use Rattle.table_merge.proofs.MoveRuleLaws.{moves_is, record_held}

-- records that are the same one by one are the same together
same_front : (c : ℕ) (a b : List ℕ)
    → ((n : ℕ) → n < c → take record_size (drop (record_size * n) a) ≡ take record_size (drop (record_size * n) b))
    → take (record_size * c) a ≡ take (record_size * c) b
same_front zero a b f = refl
same_front (suc c) a b f =
    let e : record_size * suc c ≡ record_size * c + record_size = omega arith in
    rw (e, take-add (record_size * c) record_size a, take-add (record_size * c) record_size b)
    (ap₂ ◌++◌ (same_front c a b (λ n l. f n (omega arith))) (f c (omega arith)))

module _ (first second : List ℕ) (little : Bool) (z : Sizes) (t : BothTables first second z) where
  -- a record is the same in whatever is written by the rules: the header, one of the first table, and one of the second
  abbrev Fixed : ℕ → Type 0
  Fixed n = (r : Record) × ((a : List ℕ) → IsMerged first second little z a → Holds a n little r)

  kept_fixed : (n : ℕ) → 1 ≤ n → n < z.count₁ → Fixed n
  kept_fixed n low below =
      let g = record_held (z.count₁ - 1) z.pool₁ (t.first.records n low below) in
      (g.this, λ a m. m.kept n g.order g.this low below g.holds)

  moved_fixed : (n : ℕ) → 1 ≤ n → n < z.count₂ → Fixed (n + (z.count₁ - 1))
  moved_fixed n low below =
      let g = record_held (z.count₁ - 1) z.pool₁ (t.second.records n low below) in
      (moved (shifts (z.count₁ - 1) z.pool₁) g.this, λ a m. let v = m.moved n g.order g.this low below g.holds in rw (moves_is v.1) at v.2)

  record_fixed : (n : ℕ) → n < count_of z → Fixed n
  record_fixed zero l = (make 0 0 (count_of z ∷ pool_of z ∷ z.root₁ ∷ []), λ a m. m.header)
  record_fixed (suc n) l =
      let some = t.first.frame.least in
      let s = z.count₁ - 1 in
      by_order z.count₁ (suc n)
      (λ behind. let i : suc n - s + s ≡ suc n = omega arith in rw i at (moved_fixed (suc n - s) (omega arith) (omega arith)))
      (kept_fixed (suc n) (omega arith))

  -- so is a byte of the pool
  byte_fixed : (k : ℕ) → k < pool_of z
      → (b : ℕ) × ((a : List ℕ) → IsMerged first second little z a → get_or a (record_size * count_of z + k) 0 ≡ b)
  byte_fixed k l =
      let e = t.first.frame.sized in
      let g = t.second.frame.sized in
      let p = z.pool₁ in
      by_order p k
      (λ behind.
      let i : p + (k - p) ≡ k = omega arith in
      let place = record_size * z.count₂ + (k - p) in
      (get_or second place 0, λ a m. byte_is_lem a (record_size * count_of z + k) _ (rw i at (m.second_pool (k - p) _ (omega arith) (byte_there second place (omega arith))))))
      (λ below.
      let place = record_size * z.count₁ + k in
      (get_or first place 0, λ a m. byte_is_lem a (record_size * count_of z + k) _ (m.first_pool k _ below (byte_there first place (omega arith)))))

  -- and the bytes of a record
  part_fixed : (a : List ℕ) → IsMerged first second little z a → (n : ℕ) (r : Record) → n < count_of z
      → Holds a n little r
      → take record_size (drop (record_size * n) a) ≡ encode little r
  part_fixed a m n r l h =
      let e = m.sized in
      held_is a n little r h (λ k i. m.bytes (record_size * n + k) _ (byte_there a (record_size * n + k) (omega arith)) (omega arith))

-- one table is written by the rules, and no other
pub one_joined : (first second : List ℕ) (little : Bool) (z : Sizes) (a b : List ℕ) → BothTables first second z
    → IsMerged first second little z a → IsMerged first second little z b → a ≡ b
one_joined first second little z a b t m o =
    let c = record_size * count_of z in
    let part = part_fixed first second little z t in
    let front : take c a ≡ take c b =
    same_front (count_of z) a b (λ n l. let r = record_fixed first second little z t n l in part a m n r.0 l (r.1 a m) ∙ sym (part b o n r.0 l (r.1 b o))) in
    let e = m.sized in
    let g = o.sized in
    let back : drop c a ≡ drop c b =
    ext_get_or 0 (drop c a) (drop c b) (rw (length-drop c a, length-drop c b) (omega arith))
    (λ k l.
    let i : k < pool_of z = omega (arith, length-drop c a) in
    let x = byte_fixed first second little z t k i in
    get_or-drop c a k 0 ∙ x.1 a m ∙ sym (get_or-drop c b k 0 ∙ x.1 b o)) in
    sym (take-append-drop c a) ∙ ap₂ ◌++◌ front back ∙ take-append-drop c b
