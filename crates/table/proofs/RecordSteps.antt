-- Records among a table's bytes: what stands at a place, and the steps of the functions that read it. Assumes nothing.
use mathlib.Core.Path.{◌≡◌, refl, ap, ◌∙◌}
use mathlib.Core.Bool.{Bool, true, false, ◌||◌}
use mathlib.Core.List.{List, [], ◌∷◌}
use Prim.Native.Nat.{ℕ, zero, suc, ◌+◌, ◌^◌, ◌≤◌, ◌<◌}
use native.Mathlib.Omega.{arith}
use lib.Dec.{eqb}
use lib.ListN.{length, get_or, take, drop}
use lib.Seq.{take-take, drop-drop, get_or-take, get_or-drop}
use borrow.Author.Tests.{eq-eqb, ne_eqb}
use Rattle.table.specs.Order.{get, put}
use Rattle.table.specs.Records.{record_size, number_size, mark, is_little, is_marked, decode}
use Rattle.table.specs.Clauses.Answers.{record_of, ordered, ordered_as}
use Rattle.table.specs.declared.records.Entry.{Entry}
use Rattle.table.proofs.OrderLaws.{get-put}
use Rattle.table.proofs.OrderSteps.{number-ordered}

-- a part that lies in the bytes taken
part_in : (k j n : ℕ) (l : List ℕ) → j + k ≤ n → take k (drop j (take n l)) ≡ take k (drop j l)
part_in k zero n l h = take-take k n l (omega arith)
part_in k (suc j) zero l h = absurd (omega arith)
part_in k (suc j) (suc n) [] h = refl
part_in k (suc j) (suc n) (x ∷ xs) h = part_in k j n xs (omega arith)

module _ (bs : List ℕ) (at : ℕ) where
  -- a record's byte, order, mark and number are those at their places in the table
  byte_in : (j : ℕ) → j < record_size → get_or (take record_size (drop at bs)) j 0 ≡ get_or bs (at + j) 0
  byte_in j h = get_or-take record_size (drop at bs) j 0 h ∙ get_or-drop at bs j 0

  little_in : is_little (take record_size (drop at bs)) ≡ is_little (drop at bs)
  little_in = ap (λ x. eqb (get true x) mark) (take-take 2 record_size (drop at bs) (omega arith))

  pub marked_in : is_marked (take record_size (drop at bs)) ≡ is_marked (drop at bs)
  marked_in = ap (λ x. eqb (get true x) mark || eqb (get false x) mark) (take-take 2 record_size (drop at bs) (omega arith))

  number_in : (little : Bool) (j : ℕ) → j + number_size ≤ record_size
      → get little (take number_size (drop j (take record_size (drop at bs))))
      ≡ get little (take number_size (drop (at + j) bs))
  number_in little j h = ap (get little) (part_in number_size j record_size (drop at bs) h ∙ ap (take number_size) (drop-drop j at bs))

  -- the record that is read is the one that the bytes decode to
  read_is : (little : Bool) (a b c d e : ℕ) → little ≡ is_little (drop at bs)
      → a ≡ get little (take 4 (drop (at + 4) bs)) → b ≡ get little (take 4 (drop (at + 8) bs))
      → c ≡ get little (take 4 (drop (at + 12) bs))
      → d ≡ get little (take 4 (drop (at + 16) bs)) → e ≡ get little (take 4 (drop (at + 20) bs))
      → record_of (record { kind = get_or bs (at + 2) 0; flag = get_or bs (at + 3) 0; a = a; b = b; c = c; d = d; e = e })
      ≡ decode (take record_size (drop at bs))
  unfolding decode
  read_is little a b c d e l ea eb ec ed ee =
      rw (ea, eb, ec, ed, ee, l)
      (simp (drop-drop, little_in)
      (let n : (j : ℕ) → j + number_size ≤ record_size → get (is_little (drop at bs)) (take number_size (drop j (take record_size (drop at bs)))) ≡ get (is_little (drop at bs)) (take number_size (drop (at + j) bs)) = number_in (is_little (drop at bs)) in
      rw (byte_in 2 (omega arith), byte_in 3 (omega arith), n 4 (omega arith), n 8 (omega arith), n 12 (omega arith), n 16 (omega arith), n 20 (omega arith))))

  -- its numbers are read lowest first, and then put in the record's own order
  pub read_ordered : (little : Bool) (a b c d e : ℕ) (t : Entry) → little ≡ is_little (drop at bs)
      → a ≡ get true (take 4 (drop (at + 4) bs)) → b ≡ get true (take 4 (drop (at + 8) bs))
      → c ≡ get true (take 4 (drop (at + 12) bs))
      → d ≡ get true (take 4 (drop (at + 16) bs)) → e ≡ get true (take 4 (drop (at + 20) bs))
      → record_of t
      ≡ ordered_as little
      (record_of (record { kind = get_or bs (at + 2) 0; flag = get_or bs (at + 3) 0; a = a; b = b; c = c; d = d; e = e }))
      → at + record_size ≤ length bs → ((i : ℕ) → get_or bs i 0 < 256) → record_of t ≡ decode (take record_size (drop at bs))
  read_ordered little a b c d e t l ea eb ec ed ee et h g =
      let n : (j : ℕ) (x : ℕ) → j + 4 ≤ record_size → x ≡ get true (take 4 (drop (at + j) bs)) → ordered little x ≡ get little (take 4 (drop (at + j) bs)) = λ j x k q. ap (ordered little) q ∙ number-ordered bs (at + j) little (omega arith) g in
      et ∙ read_is little (ordered little a) (ordered little b) (ordered little c) (ordered little d) (ordered little e) l
      (n 4 a (omega arith) ea) (n 8 b (omega arith) eb) (n 12 c (omega arith) ec) (n 16 d (omega arith) ed) (n 20 e (omega arith) ee)

-- a record in an order: as it is, or with each number swapped
module _ (r : Entry) (little : Bool) where
  pub ordered_same : little ≡ true → r.a < 2 ^ 32 → r.b < 2 ^ 32 → r.c < 2 ^ 32 → r.d < 2 ^ 32 → r.e < 2 ^ 32
      → record_of r ≡ ordered_as little (record_of r)
  ordered_same l ha hb hc hd he = rw l (rw (get-put true 4 r.a ha, get-put true 4 r.b hb, get-put true 4 r.c hc, get-put true 4 r.d hd, get-put true 4 r.e he))

  pub ordered_swapped : (a b c d e : ℕ) → little ≡ false → a ≡ get false (put true 4 r.a)
      → b ≡ get false (put true 4 r.b) → c ≡ get false (put true 4 r.c) → d ≡ get false (put true 4 r.d)
      → e ≡ get false (put true 4 r.e)
      → record_of (record { kind = r.kind; flag = r.flag; a = a; b = b; c = c; d = d; e = e })
      ≡ ordered_as little (record_of r)
  ordered_swapped a b c d e l ea eb ec ed ee = rw (l, ea, eb, ec, ed, ee)

-- the mark read in either order
module _ (bs : List ℕ) (m : ℕ) (e : m ≡ get true (take 2 bs)) where
  pub little_is : eqb m mark ≡ is_little bs
  little_is = ap (λ x. eqb x mark) e

  pub marked_little : m ≡ mark → eqb m mark ≡ is_marked bs
  marked_little h = rw (← e, eq-eqb m mark h)

  pub marked_big : (k : ℕ) → (m ≡ mark → ⊥) → k ≡ get false (take 2 bs) → eqb k mark ≡ is_marked bs
  marked_big k h q = rw (← e, ne_eqb m mark h, ← q)

pub ruleset record_steps = (ordered_same, ordered_swapped, little_is, marked_little, marked_big)
