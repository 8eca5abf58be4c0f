-- A record and its order fix the bytes that hold it. Assumes nothing.
use mathlib.Core.Path.{◌≡◌, refl, sym, ap, ap₂, ◌∙◌}
use mathlib.Core.Bool.{Bool, true, false}
use mathlib.Core.List.{List, [], ◌∷◌, ◌++◌, reverse}
use Prim.Native.Nat.{ℕ, zero, suc, ◌+◌, ◌*◌, ◌<◌}
use native.Mathlib.Omega.{arith}
use lib.ListN.{length, get_or, take, drop, length-take, length-drop}
use lib.Seq.{get_or-take, get_or-drop}
use borrow.Author.Tests.{eqb-true}
use Rattle.table.specs.Order.{put, get}
use Rattle.table.specs.Records.{Record, record_size, number_size, field_count, mark, is_little, is_marked, numbers, decode, put_all, encode}
use Rattle.table.specs.TableRules.{Holds}
use Rattle.table.proofs.OrderLaws.{Bytes, lowest_value}
use Rattle.table.proofs.HoldsLaws.{holds_is, holds_marked, holds_order, holds_room}

-- a mark, four bytes and numbers are written back as they were read
mark_back : (little : Bool) (x y : ℕ) → x < 256 → y < 256 → get little (x ∷ y ∷ []) ≡ mark
    → put little 2 mark ≡ x ∷ y ∷ []
mark_back true x y h k e = let a : x ≡ 0xAD = omega arith in let b : y ≡ 0xC0 = omega arith in rw (a, b)
mark_back false x y h k e = let a : x ≡ 0xC0 = omega arith in let b : y ≡ 0xAD = omega arith in rw (a, b)

number_back : (little : Bool) (w x y z : ℕ) → Bytes (w ∷ x ∷ y ∷ z ∷ [])
    → put little number_size (get little (w ∷ x ∷ y ∷ z ∷ [])) ≡ w ∷ x ∷ y ∷ z ∷ []
number_back true w x y z h = lowest_value (w ∷ x ∷ y ∷ z ∷ []) h
number_back false w x y z h = ap reverse (lowest_value (z ∷ y ∷ x ∷ w ∷ []) (h.1.1.1.0, (h.1.1.0, (h.1.0, (h.0, tt)))))

numbers_back : (little : Bool) (n : ℕ) (xs : List ℕ) → length xs ≡ number_size * n → Bytes xs
    → put_all little (numbers little n xs) ≡ xs
numbers_back little zero [] e h = refl
numbers_back little zero (x ∷ xs) e h = absurd (omega arith)
numbers_back little (suc n) [] e h = absurd (omega arith)
numbers_back little (suc n) (w ∷ []) e h = absurd (omega arith)
numbers_back little (suc n) (w ∷ x ∷ []) e h = absurd (omega arith)
numbers_back little (suc n) (w ∷ x ∷ y ∷ []) e h = absurd (omega arith)
numbers_back little (suc n) (w ∷ x ∷ y ∷ z ∷ xs) e h =
    ap₂ ◌++◌ (number_back little w x y z (h.0, (h.1.0, (h.1.1.0, (h.1.1.1.0, tt))))) (numbers_back little n xs (omega arith) h.1.1.1.1)

-- the mark is read in the record's own order
marked-get : (bs : List ℕ) → is_marked bs ≡ true → get (is_little bs) (take 2 bs) ≡ mark
marked-get bs h = by (is_little bs) refl
  where
    by : (b : Bool) → is_little bs ≡ b → get b (take 2 bs) ≡ mark
    by true e = eqb-true (get true (take 2 bs)) mark e
    by false e = eqb-true (get false (take 2 bs)) mark (rw e at h)

-- a record is written back as it was read
encode-decode : (bs : List ℕ) → length bs ≡ record_size → Bytes bs → is_marked bs ≡ true
    → encode (is_little bs) (decode bs) ≡ bs
unfolding encode decode
encode-decode [] e h k = absurd (omega arith)
encode-decode (a ∷ []) e h k = absurd (omega arith)
encode-decode (a ∷ b ∷ []) e h k = absurd (omega arith)
encode-decode (a ∷ b ∷ c ∷ []) e h k = absurd (omega arith)
encode-decode (a ∷ b ∷ c ∷ d ∷ bs) e h k =
    let o = is_little (a ∷ b ∷ c ∷ d ∷ bs) in
    ap₂ (λ x y. x ++ (c ∷ d ∷ y))
    (mark_back o a b h.0 h.1.0 (marked-get (a ∷ b ∷ c ∷ d ∷ bs) k))
    (numbers_back o field_count bs (omega arith) h.1.1.1.1)

-- each of a list is a byte, by its place
all-bytes : (xs : List ℕ) → ((k : ℕ) → k < length xs → get_or xs k 0 < 256) → Bytes xs
all-bytes [] f = tt
all-bytes (x ∷ xs) f = (f 0 (omega arith), all-bytes xs (λ k h. f (suc k) (omega arith)))

-- a record and its order fix the bytes that hold it
pub held_is : (bs : List ℕ) (n : ℕ) (little : Bool) (r : Record) → Holds bs n little r
    → ((k : ℕ) → k < record_size → get_or bs (record_size * n + k) 0 < 256)
    → take record_size (drop (record_size * n) bs) ≡ encode little r
held_is bs n little r h f =
    let part = take record_size (drop (record_size * n) bs) in
    let room = holds_room bs n little r h in
    let e : length part ≡ record_size = rw (length-take, length-drop) (omega arith) in
    let g : (k : ℕ) → k < length part → get_or part k 0 < 256 =
    λ k l. rw (get_or-take record_size (drop (record_size * n) bs) k 0 (omega arith), get_or-drop (record_size * n) bs k 0) (f k (omega arith)) in
    sym (encode-decode part e (all-bytes part g) (holds_marked bs n little r h)) ∙ ap₂ encode (holds_order bs n little r h) (sym (holds_is bs n little r h))
