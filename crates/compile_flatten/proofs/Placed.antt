-- Records and pool bytes of a tree at their places in a table. Assumes nothing.
use mathlib.Core.Path.{◌≡◌, sym, ap, ◌∙◌}
use mathlib.Core.List.{List, [], ◌∷◌, ◌++◌, append_assoc}
use Prim.Native.Nat.{ℕ, ◌+◌, ◌≤◌}
use native.Mathlib.Omega.{arith}
use lib.ListN.{length, length-append, length-drop, take, drop}
use lib.Seq.{drop-append_seam, take-append_seam, drop-drop}
use Rattle.table.specs.Records.{Record, Image, header_of}

-- xs stands in the list l at place p
pub record At {A : Type 0} (l : List A) (p : ℕ) (xs : List A) : Type 0 where
  pub rest : List A
  pub there : drop p l ≡ xs ++ rest

module _ {A : Type 0} {l : List A} {p : ℕ} {xs : List A} where
  pub at_left : (ys : List A) → At l p (xs ++ ys) → At l p xs
  at_left ys h = record { rest = ys ++ h.rest; there = h.there ∙ append_assoc xs ys h.rest }

  -- what stands there is read whole
  pub at_take : At l p xs → take (length xs) (drop p l) ≡ xs
  at_take h = rw h.there (take-append_seam xs h.rest)

pub at_right : {A : Type 0} {l : List A} {p : ℕ} (xs : List A) {ys : List A} → At l p (xs ++ ys)
    → At l (p + length xs) ys
at_right {A} {l} {p} xs {ys} h = record {
  rest = h.rest;
  there = sym (drop-drop (length xs) p l) ∙ ap (drop (length xs)) (h.there ∙ append_assoc xs ys h.rest) ∙ drop-append_seam xs _;
}

-- what stands in a list ends within it
pub at_end_lem : {A : Type 0} {l : List A} {p : ℕ} {x : A} {xs : List A} → At l p (x ∷ xs) → p + length (x ∷ xs) ≤ length l
at_end_lem {A} {l} {p} {x} {xs} h = omega (arith, simp (length-append, length-drop) at (ap length h.there))

-- the records rs stand from number n on, and the bytes bs in the pool from place p on
pub record Placed (m : Image) (n : ℕ) (rs : List Record) (p : ℕ) (bs : List ℕ) : Type 0 where
  pub records : At (header_of m ∷ m.records) n rs
  pub pool : At m.pool p bs

-- past a record, past a name, and the two parts of what stands there
module _ {m : Image} {n p : ℕ} where
  pub past_record : {r : Record} {rs : List Record} {bs : List ℕ} → Placed m n (r ∷ rs) p bs → Placed m (n + 1) rs p bs
  past_record {r} h = record { records = at_right (r ∷ []) h.records; pool = h.pool }

  pub past_name : {rs : List Record} (w : List ℕ) {bs : List ℕ} → Placed m n rs p (w ++ bs)
      → Placed m n rs (p + length w) bs
  past_name w h = record { records = h.records; pool = at_right w h.pool }

  pub placed_left : {rs : List Record} {bs : List ℕ} (qs : List Record) (cs : List ℕ)
      → Placed m n (rs ++ qs) p (bs ++ cs) → Placed m n rs p bs
  placed_left qs cs h = record { records = at_left qs h.records; pool = at_left cs h.pool }

  pub placed_right : (rs : List Record) (bs : List ℕ) {qs : List Record} {cs : List ℕ} (k : ℕ) → length rs ≡ k
      → Placed m n (rs ++ qs) p (bs ++ cs) → Placed m (n + k) qs (p + length bs) cs
  placed_right rs bs k e h = rw (← e) (record { records = at_right rs h.records; pool = at_right bs h.pool })
