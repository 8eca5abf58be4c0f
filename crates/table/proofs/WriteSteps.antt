-- Steps of the functions that write a record. Assumes nothing.
use mathlib.Core.Path.{◌≡◌, ap, ◌∙◌}
use mathlib.Core.Bool.{Bool, true, false, cond, not}
use mathlib.Core.List.{List, [], ◌∷◌, ◌++◌, append_assoc, append-nil}
use Prim.Native.Nat.{ℕ, ◌+◌}
use native.Mathlib.Numerals.{towards_suc}
use lib.ListN.{length, set, length-append}
use lib.Seq.{sets}
use Rattle.lexis.proofs.Stores.{sets_behind}
use Rattle.table.specs.Order.{put}
use Rattle.table.specs.Records.{mark, encode, field}
use Rattle.table.specs.Clauses.Answers.{record_of, ordered_as}
use Rattle.table.specs.declared.records.Entry.{Entry}
use Rattle.table.proofs.OrderLaws.{length-put}
use Rattle.table.proofs.OrderSteps.{put-ordered}

-- the mark, byte by byte, with the kind and the flag
pub head_put : (s : List ℕ) (at : ℕ) (little : Bool) (kind flag a b : ℕ) → a ≡ cond little 0xAD 0xC0
    → b ≡ cond (not little) 0xAD 0xC0
    → set (set (set (set s at a) (at + 1) b) (at + 2) kind) (at + 3) flag
    ≡ sets s at (put little 2 mark ++ (kind ∷ flag ∷ []))
head_put s at true kind flag a b p q = rw (p, q) (simp towards_suc)
head_put s at false kind flag a b p q = rw (p, q) (simp towards_suc)

-- a number behind what is written
number_put : (s a b xs : List ℕ) (at k : ℕ) (little : Bool) (n : ℕ) → a ≡ sets s at xs → length xs ≡ k
    → b ≡ sets a (at + k) (put little 4 n) → b ≡ sets s at (xs ++ put little 4 n)
number_put s a b xs at k little n p l q = rw (q, p) (sets_behind xs (put little 4 n) s at (at + k) (ap (λ j. at + j) l))

-- the head and the numbers make up the record
record_put : (s s0 s1 s2 s3 s4 s5 : List ℕ) (at : ℕ) (little : Bool) (r : Entry)
    → s0 ≡ sets s at (put little 2 mark ++ (r.kind ∷ r.flag ∷ []))
    → s1 ≡ sets s0 (at + 4) (put little 4 r.a) → s2 ≡ sets s1 (at + 8) (put little 4 r.b)
    → s3 ≡ sets s2 (at + 12) (put little 4 r.c)
    → s4 ≡ sets s3 (at + 16) (put little 4 r.d) → s5 ≡ sets s4 (at + 20) (put little 4 r.e)
    → s5 ≡ sets s at (encode little (record_of r))
unfolding encode
record_put s s0 s1 s2 s3 s4 s5 at little r e0 e1 e2 e3 e4 e5 =
    let h = put little 2 mark ++ (r.kind ∷ r.flag ∷ []) in
    let a = h ++ put little 4 r.a in
    let b = a ++ put little 4 r.b in
    let c = b ++ put little 4 r.c in
    let d = c ++ put little 4 r.d in
    let w1 = number_put s s0 s1 h at 4 little r.a e0 (simp (length-append, length-put)) e1 in
    let w2 = number_put s s1 s2 a at 8 little r.b w1 (simp (length-append, length-put)) e2 in
    let w3 = number_put s s2 s3 b at 12 little r.c w2 (simp (length-append, length-put)) e3 in
    let w4 = number_put s s3 s4 c at 16 little r.d w3 (simp (length-append, length-put)) e4 in
    let w5 = number_put s s4 s5 d at 20 little r.e w4 (simp (length-append, length-put)) e5 in
    rw w5 (simp (append_assoc, append-nil))

-- the numbers may be put in order first, and then be written lowest first
pub record_ordered : (s s0 s1 s2 s3 s4 s5 : List ℕ) (at : ℕ) (little : Bool) (r t : Entry)
    → record_of t ≡ ordered_as little (record_of r)
    → s0 ≡ sets s at (put little 2 mark ++ (r.kind ∷ r.flag ∷ []))
    → s1 ≡ sets s0 (at + 4) (put true 4 t.a) → s2 ≡ sets s1 (at + 8) (put true 4 t.b)
    → s3 ≡ sets s2 (at + 12) (put true 4 t.c)
    → s4 ≡ sets s3 (at + 16) (put true 4 t.d) → s5 ≡ sets s4 (at + 20) (put true 4 t.e)
    → s5 ≡ sets s at (encode little (record_of r))
record_ordered s s0 s1 s2 s3 s4 s5 at little r t o e0 e1 e2 e3 e4 e5 =
    let n : (i : ℕ) → put true 4 (field (record_of t) i) ≡ put true 4 (field (ordered_as little (record_of r)) i) = λ i. ap (λ x. put true 4 (field x i)) o in
    record_put s s0 s1 s2 s3 s4 s5 at little r e0
    (e1 ∙ ap (sets s0 (at + 4)) (n 0 ∙ put-ordered little r.a))
    (e2 ∙ ap (sets s1 (at + 8)) (n 1 ∙ put-ordered little r.b))
    (e3 ∙ ap (sets s2 (at + 12)) (n 2 ∙ put-ordered little r.c))
    (e4 ∙ ap (sets s3 (at + 16)) (n 3 ∙ put-ordered little r.d))
    (e5 ∙ ap (sets s4 (at + 20)) (n 4 ∙ put-ordered little r.e))

pub ruleset write_steps = (head_put, record_ordered)
