-- Runs of bytes in front of other bytes: where a run ends, what begins with it, and the part of a text that is one. Assumes nothing.
use mathlib.Core.Path.{◌≡◌, refl, sym, ap, ◌∙◌}
use mathlib.Core.Bool.{Bool, true, false, cond, ◌&&◌, false≢true}
use mathlib.Core.List.{List, [], ◌∷◌, ◌++◌}
use Prim.Native.Nat.{ℕ, ◌+◌, ◌<◌}
use native.Mathlib.Omega.{arith}
use native.Mathlib.Nat.{add-zero, add-sub_cancel_left}
use lib.Dec.{eqb}
use lib.ListN.{length, drop, length-drop}
use lib.Seq.{take-append_seam, drop-append_seam, drop-drop, get_or-drop}
use borrow.Author.Tests.{eqb-true, eqb-false, eq-eqb, ne_eqb}
use Rattle.lexis.specs.Bytes.{is, digit}
use Rattle.lexis.specs.Runs.{past, byte_at, part, starts_with, any_digit, allows, shaped, all}
use Rattle.lexis.proofs.Cases.{and_left, and_right}

-- a run ends behind the bytes that pass, where the next byte fails
pub past_run : (test : ℕ → Bool) (at : ℕ) (w rest : List ℕ) → all test w ≡ true → test (byte_at rest 0) ≡ false
    → past test at (w ++ rest) ≡ at + length w
unfolding past all
past_run test at [] [] a e = omega arith
past_run test at [] (r ∷ rs) a e = rw e (omega arith)
past_run test at (b ∷ w) rest a e =
    let h = past_run test (at + 1) w rest (and_right (test b) (all test w) a) e in
    rw (and_left (test b) (all test w) a, h) (omega arith)

-- a word begins itself, whatever follows
pub starts_self : (w rest : List ℕ) → starts_with w (w ++ rest) ≡ true
unfolding starts_with
starts_self [] rest = refl
starts_self (b ∷ w) rest = rw (eq-eqb b b refl, starts_self w rest)

-- what begins in a shape does so whatever follows
pub shaped_longer : (shape w rest : List ℕ) → shaped shape w ≡ true → shaped shape (w ++ rest) ≡ true
unfolding shaped
shaped_longer [] w rest h = refl
shaped_longer (x ∷ xs) [] rest h = absurd (false≢true h)
shaped_longer (x ∷ xs) (b ∷ w) rest h =
    rw (and_left (allows x b) (shaped xs w) h, shaped_longer xs w rest (and_right (allows x b) (shaped xs w) h))

-- the first element of a spelling that fails the test is c
unfoldable pub breaks : (ℕ → Bool) → ℕ → List ℕ → Bool
breaks test c [] = false
breaks test c (x ∷ xs) = let more = breaks test c xs in cond (test x) more (eqb x c)

-- a second test that fails wherever the first passes
pub and_no : (a b : Bool) → (a ≡ true → b ≡ false) → (a && b) ≡ false
and_no true b f = f refl
and_no false b f = refl

-- bytes that pass, and then one that fails and is not c, do not begin as a spelling that breaks at c
pub starts_not : (test : ℕ → Bool) (c : ℕ) (spelling w rest : List ℕ) → breaks test c spelling ≡ true
    → all test w ≡ true
    → test (byte_at rest 0) ≡ false → eqb (byte_at rest 0) c ≡ false → starts_with spelling (w ++ rest) ≡ false
unfolding starts_with all breaks
starts_not test c [] w rest k a e n = absurd (false≢true k)
starts_not test c (x ∷ xs) [] [] k a e n = refl
starts_not test c (x ∷ xs) [] (r ∷ rs) k a e n = and_no (eqb x r) (starts_with xs rs) (λ q. absurd (false≢true (sym n ∙ rw (eqb-true x r q, e) at k)))
starts_not test c (x ∷ xs) (b ∷ w) rest k a e n =
    and_no (eqb x b) (starts_with xs (w ++ rest))
    (λ q. starts_not test c xs w rest (rw (eqb-true x b q, and_left (test b) (all test w) a) at k) (and_right (test b) (all test w) a) e n)

-- one element of a shape and one byte: the shape fails here, or further on
shape_step : (k more found : Bool) (x b c : ℕ) → cond k more (eqb x c) ≡ true
    → (is digit b ≡ true → more ≡ true → found ≡ false) → (b ≡ c → ⊥)
    → (cond k (is digit b) (eqb x b) && found) ≡ false
shape_step true more found x b c h f n = and_no (is digit b) found (λ q. f q h)
shape_step false more found x b c h f n = rw (eqb-true x c h, ne_eqb c b (λ q. n (sym q)))

-- digits, and then a byte that is no digit and not c, do not begin in a shape that breaks at c
pub shaped_not : (c : ℕ) (shape w rest : List ℕ) → is digit c ≡ false → breaks (λ x. eqb x any_digit) c shape ≡ true
    → all (is digit) w ≡ true
    → is digit (byte_at rest 0) ≡ false → eqb (byte_at rest 0) c ≡ false → shaped shape (w ++ rest) ≡ false
unfolding shaped all breaks
shaped_not c [] w rest d k a e n = absurd (false≢true k)
shaped_not c (x ∷ xs) [] [] d k a e n = refl
shaped_not c (x ∷ xs) [] (r ∷ rs) d k a e n =
    shape_step (eqb x any_digit) (breaks (λ y. eqb y any_digit) c xs) (shaped xs rs) x r c k (λ q m. absurd (false≢true (sym e ∙ q))) (eqb-false r c n)
shaped_not c (x ∷ xs) (b ∷ w) rest d k a e n =
    let g = and_left (is digit b) (all (is digit) w) a in
    shape_step (eqb x any_digit) (breaks (λ y. eqb y any_digit) c xs) (shaped xs (w ++ rest)) x b c k
    (λ q m. shaped_not c xs w rest d m (and_right (is digit b) (all (is digit) w) a) e n)
    (λ q. false≢true (sym d ∙ rw q at g))

-- the text from a place on is w and then rest
module _ (s : List ℕ) (at : ℕ) (w rest : List ℕ) (h : drop at s ≡ w ++ rest) where
  -- the part of that length is w
  pub part_read : part s at (at + length w) ≡ w
  part_read = rw (add-sub_cancel_left, h, take-append_seam)

  -- behind w stands the rest
  pub behind : drop (at + length w) s ≡ rest
  behind = rw (← drop-drop, h, drop-append_seam)

  -- the byte behind w is the first of the rest
  pub next_read : byte_at s (at + length w) ≡ byte_at rest 0
  next_read = let e = get_or-drop (at + length w) s 0 0 in rw (behind, add-zero) at (sym e)

-- the text from a place on has a byte
module _ (s : List ℕ) (at b : ℕ) (bs : List ℕ) (h : drop at s ≡ b ∷ bs) where
  -- the place lies in the text
  pub first_inside : at < length s
  first_inside = let e = length-drop at s in let n = ap length h in omega arith

  -- the byte at the place is that byte
  pub first_read : byte_at s at ≡ b
  first_read = rw add-zero at (next_read s at [] (b ∷ bs) h)
