-- A rule of numbers in a row, shown of all of them by one test that antt computes; the steps of the tests on bytes. Assumes nothing.
use mathlib.Core.Path.{◌≡◌, refl, sym}
use mathlib.Core.Bool.{Bool, true, false, cond, not, ◌&&◌}
use mathlib.Core.List.{List}
use Prim.Native.Nat.{ℕ, zero, suc, ◌+◌, ◌≤◌, ◌<◌}
use native.Mathlib.Omega.{arith}
use native.Mathlib.Decide.{dec_lt}
use lib.Dec.{eqb}
use lib.ListN.{get_or}
use borrow.Author.Tests.{eqb-true}
use Rattle.lexis.specs.Bytes.{sort_of, word_byte, run_byte}
use Rattle.lexis.proofs.Cases.{and_left, and_right}

-- two tests answer the same
abbrev pub alike : Bool → Bool → Bool
alike x y = cond x y (not y)

alike_eq : (x y : Bool) → alike x y ≡ true → x ≡ y
alike_eq true y h = sym h
alike_eq false true h = h
alike_eq false false h = refl

-- n numbers from one on pass a test
abbrev pub passes : (ℕ → Bool) → ℕ → ℕ → Bool
passes f low zero = true
passes f low (suc n) = f low && passes f (suc low) n

-- two tests that answer the same in a row of numbers do so at each
pub agree : (g f : ℕ → Bool) (low n : ℕ) → passes (λ x. alike (g x) (f x)) low n ≡ true → (b : ℕ) → low ≤ b
    → b < low + n → g b ≡ f b
agree g f low zero t b h k = absurd (omega arith)
agree g f low (suc n) t b h k =
    let here = alike (g low) (f low) in
    let more = passes (λ x. alike (g x) (f x)) (suc low) n in
    by_place (dec_lt low b) (alike_eq (g low) (f low) (and_left here more t)) (λ l. agree g f (suc low) n (and_right here more t) b l (omega arith))
  where
    by_place : Dec (low < b) → g low ≡ f low → (low < b → g b ≡ f b) → g b ≡ f b
    by_place (yes l) p q = q l
    by_place (no l) p q = let e : low ≡ b = omega arith in rw e at p

-- a byte of words is one of runs
pub run-word : (b : ℕ) (r : Bool) → r ≡ word_byte b → r ≡ true → true ≡ run_byte b
unfolding run_byte
run-word b r h e = rw (← h, e)

-- the test of the table of sorts: each of its 256 entries is the sort of its byte
abbrev pub sorts_right : List ℕ → Bool
sorts_right sorts = passes (λ b. eqb (get_or sorts b 0) (sort_of b)) 0 256

-- what the test says of each entry
pub sort_entry : (sorts : List ℕ) → sorts_right sorts ≡ true → (b : ℕ) → b < 256 → get_or sorts b 0 ≡ sort_of b
sort_entry sorts t b h =
    eqb-true (get_or sorts b 0) (sort_of b) (sym (agree (λ x. true) (λ x. eqb (get_or sorts x 0) (sort_of x)) 0 256 t b (omega arith) h))
