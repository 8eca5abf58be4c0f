-- The steps of reading a token of data text: a lemma for each way out. Assumes nothing.
use mathlib.Core.Path.{◌≡◌, refl, sym, ◌∙◌}
use mathlib.Core.Bool.{Bool, true, false, not}
use mathlib.Core.List.{List, [], ◌∷◌}
use Prim.Native.Nat.{ℕ, suc, ◌+◌, ◌-◌, ◌≤◌, ◌<◌}
use native.Mathlib.Omega.{arith}
use native.Mathlib.Decide.{dec_lt}
use lib.Dec.{eqb}
use lib.ListN.{length, take, drop, drop_of_length-le}
use lib.Seq.{drop-drop, drop-nil, get_or-drop}
use borrow.Author.Tests.{eq-eqb, ne_eqb, not-true}
use Rattle.lexis.specs.Bytes.{sort_of, word_byte, run_byte}
use Rattle.lexis.specs.Runs.{past, byte_at, part, all}
use Rattle.lexis.specs.DataTokens.{data_token_at, type_token_at}
use Rattle.lexis.specs.Clauses.Answers.{PlaceIs, WordEnds, TokenIs, run_mark}
use Rattle.lexis.specs.declared.Token.{Token}
use Rattle.lexis.proofs.Places.{past_between, drop_in}
use Rattle.lexis.proofs.ByteLaws.{run-word}
use Rattle.lexis.proofs.DataPlaces.{data_token-found, type_token-found}
use Rattle.lexis.proofs.TokenSteps.{promised}

-- a byte of words is one of runs
word_runs : (b : ℕ) → word_byte b ≡ true → run_byte b ≡ true
word_runs b e = sym (run-word b (word_byte b) refl e)

-- a run goes on behind another whose bytes it also has
past_on : (f g : ℕ → Bool) → ((b : ℕ) → f b ≡ true → g b ≡ true) → (at : ℕ) (bs : List ℕ)
    → past g (past f at bs) (drop (past f at bs - at) bs) ≡ past g at bs
unfolding past
past_on f g more at [] = rw drop-nil
past_on f g more at (b ∷ bs) = by_byte (past_on f g more (at + 1) bs) (f b) refl
  where
    by_byte : past g (past f (at + 1) bs) (drop (past f (at + 1) bs - (at + 1)) bs) ≡ past g (at + 1) bs
        → (k : Bool) → f b ≡ k
        → past g (past f at (b ∷ bs)) (drop (past f at (b ∷ bs) - at) (b ∷ bs)) ≡ past g at (b ∷ bs)
    by_byte ih true e =
        let l = (past_between f (at + 1) bs).least in
        let n : past f (at + 1) bs - at ≡ suc (past f (at + 1) bs - (at + 1)) = omega arith in
        rw (e, more b e, n) ih
    by_byte ih false e = let n : at - at ≡ 0 = omega arith in rw (e, n)

-- the same from a place of a text on
pub run_on : (f g : ℕ → Bool) → ((b : ℕ) → f b ≡ true → g b ≡ true) → (s : List ℕ) (at w : ℕ)
    → PlaceIs s at (past f at (drop at s)) w → past g w (drop w s) ≡ past g at (drop at s)
run_on f g more s at w p =
    let e : at + (w - at) ≡ w = omega (arith, p.low) in
    rw (← p.is, drop-drop, e) at (past_on f g more at (drop at s))

-- behind a run stands no byte of it
past_stops : (f : ℕ → Bool) → f 0 ≡ false → (at : ℕ) (bs : List ℕ) → f (byte_at bs (past f at bs - at)) ≡ false
unfolding past
past_stops f z at [] = z
past_stops f z at (b ∷ bs) = by_byte (past_stops f z (at + 1) bs) (f b) refl
  where
    by_byte : f (byte_at bs (past f (at + 1) bs - (at + 1))) ≡ false → (k : Bool) → f b ≡ k
        → f (byte_at (b ∷ bs) (past f at (b ∷ bs) - at)) ≡ false
    by_byte ih true e =
        let l = (past_between f (at + 1) bs).least in
        let n : past f (at + 1) bs - at ≡ suc (past f (at + 1) bs - (at + 1)) = omega arith in
        rw (e, n) ih
    by_byte ih false e = let n : at - at ≡ 0 = omega arith in rw (e, n) e

-- the word at a place ends where it stops
pub word_stops : (s : List ℕ) (at w : ℕ) → PlaceIs s at (past word_byte at (drop at s)) w → WordEnds s w
unfolding word_byte sort_of
word_stops s at w p =
    let e : at + (w - at) ≡ w = omega (arith, p.low) in
    record { inside = p.high; stops = rw (← p.is, get_or-drop at s, e) at (past_stops word_byte refl at (drop at s)) }

-- a run ends at a byte that it does not have
pub run_ends : (g : ℕ → Bool) (s : List ℕ) (at : ℕ) → at ≤ length s → g (byte_at s at) ≡ false
    → PlaceIs s at (past g at (drop at s)) at
unfolding past
run_ends g s at h e = record { is = by_place (dec_lt at (length s)); low = omega arith; high = h }
  where
    by_place : Dec (at < length s) → at ≡ past g at (drop at s)
    by_place (yes l) = rw (drop_in s at l, e)
    by_place (no l) = let n : length s ≤ at = omega arith in rw (drop_of_length-le s n)

-- where a word ends, the run ends too, unless one of four bytes stands there
pub end_here : (s : List ℕ) (at b : ℕ) → WordEnds s at → b ≡ byte_at s at → (r : Bool) → r ≡ run_mark b → not r ≡ true
    → PlaceIs s at (past run_byte at (drop at s)) at
unfolding run_byte
end_here s at b w u r q n = run_ends run_byte s at w.inside (rw (w.stops, ← u, ← q, not-true r n))

-- a run is a word where the word at its place ends with it
run_words : (at : ℕ) (bs : List ℕ)
    → eqb (past word_byte at bs) (past run_byte at bs) ≡ all word_byte (take (past run_byte at bs - at) bs)
unfolding past all
run_words at [] = let n : at - at ≡ 0 = omega arith in rw n (eq-eqb at at refl)
run_words at (b ∷ bs) = by_byte (run_words (at + 1) bs) (word_byte b) refl (run_byte b) refl
  where
    by_byte : eqb (past word_byte (at + 1) bs)
        (past run_byte (at + 1) bs) ≡ all word_byte (take (past run_byte (at + 1) bs - (at + 1)) bs)
        → (k : Bool) → word_byte b ≡ k → (r : Bool) → run_byte b ≡ r
        → eqb (past word_byte at (b ∷ bs)) (past run_byte at (b ∷ bs))
        ≡ all word_byte (take (past run_byte at (b ∷ bs) - at) (b ∷ bs))
    by_byte ih true e r f =
        let l = (past_between run_byte (at + 1) bs).least in
        let n : past run_byte (at + 1) bs - at ≡ suc (past run_byte (at + 1) bs - (at + 1)) = omega arith in
        rw (word_runs b e, n, e) ih
    by_byte ih false e true f =
        let l = (past_between run_byte (at + 1) bs).least in
        let n : past run_byte (at + 1) bs - at ≡ suc (past run_byte (at + 1) bs - (at + 1)) = omega arith in
        rw (f, n, e) (ne_eqb at (past run_byte (at + 1) bs) (λ k. omega arith))
    by_byte ih false e false f = let n : at - at ≡ 0 = omega arith in rw (f, e, n) (eq-eqb at at refl)

-- the end of the word at a place and the end of the run there
module _ (s : List ℕ) (at w : ℕ) (p : PlaceIs s at (past word_byte at (drop at s)) w) where
  module _ (end : ℕ) (q : PlaceIs s w (past run_byte w (drop w s)) end) where
    pub run_end : end ≡ past run_byte at (drop at s)
    run_end = q.is ∙ run_on word_byte run_byte word_runs s at w p

    pub run_whole : eqb w end ≡ all word_byte (part s at end)
    run_whole = rw (p.is, run_end) (run_words at (drop at s))

-- the next token
module _ (s : List ℕ) (from : ℕ) (r : Token) (h : from ≤ length s) where
  pub data_told : r ≡ data_token_at s from → TokenIs s from (data_token_at s from) r
  data_told q = promised s from (data_token_at s from) r q (data_token-found s from h)

  pub type_told : r ≡ type_token_at s from → TokenIs s from (type_token_at s from) r
  type_told q = promised s from (type_token_at s from) r q (type_token-found s from h)

pub ruleset of_runs = (word_stops, run_whole, run_end)
