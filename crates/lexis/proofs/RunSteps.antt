-- The steps of the loops over bytes: a lemma for each way out and for each turn. Assumes nothing.
use mathlib.Core.Path.{◌≡◌, refl, sym, ap, ◌∙◌}
use mathlib.Core.Bool.{Bool, true, false, cond, not, ◌&&◌, ◌||◌, false≢true}
use mathlib.Core.List.{List, [], ◌∷◌}
use Prim.Native.Nat.{ℕ, suc, ◌+◌, ◌-◌, ◌≤◌, ◌<◌}
use native.Mathlib.Omega.{arith}
use native.Mathlib.Nat.{add-zero}
use lib.Dec.{eqb}
use lib.Pointwise.{pointwise}
use lib.ListN.{length, drop, length-drop, drop_of_length-le}
use lib.Seq.{get_or-drop}
use borrow.Author.Tests.{eq-eqb, ne_eqb, not-true, not-false}
use Rattle.lexis.specs.Text.{byte}
use Rattle.lexis.specs.Bytes.{within, among, marks, sort_of, is, blank, digit, small, capital, mark, other}
use Rattle.lexis.specs.Runs.{past, byte_at, same, starts_with, shaped, allows}
use Rattle.lexis.specs.Blanks.{skip, opens_comment, token_start}
use Rattle.lexis.specs.Clauses.Answers.{PlaceIs, comment_open, token_here, begins_by}
use Rattle.lexis.proofs.Places.{drop_in}

-- in a run: what is left of it ends where the run does
pub record InRun (test : ℕ → Bool) (s : List ℕ) (from at : ℕ) : Type 0 where
  pub low : from ≤ at
  pub high : at ≤ length s
  pub is : past test at (drop at s) ≡ past test from (drop from s)

module _ (test : ℕ → Bool) (s : List ℕ) (from at : ℕ) (inv : InRun test s from at) where
  pub run_end : length s ≤ at → PlaceIs s from (past test from (drop from s)) (length s)
  unfolding past
  run_end h =
      let here : at ≡ length s = let k = inv.high in omega arith in
      let low = inv.low in
      record { is = sym here ∙ (rw (drop_of_length-le s h) at inv.is); low = omega arith; high = omega arith }

  module _ (h : at < length s) where
    pub run_out : test (byte_at s at) ≡ false → PlaceIs s from (past test from (drop from s)) at
    unfolding past
    run_out e = record { is = rw (drop_in s at h, e) at inv.is; low = inv.low; high = inv.high }

    pub run_on : test (byte_at s at) ≡ true → InRun test s from (at + 1)
    unfolding past
    run_on e = record { low = omega arith; high = omega arith; is = rw (drop_in s at h, e) at inv.is }

skip_end : (inside : Bool) (at : ℕ) → skip inside at [] ≡ at
unfolding skip
skip_end true at = refl
skip_end false at = refl

skip_here : (inside : Bool) (at b : ℕ) (bs : List ℕ) → token_here inside b bs ≡ true → skip inside at (b ∷ bs) ≡ at
unfolding skip
skip_here true at b bs h = absurd (false≢true h)
skip_here false at b bs h = rw (not-true (is blank b || opens_comment b bs) h)

skip_more : (inside : Bool) (at b : ℕ) (bs : List ℕ) → token_here inside b bs ≡ false
    → skip inside at (b ∷ bs) ≡ skip (comment_open inside b bs) (at + 1) bs
unfolding skip
skip_more true at b bs h = refl
skip_more false at b bs h = rw (not-false (is blank b || opens_comment b bs) h)

-- no byte above `-` is a blank
not_blank : (b : ℕ) → byte "-" < b → is blank b ≡ false
unfolding sort_of
not_blank b h =
    rw (ne_eqb b 32 (λ e. omega arith), ne_eqb b 9 (λ e. omega arith), ne_eqb b 13 (λ e. omega arith), ne_eqb b 10 (λ e. omega arith))
    (later (within (byte "0") (byte "9") b) (within (byte "a") (byte "z") b) (within (byte "A") (byte "Z") b) (among b marks))
  where
    later : (p q r t : Bool) → eqb (cond p digit (cond q small (cond r capital (cond t mark other)))) blank ≡ false
    later true q r t = refl
    later false true r t = refl
    later false false true t = refl
    later false false false true = refl
    later false false false false = refl

-- whether a token starts at a byte
module _ (s : List ℕ) (at : ℕ) (inside : Bool) where
  pub here_far : inside ≡ false → byte "-" < byte_at s at → true ≡ token_here inside (byte_at s at) (drop (at + 1) s)
  here_far i h = rw (i, not_blank (byte_at s at) h, ne_eqb (byte_at s at) (byte "-") (λ e. omega arith))

  pub here_two : (b : ℕ) → inside ≡ false → byte_at s at ≡ byte "-" → b ≡ byte_at s (at + 1)
      → not (eqb b (byte "-")) ≡ token_here inside (byte_at s at) (drop (at + 1) s)
  unfolding sort_of
  here_two b i e q = rw (i, e, get_or-drop (at + 1) s 0 0, add-zero, ← q)

-- in blanks and comments: what is left of them ends where the next token starts
pub record InBlanks (s : List ℕ) (from at : ℕ) (inside : Bool) : Type 0 where
  pub low : from ≤ at
  pub high : at ≤ length s
  pub is : skip inside at (drop at s) ≡ token_start s from

module _ (s : List ℕ) (from at : ℕ) (inside : Bool) (inv : InBlanks s from at inside) where
  pub blanks_end : length s ≤ at → PlaceIs s from (token_start s from) (length s)
  blanks_end h =
      let here : at ≡ length s = let k = inv.high in omega arith in
      let low = inv.low in
      record {
        is = sym here ∙ sym (skip_end inside at) ∙ (rw (drop_of_length-le s h) at inv.is);
        low = omega arith;
        high = omega arith;
      }

  module _ (h : at < length s) where
    pub blanks_out : token_here inside (byte_at s at) (drop (at + 1) s) ≡ true → PlaceIs s from (token_start s from) at
    blanks_out e =
        let k = skip_here inside at (byte_at s at) (drop (at + 1) s) e in
        record { is = sym k ∙ (rw (drop_in s at h) at inv.is); low = inv.low; high = inv.high }

    pub blanks_on : token_here inside (byte_at s at) (drop (at + 1) s) ≡ false
        → InBlanks s from (at + 1) (comment_open inside (byte_at s at) (drop (at + 1) s))
    blanks_on e =
        let k = skip_more inside at (byte_at s at) (drop (at + 1) s) e in
        record { low = omega arith; high = omega arith; is = sym k ∙ (rw (drop_in s at h) at inv.is) }

and_none : (x y : Bool) → false ≡ y → false ≡ (x && y)
and_none true y h = h
and_none false y h = refl

fewer : (f : ℕ → ℕ → Bool) (w bs : List ℕ) → length bs < length w → false ≡ begins_by f w bs
unfolding begins_by
fewer f [] bs h = absurd (omega arith)
fewer f (x ∷ w) [] h = refl
fewer f (x ∷ w) (b ∷ bs) h = and_none (f x b) (begins_by f w bs) (fewer f w bs (omega arith))

pub begins_short : (f : ℕ → ℕ → Bool) (w s : List ℕ) (at : ℕ) → length s - at < length w
    → false ≡ begins_by f w (drop at s)
begins_short f w s at h = fewer f w (drop at s) (simp length-drop h)

-- in a word: what is left of it begins what is left of the text as the whole word begins the text
pub record InWord (f : ℕ → ℕ → Bool) (w s : List ℕ) (at i : ℕ) (x : Bool) : Type 0 where
  pub high : i ≤ length w
  pub room : at + length w ≤ length s
  pub is : begins_by f (drop i w) (drop (at + i) s) ≡ x

module _ (f : ℕ → ℕ → Bool) (w s : List ℕ) (at i : ℕ) (x : Bool) (inv : InWord f w s at i x) where
  pub word_end : length w ≤ i → true ≡ x
  unfolding begins_by
  word_end h = rw (drop_of_length-le w h) at inv.is

  module _ (r : Bool) (h : i < length w) (q : r ≡ f (byte_at w i) (byte_at s (at + i))) where
    next : (begins_by f (drop i w) (drop (at + i) s)) ≡ (r && begins_by f (drop (i + 1) w) (drop (at + (i + 1)) s))
    unfolding begins_by
    next =
        let k : at + i < length s = omega arith in
        let e : at + i + 1 ≡ at + (i + 1) = omega arith in
        rw (drop_in w i h, drop_in s (at + i) k, ← q, e)

    pub word_out : not r ≡ true → false ≡ x
    word_out e = rw (next, not-true r e) at inv.is

    pub word_on : not r ≡ false → InWord f w s at (i + 1) x
    word_on e = record { high = omega arith; room = inv.room; is = rw (next, not-false r e) at inv.is }

-- a spelling and a shape are two rules for one walk
pub starts_begins : (w bs : List ℕ) → begins_by eqb w bs ≡ starts_with w bs
unfolding begins_by starts_with
starts_begins [] bs = refl
starts_begins (x ∷ w) [] = refl
starts_begins (x ∷ w) (b ∷ bs) = ap (λ k. eqb x b && k) (starts_begins w bs)

pub shaped_begins : (w bs : List ℕ) → begins_by allows w bs ≡ shaped w bs
unfolding begins_by shaped
shaped_begins [] bs = refl
shaped_begins (x ∷ w) [] = refl
shaped_begins (x ∷ w) (b ∷ bs) = ap (λ k. allows x b && k) (shaped_begins w bs)

-- the library's equality of slices
pub same_pointwise : (a b : List ℕ) → pointwise eqb a b ≡ same a b
unfolding same
same_pointwise [] [] = refl
same_pointwise [] (y ∷ b) = refl
same_pointwise (x ∷ a) [] = refl
same_pointwise (x ∷ a) (y ∷ b) = ap (λ k. eqb x y && k) (same_pointwise a b)

-- runs of two lengths differ
pub same_long : (a b : List ℕ) → (length a ≡ length b → ⊥) → false ≡ same a b
unfolding same
same_long [] [] n = absurd (n refl)
same_long [] (y ∷ ys) n = refl
same_long (x ∷ xs) [] n = refl
same_long (x ∷ xs) (y ∷ ys) n = and_none (eqb x y) (same xs ys) (same_long xs ys (λ e. n (ap suc e)))

-- in two runs of one length: what is left of them is the same where they are
pub record InBoth (a b : List ℕ) (i : ℕ) : Type 0 where
  pub high : i ≤ length a
  pub long : length a ≡ length b
  pub is : same (drop i a) (drop i b) ≡ same a b

pub both_first : (a b : List ℕ) → length a ≡ length b → InBoth a b 0
both_first a b e = record { high = omega arith; long = e; is = refl }

module _ (a b : List ℕ) (i : ℕ) (inv : InBoth a b i) where
  pub both_end : length a ≤ i → true ≡ same a b
  unfolding same
  both_end h = let k : length b ≤ i = omega arith in rw (drop_of_length-le a h, drop_of_length-le b k) at inv.is

  module _ (h : i < length a) where
    step : same (drop i a) (drop i b) ≡ (eqb (byte_at a i) (byte_at b i) && same (drop (i + 1) a) (drop (i + 1) b))
    unfolding same
    step = let k : i < length b = omega arith in rw (drop_in a i h, drop_in b i k)

    pub both_out : (byte_at a i ≡ byte_at b i → ⊥) → false ≡ same a b
    both_out n = rw (step, ne_eqb (byte_at a i) (byte_at b i) n) at inv.is

    pub both_on : byte_at a i ≡ byte_at b i → InBoth a b (i + 1)
    both_on e = record { high = omega arith; long = inv.long; is = rw (step, eq-eqb (byte_at a i) (byte_at b i) e) at inv.is }

pub ruleset of_runs = (run_out, run_on, run_end)

pub ruleset of_places = (here_far, here_two)

pub ruleset of_blanks = (blanks_out, blanks_on, blanks_end)

pub ruleset of_words = (begins_short, word_out, word_on, word_end)
