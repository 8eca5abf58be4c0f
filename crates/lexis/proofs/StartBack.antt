-- Where the next token starts behind blanks, and the text's end. Assumes nothing.
use mathlib.Core.Path.{◌≡◌, refl, sym, ◌∙◌}
use mathlib.Core.Bool.{Bool, true, false, not, ◌&&◌, ◌||◌, false≢true}
use mathlib.Core.List.{List, [], ◌∷◌, ◌++◌, append-nil}
use Prim.Native.Nat.{ℕ, ◌+◌, ◌≤◌}
use native.Mathlib.Omega.{arith}
use native.Mathlib.Nat.{add-zero}
use lib.Dec.{eqb}
use lib.ListN.{length, drop, length-drop}
use borrow.Author.Tests.{eqb-true, eqb-false, ne_eqb, not-true, le-leb}
use Rattle.lexis.specs.Text.{byte}
use Rattle.lexis.specs.Bytes.{is, blank, mark, sort_of}
use Rattle.lexis.specs.Runs.{byte_at, starts_with, same, all}
use Rattle.lexis.specs.Spelling.{Literal, word_sort}
use Rattle.lexis.specs.Blanks.{skip, opens_comment, token_start}
use Rattle.lexis.specs.Tokens.{token, no_token, spelled, token_on, token_at, text_end, unreadable}
use Rattle.lexis.specs.declared.Token.{Token}
use Rattle.lexis.proofs.Cases.{either, and_left, and_right}
use Rattle.lexis.proofs.RunLaws.{behind, next_read, first_read}
use Rattle.lexis.proofs.ReadBack.{on_sort, every}

-- neither a blank nor a comment starts here
unfoldable pub clear : List ℕ → Bool
clear [] = true
clear (b ∷ bs) = not (is blank b || opens_comment b bs)

-- bytes of two sorts differ
differs : (b c k : ℕ) → sort_of b ≡ k → eqb (sort_of c) k ≡ false → eqb b c ≡ false
differs b c k e n = ne_eqb b c (λ q. eqb-false (sort_of c) k n (rw q at e))

-- blanks are skipped, and no more than they
pub skip-run : (at : ℕ) (ws bs : List ℕ) → all (is blank) ws ≡ true → clear bs ≡ true
    → skip false at (ws ++ bs) ≡ at + length ws
unfolding skip all clear sort_of
skip-run at [] [] a c = omega arith
skip-run at [] (b ∷ bs) a c = rw (not-true (is blank b || opens_comment b bs) c) (omega arith)
skip-run at (b ∷ ws) bs a c =
    let e = and_left (is blank b) (all (is blank) ws) a in
    let n = skip-run (at + 1) ws bs (and_right (is blank b) (all (is blank) ws) a) c in
    rw (e, differs b (byte "-") blank (eqb-true _ _ e) refl, n) (omega arith)

-- where the text from a place on is blanks, and then no blank and no comment, the next token starts behind the blanks
module _ (s : List ℕ) (from : ℕ) (ws bs : List ℕ) (h : drop from s ≡ ws ++ bs) (a : all (is blank) ws ≡ true) where
  -- that place is where it starts
  pub start_read : clear bs ≡ true → token_start s from ≡ from + length ws
  start_read c = rw h (skip-run from ws bs a c)

  -- it is the token that starts there
  pub token_behind : clear bs ≡ true → token_at s from ≡ token_on s (from + length ws)
  unfolding token_at
  token_behind c = rw (start_read c)

-- where no blank and no comment starts, the next token starts at once
pub start_here : (s : List ℕ) (from : ℕ) → clear (drop from s) ≡ true → token_start s from ≡ from
unfolding all
start_here s from c = rw add-zero at (start_read s from [] (drop from s) refl refl c)

-- where only blanks follow, the next token is the text's end
pub end_read : (s : List ℕ) (from : ℕ) → from ≤ length s → all (is blank) (drop from s) ≡ true
    → token_at s from ≡ token text_end (length s) (length s)
unfolding token_on clear
end_read s from l a =
    let d = length-drop from s in
    let e : from + length (drop from s) ≡ length s = omega arith in
    token_behind s from (drop from s) [] (sym (append-nil (drop from s))) a refl ∙ rw (e, le-leb (length s) (length s) (omega arith))

-- a place is clear by the byte there and the one behind it
pub clear_at : (s : List ℕ) (from : ℕ) (bs : List ℕ) → drop from s ≡ bs → is blank (byte_at s from) ≡ false
    → (eqb (byte_at s from) (byte "-") && eqb (byte_at s (from + 1)) (byte "-")) ≡ false → clear bs ≡ true
unfolding clear
clear_at s from [] h e n = refl
clear_at s from (b ∷ bs) h e n =
    let p = first_read s from b bs h in
    rw (rw p at e, rw (p, next_read s from (b ∷ []) bs h) at n)

-- nothing that can be read starts with a blank, or as a comment does
module _ (s : List ℕ) (at b : ℕ) (bs : List ℕ) (h : drop at s ≡ b ∷ bs) where
  blank_none : sort_of b ≡ blank → token_on s at ≡ no_token at
  unfolding spelled starts_with sort_of
  blank_none e =
      let n : eqb 0xE2 b ≡ false = ne_eqb 0xE2 b (λ q. eqb-false b 0xE2 (differs b 0xE2 blank e refl) (sym q)) in
      on_sort s at b bs h blank e ∙ rw (h, first_read s at b bs h, differs b (byte "\"") blank e refl, differs b (byte "[") blank e refl, n)

  comment_none : b ≡ byte "-" → byte_at bs 0 ≡ byte "-" → token_on s at ≡ no_token at
  unfolding spelled starts_with sort_of
  comment_none e f = on_sort s at b bs h mark (rw e) ∙ rw (h, first_read s at b bs h, next_read s at (b ∷ []) bs h, e, f)

-- neither of two tests passes
not_or : (x y : Bool) → (x ≡ true → ⊥) → (y ≡ true → ⊥) → not (x || y) ≡ true
not_or true y f g = absurd (f refl)
not_or false true f g = absurd (g refl)
not_or false false f g = refl

-- a place at which something can be read is clear
pub token_clear : (s : List ℕ) (at : ℕ) (bs : List ℕ) → drop at s ≡ bs → eqb (token_on s at).sort unreadable ≡ false
    → clear bs ≡ true
unfolding clear
token_clear s at [] h n = refl
token_clear s at (b ∷ bs) h n =
    not_or (is blank b) (opens_comment b bs)
    (λ e. false≢true (sym n ∙ rw (blank_none s at b bs h (eqb-true _ _ e))))
    (λ e. let x = eqb b (byte "-") in let y = eqb (byte_at bs 0) (byte "-") in
    false≢true (sym n ∙ rw (comment_none s at b bs h (eqb-true _ _ (and_left x y e)) (eqb-true _ _ (and_right x y e)))))

-- behind blanks, a token that can be read is the next token
pub token_read : (s : List ℕ) (from : ℕ) (ws bs : List ℕ) → drop from s ≡ ws ++ bs → all (is blank) ws ≡ true
    → {t : Token} → token_on s (from + length ws) ≡ t → eqb t.sort unreadable ≡ false → token_at s from ≡ t
token_read s from ws bs h a e n =
    token_behind s from ws bs h a (token_clear s (from + length ws) bs (behind s from ws bs h) (rw e n)) ∙ e

-- where no blank stands before it, a token that can be read is the next token
pub token_here_lem : (s : List ℕ) (from : ℕ) {t : Token} → token_on s from ≡ t → eqb t.sort unreadable ≡ false
    → token_at s from ≡ t
unfolding token_at
token_here_lem s from e n = rw (start_here s from (token_clear s from (drop from s) refl (rw e n))) e

-- a word can be read, where its list and its sort can
pub word_readable : (ls : List Literal) (w : List ℕ) (sort : ℕ) → every (λ l. not (eqb l.sort unreadable)) ls ≡ true
    → eqb sort unreadable ≡ false
    → eqb (word_sort ls w sort) unreadable ≡ false
unfolding every word_sort
word_readable [] w sort k e = e
word_readable (l ∷ ls) w sort k e =
    let p = not (eqb l.sort unreadable) in
    let q = every (λ m. not (eqb m.sort unreadable)) ls in
    either (λ x. eqb x unreadable ≡ false) (same l.spelling w) (not-true (eqb l.sort unreadable) (and_left p q k)) (word_readable ls w sort (and_right p q k) e)
