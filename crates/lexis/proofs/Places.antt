-- Places: what is read from a place of a text lies in the text. Assumes nothing.
use mathlib.Core.Path.{◌≡◌, refl, sym}
use mathlib.Core.Bool.{Bool, true, false, cond, not, ◌&&◌, ◌||◌, false≢true, or-true}
use mathlib.Core.Logic.{◌≢◌}
use mathlib.Core.List.{List, [], ◌∷◌}
use Prim.Native.Nat.{ℕ, zero, suc, ◌+◌, ◌≤◌, ◌<◌}
use native.Mathlib.Omega.{arith}
use lib.Dec.{eqb, leb}
use lib.ListN.{length, drop, length-drop}
use lib.Seq.{drop-cons}
use native.Mathlib.Numerals.{add-one}
use borrow.Author.Tests.{leb-false, eqb-true, eqb-false}
use Rattle.lexis.specs.Bytes.{is, blank, line_end, digit, small, capital, mark, word_byte, string_byte}
use Rattle.lexis.specs.Runs.{past, byte_at, starts_with, shaped, allows}
use Rattle.lexis.specs.Blanks.{skip, opens_comment, token_start}
use Rattle.lexis.specs.Spelling.{Literal, mark_spellings, keywords, element_sign, booleans, date_pattern_spellings, time_pattern_spellings, code_start, date_shape}
use Rattle.lexis.specs.Text.{byte}
use Rattle.lexis.specs.Tokens.{token, no_token, spelled, word, number, sign, quoted, code_end, bracket, special, token_on, token_at, text_end, unreadable, type_name, name, integer, date, string, code}
use Rattle.lexis.specs.declared.Token.{Token}
use Rattle.lexis.proofs.Cases.{by_cond, and_right}

-- a place that a walk over bytes from a place on comes to
pub record Between (low high x : ℕ) : Type 0 where
  pub least : low ≤ x
  pub most : x ≤ high

between_cond : (low high : ℕ) (b : Bool) (x y : ℕ) → Between low high x → Between low high y
    → Between low high (cond b x y)
between_cond low high true x y f g = f
between_cond low high false x y f g = g

-- blanks and comments
pub skip-between : (bs : List ℕ) (inside : Bool) (at : ℕ) → Between at (at + length bs) (skip inside at bs)
unfolding skip
skip-between [] true at = omega arith
skip-between [] false at = omega arith
skip-between (b ∷ bs) true at = let h = skip-between bs (not (line_end b)) (at + 1) in omega arith
skip-between (b ∷ bs) false at =
    let h = skip-between bs (opens_comment b bs) (at + 1) in
    between_cond at (at + suc (length bs)) (is blank b || opens_comment b bs) (skip (opens_comment b bs) (at + 1) bs) at (omega arith) (omega arith)

-- a run
pub past_between : (test : ℕ → Bool) (at : ℕ) (bs : List ℕ) → Between at (at + length bs) (past test at bs)
unfolding past
past_between test at [] = omega arith
past_between test at (b ∷ bs) =
    let h = past_between test (at + 1) bs in
    between_cond at (at + suc (length bs)) (test b) (past test (at + 1) bs) at (omega arith) (omega arith)

-- from a place of the text on
module _ (s : List ℕ) (from : ℕ) (h : from ≤ length s) where
  pub start_between : Between from (length s) (token_start s from)
  start_between = let b = skip-between (drop from s) false from in let e = length-drop from s in omega arith

  pub run-between : (test : ℕ → Bool) → Between from (length s) (past test from (drop from s))
  run-between test = let b = past_between test from (drop from s) in let e = length-drop from s in omega arith

-- bytes that begin as a word or a shape is spelled are as many
pub starts_long : (w bs : List ℕ) → starts_with w bs ≡ true → length w ≤ length bs
unfolding starts_with
starts_long [] bs h = omega arith
starts_long (x ∷ w) [] h = absurd (false≢true h)
starts_long (x ∷ w) (b ∷ bs) h = let g = starts_long w bs (and_right (eqb x b) (starts_with w bs) h) in omega arith

pub shaped_long : (w bs : List ℕ) → shaped w bs ≡ true → length w ≤ length bs
unfolding shaped
shaped_long [] bs h = omega arith
shaped_long (x ∷ w) [] h = absurd (false≢true h)
shaped_long (x ∷ w) (b ∷ bs) h = let g = shaped_long w bs (and_right (allows x b) (shaped w bs) h) in omega arith

-- a token that starts at a place of the text
pub record Spans (s : List ℕ) (at : ℕ) (t : Token) : Type 0 where
  pub here : t.start ≡ at
  pub order : at ≤ t.end
  pub inside : t.end ≤ length s
  pub strict : t.sort ≢ text_end → t.sort ≢ unreadable → at < t.end

-- no spelling of a list is empty
abbrev pub Nonempty : List Literal → Type 0
Nonempty [] = Unit {0}
Nonempty (l ∷ ls) = (0 < length l.spelling) × Nonempty ls

module _ (s : List ℕ) (at : ℕ) where
  pub spans_cond : (b : Bool) (x y : Token) → (b ≡ true → Spans s at x) → (b ≡ false → Spans s at y)
      → Spans s at (cond b x y)
  spans_cond true x y f g = f refl
  spans_cond false x y f g = g refl

  pub none_spans : at ≤ length s → Spans s at (no_token at)
  none_spans h = record { here = refl; order = omega arith; inside = h; strict = λ m n. absurd (n refl) }

  pub end_spans : at ≤ length s → Spans s at (token text_end at at)
  end_spans h = record { here = refl; order = omega arith; inside = h; strict = λ m n. absurd (m refl) }

  -- a token that has a byte
  pub to_spans : (sort end : ℕ) → at < end → end ≤ length s → Spans s at (token sort at end)
  to_spans sort end l h = record { here = refl; order = omega arith; inside = h; strict = λ m n. l }

  pub spelled_spans : (ls : List Literal) (t : Token) → at ≤ length s → Nonempty ls → Spans s at t
      → Spans s at (spelled ls at (drop at s) t)
  unfolding spelled
  spelled_spans [] t h ne p = p
  spelled_spans (l ∷ ls) t h ne p =
      spans_cond (starts_with l.spelling (drop at s)) _ _
      (λ e. let g = starts_long l.spelling (drop at s) e in let d = length-drop at s in
      to_spans l.sort (at + length l.spelling) (omega (arith, ne.0)) (omega arith))
      (λ e. spelled_spans ls t h ne.1 p)

-- a byte other than 0 stands in the text
pub byte_inside : (s : List ℕ) (at b : ℕ) → byte_at s at ≡ b → b ≢ 0 → at < length s
byte_inside [] at b e n = absurd (n (sym e))
byte_inside (x ∷ s) zero b e n = omega arith
byte_inside (x ∷ s) (suc at) b e n = let h = byte_inside s at b e n in omega arith

pub drop_in : (s : List ℕ) (at : ℕ) → at < length s → drop at s ≡ byte_at s at ∷ drop (at + 1) s
drop_in s at h = rw (add-one, drop-cons s at 0)

-- a run whose first byte passes is not empty
pub run_strict : (s : List ℕ) (at : ℕ) (test : ℕ → Bool) → at < length s → test (byte_at s at) ≡ true
    → at < past test at (drop at s)
unfolding past
run_strict s at test h e =
    let g = past_between test (at + 1) (drop (at + 1) s) in
    let q : past test at (drop at s) ≡ past test (at + 1) (drop (at + 1) s) = rw (drop_in s at h, e) in
    omega arith

pub capital-word : (b : ℕ) → is capital b ≡ true → word_byte b ≡ true
unfolding word_byte
capital-word b e = rw (e, or-true)

pub small_word : (b : ℕ) → is small b ≡ true → word_byte b ≡ true
unfolding word_byte
small_word b e = rw e

-- behind `[at`
pub code-between : (bs : List ℕ) (some : Bool) (at : ℕ) → code_end some at bs ≢ 0
    → (at < code_end some at bs) × (code_end some at bs ≤ at + length bs)
unfolding code_end
code-between [] some at = λ n. absurd (n refl)
code-between (b ∷ bs) some at =
    by_cond (λ x. x ≢ 0 → (at < x) × (x ≤ at + suc (length bs))) (is digit b || eqb b (byte ".") && some)
    (λ e n. let g = code-between bs (is digit b) (at + 1) n in omega arith)
    (λ e. by_cond (λ x. x ≢ 0 → (at < x) × (x ≤ at + suc (length bs))) (eqb b (byte "]") && some) (λ f n. omega arith) (λ f n. absurd (n refl)))

module _ (s : List ℕ) (at : ℕ) (h : at < length s) where
  word_spans : (ls : List Literal) (sort : ℕ) → word_byte (byte_at s at) ≡ true → Spans s at (word s ls sort at)
  word_spans ls sort e =
      let b = run-between s at (omega arith) word_byte in
      to_spans s at _ (past word_byte at (drop at s)) (run_strict s at word_byte h e) b.most

  number_spans : is digit (byte_at s at) ≡ true → Spans s at (number s at)
  number_spans e =
      let b = run-between s at (omega arith) (is digit) in
      spans_cond s at (shaped date_shape (drop at s)) _ _
      (λ f. let g = shaped_long date_shape (drop at s) f in let d = length-drop at s in to_spans s at date (at + 10) (omega arith) (omega arith))
      (λ f. to_spans s at integer _ (run_strict s at (is digit) h e) b.most)

  sign_spans : Spans s at (sign s at)
  sign_spans =
      let b = run-between s (at + 1) (omega arith) (is digit) in
      spans_cond s at (eqb (byte_at s at) (byte "-") && is digit (byte_at s (at + 1))) _ _
      (λ f. to_spans s at integer _ (omega arith) b.most)
      (λ f. spelled_spans s at mark_spellings (no_token at) (omega arith) (omega arith) (none_spans s at (omega arith)))

  pub quoted_spans : Spans s at (quoted s at)
  quoted_spans =
      let b = run-between s (at + 1) (omega arith) string_byte in
      spans_cond s at (eqb (byte_at s (past string_byte (at + 1) (drop (at + 1) s))) (byte "\"")) _ _
      (λ f. let g = byte_inside s (past string_byte (at + 1) (drop (at + 1) s)) (byte "\"") (eqb-true _ _ f) (λ z. eqb-false (byte "\"") 0 refl z) in
      to_spans s at string _ (omega arith) (omega arith))
      (λ f. none_spans s at (omega arith))

  bracket_spans : Spans s at (bracket s at)
  bracket_spans =
      spans_cond s at (starts_with code_start (drop at s)) _ _
      (λ e.
      spans_cond s at (eqb (code_end false (at + 3) (drop (at + 3) s)) 0) _ _
      (λ f. none_spans s at (omega arith))
      (λ f.
      let g = starts_long code_start (drop at s) e in
      let d = length-drop at s in
      let c = length-drop (at + 3) s in
      let k = code-between (drop (at + 3) s) false (at + 3) (eqb-false _ 0 f) in
      to_spans s at code _ (omega arith) (omega arith)))
      (λ e. none_spans s at (omega arith))

  special_spans : Spans s at (special s at)
  special_spans =
      spans_cond s at (eqb (byte_at s at) (byte "\"")) _ _ (λ e. quoted_spans) (λ e.
      spans_cond s at (eqb (byte_at s at) (byte "[")) _ _ (λ f. bracket_spans) (λ f.
      spelled_spans s at element_sign (no_token at) (omega arith) (omega arith) (none_spans s at (omega arith))))

-- the token that starts at a place of the text
pub on_spans : (s : List ℕ) (at : ℕ) → at ≤ length s → Spans s at (token_on s at)
unfolding token_on
on_spans s at h =
    spans_cond s at (leb (length s) at) _ _ (λ e. end_spans s at h) (λ e.
    let l : at < length s = leb-false _ _ e in
    spans_cond s at (is capital (byte_at s at)) _ _
    (λ f. spelled_spans s at time_pattern_spellings _ h (omega arith) (word_spans s at l booleans type_name (capital-word _ f)))
    (λ f. spans_cond s at (is small (byte_at s at)) _ _
    (λ g. spelled_spans s at date_pattern_spellings _ h (omega arith) (word_spans s at l keywords name (small_word _ g)))
    (λ g. spans_cond s at (is digit (byte_at s at)) _ _ (number_spans s at l)
    (λ k. spans_cond s at (is mark (byte_at s at)) _ _ (λ m. sign_spans s at l) (λ m. special_spans s at l)))))

-- the next token, from a place of the text on
pub record Found (s : List ℕ) (from : ℕ) (t : Token) : Type 0 where
  pub start : from ≤ t.start
  pub order : t.start ≤ t.end
  pub inside : t.end ≤ length s
  pub strict : t.sort ≢ text_end → t.sort ≢ unreadable → t.start < t.end

pub found_by : (s : List ℕ) (from : ℕ) (t : Token) → from ≤ length s → Spans s (token_start s from) t → Found s from t
found_by s from t h p =
    let b = start_between s from h in
    record { start = omega arith; order = omega arith; inside = p.inside; strict = λ m n. let k = p.strict m n in omega arith }

pub token-found : (s : List ℕ) (from : ℕ) → from ≤ length s → Found s from (token_at s from)
unfolding token_at
token-found s from h =
    let b = start_between s from h in
    found_by s from _ h (on_spans s (token_start s from) b.most)
