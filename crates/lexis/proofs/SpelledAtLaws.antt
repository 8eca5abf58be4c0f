-- What is spelled at a place of a text: a literal of a list, a string. Assumes nothing.
use mathlib.Core.Path.{◌≡◌, refl, sym, ap, ◌∙◌}
use mathlib.Core.Bool.{true}
use mathlib.Core.List.{List, [], ◌∷◌, ◌++◌, append_assoc}
use Prim.Native.Nat.{ℕ, suc, ◌+◌, ◌-◌, ◌≤◌, ◌<◌}
use native.Mathlib.Omega.{arith}
use lib.Dec.{eqb}
use lib.ListN.{length, drop, length-append, length-drop}
use borrow.Author.Tests.{eqb-true}
use Rattle.lexis.specs.Text.{byte, bytes}
use Rattle.lexis.specs.Bytes.{string_byte}
use Rattle.lexis.specs.Runs.{past, byte_at, part, all, starts_with}
use Rattle.lexis.specs.Spelling.{Literal}
use Rattle.lexis.specs.Tokens.{token, spelled}
use Rattle.lexis.specs.Tokens
use Rattle.lexis.specs.declared.Token.{Token}
use Rattle.lexis.proofs.Cases.{by_cond, and_left, and_right}
use Rattle.lexis.proofs.Places.{drop_in}
use Rattle.lexis.proofs.RunLaws.{part_read, next_read}
use Rattle.lexis.specs.SpellingRules.{StringByte, Quoted, quoted}
use Rattle.lexis.specs.LongestMatch.{SpelledAt}
use Rattle.lexis.proofs.TestLaws.{false_true}
use Rattle.lexis.proofs.ByteRules.{is_string-byte, is_all, past_splits}

-- what stands at a place and is spelled so
pub spelled_at : (Spelled : ℕ → List ℕ → Type 0) (s : List ℕ) (at sort : ℕ) (w rest : List ℕ) → at ≤ length s
    → drop at s ≡ w ++ rest
    → Spelled sort w → SpelledAt Spelled s at sort (at + length w)
spelled_at Spelled s at sort w rest l h x =
    let n = length-drop at s in
    let m = ap length h in
    let k = length-append w rest in
    record { ordered = omega arith; inside = omega arith; spelled = rw (part_read s at w rest h) x }

-- each literal of a list is spelled as a rule says
abbrev pub Each : (ℕ → List ℕ → Type 0) → List Literal → Type 0
Each Spelled [] = Unit {0}
Each Spelled (l ∷ ls) = Spelled l.sort l.spelling × Each Spelled ls

-- bytes that begin as a word is spelled are the word and the rest
pub starts_whole : (w bs : List ℕ) → starts_with w bs ≡ true → bs ≡ w ++ drop (length w) bs
unfolding starts_with
starts_whole [] bs h = refl
starts_whole (x ∷ w) [] h = absurd (false_true h)
starts_whole (x ∷ w) (b ∷ bs) h =
    let p = eqb-true x b (and_left (eqb x b) (starts_with w bs) h) in
    let q = starts_whole w bs (and_right (eqb x b) (starts_with w bs) h) in
    λ i. sym p i ∷ q i

-- what holds of each literal of a list that stands at a place, and of another token, holds of the token spelled there
pub spelled_cases : (Spelled : ℕ → List ℕ → Type 0) (s : List ℕ) (at : ℕ) → at ≤ length s → (ls : List Literal)
    → Each Spelled ls
    → (t : Token) (P : Token → Type 0) → ((sort end : ℕ) → SpelledAt Spelled s at sort end → P (token sort at end))
    → P t
    → P (spelled ls at (drop at s) t)
unfolding spelled
spelled_cases Spelled s at l [] x t P f g = g
spelled_cases Spelled s at l (y ∷ ls) x t P f g =
    by_cond P (starts_with y.spelling (drop at s))
    (λ e. f y.sort _ (spelled_at Spelled s at y.sort y.spelling _ l (starts_whole y.spelling (drop at s) e) x.0))
    (λ e. spelled_cases Spelled s at l ls x.1 t P f g)

-- the first byte of a part that has one
pub part_first : (s : List ℕ) (at end : ℕ) → at < end → end ≤ length s
    → part s at end ≡ byte_at s at ∷ part s (at + 1) end
part_first s at end h k =
    let n : end - at ≡ suc (end - (at + 1)) = omega arith in
    let l : at < length s = omega arith in
    rw (n, drop_in s at l)

module _ (Spelled : ℕ → List ℕ → Type 0) (string : (w : List ℕ) → Quoted w → Spelled Tokens.string w)
    (s : List ℕ) (at : ℕ) (l : at < length s) where
  -- a string from its first quote on, where the second stands
  string_at : (w rest : List ℕ) → drop (at + 1) s ≡ w ++ rest → all string_byte w ≡ true → byte_at s at ≡ byte "\""
      → byte_at s (at + 1 + length w) ≡ byte "\"" → SpelledAt Spelled s at Tokens.string (at + 1 + length w + 1)
  string_at w [] h a e f = absurd (let n = next_read s (at + 1) w [] h in omega arith)
  string_at w (c ∷ rest) h a e f =
      let q = byte "\"" in
      let g : c ≡ q = sym (next_read s (at + 1) w (c ∷ rest) h) ∙ f in
      let whole : drop at s ≡ (q ∷ (w ++ bytes "\"")) ++ rest = drop_in s at l ∙ rw (e, h, g, append_assoc) in
      let n = length-append w (bytes "\"") in
      let m : at + 1 + length w + 1 ≡ at + length (q ∷ (w ++ bytes "\"")) = omega arith in
      rw m (spelled_at Spelled s at Tokens.string _ rest (omega arith) whole (string _ (quoted ((is_all StringByte string_byte is_string-byte w).0 a))))

  pub string_here : byte_at s at ≡ byte "\"" → byte_at s (past string_byte (at + 1) (drop (at + 1) s)) ≡ byte "\""
      → SpelledAt Spelled s at Tokens.string (past string_byte (at + 1) (drop (at + 1) s) + 1)
  string_here e f =
      let m = past_splits string_byte (at + 1) (drop (at + 1) s) in
      rw m.end (string_at m.run m.rest m.both m.pass e (rw m.end at f))
