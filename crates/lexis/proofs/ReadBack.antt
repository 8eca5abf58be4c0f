-- What a token's spelling reads back as, where the next byte does not extend it. Assumes nothing.
use mathlib.Core.Path.{◌≡◌, refl, ap, ◌∙◌}
use mathlib.Core.Bool.{Bool, true, false, cond, ◌&&◌, ◌||◌, false≢true}
use mathlib.Core.List.{List, [], ◌∷◌, ◌++◌, append_assoc}
use Prim.Native.Nat.{ℕ, ◌+◌, ◌-◌}
use native.Mathlib.Omega.{arith}
use lib.Dec.{eqb}
use lib.ListN.{length, drop, length-append}
use lib.Seq.{take_at}
use borrow.Author.Tests.{eqb-true, ne_eqb, lt-leb}
use Rattle.lexis.specs.Text.{byte, bytes}
use Rattle.lexis.specs.Bytes.{is, sort_of, digit, small, capital, mark, other, word_byte, string_byte}
use Rattle.lexis.specs.Runs.{past, byte_at, starts_with, shaped, all}
use Rattle.lexis.specs.Spelling.{Literal, word_sort, keywords, booleans, date_pattern_spellings, time_pattern_spellings, code_start, date_shape}
use Rattle.lexis.specs.Tokens.{token, spelling, inner, spelled, word, number, sign, quoted, code_end, special, token_on, type_name, name, integer, date, string, code}
use Rattle.lexis.specs.declared.Token.{Token}
use Rattle.lexis.proofs.Cases.{and_left, and_right}
use Rattle.lexis.proofs.Places.{capital-word, small_word}
use Rattle.lexis.proofs.RunLaws.{past_run, starts_self, starts_not, shaped_longer, shaped_not, breaks, part_read, behind, next_read, first_inside, first_read}

-- the token that a byte of the sort k starts
abbrev pub starting : ℕ → List ℕ → ℕ → Token
starting k s at =
    cond (eqb k capital) (spelled time_pattern_spellings at (drop at s) (word s booleans type_name at))
    (cond (eqb k small) (spelled date_pattern_spellings at (drop at s) (word s keywords name at))
    (cond (eqb k digit) (number s at)
    (cond (eqb k mark) (sign s at) (special s at))))

-- where a byte stands, the token is the one that a byte of its sort starts
pub on_sort : (s : List ℕ) (at b : ℕ) (bs : List ℕ) → drop at s ≡ b ∷ bs → (k : ℕ) → sort_of b ≡ k
    → token_on s at ≡ starting k s at
unfolding token_on
on_sort s at b bs h k e = rw (lt-leb (length s) at (first_inside s at b bs h), first_read s at b bs h, e)

-- tokens that end at the same place
to_end : {sort at x y : ℕ} → x ≡ y → token sort at x ≡ token sort at y
to_end {sort} {at} e = ap (token sort at) e

-- each literal of a list passes a test
unfoldable pub every : (Literal → Bool) → List Literal → Bool
every test [] = true
every test (l ∷ ls) = test l && every test ls

-- where all spellings of a list break at c, none of them begins bytes of words behind which stands neither a byte of words nor c
spelled_not : (c : ℕ) (w rest : List ℕ) → all word_byte w ≡ true → word_byte (byte_at rest 0) ≡ false
    → eqb (byte_at rest 0) c ≡ false
    → (ls : List Literal) (at : ℕ) (t : Token) → every (λ l. breaks word_byte c l.spelling) ls ≡ true
    → spelled ls at (w ++ rest) t ≡ t
unfolding spelled every
spelled_not c w rest a e n [] at t k = refl
spelled_not c w rest a e n (l ∷ ls) at t k =
    let k0 = and_left (breaks word_byte c l.spelling) (every (λ m. breaks word_byte c m.spelling) ls) k in
    let k1 = and_right (breaks word_byte c l.spelling) (every (λ m. breaks word_byte c m.spelling) ls) k in
    rw (starts_not word_byte c l.spelling w rest k0 a e n, spelled_not c w rest a e n ls at t k1)

-- a byte, and bytes of words behind it, that end where a word ends
module _ (s : List ℕ) (at b : ℕ) (ws rest : List ℕ) (h : drop at s ≡ (b ∷ ws) ++ rest) (a : all word_byte ws ≡ true)
    (e : word_byte (byte_at rest 0) ≡ false) where
  -- they are a word of the list, or else of the sort given, and none of the patterns, which all break at c
  word_read : (c sort : ℕ) (patterns ls : List Literal) → every (λ l. breaks word_byte c l.spelling) patterns ≡ true
      → word_byte b ≡ true
      → eqb (byte_at rest 0) c ≡ false
      → spelled patterns at (drop at s) (word s ls sort at)
      ≡ token (word_sort ls (b ∷ ws) sort) at (at + length (b ∷ ws))
  unfolding all
  word_read c sort patterns ls k f n =
      let w = b ∷ ws in
      let g : all word_byte w ≡ true = rw (f, a) in
      let p : past word_byte at (drop at s) ≡ at + length w = rw h (past_run word_byte at w rest g e) in
      rw (p, part_read s at w rest h, h) (spelled_not c w rest g e n patterns at (token (word_sort ls w sort) at (at + length w)) k)

  -- a capital and bytes of words, behind which stands neither a byte of words nor `:`, are a TYPE or a Boolean
  pub type_read : is capital b ≡ true → eqb (byte_at rest 0) (byte ":") ≡ false
      → token_on s at ≡ token (word_sort booleans (b ∷ ws) type_name) at (at + length (b ∷ ws))
  unfolding every breaks word_byte sort_of
  type_read f n = on_sort s at b (ws ++ rest) h capital (eqb-true _ _ f) ∙ word_read (byte ":") type_name time_pattern_spellings booleans refl (capital-word b f) n

  -- a small letter and bytes of words, behind which stands neither a byte of words nor `-`, are a NAME or a keyword
  pub name_read : is small b ≡ true → eqb (byte_at rest 0) (byte "-") ≡ false
      → token_on s at ≡ token (word_sort keywords (b ∷ ws) name) at (at + length (b ∷ ws))
  unfolding every breaks word_byte sort_of
  name_read f n = on_sort s at b (ws ++ rest) h small (eqb-true _ _ f) ∙ word_read (byte "-") name date_pattern_spellings keywords refl (small_word b f) n

-- digits behind which stands neither a digit nor `-` are an integer
pub integer_read : (s : List ℕ) (at b : ℕ) (ws rest : List ℕ) → drop at s ≡ (b ∷ ws) ++ rest
    → all (is digit) (b ∷ ws) ≡ true
    → is digit (byte_at rest 0) ≡ false → eqb (byte_at rest 0) (byte "-") ≡ false
    → token_on s at ≡ token integer at (at + length (b ∷ ws))
unfolding all breaks sort_of
integer_read s at b ws rest h a e n =
    on_sort s at b (ws ++ rest) h digit (eqb-true _ _ (and_left (is digit b) (all (is digit) ws) a))
    ∙ rw (h, shaped_not (byte "-") date_shape (b ∷ ws) rest refl refl a e n, past_run (is digit) at (b ∷ ws) rest a e)

-- `-` and digits behind which stands no digit are an integer
pub negative_read : (s : List ℕ) (at b : ℕ) (ws rest : List ℕ) → drop at s ≡ (byte "-" ∷ b ∷ ws) ++ rest
    → all (is digit) (b ∷ ws) ≡ true
    → is digit (byte_at rest 0) ≡ false → token_on s at ≡ token integer at (at + length (byte "-" ∷ b ∷ ws))
unfolding all sort_of
negative_read s at b ws rest h a e =
    let tail = behind s at (byte "-" ∷ []) ((b ∷ ws) ++ rest) h in
    on_sort s at (byte "-") ((b ∷ ws) ++ rest) h mark refl
    ∙ rw (first_read s at _ _ h, first_read s (at + 1) _ _ tail, and_left (is digit b) (all (is digit) ws) a, tail, past_run (is digit) (at + 1) (b ∷ ws) rest a e) (to_end (omega arith))

-- ten bytes in a date's shape are a date, whatever follows
pub date_read : (s : List ℕ) (at : ℕ) (w rest : List ℕ) → drop at s ≡ w ++ rest → shaped date_shape w ≡ true
    → length w ≡ 10
    → token_on s at ≡ token date at (at + length w)
unfolding shaped
date_read s at [] rest h f n = absurd (false≢true f)
date_read s at (b ∷ ws) rest h f n =
    on_sort s at b (ws ++ rest) h digit (eqb-true _ _ (and_left (is digit b) _ f))
    ∙ rw (h, shaped_longer date_shape (b ∷ ws) rest f, n)

-- a string's bytes in quotes
abbrev pub in_quotes : List ℕ → List ℕ
in_quotes w = byte "\"" ∷ (w ++ (byte "\"" ∷ []))

-- bytes of strings in quotes are read as a quoted string, whatever follows
pub quoted_read : (s : List ℕ) (at : ℕ) (w rest : List ℕ) → drop at s ≡ in_quotes w ++ rest → all string_byte w ≡ true
    → quoted s at ≡ token string at (at + length (in_quotes w))
unfolding string_byte
quoted_read s at w rest h a =
    let q = byte "\"" in
    let tail : drop (at + 1) s ≡ w ++ (q ∷ rest) = behind s at (q ∷ []) (w ++ (q ∷ []) ++ rest) h ∙ append_assoc w (q ∷ []) rest in
    let p : past string_byte (at + 1) (drop (at + 1) s) ≡ at + 1 + length w = rw tail (past_run string_byte (at + 1) w (q ∷ rest) a refl) in
    let l = length-append w (q ∷ []) in
    rw (p, next_read s (at + 1) w (q ∷ rest) tail) (to_end (omega arith))

-- bytes of strings in quotes are a string, whatever follows
pub string_read : (s : List ℕ) (at : ℕ) (w rest : List ℕ) → drop at s ≡ in_quotes w ++ rest → all string_byte w ≡ true
    → token_on s at ≡ token string at (at + length (in_quotes w))
unfolding sort_of
string_read s at w rest h a = on_sort s at (byte "\"") _ h other refl ∙ rw (first_read s at _ _ h) (quoted_read s at w rest h a)

-- between the first and the last byte of a token stands what was put there
pub inner_read : (s : List ℕ) (at a z : ℕ) (w rest : List ℕ) → drop at s ≡ (a ∷ (w ++ (z ∷ []))) ++ rest
    → (sort : ℕ) → inner s (token sort at (at + length (a ∷ (w ++ (z ∷ []))))) ≡ w
inner_read s at a z w rest h sort =
    let l = length-append w (z ∷ []) in
    let n : length w ≡ at + length (a ∷ (w ++ (z ∷ []))) - 1 - (at + 1) = omega arith in
    rw (behind s at (a ∷ []) (w ++ (z ∷ []) ++ rest) h, append_assoc w (z ∷ []) rest) (take_at w (z ∷ rest) _ n)

-- a token's spelling is what stands from its start to its end
pub spelling_read : (s : List ℕ) (at : ℕ) (w rest : List ℕ) → drop at s ≡ w ++ rest → (sort : ℕ)
    → spelling s (token sort at (at + length w)) ≡ w
spelling_read s at w rest h sort = part_read s at w rest h

-- a string without its quotes is what was quoted
pub string-inner : (s : List ℕ) (at : ℕ) (w rest : List ℕ) → drop at s ≡ in_quotes w ++ rest → all string_byte w ≡ true
    → inner s (token_on s at) ≡ w
string-inner s at w rest h a = rw (string_read s at w rest h a) (inner_read s at (byte "\"") (byte "\"") w rest h string)

-- digits, then any number of dot and digits; `some` says that a digit stands before
unfoldable pub grouped : Bool → List ℕ → Bool
grouped some [] = some
grouped some (b ∷ bs) = (is digit b || eqb b (byte ".") && some) && grouped (is digit b) bs

-- `[at`, the digits and dots of a code, `]`
abbrev pub in_brackets : List ℕ → List ℕ
in_brackets w = code_start ++ (w ++ (byte "]" ∷ []))

-- a code ends behind its `]`
code_end_lem : (at : ℕ) (some : Bool) (w rest : List ℕ) → grouped some w ≡ true
    → code_end some at (w ++ (byte "]" ∷ rest)) ≡ at + length w + 1
unfolding grouped code_end sort_of
code_end_lem at some [] rest g = rw g (omega arith)
code_end_lem at some (b ∷ w) rest g =
    let d = is digit b || eqb b (byte ".") && some in
    let n = code_end_lem (at + 1) (is digit b) w rest (and_right d (grouped (is digit b) w) g) in
    rw (and_left d (grouped (is digit b) w) g, n) (omega arith)

-- `[at`, digits, any number of dot and digits, and `]` are a code, whatever follows
pub code_read : (s : List ℕ) (at : ℕ) (w rest : List ℕ) → drop at s ≡ in_brackets w ++ rest → grouped false w ≡ true
    → token_on s at ≡ token code at (at + length (in_brackets w))
unfolding sort_of
code_read s at w rest h g =
    let z = byte "]" in
    let tail : drop (at + 3) s ≡ w ++ (z ∷ rest) = behind s at code_start (w ++ (z ∷ []) ++ rest) h ∙ append_assoc w (z ∷ []) rest in
    let p : starts_with code_start (drop at s) ≡ true = rw h (starts_self code_start (w ++ (z ∷ []) ++ rest)) in
    let l = length-append w (z ∷ []) in
    on_sort s at (byte "[") _ h other refl
    ∙ rw (first_read s at _ _ h, p, tail, code_end_lem (at + 3) false w rest g, ne_eqb (at + 3 + length w + 1) 0 (omega arith)) (to_end (omega arith))

-- a code without its brackets is what stood between them
pub code-inner : (s : List ℕ) (at : ℕ) (w rest : List ℕ) → drop at s ≡ in_brackets w ++ rest → grouped false w ≡ true
    → inner s (token_on s at) ≡ bytes "at" ++ w
code-inner s at w rest h g = rw (code_read s at w rest h g) (inner_read s at (byte "[") (byte "]") (bytes "at" ++ w) rest h code)
