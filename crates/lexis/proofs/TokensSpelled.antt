-- The definition's token at a place of a text is spelled there by the rules, or is the one that cannot be read. Assumes nothing.
use mathlib.Core.Path.{◌≡◌, refl, sym, ap, ◌∙◌, subst}
use mathlib.Core.Bool.{Bool, true, false, ◌&&◌}
use mathlib.Core.List.{List, [], ◌∷◌, ◌++◌, append_assoc}
use Prim.Native.Nat.{ℕ, ◌+◌, ◌<◌}
use native.Mathlib.Omega.{arith}
use lib.Dec.{eqb, leb}
use lib.ListN.{length, drop, length-append, length-take, take-append-drop}
use borrow.Author.Tests.{eqb-true, eqb-false, leb-true}
use lib.Seq.{drop-drop}
use Rattle.lexis.specs.Text.{byte, bytes}
use Rattle.lexis.specs.Bytes.{is, digit, small, capital, mark, word_byte, string_byte}
use Rattle.lexis.specs.Runs.{past, byte_at, starts_with, shaped, all, same}
use Rattle.lexis.specs.Spelling.{Literal, word_sort, mark_spellings, keywords, element_sign, booleans, date_pattern_spellings, time_pattern_spellings, code_start, date_shape, true_word, false_word, matches, existence}
use Rattle.lexis.specs.Tokens.{token, no_token, spelled, word, number, sign, quoted, code_end, bracket, special, token_on, type_name, name}
use Rattle.lexis.specs.Tokens
use Rattle.lexis.specs.declared.Token.{Token}
use Rattle.lexis.proofs.Cases.{by_cond, and_left, and_right}
use Rattle.lexis.proofs.Places.{capital-word, small_word, byte_inside, drop_in, shaped_long}
use Rattle.lexis.proofs.RunLaws.{part_read}
use Rattle.lexis.specs.SpellingRules.{Digit, WordByte, All, Digits, CapitalWord, SmallWord, Spells}
use Rattle.lexis.specs.LongestMatch.{SpelledAt}
use Rattle.lexis.proofs.TestLaws.{same_eq, same_ne}
use Rattle.lexis.proofs.ByteRules.{is_digit, is_small, is_capital, is_word-byte, is_all, past_splits}
use Rattle.lexis.proofs.SpelledAtLaws.{Each, spelled_at, starts_whole, spelled_cases, string_here}
use Rattle.lexis.proofs.NumeralLaws.{digit_some, date-spelled, is_grouped, code_split}

-- what stands at a place: nothing that can be read, or a token that is spelled there
pub data Reads (s : List ℕ) (at : ℕ) : Token → Type 0 where
  nothing : Reads s at (no_token at)
  something : {sort end : ℕ} → SpelledAt Spells s at sort end → Reads s at (token sort at end)

-- the literals of each list
mark_rules : Each Spells mark_spellings
mark_rules = (
  Spells.open_brace,
  (
    Spells.close_brace,
    (
      Spells.comma,
      (
        Spells.star,
        (
          Spells.bar,
          (
            Spells.dots,
            (Spells.at_most, (Spells.less, (Spells.at_least, (Spells.greater, (Spells.plus_minus, tt))))),
          ),
        ),
      ),
    ),
  ),
)

date_rules : Each Spells date_pattern_spellings
date_rules = (Spells.date_pattern1, (Spells.date_pattern2, (Spells.date_pattern3, (Spells.date_pattern4, (Spells.date_pattern5, tt)))))

time_rules : Each Spells time_pattern_spellings
time_rules = (Spells.time_pattern1, (Spells.time_pattern2, (Spells.time_pattern3, (Spells.time_pattern4, tt))))

-- a word of the list of Booleans or a TYPE, a keyword or a NAME
type_spelled : {w : List ℕ} → CapitalWord w → Spells (word_sort booleans w type_name) w
unfolding word_sort
type_spelled {w} c =
    by_cond (λ x. Spells x w) (same (bytes "True") w) (λ e. subst (Spells true_word) (same_eq (bytes "True") w e) Spells.is_true) (λ e.
    by_cond (λ x. Spells x w) (same (bytes "False") w) (λ f. subst (Spells false_word) (same_eq (bytes "False") w f) Spells.is_false) (λ f.
    Spells.type (record { capital = c; not_true = λ q. same_ne _ _ e (sym q); not_false = λ q. same_ne _ _ f (sym q) })))

name-spelled : {w : List ℕ} → SmallWord w → Spells (word_sort keywords w name) w
unfolding word_sort
name-spelled {w} c =
    by_cond (λ x. Spells x w) (same (bytes "matches") w) (λ e. subst (Spells matches) (same_eq (bytes "matches") w e) Spells.matches) (λ e.
    by_cond (λ x. Spells x w) (same (bytes "existence") w) (λ f. subst (Spells existence) (same_eq (bytes "existence") w f) Spells.existence) (λ f.
    Spells.name (record { small = c; not_matches = λ q. same_ne _ _ e (sym q); not_existence = λ q. same_ne _ _ f (sym q) })))

-- a run of bytes from a place on whose first byte passes
record RunFrom (test : ℕ → Bool) (s : List ℕ) (at b : ℕ) : Type 0 where
  run : List ℕ
  rest : List ℕ
  both : drop at s ≡ (b ∷ run) ++ rest
  end : past test at (drop at s) ≡ at + length (b ∷ run)
  pass : all test run ≡ true

run-from : (test : ℕ → Bool) (s : List ℕ) (at b : ℕ) (bs : List ℕ) → drop at s ≡ b ∷ bs → test b ≡ true
    → RunFrom test s at b
unfolding past
run-from test s at b bs h e =
    let m = past_splits test (at + 1) bs in
    record { run = m.run; rest = m.rest; both = h ∙ ap (λ l. b ∷ l) m.both; end = rw (h, e, m.end) (omega arith); pass = m.pass }

module _ (s : List ℕ) (at : ℕ) (inside : at < length s) where
  -- bytes at the place that spell a token
  reads_split : {sort : ℕ} {w : List ℕ} (rest : List ℕ) (end : ℕ) → Spells sort w → drop at s ≡ w ++ rest
      → end ≡ at + length w
      → Reads s at (token sort at end)
  reads_split {sort} {w} rest end p h e = rw e (Reads.something (spelled_at Spells s at sort w rest (omega arith) h p))

  -- a list of spellings, a word, digits, `-` and digits or a mark, a string, a code, and what else starts with no sort of byte but `other`
  list_reads : (ls : List Literal) (t : Token) → Each Spells ls → Reads s at t
      → Reads s at (spelled ls at (drop at s) t)
  list_reads ls t p r = spelled_cases Spells s at (omega arith) ls p t (Reads s at) (λ sort end q. Reads.something q) r

  word-reads : (b : ℕ) (bs : List ℕ) → drop at s ≡ b ∷ bs → (ls : List Literal) (given : ℕ) → word_byte b ≡ true
      → ((w : List ℕ) → All WordByte w → Spells (word_sort ls (b ∷ w) given) (b ∷ w))
      → Reads s at (word s ls given at)
  word-reads b bs h ls given e f =
      let m = run-from word_byte s at b bs h e in
      rw (m.end, part_read s at (b ∷ m.run) m.rest m.both)
      (reads_split m.rest _ (f m.run ((is_all WordByte word_byte is_word-byte m.run).0 m.pass)) m.both refl)

  number-reads : (b : ℕ) (bs : List ℕ) → drop at s ≡ b ∷ bs → is digit b ≡ true → Reads s at (number s at)
  number-reads b bs h e =
      by_cond (Reads s at) (shaped date_shape (drop at s))
      (λ f. let l = shaped_long date_shape (drop at s) f in
      reads_split (drop 10 (drop at s)) (at + 10) (date-spelled (drop at s) f) (sym (take-append-drop 10 (drop at s))) (let n = length-take 10 (drop at s) in omega arith))
      (λ f. let m = run-from (is digit) s at b bs h e in
      reads_split m.rest _ (Spells.plain_integer (Digits.digits ((is_digit b).0 e) ((is_all Digit (is digit) is_digit m.run).0 m.pass))) m.both m.end)

  signed_reads : byte_at s at ≡ byte "-" → is digit (byte_at s (at + 1)) ≡ true
      → Reads s at (token Tokens.integer at (past (is digit) (at + 1) (drop (at + 1) s)))
  signed_reads e k =
      let d = byte_at s (at + 1) in
      let g = (is_digit d).0 k in
      let m = run-from (is digit) s (at + 1) d _ (drop_in s (at + 1) (byte_inside s (at + 1) d refl (digit_some g))) k in
      let h : drop at s ≡ (byte "-" ∷ d ∷ m.run) ++ m.rest = drop_in s at inside ∙ (λ i. e i ∷ m.both i) in
      reads_split m.rest _ (Spells.signed_integer (Digits.digits g ((is_all Digit (is digit) is_digit m.run).0 m.pass))) h (m.end ∙ omega arith)

  sign_reads : Reads s at (sign s at)
  sign_reads =
      let x = eqb (byte_at s at) (byte "-") in
      let y = is digit (byte_at s (at + 1)) in
      by_cond (Reads s at) (x && y)
      (λ e. signed_reads (eqb-true _ _ (and_left x y e)) (and_right x y e))
      (λ e. list_reads mark_spellings (no_token at) mark_rules Reads.nothing)

  quoted-reads : byte_at s at ≡ byte "\"" → Reads s at (quoted s at)
  quoted-reads e =
      by_cond (Reads s at) (eqb (byte_at s (past string_byte (at + 1) (drop (at + 1) s))) (byte "\""))
      (λ f. Reads.something (string_here Spells (λ w. Spells.string) s at inside e (eqb-true _ _ f)))
      (λ f. Reads.nothing)

  bracket-reads : Reads s at (bracket s at)
  bracket-reads =
      by_cond (Reads s at) (starts_with code_start (drop at s))
      (λ e.
      by_cond (Reads s at) (eqb (code_end false (at + 3) (drop (at + 3) s)) 0) (λ f. Reads.nothing) (λ f.
      let m = code_split false (at + 3) (drop (at + 3) s) (eqb-false _ 0 f) in
      let z = byte "]" in
      let n : drop (at + 3) s ≡ m.run ++ (z ∷ []) ++ m.rest = m.both ∙ sym (append_assoc m.run (z ∷ []) m.rest) in
      let h : drop at s ≡ (code_start ++ (m.run ++ (z ∷ []))) ++ m.rest = starts_whole code_start (drop at s) e ∙ ap (λ l. code_start ++ l) (drop-drop 3 at s ∙ n) in
      let l = length-append m.run (z ∷ []) in
      let k = m.end in
      reads_split m.rest _ (Spells.code ((is_grouped m.run).0 m.pass)) h (omega arith)))
      (λ e. Reads.nothing)

  special-reads : Reads s at (special s at)
  special-reads =
      by_cond (Reads s at) (eqb (byte_at s at) (byte "\"")) (λ e. quoted-reads (eqb-true _ _ e)) (λ e.
      by_cond (Reads s at) (eqb (byte_at s at) (byte "[")) (λ f. bracket-reads) (λ f. list_reads element_sign (no_token at) (Spells.element, tt) Reads.nothing))

  -- the token that starts at the place
  pub on_reads : Reads s at (token_on s at)
  unfolding token_on
  on_reads =
      let b = byte_at s at in
      let bs = drop (at + 1) s in
      let h = drop_in s at inside in
      by_cond (Reads s at) (leb (length s) at) (λ e. let l = leb-true (length s) at e in absurd (omega arith)) (λ e.
      by_cond (Reads s at) (is capital b)
      (λ k. list_reads time_pattern_spellings _ time_rules
      (word-reads b bs h booleans type_name (capital-word b k) (λ w a. type_spelled (CapitalWord.capital_word ((is_capital b).0 k) a)))) (λ k.
      by_cond (Reads s at) (is small b)
      (λ l. list_reads date_pattern_spellings _ date_rules
      (word-reads b bs h keywords name (small_word b l) (λ w a. name-spelled (SmallWord.small_word ((is_small b).0 l) a)))) (λ l.
      by_cond (Reads s at) (is digit b) (number-reads b bs h) (λ m.
      by_cond (Reads s at) (is mark b) (λ n. sign_reads) (λ n. special-reads)))))
