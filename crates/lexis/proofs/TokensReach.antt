-- Where bytes spell a token, the definition's token at their place can be read, ends no earlier, and has their sort where it ends with them. Assumes nothing.
use mathlib.Core.Path.{◌≡◌, refl, sym}
use mathlib.Core.Logic.{◌≢◌}
use mathlib.Core.Bool.{Bool, true, false, not, ◌&&◌, ◌||◌}
use mathlib.Core.List.{List, [], ◌∷◌, ◌++◌}
use Prim.Native.Nat.{ℕ, ◌+◌, ◌≤◌, ◌<◌}
use native.Mathlib.Omega.{arith}
use lib.Dec.{eqb, leb, ltb, lit<}
use lib.ListN.{length, drop}
use borrow.Author.Tests.{eqb-true, leb-true, ltb-true, not-true}
use Rattle.lexis.specs.Text.{byte, bytes}
use Rattle.lexis.specs.Bytes.{is, sort_of, digit, small, capital, mark, word_byte}
use Rattle.lexis.specs.Runs.{past, part, byte_at, starts_with, shaped, allows, any_digit, all, same}
use Rattle.lexis.specs.Spelling.{Literal, word_sort, keywords, booleans, date_pattern_spellings, time_pattern_spellings, date_shape, less, greater, at_most, at_least}
use Rattle.lexis.specs.Tokens.{token, unreadable, spelled, word, token_on, type_name, name, integer}
use Rattle.lexis.specs.declared.Token.{Token}
use Rattle.lexis.proofs.Cases.{by_cond, either, and_left, and_right}
use Rattle.lexis.proofs.Places.{capital-word, small_word}
use Rattle.lexis.proofs.RunLaws.{part_read, behind, first_read}
use Rattle.lexis.proofs.ReadBack.{on_sort, every, date_read, string_read, code_read}
use Rattle.lexis.proofs.SpelledBack.{literal_read, literals, literal_at, free}
use Rattle.lexis.specs.SpellingRules.{Digits, CapitalWord, SmallWord, Quoted, Spells}
use Rattle.lexis.proofs.TestLaws.{true_or_false, false_true, ne_same, or_left, or_right, and_both}
use Rattle.lexis.proofs.ByteRules.{is_digit, is_small, is_capital, is_word-byte, is_string-byte, is_all, past_least}
use Rattle.lexis.proofs.NumeralLaws.{digits_all, date_shape_lem, is_grouped}

-- a token that can be read and ends no earlier than a place; where it ends there, it has the sort
pub record Reaches (end sort : ℕ) (t : Token) : Type 0 where
  pub readable : unreadable < t.sort
  pub far : end ≤ t.end
  pub alike : t.end ≡ end → t.sort ≡ sort

-- the token that ends there, of that sort
exactly : {at end sort : ℕ} {t : Token} → t ≡ token sort at end → unreadable < sort → Reaches end sort t
exactly e l = rw e (record { readable = l; far = omega arith; alike = λ q. refl })

-- bytes that pass a test, and begin as a spelling that has a byte which fails it, are fewer
fewer : (test : ℕ → Bool) (spelling w rest : List ℕ) → starts_with spelling (w ++ rest) ≡ true → all test w ≡ true
    → all test spelling ≡ false
    → length w < length spelling
unfolding starts_with all
fewer test [] w rest h a n = absurd (false_true (sym n))
fewer test (x ∷ xs) [] rest h a n = omega arith
fewer test (x ∷ xs) (b ∷ w) rest h a n =
    let e = eqb-true x b (and_left (eqb x b) (starts_with xs (w ++ rest)) h) in
    let m : all test xs ≡ false = rw (e, and_left (test b) (all test w) a) at n in
    let l = fewer test xs w rest (and_right (eqb x b) (starts_with xs (w ++ rest)) h) (and_right (test b) (all test w) a) m in
    omega arith

-- each spelling of a list has a byte that no word has, and its sort can be read
abbrev not_words : List Literal → Bool
not_words ls = every (λ l. not (all word_byte l.spelling) && leb 2 l.sort) ls

-- each sort of a list can be read
abbrev readables : List Literal → Bool
readables ls = every (λ l. leb 2 l.sort) ls

-- a word can be read, where its list and the sort given can
word_readable : (ls : List Literal) (w : List ℕ) (given : ℕ) → readables ls ≡ true → unreadable < given
    → unreadable < word_sort ls w given
unfolding every word_sort
word_readable [] w given k l = l
word_readable (x ∷ xs) w given k l =
    let y = leb 2 x.sort in
    either (λ n. unreadable < n) (same x.spelling w) (leb-true 2 x.sort (and_left y (readables xs) k)) (word_readable xs w given (and_right y (readables xs) k) l)

module _ (s : List ℕ) (at : ℕ) (w rest : List ℕ) (h : drop at s ≡ w ++ rest) (a : all word_byte w ≡ true) where
  -- a spelling of the list that stands there is longer
  spelled_reaches : (sort : ℕ) (ls : List Literal) (t : Token) → not_words ls ≡ true → Reaches (at + length w) sort t
      → Reaches (at + length w) sort (spelled ls at (drop at s) t)
  unfolding spelled every
  spelled_reaches sort [] t k r = r
  spelled_reaches sort (l ∷ ls) t k r =
      let x = not (all word_byte l.spelling) in
      let y = leb 2 l.sort in
      let z = not_words ls in
      by_cond (Reaches (at + length w) sort) (starts_with l.spelling (drop at s))
      (λ e. let m = fewer word_byte l.spelling w rest (rw h at e) a (not-true _ (and_left x y (and_left (x && y) z k))) in
      record { readable = leb-true 2 l.sort (and_right x y (and_left (x && y) z k)); far = omega arith; alike = λ q. absurd (omega arith) })
      (λ e. spelled_reaches sort ls t (and_right (x && y) z k) r)

  -- the word found there is these bytes, or goes on behind them
  word_reaches : (sort given : ℕ) (ls : List Literal) → readables ls ≡ true → unreadable < given
      → word_sort ls w given ≡ sort
      → Reaches (at + length w) sort (word s ls given at)
  word_reaches sort given ls k l e =
      let end = past word_byte at (drop at s) in
      let f : at + length w ≤ end = rw h (past_least word_byte at w rest a) in
      record { readable = word_readable ls (part s at end) given k l; far = f; alike = alike }
    where
      alike : past word_byte at (drop at s) ≡ at + length w
          → word_sort ls (part s at (past word_byte at (drop at s))) given ≡ sort
      alike q = rw (q, part_read s at w rest h) e

-- a capital or a small letter and bytes of words
module _ (s : List ℕ) (at b : ℕ) (ws rest : List ℕ) (h : drop at s ≡ (b ∷ ws) ++ rest) (a : all word_byte ws ≡ true)
    (sort : ℕ) where
  capital_reaches : is capital b ≡ true → word_sort booleans (b ∷ ws) type_name ≡ sort
      → Reaches (at + length (b ∷ ws)) sort (token_on s at)
  unfolding all every word_byte sort_of
  capital_reaches c e =
      let g = and_both (word_byte b) (all word_byte ws) (capital-word b c) a in
      rw (on_sort s at b (ws ++ rest) h capital (eqb-true _ _ c))
      (spelled_reaches s at (b ∷ ws) rest h g sort time_pattern_spellings _ refl (word_reaches s at (b ∷ ws) rest h g sort type_name booleans refl (lit< tt) e))

  small_reaches : is small b ≡ true → word_sort keywords (b ∷ ws) name ≡ sort
      → Reaches (at + length (b ∷ ws)) sort (token_on s at)
  unfolding all every word_byte sort_of
  small_reaches c e =
      let g = and_both (word_byte b) (all word_byte ws) (small_word b c) a in
      rw (on_sort s at b (ws ++ rest) h small (eqb-true _ _ c))
      (spelled_reaches s at (b ∷ ws) rest h g sort date_pattern_spellings _ refl (word_reaches s at (b ∷ ws) rest h g sort name keywords refl (lit< tt) e))

-- digits that begin in a shape which has a byte other than digits are fewer
in_digits : ℕ → Bool
in_digits x = eqb x any_digit || is digit x

allows-digit : (x b : ℕ) → allows x b ≡ true → is digit b ≡ true → in_digits x ≡ true
unfolding in_digits
allows-digit x b h d =
    true_or_false (eqb x any_digit) (λ e. or_left (eqb x any_digit) (is digit x) e) (λ e.
    let q = eqb-true x b (rw e at h) in or_right (eqb x any_digit) (is digit x) (rw q d))

fewer_digits : (shape w rest : List ℕ) → shaped shape (w ++ rest) ≡ true → all (is digit) w ≡ true
    → all in_digits shape ≡ false
    → length w < length shape
unfolding shaped all
fewer_digits [] w rest h a n = absurd (false_true (sym n))
fewer_digits (x ∷ xs) [] rest h a n = omega arith
fewer_digits (x ∷ xs) (b ∷ w) rest h a n =
    let e = allows-digit x b (and_left (allows x b) (shaped xs (w ++ rest)) h) (and_left (is digit b) (all (is digit) w) a) in
    let l = fewer_digits xs w rest (and_right (allows x b) (shaped xs (w ++ rest)) h) (and_right (is digit b) (all (is digit) w) a) (rw e at n) in
    omega arith

-- digits, and `-` and digits
digits_reach : (s : List ℕ) (at : ℕ) {w : List ℕ} (rest : List ℕ) → Digits w → drop at s ≡ w ++ rest
    → Reaches (at + length w) integer (token_on s at)
unfolding all in_digits sort_of
digits_reach s at rest (Digits.digits {b = b} {w = w} d a) h =
    let g = digits_all (Digits.digits d a) in
    let f : at + length (b ∷ w) ≤ past (is digit) at (drop at s) = rw h (past_least (is digit) at (b ∷ w) rest g) in
    rw (on_sort s at b (w ++ rest) h digit (eqb-true _ _ ((is_digit b).1 d)))
    (by_cond (Reaches (at + length (b ∷ w)) integer) (shaped date_shape (drop at s))
    (λ e. let l = fewer_digits date_shape (b ∷ w) rest (rw h at e) g refl in
    record { readable = lit< tt; far = omega arith; alike = λ q. absurd (omega arith) })
    (λ e. record { readable = lit< tt; far = f; alike = λ q. refl }))

signed_reach : (s : List ℕ) (at : ℕ) {w : List ℕ} (rest : List ℕ) → Digits w → drop at s ≡ (byte "-" ∷ w) ++ rest
    → Reaches (at + length (byte "-" ∷ w)) integer (token_on s at)
unfolding sort_of
signed_reach s at rest (Digits.digits {b = b} {w = w} d a) h =
    let g = digits_all (Digits.digits d a) in
    let t = behind s at (byte "-" ∷ []) ((b ∷ w) ++ rest) h in
    let f : at + 1 + length (b ∷ w) ≤ past (is digit) (at + 1) (drop (at + 1) s) = rw t (past_least (is digit) (at + 1) (b ∷ w) rest g) in
    rw (on_sort s at (byte "-") ((b ∷ w) ++ rest) h mark refl, first_read s at _ _ h, first_read s (at + 1) _ _ t, (is_digit b).1 d)
    (record { readable = lit< tt; far = omega arith; alike = λ q. refl })

-- spellings of the list of literals: one that can be read, behind which the next byte may stand
allowed : ℕ → ℕ → Bool
allowed i next = ltb i (length literals) && ltb unreadable (literal_at i).sort && free (literal_at i).sort next

literal_reaches : (s : List ℕ) (at : ℕ) (rest : List ℕ) (i : ℕ) → allowed i (byte_at rest 0) ≡ true
    → drop at s ≡ (literal_at i).spelling ++ rest
    → Reaches (at + length (literal_at i).spelling) (literal_at i).sort (token_on s at)
unfolding allowed
literal_reaches s at rest i k h =
    let x = ltb i (length literals) in
    let y = ltb unreadable (literal_at i).sort in
    let z = free (literal_at i).sort (byte_at rest 0) in
    let l = and_left (x && y) z k in
    exactly (literal_read s at rest i (ltb-true _ _ (and_left x y l)) h (and_right (x && y) z k)) (ltb-true _ _ (and_right x y l))

-- a mark that `=` makes a longer one
open_reaches : (s : List ℕ) (at c sort longer : ℕ) → unreadable < sort → unreadable < longer
    → ((rest : List ℕ) → drop at s ≡ (c ∷ []) ++ rest → eqb (byte_at rest 0) (byte "=") ≡ false
    → token_on s at ≡ token sort at (at + 1))
    → ((rest : List ℕ) → drop at s ≡ (c ∷ byte "=" ∷ []) ++ rest → token_on s at ≡ token longer at (at + 2))
    → (rest : List ℕ) → drop at s ≡ (c ∷ []) ++ rest → Reaches (at + 1) sort (token_on s at)
open_reaches s at c sort longer k l f g [] h = exactly (f [] h refl) k
open_reaches s at c sort longer k l f g (r ∷ rs) h =
    true_or_false (eqb r (byte "="))
    (λ e. rw (g rs (rw (eqb-true r (byte "=") e) at h)) (record { readable = l; far = omega arith; alike = λ q. absurd (omega arith) }))
    (λ e. exactly (f (r ∷ rs) h e) k)

-- TYPEs and NAMEs are none of the words of the lists
type_sort_lem : (w : List ℕ) → w ≢ bytes "True" → w ≢ bytes "False" → word_sort booleans w type_name ≡ type_name
unfolding word_sort
type_sort_lem w n m = rw (ne_same (bytes "True") w (λ e. n (sym e)), ne_same (bytes "False") w (λ e. m (sym e)))

name_sort_lem : (w : List ℕ) → w ≢ bytes "matches" → w ≢ bytes "existence" → word_sort keywords w name ≡ name
unfolding word_sort
name_sort_lem w n m = rw (ne_same (bytes "matches") w (λ e. n (sym e)), ne_same (bytes "existence") w (λ e. m (sym e)))

-- a TYPE, and a NAME
type_reaches : {w : List ℕ} → CapitalWord w → w ≢ bytes "True" → w ≢ bytes "False"
    → (s : List ℕ) (at : ℕ) (rest : List ℕ)
    → drop at s ≡ w ++ rest
    → Reaches (at + length w) type_name (token_on s at)
type_reaches (CapitalWord.capital_word {b = b} {w = w} c a) n m s at rest h =
    capital_reaches s at b w rest h ((is_all _ _ is_word-byte w).1 a) type_name ((is_capital b).1 c) (type_sort_lem (b ∷ w) n m)

name_reaches : {w : List ℕ} → SmallWord w → w ≢ bytes "matches" → w ≢ bytes "existence"
    → (s : List ℕ) (at : ℕ) (rest : List ℕ)
    → drop at s ≡ w ++ rest
    → Reaches (at + length w) name (token_on s at)
name_reaches (SmallWord.small_word {b = b} {w = w} c a) n m s at rest h =
    small_reaches s at b w rest h ((is_all _ _ is_word-byte w).1 a) name ((is_small b).1 c) (name_sort_lem (b ∷ w) n m)

-- bytes that spell a token, at a place of a text
pub reaches : {sort : ℕ} {w : List ℕ} → Spells sort w → (s : List ℕ) (at : ℕ) (rest : List ℕ) → drop at s ≡ w ++ rest
    → Reaches (at + length w) sort (token_on s at)
unfolding all word_byte sort_of word_sort same allowed
reaches (Spells.type t) s at rest h = type_reaches t.capital t.not_true t.not_false s at rest h
reaches (Spells.name t) s at rest h = name_reaches t.small t.not_matches t.not_existence s at rest h
reaches Spells.matches s at rest h = small_reaches s at (byte "m") (bytes "atches") rest h refl _ refl refl
reaches Spells.element s at rest h = literal_reaches s at rest 11 refl h
reaches Spells.existence s at rest h = small_reaches s at (byte "e") (bytes "xistence") rest h refl _ refl refl
reaches Spells.is_true s at rest h = capital_reaches s at (byte "T") (bytes "rue") rest h refl _ refl refl
reaches Spells.is_false s at rest h = capital_reaches s at (byte "F") (bytes "alse") rest h refl _ refl refl
reaches (Spells.code {w = w} c) s at rest h = exactly (code_read s at w rest h ((is_grouped w).1 c)) (lit< tt)
reaches (Spells.plain_integer d) s at rest h = digits_reach s at rest d h
reaches (Spells.signed_integer d) s at rest h = signed_reach s at rest d h
reaches (Spells.date d) s at rest h = exactly (date_read s at _ rest h (date_shape_lem d) refl) (lit< tt)
reaches (Spells.string (Quoted.quoted {w = w} a)) s at rest h = exactly (string_read s at w rest h ((is_all _ _ is_string-byte w).1 a)) (lit< tt)
reaches Spells.open_brace s at rest h = literal_reaches s at rest 0 refl h
reaches Spells.close_brace s at rest h = literal_reaches s at rest 1 refl h
reaches Spells.comma s at rest h = literal_reaches s at rest 2 refl h
reaches Spells.star s at rest h = literal_reaches s at rest 3 refl h
reaches Spells.bar s at rest h = literal_reaches s at rest 4 refl h
reaches Spells.dots s at rest h = literal_reaches s at rest 5 refl h
reaches Spells.less s at rest h =
    open_reaches s at (byte "<") less at_most (lit< tt) (lit< tt) (λ r g e. literal_read s at r 7 (lit< tt) g (rw e)) (λ r g. literal_read s at r 6 (lit< tt) g refl) rest h
reaches Spells.greater s at rest h =
    open_reaches s at (byte ">") greater at_least (lit< tt) (lit< tt) (λ r g e. literal_read s at r 9 (lit< tt) g (rw e)) (λ r g. literal_read s at r 8 (lit< tt) g refl) rest h
reaches Spells.at_most s at rest h = literal_reaches s at rest 6 refl h
reaches Spells.at_least s at rest h = literal_reaches s at rest 8 refl h
reaches Spells.plus_minus s at rest h = literal_reaches s at rest 10 refl h
reaches Spells.date_pattern1 s at rest h = literal_reaches s at rest 12 refl h
reaches Spells.date_pattern2 s at rest h = literal_reaches s at rest 13 refl h
reaches Spells.date_pattern3 s at rest h = literal_reaches s at rest 14 refl h
reaches Spells.date_pattern4 s at rest h = literal_reaches s at rest 15 refl h
reaches Spells.date_pattern5 s at rest h = literal_reaches s at rest 16 refl h
reaches Spells.time_pattern1 s at rest h = literal_reaches s at rest 17 refl h
reaches Spells.time_pattern2 s at rest h = literal_reaches s at rest 18 refl h
reaches Spells.time_pattern3 s at rest h = literal_reaches s at rest 19 refl h
reaches Spells.time_pattern4 s at rest h = literal_reaches s at rest 20 refl h
