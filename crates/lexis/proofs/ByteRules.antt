-- The sorts of bytes by the rules and by the definitions, bytes that all are such, where a run ends, and what stands at a place. Assumes nothing.
use mathlib.Core.Path.{◌≡◌, refl, sym, ap, ◌∙◌, subst}
use mathlib.Core.Logic.{◌↔◌, ◌≢◌}
use mathlib.Core.Bool.{Bool, true, false, cond, or-true}
use mathlib.Core.List.{List, [], ◌∷◌, ◌++◌}
use Prim.Native.Nat.{ℕ, ◌+◌, ◌-◌, ◌≤◌, ◌<◌}
use native.Mathlib.Omega.{arith}
use lib.Dec.{eqb, leb}
use lib.ListN.{length, drop, take-append-drop}
use lib.Seq.{take-append_seam, drop-drop}
use borrow.Author.Tests.{eqb-true, eq-eqb, ne_eqb, leb-true, le-leb}
use Rattle.lexis.specs.Text.{byte, bytes}
use Rattle.lexis.specs.Bytes.{is, sort_of, within, among, blanks, word_byte, string_byte, run_byte, line_end}
use Rattle.lexis.specs.Bytes
use Rattle.lexis.specs.Runs.{past, part, all, StandsAt}
use Rattle.lexis.proofs.Cases.{by_cond, and_left, and_right}
use Rattle.lexis.proofs.ByteLaws.{agree, alike, passes}
use Rattle.lexis.proofs.RunLaws.{part_read, behind}
use Rattle.lexis.proofs.Parts.{part_length}
use Rattle.lexis.proofs.Places.{capital-word, small_word, past_between}
use Rattle.lexis.specs.SpellingRules.{Digit, Small, Capital, WordByte, RunByte, StringByte, All}
use Rattle.lexis.specs.LongestMatch.{LineEnd, Blank}
use Rattle.lexis.proofs.TestLaws.{true_or_false, false_true, or_left, or_cases, and_both}

-- a test that fails does not pass
pub never : {P : Type 0} → false ≡ true → P
never e = absurd (false_true e)

-- what holds of each sort, where the byte is such, holds of the byte's sort
by_sort : (P : ℕ → Type 0) (b : ℕ) → (among b blanks ≡ true → P Bytes.blank)
    → (within (byte "0") (byte "9") b ≡ true → P Bytes.digit)
    → (within (byte "a") (byte "z") b ≡ true → P Bytes.small)
    → (within (byte "A") (byte "Z") b ≡ true → P Bytes.capital)
    → P Bytes.mark
    → P Bytes.other
    → P (sort_of b)
unfolding sort_of
by_sort P b blank digit small capital mark other =
    by_cond P (among b blanks) blank (λ e.
    by_cond P (within (byte "0") (byte "9") b) digit (λ e.
    by_cond P (within (byte "a") (byte "z") b) small (λ e.
    by_cond P (within (byte "A") (byte "Z") b) capital (λ e.
    by_cond P (among b Bytes.marks) (λ e. mark) (λ e. other)))))

-- between two bytes
low : (x y b : ℕ) → within x y b ≡ true → x ≤ b
low x y b h = leb-true x b (and_left (leb x b) (leb b y) h)

high : (x y b : ℕ) → within x y b ≡ true → b ≤ y
high x y b h = leb-true b y (and_right (leb x b) (leb b y) h)

-- bytes in a row that all have a sort
row : (sort x n : ℕ) → passes (λ b. alike true (is sort b)) x n ≡ true → (b : ℕ) → x ≤ b → b < x + n → is sort b ≡ true
row sort x n t b h k = sym (agree (λ y. true) (is sort) x n t b h k)

pub is_digit : (b : ℕ) → (is Bytes.digit b ≡ true) ↔ Digit b
unfolding sort_of
is_digit b = (
  by_sort (λ x. eqb x Bytes.digit ≡ true → Digit b) b
      (λ k. never) (λ k e. Digit.digit (low _ _ b k) (high _ _ b k)) (λ k. never) (λ k. never) never never,
  of,
)
  where
    of : Digit b → is Bytes.digit b ≡ true
    of (Digit.digit l h) = row Bytes.digit (byte "0") 10 refl b l (omega arith)

pub is_small : (b : ℕ) → (is Bytes.small b ≡ true) ↔ Small b
unfolding sort_of
is_small b = (
  by_sort (λ x. eqb x Bytes.small ≡ true → Small b) b
      (λ k. never) (λ k. never) (λ k e. Small.small (low _ _ b k) (high _ _ b k)) (λ k. never) never never,
  of,
)
  where
    of : Small b → is Bytes.small b ≡ true
    of (Small.small l h) = row Bytes.small (byte "a") 26 refl b l (omega arith)

pub is_capital : (b : ℕ) → (is Bytes.capital b ≡ true) ↔ Capital b
unfolding sort_of
is_capital b = (
  by_sort (λ x. eqb x Bytes.capital ≡ true → Capital b) b
      (λ k. never) (λ k. never) (λ k. never) (λ k e. Capital.capital (low _ _ b k) (high _ _ b k)) never never,
  of,
)
  where
    of : Capital b → is Bytes.capital b ≡ true
    of (Capital.capital l h) = row Bytes.capital (byte "A") 26 refl b l (omega arith)

-- one of some bytes
among_cases : (P : ℕ → Type 0) (b x : ℕ) (xs : List ℕ) → among b (x ∷ xs) ≡ true → P x → (among b xs ≡ true → P b) → P b
among_cases P b x xs h p f = or_cases (eqb b x) (among b xs) h (λ e. subst P (sym (eqb-true b x e)) p) f

of_line_end : {b : ℕ} → LineEnd b → line_end b ≡ true
unfolding line_end
of_line_end LineEnd.return = refl
of_line_end LineEnd.feed = refl

pub is_line_end : (b : ℕ) → (line_end b ≡ true) ↔ LineEnd b
unfolding line_end
is_line_end b = (λ h. among_cases LineEnd b (byte "\r") (bytes "\n") h LineEnd.return (λ e. among_cases LineEnd b (byte "\n") [] e LineEnd.feed never), of_line_end)

among-blanks : (b : ℕ) → among b blanks ≡ true → Blank b
unfolding line_end
among-blanks b h =
    among_cases Blank b (byte " ") (bytes "\t\r\n") h Blank.space (λ e.
    among_cases Blank b (byte "\t") (bytes "\r\n") e Blank.tab (λ f. Blank.line_end ((is_line_end b).0 f)))

of_blank : {b : ℕ} → Blank b → is Bytes.blank b ≡ true
unfolding sort_of
of_blank Blank.space = refl
of_blank Blank.tab = refl
of_blank (Blank.line_end LineEnd.return) = refl
of_blank (Blank.line_end LineEnd.feed) = refl

pub is_blank : (b : ℕ) → (is Bytes.blank b ≡ true) ↔ Blank b
is_blank b = (by_sort (λ x. eqb x Bytes.blank ≡ true → Blank b) b (λ k e. among-blanks b k) (λ k. never) (λ k. never) (λ k. never) never never, of_blank)

of_word-byte : {b : ℕ} → WordByte b → word_byte b ≡ true
unfolding word_byte sort_of
of_word-byte {b} (WordByte.small h) = small_word b ((is_small b).1 h)
of_word-byte {b} (WordByte.capital h) = capital-word b ((is_capital b).1 h)
of_word-byte {b} (WordByte.digit h) = rw ((is_digit b).1 h, or-true)
of_word-byte WordByte.underscore = refl

pub is_word-byte : (b : ℕ) → (word_byte b ≡ true) ↔ WordByte b
unfolding word_byte
is_word-byte b = (to, of_word-byte)
  where
    to : word_byte b ≡ true → WordByte b
    to h =
        or_cases _ (eqb b (byte "_")) h
        (λ k. or_cases _ (is Bytes.digit b) k
        (λ l. or_cases (is Bytes.small b) (is Bytes.capital b) l (λ e. WordByte.small ((is_small b).0 e)) (λ e. WordByte.capital ((is_capital b).0 e)))
        (λ e. WordByte.digit ((is_digit b).0 e)))
        (λ e. subst WordByte (sym (eqb-true b (byte "_") e)) WordByte.underscore)

of_run-byte : {b : ℕ} → RunByte b → run_byte b ≡ true
unfolding run_byte word_byte sort_of
of_run-byte {b} (RunByte.word h) = or_left (word_byte b) _ ((is_word-byte b).1 h)
of_run-byte RunByte.plus = refl
of_run-byte RunByte.minus = refl
of_run-byte RunByte.dot = refl
of_run-byte RunByte.colon = refl

pub is_run-byte : (b : ℕ) → (run_byte b ≡ true) ↔ RunByte b
unfolding run_byte
is_run-byte b = (to, of_run-byte)
  where
    to : run_byte b ≡ true → RunByte b
    to h =
        or_cases (word_byte b) (among b (bytes "+-.:")) h (λ e. RunByte.word ((is_word-byte b).0 e)) (λ k.
        among_cases RunByte b (byte "+") (bytes "-.:") k RunByte.plus (λ l.
        among_cases RunByte b (byte "-") (bytes ".:") l RunByte.minus (λ m.
        among_cases RunByte b (byte ".") (bytes ":") m RunByte.dot (λ n.
        among_cases RunByte b (byte ":") [] n RunByte.colon never))))

-- neither of two bytes
neither : (b x y : ℕ) → cond (among b (x ∷ y ∷ [])) false true ≡ true → (b ≢ x) × (b ≢ y)
neither b x y h =
    (λ e. false_true (rw (eq-eqb b x e) at h), λ e. false_true (rw (eq-eqb b y e, or-true) at h))

pub is_string-byte : (b : ℕ) → (string_byte b ≡ true) ↔ StringByte b
unfolding string_byte
is_string-byte b = (to, of)
  where
    to : string_byte b ≡ true → StringByte b
    to h =
        let k = and_left (within 0x20 0x7E b) (cond (among b (bytes "\"\\")) false true) h in
        let n = neither b (byte "\"") (byte "\\") (and_right (within 0x20 0x7E b) (cond (among b (bytes "\"\\")) false true) h) in
        StringByte.string_byte (low _ _ b k) (high _ _ b k) n.0 n.1

    of : StringByte b → string_byte b ≡ true
    of (StringByte.string_byte l k m n) = rw (le-leb 0x20 b l, le-leb b 0x7E k, ne_eqb b (byte "\"") m, ne_eqb b (byte "\\") n)

-- lists by their first element
pub empty_cons : {b : ℕ} {bs : List ℕ} → [] ≡ b ∷ bs → ⊥
empty_cons e = let n = ap length e in omega arith

pub cons_first : {b c : ℕ} {bs cs : List ℕ} → b ∷ bs ≡ c ∷ cs → b ≡ c
cons_first {b} {c} {bs} {cs} e = cc

-- all bytes pass a test where all are such
module _ (Such : ℕ → Type 0) (test : ℕ → Bool) (rule : (b : ℕ) → (test b ≡ true) ↔ Such b) where
  all_to : (w : List ℕ) → all test w ≡ true → All Such w
  unfolding all
  all_to [] h = All.none
  all_to (b ∷ w) h = All.more ((rule b).0 (and_left (test b) (all test w) h)) (all_to w (and_right (test b) (all test w) h))

  all_of : {w : List ℕ} → All Such w → all test w ≡ true
  unfolding all
  all_of All.none = refl
  all_of (All.more {b = b} {w = w} h t) = and_both (test b) (all test w) ((rule b).1 h) (all_of t)

  pub is_all : (w : List ℕ) → (all test w ≡ true) ↔ All Such w
  is_all w = (all_to w, all_of)

-- bytes that stand at a place, and what follows them
pub stands_split : (s : List ℕ) (at : ℕ) (w : List ℕ) → StandsAt s at w → drop at s ≡ w ++ drop (at + length w) s
stands_split s at w h = rw (h, drop-drop) at (sym (take-append-drop (length w) (drop at s)))

pub split_stands : (s : List ℕ) (at : ℕ) (w rest : List ℕ) → drop at s ≡ w ++ rest → StandsAt s at w
split_stands s at w rest h = rw h (take-append_seam w rest)

-- a part of the text, and what follows it
pub part_splits : (s : List ℕ) (at end : ℕ) → at ≤ end → drop at s ≡ part s at end ++ drop end s
part_splits s at end h =
    let e : at + (end - at) ≡ end = omega arith in
    rw (drop-drop, e) at (sym (take-append-drop (end - at) (drop at s)))

-- a run ends behind the bytes that pass, where the next byte, if there is one, fails
pub past_end : (test : ℕ → Bool) (at : ℕ) (w rest : List ℕ) → all test w ≡ true
    → ((b : ℕ) (bs : List ℕ) → rest ≡ b ∷ bs → test b ≡ false)
    → past test at (w ++ rest) ≡ at + length w
unfolding past all
past_end test at [] [] a n = omega arith
past_end test at [] (b ∷ bs) a n = rw (n b bs refl) (omega arith)
past_end test at (b ∷ w) rest a n =
    rw (and_left (test b) (all test w) a, past_end test (at + 1) w rest (and_right (test b) (all test w) a) n) (omega arith)

-- it does not end before them
pub past_least : (test : ℕ → Bool) (at : ℕ) (w rest : List ℕ) → all test w ≡ true
    → at + length w ≤ past test at (w ++ rest)
unfolding past all
past_least test at [] rest a = let h = past_between test at rest in omega arith
past_least test at (b ∷ w) rest a =
    let h = past_least test (at + 1) w rest (and_right (test b) (all test w) a) in
    rw (and_left (test b) (all test w) a) (omega arith)

-- bytes by a test: those that pass, and the rest from the first on that fails
pub record Splits (test : ℕ → Bool) (at : ℕ) (bs : List ℕ) : Type 0 where
  pub run : List ℕ
  pub rest : List ℕ
  pub both : bs ≡ run ++ rest
  pub end : past test at bs ≡ at + length run
  pub pass : all test run ≡ true
  pub fails : (b : ℕ) (cs : List ℕ) → rest ≡ b ∷ cs → test b ≡ false

pub past_splits : (test : ℕ → Bool) (at : ℕ) (bs : List ℕ) → Splits test at bs
unfolding past all
past_splits test at [] = record { run = []; rest = []; both = refl; end = omega arith; pass = refl; fails = λ b cs e. absurd (empty_cons e) }
past_splits test at (b ∷ bs) =
    let m = past_splits test (at + 1) bs in
    true_or_false (test b)
    (λ e. record { run = b ∷ m.run; rest = m.rest; both = ap (λ l. b ∷ l) m.both; end = rw (e, m.end) (omega arith); pass = rw (e, m.pass); fails = m.fails })
    (λ e. record { run = []; rest = b ∷ bs; both = refl; end = rw e (omega arith); pass = refl; fails = λ c cs f. rw (cons_first f) at e })

module _ (test : ℕ → Bool) (s : List ℕ) (at : ℕ) where
  -- the bytes of a text before a run's end pass
  pub past_all : all test (part s at (past test at (drop at s))) ≡ true
  past_all =
      let m = past_splits test at (drop at s) in
      rw (m.end, part_read s at m.run m.rest m.both) m.pass

  -- the byte at a run's end, if there is one, does not
  pub past_next : (b : ℕ) → StandsAt s (past test at (drop at s)) (b ∷ []) → test b ≡ false
  past_next b h =
      let m = past_splits test at (drop at s) in
      let e = past test at (drop at s) in
      let f : m.rest ≡ b ∷ drop (e + 1) s = sym (rw (← m.end) at (behind s at m.run m.rest m.both)) ∙ stands_split s e (b ∷ []) h in
      m.fails b (drop (e + 1) s) f

  -- the end of a run is the one place before which all bytes pass, and at which none does
  pub past_is : (end : ℕ) → at ≤ end → end ≤ length s → all test (part s at end) ≡ true
      → ((b : ℕ) → StandsAt s end (b ∷ []) → test b ≡ false)
      → past test at (drop at s) ≡ end
  past_is end h k a n =
      let l = part_length s at end k in
      let e = past_end test at (part s at end) (drop end s) a (λ b bs f. n b (split_stands s end (b ∷ []) bs f)) in
      ap (past test at) (part_splits s at end h) ∙ e ∙ omega arith
