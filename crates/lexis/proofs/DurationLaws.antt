-- Duration patterns and the slots of duration words, by the definitions and by the rules. Assumes nothing.
use mathlib.Core.Path.{◌≡◌, refl, sym, ap, ◌∙◌}
use mathlib.Core.Logic.{◌≢◌, ◌↔◌}
use mathlib.Core.Bool.{Bool, true, false, cond, ◌&&◌}
use mathlib.Core.List.{List, [], ◌∷◌, ◌++◌, append-nil, append_assoc}
use Prim.Native.Nat.{ℕ, zero, suc, ◌+◌, ◌*◌, ◌/◌, ◌%◌, ◌≤◌, ◌<◌}
use native.Mathlib.Omega.{arith}
use native.Mathlib.Nat.{mul-zero, mul-one, mul_assoc, mul-add}
use lib.Dec.{eqb, leb}
use lib.ListN.{length, length-append}
use lib.Seq.{drop-append_seam}
use borrow.Author.Tests.{eqb-true, eqb-false, eq-eqb, ne_eqb, leb-true, le-leb}
use Rattle.lexis.specs.Text.{byte, bytes}
use Rattle.lexis.specs.Bytes.{is, within}
use Rattle.lexis.specs.Bytes
use Rattle.lexis.specs.Runs.{past, all}
use Rattle.lexis.specs.SpellingRules.{Digit, Small, Digits, All}
use Rattle.lexis.specs.SpellingRules
use Rattle.lexis.specs.Durations.{letter_slot, in_either_case, letter_behind, digit_slot, fill, fill_all, behind_time, behind_date, slots_of, pattern_slots}
use Rattle.lexis.specs.DurationRules.{SlotsInOrder, SlotsBehindP, LetterAlone, letter_alone, DigitsAndLetter, SpellsPattern}
use Rattle.lexis.specs.DurationRules
use Rattle.lexis.proofs.Cases.{and_left, and_right}
use Rattle.lexis.proofs.TestLaws.{true_or_false, or_cases, or_left, or_right}
use Rattle.lexis.proofs.RunLaws.{past_run}
use Rattle.lexis.proofs.ByteRules.{is_digit, is_all, past_splits}
use Rattle.lexis.proofs.NumeralLaws.{digits_all}
use Rattle.lexis.proofs.SlotLaws.{Stop, ended, time_follows, SlotsRead, slots_is}

-- a slot of a pattern is its letter
letter_took : (letter : ℕ) (bs : List ℕ) → letter_slot letter bs ≢ 0
    → (v : List ℕ) × (rest : List ℕ) × (bs ≡ v ++ rest) × (letter_slot letter bs ≡ length v) × LetterAlone letter v
unfolding letter_slot
letter_took letter [] n = absurd (n refl)
letter_took letter (b ∷ bs) n =
    true_or_false (eqb b letter)
    (λ e. (letter ∷ [], bs, ap (λ c. c ∷ bs) (eqb-true b letter e), rw e refl, letter_alone))
    (λ e. absurd (n (rw e refl)))

letter_there : (letter : ℕ) (v rest : List ℕ) → LetterAlone letter v
    → (letter_slot letter (v ++ rest) ≡ length v) × (length v ≢ 0)
unfolding letter_slot
letter_there letter v rest letter_alone = (rw (eq-eqb letter letter refl) refl, λ z. omega arith)

letter_apart : (letter other : ℕ) (v rest : List ℕ) → eqb letter other ≡ false → LetterAlone other v
    → letter_slot letter (v ++ rest) ≡ 0
unfolding letter_slot
letter_apart letter other v rest e letter_alone = rw (ne_eqb other letter (λ z. eqb-false letter other e (sym z))) refl

-- small letters are neither T nor digits
small_not_T : {b : ℕ} → Small b → b ≢ byte "T"
small_not_T (SpellingRules.small l h) e = omega arith

small_no_digit : {b : ℕ} → Small b → is Bytes.digit b ≡ false
small_no_digit {b} s = true_or_false (is Bytes.digit b) (λ e. absurd (apart s ((is_digit b).0 e))) (λ e. e)
  where
    apart : Small b → Digit b → ⊥
    apart (SpellingRules.small l h) (SpellingRules.digit m k) = omega arith

capital_no_digit : {c : ℕ} (b : ℕ) → Small c → b + 32 ≡ c → is Bytes.digit b ≡ false
capital_no_digit {c} b s e = true_or_false (is Bytes.digit b) (λ f. absurd (apart s ((is_digit b).0 f))) (λ f. f)
  where
    apart : Small c → Digit b → ⊥
    apart (SpellingRules.small l h) (SpellingRules.digit m k) = omega arith

letter_stops : (letter : ℕ) (rest : List ℕ) → Small letter → Stop rest → letter_slot letter rest ≡ 0
unfolding letter_slot
letter_stops letter rest s ended = refl
letter_stops letter rest s (time_follows bs) = rw (ne_eqb (byte "T") letter (λ e. small_not_T s (sym e))) refl

letter_reads : SlotsRead letter_slot LetterAlone
letter_reads = record {
  took = letter_took;
  there = λ letter v rest s h. letter_there letter v rest h;
  apart = λ letter other v rest s t e h. letter_apart letter other v rest e h;
  stops = letter_stops;
}

-- a slot of a word is digits and its letter
all_digits : (w : List ℕ) → all (is Bytes.digit) w ≡ true → 1 ≤ length w → Digits w
all_digits [] h l = absurd (omega arith)
all_digits (b ∷ w) h l = one ((is_all Digit (is Bytes.digit) is_digit (b ∷ w)).0 h)
  where
    one : All Digit (b ∷ w) → Digits (b ∷ w)
    one (SpellingRules.more d ds) = SpellingRules.digits d ds

behind_took : (letter n : ℕ) (bs : List ℕ) → letter_behind n letter bs ≢ 0
    → (b : ℕ) × (rest : List ℕ) × (bs ≡ b ∷ rest) × (letter_behind n letter bs ≡ n + 1) × (in_either_case letter b ≡ true)
unfolding letter_behind
behind_took letter n [] h = absurd (h refl)
behind_took letter n (b ∷ bs) h =
    true_or_false (in_either_case letter b)
    (λ e. (b, bs, refl, rw e refl, e))
    (λ e. absurd (h (rw e refl)))

either_case : (letter b : ℕ) (w : List ℕ) → Digits w → length w ≤ 4 → in_either_case letter b ≡ true
    → DigitsAndLetter letter (w ++ (b ∷ []))
either_case letter b w d l h =
    or_cases (eqb b letter) (eqb (b + 32) letter) h
    (λ e. rw (eqb-true b letter e) (DurationRules.small d l))
    (λ e. DurationRules.capital b d l (eqb-true (b + 32) letter e))

-- behind digits
digits_split : (letter : ℕ) (run rest : List ℕ) → past (is Bytes.digit) 0 (run ++ rest) ≡ length run
    → digit_slot letter (run ++ rest) ≡ cond (within 1 4 (length run)) (letter_behind (length run) letter rest) 0
unfolding digit_slot
digits_split letter run rest e = rw (e, drop-append_seam) refl

split_took : (letter : ℕ) (run rest : List ℕ) → past (is Bytes.digit) 0 (run ++ rest) ≡ length run
    → all (is Bytes.digit) run ≡ true → digit_slot letter (run ++ rest) ≢ 0
    → (v : List ℕ) × (more : List ℕ) × (run ++ rest ≡ v ++ more) × (digit_slot letter (run ++ rest) ≡ length v)
    × DigitsAndLetter letter v
split_took letter run rest e a n =
    let d = digits_split letter run rest e in
    true_or_false (within 1 4 (length run))
    (λ h. lettered h (d ∙ rw h refl))
    (λ h. absurd (n (d ∙ rw h refl)))
  where
    lettered : within 1 4 (length run) ≡ true → digit_slot letter (run ++ rest) ≡ letter_behind (length run) letter rest
        → (v : List ℕ) × (more : List ℕ) × (run ++ rest ≡ v ++ more) × (digit_slot letter (run ++ rest) ≡ length v)
        × DigitsAndLetter letter v
    lettered h g =
        let (b, more, r, size, c) = behind_took letter (length run) rest (λ z. n (g ∙ z)) in
        let low = leb-true 1 (length run) (and_left (leb 1 (length run)) (leb (length run) 4) h) in
        let high = leb-true (length run) 4 (and_right (leb 1 (length run)) (leb (length run) 4) h) in (
          run ++ (b ∷ []),
          more,
          ap (λ (l : List ℕ). run ++ l) r ∙ sym (append_assoc run (b ∷ []) more),
          g ∙ (size ∙ sym (length-append run (b ∷ []))),
          either_case letter b run (all_digits run a low) high c,
        )

digit_took : (letter : ℕ) (bs : List ℕ) → digit_slot letter bs ≢ 0
    → (v : List ℕ) × (rest : List ℕ) × (bs ≡ v ++ rest) × (digit_slot letter bs ≡ length v) × DigitsAndLetter letter v
digit_took letter bs n =
    let s = past_splits (is Bytes.digit) 0 bs in
    let e = s.end in
    let z : 0 + length s.run ≡ length s.run = omega arith in
    rw s.both (split_took letter s.run s.rest (rw (← s.both) (e ∙ z)) s.pass (rw s.both at n))

-- digits and a byte that is none
at_letter : (letter b : ℕ) (w rest : List ℕ) → Digits w → length w ≤ 4 → is Bytes.digit b ≡ false
    → digit_slot letter ((w ++ (b ∷ [])) ++ rest) ≡ cond (in_either_case letter b) (length w + 1) 0
unfolding letter_behind
at_letter letter b w rest d l h =
    let e = past_run (is Bytes.digit) 0 w (b ∷ rest) (digits_all d) h in
    let z : 0 + length w ≡ length w = omega arith in
    let g = digits_split letter w (b ∷ rest) (e ∙ z) in
    let m : 1 ≤ length w = some d in
    rw (append_assoc w (b ∷ []) rest) (g ∙ rw (le-leb 1 (length w) m, le-leb (length w) 4 l) refl)
  where
    some : {v : List ℕ} → Digits v → 1 ≤ length v
    some (SpellingRules.digits f fs) = omega arith

-- the letter in either case is no other letter in either case
either_own : (letter : ℕ) → in_either_case letter letter ≡ true
either_own letter = or_left (eqb letter letter) (eqb (letter + 32) letter) (eq-eqb letter letter refl)

either_capital : (letter b : ℕ) → b + 32 ≡ letter → in_either_case letter b ≡ true
either_capital letter b e = or_right (eqb b letter) (eqb (b + 32) letter) (eq-eqb (b + 32) letter e)

either_not : {letter other : ℕ} → Small letter → Small other → eqb letter other ≡ false → in_either_case letter other ≡ false
either_not {letter} {other} (SpellingRules.small a b) (SpellingRules.small c d) e =
    rw (ne_eqb other letter (λ z. eqb-false letter other e (sym z)), ne_eqb (other + 32) letter (λ z. omega arith)) refl

capital_not : {letter other : ℕ} (b : ℕ) → Small letter → Small other → eqb letter other ≡ false → b + 32 ≡ other
    → in_either_case letter b ≡ false
capital_not {letter} {other} b (SpellingRules.small i j) (SpellingRules.small c d) e k =
    rw (ne_eqb b letter (λ z. omega arith), ne_eqb (b + 32) letter (λ z. eqb-false letter other e (sym (sym k ∙ z)))) refl

digit_there : (letter : ℕ) (v rest : List ℕ) → Small letter → DigitsAndLetter letter v
    → (digit_slot letter (v ++ rest) ≡ length v) × (length v ≢ 0)
digit_there letter v rest s (DurationRules.small {w = w} d l) =
    let e = length-append w (letter ∷ []) in
    (at_letter letter letter w rest d l (small_no_digit s) ∙ rw (either_own letter) (sym e), λ z. omega arith)
digit_there letter v rest s (DurationRules.capital {w = w} b d l c) =
    let e = length-append w (b ∷ []) in
    (at_letter letter b w rest d l (capital_no_digit b s c) ∙ rw (either_capital letter b c) (sym e), λ z. omega arith)

digit_apart : (letter other : ℕ) (v rest : List ℕ) → Small letter → Small other → eqb letter other ≡ false
    → DigitsAndLetter other v → digit_slot letter (v ++ rest) ≡ 0
digit_apart letter other v rest s t e (DurationRules.small {w = w} d l) =
    at_letter letter other w rest d l (small_no_digit t) ∙ rw (either_not s t e) refl
digit_apart letter other v rest s t e (DurationRules.capital {w = w} b d l c) =
    at_letter letter b w rest d l (capital_no_digit b t c) ∙ rw (capital_not b s t e c) refl

digit_stops : (letter : ℕ) (rest : List ℕ) → Small letter → Stop rest → digit_slot letter rest ≡ 0
unfolding digit_slot past Bytes.sort_of
digit_stops letter rest s ended = refl
digit_stops letter rest s (time_follows bs) = refl

digit-reads : SlotsRead digit_slot DigitsAndLetter
digit-reads = record { took = digit_took; there = digit_there; apart = digit_apart; stops = digit_stops }

-- a pattern's flag, and the slots of a word
pub pattern_is_lem : (w : List ℕ) (f : ℕ) → f ≢ 0 → (pattern_slots w ≡ f) ↔ SpellsPattern w f
unfolding pattern_slots
pattern_is_lem w f n = slots_is letter_slot LetterAlone letter_reads w f n

pub word_slots_are : (w : List ℕ) (f : ℕ) → f ≢ 0 → (slots_of digit_slot w ≡ f) ↔ SlotsBehindP DigitsAndLetter w f
word_slots_are w f n = slots_is digit_slot DigitsAndLetter digit-reads w f n

-- the letters of a flag's bits, from the lowest on, and the pattern that they spell
unfoldable pub letters_of : List ℕ → ℕ → List ℕ
letters_of [] flag = []
letters_of (letter ∷ letters) flag =
    let more = letters_of letters (flag / 2) in cond (eqb (flag % 2) 1) (letter ∷ more) more

abbrev pub behind_t : ℕ → List ℕ
behind_t flag = cond (eqb flag 0) [] (byte "T" ∷ letters_of (bytes "hms") flag)

unfoldable pub spelled_pattern : ℕ → List ℕ
spelled_pattern flag = byte "P" ∷ (letters_of (bytes "ymwd") (flag % 16) ++ behind_t (flag / 16))

-- all numbers from 1 up to n pass a test
unfoldable all_from1 : ℕ → (ℕ → Bool) → Bool
all_from1 zero test = true
all_from1 (suc n) test = test (suc n) && all_from1 n test

one_of : (n : ℕ) (test : ℕ → Bool) → all_from1 n test ≡ true → (k : ℕ) → 1 ≤ k → k ≤ n → test k ≡ true
unfolding all_from1
one_of zero test h k l m = absurd (omega arith)
one_of (suc n) test h k l m =
    true_or_false (eqb k (suc n))
    (λ e. rw (eqb-true k (suc n) e) (and_left (test (suc n)) (all_from1 n test) h))
    (λ e. let z = eqb-false k (suc n) e in one_of n test (and_right (test (suc n)) (all_from1 n test) h) k l (omega arith))

-- every flag's pattern has that flag
all_back : all_from1 127 (λ flag. eqb (pattern_slots (spelled_pattern flag)) flag) ≡ true
unfolding all_from1 letters_of spelled_pattern letter_slot fill fill_all behind_time behind_date slots_of pattern_slots
all_back = refl

pub pattern_back : (flag : ℕ) → 1 ≤ flag → flag ≤ 127 → pattern_slots (spelled_pattern flag) ≡ flag
pattern_back flag l m = eqb-true _ _ (one_of 127 (λ k. eqb (pattern_slots (spelled_pattern k)) k) all_back flag l m)

bits_of_even : (bit k : ℕ) → bit * 2 * k ≡ bit * (k * 2)
bits_of_even bit k = let a : 2 * k ≡ k * 2 = omega arith in mul_assoc bit 2 k ∙ ap (λ n. bit * n) a

bits_of_odd : (bit k : ℕ) → bit + bit * 2 * k ≡ bit * (k * 2 + 1)
bits_of_odd bit k =
    let e = bits_of_even bit k in
    let d = mul-add bit (k * 2) 1 in
    let o = mul-one bit in
    omega arith

-- how many flags so many letters have
abbrev flags_of : List ℕ → ℕ
flags_of [] = 1
flags_of (letter ∷ letters) = flags_of letters * 2

-- slots that are letters are the letters of their bits
lettered : {bit flag : ℕ} {letters w : List ℕ} → SlotsInOrder LetterAlone bit letters w flag
    → (k : ℕ) × (flag ≡ bit * k) × (w ≡ letters_of letters k) × (k < flags_of letters)
unfolding letters_of
lettered {bit = bit} DurationRules.none = (0, sym (mul-zero bit), refl, omega arith)
lettered {bit = bit} (DurationRules.left_out {letter = letter} {letters = letters} s) =
    let (k, e, f, l) = lettered s in
    let a : k * 2 % 2 ≡ 0 = omega arith in
    let b : k * 2 / 2 ≡ k = omega arith in
    (k * 2, e ∙ bits_of_even bit k, rw (a, b) f, omega arith)
lettered {bit = bit} (DurationRules.filled {letter = letter} letter_alone s) =
    let (k, e, f, l) = lettered s in
    let a : (k * 2 + 1) % 2 ≡ 1 = omega arith in
    let b : (k * 2 + 1) / 2 ≡ k = omega arith in
    (k * 2 + 1, ap (λ n. bit + n) e ∙ bits_of_odd bit k, rw (a, b) (ap (λ (l : List ℕ). letter ∷ l) f), omega arith)

-- each flag has one pattern
spelled_one : {w : List ℕ} {f : ℕ} → SpellsPattern w f → (f ≤ 127) × (w ≡ spelled_pattern f)
unfolding spelled_pattern
spelled_one (DurationRules.dates {w = w} {flag = flag} s n) =
    let (k, e, g, l) = lettered s in
    let f : flag ≡ k = omega arith in
    let a : flag % 16 ≡ k = omega arith in
    let b : flag / 16 ≡ 0 = omega arith in
    (omega arith, rw (a, b, append-nil) (ap (λ (v : List ℕ). byte "P" ∷ v) g))
spelled_one (DurationRules.times {w = w} {v = v} {date = date} {time = time} s t n) =
    let (k, e, g, l) = lettered s in
    let (j, d, h, m) = lettered t in
    let a : (date + time) % 16 ≡ k = omega arith in
    let b : (date + time) / 16 ≡ j = omega arith in
    (omega arith, rw (a, b, ne_eqb j 0 (λ z. n (omega arith)), ← g, ← h) refl)

pub pattern_only : (w : List ℕ) (f : ℕ) → f ≢ 0 → pattern_slots w ≡ f → (f ≤ 127) × (w ≡ spelled_pattern f)
pattern_only w f n e = spelled_one ((pattern_is_lem w f n).0 e)
