-- A word is read as a Boolean and as an integer, and is good, exactly where the rule says so. Assumes nothing.
use mathlib.Core.Path.{◌≡◌, refl, sym, subst}
use mathlib.Core.Logic.{◌↔◌}
use mathlib.Core.Bool.{true, false, cond, ◌&&◌, ◌||◌, or-true}
use Rattle.std.specs.Prelude.{Option, None, Some}
use mathlib.Core.List.{List, [], ◌∷◌}
use Prim.Native.Nat.{ℕ, suc, ◌+◌, ◌-◌}
use native.Mathlib.Omega.{arith}
use lib.Dec.{eqb, leb}
use lib.ListN.{length, get_or}
use borrow.Author.Tests.{eqb-true, eqb-false, le-leb, ne_eqb}
use Rattle.lexis.specs.Text.{byte, bytes}
use Rattle.lexis.specs.Bytes.{is, digit, sort_of}
use Rattle.lexis.specs.Runs.{same, all}
use Rattle.lexis.proofs.Cases.{by_cond, and_left, and_right}
use Rattle.lexis.proofs.QuickSteps.{digit_dash}
use Rattle.values.specs.Integers.{value_of, plain, nought, not_negative, negative, integer_of}
use Rattle.values.specs.Dates.{date_of}
use Rattle.values.specs.Times.{time_of}
use Rattle.values.specs.Durations.{duration_of}
use Rattle.values.specs.Words.{boolean_of, reads, good}
use Rattle.values.proofs.Common.{Each, none_each, some_each, le_right}
use Rattle.values.specs.WordRules.{IsBoolean, is_true, is_false, PlainNumber, IsInteger, IsGood}
use Rattle.values.specs.WordRules
use Rattle.lexis.proofs.TestLaws.{true_or_false, false_true, same_eq, or_cases}
use Rattle.values.proofs.DigitLaws.{no_more_lem, digits_say, say_digits}
use Rattle.values.proofs.DateWordLaws.{date-word}
use Rattle.values.proofs.TimeWordLaws.{time_word}
use Rattle.values.proofs.DurationWordLaws.{duration_word}

-- True and False
boolean_by : (w : List ℕ) → Each (IsBoolean w) (boolean_of w)
unfolding boolean_of
boolean_by w =
    by_cond (Each (IsBoolean w)) (same (bytes "True") w)
    (λ e. some_each (IsBoolean w) 1 (subst (λ (v : List ℕ). IsBoolean v 1) (same_eq (bytes "True") w e) is_true))
    (λ n. by_cond (Each (IsBoolean w)) (same (bytes "False") w)
    (λ e. some_each (IsBoolean w) 2 (subst (λ (v : List ℕ). IsBoolean v 2) (same_eq (bytes "False") w e) is_false))
    (λ e. none_each (IsBoolean w)))

boolean_of_lem : {w : List ℕ} {b : ℕ} → IsBoolean w b → boolean_of w ≡ Some b
unfolding boolean_of same
boolean_of_lem is_true = refl
boolean_of_lem is_false = refl

pub boolean_word : (w : List ℕ) (b : ℕ) → (boolean_of w ≡ Some b) ↔ IsBoolean w b
boolean_word w b = (boolean_by w b, boolean_of_lem)

-- a number without needless zeros
plain_by : (ds : List ℕ) → plain ds ≡ true → PlainNumber ds (value_of 0 ds)
unfolding all value_of
plain_by [] e = absurd (false_true e)
plain_by (b ∷ w) e =
    let Some = leb 1 (suc (length w)) in
    let first = cond (eqb b (byte "0")) (eqb (suc (length w)) 1) true in
    true_or_false (eqb b (byte "0"))
    (λ t.
    let l = eqb-true (suc (length w)) 1 (rw t at (and_right (all (is digit) (b ∷ w) && Some) first e)) in
    let p = eqb-true b (byte "0") t in
    let q = no_more_lem w (omega arith) in
    subst (λ (v : List ℕ). PlainNumber v (value_of 0 v)) (λ i. sym p i ∷ sym q i) WordRules.nought)
    (λ t. WordRules.other (eqb-false b (byte "0") t) (digits_say (b ∷ w) (and_left (all (is digit) (b ∷ w)) Some (and_left (all (is digit) (b ∷ w) && Some) first e))))

plain_of : {ds : List ℕ} {n : ℕ} → PlainNumber ds n → (plain ds ≡ true) × (value_of 0 ds ≡ n)
unfolding all value_of sort_of
plain_of WordRules.nought = (refl, refl)
plain_of (WordRules.other {b = b} {w = w} h s) =
    let t = say_digits s in
    (rw (t.0, le-leb 1 (suc (length w)) (omega arith), ne_eqb b (byte "0") h), t.1)

unsigned : {ds : List ℕ} {n : ℕ} → PlainNumber ds n → eqb (get_or ds 0 0) (byte "-") ≡ false
unfolding all
unsigned WordRules.nought = refl
unsigned (WordRules.other {b = b} {w = w} h s) = digit_dash b (and_left (is digit b) (all (is digit) w) (say_digits s).0)

not_negative_by : (w : List ℕ) → Each (IsInteger w) (not_negative w)
not_negative_by w =
    let n = value_of 0 w in
    by_cond (Each (IsInteger w)) (plain w && leb n 2_147_483_647)
    (λ e. some_each (IsInteger w) (nought + n) (WordRules.not_negative (plain_by w (and_left (plain w) (leb n 2_147_483_647) e)) (le_right (plain w) n 2_147_483_647 e)))
    (λ e. none_each (IsInteger w))

negative_by : (w : List ℕ) → Each (IsInteger (byte "-" ∷ w)) (negative w)
negative_by w =
    let n = value_of 0 w in
    let P = IsInteger (byte "-" ∷ w) in
    by_cond (Each P) (plain w && leb 1 n && leb n 2_147_483_648)
    (λ e.
    let h = and_left (plain w && leb 1 n) (leb n 2_147_483_648) e in
    some_each P (nought - n) (WordRules.negative (plain_by w (and_left (plain w) (leb 1 n) h)) (le_right (plain w) 1 n h) (le_right (plain w && leb 1 n) n 2_147_483_648 e)))
    (λ e. none_each P)

integer_by : (w : List ℕ) → Each (IsInteger w) (integer_of w)
unfolding integer_of
integer_by [] = not_negative_by []
integer_by (b ∷ w) =
    by_cond (Each (IsInteger (b ∷ w))) (eqb b (byte "-"))
    (λ e. rw (eqb-true b (byte "-") e) (negative_by w))
    (λ e. not_negative_by (b ∷ w))

integer_of_lem : {w : List ℕ} {v : ℕ} → IsInteger w v → integer_of w ≡ Some v
unfolding integer_of
integer_of_lem (WordRules.not_negative {w = w} {n = n} p l) = let t = plain_of p in rw (unsigned p, t.0, t.1, le-leb n 2_147_483_647 l)
integer_of_lem (WordRules.negative {w = w} {n = n} p l h) = let t = plain_of p in rw (t.0, t.1, le-leb 1 n l, le-leb n 2_147_483_648 h)

pub integer-word : (w : List ℕ) (v : ℕ) → (integer_of w ≡ Some v) ↔ IsInteger w v
integer-word w v = (integer_by w v, integer_of_lem)

-- good words
reads_some : {A : Type 0} (o : Option A) → reads o ≡ true → (a : A) × (o ≡ Some a)
reads_some None e = absurd (false_true e)
reads_some (Some a) e = (a, refl)

good_of : {w : List ℕ} → IsGood w → good w ≡ true
unfolding good
good_of {w} (WordRules.boolean h) = rw (boolean_of_lem h)
good_of {w} (WordRules.integer h) = rw (integer_of_lem h, or-true (reads (boolean_of w)))
good_of {w} (WordRules.date h) = rw ((date-word w _).1 h, or-true (reads (boolean_of w) || reads (integer_of w)))
good_of {w} (WordRules.time h) = rw ((time_word w _).1 h, or-true (reads (boolean_of w) || reads (integer_of w) || reads (date_of w)))
good_of {w} (WordRules.duration h) =
    rw ((duration_word w _).1 h, or-true (reads (boolean_of w) || reads (integer_of w) || reads (date_of w) || reads (time_of w)))

good_by : (w : List ℕ) → good w ≡ true → IsGood w
unfolding good
good_by w t =
    let a = reads (boolean_of w) in
    let b = reads (integer_of w) in
    let c = reads (date_of w) in
    let d = reads (time_of w) in
    or_cases (a || b || c || d) (reads (duration_of w)) t
    (λ t. or_cases (a || b || c) d t
    (λ t. or_cases (a || b) c t
    (λ t. or_cases a b t
    (λ e. let x = reads_some (boolean_of w) e in WordRules.boolean (boolean_by w x.0 x.1))
    (λ e. let x = reads_some (integer_of w) e in WordRules.integer (integer_by w x.0 x.1)))
    (λ e. let x = reads_some (date_of w) e in WordRules.date ((date-word w x.0).0 x.1)))
    (λ e. let x = reads_some (time_of w) e in WordRules.time ((time_word w x.0).0 x.1)))
    (λ e. let x = reads_some (duration_of w) e in WordRules.duration ((duration_word w x.0).0 x.1))

pub good-word : (w : List ℕ) → (good w ≡ true) ↔ IsGood w
good-word w = (good_by w, good_of)
