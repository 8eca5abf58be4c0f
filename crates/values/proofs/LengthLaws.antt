-- A good word has at most 38 bytes. Assumes nothing.
use mathlib.Core.Path.{◌≡◌}
use mathlib.Core.Bool.{true}
use mathlib.Core.List.{List}
use Prim.Native.Nat.{ℕ, ◌+◌, ◌*◌, ◌-◌, ◌≤◌}
use native.Mathlib.Omega.{arith}
use lib.ListN.{length, length-append}
use Rattle.lexis.specs.Text.{byte}
use Rattle.lexis.specs.Bytes.{is, digit}
use Rattle.lexis.specs.Runs.{all}
use Rattle.lexis.specs.DurationRules.{SlotsInOrder, SlotsBehindP, DigitsAndLetter}
use Rattle.lexis.specs.DurationRules
use Rattle.lexis.proofs.Cases.{and_left}
use Rattle.values.specs.Integers.{value_of}
use Rattle.values.specs.declared.dates.Date.{Date}
use Rattle.values.specs.Words.{good}
use Rattle.values.specs.WordRules.{IsBoolean, PlainNumber, IsInteger, fixed, IsDate, up_to, IsZone, IsTime, IsDuration, IsGood}
use Rattle.values.specs.WordRules
use Rattle.values.proofs.Common.{by_order}
use Rattle.values.proofs.DigitLaws.{digit-byte, say_digits, tenfold, tenfold_more, value_many}
use Rattle.values.proofs.WordLaws.{good-word}

pub boolean_short : {w : List ℕ} {b : ℕ} → IsBoolean w b → length w ≤ 5
boolean_short WordRules.is_true = omega arith
boolean_short WordRules.is_false = omega arith

-- eleven digits without needless zeros spell more than an integer
plain_short : {w : List ℕ} {n : ℕ} → PlainNumber w n → n ≤ 2_147_483_648 → length w ≤ 10
unfolding all value_of tenfold
plain_short WordRules.nought l = omega arith
plain_short (WordRules.other {b = b} {n = n} {w = w} h s) l =
    by_order (length w) 9
    (λ k. omega arith)
    (λ k.
    let t = say_digits s in
    let d = digit-byte b (and_left (is digit b) (all (is digit) w) t.0) in
    let v = value_many (0 * 10 + (b - byte "0")) 1 w (omega arith) in
    let m = tenfold_more 10 (length w) 1 (omega arith) in
    absurd (omega (arith, t.1, v, m)))

pub integer_short : {w : List ℕ} {v : ℕ} → IsInteger w v → length w ≤ 11
integer_short (WordRules.not_negative p l) = let k = plain_short p (omega arith) in omega arith
integer_short (WordRules.negative p h l) = let k = plain_short p l in omega arith

pub date_short : {w : List ℕ} {d : Date} → IsDate w d → length w ≤ 10
date_short (WordRules.year (fixed y _) _) = omega arith
date_short (WordRules.month (fixed y _) (fixed m _) _) = simp length-append (omega arith)
date_short (WordRules.day (fixed y _) (fixed m _) (fixed d _) _) = simp length-append (omega arith)

zone_short : {z : List ℕ} → IsZone z → length z ≤ 6
zone_short WordRules.none = omega arith
zone_short WordRules.utc = omega arith
zone_short (WordRules.east_hours (up_to (fixed h _) _)) = omega arith
zone_short (WordRules.east (up_to (fixed h _) _) (up_to (fixed m _) _)) = simp length-append (omega arith)
zone_short (WordRules.west_hours (up_to (fixed h _) _) _) = omega arith
zone_short (WordRules.west (up_to (fixed h _) _) (up_to (fixed m _) _) _) = simp length-append (omega arith)

pub time_short : {w : List ℕ} {parts : ℕ} → IsTime w parts → length w ≤ 14
time_short (WordRules.hour (up_to (fixed h _) _) z) = let k = zone_short z in simp length-append (omega arith)
time_short (WordRules.minute (up_to (fixed h _) _) (up_to (fixed m _) _) z) =
    let k = zone_short z in
    simp length-append (omega arith)
time_short (WordRules.second (up_to (fixed h _) _) (up_to (fixed m _) _) (up_to (fixed s _) _) z) =
    let k = zone_short z in
    simp length-append (omega arith)

-- a slot of a word has at most five bytes
slot_short : {letter : ℕ} {w : List ℕ} → DigitsAndLetter letter w → length w ≤ 5
slot_short (DurationRules.small _ l) = simp length-append (omega arith)
slot_short (DurationRules.capital b _ l _) = simp length-append (omega arith)

slots_short : {bit flag : ℕ} {letters w : List ℕ} → SlotsInOrder DigitsAndLetter bit letters w flag
    → length w ≤ length letters * 5
slots_short DurationRules.none = omega arith
slots_short (DurationRules.left_out s) = let k = slots_short s in omega arith
slots_short (DurationRules.filled v s) =
    let j = slot_short v in
    let k = slots_short s in
    simp length-append (omega arith)

p_short : {w : List ℕ} {flag : ℕ} → SlotsBehindP DigitsAndLetter w flag → length w ≤ 37
p_short (DurationRules.dates s _) = let k = slots_short s in omega arith
p_short (DurationRules.times s t _) =
    let j = slots_short s in
    let k = slots_short t in
    simp length-append (omega arith)

pub duration_short : {w : List ℕ} {flag : ℕ} → IsDuration w flag → length w ≤ 38
duration_short (WordRules.unsigned p) = let k = p_short p in omega arith
duration_short (WordRules.signed p) = let k = p_short p in omega arith

pub good_short : {w : List ℕ} → IsGood w → length w ≤ 38
good_short (WordRules.boolean h) = let k = boolean_short h in omega arith
good_short (WordRules.integer h) = let k = integer_short h in omega arith
good_short (WordRules.date h) = let k = date_short h in omega arith
good_short (WordRules.time h) = let k = time_short h in omega arith
good_short (WordRules.duration h) = duration_short h

pub good_short_word : (w : List ℕ) → good w ≡ true → length w ≤ 38
good_short_word w t = good_short ((good-word w).0 t)
