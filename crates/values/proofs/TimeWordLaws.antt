-- A word is read as a time, and bytes as a zone, exactly where they are one of the rule. Assumes nothing.
use mathlib.Core.Path.{◌≡◌, refl, sym, subst}
use mathlib.Core.Logic.{◌↔◌}
use mathlib.Core.Bool.{Bool, true, false, ◌&&◌, ◌||◌}
use Rattle.std.specs.Prelude.{Some}
use mathlib.Core.List.{List, ◌∷◌, ◌++◌}
use Prim.Native.Nat.{ℕ, ◌+◌, ◌≤◌}
use native.Mathlib.Omega.{arith}
use lib.Dec.{eqb, leb}
use lib.ListN.{length, drop}
use borrow.Author.Tests.{eqb-true, le-leb}
use Rattle.lexis.specs.Text.{byte, bytes}
use Rattle.lexis.specs.Runs.{same, shaped}
use Rattle.lexis.proofs.Cases.{by_cond, and_left, and_right}
use Rattle.values.specs.Integers.{value_of}
use Rattle.values.specs.Dates.{exactly, digits_at}
use Rattle.values.specs.Times.{zone_hours, zone_minutes, zone, east, west, hours, minutes, seconds, good_time, time_of}
use Rattle.values.proofs.Common.{Each, none_each, some_each, le_left, le_right}
use Rattle.values.specs.WordRules.{up_to, IsZone, IsTime}
use Rattle.values.specs.WordRules
use Rattle.lexis.proofs.TestLaws.{same_eq, or_cases}
use Rattle.values.proofs.DigitLaws.{no_more_lem, Row, done, more, fixed_row, by_shape, by_exactly, two}

-- a zone that is found good is one of the rule
east_by : (z : List ℕ) → (exactly (bytes "+dd") z || exactly (bytes "+dd:dd") z) ≡ true → zone_hours z ≤ 13
    → zone_minutes z ≤ 59
    → IsZone z
east_by z e =
    or_cases (exactly (bytes "+dd") z) (exactly (bytes "+dd:dd") z) e
    (by_exactly (λ v. zone_hours v ≤ 13 → zone_minutes v ≤ 59 → IsZone v) (bytes "+dd") z
    (λ a ha b hb v l. rw (no_more_lem v (omega arith)) (λ h m. WordRules.east_hours (up_to (two a b ha hb) h))))
    (by_exactly (λ v. zone_hours v ≤ 13 → zone_minutes v ≤ 59 → IsZone v) (bytes "+dd:dd") z
    (λ a ha b hb c hc d hd v l. rw (no_more_lem v (omega arith)) (λ h m. WordRules.east (up_to (two a b ha hb) h) (up_to (two c d hc hd) m))))

west_by : (z : List ℕ) → (exactly (bytes "-dd") z || exactly (bytes "-dd:dd") z) ≡ true → zone_hours z ≤ 12
    → zone_minutes z ≤ 59
    → 1 ≤ zone_hours z + zone_minutes z
    → IsZone z
unfolding value_of
west_by z e =
    let P : List ℕ → Type 0 = λ v. zone_hours v ≤ 12 → zone_minutes v ≤ 59 → 1 ≤ zone_hours v + zone_minutes v → IsZone v in
    or_cases (exactly (bytes "-dd") z) (exactly (bytes "-dd:dd") z) e
    (by_exactly P (bytes "-dd") z
    (λ a ha b hb v l. rw (no_more_lem v (omega arith)) (λ h m n. WordRules.west_hours (up_to (two a b ha hb) h) (omega arith))))
    (by_exactly P (bytes "-dd:dd") z
    (λ a ha b hb c hc d hd v l. rw (no_more_lem v (omega arith)) (λ h m n. WordRules.west (up_to (two a b ha hb) h) (up_to (two c d hc hd) m) (omega arith))))

zone_by : (z : List ℕ) → zone z ≡ true → IsZone z
unfolding zone
zone_by z t =
    let empty = eqb (length z) 0 in
    let utc = same (bytes "Z") z in
    let plus = exactly (bytes "+dd") z || exactly (bytes "+dd:dd") z in
    let minus = exactly (bytes "-dd") z || exactly (bytes "-dd:dd") z in
    or_cases (empty || utc || plus && east z) (minus && west z) t
    (λ t. or_cases (empty || utc) (plus && east z) t
    (λ t. or_cases empty utc t
    (λ e. subst IsZone (sym (no_more_lem z (eqb-true (length z) 0 e))) WordRules.none)
    (λ e. subst IsZone (same_eq (bytes "Z") z e) WordRules.utc))
    (λ t. let e = and_right plus (east z) t in
    east_by z (and_left plus (east z) t) (le_left (zone_hours z) 13 (leb (zone_minutes z) 59) e) (le_right (leb (zone_hours z) 13) (zone_minutes z) 59 e)))
    (λ t.
    let e = and_right minus (west z) t in
    let least = leb 1 (zone_hours z + zone_minutes z) in
    let both = leb (zone_hours z) 12 && leb (zone_minutes z) 59 in
    let f = and_left both least e in
    west_by z (and_left minus (west z) t) (le_left (zone_hours z) 12 (leb (zone_minutes z) 59) f) (le_right (leb (zone_hours z) 12) (zone_minutes z) 59 f)
    (le_right both 1 (zone_hours z + zone_minutes z) e))

-- a zone of the rule is found good
zone_of : {z : List ℕ} → IsZone z → zone z ≡ true
unfolding zone same shaped value_of
zone_of WordRules.none = refl
zone_of WordRules.utc = refl
zone_of (WordRules.east_hours (up_to h l)) = go (fixed_row h) l
  where
    go : {h : List ℕ} {hours : ℕ} → Row 2 0 h hours → hours ≤ 13 → zone (byte "+" ∷ h) ≡ true
    go (more a (more b done)) l = rw (a, b, le-leb _ 13 l)
zone_of (WordRules.east (up_to h l) (up_to m k)) = go (fixed_row h) (fixed_row m) l k
  where
    go : {h m : List ℕ} {hours minutes : ℕ} → Row 2 0 h hours → Row 2 0 m minutes → hours ≤ 13 → minutes ≤ 59
        → zone (byte "+" ∷ (h ++ (byte ":" ∷ m))) ≡ true
    go (more a (more b done)) (more c (more d done)) l k = rw (a, b, c, d, le-leb _ 13 l, le-leb _ 59 k)
zone_of (WordRules.west_hours (up_to h l) n) = go (fixed_row h) l (omega arith)
  where
    go : {h : List ℕ} {hours : ℕ} → Row 2 0 h hours → hours ≤ 12 → 1 ≤ hours + 0 → zone (byte "-" ∷ h) ≡ true
    go (more a (more b done)) l n = rw (a, b, le-leb _ 12 l, le-leb 1 _ n)
zone_of (WordRules.west (up_to h l) (up_to m k) n) = go (fixed_row h) (fixed_row m) l k (omega arith)
  where
    go : {h m : List ℕ} {hours minutes : ℕ} → Row 2 0 h hours → Row 2 0 m minutes → hours ≤ 12 → minutes ≤ 59
        → 1 ≤ hours + minutes
        → zone (byte "-" ∷ (h ++ (byte ":" ∷ m))) ≡ true
    go (more a (more b done)) (more c (more d done)) l k n = rw (a, b, c, d, le-leb _ 12 l, le-leb _ 59 k, le-leb 1 _ n)

pub zone-word : (z : List ℕ) → (zone z ≡ true) ↔ IsZone z
zone-word z = (zone_by z, zone_of)

-- no zone begins with `:`
no_colon : {z : List ℕ} → IsZone z → (shape : List ℕ) → shaped (byte ":" ∷ shape) z ≡ false
unfolding shaped
no_colon WordRules.none shape = refl
no_colon WordRules.utc shape = refl
no_colon (WordRules.east_hours h) shape = refl
no_colon (WordRules.east h m) shape = refl
no_colon (WordRules.west_hours h n) shape = refl
no_colon (WordRules.west h m n) shape = refl

-- a time that is read is one of the rule
good_by : (P : ℕ → Type 0) (good : Bool) (parts : ℕ) → (good ≡ true → P parts) → Each P (good_time good parts)
good_by P good parts f = by_cond (Each P) good (λ e. some_each P parts (f e)) (λ e. none_each P)

hour_by : (w : List ℕ) → shaped (bytes "dd") w ≡ true → digits_at 0 2 w ≤ 23 → IsZone (drop 2 w) → IsTime w 1
hour_by w =
    by_shape (λ v. digits_at 0 2 v ≤ 23 → IsZone (drop 2 v) → IsTime v 1) (bytes "dd") w
    (λ a ha b hb z h k. WordRules.hour (up_to (two a b ha hb) h) k)

minute_by : (w : List ℕ) → shaped (bytes "dd:dd") w ≡ true → digits_at 0 2 w ≤ 23 → digits_at 3 2 w ≤ 59
    → IsZone (drop 5 w)
    → IsTime w 2
minute_by w =
    by_shape (λ v. digits_at 0 2 v ≤ 23 → digits_at 3 2 v ≤ 59 → IsZone (drop 5 v) → IsTime v 2) (bytes "dd:dd") w
    (λ a ha b hb c hc d hd z h m k. WordRules.minute (up_to (two a b ha hb) h) (up_to (two c d hc hd) m) k)

second_by_lem : (w : List ℕ) → shaped (bytes "dd:dd:dd") w ≡ true → digits_at 0 2 w ≤ 23 → digits_at 3 2 w ≤ 59
    → digits_at 6 2 w ≤ 59
    → IsZone (drop 8 w)
    → IsTime w 3
second_by_lem w =
    by_shape (λ v. digits_at 0 2 v ≤ 23 → digits_at 3 2 v ≤ 59 → digits_at 6 2 v ≤ 59 → IsZone (drop 8 v) → IsTime v 3) (bytes "dd:dd:dd") w
    (λ a ha b hb c hc d hd e he f hf z h m s k. WordRules.second (up_to (two a b ha hb) h) (up_to (two c d hc hd) m) (up_to (two e f he hf) s) k)

time_by : (w : List ℕ) → Each (IsTime w) (time_of w)
unfolding time_of
time_by w =
    let P = IsTime w in
    let z : ℕ → Bool = λ n. zone (drop n w) in
    by_cond (Each P) (shaped (bytes "dd:dd:dd") w)
    (λ t. good_by P (hours w && minutes w && seconds w && z 8) 3
    (λ e.
    let f = and_left (hours w && minutes w && seconds w) (z 8) e in
    let g = and_left (hours w && minutes w) (seconds w) f in
    second_by_lem w t (le_left (digits_at 0 2 w) 23 (minutes w) g) (le_right (hours w) (digits_at 3 2 w) 59 g) (le_right (hours w && minutes w) (digits_at 6 2 w) 59 f)
    (zone_by (drop 8 w) (and_right (hours w && minutes w && seconds w) (z 8) e))))
    (λ _. by_cond (Each P) (shaped (bytes "dd:dd") w)
    (λ t. good_by P (hours w && minutes w && z 5) 2
    (λ e.
    let f = and_left (hours w && minutes w) (z 5) e in
    minute_by w t (le_left (digits_at 0 2 w) 23 (minutes w) f) (le_right (hours w) (digits_at 3 2 w) 59 f) (zone_by (drop 5 w) (and_right (hours w && minutes w) (z 5) e))))
    (λ _. by_cond (Each P) (shaped (bytes "dd") w)
    (λ t. good_by P (hours w && z 2) 1 (λ e. hour_by w t (le_left (digits_at 0 2 w) 23 (z 2) e) (zone_by (drop 2 w) (and_right (hours w) (z 2) e))))
    (λ _. none_each P)))

-- a time of the rule is read
hour_of : {h z : List ℕ} {hours : ℕ} → Row 2 0 h hours → hours ≤ 23 → IsZone z → time_of (h ++ z) ≡ Some 1
unfolding time_of shaped value_of
hour_of (more a (more b done)) l z = rw (a, b, no_colon z (bytes "dd:dd"), no_colon z (bytes "dd"), le-leb _ 23 l, zone_of z)

minute_of : {h m z : List ℕ} {hours minutes : ℕ} → Row 2 0 h hours → Row 2 0 m minutes → hours ≤ 23 → minutes ≤ 59
    → IsZone z
    → time_of (h ++ (byte ":" ∷ (m ++ z))) ≡ Some 2
unfolding time_of shaped value_of
minute_of (more a (more b done)) (more c (more d done)) l k z = rw (a, b, c, d, no_colon z (bytes "dd"), le-leb _ 23 l, le-leb _ 59 k, zone_of z)

second_of_lem : {h m s z : List ℕ} {hours minutes seconds : ℕ} → Row 2 0 h hours → Row 2 0 m minutes → Row 2 0 s seconds
    → hours ≤ 23 → minutes ≤ 59 → seconds ≤ 59
    → IsZone z
    → time_of (h ++ (byte ":" ∷ (m ++ (byte ":" ∷ (s ++ z))))) ≡ Some 3
unfolding time_of shaped value_of
second_of_lem (more a (more b done)) (more c (more d done)) (more e (more f done)) l k j z =
    rw (a, b, c, d, e, f, le-leb _ 23 l, le-leb _ 59 k, le-leb _ 59 j, zone_of z)

time_of_lem : {w : List ℕ} {parts : ℕ} → IsTime w parts → time_of w ≡ Some parts
time_of_lem (WordRules.hour (up_to h l) z) = hour_of (fixed_row h) l z
time_of_lem (WordRules.minute (up_to h l) (up_to m k) z) = minute_of (fixed_row h) (fixed_row m) l k z
time_of_lem (WordRules.second (up_to h l) (up_to m k) (up_to s j) z) = second_of_lem (fixed_row h) (fixed_row m) (fixed_row s) l k j z

pub time_word : (w : List ℕ) (parts : ℕ) → (time_of w ≡ Some parts) ↔ IsTime w parts
time_word w parts = (time_by w parts, time_of_lem)
