-- What a leaf admits, by the relation and by the definition. Assumes nothing.
use mathlib.Core.Path.{◌≡◌, refl, sym, ap, ◌∙◌, subst}
use mathlib.Core.Logic.{◌↔◌}
use mathlib.Core.Bool.{Bool, true, ◌&&◌}
use Rattle.std.specs.Prelude.{Option, None, Some}
use mathlib.Core.List.{List, [], ◌∷◌, Memᴰ}
use Prim.Native.Nat.{ℕ, zero, suc, ◌≤◌, ◌-◌}
use native.Mathlib.Omega.{arith}
use lib.Dec.{eqb, leb, eqb-suc-zero}
use lib.ListN.{get_or}
use borrow.Author.Tests.{eqb-true, leb-true, le-leb, eq-eqb}
use Rattle.lexis.specs.Runs.{same}
use Rattle.lexis.proofs.Cases.{by_cond, and_left, and_right}
use Rattle.values.specs.Integers.{integer_of}
use Rattle.values.specs.Dates.{date_of}
use Rattle.values.specs.declared.dates.Date.{Date}
use Rattle.values.specs.Times.{time_of}
use Rattle.values.specs.Durations.{duration_of}
use Rattle.values.specs.Words.{boolean_of}
use Rattle.values.specs.Patterns.{Part, must, may, must_not, suits, fits, fits_date, fits_time, fits_duration, date_patterns, time_patterns}
use Rattle.meaning.specs.Constraints.{Range, Text, Leaf, SingleSort, RangeSort, single, ranges, texts, booleans, date_pattern, time_pattern, duration_pattern, integers, dates}
use Rattle.meaning.specs.Data.{Content}
use Rattle.meaning.specs.Data
use Rattle.meaning.specs.Findings.{Finding, unsuited, refuted, admitted, try}
use Rattle.meaning.specs.Sorts.{in_range, in_some, in_flag}
use Rattle.meaning.specs.Admission.{is_some, word_under, string_under}
use Rattle.values.specs.WordRules
use Rattle.values.specs.WordRules.{IsBoolean, IsInteger, IsDate, IsTime, IsDuration}
use Rattle.rules_grammar.specs.Admits.{Fits, InItem, in_item, InTexts, is_item, Flagged, Readable, LeafAdmits, DatePattern, TimePattern}
use Rattle.rules_grammar.specs.Admits
use Rattle.lexis.proofs.TestLaws.{false_true, none_some, some_inj, same_eq, eq_same, or_left, or_right, or_cases, and_both}
use Rattle.values.proofs.DateWordLaws.{date-word}
use Rattle.values.proofs.TimeWordLaws.{time_word}
use Rattle.values.proofs.DurationWordLaws.{duration_word}
use Rattle.values.proofs.DurationLaws.{fits_is}
use Rattle.values.proofs.WordLaws.{boolean_word, integer-word}

-- items
in_item_lem : (v : ℕ) (l : List Range) → in_some v l ≡ true → InItem v l
unfolding in_some
in_item_lem v [] h = absurd (false_true h)
in_item_lem v (x ∷ xs) h =
    or_cases (in_range v x) (in_some v xs) h
    (λ e. in_item x (Memᴰ.head refl) (leb-true x.low v (and_left (leb x.low v) (leb v x.high) e)) (leb-true v x.high (and_right (leb x.low v) (leb v x.high) e)))
    (λ e. more (in_item_lem v xs e))
  where
    more : InItem v xs → InItem v (x ∷ xs)
    more (in_item y m a b) = in_item y (Memᴰ.tail m) a b

item_in : (v : ℕ) (x : Range) (l : List Range) → Memᴰ x l → x.low ≤ v → v ≤ x.high → in_some v l ≡ true
unfolding in_some
item_in v x [] m a b = elim m [ ]
item_in v x (y ∷ ys) (Memᴰ.head e) a b =
    or_left (in_range v y) (in_some v ys) (and_both _ _ (le-leb _ _ (rw e at a)) (le-leb _ _ (rw e at b)))
item_in v x (y ∷ ys) (Memᴰ.tail m) a b = or_right (in_range v y) (in_some v ys) (item_in v x ys m a b)

of_item : {v : ℕ} {l : List Range} → InItem v l → in_some v l ≡ true
of_item {v} {l} (in_item x m a b) = item_in v x l m a b

is_item_lem : (w : List ℕ) (l : List Text) → is_some w l ≡ true → InTexts w l
unfolding is_some
is_item_lem w [] h = absurd (false_true h)
is_item_lem w (x ∷ xs) h =
    or_cases (same w x.text) (is_some w xs) h
    (λ e. is_item x (Memᴰ.head refl) (same_eq w x.text e))
    (λ e. more (is_item_lem w xs e))
  where
    more : InTexts w xs → InTexts w (x ∷ xs)
    more (is_item y m a) = is_item y (Memᴰ.tail m) a

item_is : (w : List ℕ) (x : Text) (l : List Text) → Memᴰ x l → w ≡ x.text → is_some w l ≡ true
unfolding is_some
item_is w x [] m h = elim m [ ]
item_is w x (y ∷ ys) (Memᴰ.head e) h = or_left (same w y.text) (is_some w ys) (eq_same w y.text (h ∙ ap (λ (z : Text). z.text) e))
item_is w x (y ∷ ys) (Memᴰ.tail m) h = or_right (same w y.text) (is_some w ys) (item_is w x ys m h)

string_in : {l : List Text} {p : ℕ} {w : List ℕ} → LeafAdmits (texts l) (Data.string p w) → is_some w l ≡ true
string_in {l} {p} {w} (LeafAdmits.string (is_item x m e)) = item_is w x l m e

-- patterns, part by part
more_parts : (p : Part) (ps : List Part) (n : ℕ) → fits (p ∷ ps) (suc n) ≡ (suits p true && fits ps n)
unfolding fits
more_parts p ps n = let e : suc n - 1 ≡ n = omega arith in rw (eqb-suc-zero n, e)

fits_of : (ps : List Part) (n : ℕ) → fits ps n ≡ true → Fits ps n
unfolding fits
fits_of [] zero h = Admits.end
fits_of [] (suc n) h = absurd (omega (arith, eqb-true (suc n) 0 h))
fits_of (must ∷ ps) zero h = absurd (false_true h)
fits_of (must ∷ ps) (suc n) h = Admits.letters (fits_of ps n (sym (more_parts must ps n) ∙ h))
fits_of (may ∷ ps) zero h = Admits.may_not_be (fits_of ps 0 h)
fits_of (may ∷ ps) (suc n) h = Admits.may_be (fits_of ps n (sym (more_parts may ps n) ∙ h))
fits_of (must_not ∷ ps) zero h = Admits.never (fits_of ps 0 h)
fits_of (must_not ∷ ps) (suc n) h = absurd (false_true (sym (more_parts must_not ps n) ∙ h))

of_fits : {ps : List Part} {n : ℕ} → Fits ps n → fits ps n ≡ true
unfolding fits
of_fits Admits.end = refl
of_fits (Admits.letters {ps = ps} {n = n} h) = more_parts must ps n ∙ of_fits h
of_fits (Admits.may_be {ps = ps} {n = n} h) = more_parts may ps n ∙ of_fits h
of_fits (Admits.may_not_be h) = of_fits h
of_fits (Admits.never h) = of_fits h

-- the patterns by their flags are those listed
abbrev pattern_of : List (List Part) → ℕ → List Part
pattern_of patterns flag = get_or ([] ∷ patterns) flag []

date-listed : {f : ℕ} {ps : List Part} → DatePattern f ps → pattern_of date_patterns f ≡ ps
date-listed Admits.whole_day = refl
date-listed Admits.may_have_day = refl
date-listed Admits.may_have_month = refl
date-listed Admits.no_day = refl
date-listed Admits.may_have_month_no_day = refl

time_listed : {f : ℕ} {ps : List Part} → TimePattern f ps → pattern_of time_patterns f ≡ ps
time_listed Admits.whole_time = refl
time_listed Admits.no_second = refl
time_listed Admits.may_have_minute_no_second = refl
time_listed Admits.may_have_minute = refl

-- a flag that is none has no parts, and a date or a time has one at least
no_parts : (n : ℕ) → 1 ≤ n → fits [] n ≡ true → ⊥
unfolding fits
no_parts n l h = let e = eqb-true n 0 h in omega arith

date_pattern_lem : (f n : ℕ) → 1 ≤ n → fits_date f n ≡ true → (ps : List Part) × DatePattern f ps × Fits ps n
unfolding fits_date
date_pattern_lem zero n l h = absurd (no_parts n l h)
date_pattern_lem (suc zero) n l h = (_, Admits.whole_day, fits_of _ n h)
date_pattern_lem (suc (suc zero)) n l h = (_, Admits.may_have_day, fits_of _ n h)
date_pattern_lem (suc (suc (suc zero))) n l h = (_, Admits.may_have_month, fits_of _ n h)
date_pattern_lem (suc (suc (suc (suc zero)))) n l h = (_, Admits.no_day, fits_of _ n h)
date_pattern_lem (suc (suc (suc (suc (suc zero))))) n l h = (_, Admits.may_have_month_no_day, fits_of _ n h)
date_pattern_lem (suc (suc (suc (suc (suc (suc f)))))) n l h = absurd (no_parts n l h)

time_pattern_lem : (f n : ℕ) → 1 ≤ n → fits_time f n ≡ true → (ps : List Part) × TimePattern f ps × Fits ps n
unfolding fits_time
time_pattern_lem zero n l h = absurd (no_parts n l h)
time_pattern_lem (suc zero) n l h = (_, Admits.whole_time, fits_of _ n h)
time_pattern_lem (suc (suc zero)) n l h = (_, Admits.no_second, fits_of _ n h)
time_pattern_lem (suc (suc (suc zero))) n l h = (_, Admits.may_have_minute_no_second, fits_of _ n h)
time_pattern_lem (suc (suc (suc (suc zero)))) n l h = (_, Admits.may_have_minute, fits_of _ n h)
time_pattern_lem (suc (suc (suc (suc (suc f))))) n l h = absurd (no_parts n l h)

date_parts : {w : List ℕ} {d : Date} → IsDate w d → 1 ≤ d.parts
date_parts (WordRules.year y i) = omega arith
date_parts (WordRules.month y m i) = omega arith
date_parts (WordRules.day y m d i) = omega arith

time_parts : {w : List ℕ} {n : ℕ} → IsTime w n → 1 ≤ n
time_parts (WordRules.hour h z) = omega arith
time_parts (WordRules.minute h m z) = omega arith
time_parts (WordRules.second h m s z) = omega arith

-- flags of Booleans
flagged_of : (f b : ℕ) → in_flag f b ≡ true → Flagged b f
flagged_of f b h =
    or_cases (eqb f b) (eqb f 3) h
    (λ e. subst (λ x. Flagged b x) (sym (eqb-true f b e)) Admits.one)
    (λ e. subst (λ x. Flagged b x) (sym (eqb-true f 3 e)) Admits.both)

of_flagged : {f b : ℕ} → Flagged b f → in_flag f b ≡ true
of_flagged {b = b} Admits.one = or_left (eqb b b) (eqb b 3) (eq-eqb b b refl)
of_flagged {b = b} Admits.both = or_right (eqb 3 b) true refl

-- how a value stands to a leaf, by the relations
abbrev pub Stands : Leaf → Content → Finding → Type 0
Stands l c unsuited = ¬ Readable l c
Stands l c refuted = Readable l c × (¬ LeafAdmits l c)
Stands l c admitted = LeafAdmits l c

-- a value that is tried: unless it cannot be read, it passes the test or does not
tried : {A : Type 0} (Is : A → Type 0) (l : Leaf) (c : Content) (o : Option A) (test : A → Bool)
    → ((a : A) → (o ≡ Some a) ↔ Is a)
    → ((a : A) → Is a → Readable l c)
    → (Readable l c → (a : A) × Is a)
    → ((a : A) → Is a → test a ≡ true → LeafAdmits l c)
    → (LeafAdmits l c → (a : A) × Is a × (test a ≡ true))
    → Stands l c (try o test)
tried Is l c None test law f g h k = λ r. let x = g r in none_some ((law x.0).1 x.1)
tried {A} Is l c (Some a) test law f g h k =
    by_cond (Stands l c) (test a)
    (λ e. h a ((law a).0 refl) e)
    (λ e. (f a ((law a).0 refl), λ r. let x = k r in false_true (sym e ∙ (ap test (some_inj ((law x.0).1 x.1)) ∙ x.2))))

-- a word that is read, and one that is admitted, under each kind
boolean_read : {n f p : ℕ} {w : List ℕ} → Readable (single booleans n f) (Data.word p w)
    → (b : ℕ) × IsBoolean w b
boolean_read (Readable.boolean {b = b} e) = (b, e)

boolean_in : {n f p : ℕ} {w : List ℕ} → LeafAdmits (single booleans n f) (Data.word p w)
    → (b : ℕ) × IsBoolean w b × (in_flag f b ≡ true)
boolean_in (LeafAdmits.boolean {b = b} e h) = (b, e, of_flagged h)

integer_read : {l : List Range} {p : ℕ} {w : List ℕ} → Readable (ranges integers l) (Data.word p w)
    → (v : ℕ) × IsInteger w v
integer_read (Readable.integer {v = v} e) = (v, e)

integer_in : {l : List Range} {p : ℕ} {w : List ℕ} → LeafAdmits (ranges integers l) (Data.word p w)
    → (v : ℕ) × IsInteger w v × (in_some v l ≡ true)
integer_in (LeafAdmits.integer {v = v} e h) = (v, e, of_item h)

pattern_read : {n f p : ℕ} {w : List ℕ} → Readable (single date_pattern n f) (Data.word p w)
    → (d : Date) × IsDate w d
pattern_read (Readable.pattern_date {d = d} e) = (d, e)

pattern_in : {n f p : ℕ} {w : List ℕ} → LeafAdmits (single date_pattern n f) (Data.word p w)
    → (d : Date) × IsDate w d × (fits_date f d.parts ≡ true)
unfolding fits_date
pattern_in (LeafAdmits.pattern_date {d = d} e k h) = (d, e, rw (date-listed k) (of_fits h))

date_read : {l : List Range} {p : ℕ} {w : List ℕ} → Readable (ranges dates l) (Data.word p w)
    → (d : Date) × IsDate w d
date_read (Readable.interval_date {d = d} e) = (d, e)

date_in : {l : List Range} {p : ℕ} {w : List ℕ} → LeafAdmits (ranges dates l) (Data.word p w)
    → (d : Date) × IsDate w d × ((eqb d.parts 3 && in_some d.day l) ≡ true)
date_in (LeafAdmits.full_date {d = d} e g h) = (d, e, and_both _ _ (eq-eqb d.parts 3 g) (of_item h))

time_read : {n f p : ℕ} {w : List ℕ} → Readable (single time_pattern n f) (Data.word p w) → (k : ℕ) × IsTime w k
time_read (Readable.time {parts = k} e) = (k, e)

time_in : {n f p : ℕ} {w : List ℕ} → LeafAdmits (single time_pattern n f) (Data.word p w)
    → (k : ℕ) × IsTime w k × (fits_time f k ≡ true)
unfolding fits_time
time_in (LeafAdmits.time {parts = k} e l h) = (k, e, rw (time_listed l) (of_fits h))

duration_read : {n f p : ℕ} {w : List ℕ} → Readable (single duration_pattern n f) (Data.word p w)
    → (k : ℕ) × IsDuration w k
duration_read (Readable.duration {filled = k} e) = (k, e)

duration_in : {n f p : ℕ} {w : List ℕ} → LeafAdmits (single duration_pattern n f) (Data.word p w)
    → (k : ℕ) × IsDuration w k × (fits_duration f k ≡ true)
duration_in {f = f} (LeafAdmits.duration {filled = k} e h) = (k, e, (fits_is f k).1 h)

pub word_stands : (l : Leaf) (p : ℕ) (w : List ℕ) → Stands l (Data.word p w) (word_under l w)
unfolding word_under fits_date fits_time
word_stands (single booleans n f) p w =
    tried (IsBoolean w) (single booleans n f) (Data.word p w) (boolean_of w) (in_flag f) (boolean_word w)
    (λ b e. Readable.boolean e)
    boolean_read
    (λ b e h. LeafAdmits.boolean e (flagged_of f b h))
    boolean_in
word_stands (ranges integers l) p w =
    tried (IsInteger w) (ranges integers l) (Data.word p w) (integer_of w) (λ v. in_some v l) (integer-word w)
    (λ v e. Readable.integer e)
    integer_read
    (λ v e h. LeafAdmits.integer e (in_item_lem v l h))
    integer_in
word_stands (texts l) p w = elim [ ]
word_stands (single date_pattern n f) p w =
    tried (IsDate w) (single date_pattern n f) (Data.word p w) (date_of w) (λ d. fits_date f d.parts) (date-word w)
    (λ d e. Readable.pattern_date e)
    pattern_read
    (λ d e h. let (ps, k, x) = date_pattern_lem f d.parts (date_parts e) h in LeafAdmits.pattern_date e k x)
    pattern_in
word_stands (ranges dates l) p w =
    tried (IsDate w) (ranges dates l) (Data.word p w) (date_of w) (λ d. eqb d.parts 3 && in_some d.day l) (date-word w)
    (λ d e. Readable.interval_date e)
    date_read
    (λ d e h. LeafAdmits.full_date e (eqb-true d.parts 3 (and_left (eqb d.parts 3) (in_some d.day l) h)) (in_item_lem d.day l (and_right (eqb d.parts 3) (in_some d.day l) h)))
    date_in
word_stands (single time_pattern n f) p w =
    tried (IsTime w) (single time_pattern n f) (Data.word p w) (time_of w) (fits_time f) (time_word w)
    (λ k e. Readable.time e)
    time_read
    (λ k e h. let (ps, l, x) = time_pattern_lem f k (time_parts e) h in LeafAdmits.time e l x)
    time_in
word_stands (single duration_pattern n f) p w =
    tried (IsDuration w) (single duration_pattern n f) (Data.word p w) (duration_of w) (fits_duration f) (duration_word w)
    (λ k e. Readable.duration e)
    duration_read
    (λ k e h. LeafAdmits.duration e ((fits_is f k).0 h))
    duration_in

-- a string is read under strings alone
no_single : (sort : SingleSort) (n f p : ℕ) (w : List ℕ) → ¬ Readable (single sort n f) (Data.string p w)
no_single sort n f p w r = elim r [ ]

no_ranges : (sort : RangeSort) (l : List Range) (p : ℕ) (w : List ℕ) → ¬ Readable (ranges sort l) (Data.string p w)
no_ranges sort l p w r = elim r [ ]

pub string_stands : (l : Leaf) (p : ℕ) (w : List ℕ) → Stands l (Data.string p w) (string_under l w)
unfolding string_under
string_stands (single sort n f) p w = no_single sort n f p w
string_stands (ranges sort l) p w = no_ranges sort l p w
string_stands (texts l) p w =
    by_cond (Stands (texts l) (Data.string p w)) (is_some w l)
    (λ e. LeafAdmits.string (is_item_lem w l e))
    (λ e. (Readable.string, λ r. false_true (sym e ∙ string_in r)))
