-- A leaf is read exactly where the grammar derives it, before the `}` behind it. Assumes nothing.
use mathlib.Core.Path.{◌≡◌, refl, sym, ◌∙◌, subst}
use mathlib.Core.Logic.{◌≢◌}
use mathlib.Core.Bool.{Bool, true, false, cond, not, ◌||◌, ◌&&◌}
use Rattle.std.specs.Prelude.{Option, None, Some}
use mathlib.Core.List.{List, [], ◌∷◌, Memᴰ}
use Prim.Native.Nat.{ℕ, zero, suc, ◌≤◌, ◌+◌, ◌-◌}
use native.Mathlib.Nat.{le_of_lt}
use native.Mathlib.Omega.{arith}
use lib.Dec.{eqb, leb, ltb}
use lib.ListN.{length}
use borrow.Author.Tests.{eqb-true, eqb-false, ltb-false, le-ltb, leb-true, leb-false, le-leb, lt-leb, eq-eqb, ne_eqb}
use Rattle.lexis.specs.Bytes.{within}
use Rattle.lexis.specs.Runs.{listed}
use Rattle.lexis.specs.Spelling.{bar, dots, less, greater, at_most, at_least, plus_minus, comma, true_word, false_word, close_brace}
use Rattle.lexis.specs.Tokens.{token_at, content_token_at, type_name, integer, date, string, spelling, inner}
use Rattle.lexis.specs.LongestMatch.{PatternHere, pattern_here}
use Rattle.lexis.specs.DurationRules.{SpellsPattern}
use Rattle.lexis.specs.declared.Token.{Token}
use Rattle.lexis.proofs.Cases.{and_left, and_right, by_cond}
use Rattle.values.specs.Integers.{Pair, pair, inside, around}
use Rattle.refusals.specs.Limits.{record_limit, string_limit, item_limit}
use Rattle.refusals.specs.Reading.{Reading, got}
use Rattle.refusals.specs.Parsing.{first_in}
use Rattle.refusals.specs.declared.Cause.TheVariants.{Impossible, OutOfRange, EmptyInterval, TooLong, TooManyItems, TooManyRecords, Overlap}
use Rattle.refusals.specs.Expecting.{syntax_cause, expect}
use Rattle.meaning.specs.Constraints.{Range, Text, Leaf, booleans, date_pattern, time_pattern, duration_pattern, single}
use Rattle.meaning.specs.Constraints
use Rattle.cadl_intervals.specs.Intervals.{Ends, ends, undecided, kind_by, least, most, after, literal_value, possible, empty, closed, Interval}
use Rattle.cadl_intervals.specs.Clauses.Told.{with_literal, between, interval}
use Rattle.cadl_intervals.specs.Clauses.Told
use Rattle.cadl_items.specs.Ranges.{Start, meet, overlaps, Ranges, range}
use Rattle.cadl_items.specs.Clauses.Told.{start, item, ranges, start_string, strings, leaf}
use Rattle.cadl_items.specs.Leaves.{is_boolean, boolean_flag, range_leaf}
use Rattle.cadl_intervals.proofs.IntervalParts.{literal_is, up_is, above_is, spread_is, from_is, between_is, interval_is}
use Rattle.cadl_intervals.proofs.Pairs.{Value, value_read, least-good, most-good, after-good}
use Rattle.cadl_items.proofs.LeafParts.{start_is, ranges_none, ranges_some, start-string_is, strings_none, strings_some, second_is, boolean_is, leaf_is}
use Rattle.rules_grammar.specs.DataGrammar.{Distinct, no_name, new_name}
use Rattle.rules_grammar.specs.LeafGrammar.{NextToken, next, IsLiteral, DerivesLiteral, literal, StepsTo, DerivesEnds, DerivesItem, a_value, an_interval, DerivesItems, last_item, more_items, Meet, Apart, no_item, new_item, DerivesStrings, last_string, more_strings, texts_in, Boolean, a_true, a_false, DerivesLeaf}
use Rattle.rules_grammar.specs.LeafGrammar
use Rattle.rules_grammar.proofs.NextLaws.{next_token, token_read, sort_read, content_token, content_same, content_read, pattern_read, pattern_stands, flag_least, flag_most, date_long}
use Rattle.lexis.proofs.TestLaws.{true_or_false, false_true, or_cases, or_left, or_right, and_both}
use Rattle.rules_grammar.proofs.LiteralLaws.{literal_of_lem, integer-literal, date-literal}
use Rattle.rules_grammar.proofs.EndLaws.{Kind, is_integer, is_date, value-least, value-most, bounds_of, bounds_are, step_after, step_least, stepped, step_below, Spread, spread_of, spread_got}
use Rattle.rules_grammar.proofs.Given.{Gives, got_gives, refuse_gives, cond_gives, unless_gives, then_gives, given, gives_map}
use Rattle.rules_grammar.proofs.Derived.{not_listed, listed_not, other, head_new, tail_new}

-- how a list's kind is decided
data Asked : ℕ → Type 0 where
  unasked : Asked undecided
  asked : {k : ℕ} → Kind k → Asked k

data Suits : ℕ → ℕ → Type 0 where
  kept : {k : ℕ} → Kind k → Suits k k
  newly : {k : ℕ} → Kind k → Suits undecided k

suits_kind : {k j : ℕ} → Suits k j → Kind j
suits_kind (kept x) = x
suits_kind (newly x) = x

decided : {k : ℕ} → Asked k → (t : Token) → Suits k (kind_by k t)
decided unasked t = by_cond (Suits undecided) (eqb t.sort date) (λ e. newly is_date) (λ e. newly is_integer)
decided (asked is_integer) t = kept is_integer
decided (asked is_date) t = kept is_date

-- a literal's value is what it says
literal_says : {s : List ℕ} {kind from v : ℕ} {t : Token} → Kind kind → NextToken s from kind t
    → literal_value kind (spelling s t) ≡ Some v → IsLiteral kind (spelling s t) v
literal_says is_integer n e = (integer-literal _ _).0 e
literal_says is_date n e = (date-literal _ _ (date_long n)).0 e

-- and it is a value of its kind
literal-good : {s : List ℕ} {kind from v : ℕ} {t : Token} → DerivesLiteral s kind from v t → Value kind v
literal-good (literal n h) = value_read _ _ _ (literal_of_lem h)

-- what each part of the reader gives
pub data Took (s : List ℕ) (sort from : ℕ) : Token → ℕ → Type 0 where
  took : {t : Token} → NextToken s from sort t → Took s sort from t t.end

data LiteralGiven (s : List ℕ) (kind from : ℕ) : ℕ → ℕ → Type 0 where
  literal_given : {v : ℕ} {t : Token} → DerivesLiteral s kind from v t → LiteralGiven s kind from v t.end

data UpGiven (s : List ℕ) (kind low from : ℕ) : Ends → ℕ → Type 0 where
  closed_up : {b : ℕ} {u : Token} → DerivesLiteral s kind from b u
      → UpGiven s kind low from (ends kind low b false) u.end
  open_up : {b : ℕ} {l u : Token} → NextToken s from less l → DerivesLiteral s kind l.end b u
      → UpGiven s kind low from (ends kind low b true) u.end

data EndsGiven (s : List ℕ) (kind from : ℕ) : Ends → ℕ → Type 0 where
  ends_given : {k p : ℕ} {e : Ends} → Suits kind k → (empty e ≡ false → DerivesEnds s k from (closed e) p) → e.kind ≡ k
      → EndsGiven s kind from e p

data ItemGiven (s : List ℕ) (kind from : ℕ) : Interval → ℕ → Type 0 where
  item_given : {i : Interval} {p : ℕ} → Suits kind i.kind → DerivesItem s i.kind from i.pair p
      → ItemGiven s kind from i p

data RangesGiven (s : List ℕ) (left kind n : ℕ) (seen : List Pair) (from : ℕ) : Ranges → ℕ → Type 0 where
  ranges_given : {r : Ranges} {p : ℕ} → Suits kind r.kind → DerivesItems s r.kind n from r.items p
      → length r.items ≤ left → Apart seen r.items → RangesGiven s left kind n seen from r p

data StringsGiven (s : List ℕ) (left n : ℕ) (seen : List (List ℕ)) (from : ℕ) : List Text → ℕ → Type 0 where
  strings_given : {l : List Text} {p : ℕ} → DerivesStrings s n from l p → length l ≤ left → Distinct seen (texts_in l)
      → StringsGiven s left n seen from l p

data StringGiven (s : List ℕ) (from : ℕ) : Token → ℕ → Type 0 where
  string_given : {t : Token} → NextToken s from string t → length (inner s t) ≤ string_limit
      → StringGiven s from t t.end

no_overlap : (x : Pair) (ys : List Pair) → overlaps x ys ≡ false → (y : Pair) → Memᴰ y ys → ¬ Meet x y
no_overlap x ys h y m k = false_true (sym h ∙ meets ys m)
  where
    meets : (zs : List Pair) → Memᴰ y zs → overlaps x zs ≡ true
    meets [] n = elim n [ ]
    meets (z ∷ zs) (Memᴰ.head e) =
        or_left (meet x z) (overlaps x zs) (subst (λ (w : Pair). meet x w ≡ true) e (and_both (leb x.low y.high) (leb y.low x.high) (le-leb _ _ k.low) (le-leb _ _ k.high)))
    meets (z ∷ zs) (Memᴰ.tail n) = or_right (meet x z) (overlaps x zs) (meets zs n)

apart_overlap : (x : Pair) (ys : List Pair) → ((y : Pair) → Memᴰ y ys → ¬ Meet x y) → overlaps x ys ≡ false
apart_overlap x [] h = refl
apart_overlap x (y ∷ ys) h =
    true_or_false (meet x y || overlaps x ys)
    (λ e. or_cases (meet x y) (overlaps x ys) e
    (λ f. absurd (h y (Memᴰ.head refl) (record { low = leb-true _ _ (and_left (leb x.low y.high) (leb y.low x.high) f); high = leb-true _ _ (and_right (leb x.low y.high) (leb y.low x.high) f) })))
    (λ f. absurd (false_true (sym (apart_overlap x ys (λ z m. h z (Memᴰ.tail m))) ∙ f))))
    (λ e. e)

module _ (s : List ℕ) where
  pub expect_gives : (sort from : ℕ) → Gives (Took s sort from) (expect s sort from)
  unfolding expect
  expect_gives sort from =
      let t = token_at s from in
      let P = Took s sort from in
      cond_gives P (eqb t.sort sort) _ _ (λ e. got_gives P t t.end (took (next_token (eqb-true _ _ e)))) (λ e. refuse_gives P (syntax_cause t) t.start)

  literal_gives : (kind from : ℕ) → Kind kind → Gives (LiteralGiven s kind from) (Told.literal s kind from)
  literal_gives kind from k =
      rw (literal_is s kind from) (then_gives (LiteralGiven s kind from) (Took s kind from) (expect s kind from) _ (expect_gives kind from) (λ t p x. go x (literal_value kind (spelling s t)) refl))
    where
      go : {t : Token} {p : ℕ} → Took s kind from t p → (o : Option ℕ) → literal_value kind (spelling s t) ≡ o
          → Gives (LiteralGiven s kind from) (first_in (possible t o))
      go {t} x None e = refuse_gives (LiteralGiven s kind from) Impossible t.start
      go {t} (took n) (Some v) e = got_gives (LiteralGiven s kind from) v t.end (literal_given (literal n (literal_says k n e)))

  up_gives : (kind low from : ℕ) → Kind kind → Gives (UpGiven s kind low from) (Told.up_to s kind low from)
  up_gives kind low from k =
      let t = token_at s from in
      let P = UpGiven s kind low from in
      rw (up_is s kind low from) (cond_gives P (eqb t.sort less) _ _
      (λ e. then_gives P (LiteralGiven s kind t.end) (Told.literal s kind t.end) _ (literal_gives kind t.end k) (λ b p x. opened (next_token (eqb-true _ _ e)) x))
      (λ e. then_gives P (LiteralGiven s kind from) (Told.literal s kind from) _ (literal_gives kind from k) (λ b p x. shut x)))
    where
      opened : {l : Token} {b p : ℕ} → NextToken s from less l → LiteralGiven s kind l.end b p
          → Gives (UpGiven s kind low from) (got (ends kind low b true) p)
      opened n (literal_given x) = got_gives (UpGiven s kind low from) _ _ (open_up n x)

      shut : {b p : ℕ} → LiteralGiven s kind from b p → Gives (UpGiven s kind low from) (got (ends kind low b false) p)
      shut (literal_given x) = got_gives (UpGiven s kind low from) _ _ (closed_up x)

  -- behind `|>a` and behind `|a`
  above_gives : {kind k from a : ℕ} {g t : Token} → Suits kind k → NextToken s from greater g
      → DerivesLiteral s k g.end a t
      → Gives (EndsGiven s kind from) (Told.above s k a t.end)
  above_gives {kind} {k} {from} {a} {g} {t} q n x =
      let d = token_at s t.end in
      let P = EndsGiven s kind from in
      rw (above_is s k a t.end) (cond_gives P (eqb d.sort dots) _ _
      (λ e. gives_map (UpGiven s k (after k a) d.end) P _ (λ f p y. made (next_token (eqb-true _ _ e)) y) (up_gives k (after k a) d.end (suits_kind q)))
      (λ e. got_gives P (ends k (after k a) (most k) false) t.end (ends_given q (λ h. LeafGrammar.above n x (bounds_of j) (step_after j v (most-good k) (ltb-false _ _ h)) (ltb-false _ _ h)) refl)))
    where
      j : Kind k
      j = suits_kind q

      v : Value k a
      v = literal-good x

      made : {d : Token} {f : Ends} {p : ℕ} → NextToken s t.end dots d → UpGiven s k (after k a) d.end f p
          → EndsGiven s kind from f p
      made m (closed_up y) = ends_given q (λ h. LeafGrammar.open_low n x m y (step_after j v (literal-good y) (ltb-false _ _ h)) (ltb-false _ _ h)) refl
      made m (open_up {b = b} l y) = ends_given q (λ h.
          let z = step_below j (record { low = after-good k a v; high = literal-good y }) h in
          LeafGrammar.open_both n x m l y (step_after j v (literal-good y) (le_of_lt (leb-false b (after k a) h))) z.0 z.1) refl

  from_gives : {kind k from a : ℕ} {t : Token} → Suits kind k → DerivesLiteral s k from a t
      → Gives (EndsGiven s kind from) (Told.from s k a t.end)
  from_gives {kind} {k} {from} {a} {t} q x =
      let d = token_at s t.end in
      let P = EndsGiven s kind from in
      rw (from_is s k a t.end, spread_is s a d.end) (cond_gives P (eqb d.sort dots) _ _
      (λ e. gives_map (UpGiven s k a d.end) P _ (λ f p y. made (next_token (eqb-true _ _ e)) y) (up_gives k a d.end (suits_kind q)))
      (λ e. cond_gives P (eqb d.sort plus_minus) _ _
      (λ f. cond_gives P (eqb k date) _ _ (λ g. refuse_gives P (syntax_cause d) d.start)
      (λ g. then_gives P (LiteralGiven s integer d.end) (Told.literal s integer d.end) _ (literal_gives integer d.end is_integer) (λ v p y.
      unless_gives P (cond (inside a v) false true) OutOfRange (token_at s d.end).start _ (λ i.
      got_gives P (ends integer (around a v).low (around a v).high false) p (spreads (next_token (eqb-true _ _ f)) (whole k (suits_kind q) g) y (held (inside a v) i))))))
      (λ f. got_gives P (ends k a a false) t.end (ends_given q (λ h. LeafGrammar.point x) refl))))
    where
      made : {d : Token} {f : Ends} {p : ℕ} → NextToken s t.end dots d → UpGiven s k a d.end f p
          → EndsGiven s kind from f p
      made m (closed_up y) = ends_given q (λ h. LeafGrammar.closed_ends x m y (ltb-false _ _ h)) refl
      made m (open_up l y) = ends_given q (λ h.
          let z = step_below (suits_kind q) (record { low = λ e i. (literal-good x).day e; high = literal-good y }) h in
          LeafGrammar.open_high x m l y z.0 z.1) refl

      whole : (j : ℕ) → Kind j → eqb j date ≡ false → j ≡ integer
      whole j is_integer g = refl
      whole j is_date g = absurd (false_true (sym g))

      held : (b : Bool) → cond b false true ≡ false → b ≡ true
      held true i = refl
      held false i = sym i

      spreads_by : {m u : Token} {v : ℕ} → NextToken s t.end plus_minus m → k ≡ integer
          → DerivesLiteral s integer m.end v u → Spread a v → DerivesEnds s k from (around a v) u.end
      spreads_by m e y z = rw z.ends (LeafGrammar.spread z.size e x m (rw z.value at y) z.least z.most)

      spreads : {m : Token} {v p : ℕ} → NextToken s t.end plus_minus m → k ≡ integer
          → LiteralGiven s integer m.end v p → inside a v ≡ true
          → EndsGiven s kind from (ends integer (around a v).low (around a v).high false) p
      spreads {v = v} m e (literal_given y) i = ends_given q (λ h. spreads_by m e y (spread_of a v i h)) (sym e)

  with_gives : (kind at : ℕ) (go : ℕ → ℕ → ℕ → Reading Ends) (P : Ends → ℕ → Type 0) → Asked kind
      → ((k a : ℕ) (t : Token) → Suits kind k → DerivesLiteral s k at a t → Gives P (go k a t.end))
      → Gives P (with_literal s kind at go)
  with_gives kind at go P w f =
      let k = kind_by kind (token_at s at) in
      then_gives P (LiteralGiven s k at) (Told.literal s k at) _ (literal_gives k at (suits_kind (decided w (token_at s at)))) (λ a p x. made (decided w (token_at s at)) x)
    where
      made : {k a p : ℕ} → Suits kind k → LiteralGiven s k at a p → Gives P (go k a p)
      made {k} {a} q (literal_given {t = t} x) = f k a t q x

  between_gives : (kind at : ℕ) → Asked kind → Gives (EndsGiven s kind at) (between s kind at)
  between_gives kind at w =
      let t = token_at s at in
      let P = EndsGiven s kind at in
      rw (between_is s kind at) (cond_gives P (eqb t.sort greater) _ _
      (λ e. with_gives kind t.end (Told.above s) P w (λ k a u q x. above_gives q (next_token (eqb-true _ _ e)) x))
      (λ e. cond_gives P (eqb t.sort less) _ _
      (λ f. with_gives kind t.end (λ k a p. got (ends k (least k) a true) p) P w (λ k a u q x. got_gives P _ _ (ends_given q (λ h.
      let z = step_below (suits_kind q) (record { low = least-good k; high = literal-good x }) h in
      LeafGrammar.below (next_token (eqb-true _ _ f)) x (bounds_of (suits_kind q)) z.0) refl)))
      (λ f. cond_gives P (eqb t.sort at_most) _ _
      (λ g. with_gives kind t.end (λ k a p. got (ends k (least k) a false) p) P w (λ k a u q x. got_gives P _ _ (ends_given q (λ h. LeafGrammar.up_to (next_token (eqb-true _ _ g)) x (bounds_of (suits_kind q))) refl)))
      (λ g. cond_gives P (eqb t.sort at_least) _ _
      (λ h. with_gives kind t.end (λ k a p. got (ends k a (most k) false) p) P w (λ k a u q x. got_gives P _ _ (ends_given q (λ i. LeafGrammar.from (next_token (eqb-true _ _ h)) x (bounds_of (suits_kind q))) refl)))
      (λ h. with_gives kind at (Told.from s) P w (λ k a u q x. from_gives q x))))))

data StartGiven (s : List ℕ) (kind from : ℕ) : Start → ℕ → Type 0 where
  bar_start : {place : ℕ} {o : Token} → NextToken s from bar o
      → StartGiven s kind from (record { place = place; single = false; value = 0 }) o.end
  value_start : {place v : ℕ} {t : Token} → Suits kind integer → DerivesLiteral s integer from v t
      → StartGiven s kind from (record { place = place; single = true; value = v }) t.end

-- a kind that a value may have
value-suits : {k : ℕ} → Asked k → eqb k date ≡ false → Suits k integer
value-suits unasked e = newly is_integer
value-suits (asked is_integer) e = kept is_integer
value-suits (asked is_date) e = absurd (false_true (sym e))

-- a decided kind stays
no_kind : ¬ Kind undecided
no_kind = elim [ ]

one_kind : {k j : ℕ} → Kind k → Suits k j → k ≡ j
one_kind x (kept y) = refl
one_kind x (newly y) = absurd (no_kind x)

first_kind : {k j i : ℕ} → Suits k j → Suits j i → Suits k i
first_kind {k} x y = subst (Suits k) (one_kind (suits_kind x) y) x

not_true_false : (b : Bool) → not b ≡ true → b ≡ false
not_true_false true e = sym e
not_true_false false e = refl

module _ (s : List ℕ) where
  start_gives : (kind from : ℕ) → Asked kind → Gives (StartGiven s kind from) (start s kind from)
  start_gives kind from w =
      let t = token_at s from in
      let P = StartGiven s kind from in
      rw (start_is s kind from) (cond_gives P (eqb t.sort bar) _ _
      (λ e. got_gives P (record { place = t.start; single = false; value = 0 }) t.end (bar_start (next_token (eqb-true _ _ e))))
      (λ e. cond_gives P (eqb t.sort integer && not (eqb kind date)) _ _
      (λ f. then_gives P (LiteralGiven s integer from) (Told.literal s integer from) _ (literal_gives s integer from is_integer) (λ v p x.
      got_gives P (record { place = t.start; single = true; value = v }) p (made (value-suits w (not_true_false (eqb kind date) (and_right (eqb t.sort integer) (not (eqb kind date)) f))) x)))
      (λ f. refuse_gives P (syntax_cause t) t.start)))
    where
      made : {place v p : ℕ} → Suits kind integer → LiteralGiven s integer from v p
          → StartGiven s kind from (record { place = place; single = true; value = v }) p
      made q (literal_given x) = value_start q x

  interval_gives : (kind from : ℕ) (o : Token) → NextToken s from bar o → Asked kind
      → Gives (ItemGiven s kind from) (interval s kind o.end)
  interval_gives kind from o n w =
      let P = ItemGiven s kind from in
      rw (interval_is s kind o.end) (then_gives P (EndsGiven s kind o.end) (between s kind o.end) _ (between_gives s kind o.end w) (λ e p x.
      then_gives P (Took s bar p) (expect s bar p) _ (expect_gives s bar p) (λ t q y.
      unless_gives P (empty e) EmptyInterval t.start _ (λ z. got_gives P (record { kind = e.kind; pair = closed e }) q (made x y z)))))
    where
      made : {e : Ends} {p q : ℕ} {t : Token} → EndsGiven s kind o.end e p → Took s bar p t q → empty e ≡ false
          → ItemGiven s kind from (record { kind = e.kind; pair = closed e }) q
      made {e} {p} (ends_given j d f) (took b) z = item_given (subst (Suits kind) (sym f) j) (an_interval n (subst (λ k. DerivesEnds s k o.end (closed e) p) (sym f) (d z)) b)

  item_gives : (kind from p : ℕ) (x : Start) → Asked kind → StartGiven s kind from x p
      → Gives (ItemGiven s kind from) (item s kind x p)
  item_gives kind from p x w (bar_start {o = o} n) = interval_gives kind from o n w
  item_gives kind from p x w (value_start q l) = got_gives (ItemGiven s kind from) _ _ (item_given q (a_value refl l))

  ranges_gives : (left kind n : ℕ) (seen : List Pair) (from : ℕ) → Asked kind
      → Gives (RangesGiven s left kind n seen from) (ranges s left kind n seen from)
  ranges_gives zero kind n seen from w =
      let P = RangesGiven s 0 kind n seen from in
      rw (ranges_none s kind n seen from) (then_gives P (StartGiven s kind from) (start s kind from) _ (start_gives kind from w) (λ x p y. refuse_gives P TooManyItems x.place))
  ranges_gives (suc left) kind n seen from w =
      let P = RangesGiven s (suc left) kind n seen from in
      rw (ranges_some s left kind n seen from) (then_gives P (StartGiven s kind from) (start s kind from) _ (start_gives kind from w) (λ x p y.
      unless_gives P (eqb n record_limit) TooManyRecords x.place _ (λ a.
      then_gives P (ItemGiven s kind from) (item s kind x p) _ (item_gives kind from p x w y) (λ i q z.
      unless_gives P (overlaps i.pair seen) Overlap x.place _ (λ b.
      cond_gives P (eqb (token_at s q).sort comma) _ _
      (λ e. then_gives P (RangesGiven s left i.kind (n + 1) (i.pair ∷ seen) (token_at s q).end) (ranges s left i.kind (n + 1) (i.pair ∷ seen) (token_at s q).end) _
      (ranges_gives left i.kind (n + 1) (i.pair ∷ seen) (token_at s q).end (asked (item_kind z)))
      (λ l r u. got_gives P (record { kind = l.kind; items = range n i.pair ∷ l.items }) r (more (eqb-false _ _ a) z (no_overlap i.pair seen b) (next_token (eqb-true _ _ e)) u)))
      (λ e. got_gives P (record { kind = i.kind; items = range n i.pair ∷ [] }) q (last (eqb-false _ _ a) z (no_overlap i.pair seen b))))))))
    where
      item_kind : {i : Interval} {q : ℕ} → ItemGiven s kind from i q → Kind i.kind
      item_kind (item_given j d) = suits_kind j

      last : {i : Interval} {q : ℕ} → n ≢ record_limit → ItemGiven s kind from i q
          → ((y : Pair) → Memᴰ y seen → ¬ Meet i.pair y)
          → RangesGiven s (suc left) kind n seen from (record { kind = i.kind; items = range n i.pair ∷ [] }) q
      last a (item_given j d) b = ranges_given j (last_item a d) (omega arith) (new_item b no_item)

      more : {i : Interval} {q r : ℕ} {c : Token} {l : Ranges} → n ≢ record_limit → ItemGiven s kind from i q
          → ((y : Pair) → Memᴰ y seen → ¬ Meet i.pair y) → NextToken s q comma c
          → RangesGiven s left i.kind (n + 1) (i.pair ∷ seen) c.end l r
          → RangesGiven s (suc left) kind n seen from
          (record { kind = l.kind; items = range n i.pair ∷ l.items }) r
      more {i} {q} a (item_given j d) b m (ranges_given f g h k) =
          ranges_given (first_kind j f) (more_items a (subst (λ u. DerivesItem s u from i.pair q) (one_kind (suits_kind j) f) d) m g) (omega arith) (new_item b k)

  string_gives : (from : ℕ) → Gives (StringGiven s from) (start_string s from)
  string_gives from =
      let P = StringGiven s from in
      rw (start-string_is s from) (then_gives P (Took s string from) (expect s string from) _ (expect_gives s string from) (λ t p x.
      unless_gives P (ltb string_limit (length (inner s t))) TooLong t.start _ (λ l. got_gives P t p (made x (ltb-false _ _ l)))))
    where
      made : {t : Token} {p : ℕ} → Took s string from t p → length (inner s t) ≤ string_limit → StringGiven s from t p
      made (took n) l = string_given n l

  strings_gives : (left n : ℕ) (seen : List (List ℕ)) (from : ℕ)
      → Gives (StringsGiven s left n seen from) (strings s left n seen from)
  unfolding texts_in
  strings_gives zero n seen from =
      let P = StringsGiven s 0 n seen from in
      rw (strings_none s n seen from) (then_gives P (StringGiven s from) (start_string s from) _ (string_gives from) (λ t p x. refuse_gives P TooManyItems t.start))
  strings_gives (suc left) n seen from =
      let P = StringsGiven s (suc left) n seen from in
      rw (strings_some s left n seen from) (then_gives P (StringGiven s from) (start_string s from) _ (string_gives from) (λ t p x.
      unless_gives P (eqb n record_limit) TooManyRecords t.start _ (λ a.
      unless_gives P (listed (inner s t) seen) Overlap t.start _ (λ b.
      cond_gives P (eqb (token_at s p).sort comma) _ _
      (λ e. then_gives P (StringsGiven s left (n + 1) (inner s t ∷ seen) (token_at s p).end) (strings s left (n + 1) (inner s t ∷ seen) (token_at s p).end) _
      (strings_gives left (n + 1) (inner s t ∷ seen) (token_at s p).end)
      (λ l r u. got_gives P (record { number = n; text = inner s t } ∷ l) r (more x (eqb-false _ _ a) (listed_not _ _ b) (next_token (eqb-true _ _ e)) u)))
      (λ e. got_gives P (record { number = n; text = inner s t } ∷ []) p (last x (eqb-false _ _ a) (listed_not _ _ b)))))))
    where
      last : {t : Token} {p : ℕ} → StringGiven s from t p → n ≢ record_limit → ¬ Memᴰ (inner s t) seen
          → StringsGiven s (suc left) n seen from (record { number = n; text = inner s t } ∷ []) p
      last (string_given m l) a b = strings_given (last_string m l a) (omega arith) (new_name b no_name)

      more : {t d : Token} {p r : ℕ} {l : List Text} → StringGiven s from t p → n ≢ record_limit
          → ¬ Memᴰ (inner s t) seen → NextToken s p comma d
          → StringsGiven s left (n + 1) (inner s t ∷ seen) d.end l r
          → StringsGiven s (suc left) n seen from (record { number = n; text = inner s t } ∷ l) r
      more (string_given m l) a b e (strings_given f g h) = strings_given (more_strings m l a e f) (omega arith) (new_name b h)

  boolean_of_lem : (from : ℕ) (t : Token) → ((sort : ℕ) → sort ≤ 99 → t.sort ≡ sort → NextToken s from sort t)
      → is_boolean t ≡ true → Boolean s from (boolean_flag t) t
  boolean_of_lem from t n h =
      by_cond (λ (b : ℕ). Boolean s from b t) (eqb t.sort true_word) (λ e. a_true (n true_word (omega arith) (eqb-true _ _ e)))
      (λ e. or_cases (eqb t.sort true_word) (eqb t.sort false_word) h (λ f. absurd (false_true (sym e ∙ f))) (λ f. a_false (n false_word (omega arith) (eqb-true _ _ f))))

  leaf_gives : (n from : ℕ) → Gives (DerivesLeaf s n from) (leaf s n from)
  leaf_gives n from =
      let t = content_token_at s from in
      let u = token_at s t.end in
      let v = token_at s u.end in
      let P = DerivesLeaf s n from in
      rw (leaf_is s n from, boolean_is s n t, second_is s n (boolean_flag t) u.end) (cond_gives P (is_boolean t) _ _
      (λ e. unless_gives P (eqb n record_limit) TooManyRecords t.start _ (λ a.
      cond_gives P (eqb u.sort comma) _ _
      (λ f. cond_gives P (is_boolean v) _ _
      (λ g. unless_gives P (eqb (boolean_flag v) (boolean_flag t)) Overlap v.start _ (λ b.
      got_gives P (single booleans n 3) v.end (LeafGrammar.two_booleans (eqb-false _ _ a) (first e) (next_token (eqb-true _ _ f)) (boolean_of_lem u.end v (λ k l h. next_token h) g) (eqb-false _ _ b))))
      (λ g. refuse_gives P (syntax_cause v) v.start))
      (λ f. got_gives P (single booleans n (boolean_flag t)) t.end (LeafGrammar.one_boolean (eqb-false _ _ a) (first e)))))
      (λ e. cond_gives P (eqb t.sort integer || eqb t.sort bar) _ _
      (λ f. then_gives P (RangesGiven s item_limit undecided n [] from) (ranges s item_limit undecided n [] from) _ (ranges_gives item_limit undecided n [] from unasked) (λ l p x. got_gives P (range_leaf l) p (items x)))
      (λ f. cond_gives P (eqb t.sort string) _ _
      (λ g. then_gives P (StringsGiven s item_limit n [] from) (strings s item_limit n [] from) _ (strings_gives item_limit n [] from) (λ l p x. got_gives P (Constraints.texts l) p (texts x)))
      (λ g. cond_gives P (within 31 35 t.sort) _ _
      (λ h. unless_gives P (eqb n record_limit) TooManyRecords t.start _ (λ a.
      let x : 31 ≤ t.sort = leb-true _ _ (and_left (leb 31 t.sort) (leb t.sort 35) h) in
      let y : t.sort ≤ 35 = leb-true _ _ (and_right (leb 31 t.sort) (leb t.sort 35) h) in
      got_gives P (single date_pattern n (t.sort - 30)) t.end (LeafGrammar.a_date_pattern (eqb-false _ _ a) (omega arith) (omega arith) (content_token (omega arith) (omega arith)))))
      (λ h. cond_gives P (within 41 44 t.sort) _ _
      (λ i. unless_gives P (eqb n record_limit) TooManyRecords t.start _ (λ a.
      let x : 41 ≤ t.sort = leb-true _ _ (and_left (leb 41 t.sort) (leb t.sort 44) i) in
      let y : t.sort ≤ 44 = leb-true _ _ (and_right (leb 41 t.sort) (leb t.sort 44) i) in
      got_gives P (single time_pattern n (t.sort - 40)) t.end (LeafGrammar.a_time_pattern (eqb-false _ _ a) (omega arith) (omega arith) (content_token (omega arith) (omega arith)))))
      (λ i. cond_gives P (within 101 227 t.sort) _ _
      (λ j. unless_gives P (eqb n record_limit) TooManyRecords t.start _ (λ a.
      let x : 101 ≤ t.sort = leb-true _ _ (and_left (leb 101 t.sort) (leb t.sort 227) j) in
      got_gives P (single duration_pattern n (t.sort - 100)) t.end (duration (eqb-false _ _ a) (pattern_stands s from (t.sort - 100) (omega arith)))))
      (λ j. refuse_gives P (syntax_cause t) t.start)))))))
    where
      first : is_boolean (content_token_at s from) ≡ true
          → Boolean s from (boolean_flag (content_token_at s from)) (content_token_at s from)
      first e = boolean_of_lem from (content_token_at s from) (λ k l h. content_token h l) e

      duration : {start end f : ℕ} → n ≢ record_limit → PatternHere s from start end f
          → DerivesLeaf s n from (single duration_pattern n f) end
      duration r (pattern_here m k c) = LeafGrammar.a_duration_pattern r (next m refl) k

      by_kind : (k : ℕ) (l : List Range) (p : ℕ) → Kind k → DerivesItems s k n from l p → length l ≤ item_limit
          → Apart [] l → DerivesLeaf s n from (range_leaf (record { kind = k; items = l })) p
      by_kind k l p is_integer d a b = LeafGrammar.integer_items d a b
      by_kind k l p is_date d a b = LeafGrammar.date_items d a b

      items : {l : Ranges} {p : ℕ} → RangesGiven s item_limit undecided n [] from l p
          → DerivesLeaf s n from (range_leaf l) p
      items {l} {p} (ranges_given j d a b) = by_kind l.kind l.items p (suits_kind j) d a b

      texts : {l : List Text} {p : ℕ} → StringsGiven s item_limit n [] from l p
          → DerivesLeaf s n from (Constraints.texts l) p
      texts (strings_given d a b) = LeafGrammar.string_items d a b

-- the other way round: what is derived is read
pub expect_got : {s : List ℕ} {sort from : ℕ} {t : Token} → NextToken s from sort t
    → expect s sort from ≡ got t t.end
unfolding expect
expect_got {sort = sort} (next n e) = rw (token_read n, other e sort, eq-eqb sort sort refl)

literal_got : {s : List ℕ} {kind from v : ℕ} {t : Token} → DerivesLiteral s kind from v t
    → Told.literal s kind from ≡ got v t.end
literal_got {s} {kind} {from} (literal n e) = rw (literal_is s kind from, expect_got n, literal_of_lem e)

literal_sort : {s : List ℕ} {kind from v : ℕ} {t : Token} → DerivesLiteral s kind from v t → (token_at s from).sort ≡ kind
literal_sort (literal n h) = sort_read n

-- the kind that a literal decides
kind_got : {k j : ℕ} (t : Token) → Suits k j → t.sort ≡ j → kind_by k t ≡ j
kind_got t (kept is_integer) e = refl
kind_got t (kept is_date) e = refl
kind_got t (newly is_integer) e = rw (other e date)
kind_got t (newly is_date) e = rw (other e date)

with_got : (s : List ℕ) (kind k at a : ℕ) (t : Token) (go : ℕ → ℕ → ℕ → Reading Ends) → Suits kind k
    → DerivesLiteral s k at a t → with_literal s kind at go ≡ go k a t.end
with_got s kind k at a t go q x = rw (kind_got (token_at s at) q (literal_sort x), literal_got x)

-- a literal's token is no mark
mark_not : {k : ℕ} → Kind k → (a m : ℕ) → a ≡ k → eqb integer m ≡ false → eqb date m ≡ false → eqb a m ≡ false
mark_not is_integer a m e f g = other e m ∙ f
mark_not is_date a m e f g = other e m ∙ g

closed_got : {s : List ℕ} {kind from b : ℕ} {u : Token} (low : ℕ) → Kind kind → DerivesLiteral s kind from b u
    → Told.up_to s kind low from ≡ got (ends kind low b false) u.end
closed_got {s} {kind} {from} low q x = rw (up_is s kind low from, mark_not q _ less (literal_sort x) refl refl, literal_got x)

open_got : {s : List ℕ} {kind from b : ℕ} {l u : Token} (low : ℕ) → NextToken s from less l
    → DerivesLiteral s kind l.end b u
    → Told.up_to s kind low from ≡ got (ends kind low b true) u.end
open_got {s} {kind} {from} low (next n e) x = rw (up_is s kind low from, token_read n, other e less, literal_got x)

-- what stands first between the bars
between-greater : {s : List ℕ} {at : ℕ} {g : Token} (kind : ℕ) → NextToken s at greater g
    → between s kind at ≡ with_literal s kind g.end (Told.above s)
between-greater {s} {at} kind (next n e) = rw (between_is s kind at, token_read n, other e greater)

between-less : {s : List ℕ} {at : ℕ} {g : Token} (kind : ℕ) → NextToken s at less g
    → between s kind at ≡ with_literal s kind g.end (λ k a p. got (ends k (least k) a true) p)
between-less {s} {at} kind (next n e) = rw (between_is s kind at, token_read n, other e greater, other e less)

between-most : {s : List ℕ} {at : ℕ} {g : Token} (kind : ℕ) → NextToken s at at_most g
    → between s kind at ≡ with_literal s kind g.end (λ k a p. got (ends k (least k) a false) p)
between-most {s} {at} kind (next n e) = rw (between_is s kind at, token_read n, other e greater, other e less, other e at_most)

between-least : {s : List ℕ} {at : ℕ} {g : Token} (kind : ℕ) → NextToken s at at_least g
    → between s kind at ≡ with_literal s kind g.end (λ k a p. got (ends k a (most k) false) p)
between-least {s} {at} kind (next n e) = rw (between_is s kind at, token_read n, other e greater, other e less, other e at_most, other e at_least)

between-literal : {s : List ℕ} {k at a : ℕ} {t : Token} (kind : ℕ) → Kind k → DerivesLiteral s k at a t
    → between s kind at ≡ with_literal s kind at (Told.from s)
between-literal {s} {k} {at} kind q x =
    let e = literal_sort x in
    rw (between_is s kind at, mark_not q _ greater e refl refl, mark_not q _ less e refl refl, mark_not q _ at_most e refl refl, mark_not q _ at_least e refl refl)

-- what stands behind `|>a`, and behind `|a`
above-dots : {s : List ℕ} {at : ℕ} {d : Token} (k a : ℕ) → NextToken s at dots d
    → Told.above s k a at ≡ Told.up_to s k (after k a) d.end
above-dots {s} {at} k a (next n e) = rw (above_is s k a at, token_read n, other e dots)

above-bar : {s : List ℕ} {at : ℕ} {d : Token} (k a : ℕ) → NextToken s at bar d
    → Told.above s k a at ≡ got (ends k (after k a) (most k) false) at
above-bar {s} {at} k a (next n e) = rw (above_is s k a at, token_read n, other e dots)

from-dots : {s : List ℕ} {at : ℕ} {d : Token} (k a : ℕ) → NextToken s at dots d
    → Told.from s k a at ≡ Told.up_to s k a d.end
from-dots {s} {at} k a (next n e) = rw (from_is s k a at, token_read n, other e dots)

from-bar : {s : List ℕ} {at : ℕ} {d : Token} (k a : ℕ) → NextToken s at bar d
    → Told.from s k a at ≡ got (ends k a a false) at
from-bar {s} {at} k a (next n e) = rw (from_is s k a at, token_read n, other e dots, other e plus_minus)

from-spread : {s : List ℕ} {at v : ℕ} {m u : Token} (k a : ℕ) → k ≡ integer → NextToken s at plus_minus m
    → DerivesLiteral s integer m.end v u → inside a v ≡ true
    → Told.from s k a at ≡ got (ends integer (around a v).low (around a v).high false) u.end
from-spread {s} {at} {m = m} k a i (next n e) x h = rw (from_is s k a at, token_read n, other e dots, other e plus_minus, other i date, spread_is s a m.end, literal_got x, h)

-- what stands between the bars as it is read
record EndsGot (s : List ℕ) (kind k at : ℕ) (x : Pair) (p : ℕ) : Type 0 where
  read : Ends
  reads : between s kind at ≡ got read p
  of_kind : read.kind ≡ k
  filled : empty read ≡ false
  becomes : closed read ≡ x

shut_got : {s : List ℕ} {kind k at low high p : ℕ} → between s kind at ≡ got (ends k low high false) p → low ≤ high
    → EndsGot s kind k at (pair low high) p
shut_got {k = k} {low = low} {high = high} e h =
    record { read = ends k low high false; reads = e; of_kind = refl; filled = le-ltb high low h; becomes = refl }

below_got : {s : List ℕ} {kind k at low high b p : ℕ} → Kind k → between s kind at ≡ got (ends k low b true) p
    → StepsTo k high b → low ≤ high → EndsGot s kind k at (pair low high) p
below_got {k = k} {low = low} {b = b} q e i h =
    let c = stepped q i in
    record { read = ends k low b true; reads = e; of_kind = refl; filled = lt-leb b low (omega arith); becomes = rw c.last }

module _ (s : List ℕ) (kind k : ℕ) (q : Suits kind k) where
  greater_got : (at a : ℕ) (g t : Token) → NextToken s at greater g → DerivesLiteral s k g.end a t
      → between s kind at ≡ Told.above s k a t.end
  greater_got at a g t n x = between-greater kind n ∙ with_got s kind k g.end a t (Told.above s) q x

  literal_first : (at a : ℕ) (t : Token) → DerivesLiteral s k at a t → between s kind at ≡ Told.from s k a t.end
  literal_first at a t x = between-literal kind (suits_kind q) x ∙ with_got s kind k at a t (Told.from s) q x

  ends_got : (at p : ℕ) (z : Token) (x : Pair) → DerivesEnds s k at x p → NextToken s p bar z → EndsGot s kind k at x p
  ends_got at p z e (LeafGrammar.point {a = a} {t = t} x) b = shut_got (literal_first at a t x ∙ from-bar k a b) (omega arith)
  ends_got at p z e (LeafGrammar.closed_ends {a = a} {t = t} x d y h) b = shut_got (literal_first at a t x ∙ (from-dots k a d ∙ closed_got a (suits_kind q) y)) h
  ends_got at p z e (LeafGrammar.open_high {a = a} {t = t} x d l y i h) b = below_got (suits_kind q) (literal_first at a t x ∙ (from-dots k a d ∙ open_got a l y)) i h
  ends_got at p z e (LeafGrammar.open_low {a = a} {g = g} {t = t} n x d y i h) b =
      let c = (stepped (suits_kind q) i).next in
      shut_got (rw c at (greater_got at a g t n x ∙ (above-dots k a d ∙ closed_got (after k a) (suits_kind q) y))) h
  ends_got at p z e (LeafGrammar.open_both {a = a} {g = g} {t = t} n x d l y i j h) b =
      let c = (stepped (suits_kind q) i).next in
      below_got (suits_kind q) (rw c at (greater_got at a g t n x ∙ (above-dots k a d ∙ open_got (after k a) l y))) j h
  ends_got at p z e (LeafGrammar.spread {a = a} {low = low} m {t = t} i x n y g h) b =
      let c = spread_got a low m g h in
      shut_got (subst (λ j. between s kind at ≡ got (ends j low (a + m) false) p) (sym i) (rw c.1 at (literal_first at a t x ∙ from-spread k a i n y c.0))) (omega arith)
  ends_got at p z e (LeafGrammar.below {a = a} {l = g} {t = t} n x c i) b =
      below_got (suits_kind q) (rw (bounds_are c).0 at (between-less kind n ∙ with_got s kind k g.end a t (λ j v r. got (ends j (least j) v true) r) q x)) i (step_least c i)
  ends_got at p z e (LeafGrammar.above {a = a} {g = g} {t = t} n x c i h) b =
      shut_got (rw ((stepped (suits_kind q) i).next, (bounds_are c).1) at (greater_got at a g t n x ∙ above-bar k a b)) h
  ends_got at p z e (LeafGrammar.up_to {a = a} {l = g} {t = t} n x c) b =
      shut_got (rw (bounds_are c).0 at (between-most kind n ∙ with_got s kind k g.end a t (λ j v r. got (ends j (least j) v false) r) q x)) (rw (bounds_are c).0 at (value-least (suits_kind q) (literal-good x)))
  ends_got at p z e (LeafGrammar.from {a = a} {g = g} {t = t} n x c) b =
      shut_got (rw (bounds_are c).1 at (between-least kind n ∙ with_got s kind k g.end a t (λ j v r. got (ends j v (most j) false) r) q x)) (rw (bounds_are c).1 at (value-most (suits_kind q) (literal-good x)))

-- an item by its first token and the rest
record ItemGot (s : List ℕ) (kind k from : ℕ) (x : Pair) (p : ℕ) : Type 0 where
  opening : Start
  middle : ℕ
  begins : start s kind from ≡ got opening middle
  ends : item s kind opening middle ≡ got (record { kind = k; pair = x }) p

value_kind : {kind k : ℕ} → Suits kind k → k ≡ integer → eqb kind date ≡ false
value_kind (kept is_integer) e = refl
value_kind (kept is_date) e = absurd (omega arith)
value_kind (newly x) e = refl

value-start : (s : List ℕ) (kind from v : ℕ) (t : Token) → eqb kind date ≡ false → DerivesLiteral s integer from v t
    → start s kind from ≡ got (record { place = (token_at s from).start; single = true; value = v }) t.end
value-start s kind from v t d x = let e = literal_sort x in rw (start_is s kind from, other e bar, other e integer, d, literal_got x)

bar-start : (s : List ℕ) (kind from : ℕ) (o : Token) → NextToken s from bar o
    → start s kind from ≡ got (record { place = o.start; single = false; value = 0 }) o.end
bar-start s kind from o (next n e) = rw (start_is s kind from, token_read n, other e bar)

interval_got : (s : List ℕ) (kind k at p : ℕ) (z : Token) (x : Pair) → Suits kind k → DerivesEnds s k at x p
    → NextToken s p bar z → interval s kind at ≡ got (record { kind = k; pair = x }) z.end
interval_got s kind k at p z x q d b =
    let e = ends_got s kind k q at p z x d b in
    rw (interval_is s kind at, e.reads, expect_got b, e.filled) (λ i. got (record { kind = e.of_kind i; pair = e.becomes i }) z.end)

item_got : (s : List ℕ) (kind k from : ℕ) (x : Pair) (p : ℕ) → Suits kind k → DerivesItem s k from x p
    → ItemGot s kind k from x p
item_got s kind k from x p q (a_value {v = v} {t = t} i l) =
    record { opening = record { place = (token_at s from).start; single = true; value = v }; middle = t.end; begins = value-start s kind from v t (value_kind q i) l; ends = rw i }
item_got s kind k from x p q (an_interval {p = r} {o = o} {z = z} n d b) =
    record { opening = record { place = o.start; single = false; value = 0 }; middle = o.end; begins = bar-start s kind from o n; ends = interval_got s kind k o.end r z x q d b }

last_got : (s : List ℕ) (left kind k n : ℕ) (seen : List Pair) (from p m : ℕ) (x : Pair) (o : Start) (z : Token)
    → start s kind from ≡ got o m
    → item s kind o m ≡ got (record { kind = k; pair = x }) p
    → n ≢ record_limit
    → overlaps x seen ≡ false
    → NextToken s p close_brace z
    → ranges s (suc left) kind n seen from ≡ got (record { kind = k; items = range n x ∷ [] }) p
last_got s left kind k n seen from p m x o z a b c d w = rw (ranges_some s left kind n seen from, a, ne_eqb n record_limit c, b, d, other (sort_read w) comma)

more_got : (s : List ℕ) (left kind k n : ℕ) (seen : List Pair) (from p m r : ℕ) (x : Pair) (o : Start) (c : Token)
    (l : List Range)
    → start s kind from ≡ got o m
    → item s kind o m ≡ got (record { kind = k; pair = x }) p
    → n ≢ record_limit
    → overlaps x seen ≡ false
    → NextToken s p comma c
    → ranges s left k (n + 1) (x ∷ seen) c.end ≡ got (record { kind = k; items = l }) r
    → ranges s (suc left) kind n seen from ≡ got (record { kind = k; items = range n x ∷ l }) r
more_got s left kind k n seen from p m r x o c l a b d f (next i e) h = rw (ranges_some s left kind n seen from, a, ne_eqb n record_limit d, b, f, token_read i, other e comma, h)

apart_head : {seen : List Pair} {r : Range} {l : List Range} → Apart seen (r ∷ l) → (y : Pair) → Memᴰ y seen
    → ¬ Meet (pair r.low r.high) y
apart_head (new_item h a) = h

apart_tail : {seen : List Pair} {r : Range} {l : List Range} → Apart seen (r ∷ l)
    → Apart (pair r.low r.high ∷ seen) l
apart_tail (new_item h a) = a

ranges_got : {s : List ℕ} {k n from p : ℕ} {l : List Range} → DerivesItems s k n from l p
    → (left kind : ℕ) (seen : List Pair) (z : Token)
    → Suits kind k
    → length l ≤ left
    → Apart seen l
    → NextToken s p close_brace z
    → ranges s left kind n seen from ≡ got (record { kind = k; items = l }) p
ranges_got (last_item c d) zero kind seen z q a b w = absurd (omega arith)
ranges_got {s} {k} {n} {from} {p} (last_item {x = x} c d) (suc left) kind seen z q a b w =
    let i = item_got s kind k from x p q d in
    last_got s left kind k n seen from p i.middle x i.opening z i.begins i.ends c (apart_overlap x seen (apart_head b)) w
ranges_got (more_items c d m ds) zero kind seen z q a b w = absurd (omega arith)
ranges_got {s} {k} {n} {from} {p} (more_items {p = r} {x = x} {c = t} {l = l} c d m ds) (suc left) kind seen z q a b w =
    let i = item_got s kind k from x r q d in
    more_got s left kind k n seen from r i.middle p x i.opening t l i.begins i.ends c (apart_overlap x seen (apart_head b)) m
    (ranges_got ds left k (x ∷ seen) z (kept (suits_kind q)) (omega arith) (apart_tail b) w)

string_got : {s : List ℕ} {from : ℕ} (t : Token) → NextToken s from string t → length (inner s t) ≤ string_limit
    → start_string s from ≡ got t t.end
string_got {s} {from} t n l = rw (start-string_is s from, expect_got n, le-ltb string_limit (length (inner s t)) l)

last_string_lem : (s : List ℕ) (left n : ℕ) (seen : List (List ℕ)) (from : ℕ) (t z : Token)
    → start_string s from ≡ got t t.end
    → n ≢ record_limit
    → ¬ Memᴰ (inner s t) seen
    → NextToken s t.end close_brace z
    → strings s (suc left) n seen from ≡ got (record { number = n; text = inner s t } ∷ []) t.end
last_string_lem s left n seen from t z a b c w = rw (strings_some s left n seen from, a, ne_eqb n record_limit b, not_listed (inner s t) seen c, other (sort_read w) comma)

more_strings_lem : (s : List ℕ) (left n : ℕ) (seen : List (List ℕ)) (from p : ℕ) (t m : Token) (l : List Text)
    → start_string s from ≡ got t t.end
    → n ≢ record_limit
    → ¬ Memᴰ (inner s t) seen
    → NextToken s t.end comma m
    → strings s left (n + 1) (inner s t ∷ seen) m.end ≡ got l p
    → strings s (suc left) n seen from ≡ got (record { number = n; text = inner s t } ∷ l) p
more_strings_lem s left n seen from p t m l a b c (next i e) h = rw (strings_some s left n seen from, a, ne_eqb n record_limit b, not_listed (inner s t) seen c, token_read i, other e comma, h)

strings_got : {s : List ℕ} {n from p : ℕ} {l : List Text} → DerivesStrings s n from l p
    → (left : ℕ) (seen : List (List ℕ)) (z : Token)
    → length l ≤ left
    → Distinct seen (texts_in l)
    → NextToken s p close_brace z
    → strings s left n seen from ≡ got l p
unfolding texts_in
strings_got (last_string m c d) zero seen z a b w = absurd (omega arith)
strings_got {s} {n} {from} (last_string {t = t} m c d) (suc left) seen z a b w = last_string_lem s left n seen from t z (string_got t m c) d (head_new b) w
strings_got (more_strings m c d f ds) zero seen z a b w = absurd (omega arith)
strings_got {s} {n} {from} {p} (more_strings {t = t} {c = u} {l = l} m c d f ds) (suc left) seen z a b w =
    more_strings_lem s left n seen from p t u l (string_got t m c) d (head_new b) f (strings_got ds left (inner s t ∷ seen) z (omega arith) (tail_new b) w)

-- the token with which a leaf of each sort starts
item_starts : {s : List ℕ} {k from p : ℕ} {x : Pair} → DerivesItem s k from x p
    → (eqb (token_at s from).sort integer || eqb (token_at s from).sort bar) ≡ true
item_starts (a_value i x) = let e = literal_sort x in rw (other e integer)
item_starts (an_interval n d b) = let e = sort_read n in rw (other e integer, other e bar)

items-start : {s : List ℕ} {k n from p : ℕ} {l : List Range} → DerivesItems s k n from l p
    → (eqb (token_at s from).sort integer || eqb (token_at s from).sort bar) ≡ true
items-start (last_item c d) = item_starts d
items-start (more_items c d m ds) = item_starts d

items-other : (a : ℕ) → (eqb a integer || eqb a bar) ≡ true → (eqb a true_word || eqb a false_word) ≡ false
items-other a h =
    or_cases (eqb a integer) (eqb a bar) h
    (λ e. let f = eqb-true a integer e in rw (other f true_word, other f false_word))
    (λ e. let f = eqb-true a bar e in rw (other f true_word, other f false_word))

items_no_type : (a : ℕ) → (eqb a integer || eqb a bar) ≡ true → a ≢ type_name
items_no_type a h z =
    or_cases (eqb a integer) (eqb a bar) h
    (λ e. let f = eqb-true a integer e in omega arith)
    (λ e. let f = eqb-true a bar e in omega arith)

strings-start : {s : List ℕ} {n from p : ℕ} {l : List Text} → DerivesStrings s n from l p
    → (token_at s from).sort ≡ string
strings-start (last_string n c d) = sort_read n
strings-start (more_strings n c d g ds) = sort_read n

items-leaf : (s : List ℕ) (n from k : ℕ) (l : List Range) (p : ℕ) (z : Token) → Kind k → DerivesItems s k n from l p
    → length l ≤ item_limit → Apart [] l → NextToken s p close_brace z
    → leaf s n from ≡ got (range_leaf (record { kind = k; items = l })) p
items-leaf s n from k l p z q d a b w =
    let e = items-start d in
    let c = content_same s from (λ k. absurd (items_no_type (token_at s from).sort e k)) in
    rw (leaf_is s n from, c, items-other (token_at s from).sort e, e, ranges_got d item_limit undecided [] z (newly q) a b w)

strings-leaf : (s : List ℕ) (n from : ℕ) (l : List Text) (p : ℕ) (z : Token) → DerivesStrings s n from l p
    → length l ≤ item_limit → Distinct [] (texts_in l) → NextToken s p close_brace z
    → leaf s n from ≡ got (Constraints.texts l) p
strings-leaf s n from l p z d a b w =
    let e = strings-start d in
    let c = content_same s from (λ k. absurd (omega arith)) in
    rw (leaf_is s n from, c, other e true_word, other e false_word, other e integer, other e bar, other e string, strings_got d item_limit [] z a b w)

one_boolean_lem : (s : List ℕ) (n from b : ℕ) (t z : Token) → n ≢ record_limit → Boolean s from b t
    → NextToken s t.end close_brace z → leaf s n from ≡ got (single booleans n b) t.end
one_boolean_lem s n from b t z a (a_true (next i e)) w = rw (leaf_is s n from, content_read (next i e) (λ k. omega arith), boolean_is s n t, other e true_word, ne_eqb n record_limit a, other (sort_read w) comma)
one_boolean_lem s n from b t z a (a_false (next i e)) w = rw (leaf_is s n from, content_read (next i e) (λ k. omega arith), boolean_is s n t, other e true_word, other e false_word, ne_eqb n record_limit a, other (sort_read w) comma)

two_booleans_lem : (s : List ℕ) (n from a b : ℕ) (t c u : Token) → n ≢ record_limit → Boolean s from a t
    → NextToken s t.end comma c → Boolean s c.end b u → b ≢ a
    → leaf s n from ≡ got (single booleans n 3) u.end
two_booleans_lem s n from a b t c u d (a_true x) m (a_true y) h = absurd (h refl)
two_booleans_lem s n from a b t c u d (a_true (next i e)) (next j f) (a_false (next k g)) h =
    rw (leaf_is s n from, content_read (next i e) (λ k. omega arith), boolean_is s n t, other e true_word, ne_eqb n record_limit d, token_read j, other f comma, second_is s n 1 c.end, token_read k, other g true_word, other g false_word)
two_booleans_lem s n from a b t c u d (a_false (next i e)) (next j f) (a_true (next k g)) h =
    rw (leaf_is s n from, content_read (next i e) (λ k. omega arith), boolean_is s n t, other e true_word, other e false_word, ne_eqb n record_limit d, token_read j, other f comma, second_is s n 2 c.end, token_read k, other g true_word)
two_booleans_lem s n from a b t c u d (a_false x) m (a_false y) h = absurd (h refl)

-- a pattern's token is of no other sort
module _ (s : List ℕ) (n from : ℕ) (r : n ≢ record_limit) where
  date-leaf : (f : ℕ) (t : Token) → 1 ≤ f → f ≤ 5 → NextToken s from (30 + f) t
      → leaf s n from ≡ got (single date_pattern n f) t.end
  date-leaf f t a b (next i e) =
      let k = t.sort in
      let v : t.sort - 30 ≡ f = omega arith in
      rw (
        leaf_is s n from,
        content_read (next i e) (λ z. omega arith),
        ne_eqb k true_word (λ z. omega arith),
        ne_eqb k false_word (λ z. omega arith),
        ne_eqb k integer (λ z. omega arith),
        ne_eqb k bar (λ z. omega arith),
        ne_eqb k string (λ z. omega arith),
        le-leb 31 k (omega arith),
        le-leb k 35 (omega arith),
        ne_eqb n record_limit r,
        v,
      )

  time_leaf : (f : ℕ) (t : Token) → 1 ≤ f → f ≤ 4 → NextToken s from (40 + f) t
      → leaf s n from ≡ got (single time_pattern n f) t.end
  time_leaf f t a b (next i e) =
      let k = t.sort in
      let v : t.sort - 40 ≡ f = omega arith in
      rw (
        leaf_is s n from,
        content_read (next i e) (λ z. omega arith),
        ne_eqb k true_word (λ z. omega arith),
        ne_eqb k false_word (λ z. omega arith),
        ne_eqb k integer (λ z. omega arith),
        ne_eqb k bar (λ z. omega arith),
        ne_eqb k string (λ z. omega arith),
        le-leb 31 k (omega arith),
        lt-leb k 35 (omega arith),
        le-leb 41 k (omega arith),
        le-leb k 44 (omega arith),
        ne_eqb n record_limit r,
        v,
      )

  duration_leaf : (f : ℕ) (t z : Token) → NextToken s from type_name t → SpellsPattern (spelling s t) f
      → NextToken s t.end close_brace z → leaf s n from ≡ got (single duration_pattern n f) t.end
  duration_leaf f t z m k w =
      let a = flag_least k in
      let b = flag_most k in
      let v : 100 + f - 100 ≡ f = omega arith in
      rw (
        leaf_is s n from,
        pattern_read m k w,
        ne_eqb (100 + f) true_word (λ z. omega arith),
        ne_eqb (100 + f) false_word (λ z. omega arith),
        ne_eqb (100 + f) integer (λ z. omega arith),
        ne_eqb (100 + f) bar (λ z. omega arith),
        ne_eqb (100 + f) string (λ z. omega arith),
        le-leb 31 (100 + f) (omega arith),
        lt-leb (100 + f) 35 (omega arith),
        le-leb 41 (100 + f) (omega arith),
        lt-leb (100 + f) 44 (omega arith),
        le-leb 101 (100 + f) (omega arith),
        le-leb (100 + f) 227 (omega arith),
        ne_eqb n record_limit r,
        v,
      )

-- a leaf that is derived before a `}` is read
pub leaf_got : (s : List ℕ) (n from : ℕ) (l : Leaf) (p : ℕ) (z : Token) → DerivesLeaf s n from l p
    → NextToken s p close_brace z → leaf s n from ≡ got l p
leaf_got s n from l p z (LeafGrammar.one_boolean {b = b} {t = t} a x) w = one_boolean_lem s n from b t z a x w
leaf_got s n from l p z (LeafGrammar.two_booleans {a = a} {b = b} {t = t} {c = c} {u = u} d x m y h) w = two_booleans_lem s n from a b t c u d x m y h
leaf_got s n from l p z (LeafGrammar.integer_items {l = x} d a b) w = items-leaf s n from integer x p z is_integer d a b w
leaf_got s n from l p z (LeafGrammar.date_items {l = x} d a b) w = items-leaf s n from date x p z is_date d a b w
leaf_got s n from l p z (LeafGrammar.string_items {l = x} d a b) w = strings-leaf s n from x p z d a b w
leaf_got s n from l p z (LeafGrammar.a_date_pattern {f = f} {t = t} r a b m) w = date-leaf s n from r f t a b m
leaf_got s n from l p z (LeafGrammar.a_time_pattern {f = f} {t = t} r a b m) w = time_leaf s n from r f t a b m
leaf_got s n from l p z (LeafGrammar.a_duration_pattern {f = f} {t = t} r m k) w = duration_leaf s n from r f t z m k w

-- a leaf that is read is derived
pub leaf_derives : (s : List ℕ) (n from : ℕ) (l : Leaf) (p : ℕ) → leaf s n from ≡ got l p → DerivesLeaf s n from l p
leaf_derives s n from l p e = given (DerivesLeaf s n from) (leaf s n from) l p (leaf_gives s n from) e
