-- Strings and leaves: their faults come in order and lie in the text. In a leaf without a fault records are numbered one after the other and there is room for them, each pool byte comes
-- from a byte of the text, and the leaf is proper. Assumes nothing.
use mathlib.Core.Path.{◌≡◌, refl, ap}
use mathlib.Core.Bool.{Bool, true, false, cond, ◌&&◌, ◌||◌}
use mathlib.Core.List.{List, [], ◌∷◌}
use Prim.Native.Nat.{ℕ, zero, suc, ◌+◌, ◌-◌, ◌≤◌, ◌<◌}
use native.Mathlib.Omega.{arith}
use lib.Dec.{eqb, leb, ltb, lit<, lit≤}
use lib.ListN.{length}
use borrow.Author.Tests.{eqb-true, eqb-false, leb-true, ltb-false}
use mathlib.Core.Logic.{◌≢◌}
use Rattle.lexis.specs.Runs.{part, listed}
use Rattle.lexis.specs.Clauses.Subsequence.{Sub}
use Rattle.lexis.specs.Spelling.{bar, comma, true_word, false_word}
use Rattle.lexis.specs.Spelling
use Rattle.lexis.specs.Durations
use Rattle.lexis.specs.Tokens.{token_at, content_token_at, integer, date, string, inner}
use Rattle.lexis.specs.declared.Token.{Token}
use Rattle.lexis.proofs.Cases.{and_left, and_right, by_cond}
use Rattle.lexis.proofs.Places.{Found, token-found}
use Rattle.lexis.proofs.ContentSteps.{content_found}
use Rattle.lexis.proofs.Parts.{sub_none, sub_join, sub_wider, part_sub}
use Rattle.refusals.specs.Limits.{record_limit, item_limit, string_limit}
use Rattle.refusals.specs.Parsing.{Parse, parsed, noting}
use Rattle.refusals.specs.declared.Cause.TheVariants.{TooLong, TooManyItems, TooManyRecords, Overlap}
use Rattle.refusals.specs.Refusals.{number_of}
use Rattle.refusals.proofs.Readings.{Holds, ConstraintRefusal}
use Rattle.refusals.proofs.Tokens.{Passed, strict_of}
use Rattle.refusals.proofs.Parses.{rank, Ordered, ordered_parsed, ordered-noting, ordered-syntax, ordered_then, ordered-soundly, ordered-wanted, Passes, passes_holds}
use Rattle.meaning.specs.Constraints.{integers, dates, SingleSort, booleans, date_pattern, time_pattern, duration_pattern, Range, Text, Leaf, single, texts}
use Rattle.meaning.specs.Constraints
use Rattle.meaning.specs.Clauses.Proper.{Some, Each, ProperRange, ProperString, ProperLeaf}
use Rattle.meaning.specs.Sorts.{single_row}
use Rattle.meaning.specs.Counting.{text_numbers, text_pool, leaf_numbers, leaf_records, leaf_pool, up_from}
use Rattle.cadl_intervals.specs.Intervals.{undecided}
use Rattle.cadl_items.specs.Ranges.{Ranges, ranges}
use Rattle.cadl_items.specs.Strings.{start_string, go_on_strings, Strings, string_by, further_strings, strings}
use Rattle.cadl_items.specs.Leaves.{is_boolean, boolean_flag, second_boolean, boolean_list, range_leaf, pattern_flag, is_pattern, leaf}
use Rattle.cadl_items.specs.Clauses.Told
use Rattle.cadl_intervals.proofs.IntervalReading.{token_past}
use Rattle.cadl_items.proofs.RangeReading.{Listed, ranges-ordered}
use Rattle.cadl_items.proofs.RangeReading

-- a tree that was read from a place on up to p, the first record's number given: the numbers and the count of its records, what makes it proper, and its pool bytes
pub record TreeRead (s : List ℕ) (next from : ℕ) (ns : List ℕ) (records : ℕ) (Proper : Type 0) (bs : List ℕ)
    (p : ℕ) : Type 0 where
  pub least : from + 1 ≤ p
  pub most : p ≤ length s
  pub numbers : ns ≡ up_from next records
  pub room : next ≤ record_limit → next + records ≤ record_limit
  pub proper : Proper
  pub pool : Sub bs (part s from p)

abbrev pub LeafRead : List ℕ → ℕ → ℕ → Leaf → ℕ → Type 0
LeafRead s number from l p = TreeRead s number from (leaf_numbers l) (leaf_records l) (ProperLeaf l) (leaf_pool l) p

-- strings that were read from a place on
abbrev pub Texts : List ℕ → ℕ → ℕ → List Text → ℕ → Type 0
Texts s number from l p = TreeRead s number from (text_numbers l) (length l) (Some ProperString l) (text_pool l) p

-- a string's token: the next fault may come from there on
pub record StringToken (s : List ℕ) (from : ℕ) (sound : Bool) (l : ℕ) (t : Token) (p : ℕ) : Type 0 where
  pub bound : l ≤ rank t.start 4
  pub passed : Passed s from t p
  pub short : sound ≡ true → length (inner s t) ≤ 255

module _ (s : List ℕ) where
  start-string-ordered : (from : ℕ) (sound : Bool) (low : ℕ) → low ≤ rank from 0 → from ≤ length s
      → Ordered s (StringToken s from) sound low (start_string s from)
  unfolding start_string number_of
  start-string-ordered from sound low l h =
      let P = StringToken s from in
      let t = token_at s from in
      let f = token-found s from h in
      ordered-wanted s P sound low string from _ l h (λ e.
      let m = strict_of string (lit< tt) t s from f (eqb-true _ _ e) in
      ordered-noting s P sound low (ltb string_limit (length (inner s t))) TooLong t.start _ 4 refl (lit≤ tt) (lit< tt) (omega (arith, f.start)) (omega (arith, f.inside)) (λ o k b c.
      ordered_parsed s P o k t t.end
      (record { bound = b; passed = record { start = f.start; order = m; behind = refl; inside = f.inside }; short = λ z. ltb-false string_limit (length (inner s t)) (c z).0 })))

  -- a token's inner bytes come from the bytes read
  pub inner_sub : (from p : ℕ) (t : Token) → Passed s from t p → Sub (inner s t) (part s from p)
  inner_sub from p t h = part_sub s from (t.start + 1) (t.end - 1) p (omega arith) (omega arith)

  -- behind a string: what holds of the strings that follow holds with it
  more_ordered : (number from p : ℕ) (sound : Bool) (low : ℕ) (t : Token) (more : ℕ → Parse (List Text))
      → (sound ≡ true → number ≢ record_limit) → low ≤ rank p 0 → Passed s from t p
      → (sound ≡ true → length (inner s t) ≤ 255)
      → ((q : ℕ) → low ≤ rank q 0 → from + 1 ≤ q → q ≤ length s
      → Ordered s (Passes s q (Texts s (number + 1) q)) sound low (more q))
      → Ordered s (Passes s from (Texts s number from)) sound low
      (go_on_strings s (record { number = number; text = inner s t }) more p)
  more_ordered number from p sound low t more w b h short k =
      let P = Passes s from (Texts s number from) in
      let x = inner_sub from p t h in
      by_cond (Ordered s P sound low) (eqb (token_at s p).sort comma)
      (λ e. let f = token_past s p comma h.inside (lit< tt) e in
      let at = (token_at s p).end in
      let y = sub_wider s from from p at (omega arith) (omega arith) (omega arith) x in
      ordered_then s P (Passes s at (Texts s (number + 1) at)) sound low (more at) _ (k at (omega (arith, f.least)) (omega (arith, f.least, h.start, h.order)) f.most) (λ o j l q c z.
      ordered_parsed s P o j _ q (record {
        bound = z.bound;
        least = omega (arith, z.least, f.least, h.start, h.order);
        most = z.most;
        tree = λ g.
            let v = z.tree g in
            let n = w (c g) in
            record {
              least = omega (arith, z.least, f.least, h.start, h.order);
              most = z.most;
              numbers = ap (λ (xs : List ℕ). number ∷ xs) v.numbers;
              room = λ m. let r = v.room (omega arith) in omega arith;
              proper = (omega arith, (short (c g), v.proper.1));
              pool = sub_join s from at q (omega arith) (omega (arith, z.least)) y v.pool;
            };
      })))
      (λ e. ordered_parsed s P sound low _ p (record {
        bound = b;
        least = omega (arith, h.start, h.order);
        most = h.inside;
        tree = λ g.
            let n = w g in
            record {
              least = omega arith;
              most = h.inside;
              numbers = refl;
              room = λ m. omega arith;
              proper = (omega arith, (short g, tt));
              pool = sub_join s from p p (omega arith) (omega arith) x (sub_none _);
            };
      }))

  -- a string, and those behind it
  by_ordered : (full : Bool) (more : Strings) (number : ℕ) (seen : List (List ℕ)) (from : ℕ) (sound : Bool) (low : ℕ)
      → low ≤ rank from 0 → from ≤ length s
      → ((n : ℕ) (xs : List (List ℕ)) (q : ℕ) (o : Bool) (l : ℕ) → l ≤ rank q 0 → from + 1 ≤ q → q ≤ length s
      → Ordered s (Passes s q (Texts s n q)) o l (more n xs q))
      → Ordered s (Passes s from (Texts s number from)) sound low (string_by s full more number seen from)
  unfolding number_of
  by_ordered full more number seen from sound low l h k =
      ordered-soundly s P (StringToken s from) sound low (start_string s from) _ (start-string-ordered from sound low l h) (λ t p q. rest sound low true t p q) (λ j t p q. rest false j false t p q)
    where
      P : Bool → ℕ → List Text → ℕ → Type 0
      P = Passes s from (Texts s number from)

      rest : (o : Bool) (j : ℕ) (short : Bool) (t : Token) (p : ℕ) → StringToken s from o j t p
          → Ordered s P o j
          (noting full TooManyItems t.start
          (noting (eqb number record_limit) TooManyRecords t.start
          (noting (short && listed (inner s t) seen) Overlap t.start
          (go_on_strings s (record { number = number; text = inner s t }) (more (number + 1) (inner s t ∷ seen)) p))))
      rest o j short t p q =
          let z = q.passed in
          ordered-noting s P o j full TooManyItems t.start _ 7 refl (lit≤ tt) (lit< tt) (omega (arith, q.bound)) (omega (arith, z.order, z.inside)) (λ u a b c.
          ordered-noting s P u a (eqb number record_limit) TooManyRecords t.start _ 8 refl (lit≤ tt) (lit< tt) (omega arith) (omega (arith, z.order, z.inside)) (λ v d e f.
          ordered-noting s P v d (short && listed (inner s t) seen) Overlap t.start _ 9 refl (lit≤ tt) (lit< tt) (omega arith) (omega (arith, z.order, z.inside)) (λ w g m n.
          more_ordered number from p w g t (more (number + 1) (inner s t ∷ seen)) (λ y. eqb-false number record_limit (f (n y).1).0) (omega (arith, z.order)) z (λ y. q.short (c (f (n y).1).1).1)
          (λ r x y i. k (number + 1) (inner s t ∷ seen) r w g x y i))))

  further-ordered : (fuel number : ℕ) (seen : List (List ℕ)) (from : ℕ) (sound : Bool) (low : ℕ) → low ≤ rank from 0
      → from ≤ length s → length s < from + fuel
      → Ordered s (Passes s from (Texts s number from)) sound low (further_strings s fuel number seen from)
  unfolding further_strings
  further-ordered zero number seen from sound low l h e = absurd (omega arith)
  further-ordered (suc fuel) number seen from sound low l h e =
      by_ordered false (further_strings s fuel) number seen from sound low l h (λ n xs q o j b c d. further-ordered fuel n xs q o j b d (omega arith))

  pub strings-ordered : (left number : ℕ) (seen : List (List ℕ)) (from : ℕ) (sound : Bool) (low : ℕ) → low ≤ rank from 0
      → from ≤ length s
      → Ordered s (Passes s from (Texts s number from)) sound low (strings s left number seen from)
  unfolding strings
  strings-ordered zero number seen from sound low l h =
      by_ordered true (further_strings s (length s + 1)) number seen from sound low l h (λ n xs q o j b c d. further-ordered (length s + 1) n xs q o j b d (omega arith))
  strings-ordered (suc left) number seen from sound low l h =
      by_ordered false (strings s left) number seen from sound low l h (λ n xs q o j b c d. strings-ordered left n xs q o j b d)

  pub strings_holds : (left number : ℕ) (seen : List (List ℕ)) (from : ℕ) → from ≤ length s
      → Holds (ConstraintRefusal s) (Texts s number from) (Told.strings s left number seen from)
  unfolding Told.strings
  strings_holds left number seen from h = passes_holds s from _ _ (strings-ordered left number seen from true 0 (omega arith) h)

  -- a leaf of one record
  single_ordered : (sort : SingleSort) (flag number from p : ℕ) (sound : Bool) (low : ℕ)
      → (1 ≤ flag) × (flag ≤ (single_row sort).greatest) → (sound ≡ true → number ≢ record_limit) → low ≤ rank p 0
      → from + 1 ≤ p → p ≤ length s
      → Ordered s (Passes s from (LeafRead s number from)) sound low (parsed (single sort number flag) p)
  single_ordered sort flag number from p sound low g w b h k =
      ordered_parsed s (Passes s from (LeafRead s number from)) sound low (single sort number flag) p (record {
        bound = b;
        least = h;
        most = k;
        tree = λ z. let n = w z in record { least = h; most = k; numbers = refl; room = λ m. omega arith; proper = g; pool = sub_none _ };
      })

  -- a Boolean's flag is 1 or 2
  flag_one_two : (t : Token) → (1 ≤ boolean_flag t) × (boolean_flag t ≤ 3)
  flag_one_two t = by_cond (λ f. (1 ≤ f) × (f ≤ 3)) (eqb t.sort true_word) (λ e. omega arith) (λ e. omega arith)

  boolean_strict : (t : Token) (from : ℕ) → Found s from t → is_boolean t ≡ true → t.start < t.end
  boolean_strict t from f e = by_word (eqb t.sort true_word) refl
    where
      by_word : (b : Bool) → eqb t.sort true_word ≡ b → t.start < t.end
      by_word true x = strict_of true_word (lit< tt) t s from f (eqb-true _ _ x)
      by_word false x = strict_of false_word (lit< tt) t s from f (eqb-true _ _ (rw x at e))

  second_ordered : (number flag first from : ℕ) (sound : Bool) (low : ℕ) → (sound ≡ true → number ≢ record_limit)
      → first ≤ from → low ≤ rank from 0 → from ≤ length s
      → Ordered s (Passes s first (LeafRead s number first)) sound low (second_boolean s number flag from)
  unfolding second_boolean number_of
  second_ordered number flag first from sound low w m l h =
      let P = Passes s first (LeafRead s number first) in
      let t = token_at s from in
      let f = token-found s from h in
      by_cond (Ordered s P sound low) (is_boolean t)
      (λ e. let g = boolean_strict t from f e in
      ordered-noting s P sound low (eqb (boolean_flag t) flag) Overlap t.start _ 9 refl (lit≤ tt) (lit< tt) (omega (arith, f.start)) (omega (arith, f.inside)) (λ o j b c.
      single_ordered booleans 3 number first t.end o j (omega arith) (λ z. w (c z).1) (omega arith) (omega (arith, f.start)) f.inside))
      (λ e. ordered-syntax s P sound low from t l f)

  boolean_ordered : (number from : ℕ) (sound : Bool) (low : ℕ) → (sound ≡ true → number ≢ record_limit)
      → low ≤ rank (content_token_at s from).start 8 → from ≤ length s → is_boolean (content_token_at s from) ≡ true
      → Ordered s (Passes s from (LeafRead s number from)) sound low (boolean_list s number (content_token_at s from))
  unfolding boolean_list
  boolean_ordered number from sound low w l h e =
      let t = content_token_at s from in
      let f = content_found s from h in
      let g = boolean_strict t from f e in
      by_cond (Ordered s (Passes s from (LeafRead s number from)) sound low) (eqb (token_at s t.end).sort comma)
      (λ x. let b = token_past s t.end comma f.inside (lit< tt) x in
      second_ordered number (boolean_flag t) from (token_at s t.end).end sound low w (omega (arith, f.start, b.least)) (omega (arith, b.least)) b.most)
      (λ x. single_ordered booleans (boolean_flag t) number from t.end sound low (flag_one_two t) w (omega arith) (omega (arith, f.start)) f.inside)

  integers_proper : (kind : ℕ) → kind ≢ date → (l : List Range) → Each (RangeReading.ProperRange kind) l
      → Each (ProperRange integers) l
  integers_proper kind d [] h = tt
  integers_proper kind d (x ∷ xs) h = (record { order = h.0.order; most = h.0.high.number d }, integers_proper kind d xs h.1)

  dates_proper : (kind : ℕ) → kind ≡ date → (l : List Range) → Each (RangeReading.ProperRange kind) l
      → Each (ProperRange dates) l
  dates_proper kind d [] h = tt
  dates_proper kind d (x ∷ xs) h = (record { order = h.0.order; low = h.0.low d; high = h.0.high.day d }, dates_proper kind d xs h.1)

  range-leaf : (number from p : ℕ) (l : Ranges) → Listed s undecided number from l p
      → LeafRead s number from (range_leaf l) p
  range-leaf number from p l h = by_kind (eqb l.kind date) refl
    where
      by_kind : (b : Bool) → eqb l.kind date ≡ b
          → LeafRead s number from (Constraints.ranges (cond b dates integers) l.items) p
      by_kind true e = record {
        least = h.least;
        most = h.most;
        numbers = h.numbers;
        room = h.room;
        proper = (h.proper.0, dates_proper l.kind (eqb-true _ _ e) l.items h.proper.1);
        pool = sub_none _;
      }
      by_kind false e = record {
        least = h.least;
        most = h.most;
        numbers = h.numbers;
        room = h.room;
        proper = (h.proper.0, integers_proper l.kind (eqb-false _ _ e) l.items h.proper.1);
        pool = sub_none _;
      }

  -- a pattern's sort is from 31, 41 or 101 on, and its flag is counted from there
  pattern_ordered : (sort : SingleSort) (first number from : ℕ) (sound : Bool) (low : ℕ) → 0 < first → from ≤ length s
      → is_pattern sort first (content_token_at s from) ≡ true → (sound ≡ true → number ≢ record_limit)
      → low ≤ rank (content_token_at s from).start 8
      → Ordered s (Passes s from (LeafRead s number from)) sound low
      (parsed (single sort number (pattern_flag first (content_token_at s from))) (content_token_at s from).end)
  pattern_ordered sort first number from sound low k h e w b =
      let t = content_token_at s from in
      let f = content_found s from h in
      let most = (single_row sort).greatest in
      let l = leb-true (first + 1) t.sort (and_left _ _ e) in
      let m = leb-true t.sort (first + most) (and_right (leb (first + 1) t.sort) _ e) in
      let x = f.strict (λ z. absurd (omega arith)) (λ z. absurd (omega arith)) in
      single_ordered sort (pattern_flag first t) number from t.end sound low (omega arith) w (omega arith) (omega (arith, f.start)) f.inside

  pub leaf-ordered : (number from : ℕ) (sound : Bool) (low : ℕ) → low ≤ rank from 0 → from ≤ length s
      → Ordered s (Passes s from (LeafRead s number from)) sound low (leaf s number from)
  unfolding leaf number_of
  leaf-ordered number from sound low l h =
      let P = Passes s from (LeafRead s number from) in
      let C = Ordered s P sound low in
      let t = content_token_at s from in
      let f = content_found s from h in
      let room : (more : Parse Leaf) → ((o : Bool) (j : ℕ) → (o ≡ true → number ≢ record_limit) → j ≤ rank t.start 8 → Ordered s P o j more) → C (noting (eqb number record_limit) TooManyRecords t.start more) =
      λ more k. ordered-noting s P sound low (eqb number record_limit) TooManyRecords t.start more 8 refl (lit≤ tt) (lit< tt) (omega (arith, f.start)) (omega (arith, f.order, f.inside))
      (λ o j b c. k o j (λ z. eqb-false number record_limit (c z).0) b) in
      by_cond C (is_boolean t) (λ e. room _ (λ o j w b. boolean_ordered number from o j w b h e)) (λ e.
      by_cond C (eqb t.sort integer || eqb t.sort bar)
      (λ g. ordered_then s P (Passes s from (Listed s undecided number from)) sound low (ranges s item_limit undecided number [] from) _
      (ranges-ordered s item_limit undecided number [] from sound low (λ m. absurd (m refl)) l h)
      (λ o j x p c q. ordered_parsed s P o j (range_leaf x) p (record { bound = q.bound; least = q.least; most = q.most; tree = λ z. range-leaf number from p x (q.tree z) })))
      (λ g. by_cond C (eqb t.sort string)
      (λ x. ordered_then s P (Passes s from (Texts s number from)) sound low (strings s item_limit number [] from) _ (strings-ordered item_limit number [] from sound low l h)
      (λ o j x p c q. ordered_parsed s P o j (texts x) p (record { bound = q.bound; least = q.least; most = q.most; tree = q.tree })))
      (λ x. by_cond C (is_pattern date_pattern Spelling.date_pattern t) (λ y. room _ (λ o j w b. pattern_ordered date_pattern Spelling.date_pattern number from o j (lit< tt) h y w b))
      (λ y. by_cond C (is_pattern time_pattern Spelling.time_pattern t) (λ z. room _ (λ o j w b. pattern_ordered time_pattern Spelling.time_pattern number from o j (lit< tt) h z w b))
      (λ z. by_cond C (is_pattern duration_pattern Durations.duration_pattern t) (λ v. room _ (λ o j w b. pattern_ordered duration_pattern Durations.duration_pattern number from o j (lit< tt) h v w b))
      (λ v. ordered-syntax s P sound low from t l f))))))

  pub leaf_holds : (number from : ℕ) → from ≤ length s
      → Holds (ConstraintRefusal s) (LeafRead s number from) (Told.leaf s number from)
  unfolding Told.leaf
  leaf_holds number from h = passes_holds s from _ _ (leaf-ordered number from true 0 (omega arith) h)
