-- What a step of the readers of leaves shows: a law for each way out. Assumes nothing.
use mathlib.Core.Path.{◌≡◌, refl, sym}
use mathlib.Core.Bool.{Bool, true, false, cond}
use mathlib.Core.List.{List, []}
use mathlib.Core.Logic.{◌⊎◌, inl, inr}
use Prim.Native.Nat.{ℕ, ◌-◌, ◌≤◌, ◌<◌}
use native.Mathlib.Omega.{arith}
use lib.Dec.{eqb, leb}
use borrow.Author.Tests.{eq-eqb, ne_eqb, le-leb, leb-true}
use Rattle.lexis.specs.Bytes.{within}
use Rattle.lexis.specs.Spelling.{bar, comma, true_word, false_word}
use Rattle.lexis.specs.Tokens.{token_at, content_token_at, integer, date, string}
use Rattle.lexis.specs.Clauses.Answers.{TokenIs}
use Rattle.lexis.specs.declared.Token.{Token}
use Rattle.refusals.specs.Limits.{item_limit, record_limit}
use Rattle.refusals.specs.Reading.{got, refuse, read_unless}
use Rattle.refusals.specs.Refusals.{refusal}
use Rattle.refusals.specs.Expecting.{syntax_cause}
use Rattle.refusals.specs.declared.Cause.TheVariants.{TooManyRecords, Overlap}
use Rattle.refusals.specs.declared.Refusal.{Refusal}
use Rattle.refusals.proofs.Readings.{Holds}
use Rattle.meaning.specs.Constraints.{integers, dates, single}
use Rattle.cadl_intervals.specs.Intervals.{undecided}
use Rattle.cadl_items.specs.Clauses.Told.{leaf}
use Rattle.cadl_items.specs.Leaves.{is_boolean, boolean_flag}
use Rattle.cadl_items.specs.Clauses.Told.{boolean_list}
use Rattle.cadl_items.specs.Clauses.Answers.{range_at, text_at, items_from, single_of, range_sort_of, leaf_reading, LeafRoom, LeafPast, LeafIs}
use Rattle.cadl_items.specs.Clauses.Items.{record_left, RangesIs, StringsIs, OneRecord, second_by, booleans_by, EveryIs, OneIs, pattern, single_leaf, ranges_leaf, string_leaf}
use Rattle.std.specs.declared.result.Result.{Result}
use Rattle.std.specs.declared.result.Result.TheVariants.{Ok, Err}
use Rattle.cadl_items.specs.declared.ranges.Ranges as declared_ranges
use Rattle.cadl_items.specs.declared.strings.Strings as declared_strings
use Rattle.cadl_items.specs.declared.leaves.SingleSort as declared
use Rattle.cadl_items.specs.declared.leaves.SingleSort.TheVariants as single_sort
use Rattle.cadl_items.specs.declared.leaves.RangeSort.{RangeSort}
use Rattle.cadl_items.specs.declared.leaves.Leaf as declared_leaf
use Rattle.cadl_items.specs.declared.leaves.Leaf.TheVariants as leaf_read
use Rattle.cadl_items.proofs.ItemLaws.{no_record, record_there}
use Rattle.cadl_items.proofs.LeafParts.{second_is, boolean_is, leaf_is}
use Rattle.cadl_items.proofs.RangeReading.{Listed, ranges_holds}
use Rattle.cadl_items.proofs.LeafReading.{Texts, strings_holds, leaf_holds}
use Rattle.cadl_items.proofs.LeafReading as reading

-- the second Boolean
module _ (s : List ℕ) (flag at : ℕ) (t : Token) (tok : TokenIs s at (token_at s at) t) where
  pub second_other : false ≡ is_boolean t → (x : Refusal) → x ≡ refusal (syntax_cause t) t.start
      → EveryIs s (second_by s flag at) (Err x)
  unfolding second_by
  second_other k x e = record { is = λ number scratch. rw (second_is s number flag at, ← tok.is, ← k, e); one = tt }

  module _ (k : true ≡ is_boolean t) (f : ℕ) (e : f ≡ boolean_flag t) where
    pub second_same : f ≡ flag → EveryIs s (second_by s flag at) (Err (refusal Overlap t.start))
    unfolding second_by
    second_same g = record { is = λ number scratch. rw (second_is s number flag at, ← tok.is, ← k, ← e, eq-eqb f flag g); one = tt }

    pub second_both : (f ≡ flag → ⊥) → EveryIs s (second_by s flag at) (Ok (leaf_read.Single single_sort.Booleans 3 t.end))
    unfolding second_by
    second_both n = record { is = λ number scratch. rw (second_is s number flag at, ← tok.is, ← k, ← e, ne_eqb f flag n); one = tt }

-- Booleans by comma
module _ (s : List ℕ) (t : Token) (f : ℕ) (e : f ≡ boolean_flag t) (u : Token)
    (tok : TokenIs s t.end (token_at s t.end) u) where
  pub list_second : u.sort ≡ comma → (r : Result declared_leaf.Leaf Refusal) → EveryIs s (second_by s f u.end) r
      → EveryIs s (booleans_by s t) r
  unfolding booleans_by second_by
  list_second k r d = record { is = λ number scratch. rw (boolean_is s number t, ← tok.is, eq-eqb u.sort comma k, ← e) (d.is number scratch); one = d.one }

  pub list_one : (u.sort ≡ comma → ⊥) → EveryIs s (booleans_by s t) (Ok (leaf_read.Single single_sort.Booleans f t.end))
  unfolding booleans_by second_by
  list_one n = record { is = λ number scratch. rw (boolean_is s number t, ← tok.is, ne_eqb u.sort comma n, ← e); one = tt }

-- room for a pattern's record
pattern_is : (s : List ℕ) (number : ℕ) (t : Token) (sort : declared.SingleSort) (flag : ℕ)
    → OneIs s number (read_unless (eqb number record_limit) TooManyRecords t.start (got (single (single_of sort) number flag) t.end))
    (pattern number t sort flag)
pattern_is s number t sort flag = by (eqb number record_limit)
  where
    by : (b : Bool)
        → OneIs s number (cond b (refuse TooManyRecords t.start) (got (single (single_of sort) number flag) t.end))
        (cond b (Err (refusal TooManyRecords t.start)) (Ok (leaf_read.Single sort flag t.end)))
    by true = record { is = λ scratch. refl; one = tt }
    by false = record { is = λ scratch. refl; one = tt }

within_true : (low high n : ℕ) → low ≤ n → n ≤ high → within low high n ≡ true
within_true low high n a b = rw (le-leb low n a, le-leb n high b)

within_false : (low high n : ℕ) → (low ≤ n → n ≤ high → ⊥) → within low high n ≡ false
within_false low high n f = by (leb low n) (leb n high) refl refl
  where
    by : (a b : Bool) → leb low n ≡ a → leb n high ≡ b → within low high n ≡ false
    by true true x y = absurd (f (leb-true low n x) (leb-true n high y))
    by true false x y = rw (x, y)
    by false b x y = rw x

-- a leaf of one record
module _ (s : List ℕ) (number : ℕ) (t : Token) where
  module _ (k : true ≡ is_boolean t) where
    pub single_full : (x : Refusal) → Err x ≡ record_left number t.start → OneIs s number (single_leaf s number t) (Err x)
    unfolding single_leaf
    single_full x e = record { is = λ scratch. rw (← k) (no_record number t.start x e (boolean_list s number t)); one = tt }

    pub single_boolean : (u : Unit {0}) → Ok u ≡ record_left number t.start → (r : Result declared_leaf.Leaf Refusal) → EveryIs s (booleans_by s t) r
        → OneIs s number (single_leaf s number t) r
    unfolding single_leaf booleans_by
    single_boolean u f r e =
        let n = record_there number t.start u f in
        record { is = λ scratch. rw (← k, ne_eqb number record_limit n) (e.is number scratch); one = e.one }

  module _ (k : false ≡ is_boolean t) where
    pub single_date : 31 ≤ t.sort → t.sort < 36 → (r : Result declared_leaf.Leaf Refusal)
        → r ≡ pattern number t single_sort.DatePattern (t.sort - 30) → OneIs s number (single_leaf s number t) r
    unfolding single_leaf
    single_date x y r g =
        let w = within_true 31 35 t.sort x (omega arith) in
        rw (g, ← k, w) (pattern_is s number t single_sort.DatePattern (t.sort - 30))

    pub single_time : 41 ≤ t.sort → t.sort < 45 → (r : Result declared_leaf.Leaf Refusal)
        → r ≡ pattern number t single_sort.TimePattern (t.sort - 40) → OneIs s number (single_leaf s number t) r
    unfolding single_leaf
    single_time x y r g =
        let v = within_false 31 35 t.sort (λ a c. omega arith) in
        let w = within_true 41 44 t.sort x (omega arith) in
        rw (g, ← k, v, w) (pattern_is s number t single_sort.TimePattern (t.sort - 40))

    pub single_duration : 101 ≤ t.sort → t.sort < 228 → (r : Result declared_leaf.Leaf Refusal)
        → r ≡ pattern number t single_sort.DurationPattern (t.sort - 100) → OneIs s number (single_leaf s number t) r
    unfolding single_leaf
    single_duration x y r g =
        let u = within_false 31 35 t.sort (λ a c. omega arith) in
        let v = within_false 41 44 t.sort (λ a c. omega arith) in
        let w = within_true 101 227 t.sort x (omega arith) in
        rw (g, ← k, u, v, w) (pattern_is s number t single_sort.DurationPattern (t.sort - 100))

    pub single_other : (31 ≤ t.sort → t.sort ≤ 35 → ⊥) → (41 ≤ t.sort → t.sort ≤ 44 → ⊥)
        → (101 ≤ t.sort → t.sort ≤ 227 → ⊥) → (x : Refusal)
        → x ≡ refusal (syntax_cause t) t.start → OneIs s number (single_leaf s number t) (Err x)
    unfolding single_leaf
    single_other l m n x e =
        let u = within_false 31 35 t.sort l in
        let v = within_false 41 44 t.sort m in
        let w = within_false 101 227 t.sort n in
        record { is = λ scratch. rw (← k, u, v, w, e); one = tt }

-- a list of integers or of dates
module _ (s : List ℕ) (number at : ℕ) (scratch : List ℕ) where
  pub range_faulty : (x : Refusal) → RangesIs s number at scratch (Err x) → LeafIs s number at (ranges_leaf s number at) scratch (Err x)
  unfolding ranges_leaf
  range_faulty x e = record { is = rw (← e.is); past = tt }

  module _ (d : LeafRoom s number at) (l : declared_ranges.Ranges) (e : RangesIs s number at scratch (Ok l)) where
    lies : Listed s undecided number at (record { kind = l.kind; items = items_from (range_at scratch) number 0 l.count }) l.next
    unfolding Holds
    lies = rw (sym e.is) at (ranges_holds s item_limit undecided number [] at (λ m. absurd (m refl)) d.inside)

    pub range_there : (k : RangeSort) → range_sort_of k ≡ cond (eqb l.kind date) dates integers
        → LeafIs s number at (ranges_leaf s number at) scratch (Ok (leaf_read.Ranges k l.count l.next))
    unfolding ranges_leaf
    range_there k h =
        let m = lies in
        let f = e.past in
        record { is = rw (← e.is, h); past = record { order = omega arith; inside = m.most; some = f.0; few = f.1; records = f.2 } }

-- a list of strings
module _ (s : List ℕ) (number at : ℕ) (scratch : List ℕ) where
  pub strings_faulty : (x : Refusal) → StringsIs s number at scratch (Err x) → LeafIs s number at (string_leaf s number at) scratch (Err x)
  unfolding string_leaf
  strings_faulty x e = record { is = rw (← e.is); past = tt }

  pub strings_there : LeafRoom s number at → (l : declared_strings.Strings) → StringsIs s number at scratch (Ok l)
      → LeafIs s number at (string_leaf s number at) scratch (Ok (leaf_read.Strings l.count l.next))
  unfolding string_leaf Holds
  strings_there d l e =
      let m : Texts s number at (items_from (text_at s scratch) number 0 l.count) l.next = rw (sym e.is) at (strings_holds s item_limit number [] at d.inside) in
      record { is = rw (← e.is); past = record { order = omega arith; inside = m.most; texts = e.past } }

-- a leaf of one record lies in the text, and there is room for it
one_past : (s : List ℕ) (number at : ℕ) (scratch : List ℕ) → LeafRoom s number at → (r : Result declared_leaf.Leaf Refusal) → OneRecord r
    → leaf_reading s number scratch r ≡ leaf s number at → LeafPast s number at scratch r
unfolding Holds
one_past s number at scratch d (Err x) o e = tt
one_past s number at scratch d (Ok (leaf_read.Single sort flag p)) o e =
    let l : reading.LeafRead s number at (single (single_of sort) number flag) p = rw (sym e) at (leaf_holds s number at d.inside) in
    let m = l.room d.records in
    record { order = omega arith; inside = l.most; records = omega arith }
one_past s number at scratch d (Ok (leaf_read.Ranges sort count p)) o e = absurd o
one_past s number at scratch d (Ok (leaf_read.Strings count p)) o e = absurd o

-- a leaf, by its first token
module _ (s : List ℕ) (number at : ℕ) (t : Token) (tok : TokenIs s at (content_token_at s at) t) where
  leaf_integers : t.sort ≡ integer → (scratch : List ℕ) (r : Result declared_leaf.Leaf Refusal)
      → LeafIs s number at (ranges_leaf s number at) scratch r → LeafIs s number at (leaf s number at) scratch r
  unfolding ranges_leaf
  leaf_integers k scratch r e = record {
    is = rw (leaf_is s number at, ← tok.is, ne_eqb t.sort true_word (λ z. omega arith), ne_eqb t.sort false_word (λ z. omega arith), eq-eqb t.sort integer k) e.is;
    past = e.past;
  }

  leaf_intervals : t.sort ≡ bar → (scratch : List ℕ) (r : Result declared_leaf.Leaf Refusal)
      → LeafIs s number at (ranges_leaf s number at) scratch r → LeafIs s number at (leaf s number at) scratch r
  unfolding ranges_leaf
  leaf_intervals k scratch r e = record {
    is = rw (leaf_is s number at, ← tok.is, ne_eqb t.sort true_word (λ z. omega arith), ne_eqb t.sort false_word (λ z. omega arith), ne_eqb t.sort integer (λ z. omega arith), eq-eqb t.sort bar k) e.is;
    past = e.past;
  }

  pub leaf_ranges : (t.sort ≡ integer) ⊎ (t.sort ≡ bar) → (scratch : List ℕ) (r : Result declared_leaf.Leaf Refusal)
      → LeafIs s number at (ranges_leaf s number at) scratch r → LeafIs s number at (leaf s number at) scratch r
  leaf_ranges (inl k) = leaf_integers k
  leaf_ranges (inr k) = leaf_intervals k

  pub leaf_strings : t.sort ≡ string → (scratch : List ℕ) (r : Result declared_leaf.Leaf Refusal)
      → LeafIs s number at (string_leaf s number at) scratch r → LeafIs s number at (leaf s number at) scratch r
  unfolding string_leaf
  leaf_strings k scratch r e = record {
    is = rw (leaf_is s number at, ← tok.is, ne_eqb t.sort true_word (λ z. omega arith), ne_eqb t.sort false_word (λ z. omega arith), ne_eqb t.sort integer (λ z. omega arith), ne_eqb t.sort bar (λ z. omega arith), eq-eqb t.sort string k) e.is;
    past = e.past;
  }

  pub leaf_single : (t.sort ≡ integer → ⊥) → (t.sort ≡ bar → ⊥) → (t.sort ≡ string → ⊥)
      → (scratch : List ℕ) (r : Result declared_leaf.Leaf Refusal) → LeafRoom s number at → OneIs s number (single_leaf s number t) r
      → LeafIs s number at (leaf s number at) scratch r
  unfolding single_leaf
  leaf_single a b c scratch r d e =
      let z : leaf_reading s number scratch r ≡ leaf s number at = rw (leaf_is s number at, ← tok.is, ne_eqb t.sort integer a, ne_eqb t.sort bar b, ne_eqb t.sort string c) (e.is scratch) in
      record { is = z; past = one_past s number at scratch d r e.one z }
