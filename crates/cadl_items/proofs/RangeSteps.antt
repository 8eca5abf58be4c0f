-- What a step of the readers of integer and date items shows: a law for each way out. Assumes nothing.
use mathlib.Core.Path.{◌≡◌, refl, sym, ◌∙◌}
use mathlib.Core.Bool.{Bool, true, false, not, ◌&&◌, ◌||◌}
use mathlib.Core.List.{List, [], ◌∷◌, ◌++◌, append_assoc}
use Prim.Native.Nat.{ℕ, zero, suc, ◌+◌, ◌*◌, ◌-◌, ◌≤◌, ◌<◌}
use native.Mathlib.Omega.{arith}
use lib.Dec.{eqb}
use lib.ListN.{length}
use borrow.Author.Tests.{eq-eqb, ne_eqb, eqb-true, eqb-false}
use Rattle.lexis.specs.Spelling.{bar, comma}
use Rattle.lexis.specs.Tokens.{token_at, integer, date}
use Rattle.lexis.specs.Clauses.Answers.{TokenIs}
use Rattle.lexis.specs.declared.Token.{Token}
use Rattle.values.specs.Integers.{Pair, pair}
use Rattle.refusals.specs.Limits.{item_limit, record_limit}
use Rattle.refusals.specs.Reading.{Reading, refused, got, read_then}
use Rattle.refusals.specs.Refusals.{refusal}
use Rattle.refusals.specs.Expecting.{syntax_cause}
use Rattle.refusals.specs.declared.Cause.TheVariants.{Overlap}
use Rattle.refusals.specs.declared.Refusal.{Refusal}
use Rattle.refusals.proofs.Readings.{Holds}
use Rattle.refusals.proofs.Parses.{ordered_holds}
use Rattle.meaning.specs.Constraints.{Range}
use Rattle.cadl_intervals.specs.Intervals.{undecided}
use Rattle.cadl_items.specs.Ranges.{Start, meet, overlaps, Ranges, range}
use Rattle.cadl_items.specs.Clauses.Told.{start, item, with_first, ranges}
use Rattle.cadl_items.specs.Clauses.Spans.{with_item, first_of, second_of, latest}
use Rattle.cadl_items.specs.Clauses.Answers.{pair_at, range_at, items_from}
use Rattle.cadl_intervals.specs.Clauses.Answers.{LiteralIs, Asked, At, shut, IntervalIs}
use Rattle.cadl_items.specs.Clauses.Items.{start_of, start_reading, Before, StartIs, roomy, room_left, pairs_of, range_reading, kept_range, ItemRoom, KeepRoom, Kept, RangeIs, RangesIs, ListRoom}
use Rattle.std.specs.declared.result.Result.{Result}
use Rattle.std.specs.declared.result.Result.TheVariants.{Ok, Err}
use Rattle.cadl_intervals.specs.declared.literals.Literal.{Literal}
use Rattle.cadl_intervals.specs.declared.ends.Interval.{Interval}
use Rattle.cadl_items.specs.declared.ranges.Start as declared_start
use Rattle.cadl_items.specs.declared.ranges.RangeEnd.{RangeEnd}
use Rattle.cadl_items.specs.declared.ranges.RangeEnd.TheVariants as range_end
use Rattle.cadl_items.specs.declared.ranges.Ranges as declared_ranges
use Rattle.cadl_items.proofs.LeafParts.{start_is, ranges_none, ranges_some}
use Rattle.cadl_items.proofs.RangeReading.{Started, start-ordered}
use Rattle.cadl_intervals.proofs.IntervalSteps.{literal_refused, literal_got}
use Rattle.cadl_items.proofs.ItemLaws.{item_first, item_second, item_kept, all_kept, first_kept, second_kept, latest_more, latest_same, items_last, items_same, roomy_none, roomy_some, roomy_full, roomy_there, item_left, number_left}

-- an item's first token
module _ (s : List ℕ) (kind at : ℕ) (t : Token) (tok : TokenIs s at (token_at s at) t) where
  pub start_bar : t.sort ≡ bar → got (record { place = t.start; single = false; value = 0 }) t.end ≡ start s kind at
  start_bar k = rw (start_is s kind at, ← tok.is, eq-eqb t.sort bar k)

  module _ (n : t.sort ≡ bar → ⊥) where
    pub start_other : false ≡ (eqb t.sort integer && not (eqb kind date)) → (x : Refusal) → x ≡ refusal (syntax_cause t) t.start
        → refused x ≡ start s kind at
    start_other h x e = rw (start_is s kind at, ← tok.is, ne_eqb t.sort bar n, ← h, e)

    module _ (h : true ≡ (eqb t.sort integer && not (eqb kind date))) where
      pub start_faulty : (x : Refusal) → LiteralIs s integer at (Err x) → refused x ≡ start s kind at
      start_faulty x e = rw (start_is s kind at, ← tok.is, ne_eqb t.sort bar n, ← h, literal_refused x e)

      pub start_value : (l : Literal) → LiteralIs s integer at (Ok l)
          → got (record { place = t.start; single = true; value = l.value }) l.next ≡ start s kind at
      start_value l e = rw (start_is s kind at, ← tok.is, ne_eqb t.sort bar n, ← h, literal_got l e)

-- room for it
module _ (s : List ℕ) (kind number count at : ℕ) where
  pub room_faulty : (x : Refusal) → refused x ≡ start s kind at → StartIs s kind number count at (Err x)
  unfolding roomy
  room_faulty x e = record { is = rw (← e); past = tt }

  module _ (x : declared_start.Start) (e : got (start_of x) x.next ≡ start s kind at) where
    pub room_full : (y : Refusal) → Err y ≡ room_left number count x.place → StartIs s kind number count at (Err y)
    room_full y r = record { is = rw (← e) (roomy_full (λ z. z.place) number count (start_of x) x.next y r); past = tt }

    pub room_there : (u : Unit {0}) → Ok u ≡ room_left number count x.place → Before s number count at → StartIs s kind number count at (Ok x)
    unfolding start Holds
    room_there u r b =
        let n = item_left number count x.place u r in
        let k = number_left number count x.place u r in
        let h : Started s kind at true 0 (start_of x) x.next = rw (sym e) at (ordered_holds s _ true 0 _ (start-ordered s kind at true 0 (omega arith) b.inside)) in
        record { is = rw (← e) (roomy_there (λ z. z.place) number count (start_of x) x.next n k); past = (h.most, omega arith, omega arith) }

-- no pair among the first n overlaps
pub record InPairs (scratch : List ℕ) (count low high n : ℕ) : Type 0 where
  pub room : 2 * count ≤ length scratch
  pub none : false ≡ overlaps (pair low high) (pairs_of scratch n)

pub pairs_start : (scratch : List ℕ) (count low high : ℕ) → 2 * count ≤ length scratch → InPairs scratch count low high 0
unfolding latest
pairs_start scratch count low high h = record { room = h; none = refl }

or_true : (b : Bool) → (b || true) ≡ true
or_true true = refl
or_true false = refl

module _ (scratch : List ℕ) (low high n : ℕ) where
  one_more : overlaps (pair low high) (pairs_of scratch (n + 1))
      ≡ (meet (pair low high) (pair_at scratch n) || overlaps (pair low high) (pairs_of scratch n))
  one_more = rw (latest_more (pair_at scratch) n)

  pub pairs_on : (count : ℕ) → InPairs scratch count low high n → false ≡ meet (pair low high) (pair_at scratch n)
      → InPairs scratch count low high (n + 1)
  pairs_on count inv k = record { room = inv.room; none = rw (one_more, ← k) inv.none }

  among : (k : ℕ) → true ≡ meet (pair low high) (pair_at scratch n) → true ≡ overlaps (pair low high) (pairs_of scratch (k + (n + 1)))
  among zero m = let e : zero + (n + 1) ≡ n + 1 = omega arith in rw (e, one_more, ← m)
  among (suc k) m =
      let e : suc k + (n + 1) ≡ k + (n + 1) + 1 = omega arith in
      let h = among k m in
      rw (e, latest_more (pair_at scratch) (k + (n + 1)), ← h, or_true (meet (pair low high) (pair_at scratch (k + (n + 1)))))

  pub pairs_meet : (count : ℕ) → n < count → true ≡ meet (pair low high) (pair_at scratch n)
      → true ≡ overlaps (pair low high) (pairs_of scratch count)
  pairs_meet count l m = let e : count - (n + 1) + (n + 1) ≡ count = omega arith in rw e at (among (count - (n + 1)) m)

-- an item that was read
module _ (s : List ℕ) (number count place : ℕ) (x : Interval) (before : List ℕ) where
  abbrev Reads : List ℕ → Result RangeEnd Refusal → Type 0
  Reads after r = RangeIs s number count (kept_range s number count (pairs_of before count) place (shut x.kind (pair x.low x.high)) x.next) before after r

  pub keep_overlap : true ≡ overlaps (pair x.low x.high) (pairs_of before count) → Reads before (Err (refusal Overlap place))
  unfolding kept_range
  keep_overlap k = record { is = rw (← k); kept = all_kept before count; past = tt }

  module _ (k : false ≡ overlaps (pair x.low x.high) (pairs_of before count)) (room : KeepRoom s x.kind number count x.next) (long : length before ≡ 32) (t : Token)
      (tok : TokenIs s x.next (token_at s x.next) t) (after : List ℕ) (e : after ≡ with_item before count x.low x.high) where
    roomy-count : 2 * count + 1 < length before
    roomy-count = let f = room.few in omega arith

    put_low : first_of after count ≡ x.low
    put_low = rw e (item_first before count x.low x.high roomy-count)

    put_high : second_of after count ≡ x.high
    put_high = rw e (item_second before count x.low x.high roomy-count)

    put_here : pair_at after count ≡ pair x.low x.high
    put_here = λ i. pair (put_low i) (put_high i)

    still : Kept count before after
    still = rw e (item_kept before count x.low x.high)

    pairs_more : pairs_of after (count + 1) ≡ pair x.low x.high ∷ pairs_of before count
    pairs_more =
        let b = latest_same (pair_at after) (pair_at before) count (λ j l. λ i. pair (first_kept count before after still j l i) (second_kept count before after still j l i)) in
        latest_more (pair_at after) count ∙ rw (put_here, b)

    pub keep_more : t.sort ≡ comma → Reads after (Ok (range_end.More x.kind t.end))
    unfolding kept_range
    keep_more c =
        let b = pairs_more in
        record {
          is = rw (← k, ← tok.is, eq-eqb t.sort comma c, b, put_low, put_high);
          kept = still;
          past = (room.few, room.records, tok.inside, room.asked);
        }

    pub keep_last : (t.sort ≡ comma → ⊥) → Reads after (Ok (range_end.Last x.kind x.next))
    unfolding kept_range
    keep_last n =
        record { is = rw (← k, ← tok.is, ne_eqb t.sort comma n, put_low, put_high); kept = still; past = (room.few, room.records, room.inside) }

-- a list from an item on
ranges_step : (s : List ℕ) (kind number count at : ℕ) (seen : List Pair) → count ≤ item_limit
    → read_then (roomy (λ x. x.place) number count (start s kind at))
    (λ x p. read_then (item s kind x p) (λ i q. kept_range s number count seen x.place i q))
    ≡ ranges s (item_limit - count) kind number seen at
unfolding kept_range
ranges_step s kind number count at seen l = by (eqb count item_limit) refl
  where
    go : Start → ℕ → Reading Ranges
    go x p = read_then (item s kind x p) (λ i q. kept_range s number count seen x.place i q)

    by : (b : Bool) → eqb count item_limit ≡ b
        → read_then (roomy (λ x. x.place) number count (start s kind at)) go
        ≡ ranges s (item_limit - count) kind number seen at
    by true e =
        let c = eqb-true count item_limit e in
        let z : item_limit - count ≡ zero = omega arith in
        rw (z, ranges_none s kind number seen at) (roomy_none (λ x. x.place) number count go (start s kind at) e)
    by false e =
        let c = eqb-false count item_limit e in
        let z : item_limit - count ≡ suc (item_limit - (count + 1)) = omega arith in
        rw (z, ranges_some s (item_limit - (count + 1)) kind number seen at) (roomy_some (λ x. x.place) number count go (start s kind at) e)

module _ (s : List ℕ) (kind number count at : ℕ) (before : List ℕ) (d : ItemRoom s kind number count at) where
  abbrev Steps : List ℕ → Result RangeEnd Refusal → Type 0
  Steps after o = RangeIs s number count (ranges s (item_limit - count) kind number (pairs_of before count) at) before after o

  step : (r : Result declared_start.Start Refusal) → StartIs s kind number count at r
      → read_then (start_reading r)
      (λ x p. read_then (item s kind x p) (λ i q. kept_range s number count (pairs_of before count) x.place i q))
      ≡ ranges s (item_limit - count) kind number (pairs_of before count) at
  step r e = rw e.is (ranges_step s kind number count at (pairs_of before count) d.before.few)

  pub step_faulty : (x : Refusal) → StartIs s kind number count at (Err x) → Steps before (Err x)
  step_faulty x e = record { is = step (Err x) e; kept = all_kept before count; past = tt }

  module _ (x : declared_start.Start) (e : StartIs s kind number count at (Ok x)) where
    pub step_at : At s kind x.next
    step_at = record { inside = e.past.0; asked = d.asked }

    pub step_bad : (y : Refusal) → IntervalIs s (item s kind (start_of x) x.next) (Err y) → Steps before (Err y)
    step_bad y f = record { is = rw (← f.is) at (step (Ok x) e); kept = all_kept before count; past = tt }

    module _ (i : Interval) (f : IntervalIs s (item s kind (start_of x) x.next) (Ok i)) where
      pub step_room : KeepRoom s i.kind number count i.next
      step_room = let b = e.past in record { inside = f.past.0; asked = f.past.1; few = b.1; records = b.2 }

      pub step_kept : (after : List ℕ) (o : Result RangeEnd Refusal)
          → RangeIs s number count
          (kept_range s number count (pairs_of before count) x.place (shut i.kind (pair i.low i.high)) i.next) before after o
          → Steps after o
      step_kept after o b = record { is = b.is ∙ rw (← f.is) at (step (Ok x) e); kept = b.kept; past = b.past }

-- items before the others of a list
abbrev with_items : List Range → Reading Ranges → Reading Ranges
with_items xs r = read_then r (λ l p. got (record { kind = l.kind; items = xs ++ l.items }) p)

with_first_lem : (xs : List Range) (x : Range) (r : Reading Ranges)
    → with_items xs (with_first x r) ≡ with_items (xs ++ (x ∷ [])) r
with_first_lem xs x (refused y) = refl
with_first_lem xs x (got l p) = let h = append_assoc xs (x ∷ []) l.items in λ i. got (record { kind = l.kind; items = sym h i }) p

with_none : (r : Reading Ranges) → with_items [] r ≡ r
with_none (refused y) = refl
with_none (got l p) = refl

-- so many items are in the scratch, and the list goes on at a place
pub record InRanges (s : List ℕ) (number from : ℕ) (scratch : List ℕ) (kind count at : ℕ) : Type 0 where
  pub inside : at ≤ length s
  pub asked : Asked kind
  pub few : count ≤ item_limit
  pub records : number + count ≤ record_limit
  pub is : with_items (items_from (range_at scratch) number 0 count)
      (ranges s (item_limit - count) kind (number + count) (pairs_of scratch count) at)
      ≡ ranges s item_limit undecided number [] from

pub ranges_start : (s : List ℕ) (number from : ℕ) (scratch : List ℕ) → ListRoom s number from
    → InRanges s number from scratch undecided 0 from
unfolding items_from latest
ranges_start s number from scratch h =
    let e : number + 0 ≡ number = omega arith in
    let r = h.records in
    record { inside = h.inside; asked = λ n. absurd (n refl); few = omega arith; records = omega arith; is = rw e (with_none (ranges s item_limit undecided number [] from)) }

module _ (s : List ℕ) (number from : ℕ) (before : List ℕ) (kind count at : ℕ)
    (inv : InRanges s number from before kind count at) where
  pub ranges_room : ItemRoom s kind (number + count) count at
  ranges_room = record { before = record { inside = inv.inside; few = inv.few; records = inv.records }; asked = inv.asked }

  module _ (after : List ℕ) where
    abbrev Next : Result RangeEnd Refusal → Type 0
    Next r = RangeIs s (number + count) count (ranges s (item_limit - count) kind (number + count) (pairs_of before count) at) before after r

    whole : (r : Result RangeEnd Refusal) → Next r
        → with_items (items_from (range_at after) number 0 count) (range_reading s (number + count) count after r)
        ≡ ranges s item_limit undecided number [] from
    whole r e =
        let h = items_same (range_at after) (range_at before) number 0 count (λ m j l i. range m (pair (first_kept count before after e.kept j (omega arith) i) (second_kept count before after e.kept j (omega arith) i))) in
        rw (h, e.is) inv.is

    pub ranges_faulty : (x : Refusal) → Next (Err x) → RangesIs s number from after (Err x)
    ranges_faulty x e = record { is = whole (Err x) e; past = tt }

    more : items_from (range_at after) number 0 (count + 1)
        ≡ items_from (range_at after) number 0 count ++ (range_at after (number + count) count ∷ [])
    more = items_last (range_at after) number count

    pub ranges_last : (y : RangeEnd) → Next (Ok y) → (k p : ℕ) → y ≡ range_end.Last k p → (l : declared_ranges.Ranges) → l.kind ≡ k → l.count ≡ count + 1
        → l.next ≡ p → RangesIs s number from after (Ok l)
    ranges_last y f k p g l a b c =
        let e : Next (Ok (range_end.Last k p)) = rw g at f in
        let q = e.past in
        record { is = rw (a, b, c, more) (whole (Ok (range_end.Last k p)) e); past = (omega arith, omega arith, omega arith) }

    pub ranges_more : (y : RangeEnd) → Next (Ok y) → (k p : ℕ) → y ≡ range_end.More k p → InRanges s number from after k (count + 1) p
    ranges_more y f k p g =
        let e : Next (Ok (range_end.More k p)) = rw g at f in
        let q = e.past in
        let w = whole (Ok (range_end.More k p)) e in
        let m : number + (count + 1) ≡ number + count + 1 = omega arith in
        let n = with_first_lem (items_from (range_at after) number 0 count) (range_at after (number + count) count) (ranges s (item_limit - (count + 1)) k (number + count + 1) (pairs_of after (count + 1)) p) in
        record { inside = q.2; asked = q.3; few = omega arith; records = omega arith; is = rw (m, more) (sym n ∙ w) }

    pub ranges_less : (y : RangeEnd) → Next (Ok y) → (k p : ℕ) → y ≡ range_end.More k p → item_limit - (count + 1) < item_limit - count
    ranges_less y f k p g =
        let e : Next (Ok (range_end.More k p)) = rw g at f in
        let q = e.past in
        omega arith
