-- Lists of integer items and date intervals: their faults come in order and lie in the text. In one without a fault records are numbered one after the other and there is room for them,
-- and each item is a closed pair of the list's kind. Assumes nothing.
use mathlib.Core.Path.{◌≡◌, refl, sym, ap, ◌∙◌}
use mathlib.Core.Bool.{Bool, true, false, cond, not, ◌&&◌, false≢true}
use mathlib.Core.Logic.{◌≢◌}
use mathlib.Core.List.{List, ◌∷◌}
use Prim.Native.Nat.{ℕ, zero, suc, ◌+◌, ◌≤◌, ◌<◌}
use native.Mathlib.Omega.{arith}
use lib.Dec.{eqb, lit<, lit≤}
use lib.ListN.{length}
use borrow.Author.Tests.{eqb-true, eqb-false, not-true}
use Rattle.lexis.proofs.Cases.{and_right, by_cond}
use Rattle.lexis.specs.Spelling.{bar, comma}
use Rattle.lexis.specs.Tokens.{token_at, integer, date}
use Rattle.lexis.proofs.Places.{token-found}
use Rattle.values.specs.Integers.{Pair, pair, greatest}
use Rattle.refusals.specs.Limits.{record_limit}
use Rattle.refusals.specs.Parsing.{Parse, soundly, noting}
use Rattle.refusals.specs.declared.Cause.TheVariants.{TooManyItems, TooManyRecords, Overlap}
use Rattle.refusals.specs.Refusals.{number_of}
use Rattle.refusals.proofs.Readings.{Holds, ConstraintRefusal, From}
use Rattle.refusals.proofs.Tokens.{strict_of}
use Rattle.refusals.proofs.Parses.{rank, Ordered, ordered_parsed, ordered-noting, ordered-syntax, ordered_then, ordered-soundly, ordered-map, Passes, passes_holds}
use Rattle.meaning.specs.Constraints.{Range}
use Rattle.meaning.specs.Clauses.Proper.{Some}
use Rattle.meaning.specs.Counting.{range_numbers, up_from}
use Rattle.cadl_intervals.specs.Intervals.{undecided, Interval, interval, literal}
use Rattle.cadl_items.specs.Ranges.{Start, start, item, overlaps, Ranges, range, go_on_ranges, Items, item_by, further, ranges}
use Rattle.cadl_items.specs.Clauses.Told
use Rattle.cadl_intervals.proofs.Pairs.{Kind, kind_strict, ProperPair}
use Rattle.cadl_intervals.proofs.IntervalReading.{Asked, Literal, Shut, token_past, literal-ordered, interval-ordered}

-- an item's first token, from a place on: the next fault may come from there on; a value stands in no list of dates
pub record Started (s : List ℕ) (asked from : ℕ) (sound : Bool) (l : ℕ) (x : Start) (p : ℕ) : Type 0 where
  pub bound : l ≤ rank x.place 5
  pub start : from ≤ x.place
  pub order : x.place < p
  pub most : p ≤ length s
  pub kind : x.single ≡ true → asked ≢ date
  pub value : sound ≡ true → x.single ≡ true → x.value ≤ greatest

abbrev pub ProperRange : ℕ → Range → Type 0
ProperRange kind x = ProperPair kind (pair x.low x.high)

-- items that were read from a place on, the first record's number given
pub record Listed (s : List ℕ) (asked number from : ℕ) (l : Ranges) (p : ℕ) : Type 0 where
  pub least : from + 1 ≤ p
  pub most : p ≤ length s
  pub numbers : range_numbers l.items ≡ up_from number (length l.items)
  pub room : number ≤ record_limit → number + length l.items ≤ record_limit
  pub kind : Kind l.kind
  pub same : asked ≢ undecided → l.kind ≡ asked
  pub proper : Some (ProperRange l.kind) l.items

-- a kind that is decided is not open
undecided_not : (kind : ℕ) → Kind kind → kind ≡ undecided → ⊥
undecided_not kind k e = let l = kind_strict kind k in omega arith

module _ (s : List ℕ) where
  pub start-ordered : (asked from : ℕ) (sound : Bool) (low : ℕ) → low ≤ rank from 0 → from ≤ length s
      → Ordered s (Started s asked from) sound low (start s asked from)
  unfolding start
  start-ordered asked from sound low l h =
      let P = Started s asked from in
      let t = token_at s from in
      let f = token-found s from h in
      by_cond (Ordered s P sound low) (eqb t.sort bar)
      (λ e. let m = strict_of bar (lit< tt) t s from f (eqb-true _ _ e) in
      ordered_parsed s P sound low _ t.end
      (record { bound = omega (arith, f.start); start = f.start; order = m; most = f.inside; kind = λ z. absurd (false≢true z); value = λ o z. absurd (false≢true z) }))
      (λ e. by_cond (Ordered s P sound low) (eqb t.sort integer && not (eqb asked date))
      (λ g. let d : asked ≢ date = eqb-false asked date (not-true (eqb asked date) (and_right (eqb t.sort integer) _ g)) in
      ordered_then s P (Literal s integer from) sound low (literal s integer from) _ (literal-ordered s integer from sound low (lit< tt) l h) (λ o k v p c q.
      ordered_parsed s P o k _ p
      (record { bound = q.bound; start = f.start; order = q.order; most = q.most; kind = λ z. d; value = λ z y. (q.value z).number (eqb-false integer date refl) })))
      (λ g. ordered-syntax s P sound low from t l f))

  -- a value is a pair of itself
  single_proper : (v : ℕ) → v ≤ greatest → ProperPair integer (pair v v)
  single_proper v h =
      let never : integer ≢ date = eqb-false integer date refl in
      record { order = omega arith; low = λ d. absurd (never d); high = record { day = λ d. absurd (never d); number = λ d. h } }

  item-ordered : (asked : ℕ) (sound : Bool) (low : ℕ) (x : Start) (p : ℕ) → Asked asked → low ≤ rank p 0 → p ≤ length s
      → (x.single ≡ true → asked ≢ date) → (sound ≡ true → x.single ≡ true → x.value ≤ greatest)
      → Ordered s (Shut s asked p) sound low (item s asked x p)
  item-ordered asked sound low x p ok l m d v =
      let P = Shut s asked p in
      by_cond (Ordered s P sound low) x.single
      (λ e. ordered_parsed s P sound low _ p
      (record { bound = l; least = omega arith; most = m; kind = λ z. refl; same = λ n. sym (ok n (d e)); proper = λ z. single_proper x.value (v z e) }))
      (λ e. ordered-map s (Shut s asked (p + 1)) P sound low (interval s asked p)
      (λ o k i q y. record { bound = y.bound; least = omega (arith, y.least); most = y.most; kind = y.kind; same = y.same; proper = y.proper }) (interval-ordered s asked ok sound low p l m))

  -- behind an item: what holds of the items that follow holds with it
  more_ordered : (asked number from first p : ℕ) (sound : Bool) (low : ℕ) (i : Interval) (more : ℕ → Parse Ranges)
      → (sound ≡ true → number ≢ record_limit) → from + 1 ≤ first → Shut s asked first sound low i p
      → ((q : ℕ) → low ≤ rank q 0 → from + 1 ≤ q → q ≤ length s
      → Ordered s (Passes s q (Listed s i.kind (number + 1) q)) sound low (more q))
      → Ordered s (Passes s from (Listed s asked number from)) sound low (go_on_ranges s number i more p)
  more_ordered asked number from first p sound low i more w a h k =
      let P = Passes s from (Listed s asked number from) in
      by_cond (Ordered s P sound low) (eqb (token_at s p).sort comma)
      (λ e. let f = token_past s p comma h.most (lit< tt) e in
      let at = (token_at s p).end in
      ordered_then s P (Passes s at (Listed s i.kind (number + 1) at)) sound low (more at) _ (k at (omega (arith, f.least, h.bound)) (omega (arith, f.least, h.least)) f.most) (λ o j l q c x.
      ordered_parsed s P o j _ q (record { bound = x.bound; least = omega (arith, x.least, f.least, h.least); most = x.most; tree = λ z. joined f (c z) l q (x.tree z) })))
      (λ e. ordered_parsed s P sound low _ p (record {
        bound = h.bound;
        least = omega (arith, h.least);
        most = h.most;
        tree = λ z. record { least = omega (arith, h.least); most = h.most; numbers = refl; room = λ m. let n = w z in omega arith; kind = h.kind; same = h.same; proper = (omega arith, (h.proper z, tt)) };
      }))
    where
      joined : From (p + 1) (length s) (token_at s p).end → sound ≡ true → (l : Ranges) (q : ℕ)
          → Listed s i.kind (number + 1) (token_at s p).end l q
          → Listed s asked number from (record { kind = l.kind; items = range number i.pair ∷ l.items }) q
      joined f z l q x =
          let n = w z in
          let c : l.kind ≡ i.kind = x.same (λ y. absurd (undecided_not i.kind h.kind y)) in
          record {
            least = omega (arith, x.least, f.least, h.least);
            most = x.most;
            numbers = ap (λ (xs : List ℕ). number ∷ xs) x.numbers;
            room = λ m. let y = x.room (omega arith) in omega arith;
            kind = x.kind;
            same = λ m. c ∙ h.same m;
            proper = (omega arith, (rw c (h.proper z), x.proper.1));
          }

  -- an item, and those behind it
  by_ordered : (full : Bool) (more : Items) (asked number : ℕ) (seen : List Pair) (from : ℕ) (sound : Bool) (low : ℕ)
      → Asked asked → low ≤ rank from 0 → from ≤ length s
      → ((kind n : ℕ) (xs : List Pair) (q : ℕ) (o : Bool) (l : ℕ) → Asked kind → l ≤ rank q 0 → from + 1 ≤ q
      → q ≤ length s → Ordered s (Passes s q (Listed s kind n q)) o l (more kind n xs q))
      → Ordered s (Passes s from (Listed s asked number from)) sound low (item_by s full more asked number seen from)
  unfolding number_of
  by_ordered full more asked number seen from sound low ok l h k =
      ordered-soundly s P (Started s asked from) sound low (start s asked from) _ (start-ordered asked from sound low l h) (λ x p q. rest sound low true x p q) (λ j x p q. rest false j false x p q)
    where
      P : Bool → ℕ → Ranges → ℕ → Type 0
      P = Passes s from (Listed s asked number from)

      last : (o : Bool) (j : ℕ) (keeps : List Pair) (i : Interval) (p q : ℕ) → (o ≡ true → number ≢ record_limit)
          → from + 1 ≤ p → Shut s asked p o j i q
          → Ordered s P o j (go_on_ranges s number i (more i.kind (number + 1) keeps) q)
      last o j keeps i p q w x y = more_ordered asked number from p q o j i (more i.kind (number + 1) keeps) w x y (λ r a c d. k i.kind (number + 1) keeps r o j (λ m. y.kind) a c d)

      rest : (o : Bool) (j : ℕ) (begun : Bool) (x : Start) (p : ℕ) → Started s asked from o j x p
          → Ordered s P o j
          (noting full TooManyItems x.place (noting (eqb number record_limit) TooManyRecords x.place
          (soundly (item s asked x p)
          (λ ended i q. noting (ended && begun && overlaps i.pair seen) Overlap x.place
          (go_on_ranges s number i (more i.kind (number + 1) (cond (ended && begun) (i.pair ∷ seen) seen)) q)))))
      rest o j begun x p q =
          ordered-noting s P o j full TooManyItems x.place _ 7 refl (lit≤ tt) (lit< tt) (omega (arith, q.bound)) (omega (arith, q.order, q.most)) (λ u a b c.
          ordered-noting s P u a (eqb number record_limit) TooManyRecords x.place _ 8 refl (lit≤ tt) (lit< tt) (omega arith) (omega (arith, q.order, q.most)) (λ v d e f.
          ordered-soundly s P (Shut s asked p) v d (item s asked x p) _
          (item-ordered asked v d x p ok (omega (arith, q.order)) q.most q.kind (λ z. q.value (c (f z).1).1))
          (λ i r y. ordered-noting s P v d (begun && overlaps i.pair seen) Overlap x.place _ 9 refl (lit≤ tt) (lit< tt) (omega arith) (omega (arith, q.order, q.most)) (λ z g m n.
          last z g (cond begun (i.pair ∷ seen) seen) i p r (λ w. eqb-false number record_limit (f (n w).1).0) (omega (arith, q.order, q.start))
          (record { bound = omega (arith, q.order, y.least); least = y.least; most = y.most; kind = y.kind; same = y.same; proper = λ w. y.proper (n w).1 })))
          (λ g i r y. last false g seen i p r (λ w. absurd (false≢true w)) (omega (arith, q.order, q.start)) y)))

  further-ordered : (fuel asked number : ℕ) (seen : List Pair) (from : ℕ) (sound : Bool) (low : ℕ) → Asked asked
      → low ≤ rank from 0 → from ≤ length s → length s < from + fuel
      → Ordered s (Passes s from (Listed s asked number from)) sound low (further s fuel asked number seen from)
  unfolding further
  further-ordered zero asked number seen from sound low ok l h e = absurd (omega arith)
  further-ordered (suc fuel) asked number seen from sound low ok l h e =
      by_ordered false (further s fuel) asked number seen from sound low ok l h (λ kind n xs q o j a b c d. further-ordered fuel kind n xs q o j a b d (omega arith))

  pub ranges-ordered : (left asked number : ℕ) (seen : List Pair) (from : ℕ) (sound : Bool) (low : ℕ) → Asked asked
      → low ≤ rank from 0 → from ≤ length s
      → Ordered s (Passes s from (Listed s asked number from)) sound low (ranges s left asked number seen from)
  unfolding ranges
  ranges-ordered zero asked number seen from sound low ok l h =
      by_ordered true (further s (length s + 1)) asked number seen from sound low ok l h (λ kind n xs q o j a b c d. further-ordered (length s + 1) kind n xs q o j a b d (omega arith))
  ranges-ordered (suc left) asked number seen from sound low ok l h =
      by_ordered false (ranges s left) asked number seen from sound low ok l h (λ kind n xs q o j a b c d. ranges-ordered left kind n xs q o j a b d)

  pub ranges_holds : (left asked number : ℕ) (seen : List Pair) (from : ℕ) → Asked asked → from ≤ length s
      → Holds (ConstraintRefusal s) (Listed s asked number from) (Told.ranges s left asked number seen from)
  unfolding Told.ranges
  ranges_holds left asked number seen from ok h = passes_holds s from _ _ (ranges-ordered left asked number seen from true 0 ok (omega arith) h)
