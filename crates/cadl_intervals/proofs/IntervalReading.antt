-- An interval's faults come in order and lie in the text; it ends in the text, and one without a fault is a closed pair of its kind. Assumes nothing.
use mathlib.Core.Path.{◌≡◌, refl, sym, ◌∙◌}
use mathlib.Core.Bool.{Bool, true, false, cond, ◌&&◌, false≢true}
use Rattle.std.specs.Prelude.{Option, None, Some}
use mathlib.Core.List.{List}
use Prim.Native.Nat.{ℕ, ◌+◌, ◌≤◌, ◌<◌}
use native.Mathlib.Omega.{arith}
use lib.Dec.{eqb, lit<, lit≤}
use lib.ListN.{length}
use borrow.Author.Tests.{eqb-true, eqb-false, ne_eqb}
use mathlib.Core.Logic.{◌≢◌}
use Rattle.lexis.proofs.Cases.{by_cond}
use Rattle.lexis.specs.Spelling.{bar, dots, less, greater, at_most, at_least, plus_minus}
use Rattle.lexis.specs.Tokens.{token_at, integer, date, spelling}
use Rattle.lexis.specs.declared.Token.{Token}
use Rattle.lexis.proofs.Places.{Found, token-found}
use Rattle.values.specs.Integers.{inside, greatest}
use Rattle.values.specs.Calendar.{real, last_day}
use Rattle.cadl_intervals.proofs.Pairs.{Kind, kind_strict, Value, EndsGood, ProperPair, value_read, least-good, most-good, after-good, spread-good, closed_proper}
use Rattle.refusals.specs.Parsing.{Parse, parsed, and_then, noting, wanted}
use Rattle.refusals.specs.declared.Cause.TheVariants.{Impossible, OutOfRange, EmptyInterval}
use Rattle.refusals.specs.Refusals.{number_of}
use Rattle.refusals.proofs.Readings.{From}
use Rattle.refusals.proofs.Tokens.{strict_of}
use Rattle.refusals.proofs.Parses.{rank, Ordered, ordered_parsed, ordered-noting, ordered-syntax, ordered_then, ordered-soundly, ordered-wanted}
use Rattle.cadl_intervals.specs.Intervals.{Ends, ends, Interval, literal, possible, up_to, above, spread, from, between, interval, with_literal, kind_by, undecided, least, most, after, empty, closed}

-- behind a token of a sort from 2 on, where the next token is of that sort
pub token_past : (s : List ℕ) (at sort : ℕ) → at ≤ length s → 1 < sort → eqb (token_at s at).sort sort ≡ true
    → From (at + 1) (length s) (token_at s at).end
token_past s at sort h k e =
    let f = token-found s at h in
    let l = strict_of sort k (token_at s at) s at f (eqb-true _ _ e) in
    omega arith

-- a literal and the place behind it: the next fault may come from its token on
pub record Literal (s : List ℕ) (kind at : ℕ) (sound : Bool) (l v p : ℕ) : Type 0 where
  pub bound : l ≤ rank (token_at s at).start 5
  pub start : at ≤ (token_at s at).start
  pub order : (token_at s at).start < p
  pub most : p ≤ length s
  pub value : sound ≡ true → Value kind v

-- ends of the kind asked, if one was, and the place behind them
pub record Open (s : List ℕ) (asked first : ℕ) (sound : Bool) (l : ℕ) (e : Ends) (p : ℕ) : Type 0 where
  pub bound : l ≤ rank p 0
  pub least : first ≤ p
  pub most : p ≤ length s
  pub kind : Kind e.kind
  pub same : asked ≢ undecided → e.kind ≡ asked
  pub good : sound ≡ true → EndsGood e

-- an interval and the place behind it
pub record Shut (s : List ℕ) (asked first : ℕ) (sound : Bool) (l : ℕ) (i : Interval) (p : ℕ) : Type 0 where
  pub bound : l ≤ rank p 0
  pub least : first ≤ p
  pub most : p ≤ length s
  pub kind : Kind i.kind
  pub same : asked ≢ undecided → i.kind ≡ asked
  pub proper : sound ≡ true → ProperPair i.kind i.pair

module _ (s : List ℕ) where
  possible-ordered : (kind at : ℕ) (sound : Bool) (low : ℕ) (o : Option ℕ) → ((v : ℕ) → o ≡ Some v → Value kind v)
      → low ≤ rank at 0 → Found s at (token_at s at)
      → (token_at s at).start < (token_at s at).end → Ordered s (Literal s kind at) sound low (possible (token_at s at) o)
  unfolding number_of
  possible-ordered kind at sound low None g l f h =
      ordered-noting s (Literal s kind at) sound low true Impossible (token_at s at).start _ 5 refl (lit≤ tt) (lit< tt) (omega (arith, f.start)) (omega (arith, f.inside)) (λ o k m c.
      ordered_parsed s (Literal s kind at) o k 0 _ (record { bound = m; start = f.start; order = h; most = f.inside; value = λ z. absurd (false≢true (sym (c z).0)) }))
  possible-ordered kind at sound low (Some v) g l f h =
      ordered_parsed s (Literal s kind at) sound low v _ (record { bound = omega (arith, f.start); start = f.start; order = h; most = f.inside; value = λ z. g v refl })

  pub literal-ordered : (kind at : ℕ) (sound : Bool) (low : ℕ) → 1 < kind → low ≤ rank at 0 → at ≤ length s
      → Ordered s (Literal s kind at) sound low (literal s kind at)
  unfolding literal
  literal-ordered kind at sound low k l h =
      let f = token-found s at h in
      ordered-wanted s (Literal s kind at) sound low kind at _ l h (λ e.
      possible-ordered kind at sound low _ (value_read kind (spelling s (token_at s at))) l f (strict_of kind k (token_at s at) s at f (eqb-true _ _ e)))

-- a list's kind is open, or one of the two
abbrev pub Asked : ℕ → Type 0
Asked kind = kind ≢ undecided → Kind kind

kind_one : (t : Token) → Kind (cond (eqb t.sort date) date integer)
kind_one t = by_cond Kind (eqb t.sort date) (λ f n. absurd (n refl)) (λ f n. refl)

pub kind_decided : (kind : ℕ) (t : Token) → Asked kind → Kind (kind_by kind t)
kind_decided kind t a = by_cond Kind (eqb kind undecided) (λ e. kind_one t) (λ e. a (eqb-false kind 0 e))

pub kind_same : (kind : ℕ) (t : Token) → kind ≢ undecided → kind_by kind t ≡ kind
kind_same kind t n = rw (ne_eqb kind undecided n)

inside_true : (known b : Bool) → known ≡ true → (known && cond b false true) ≡ false → b ≡ true
inside_true true true k h = refl
inside_true true false k h = sym h
inside_true false b k h = absurd (false≢true k)

-- ends of a kind, the place behind which is `first` or behind that
module _ (s : List ℕ) (asked kind first : ℕ) (k : Kind kind) (same : asked ≢ undecided → kind ≡ asked) where
  reached : (sound : Bool) (low a b : ℕ) (below : Bool) (p : ℕ) → (sound ≡ true → EndsGood (ends kind a b below))
      → low ≤ rank p 0 → first ≤ p → p ≤ length s
      → Ordered s (Open s asked first) sound low (parsed (ends kind a b below) p)
  reached sound low a b below p g l h m =
      ordered_parsed s (Open s asked first) sound low (ends kind a b below) p (record { bound = l; least = h; most = m; kind = k; same = same; good = g })

  -- a literal as the high end
  high_ordered : (sound : Bool) (low a at : ℕ) (below : Bool)
      → (sound ≡ true → kind ≡ date → a ≤ last_day → real a ≡ true) → low ≤ rank at 0 → first ≤ at + 1 → at ≤ length s
      → Ordered s (Open s asked first) sound low (and_then (literal s kind at) (λ b p. parsed (ends kind a b below) p))
  high_ordered sound low a at below g l h m =
      ordered_then s (Open s asked first) (Literal s kind at) sound low (literal s kind at) _ (literal-ordered s kind at sound low (kind_strict kind k) l m) (λ o j b p c q.
      reached o j a b below p (λ z. record { low = g (c z); high = q.value z }) (omega (arith, q.bound, q.order)) (omega (arith, q.start, q.order)) q.most)

  up_to_ordered : (sound : Bool) (low a at : ℕ) → (sound ≡ true → kind ≡ date → a ≤ last_day → real a ≡ true)
      → low ≤ rank at 0 → first ≤ at + 1 → at ≤ length s
      → Ordered s (Open s asked first) sound low (up_to s kind a at)
  unfolding up_to
  up_to_ordered sound low a at g l h m =
      by_cond (Ordered s (Open s asked first) sound low) (eqb (token_at s at).sort less)
      (λ e. let f = token_past s at less m (lit< tt) e in high_ordered sound low a (token_at s at).end true g (omega (arith, f.least)) (omega (arith, f.least)) f.most)
      (λ e. high_ordered sound low a at false g l h m)

  -- what stands behind a literal that ends at `at`: it may be nothing
  above-ordered : (sound : Bool) (low a at : ℕ) → (sound ≡ true → Value kind a) → low ≤ rank at 0 → first ≤ at
      → at ≤ length s
      → Ordered s (Open s asked first) sound low (above s kind a at)
  unfolding above
  above-ordered sound low a at g l h m =
      by_cond (Ordered s (Open s asked first) sound low) (eqb (token_at s at).sort dots)
      (λ e. let f = token_past s at dots m (lit< tt) e in
      up_to_ordered sound low (after kind a) (token_at s at).end (λ z. after-good kind a (g z)) (omega (arith, f.least)) (omega (arith, f.least)) f.most)
      (λ e. reached sound low (after kind a) (most kind) false at (λ z. record { low = after-good kind a (g z); high = most-good kind }) l h m)

  -- `+/-` stands in a list of integers, so the kind is that of integers
  spread-ordered : (sound : Bool) (low : ℕ) (known : Bool) (a at : ℕ) → kind ≢ date
      → (sound ≡ true → (known ≡ true) × (a ≤ greatest)) → low ≤ rank at 0 → first ≤ at → at ≤ length s
      → Ordered s (Open s asked first) sound low (spread s known a at)
  unfolding spread number_of
  spread-ordered sound low known a at n g l h m =
      let e = k n in
      let P = Open s asked first in
      let f = token-found s at m in
      ordered-soundly s P (Literal s integer at) sound low (literal s integer at) _ (literal-ordered s integer at sound low (lit< tt) l m)
      (λ d p q. ordered-noting s P sound low (known && cond (inside a d) false true) OutOfRange (token_at s at).start _ 5 refl (lit≤ tt) (lit< tt) (omega (arith, q.start)) (omega (arith, f.inside, f.order)) (λ o j b c.
      ordered_parsed s P o j _ p (record {
        bound = omega (arith, q.order);
        least = omega (arith, q.order, q.start);
        most = q.most;
        kind = λ x. refl;
        same = λ x. sym e ∙ same x;
        good = λ z. let w = g (c z).1 in spread-good a d w.1 (inside_true known (inside a d) w.0 (c z).0);
      })))
      (λ j d p q. ordered_parsed s P false j _ p (record {
        bound = omega (arith, q.bound, q.order);
        least = omega (arith, q.order, q.start);
        most = q.most;
        kind = λ x. refl;
        same = λ x. sym e ∙ same x;
        good = λ z. absurd (false≢true z);
      }))

  from-ordered : (sound : Bool) (low : ℕ) (known : Bool) (a at : ℕ) → (sound ≡ true → (known ≡ true) × Value kind a)
      → low ≤ rank at 0 → first ≤ at → at ≤ length s
      → Ordered s (Open s asked first) sound low (from s known kind a at)
  unfolding from
  from-ordered sound low known a at g l h m =
      let P = Ordered s (Open s asked first) sound low in
      let t = token_at s at in
      by_cond P (eqb t.sort dots)
      (λ e. let f = token_past s at dots m (lit< tt) e in
      up_to_ordered sound low a t.end (λ z d y. (g z).1.day d) (omega (arith, f.least)) (omega (arith, f.least)) f.most)
      (λ e. by_cond P (eqb t.sort plus_minus)
      (λ d. let f = token_past s at plus_minus m (lit< tt) d in
      by_cond P (eqb kind date) (λ x. ordered-syntax s (Open s asked first) sound low at t l (token-found s at m))
      (λ x. let n = eqb-false kind date x in
      spread-ordered sound low known a t.end n (λ z. ((g z).0, (g z).1.number n)) (omega (arith, f.least)) (omega (arith, f.least)) f.most))
      (λ d. reached sound low a a false at (λ z. record { low = λ q x. (g z).1.day q; high = (g z).1 }) l h m))

-- a test that is made where the part before had no fault
pub and_known : (ok b : Bool) → ok ≡ true → (ok && b) ≡ false → b ≡ false
and_known true b k h = h
and_known false b k h = absurd (false≢true k)

module _ (s : List ℕ) (asked : ℕ) (ok : Asked asked) where
  -- a literal of the kind asked, or of either where that is open
  with_ordered : (sound : Bool) (low first at : ℕ) (go : Bool → ℕ → ℕ → ℕ → Parse Ends) → low ≤ rank at 0
      → at ≤ length s
      → ((o : Bool) (l : ℕ) (known : Bool) (k a p : ℕ) → Kind k → (asked ≢ undecided → k ≡ asked)
      → (o ≡ true → (known ≡ true) × Value k a) → l ≤ rank p 0 → at + 1 ≤ p → p ≤ length s
      → Ordered s (Open s asked first) o l (go known k a p))
      → Ordered s (Open s asked first) sound low (with_literal s asked at go)
  with_ordered sound low first at go l h f =
      let k = kind_by asked (token_at s at) in
      let d = kind_decided asked (token_at s at) ok in
      let e = kind_same asked (token_at s at) in
      ordered-soundly s (Open s asked first) (Literal s k at) sound low (literal s k at) _ (literal-ordered s k at sound low (kind_strict k d) l h)
      (λ a p q. f sound low true k a p d e (λ z. (refl, q.value z)) (omega (arith, q.bound, q.order)) (omega (arith, q.start, q.order)) q.most)
      (λ j a p q. f false j false k a p d e (λ z. absurd (false≢true z)) (omega (arith, q.bound, q.order)) (omega (arith, q.start, q.order)) q.most)

  -- one mark and one literal
  simple : (sound : Bool) (low at sort : ℕ) (a b : ℕ → ℕ → ℕ) (below : Bool)
      → ((k v : ℕ) → Value k v → EndsGood (ends k (a k v) (b k v) below)) → low ≤ rank at 0 → at ≤ length s → 1 < sort
      → eqb (token_at s at).sort sort ≡ true
      → Ordered s (Open s asked (at + 1)) sound low
      (with_literal s asked (token_at s at).end (λ known k v p. parsed (ends k (a k v) (b k v) below) p))
  simple sound low at sort a b below good l h m e =
      let f = token_past s at sort h m e in
      with_ordered sound low (at + 1) (token_at s at).end _ (omega (arith, f.least)) f.most
      (λ o j known k v p d n g x y z. reached s asked k (at + 1) d n o j (a k v) (b k v) below p (λ q. good k v (g q).1) x (omega (arith, f.least)) z)

  pub between-ordered : (sound : Bool) (low at : ℕ) → low ≤ rank at 0 → at ≤ length s
      → Ordered s (Open s asked (at + 1)) sound low (between s asked at)
  unfolding between
  between-ordered sound low at l h =
      let P = Ordered s (Open s asked (at + 1)) sound low in
      let t = token_at s at in
      by_cond P (eqb t.sort greater)
      (λ e. let f = token_past s at greater h (lit< tt) e in
      with_ordered sound low (at + 1) t.end _ (omega (arith, f.least)) f.most (λ o j known k a p d m g x y z. above-ordered s asked k (at + 1) d m o j a p (λ q. (g q).1) x (omega (arith, f.least)) z))
      (λ e. by_cond P (eqb t.sort less) (simple sound low at less (λ k v. least k) (λ k v. v) true (λ k v g. record { low = least-good k; high = g }) l h (lit< tt))
      (λ e. by_cond P (eqb t.sort at_most) (simple sound low at at_most (λ k v. least k) (λ k v. v) false (λ k v g. record { low = least-good k; high = g }) l h (lit< tt))
      (λ e. by_cond P (eqb t.sort at_least) (simple sound low at at_least (λ k v. v) (λ k v. most k) false (λ k v g. record { low = λ d m. g.day d; high = most-good k }) l h (lit< tt))
      (λ e. with_ordered sound low (at + 1) at _ l h (λ o j known k a p d m g x y z. from-ordered s asked k (at + 1) d m o j known a p g x y z)))))

  pub interval-ordered : (sound : Bool) (low at : ℕ) → low ≤ rank at 0 → at ≤ length s
      → Ordered s (Shut s asked (at + 1)) sound low (interval s asked at)
  unfolding interval number_of
  interval-ordered sound low at l h =
      let P = Shut s asked (at + 1) in
      let closes : (o : Bool) (j : ℕ) (ok : Bool) (e : Ends) (p : ℕ) → (o ≡ true → ok ≡ true) → Open s asked (at + 1) o j e p
      → Ordered s P o j (and_then (wanted s bar p) (λ t q. noting (ok && empty e) EmptyInterval t.start (parsed (record { kind = e.kind; pair = closed e }) q)))
      = λ o j ok e p k q. ordered-wanted s P o j bar p _ q.bound q.most (λ d.
      let f = token-found s p q.most in
      let m = strict_of bar (lit< tt) (token_at s p) s p f (eqb-true _ _ d) in
      ordered-noting s P o j (ok && empty e) EmptyInterval (token_at s p).start _ 6 refl (lit≤ tt) (lit< tt) (omega (arith, f.start, q.bound)) (omega (arith, f.inside)) (λ u i b c.
      ordered_parsed s P u i _ _ (record {
        bound = omega arith;
        least = omega (arith, f.start, q.least);
        most = f.inside;
        kind = q.kind;
        same = q.same;
        proper = λ z. closed_proper e.kind e.low e.high e.below (q.good (c z).1) (and_known ok (empty e) (k (c z).1) (c z).0);
      }))) in
      ordered-soundly s P (Open s asked (at + 1)) sound low (between s asked at) _ (between-ordered sound low at l h)
      (λ e p q. closes sound low true e p (λ z. refl) q)
      (λ j e p q. closes false j false e p (λ z. z) q)
