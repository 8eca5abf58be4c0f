-- What parsing a constraint text gives. Its faults come in order and lie in the text, so the end of the fuel, which would be told behind it, is none of them. The records of a tree that is
-- read are numbered in pre_order, and there is room for them. Each byte of the pool comes from a byte of its own of the text. Every part is proper: its lengths, flags and pairs are as
-- document 01 asks. Assumes nothing.
use mathlib.Core.Path.{◌≡◌, refl, ap}
use mathlib.Core.Bool.{Bool, true}
use mathlib.Core.List.{List, [], ◌∷◌, ◌++◌, append_assoc}
use Prim.Native.Nat.{ℕ, zero, suc, ◌+◌, ◌≤◌, ◌<◌}
use native.Mathlib.Omega.{arith}
use native.Mathlib.Nat.{sub-zero}
use lib.Dec.{eqb, ltb, lit<}
use lib.ListN.{length}
use lib.Seq.{take-length}
use borrow.Author.Tests.{eqb-true, ltb-false, ltb-true}
use mathlib.Core.Logic.{◌≢◌}
use Rattle.lexis.specs.Runs.{part}
use Rattle.lexis.specs.Clauses.Subsequence.{Sub}
use Rattle.lexis.specs.Spelling.{close_brace, star}
use Rattle.lexis.specs.Tokens.{token_at, content_token_at, text_end, type_name}
use Rattle.lexis.proofs.Cases.{by_cond}
use Rattle.lexis.proofs.Places.{token-found}
use Rattle.lexis.proofs.ContentSteps.{content_found}
use Rattle.lexis.proofs.Parts.{sub_none, sub_join, sub_wider, sub_length}
use Rattle.refusals.specs.Limits.{text_limit, level_limit, record_limit, pool_limit}
use Rattle.refusals.specs.Reading.{Reading, refused, got}
use Rattle.refusals.specs.Parsing.{Parse, first_in}
use Rattle.refusals.specs.declared.Refusal.{Refusal}
use Rattle.refusals.specs.Refusals.{number_of}
use Rattle.refusals.proofs.Readings.{Holds, ConstraintRefusal}
use Rattle.refusals.proofs.Tokens.{Passed, strict_of}
use Rattle.refusals.proofs.Parses.{rank, FaultFrom, Ordered, ordered_parsed, ordered_then, ordered-wanted, ordered_read, ordered_holds, expect_passes, Passes, passes_holds}
use Rattle.meaning.specs.Constraints.{Object, Attributes, no_more, attribute, Value, any, nested, leaf}
use Rattle.meaning.specs.Clauses.Proper.{ProperName, ProperObject, ProperAttributes, ProperValue}
use Rattle.meaning.specs.Counting.{object_records, object_pool, object_numbers, attribute_records, attribute_pool, attribute_numbers, value_records, value_pool, value_numbers, up_from}
use Rattle.meaning.proofs.Numbers.{up_append}
use Rattle.cadl_items.specs.Leaves
use Rattle.cadl_intervals.proofs.IntervalReading.{token_past}
use Rattle.cadl_items.proofs.LeafReading.{TreeRead, LeafRead, leaf-ordered}
use Rattle.cadl_objects.specs.Objects.{value, Attribute, attribute_from, past_attribute, head_of, attributes, body, object_by, deeper_object, object_from}
use Rattle.cadl_objects.specs.Clauses.Told
use Rattle.cadl_objects.specs.Texts.{object_alone, constraint_text, constraint_of}
use Rattle.cadl_objects.proofs.HeadReading.{Exists, Word, opening_holds, existence_holds, passed_at, type_ordered, Coded, code-ordered, name-ordered, spelling_sub}

-- trees that were read from a place on, the first record's number given
abbrev pub ObjectRead : List ℕ → ℕ → ℕ → Object → ℕ → Type 0
ObjectRead s next from o p = TreeRead s next from (object_numbers o) (object_records o) (ProperObject o) (object_pool o) p

abbrev pub AttributesRead : List ℕ → ℕ → ℕ → Attributes → ℕ → Type 0
AttributesRead s next from xs p = TreeRead s next from (attribute_numbers xs) (attribute_records xs) (ProperAttributes xs) (attribute_pool xs) p

abbrev pub ValueRead : List ℕ → ℕ → ℕ → Value → ℕ → Type 0
ValueRead s next from v p = TreeRead s next from (value_numbers v) (value_records v) (ProperValue v) (value_pool v) p

pub record AttributeRead (s : List ℕ) (next from : ℕ) (a : Attribute) (p : ℕ) : Type 0 where
  pub least : from + 1 ≤ p
  pub most : p ≤ length s
  pub numbers : value_numbers a.value ≡ up_from (next + 1) (value_records a.value)
  pub room : next ≤ record_limit → next + 1 + value_records a.value ≤ record_limit
  pub proper : (a.existence ≤ 2) × ProperName a.name × ProperValue a.value
  pub pool : Sub (a.name ++ value_pool a.value) (part s from p)

-- objects from a place on are in order
abbrev Below : List ℕ → ℕ → (ℕ → ℕ → Parse Object) → Type 0
Below s first down = (next from : ℕ) (sound : Bool) (low : ℕ) → first ≤ from → low ≤ rank from 0 → from ≤ length s → Ordered s (Passes s from (ObjectRead s next from)) sound low (down next from)

module _ (s : List ℕ) (first : ℕ) (down : ℕ → ℕ → Parse Object) (below : Below s first down) where
  value-ordered : (next from : ℕ) (sound : Bool) (low : ℕ) → first ≤ from → low ≤ rank from 0 → from ≤ length s
      → Ordered s (Passes s from (ValueRead s next from)) sound low (value s down next from)
  unfolding value_numbers value_records value_pool ProperValue
  value-ordered next from sound low i l h =
      let P = Passes s from (ValueRead s next from) in
      let C = Ordered s P sound low in
      let t = content_token_at s from in
      let f = content_found s from h in
      by_cond C (eqb t.sort star)
      (λ e. let b : from + 1 ≤ t.end = omega (arith, f.start, strict_of star (lit< tt) t s from f (eqb-true t.sort star e)) in
      ordered_parsed s P sound low any t.end (record {
        bound = omega (arith, b);
        least = b;
        most = f.inside;
        tree = λ z. record { least = b; most = f.inside; numbers = refl; room = λ m. omega arith; proper = tt; pool = sub_none _ };
      }))
      (λ e. by_cond C (eqb t.sort type_name)
      (λ f. ordered_then s P (Passes s from (ObjectRead s next from)) sound low (down next from) _ (below next from sound low i l h)
      (λ o j x p c q. ordered_parsed s P o j (nested x) p (record { bound = q.bound; least = q.least; most = q.most; tree = q.tree })))
      (λ f. ordered_then s P (Passes s from (LeafRead s next from)) sound low (Leaves.leaf s next from) _ (leaf-ordered s next from sound low l h)
      (λ o j x p c q. ordered_parsed s P o j (leaf x) p (record { bound = q.bound; least = q.least; most = q.most; tree = q.tree }))))

  attribute_ordered : (seen : List (List ℕ)) (next from : ℕ) (sound : Bool) (low : ℕ) → first ≤ from → low ≤ rank from 0
      → from ≤ length s
      → Ordered s (Passes s from (AttributeRead s next from)) sound low (attribute_from s down seen next from)
  unfolding attribute_from
  attribute_ordered seen next from sound low i l h =
      let n = length s in
      let P = Passes s from (AttributeRead s next from) in
      ordered_then s P (Word s next from) sound low _ _ (name-ordered s seen next from sound low l h) (λ o₀ j t p c₀ q₀.
      let q = q₀.passed in
      ordered_read s P (Exists p n) o₀ j _ _ (existence_holds s j p q₀.bound q.inside) (λ e r x.
      ordered_read s P (Passed s r) o₀ j _ _ (opening_holds s j r (omega (arith, x.least, q₀.bound)) x.most) (λ u y z.
      ordered_then s P (Passes s y (ValueRead s (next + 1) y)) o₀ j _ _
      (value-ordered (next + 1) y o₀ j (omega (arith, q.start, q.order, x.least, z.start, z.order)) (omega (arith, x.least, q₀.bound, z.start, z.order)) z.inside) (λ o₁ j₁ v w c₁ k.
      ordered-wanted s P o₁ j₁ close_brace w _ k.bound k.most (λ d.
      let g = passed_at s close_brace w (lit< tt) k.most d in
      let m = (token_at s w).end in
      ordered_parsed s P o₁ j₁ _ m (record {
        bound = omega (arith, k.bound, g.start, g.order);
        least = omega (arith, q.start, q.order, x.least, z.start, z.order, k.least, g.start, g.order);
        most = g.inside;
        tree = λ a.
            let f = q₀.named (c₁ a) in
            let v = k.tree a in
            record {
              least = omega (arith, q.start, q.order, x.least, z.start, z.order, k.least, g.start, g.order);
              most = g.inside;
              numbers = v.numbers;
              room = λ b. v.room (let f = f.room in omega arith);
              proper = (x.flag, f.proper, v.proper);
              pool = sub_join s from p m (omega (arith, q.start, q.order)) (omega (arith, x.least, z.start, z.order, k.least, g.start, g.order)) (spelling_sub s from p t q)
                  (sub_wider s p y w m (omega (arith, x.least, z.start, z.order)) (omega (arith, k.least)) (omega (arith, g.start, g.order)) v.pool);
            };
      }))))))

  -- an attribute before others: numbers and pool
  first_holds : (next from p q : ℕ) (a : Attribute) (more : Attributes) → AttributeRead s next from a p → p ≤ q
      → q ≤ length s
      → attribute_numbers more ≡ up_from (past_attribute next a) (attribute_records more)
      → (past_attribute next a ≤ record_limit → past_attribute next a + attribute_records more ≤ record_limit)
      → ProperAttributes more
      → Sub (attribute_pool more) (part s p q)
      → AttributesRead s next from (attribute (head_of next a) a.value more) q
  unfolding attribute_numbers attribute_records attribute_pool ProperAttributes
  first_holds next from p q a more h l k ns room proper sub = record {
    least = omega arith;
    most = k;
    numbers = ap (λ (xs : List ℕ). next ∷ xs) (rw (h.numbers, ns, up_append (value_records a.value) (attribute_records more) (next + 1)));
    room = λ m. let z = room (h.room m) in omega arith;
    proper = (h.proper.0, h.proper.1, h.proper.2, proper);
    pool = rw (← append_assoc a.name (value_pool a.value) (attribute_pool more)) (sub_join s from p q (omega arith) l h.pool sub);
  }

  attributes-ordered : (fuel : ℕ) (seen : List (List ℕ)) (next from : ℕ) (sound : Bool) (low : ℕ)
      → length s < from + fuel → first ≤ from → low ≤ rank from 0 → from ≤ length s
      → Ordered s (Passes s from (AttributesRead s next from)) sound low (attributes s down fuel seen next from)
  unfolding attributes attribute_numbers attribute_records attribute_pool ProperAttributes
  attributes-ordered zero seen next from sound low k i l h = absurd (omega arith)
  attributes-ordered (suc fuel) seen next from sound low k i l h =
      let P = Passes s from (AttributesRead s next from) in
      ordered_then s P (Passes s from (AttributeRead s next from)) sound low _ _ (attribute_ordered seen next from sound low i l h) (λ o j a p c q.
      by_cond (Ordered s P o j) (eqb (token_at s p).sort close_brace)
      (λ e. let b = token_past s p close_brace q.most (lit< tt) e in
      ordered_parsed s P o j _ (token_at s p).end (record {
        bound = omega (arith, q.bound, b.least);
        least = omega (arith, q.least, b.least);
        most = b.most;
        tree = λ z. first_holds next from p (token_at s p).end a no_more (q.tree z) (omega (arith, b.least)) b.most refl (λ m. omega arith) tt (sub_none _);
      }))
      (λ e. ordered_then s P (Passes s p (AttributesRead s (past_attribute next a) p)) o j (attributes s down fuel (a.name ∷ seen) (past_attribute next a) p) _
      (attributes-ordered fuel (a.name ∷ seen) (past_attribute next a) p o j (omega (arith, q.least)) (omega (arith, q.least)) q.bound q.most) (λ u v xs r d x.
      ordered_parsed s P u v _ r (record {
        bound = x.bound;
        least = omega (arith, q.least, x.least);
        most = x.most;
        tree = λ z. let y = x.tree z in first_holds next from p r a xs (q.tree (d z)) (omega (arith, x.least)) x.most y.numbers y.room y.proper y.pool;
      }))))

  body-ordered : (next from : ℕ) (sound : Bool) (low : ℕ) → first ≤ from → low ≤ rank from 0 → from ≤ length s
      → Ordered s (Passes s from (AttributesRead s next from)) sound low (body s down next from)
  unfolding attribute_numbers attribute_records attribute_pool ProperAttributes
  body-ordered next from sound low i l h =
      let P = Passes s from (AttributesRead s next from) in
      let t = token_at s from in
      by_cond (Ordered s P sound low) (eqb t.sort star)
      (λ e. let b = token_past s from star h (lit< tt) e in
      ordered_read s P (Passed s t.end) sound low _ _ (expect_passes s low t.end (omega (arith, b.least)) close_brace (lit< tt) b.most) (λ u p q.
      ordered_parsed s P sound low no_more p (record {
        bound = omega (arith, b.least, q.start, q.order);
        least = omega (arith, b.least, q.start, q.order);
        most = q.inside;
        tree = λ z. record { least = omega (arith, b.least, q.start, q.order); most = q.inside; numbers = refl; room = λ m. omega arith; proper = tt; pool = sub_none _ };
      })))
      (λ e. attributes-ordered (length s + 1) [] next from sound low (omega arith) i l h)

-- an object, those inside which lie behind its first byte
by_ordered : (s : List ℕ) (levels : ℕ) (down : ℕ → ℕ → Parse Object) (next from : ℕ) (sound : Bool) (low : ℕ)
    → Below s (from + 1) down → low ≤ rank from 0 → from ≤ length s
    → Ordered s (Passes s from (ObjectRead s next from)) sound low (object_by s levels down next from)
unfolding object_numbers object_records object_pool ProperObject
by_ordered s levels down next from sound low below l h =
    let P = Passes s from (ObjectRead s next from) in
    ordered_then s P (Word s next from) sound low _ _ (type_ordered s levels next from sound low l h) (λ o₀ j t p c₀ q₀.
    let q = q₀.passed in
    ordered_then s P (Coded s p) o₀ j _ _ (code-ordered s p o₀ j q₀.bound q.inside) (λ o₁ i k r c₁ x.
    ordered_read s P (Passed s r) o₁ i _ _ (opening_holds s i r x.bound x.most) (λ u y z.
    ordered_then s P (Passes s y (AttributesRead s (next + 1) y)) o₁ i _ _
    (body-ordered s (from + 1) down below (next + 1) y o₁ i (omega (arith, q.start, q.order, x.least, z.start, z.order)) (omega (arith, x.bound, z.start, z.order)) z.inside) (λ o₂ b xs w c₂ m.
    ordered_parsed s P o₂ b _ w (record {
      bound = m.bound;
      least = omega (arith, q.start, q.order, x.least, z.start, z.order, m.least);
      most = m.most;
      tree = λ a.
          let f = q₀.named (c₁ (c₂ a)) in
          let d = x.read (c₂ a) in
          let v = m.tree a in
          record {
            least = omega (arith, q.start, q.order, x.least, z.start, z.order, m.least);
            most = m.most;
            numbers = ap (λ (l : List ℕ). next ∷ l) v.numbers;
            room = λ g. let f = f.room in let e = v.room (omega arith) in omega arith;
            proper = (f.proper, d.short, v.proper);
            pool = sub_join s from p w (omega (arith, q.start, q.order)) (omega (arith, x.least, z.start, z.order, m.least)) (spelling_sub s from p t q)
                (sub_join s p r w (omega (arith, x.least)) (omega (arith, z.start, z.order, m.least)) d.pool
                (sub_wider s r y w w (omega (arith, z.start, z.order)) (omega (arith, m.least)) (omega arith) v.pool));
          };
    })))))

deeper_ordered : (s : List ℕ) (fuel next from : ℕ) (sound : Bool) (low : ℕ) → length s < from + fuel → low ≤ rank from 0
    → from ≤ length s
    → Ordered s (Passes s from (ObjectRead s next from)) sound low (deeper_object s fuel next from)
unfolding deeper_object
deeper_ordered s zero next from sound low e l h = absurd (omega arith)
deeper_ordered s (suc fuel) next from sound low e l h =
    by_ordered s 1 (deeper_object s fuel) next from sound low (λ n at o j i k m. deeper_ordered s fuel n at o j (omega arith) k m) l h

-- an object, at any level
object_ordered : (s : List ℕ) (levels next from : ℕ) (sound : Bool) (low : ℕ) → low ≤ rank from 0 → from ≤ length s
    → Ordered s (Passes s from (ObjectRead s next from)) sound low (object_from s levels next from)
unfolding object_from
object_ordered s zero next from sound low l h =
    by_ordered s zero (deeper_object s (length s + 1)) next from sound low (λ n at o j i k m. deeper_ordered s (length s + 1) n at o j (omega arith) k m) l h
object_ordered s (suc levels) next from sound low l h = by_ordered s (suc levels) (object_from s levels) next from sound low (λ n at o j i k m. object_ordered s levels n at o j k m) l h

-- what reading tells of an object, and of what holds objects
pub object_holds : (s : List ℕ) (levels next from : ℕ) → from ≤ length s
    → Holds (ConstraintRefusal s) (ObjectRead s next from) (Told.object_from s levels next from)
unfolding Told.object_from
object_holds s levels next from h = passes_holds s from _ _ (object_ordered s levels next from true 0 (omega arith) h)

module _ (s : List ℕ) (levels next from : ℕ) (h : from ≤ length s) where
  below : Below s 0 (object_from s levels)
  below n at o j i k m = object_ordered s levels n at o j k m

  pub value_holds : Holds (ConstraintRefusal s) (ValueRead s next from) (Told.value s levels next from)
  unfolding Told.value
  value_holds = passes_holds s from _ _ (value-ordered s 0 (object_from s levels) below next from true 0 (omega arith) (omega arith) h)

  pub attribute_holds : (seen : List (List ℕ))
      → Holds (ConstraintRefusal s) (AttributeRead s next from) (Told.attribute_from s levels seen next from)
  unfolding Told.attribute_from
  attribute_holds seen = passes_holds s from _ _ (attribute_ordered s 0 (object_from s levels) below seen next from true 0 (omega arith) (omega arith) h)

-- a text's tree: its records are numbered from 1 on in pre_order, and its pool's bytes are bytes of the text, in order
pub record Accepted (s : List ℕ) (o : Object) (p : ℕ) : Type 0 where
  pub numbers : object_numbers o ≡ up_from 1 (object_records o)
  pub room : 1 + object_records o ≤ record_limit
  pub proper : ProperObject o
  pub pool : Sub (object_pool o) (part s 0 (length s))
  pub short : length s ≤ text_limit
  pub inside : p ≤ length s

-- a text that is not too long: its faults come in order and lie in it
pub alone_ordered : (s : List ℕ)
    → Ordered s (λ o l x p. o ≡ true → length s ≤ text_limit → Accepted s x p) true 0 (object_alone s)
unfolding object_alone
alone_ordered s =
    let P : Bool → ℕ → Object → ℕ → Type 0 = λ o l x p. o ≡ true → length s ≤ text_limit → Accepted s x p in
    ordered_then s P (Passes s 0 (ObjectRead s 1 0)) true 0 _ _ (object_ordered s level_limit 1 0 true 0 (omega arith) (omega arith)) (λ o j x p c q.
    ordered-wanted s P o j text_end p _ q.bound q.most (λ e.
    ordered_parsed s P o j x _ (λ z short.
    let v = q.tree z in
    record {
      numbers = v.numbers;
      room = v.room (omega arith);
      proper = v.proper;
      short = short;
      pool = sub_wider s 0 0 p (length s) (omega arith) (omega arith) q.most v.pool;
      inside = (token-found s p q.most).inside;
    })))

-- what reading tells of a text
pub constraint_holds : (s : List ℕ) → Holds (ConstraintRefusal s) (Accepted s) (constraint_of s)
unfolding constraint_of constraint_text number_of Holds
constraint_holds s =
    by_cond (λ (w : Parse Object). Holds (ConstraintRefusal s) (Accepted s) (first_in w)) (ltb text_limit (length s))
    (λ e. let l = ltb-true text_limit (length s) e in (omega arith, λ n. omega arith))
    (λ e. told (first_in (object_alone s)) (ordered_holds s _ true 0 (object_alone s) (alone_ordered s)) (ltb-false text_limit (length s) e))
  where
    told : (r : Reading Object) → Holds (FaultFrom s 0) (λ x p. true ≡ true → length s ≤ text_limit → Accepted s x p) r
        → length s ≤ text_limit → Holds (ConstraintRefusal s) (Accepted s) r
    told (refused x) h l = (h.inside, λ n. let m = h.most in omega arith)
    told (got x p) h l = h refl l

-- a refusal's place lies in the text, and its number is not 10
pub place_inside : (s : List ℕ) (r : Refusal) → constraint_of s ≡ refused r → r.place ≤ length s
unfolding Holds
place_inside s r e = (rw e at (constraint_holds s)).0

pub not_ten : (s : List ℕ) (r : Refusal) → constraint_of s ≡ refused r → number_of r.cause ≢ 10
unfolding Holds
not_ten s r e = (rw e at (constraint_holds s)).1

-- the record numbers of a tree are its pre_order
pub pre_order : (s : List ℕ) (o : Object) (p : ℕ) → constraint_of s ≡ got o p
    → object_numbers o ≡ up_from 1 (object_records o)
unfolding Holds
pre_order s o p e = let h : Accepted s o p = rw e at (constraint_holds s) in h.numbers

-- each pool byte comes from a byte of its own of the text
pub pool_from_text : (s : List ℕ) (o : Object) (p : ℕ) → constraint_of s ≡ got o p → Sub (object_pool o) s
unfolding Holds
pool_from_text s o p e = let h : Accepted s o p = rw e at (constraint_holds s) in rw (sub-zero, take-length s) at h.pool

-- so the pool of an accepted text is within its limit
pub pool_fits : (s : List ℕ) (o : Object) (p : ℕ) → constraint_of s ≡ got o p → length (object_pool o) ≤ pool_limit
unfolding Holds
pool_fits s o p e =
    let h : Accepted s o p = rw e at (constraint_holds s) in
    omega (arith, sub_length (pool_from_text s o p e), h.short)

-- the records of an accepted text are within their limit
pub records_fit : (s : List ℕ) (o : Object) (p : ℕ) → constraint_of s ≡ got o p → 1 + object_records o ≤ record_limit
unfolding Holds
records_fit s o p e = let h : Accepted s o p = rw e at (constraint_holds s) in h.room

-- every part of an accepted text's tree is proper
pub tree_proper : (s : List ℕ) (o : Object) (p : ℕ) → constraint_of s ≡ got o p → ProperObject o
unfolding Holds
tree_proper s o p e = let h : Accepted s o p = rw e at (constraint_holds s) in h.proper
