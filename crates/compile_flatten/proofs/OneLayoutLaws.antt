-- The rules describe one table of a tree, the one that compiling gives, and no other. Assumes nothing.
use mathlib.Core.Path.{◌≡◌, refl, sym, ap₂, subst, ◌∙◌}
use mathlib.Core.Bool.{Bool}
use mathlib.Core.List.{List, [], ◌∷◌, ◌++◌, append_assoc}
use Prim.Native.Nat.{ℕ, suc, ◌+◌, ◌*◌, ◌≤◌, ◌<◌}
use native.Mathlib.Omega.{arith}
use lib.ListN.{length, length-append, length-drop, get_or, take, drop, take-append-drop}
use lib.Seq.{drop-drop, take-add, take_all}
use Rattle.lexis.specs.Runs.{StandsAt}
use Rattle.values.specs.Integers.{twos_complement}
use Rattle.meaning.specs.Constraints.{integers, dates, Range, Text, Leaf, Object, object, Attributes, no_more, attribute, Value, any, nested, leaf}
use Rattle.meaning.specs.Counting.{text_pool, leaf_pool, object_pool, attribute_pool, value_pool}
use Rattle.meaning.specs.Admission.{leaf_number, first_range, first_text}
use Rattle.meaning.specs.Judging.{object_number}
use Rattle.table.specs.Records.{Record, record_size, make, encode, count, header_of, encodes, bytes_of}
use Rattle.table.specs.TableRules.{TwosComplement, Holds}
use Rattle.table.proofs.HoldsLaws.{byte_there}
use Rattle.table.proofs.HeldLaws.{held_is}
use Rattle.table.proofs.FieldRuleLaws.{twos_is}
use Rattle.compile_flatten.specs.Flatten.{place_for, attributes_link, value_link, range_records, string_records, records_of_leaf, object_table, attributes_table, value_table, image_of_tree}
use Rattle.compile_flatten.specs.Layout.{LaysName, LaysIntegers, LaysDates, LaysStrings, LaysLeaf, LaysObject, LaysAttributes, LaysValue, IsCompiled}

-- the bytes of a number in two's complement are those of its distance
twos_back : {a low : ℕ} → TwosComplement a low → a ≡ twos_complement low
twos_back t = let h = twos_is t in omega arith

-- a name's place is the one that compiling gives
name_place : {bs w : List ℕ} {size p a : ℕ} → LaysName bs size p w a → a ≡ place_for w p
name_place LaysName.empty = refl
name_place (LaysName.filled h) = refl

name_stands : {bs w : List ℕ} {size p a : ℕ} → LaysName bs size p w a → StandsAt bs (record_size * size + p) w
name_stands LaysName.empty = refl
name_stands (LaysName.filled h) = h

-- what stands behind what stands at a place
stands_append : (bs : List ℕ) (p : ℕ) (v w : List ℕ) → StandsAt bs p v → StandsAt bs (p + length v) w
    → StandsAt bs p (v ++ w)
stands_append bs p v w h k = rw (length-append, take-add (length v) (length w) (drop p bs), drop-drop (length v) p bs, h, k)

module _ (bs : List ℕ) (little : Bool) (size : ℕ) where
  -- records one after the other from number n on
  abbrev HeldFrom : ℕ → List Record → Type 0
  HeldFrom n [] = Unit {0}
  HeldFrom n (r ∷ rs) = Holds bs n little r × HeldFrom (n + 1) rs

  held_append : (n : ℕ) (rs qs : List Record) → HeldFrom n rs → HeldFrom (n + length rs) qs → HeldFrom n (rs ++ qs)
  held_append n [] qs h k = let e : n + 0 ≡ n = omega arith in subst (λ j. HeldFrom j qs) e k
  held_append n (r ∷ rs) qs h k =
      let e : n + suc (length rs) ≡ n + 1 + length rs = omega arith in
      (h.0, held_append (n + 1) rs qs h.1 (subst (λ j. HeldFrom j qs) e k))

  -- these records and these bytes of the pool stand from a record and a place on up to another record and place
  record Stored (n p : ℕ) (rs : List Record) (ws : List ℕ) (k q : ℕ) : Type 0 where
    records : HeldFrom n rs
    pool : StandsAt bs (record_size * size + p) ws
    behind : k ≡ n + length rs
    pooled : q ≡ p + length ws

  stored_none : (n p : ℕ) → Stored n p [] [] n p
  stored_none n p = record { records = tt; pool = refl; behind = omega arith; pooled = omega arith }

  stored_record : {n p k q : ℕ} {r : Record} {rs : List Record} {ws : List ℕ} → Holds bs n little r
      → Stored (n + 1) p rs ws k q
      → Stored n p (r ∷ rs) ws k q
  stored_record h s = let e = s.behind in record { records = (h, s.records); pool = s.pool; behind = omega arith; pooled = s.pooled }

  stored_name : {n p k q a : ℕ} {rs : List Record} {w ws : List ℕ} → LaysName bs size p w a
      → Stored n (p + length w) rs ws k q
      → Stored n p rs (w ++ ws) k q
  stored_name {p = p} {w = w} {ws} h s =
      let e = s.pooled in
      let place : record_size * size + (p + length w) ≡ record_size * size + p + length w = omega arith in
      record {
        records = s.records;
        pool = stands_append bs (record_size * size + p) w ws (name_stands h) (subst (λ j. StandsAt bs j ws) place s.pool);
        behind = s.behind;
        pooled = rw length-append (omega arith);
      }

  stored_append : {n p k q j t : ℕ} {rs qs : List Record} {v w : List ℕ} → Stored n p rs v k q → Stored k q qs w j t
      → Stored n p (rs ++ qs) (v ++ w) j t
  stored_append {n} {p} {q = q} {rs = rs} {qs} {v} {w} a b =
      let c = a.behind in
      let d = b.behind in
      let e = a.pooled in
      let f = b.pooled in
      let place : record_size * size + q ≡ record_size * size + p + length v = omega arith in
      record {
        records = held_append n rs qs a.records (subst (λ i. HeldFrom i qs) a.behind b.records);
        pool = stands_append bs (record_size * size + p) v w a.pool (subst (λ i. StandsAt bs i w) place b.pool);
        behind = rw length-append (omega arith);
        pooled = rw length-append (omega arith);
      }

  -- items that are laid out by the rules are the records that compiling gives
  integers_stored : {n k f : ℕ} {l : List Range} (p : ℕ) → LaysIntegers bs little n l f k
      → (f ≡ first_range l) × Stored n p (range_records integers l) [] k p
  integers_stored {n} p LaysIntegers.no_more = (refl, stored_none n p)
  integers_stored p (LaysIntegers.integer h a b more) =
      let m = integers_stored p more in
      (refl, stored_record (subst (Holds bs _ little) (λ i. make 4 0 (twos_back a i ∷ twos_back b i ∷ 0 ∷ 0 ∷ m.0 i ∷ [])) h) m.1)

  dates_stored : {n k f : ℕ} {l : List Range} (p : ℕ) → LaysDates bs little n l f k
      → (f ≡ first_range l) × Stored n p (range_records dates l) [] k p
  dates_stored {n} p LaysDates.no_more = (refl, stored_none n p)
  dates_stored p (LaysDates.date_interval {a = a} {b = b} h more) =
      let m = dates_stored p more in
      (refl, stored_record (subst (Holds bs _ little) (λ i. make 7 0 (a ∷ b ∷ 0 ∷ 0 ∷ m.0 i ∷ [])) h) m.1)

  strings_stored : {n p k q f : ℕ} {l : List Text} → LaysStrings bs little size n p l f k q
      → (f ≡ first_text l) × Stored n p (string_records p l) (text_pool l) k q
  strings_stored {n} {p} LaysStrings.no_more = (refl, stored_none n p)
  strings_stored (LaysStrings.string {w = w} h name more) =
      let m = strings_stored more in
      (refl, stored_record (subst (Holds bs _ little) (λ i. make 5 0 (name_place name i ∷ length w ∷ 0 ∷ 0 ∷ m.0 i ∷ [])) h) (stored_name name m.1))

  leaf_stored : {n p k q : ℕ} {l : Leaf} → LaysLeaf bs little size n p l k q
      → (n ≡ leaf_number l) × Stored n p (records_of_leaf p l) (leaf_pool l) k q
  leaf_stored {n} {p} (LaysLeaf.boolean h) = (refl, stored_record h (stored_none (n + 1) p))
  leaf_stored {p = p} (LaysLeaf.integer h) = integers_stored p h
  leaf_stored (LaysLeaf.string h) = strings_stored h
  leaf_stored {n} {p} (LaysLeaf.date_pattern h) = (refl, stored_record h (stored_none (n + 1) p))
  leaf_stored {p = p} (LaysLeaf.date_interval h) = dates_stored p h
  leaf_stored {n} {p} (LaysLeaf.time_pattern h) = (refl, stored_record h (stored_none (n + 1) p))
  leaf_stored {n} {p} (LaysLeaf.duration_pattern h) = (refl, stored_record h (stored_none (n + 1) p))

  mutual
    unfolding object_table object_pool attributes_table attribute_pool value_table value_pool

    -- so is a tree
    object_stored : (o : Object) {n p k q : ℕ} → LaysObject bs little size n p o k q
        → (n ≡ object_number o) × Stored n p (object_table o p) (object_pool o) k q
    object_stored (object a xs) (LaysObject.object {type = type} {code = code} h name other more) =
        let m = attributes_stored xs more in (
          refl,
          stored_record (subst (Holds bs _ little) (λ i. make 1 0 (name_place name i ∷ length type ∷ name_place other i ∷ length code ∷ m.0 i ∷ [])) h)
              (stored_name name (stored_name other m.1)),
        )

    attributes_stored : (xs : Attributes) {n p f k q : ℕ} → LaysAttributes bs little size n p xs f k q
        → (f ≡ attributes_link xs) × Stored n p (attributes_table xs p) (attribute_pool xs) k q
    attributes_stored no_more {n} {p} LaysAttributes.no_more = (refl, stored_none n p)
    attributes_stored (attribute a v more) (LaysAttributes.attribute {flag = flag} {m = j} {q = t} {k = k} {r = r} {name = w} h name value rest) =
        let x = value_stored v value in
        let y = attributes_stored more rest in
        let z = subst (λ b. Stored j t (attributes_table more b) (attribute_pool more) k r) x.1.pooled y.1 in (
          refl,
          stored_record (subst (Holds bs _ little) (λ i. make 2 flag (name_place name i ∷ length w ∷ x.0 i ∷ y.0 i ∷ [])) h)
              (stored_name name (stored_append x.1 z)),
        )

    value_stored : (v : Value) {n p f k q : ℕ} → LaysValue bs little size n p v f k q
        → (f ≡ value_link v) × Stored n p (value_table v p) (value_pool v) k q
    value_stored any {n} {p} LaysValue.anything = (refl, stored_none n p)
    value_stored (nested o) (LaysValue.an_object h) = object_stored o h
    value_stored (leaf l) (LaysValue.a_leaf h) = leaf_stored h

  -- records that stand one after the other, in bytes, are the records written
  held_encodes : (n : ℕ) (rs : List Record) → HeldFrom n rs → n + length rs ≤ size
      → ((k : ℕ) → k < record_size * size → get_or bs k 0 < 256)
      → take (record_size * length rs) (drop (record_size * n) bs) ≡ encodes little rs
  held_encodes n [] h l f = refl
  held_encodes n (r ∷ rs) h l f =
      let e : record_size * suc (length rs) ≡ record_size + record_size * length rs = omega arith in
      let g : record_size * n + record_size ≡ record_size * (n + 1) = omega arith in
      let first = held_is bs n little r h.0 (λ k i. f (record_size * n + k) (omega arith)) in
      rw (e, take-add record_size (record_size * length rs) (drop (record_size * n) bs), drop-drop record_size (record_size * n) bs, g)
      (ap₂ ◌++◌ first (held_encodes (n + 1) rs h.1 (omega arith) f))

-- what is by the rules the table of a tree is the table that compiling gives
pub compiled_only : (little : Bool) (o : Object) (bs : List ℕ) → IsCompiled little o bs
    → bs ≡ bytes_of little (image_of_tree o)
unfolding image_of_tree bytes_of
compiled_only little o bs c =
    let m = image_of_tree o in
    let size = c.count in
    let s = (object_stored bs little size o c.laid).1 in
    let e : size ≡ count m = omega (arith, s.behind) in
    let z : c.pool ≡ length (object_pool o) = omega (arith, s.pooled) in
    let long = c.sized in
    let head = subst (Holds bs 0 little) (λ i. make 0 0 (e i ∷ z i ∷ 1 ∷ [])) c.header in
    let front = held_encodes bs little size 0 (header_of m ∷ m.records) (head, s.records) (omega arith)
    (λ k l. c.bytes k (get_or bs k 0) (byte_there bs k (omega arith)) l) in
    let place : record_size * size + 0 ≡ record_size * count m = omega arith in
    let rest = drop (record_size * count m) bs in
    let short : length rest ≤ length (object_pool o) = rw length-drop (omega arith) in
    let back : take (length (object_pool o)) rest ≡ object_pool o = subst (λ j. take (length (object_pool o)) (drop j bs) ≡ object_pool o) place s.pool in
    sym (take-append-drop (record_size * count m) bs) ∙ ap₂ ◌++◌ front (sym (take_all (length (object_pool o)) rest short) ∙ back) ∙ append_assoc (encode little (header_of m)) (encodes little m.records) m.pool
