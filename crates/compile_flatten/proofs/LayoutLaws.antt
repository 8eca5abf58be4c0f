-- The table that compiling a tree gives is one that the rules describe. Assumes nothing.
use mathlib.Core.Path.{◌≡◌, refl, sym, ap, subst, ◌∙◌}
use mathlib.Core.Bool.{Bool}
use mathlib.Core.List.{List, [], ◌∷◌, ◌++◌}
use Prim.Native.Nat.{ℕ, ◌+◌, ◌*◌, ◌≤◌, ◌<◌}
use native.Mathlib.Omega.{arith}
use lib.ListN.{length, length-append, get_or, take, drop}
use lib.Seq.{drop-drop, get_or-drop}
use Rattle.refusals.specs.Limits.{record_limit, pool_limit}
use Rattle.values.specs.Integers.{greatest, twos_complement}
use Rattle.values.proofs.IntegerLaws.{complement_back, complement_fits}
use Rattle.meaning.specs.Constraints.{SingleSort, booleans, date_pattern, time_pattern, duration_pattern, integers, dates, Range, Text, Leaf, single, ranges, texts, Object, object, Attributes, no_more, attribute, Value, any, nested, leaf}
use Rattle.meaning.specs.Sorts.{single_row}
use Rattle.meaning.specs.Counting.{leaf_records, object_records, attribute_records, value_records, text_pool, leaf_pool, object_pool, attribute_pool, value_pool}
use Rattle.meaning.specs.Admission.{leaf_number, first_range, first_text}
use Rattle.meaning.specs.Judging.{object_number}
use Rattle.meaning.specs.Clauses.Proper.{ProperRange, ProperLeaf, Each, ProperObject, ProperAttributes, ProperValue}
use Rattle.meaning.proofs.NumberedLaws.{NumberedRanges, NumberedTexts, NumberedLeaf, NumberedObject, NumberedAttributes, NumberedValue}
use Rattle.table.specs.Records.{Record, Image, record_size, make, count, header_of, bytes_of}
use Rattle.table.specs.TableRules.{TwosComplement, Holds}
use Rattle.table.proofs.RecordLaws.{ImageFits, fit_counted, length-bytes, pool_behind}
use Rattle.table.proofs.CheckLaws.{image_fits}
use Rattle.table.proofs.HoldsLaws.{byte_is_lem}
use Rattle.table.proofs.FieldRuleLaws.{twos_has}
use Rattle.table.proofs.WrittenLaws.{record_bytes, written_holds}
use Rattle.compile_flatten.specs.Flatten.{place_for, attributes_link, value_link, range_records, string_records, records_of_leaf, object_table, attributes_table, value_table, image_of_tree}
use Rattle.compile_flatten.specs.Layout.{LaysName, LaysIntegers, LaysDates, LaysStrings, LaysLeaf, LaysObject, LaysAttributes, LaysValue, IsCompiled}
use Rattle.compile_flatten.proofs.Placed.{at_left, at_take, at_end_lem, Placed, past_record, past_name, placed_left, placed_right}
use Rattle.compile_flatten.proofs.FlattenLaws.{object_length, value-length, placed_tree}
use Rattle.compile_flatten.proofs.CheckedCompiled.{checked_compiled}

-- what stands first behind a place is the element of that place
get_d_there : {A : Type 0} (n : ℕ) (l rest : List A) (x : A) → drop n l ≡ x ∷ rest → get_or l n x ≡ x
get_d_there n l rest x e =
    let z : n ≡ n + 0 = omega arith in
    ap (λ k. get_or l k x) z ∙ sym (get_or-drop n l 0 x) ∙ ap (λ r. get_or r 0 x) e

-- an end of two's complement stands for its distance
twos_written : (x : ℕ) → x ≤ greatest → TwosComplement (twos_complement x) x
twos_written x h = subst (TwosComplement (twos_complement x)) (complement_back x h) (twos_has (twos_complement x) (complement_fits x))

-- an object, and a leaf that has an item, is led to by its first record
object_first : (o : Object) (n : ℕ) → NumberedObject o n → n ≡ object_number o
unfolding NumberedObject
object_first (object a xs) n i = sym i.0

leaf_first : (l : Leaf) (n : ℕ) → NumberedLeaf l n → ProperLeaf l → n ≡ leaf_number l
leaf_first (single sort a flag) n i g = sym i
leaf_first (ranges sort []) n i g = absurd (omega (arith, g.0))
leaf_first (ranges sort (x ∷ xs)) n i g = sym i.0
leaf_first (texts []) n i g = absurd (omega (arith, g.0))
leaf_first (texts (x ∷ xs)) n i g = sym i.0

-- what is placed in a table that fits stands in its bytes
module _ (little : Bool) (m : Image) (f : ImageFits m) where
  placed_record : {n p : ℕ} {r : Record} {rs : List Record} {ws : List ℕ} → Placed m n (r ∷ rs) p ws
      → Holds (bytes_of little m) n little r
  placed_record {n} {p} {r} {rs} s =
      let l = header_of m ∷ m.records in
      let b = at_end_lem s.records in
      subst (Holds (bytes_of little m) n little) (get_d_there n l (rs ++ s.records.rest) r s.records.there) (written_holds little m f r n (omega arith))

  placed-name : {n p : ℕ} {rs : List Record} (w ws : List ℕ) → Placed m n rs p (w ++ ws)
      → LaysName (bytes_of little m) (count m) p w (place_for w p)
  placed-name [] ws s = LaysName.empty
  placed-name {n} {p} (b ∷ w) ws s =
      let behind = sym (drop-drop p (record_size * count m) (bytes_of little m)) ∙ ap (drop p) (pool_behind little m (fit_counted m.records f.records)) in
      LaysName.filled (ap (take (length (b ∷ w))) behind ∙ at_take (at_left ws s.pool))

  -- items by the rules
  integers_laid : (l : List Range) (n k p : ℕ) (ws : List ℕ) → NumberedRanges l n → Each (ProperRange integers) l
      → Placed m n (range_records integers l) p ws → n + length l ≡ k
      → LaysIntegers (bytes_of little m) little n l (first_range l) k
  integers_laid [] n k p ws i g s e = let z : n ≡ k = omega arith in subst (LaysIntegers (bytes_of little m) little n [] 0) z LaysIntegers.no_more
  integers_laid (x ∷ xs) n k p ws i g s e =
      let h = g.0.order in
      let more = integers_laid xs (n + 1) k p ws i.1 g.1 (past_record s) (omega arith) in
      subst (λ j. LaysIntegers (bytes_of little m) little n (record { number = j; low = x.low; high = x.high } ∷ xs) j k) (sym i.0)
      (LaysIntegers.integer (placed_record s) (twos_written x.low (omega (arith, g.0.most))) (twos_written x.high g.0.most) more)

  dates_laid : (l : List Range) (n k p : ℕ) (ws : List ℕ) → NumberedRanges l n
      → Placed m n (range_records dates l) p ws → n + length l ≡ k
      → LaysDates (bytes_of little m) little n l (first_range l) k
  dates_laid [] n k p ws i s e = let z : n ≡ k = omega arith in subst (LaysDates (bytes_of little m) little n [] 0) z LaysDates.no_more
  dates_laid (x ∷ xs) n k p ws i s e =
      let more = dates_laid xs (n + 1) k p ws i.1 (past_record s) (omega arith) in
      subst (λ j. LaysDates (bytes_of little m) little n (record { number = j; low = x.low; high = x.high } ∷ xs) j k) (sym i.0)
      (LaysDates.date_interval (placed_record s) more)

  strings_laid : (l : List Text) (n k p q : ℕ) → NumberedTexts l n → Placed m n (string_records p l) p (text_pool l)
      → n + length l ≡ k → p + length (text_pool l) ≡ q
      → LaysStrings (bytes_of little m) little (count m) n p l (first_text l) k q
  strings_laid [] n k p q i s e z =
      let a : n ≡ k = omega arith in
      let b : p ≡ q = omega arith in
      subst (λ j. LaysStrings (bytes_of little m) little (count m) n p [] 0 j q) a (subst (LaysStrings (bytes_of little m) little (count m) n p [] 0 n) b LaysStrings.no_more)
  strings_laid (x ∷ xs) n k p q i s e z =
      let w = x.text in
      let c = length-append w (text_pool xs) in
      let more = strings_laid xs (n + 1) k (p + length w) q i.1 (past_name w (past_record s)) (omega arith) (omega arith) in
      subst (λ j. LaysStrings (bytes_of little m) little (count m) n p (record { number = j; text = w } ∷ xs) j k q) (sym i.0)
      (LaysStrings.string (placed_record s) (placed-name w (text_pool xs) s) more)

  -- leaves by the rules
  single_laid : (sort : SingleSort) (n p flag : ℕ)
      → Holds (bytes_of little m) n little (make (single_row sort).kind flag [])
      → LaysLeaf (bytes_of little m) little (count m) n p (single sort n flag) (n + 1) p
  single_laid booleans n p flag h = LaysLeaf.boolean h
  single_laid date_pattern n p flag h = LaysLeaf.date_pattern h
  single_laid time_pattern n p flag h = LaysLeaf.time_pattern h
  single_laid duration_pattern n p flag h = LaysLeaf.duration_pattern h

  leaf_laid : (l : Leaf) (n k p q : ℕ) → NumberedLeaf l n → ProperLeaf l → Placed m n (records_of_leaf p l) p (leaf_pool l)
      → n + leaf_records l ≡ k → p + length (leaf_pool l) ≡ q → LaysLeaf (bytes_of little m) little (count m) n p l k q
  leaf_laid (single sort a flag) n k p q i g s e z =
      let b : p ≡ q = omega arith in
      subst (λ j. LaysLeaf (bytes_of little m) little (count m) n p (single sort j flag) k q) (sym i)
      (subst (λ j. LaysLeaf (bytes_of little m) little (count m) n p (single sort n flag) j q) e
      (subst (LaysLeaf (bytes_of little m) little (count m) n p (single sort n flag) (n + 1)) b (single_laid sort n p flag (placed_record s))))
  leaf_laid (ranges sort []) n k p q i g s e z = absurd (omega (arith, g.0))
  leaf_laid (ranges integers (x ∷ xs)) n k p q i g s e z =
      let b : p ≡ q = omega arith in
      subst (LaysLeaf (bytes_of little m) little (count m) n p (ranges integers (x ∷ xs)) k) b
      (LaysLeaf.integer (subst (λ j. LaysIntegers (bytes_of little m) little n (x ∷ xs) j k) i.0 (integers_laid (x ∷ xs) n k p [] i g.1 s e)))
  leaf_laid (ranges dates (x ∷ xs)) n k p q i g s e z =
      let b : p ≡ q = omega arith in
      subst (LaysLeaf (bytes_of little m) little (count m) n p (ranges dates (x ∷ xs)) k) b
      (LaysLeaf.date_interval (subst (λ j. LaysDates (bytes_of little m) little n (x ∷ xs) j k) i.0 (dates_laid (x ∷ xs) n k p [] i s e)))
  leaf_laid (texts []) n k p q i g s e z = absurd (omega (arith, g.0))
  leaf_laid (texts (x ∷ xs)) n k p q i g s e z =
      LaysLeaf.string (subst (λ j. LaysStrings (bytes_of little m) little (count m) n p (x ∷ xs) j k q) i.0 (strings_laid (x ∷ xs) n k p q i s e z))

  mutual
    unfolding object_table object_records object_pool NumberedObject ProperObject attributes_table attribute_records attribute_pool NumberedAttributes ProperAttributes value_table value_records value_pool NumberedValue ProperValue

    -- a tree numbered from n, its records and its bytes at their places, is laid out from there by the rules
    object_laid : (o : Object) (n k p q : ℕ) → NumberedObject o n → ProperObject o
        → Placed m n (object_table o p) p (object_pool o) → n + object_records o ≡ k → p + length (object_pool o) ≡ q
        → LaysObject (bytes_of little m) little (count m) n p o k q
    object_laid (object a xs) n k p q i g s e z =
        let t = a.type in
        let c = a.code in
        let u = past_name t s in
        let x = length-append t (c ++ attribute_pool xs) in
        let y = length-append c (attribute_pool xs) in
        let more = attributes_laid xs (n + 1) k (p + length t + length c) q i.1 g.2 (past_record (past_name c u)) (omega arith) (omega arith) in
        subst (λ j. LaysObject (bytes_of little m) little (count m) n p (object (record { number = j; type = t; code = c }) xs) k q) (sym i.0)
        (LaysObject.object (placed_record s) (placed-name t (c ++ attribute_pool xs) s) (placed-name c (attribute_pool xs) u) more)

    attributes_laid : (xs : Attributes) (n k p q : ℕ) → NumberedAttributes xs n → ProperAttributes xs
        → Placed m n (attributes_table xs p) p (attribute_pool xs) → n + attribute_records xs ≡ k
        → p + length (attribute_pool xs) ≡ q
        → LaysAttributes (bytes_of little m) little (count m) n p xs (attributes_link xs) k q
    attributes_laid no_more n k p q i g s e z =
        let a : n ≡ k = omega arith in
        let b : p ≡ q = omega arith in
        subst (λ j. LaysAttributes (bytes_of little m) little (count m) n p no_more 0 j q) a
        (subst (LaysAttributes (bytes_of little m) little (count m) n p no_more 0 n) b LaysAttributes.no_more)
    attributes_laid (attribute a v more) n k p q i g s e z =
        let w = a.name in
        let r = p + length w in
        let t = r + length (value_pool v) in
        let j = n + 1 + value_records v in
        let u = past_record (past_name w s) in
        let x = length-append w (value_pool v ++ attribute_pool more) in
        let y = length-append (value_pool v) (attribute_pool more) in
        let value = value_laid v (n + 1) j r t i.1 g.2 (placed_left (attributes_table more t) (attribute_pool more) u) refl refl in
        let rest = attributes_laid more j k t q i.2 g.3 (placed_right (value_table v r) (value_pool v) (value_records v) (value-length v r) u) (omega arith) (omega arith) in
        subst (λ b. LaysAttributes (bytes_of little m) little (count m) n p (attribute (record { number = b; existence = a.existence; name = w }) v more) b k q) (sym i.0)
        (LaysAttributes.attribute (placed_record s) (placed-name w (value_pool v ++ attribute_pool more) s) value rest)

    value_laid : (v : Value) (n k p q : ℕ) → NumberedValue v n → ProperValue v
        → Placed m n (value_table v p) p (value_pool v)
        → n + value_records v ≡ k → p + length (value_pool v) ≡ q
        → LaysValue (bytes_of little m) little (count m) n p v (value_link v) k q
    value_laid any n k p q i g s e z =
        let a : n ≡ k = omega arith in
        let b : p ≡ q = omega arith in
        subst (λ j. LaysValue (bytes_of little m) little (count m) n p any 0 j q) a (subst (LaysValue (bytes_of little m) little (count m) n p any 0 n) b LaysValue.anything)
    value_laid (nested o) n k p q i g s e z =
        subst (λ j. LaysValue (bytes_of little m) little (count m) n p (nested o) j k q) (object_first o n i) (LaysValue.an_object (object_laid o n k p q i g s e z))
    value_laid (leaf l) n k p q i g s e z =
        subst (λ j. LaysValue (bytes_of little m) little (count m) n p (leaf l) j k q) (leaf_first l n i g) (LaysValue.a_leaf (leaf_laid l n k p q i g s e z))

-- the table of a tree that keeps the limits is by the rules
pub compiled_is : (little : Bool) (o : Object) → NumberedObject o 1 → ProperObject o → 1 + object_records o ≤ record_limit
    → length (object_pool o) ≤ pool_limit → IsCompiled little o (bytes_of little (image_of_tree o))
unfolding image_of_tree
compiled_is little o i g h l =
    let m = image_of_tree o in
    let c = checked_compiled o i g h l in
    let f = image_fits m c in
    let e = object_length o 0 in
    record {
      count = count m;
      pool = length (object_pool o);
      header = written_holds little m f (header_of m) 0 (omega arith);
      laid = object_laid little m f o 1 (count m) 0 (length (object_pool o)) i g (placed_tree o) (omega arith) (omega arith);
      sized = length-bytes little m (fit_counted m.records f.records);
      bytes = λ k b s n. subst (λ x. x < 256) (byte_is_lem (bytes_of little m) k b s) (record_bytes little m c k n);
    }
