-- Records numbered in pre_order: a tree whose numbers, listed in pre_order, go up one by one has each record numbered by its place. Assumes nothing.
use mathlib.Core.Path.{◌≡◌, refl, sym, ap, ap₂, ◌∙◌}
use mathlib.Core.List.{List, [], ◌∷◌, ◌++◌}
use Prim.Native.Nat.{ℕ, zero, suc, ◌+◌}
use lib.ListN.{length, length-append, take, drop}
use lib.Seq.{take_at, drop_at}
use Rattle.meaning.specs.Constraints.{Range, Text, Leaf, single, ranges, texts, Object, object, Attributes, no_more, attribute, Value, any, nested, leaf}
use Rattle.meaning.specs.Counting.{leaf_records, object_records, attribute_records, value_records, range_numbers, text_numbers, leaf_numbers, object_numbers, attribute_numbers, value_numbers, up_from}
use Rattle.meaning.proofs.Numbers.{up_append}

-- each number is the record's place in pre_order, counted from n
abbrev pub NumberedRanges : List Range → ℕ → Type 0
NumberedRanges [] n = Unit {0}
NumberedRanges (x ∷ xs) n = (x.number ≡ n) × NumberedRanges xs (n + 1)

abbrev pub NumberedTexts : List Text → ℕ → Type 0
NumberedTexts [] n = Unit {0}
NumberedTexts (x ∷ xs) n = (x.number ≡ n) × NumberedTexts xs (n + 1)

abbrev pub NumberedLeaf : Leaf → ℕ → Type 0
NumberedLeaf (single sort k flag) n = k ≡ n
NumberedLeaf (ranges sort l) n = NumberedRanges l n
NumberedLeaf (texts l) n = NumberedTexts l n

unfoldable mutual
  pub NumberedObject : Object → ℕ → Type 0
  NumberedObject (object h xs) n = (h.number ≡ n) × NumberedAttributes xs (n + 1)

  pub NumberedAttributes : Attributes → ℕ → Type 0
  NumberedAttributes no_more n = Unit {0}
  NumberedAttributes (attribute h v more) n = (h.number ≡ n) × NumberedValue v (n + 1) × NumberedAttributes more (n + 1 + value_records v)

  pub NumberedValue : Value → ℕ → Type 0
  NumberedValue any n = Unit {0}
  NumberedValue (nested o) n = NumberedObject o n
  NumberedValue (leaf l) n = NumberedLeaf l n

-- there are as many numbers as records
ranges_counted : (l : List Range) → length (range_numbers l) ≡ length l
ranges_counted [] = refl
ranges_counted (x ∷ xs) = ap suc (ranges_counted xs)

texts_counted : (l : List Text) → length (text_numbers l) ≡ length l
texts_counted [] = refl
texts_counted (x ∷ xs) = ap suc (texts_counted xs)

leaf_counted : (l : Leaf) → length (leaf_numbers l) ≡ leaf_records l
leaf_counted (single sort n flag) = refl
leaf_counted (ranges sort l) = ranges_counted l
leaf_counted (texts l) = texts_counted l

mutual
  unfolding object_records object_numbers attribute_records attribute_numbers value_records value_numbers

  pub object_counted : (o : Object) → length (object_numbers o) ≡ object_records o
  object_counted (object h xs) = ap suc (attributes_counted xs)

  attributes_counted : (xs : Attributes) → length (attribute_numbers xs) ≡ attribute_records xs
  attributes_counted no_more = refl
  attributes_counted (attribute h v more) =
      ap suc (length-append (value_numbers v) (attribute_numbers more) ∙ ap₂ ◌+◌ (value_counted v) (attributes_counted more))

  value_counted : (v : Value) → length (value_numbers v) ≡ value_records v
  value_counted any = refl
  value_counted (nested o) = object_counted o
  value_counted (leaf l) = leaf_counted l

up_length : (k n : ℕ) → length (up_from n k) ≡ k
up_length zero n = refl
up_length (suc k) n = ap suc (up_length k (n + 1))

-- numbers that go up one by one do so in both parts of the list
up_split : (a b n : ℕ) (xs ys : List ℕ) → length xs ≡ a → xs ++ ys ≡ up_from n (a + b)
    → (xs ≡ up_from n a) × (ys ≡ up_from (n + a) b)
up_split a b n xs ys h e =
    let l = up_length a n in
    let g = e ∙ up_append a b n in (
      sym (take_at xs ys a h) ∙ ap (take a) g ∙ take_at (up_from n a) (up_from (n + a) b) a l,
      sym (drop_at xs ys a h) ∙ ap (drop a) g ∙ drop_at (up_from n a) (up_from (n + a) b) a l,
    )

ranges_numbered : (l : List Range) (n : ℕ) → range_numbers l ≡ up_from n (length l) → NumberedRanges l n
ranges_numbered [] n e = tt
ranges_numbered (x ∷ xs) n e = (cc, ranges_numbered xs (n + 1) (cc))

texts_numbered : (l : List Text) (n : ℕ) → text_numbers l ≡ up_from n (length l) → NumberedTexts l n
texts_numbered [] n e = tt
texts_numbered (x ∷ xs) n e = (cc, texts_numbered xs (n + 1) (cc))

leaf_numbered : (l : Leaf) (n : ℕ) → leaf_numbers l ≡ up_from n (leaf_records l) → NumberedLeaf l n
leaf_numbered (single sort k flag) n e = cc
leaf_numbered (ranges sort l) n e = ranges_numbered l n e
leaf_numbered (texts l) n e = texts_numbered l n e

mutual
  unfolding NumberedObject object_records object_numbers NumberedAttributes attribute_records attribute_numbers NumberedValue value_records value_numbers

  -- a tree whose numbers go up one by one from n is numbered from n
  pub object_numbered : (o : Object) (n : ℕ) → object_numbers o ≡ up_from n (object_records o) → NumberedObject o n
  object_numbered (object h xs) n e = (cc, attributes_numbered xs (n + 1) (cc))

  attributes_numbered : (xs : Attributes) (n : ℕ) → attribute_numbers xs ≡ up_from n (attribute_records xs)
      → NumberedAttributes xs n
  attributes_numbered no_more n e = tt
  attributes_numbered (attribute h v more) n e =
      let s = up_split (value_records v) (attribute_records more) (n + 1) (value_numbers v) (attribute_numbers more) (value_counted v) (cc) in
      (cc, value_numbered v (n + 1) s.0, attributes_numbered more (n + 1 + value_records v) s.1)

  value_numbered : (v : Value) (n : ℕ) → value_numbers v ≡ up_from n (value_records v) → NumberedValue v n
  value_numbered any n e = tt
  value_numbered (nested o) n e = object_numbered o n e
  value_numbered (leaf l) n e = leaf_numbered l n e
