-- Trees as they are written: one behind another, and what holds where one was read. Assumes nothing.
use mathlib.Core.Path.{◌≡◌, refl, sym, ap, ◌∙◌}
use mathlib.Core.Bool.{Bool}
use mathlib.Core.List.{List, [], ◌∷◌, ◌++◌, append_assoc}
use Prim.Native.Nat.{ℕ, ◌+◌, ◌*◌, ◌≤◌}
use native.Mathlib.Omega.{arith}
use lib.ListN.{length}
use lib.Seq.{sets}
use Rattle.lexis.specs.Runs.{part}
use Rattle.lexis.specs.Clauses.Subsequence.{Sub}
use Rattle.lexis.proofs.Stores.{sets-sets, sets_behind}
use Rattle.lexis.proofs.Parts.{sub_length}
use Rattle.refusals.specs.Reading.{Reading, refused, got}
use Rattle.refusals.specs.declared.Refusal.{Refusal}
use Rattle.meaning.specs.Constraints.{RangeSort, Range, Text, Leaf, single, ranges, texts, Object, object, Attributes, no_more, attribute, Value, any, nested, leaf}
use Rattle.meaning.specs.Admission.{first_range, first_text}
use Rattle.meaning.specs.Counting.{range_numbers, text_numbers, value_records, value_numbers, object_numbers, object_records, up_from}
use Rattle.meaning.specs.Clauses.Proper.{ProperValue}
use Rattle.cadl_items.proofs.LeafReading.{TreeRead}
use Rattle.lexis.proofs.Parts.{part_length}
use Rattle.table.specs.Records.{Record, record_size, field_count, encode, encodes}
use Rattle.table.proofs.RecordLaws.{AllCounted, length-encode, length-encodes}
use Rattle.compile_flatten.specs.Flatten.{range_records, string_records, records_of_leaf, value_link, object_table, attributes_table, value_table}
use Rattle.compile_emission.specs.Clauses.Answers.{spot, Wrote, wrote, written, link_below, Room}
use Rattle.compile_emission.specs.declared.spots.Spot.{Spot}
use Rattle.std.specs.declared.result.Result.TheVariants.{Ok, Err}
use Rattle.compile_emission.proofs.WritingSteps.{pick_there, pick_none}

-- ---- records, one behind another

counted_append : (xs ys : List Record) → AllCounted xs → AllCounted ys → AllCounted (xs ++ ys)
counted_append [] ys f g = g
counted_append (x ∷ xs) ys f g = (f.0, counted_append xs ys f.1 g)

counted_ranges : (sort : RangeSort) (l : List Range) → AllCounted (range_records sort l)
counted_ranges sort [] = tt
counted_ranges sort (x ∷ xs) = (refl, counted_ranges sort xs)

counted_strings : (l : List Text) (pool : ℕ) → AllCounted (string_records pool l)
counted_strings [] pool = tt
counted_strings (x ∷ xs) pool = (refl, counted_strings xs (pool + length x.text))

counted_leaf : (l : Leaf) (pool : ℕ) → AllCounted (records_of_leaf pool l)
counted_leaf (single sort n flag) pool = (refl, tt)
counted_leaf (ranges sort l) pool = counted_ranges sort l
counted_leaf (texts l) pool = counted_strings l pool

-- every record of a tree has all its fields
mutual
  unfolding object_table attributes_table value_table

  pub counted_object : (o : Object) (pool : ℕ) → AllCounted (object_table o pool)
  counted_object (object h xs) pool = (refl, counted_attributes xs (pool + length h.type + length h.code))

  pub counted_attributes : (xs : Attributes) (pool : ℕ) → AllCounted (attributes_table xs pool)
  counted_attributes no_more pool = tt
  counted_attributes (attribute h v more) pool =
      let behind = pool + length h.name in
      (refl, counted_append (value_table v behind) _ (counted_value v behind) (counted_attributes more _))

  pub counted_value : (v : Value) (pool : ℕ) → AllCounted (value_table v pool)
  counted_value any pool = tt
  counted_value (nested o) pool = counted_object o pool
  counted_value (leaf l) pool = counted_leaf l pool

encodes-append : (little : Bool) (xs ys : List Record)
    → encodes little (xs ++ ys) ≡ encodes little xs ++ encodes little ys
encodes-append little [] ys = refl
encodes-append little (x ∷ xs) ys = rw (encodes-append little xs ys, append_assoc)

-- records behind others
pub rows_behind : (little : Bool) (xs ys : List Record) (n m : ℕ) (out : List ℕ) → AllCounted xs → m ≡ n + length xs
    → sets (sets out (record_size * n) (encodes little xs)) (record_size * m) (encodes little ys)
    ≡ sets out (record_size * n) (encodes little (xs ++ ys))
rows_behind little xs ys n m out f e =
    let l = length-encodes little xs f in
    sets_behind (encodes little xs) (encodes little ys) out (record_size * n) (record_size * m) (omega arith) ∙ ap (λ (x : List ℕ). sets out (record_size * n) x) (sym (encodes-append little xs ys))

-- a record below others that are written already
pub row_below : (little : Bool) (r : Record) (xs : List Record) (n : ℕ) (out : List ℕ) → length r.fields ≡ field_count
    → sets (sets out (record_size * (n + 1)) (encodes little xs)) (record_size * n) (encode little r)
    ≡ sets out (record_size * n) (encodes little (r ∷ xs))
row_below little r xs n out f =
    let l = length-encode little r f in
    sym (sets-sets (encode little r) (encodes little xs) out (record_size * n) (record_size * (n + 1)) (omega arith))
    ∙ sets_behind (encode little r) (encodes little xs) out (record_size * n) (record_size * (n + 1)) (omega arith)

-- ---- what an answer says of the tree that was read

pub record IsTree {A : Type 0} (table : A → ℕ → List Record) (pool : A → List ℕ) (little : Bool) (p : Spot)
    (rs bs rs' bs' : List ℕ) (q : Spot) (x : Reading A) : Type 0 where
  pub tree : A
  pub is : x ≡ got tree q.place
  pub spot : q ≡ spot q.place (p.next + length (table tree p.pool)) (p.pool + length (pool tree))
  pub records : rs' ≡ sets rs (record_size * p.next) (encodes little (table tree p.pool))
  pub bytes : bs' ≡ sets bs p.pool (pool tree)

module _ {A : Type 0} (table : A → ℕ → List Record) (pool : A → List ℕ) (little : Bool) (p : Spot)
    (rs bs rs' bs' : List ℕ) where
  pub is_tree_lem : (q : Spot) (x : Reading A) → wrote (Ok q) rs' bs' ≡ written table pool little p rs bs x
      → IsTree table pool little p rs bs rs' bs' q x
  unfolding written
  is_tree_lem q (refused x) e =
      let o : Ok q ≡ Err x = ap (λ (w : Wrote Spot). w.answer) e in
      let z : ◌≡◌ {A = ℕ} 0 1 = cc in
      absurd (omega arith)
  is_tree_lem q (got a at) e =
      let o : Ok q ≡ Ok (spot at (p.next + length (table a p.pool)) (p.pool + length (pool a))) = ap (λ (w : Wrote Spot). w.answer) e in
      let k : q ≡ spot at (p.next + length (table a p.pool)) (p.pool + length (pool a)) = cc in
      let l : q.place ≡ at = ap (λ (w : Spot). w.place) k in
      record {
        tree = a;
        is = ap (λ (y : ℕ). got a y) (sym l);
        spot = k ∙ ap (λ (y : ℕ). spot y (p.next + length (table a p.pool)) (p.pool + length (pool a))) (sym l);
        records = ap (λ (w : Wrote Spot). w.records) e;
        bytes = ap (λ (w : Wrote Spot). w.bytes) e;
      }

  pub is_refused_lem : (y : Refusal) (x : Reading A) → wrote (Err y) rs' bs' ≡ written table pool little p rs bs x
      → x ≡ refused y
  unfolding written
  is_refused_lem y (refused x) e = let o : Err y ≡ Err x = ap (λ (w : Wrote Spot). w.answer) e in cc
  is_refused_lem y (got a at) e =
      let o : Err y ≡ Ok (spot at (p.next + length (table a p.pool)) (p.pool + length (pool a))) = ap (λ (w : Wrote Spot). w.answer) e in
      let z : ◌≡◌ {A = ℕ} 0 1 = cc in
      absurd (omega arith)

-- a pool of at most as many bytes as stand before a place has, with bytes taken from the text between that place and another, at most as many as stand before the other
pub pool_below : (s : List ℕ) (pool from p : ℕ) (w : List ℕ) → pool ≤ from → from ≤ p → p ≤ length s
    → Sub w (part s from p) → pool + length w ≤ p
pool_below s pool from p w h l k sub = let a = sub_length sub in let b = part_length s from p k in omega arith

-- where a tree was read there is room behind it
pub tree_room : {s : List ℕ} {p q : Spot} {ns : List ℕ} {records : ℕ} {Proper : Type 0} {bs : List ℕ}
    (table : List Record) → Room s p → TreeRead s p.next p.place ns records Proper bs q.place
    → length table ≡ records
    → q ≡ spot q.place (p.next + length table) (p.pool + length bs) → Room s q
tree_room {s} {p} {q} {bs = bs} table room h l e =
    let n : q.next ≡ p.next + length table = ap (λ (w : Spot). w.next) e in
    let m : q.pool ≡ p.pool + length bs = ap (λ (w : Spot). w.pool) e in
    let b = pool_below s p.pool p.place q.place bs room.bytes (omega (arith, h.least)) h.most h.pool in
    let r = h.room room.records in
    record { inside = h.most; short = room.short; records = omega arith; bytes = omega arith }

-- the link to a value is the number of its first record, 0 where it has none
ranges_link : (l : List Range) (n : ℕ) → 1 ≤ length l → range_numbers l ≡ up_from n (length l) → first_range l ≡ n
ranges_link [] n h e = absurd (omega arith)
ranges_link (x ∷ xs) n h e = cc

texts_link : (l : List Text) (n : ℕ) → 1 ≤ length l → text_numbers l ≡ up_from n (length l) → first_text l ≡ n
texts_link [] n h e = absurd (omega arith)
texts_link (x ∷ xs) n h e = cc

pub value_link_lem : (v : Value) (n : ℕ) → value_numbers v ≡ up_from n (value_records v) → ProperValue v
    → link_below n (n + value_records v) ≡ value_link v
unfolding value_numbers value_records object_numbers object_records ProperValue
value_link_lem any n e g = sym (pick_none n (n + 0) n (omega arith))
value_link_lem (nested (object h xs)) n e g = let k : n ≡ h.number = cc in sym (pick_there n _ n h.number (omega arith) (sym k))
value_link_lem (leaf (single sort m f)) n e g = let k : n ≡ m = cc in sym (pick_there n _ n m (omega arith) (sym k))
value_link_lem (leaf (ranges sort l)) n e g = let h : 1 ≤ length l = g.0 in sym (pick_there n _ n _ (omega arith) (ranges_link l n h e))
value_link_lem (leaf (texts l)) n e g = let h : 1 ≤ length l = g.0 in sym (pick_there n _ n _ (omega arith) (texts_link l n h e))
