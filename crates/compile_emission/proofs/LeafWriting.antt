-- Steps of the function that reads and writes a leaf. Assumes nothing.
use mathlib.Core.Path.{◌≡◌, refl, sym, ap}
use mathlib.Core.Bool.{Bool}
use mathlib.Core.List.{List, [], ◌∷◌}
use Prim.Native.Nat.{ℕ}
use native.Mathlib.Omega.{arith}
use lib.ListN.{length}
use lib.Seq.{sets}
use Rattle.refusals.specs.Reading.{got}
use Rattle.refusals.specs.declared.Refusal.{Refusal}
use Rattle.refusals.proofs.Readings.{Holds}
use Rattle.meaning.specs.Constraints.{Leaf, single, ranges}
use Rattle.meaning.specs.Constraints
use Rattle.meaning.specs.Sorts.{single_row}
use Rattle.meaning.specs.Counting.{text_pool, leaf_pool, value_pool}
use Rattle.cadl_items.specs.Clauses.Told.{leaf}
use Rattle.cadl_items.specs.Clauses.Answers.{items_from, range_at, text_at, single_of, range_sort_of, LeafIs}
use Rattle.cadl_items.specs.declared.leaves.SingleSort.{SingleSort}
use Rattle.cadl_items.specs.declared.leaves.RangeSort.{RangeSort}
use Rattle.cadl_items.specs.declared.leaves.Leaf as declared
use Rattle.cadl_items.specs.declared.leaves.Leaf.TheVariants.{Single, Ranges, Strings}
use Rattle.std.specs.declared.result.Result.TheVariants.{Ok, Err}
use Rattle.cadl_items.proofs.LeafReading.{leaf_holds}
use Rattle.cadl_items.proofs.LeafReading as reading
use Rattle.table.specs.Records.{Record, make}
use Rattle.compile_flatten.specs.Flatten.{range_records, records_of_leaf, value_table}
use Rattle.compile_emission.specs.Clauses.Answers.{wrote, written, Room, Puts, TextsRoom, TextsPut, leaf_value}
use Rattle.compile_emission.specs.declared.spots.Spot.{Spot}
use Rattle.compile_emission.proofs.TreeWriting.{pool_below}

pub leaf_faulty : (little : Bool) (s : List ℕ) (p : Spot) (scratch rs bs : List ℕ) (x : Refusal)
    → LeafIs s p.next p.place (leaf s p.next p.place) scratch (Err x)
    → wrote (Err x) rs bs ≡ written value_table value_pool little p rs bs (leaf_value s p)
unfolding written
leaf_faulty little s p scratch rs bs x e = rw (← e.is)

-- a leaf's records and bytes that are written are what its tree asks
put_is : (little : Bool) (s : List ℕ) (p : Spot) (l : Leaf) (place : ℕ) (table : List Record) (size : ℕ)
    (rs bs rs' bs' : List ℕ) (r : Spot) → got l place ≡ leaf s p.next p.place → table ≡ records_of_leaf p.pool l
    → size ≡ length (leaf_pool l) → Puts little p place table size rs rs' r → bs' ≡ sets bs p.pool (leaf_pool l)
    → wrote (Ok r) rs' bs' ≡ written value_table value_pool little p rs bs (leaf_value s p)
unfolding written value_table value_pool
put_is little s p l place table size rs bs rs' bs' r f t z h b = rw (← f, h.answer, ← t, ← z, b, h.records)

module _ (little : Bool) (s : List ℕ) (p : Spot) (scratch : List ℕ) {l : declared.Leaf}
    (e : LeafIs s p.next p.place (leaf s p.next p.place) scratch (Ok l)) (rs bs rs' bs' : List ℕ) (r : Spot) where
  pub leaf_single : (sort : SingleSort) (flag place kind : ℕ) → l ≡ Single sort flag place
      → kind ≡ (single_row (single_of sort)).kind
      → Puts little p place (make kind flag [] ∷ []) 0 rs rs' r
      → wrote (Ok r) rs' bs ≡ written value_table value_pool little p rs bs (leaf_value s p)
  leaf_single sort flag place kind g k h = put_is little s p (single (single_of sort) p.next flag) place _ 0 rs bs rs' bs r (rw g at e.is) (ap (λ x. make x flag [] ∷ []) k) refl h refl

  pub leaf_ranges : (sort : RangeSort) (count place : ℕ) → l ≡ Ranges sort count place
      → Puts little p place
      (range_records (range_sort_of sort) (items_from (range_at scratch) p.next 0 count)) 0 rs rs' r
      → wrote (Ok r) rs' bs ≡ written value_table value_pool little p rs bs (leaf_value s p)
  leaf_ranges sort count place g h = put_is little s p (ranges (range_sort_of sort) (items_from (range_at scratch) p.next 0 count)) place _ 0 rs bs rs' bs r (rw g at e.is) refl refl h refl

  pub leaf_strings : (count place : ℕ) → l ≡ Strings count place
      → TextsPut s little p scratch count place rs bs rs' bs' r
      → wrote (Ok r) rs' bs' ≡ written value_table value_pool little p rs bs (leaf_value s p)
  leaf_strings count place g h = put_is little s p (Constraints.texts (items_from (text_at s scratch) p.next 0 count)) place _ _ rs bs rs' bs' r (rw g at e.is) refl refl h.puts h.bytes

-- there is room for the strings of a leaf
pub strings_room : {s : List ℕ} {p : Spot} {scratch : List ℕ} {l : declared.Leaf} {count place : ℕ} → Room s p
    → LeafIs s p.next p.place (leaf s p.next p.place) scratch (Ok l) → l ≡ Strings count place
    → TextsRoom s p scratch count
unfolding Holds
strings_room {s} {p} {scratch} {l} {count} {place} room e g =
    let h = rw g at e.past in
    let t = h.texts in
    let texts = items_from (text_at s scratch) p.next 0 count in
    let l : reading.LeafRead s p.next p.place (Constraints.texts texts) place = rw (sym (rw g at e.is)) at (leaf_holds s p.next p.place room.inside) in
    let b = pool_below s p.pool p.place place (text_pool texts) room.bytes (omega (arith, h.order)) h.inside l.pool in
    record { few = t.few; short = room.short; records = t.records; spans = t.spans; bytes = omega arith }
