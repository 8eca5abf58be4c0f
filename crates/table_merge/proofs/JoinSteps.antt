-- Steps of the functions that write two tables as one. Assumes nothing.
use mathlib.Core.Path.{◌≡◌, refl, sym, ap, ap₂, ◌∙◌}
use mathlib.Core.Bool.{Bool}
use mathlib.Core.List.{List, [], ◌∷◌, ◌++◌, map, append_assoc}
use Prim.Native.Nat.{ℕ, ◌+◌, ◌*◌, ◌-◌, ◌≤◌}
use native.Mathlib.Omega.{arith}
use lib.ListN.{length, take, drop, length-append, length-drop}
use lib.Seq.{sets, take_all}
use Rattle.table.specs.Records.{Record, record_size, decode, encode, field, count, header_of, decodes, encodes, header, image_of, bytes_of}
use Rattle.table.specs.Clauses.Answers.{plain_entry, record_of, Opened}
use Rattle.table.specs.declared.records.Entry.{Entry}
use Rattle.table.specs.declared.records.Frame.{Frame}
use Rattle.table.proofs.Checked.{Checked}
use Rattle.table.proofs.RecordLaws.{AllCounted, fit_counted, length-encode, length-encodes, length-bytes}
use Rattle.table.proofs.CheckLaws.{check_sound, image_fits}
use Rattle.table.proofs.FrameLaws.{count_opened, pool_opened}
use Rattle.table_merge.specs.Joining.{moved, shifts_by, merged}
use Rattle.table_merge.specs.Clauses.Answers.{shifts, Copying, header_with, Joinable, joined_length}
use Rattle.table_merge.proofs.MergeLaws.{count-merged, pool_merged}
use Rattle.table_merge.proofs.CheckedMerge.{checked_merge}
use Rattle.table_merge.proofs.MovedLaws.{all_by_nothing, shifts_opened, still_movable, behind_movable}
use Rattle.lexis.proofs.Stores.{sets_behind}

-- the header, with the root that was read
pub header-written : (bs out x : List ℕ) (little : Bool) (count pool : ℕ) (h m : Entry)
    → record_of h ≡ decode (take record_size bs) → m ≡ plain_entry 0 0
    → x ≡ sets out 0
    (encode little
    (record_of (record { kind = m.kind; flag = m.flag; a = count; b = pool; c = h.c; d = m.d; e = m.e })))
    → x ≡ sets out 0 (encode little (header_with count pool (field (header bs) 2)))
header-written bs out x little count pool h m e g w =
    w ∙ λ i. sets out 0 (encode little (record { kind = (g i).kind; flag = (g i).flag; fields = count ∷ pool ∷ field (e i) 2 ∷ (g i).d ∷ (g i).e ∷ [] }))

-- records in two parts are written in two parts
encodes-append : (little : Bool) (rs qs : List Record)
    → encodes little (rs ++ qs) ≡ encodes little rs ++ encodes little qs
encodes-append little [] qs = refl
encodes-append little (r ∷ rs) qs = rw (encodes-append little rs qs) (sym (append_assoc (encode little r) (encodes little rs) (encodes little qs)))

module _ (bs : List ℕ) (f : Frame) (o : Opened bs f) where
  -- the records of a table, by its count
  records_opened : decodes (f.count - 1) (drop record_size bs) ≡ (image_of bs).records
  unfolding image_of
  records_opened = rw o.records

  -- the pool of a table is all that stands behind its records
  pool_is_rest : drop (record_size * f.count) bs ≡ (image_of bs).pool
  unfolding image_of
  pool_is_rest = rw (← o.records, ← o.bytes) (sym (take_all f.pool (drop (record_size * f.count) bs) (simp length-drop (omega arith))))

module _ {first second : List ℕ} {x y : Frame} (j : Joinable first second x y) where
  -- what copying each table's records asks, of an output that is as long as before
  pub first_copying : (out o : List ℕ) → joined_length x y ≤ length out → length o ≡ length out
      → Copying first x.count (shifts 0 0) o
  first_copying out o r e =
      let a = j.first_opened in
      let b = j.second_opened in
      record {
        inside = omega arith;
        room = omega arith;
        few = omega arith;
        movable = still_movable first x a j.first_passes;
      }

  pub second_copying : (out o1 o : List ℕ) → joined_length x y ≤ length out → length o1 ≡ length out
      → length o ≡ length o1
      → Copying second y.count (shifts (x.count - 1) x.pool) o
  second_copying out o1 o r d e =
      let a = j.first_opened in
      let b = j.second_opened in
      record {
        inside = omega arith;
        room = omega arith;
        few = omega arith;
        movable = λ n l k. behind_movable second y b j.second_passes n l k first x a j.few j.small;
      }

  -- the joined table's counts
  count_joined : count (merged (image_of first) (image_of second)) ≡ x.count - 1 + y.count
  count_joined =
      let a = count_opened first x j.first_opened in
      let b = count_opened second y j.second_opened in
      omega (arith, count-merged (image_of first) (image_of second))

  pool_joined : length (merged (image_of first) (image_of second)).pool ≡ x.pool + y.pool
  pool_joined =
      let a = pool_opened first x j.first_opened in
      let b = pool_opened second y j.second_opened in
      omega (arith, pool_merged (image_of first) (image_of second))

  header_joined : header_with (x.count - 1 + y.count) (x.pool + y.pool)
      (field (header first) 2) ≡ header_of (merged (image_of first) (image_of second))
  unfolding merged image_of
  header_joined = λ i. header_with (sym count_joined i) (sym pool_joined i) (field (header first) 2)

  checked_joined : Checked (merged (image_of first) (image_of second))
  checked_joined =
      let a = count_opened first x j.first_opened in
      let b = count_opened second y j.second_opened in
      let c = pool_opened first x j.first_opened in
      let d = pool_opened second y j.second_opened in
      let e = j.few in
      let f = j.small in
      checked_merge (image_of first) (image_of second) (check_sound first j.first_passes) (check_sound second j.second_passes) (omega arith) (omega arith)

  counted_joined : AllCounted (merged (image_of first) (image_of second)).records
  counted_joined = fit_counted (merged (image_of first) (image_of second)).records (image_fits (merged (image_of first) (image_of second)) checked_joined).records

  counted_first : AllCounted (image_of first).records
  counted_first = fit_counted (image_of first).records (image_fits (image_of first) (check_sound first j.first_passes)).records

  -- the header, the first table's records and the second's
  pub records_written : (little : Bool) (out o1 o2 o3 : List ℕ)
      → o1 ≡ sets out 0
      (encode little (header_with (x.count - 1 + y.count) (x.pool + y.pool) (field (header first) 2)))
      → o2 ≡ sets o1 record_size
      (encodes little (map (moved (shifts 0 0)) (decodes (x.count - 1) (drop record_size first))))
      → o3 ≡ sets o2 (record_size * (x.count - 1 + 1))
      (encodes little (map (moved (shifts (x.count - 1) x.pool)) (decodes (y.count - 1) (drop record_size second))))
      → o3 ≡ sets out 0
      (encode little (header_of (merged (image_of first) (image_of second)))
      ++ encodes little (merged (image_of first) (image_of second)).records)
  unfolding merged
  records_written little out o1 o2 o3 e1 e2 e3 =
      let X = image_of first in
      let Y = image_of second in
      let H = encode little (header_of (merged X Y)) in
      let A = encodes little X.records in
      let B = encodes little (map (moved (shifts_by X)) Y.records) in
      let a = count_opened first x j.first_opened in
      let h : length H ≡ record_size = length-encode little (header_of (merged X Y)) refl in
      let w1 : o1 ≡ sets out 0 H = e1 ∙ ap (λ r. sets out 0 (encode little r)) header_joined in
      let w2 : o2 ≡ sets o1 record_size A = e2 ∙ ap (λ rs. sets o1 record_size (encodes little rs)) (all_by_nothing _ ∙ records_opened first x j.first_opened) in
      let w3 : o3 ≡ sets o2 (record_size * (x.count - 1 + 1)) B =
      e3 ∙ ap₂ (λ s rs. sets o2 (record_size * (x.count - 1 + 1)) (encodes little (map (moved s) rs))) (sym (shifts_opened first x j.first_opened)) (records_opened second y j.second_opened) in
      let l1 : 0 + length H ≡ record_size = omega arith in
      let l2 : 0 + length (H ++ A) ≡ record_size * (x.count - 1 + 1) = omega (arith, length-append H A, length-encodes little X.records counted_first) in
      rw (w3, w2, w1, sets_behind H A out 0 record_size l1, sets_behind (H ++ A) B out 0 (record_size * (x.count - 1 + 1)) l2)
      (ap (sets out 0) (append_assoc H A B ∙ ap (H ++◌) (sym (encodes-append little X.records _))))

  -- the pools, one behind the other
  pub pools_written : (out o1 o2 : List ℕ) (f1 t1 f2 t2 : ℕ) → f1 ≡ record_size * x.count + 0
      → t1 ≡ record_size * (x.count - 1 + y.count) + 0 → o1 ≡ sets out t1 (drop f1 first)
      → f2 ≡ record_size * y.count + 0 → t2 ≡ record_size * (x.count - 1 + y.count) + x.pool
      → o2 ≡ sets o1 t2 (drop f2 second)
      → o2 ≡ sets out (record_size * (x.count - 1 + y.count)) (merged (image_of first) (image_of second)).pool
  unfolding merged
  pools_written out o1 o2 f1 t1 f2 t2 a b e1 c d e2 =
      let at = record_size * (x.count - 1 + y.count) in
      let P = (image_of first).pool in
      let p1 : f1 ≡ record_size * x.count = omega arith in
      let p2 : f2 ≡ record_size * y.count = omega arith in
      let q1 : t1 ≡ at = omega arith in
      let q2 : at + length P ≡ t2 = omega (arith, pool_opened first x j.first_opened) in
      let w1 : o1 ≡ sets out at P = e1 ∙ ap₂ (sets out) q1 (ap (λ k. drop k first) p1 ∙ pool_is_rest first x j.first_opened) in
      let w2 : o2 ≡ sets o1 t2 (image_of second).pool = e2 ∙ ap (sets o1 t2) (ap (λ k. drop k second) p2 ∙ pool_is_rest second y j.second_opened) in
      rw (w2, w1) (sets_behind P (image_of second).pool out at t2 q2)

  -- records and pool make up the table
  pub joined_written : (little : Bool) (out o1 o2 : List ℕ)
      → o1 ≡ sets out 0
      (encode little (header_of (merged (image_of first) (image_of second)))
      ++ encodes little (merged (image_of first) (image_of second)).records)
      → o2 ≡ sets o1 (record_size * (x.count - 1 + y.count)) (merged (image_of first) (image_of second)).pool
      → o2 ≡ sets out 0 (bytes_of little (merged (image_of first) (image_of second)))
  unfolding bytes_of
  joined_written little out o1 o2 e1 e2 =
      let M = merged (image_of first) (image_of second) in
      let H = encode little (header_of M) in
      let R = encodes little M.records in
      let at = record_size * (x.count - 1 + y.count) in
      let c = count_joined in
      let h : length H ≡ record_size = length-encode little (header_of M) refl in
      let l : 0 + length (H ++ R) ≡ at = omega (arith, length-append H R, length-encodes little M.records counted_joined) in
      rw (e2, e1, sets_behind (H ++ R) M.pool out 0 at l) (ap (sets out 0) (append_assoc H R M.pool))

  -- the joined table's length
  pub length_joined : (little : Bool)
      → length (bytes_of little (merged (image_of first) (image_of second))) ≡ joined_length x y
  length_joined little =
      let c = count_joined in
      let p = pool_joined in
      omega (arith, length-bytes little (merged (image_of first) (image_of second)) counted_joined)

pub ruleset join_steps = (header-written, first_copying, second_copying, records_written, pools_written, joined_written)
