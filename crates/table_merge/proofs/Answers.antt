-- What a merge that is not refused gives: both tables pass the check, the joined table has room, and the bytes written are the joined table's. Assumes nothing.
use mathlib.Core.Path.{◌≡◌, refl, sym, ap, ◌∙◌}
use Rattle.std.specs.Prelude.{Option, None, Some, option_map as map}
use mathlib.Core.List.{List}
use Prim.Native.Nat.{ℕ, ◌+◌, ◌≤◌}
use native.Mathlib.Omega.{arith}
use lib.Dec.{ltb}
use lib.ListN.{length, take}
use borrow.Author.Tests.{ltb-false}
use Rattle.refusals.specs.Limits.{record_limit, pool_limit}
use Rattle.refusals.specs.Outcomes.{gave, writes}
use Rattle.refusals.specs.declared.Cause.TheVariants.{TooManyRecords, PoolTooLarge}
use Rattle.refusals.specs.declared.Refusal.{Refusal}
use Rattle.refusals.proofs.Outcomes.{gives, front_is, no_fault_lem, not_found, fits}
use Rattle.table.specs.Records.{count, image_of, bytes_of}
use Rattle.table.specs.Check.{table_fault}
use Rattle.table_merge.specs.Joining.{shifts_by, merged}
use Rattle.table_merge.specs.Merge.{MergeRequest, MergeReport, report, of_table, neither, join, merge_outcome, merge_answer}

pub record Joined (q : MergeRequest) (m : MergeReport) (out : List ℕ) : Type 0 where
  pub first_passes : table_fault q.first ≡ None
  pub second_passes : table_fault q.second ≡ None
  pub records_fit : length (image_of q.first).records + count (image_of q.second) ≤ record_limit
  pub pool_fits : length (image_of q.first).pool + length (image_of q.second).pool ≤ pool_limit
  pub shifts_are : m.shifts ≡ shifts_by (image_of q.first)
  pub written_is : take m.length out ≡ bytes_of q.little (merged (image_of q.first) (image_of q.second))

pub none_mapped : (table : ℕ) (f : Option Refusal) → map (of_table table) f ≡ None → f ≡ None
none_mapped table None h = refl
none_mapped table (Some r) h = let z : ◌≡◌ {A = ℕ} 0 1 = cc in absurd (omega arith)

pub merge_gives : (q : MergeRequest) (out : List ℕ) (m : MergeReport) → (merge_answer q out).answer ≡ gave m
    → Joined q m (merge_answer q out).out
unfolding merge_answer join
merge_gives q out m h =
    let x = image_of q.first in
    let y = image_of q.second in
    let bs = bytes_of q.little (merged x y) in
    let g = gives (merge_outcome q (length out)) out m h in
    let a = no_fault_lem g.written (map (of_table 1) (table_fault q.first)) _ g.is in
    let b = no_fault_lem g.written (map (of_table 2) (table_fault q.second)) _ a.1 in
    let c = not_found g.written (ltb record_limit (length x.records + count y)) (neither TooManyRecords 0) _ b.1 in
    let d = not_found g.written (ltb pool_limit (length x.pool + length y.pool)) (neither PoolTooLarge 0) _ c.1 in
    let w = (fits neither (length bs) (length out) (writes bs (report (length bs) (shifts_by x))) g.written d.1).1 in
    let r : report (length bs) (shifts_by x) ≡ m = ap (λ v. v.report) w ∙ g.report_is in
    record {
      first_passes = none_mapped 1 (table_fault q.first) a.0;
      second_passes = none_mapped 2 (table_fault q.second) b.0;
      records_fit = ltb-false _ _ c.0;
      pool_fits = ltb-false _ _ d.0;
      shifts_are = sym (ap (λ v. v.shifts) r);
      written_is = ap (λ v. take v.length (merge_answer q out).out) (sym r) ∙ front_is g (writes bs (report (length bs) (shifts_by x))) w;
    }
