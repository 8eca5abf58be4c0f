-- Merging is done exactly when the rules say so, writes the table that they describe, and is refused exactly as they say. Assumes nothing.
use mathlib.Core.Path.{◌≡◌, refl, sym, ap, subst, ◌∙◌}
use mathlib.Core.Logic.{◌↔◌}
use Rattle.std.specs.Prelude.{Option, None, Some}
use mathlib.Core.List.{List, ◌++◌}
use Prim.Native.Nat.{ℕ, ◌-◌}
use lib.ListN.{length, drop}
use borrow.Author.Tests.{lt-ltb, le-ltb}
use Rattle.values.proofs.Common.{by_order}
use Rattle.refusals.specs.Limits.{record_limit, pool_limit}
use Rattle.refusals.specs.Outcomes.{refused, gave, writes, write}
use Rattle.refusals.specs.declared.Refusal.{Refusal}
use Rattle.refusals.proofs.Outcomes.{not_gave, same_refusal, same_given}
use Rattle.table.specs.Records.{image_of}
use Rattle.table.specs.Check.{table_fault}
use Rattle.table.specs.TableRules.{IsTable}
use Rattle.table.proofs.TableRuleLaws.{passes, no_table}
use Rattle.table_merge.specs.Merge.{MergeRequest, MergeReport, MergeRefusal, report, join, merge_outcome, merge_answer}
use Rattle.table_merge.specs.Clauses.Answers.{shifts}
use Rattle.table_merge.specs.MergeRules.{Sizes, count_of, pool_of, length_of, BothTables, IsMerged, Merges, MergeRefuses}
use Rattle.table_merge.proofs.JoinedLaws.{table_reads, joined_of, counts_are, pools_are, shifts_are, joined_length, joined_is}

module _ (q : MergeRequest) (room : ℕ) where
  -- two tables are joined as far as their sizes allow
  outcome_both : {z : Sizes} → BothTables q.first q.second z
      → merge_outcome q room ≡ join (image_of q.first) (image_of q.second) q.little room
  outcome_both t = rw ((table_reads t.first).passed, (table_reads t.second).passed)

  -- what the rules say that merging reports is given
  merges_gives : {z : Sizes} {m : MergeReport} → Merges q room z m
      → merge_outcome q room ≡ gave (writes (joined_of q.first q.second q.little) m)
  unfolding join
  merges_gives {z} {m} h =
      let t = h.tables in
      let e = joined_length t h.counts h.pools q.little in
      let few = le-ltb record_limit (count_of z) h.counts in
      let small = le-ltb pool_limit (pool_of z) h.pools in
      let r : m ≡ report (length_of z) (shifts (z.count₁ - 1) z.pool₁) = λ i. report (h.length i) (shifts (h.records i) (h.pool i)) in
      outcome_both t
      ∙ rw (r, counts_are t, pools_are t, e, shifts_are t, few, small, le-ltb room (length_of z) h.fits)

  -- what the rules refuse is refused so
  refuses_so : {r : MergeRefusal} → MergeRefuses q room r → merge_outcome q room ≡ refused r
  unfolding join
  refuses_so (MergeRefuses.first {r} n) = rw ((no_table q.first r).1 n)
  refuses_so (MergeRefuses.second {r = r} t n) = rw ((table_reads t).passed, (no_table q.second r).1 n)
  refuses_so (MergeRefuses.records {z} t many) = outcome_both t ∙ rw (counts_are t, lt-ltb record_limit (count_of z) many)
  refuses_so (MergeRefuses.pool {z} t few large) =
      outcome_both t ∙ rw (counts_are t, pools_are t, le-ltb record_limit (count_of z) few, lt-ltb pool_limit (pool_of z) large)
  refuses_so (MergeRefuses.short {z} t few small long) =
      let e = joined_length t few small q.little in
      outcome_both t
      ∙ rw (counts_are t, pools_are t, e, le-ltb record_limit (count_of z) few, le-ltb pool_limit (pool_of z) small, lt-ltb room (length_of z) long)

-- merging is done or refused
data Judged (q : MergeRequest) (room : ℕ) : Type 0 where
  done : {z : Sizes} {m : MergeReport} → Merges q room z m → Judged q room
  denied : {r : MergeRefusal} → MergeRefuses q room r → Judged q room

module _ (q : MergeRequest) (room : ℕ) where
  judged_both : (z : Sizes) → BothTables q.first q.second z → Judged q room
  judged_both z t =
      by_order (count_of z) record_limit
      (λ few. by_order (pool_of z) pool_limit
      (λ small. by_order (length_of z) room
      (λ fits. done {m = report (length_of z) (shifts (z.count₁ - 1) z.pool₁)}
      (record { tables = t; counts = few; pools = small; fits = fits; length = refl; records = refl; pool = refl }))
      (λ long. denied (MergeRefuses.short t few small long)))
      (λ large. denied (MergeRefuses.pool t few large)))
      (λ many. denied (MergeRefuses.records t many))

  judged_second : {count pool root : ℕ} → IsTable q.first count pool root → (f : Option Refusal)
      → table_fault q.second ≡ f → Judged q room
  judged_second {count} {pool} {root} t None e =
      let v = (passes q.second).0 e in
      judged_both (record { count₁ = count; pool₁ = pool; root₁ = root; count₂ = v.0; pool₂ = v.1; root₂ = v.2 }) (record { first = t; second = v.3 })
  judged_second t (Some r) e = denied (MergeRefuses.second t ((no_table q.second r).0 e))

  judged_first : (f : Option Refusal) → table_fault q.first ≡ f → Judged q room
  judged_first None e = judged_second ((passes q.first).0 e).3 (table_fault q.second) refl
  judged_first (Some r) e = denied (MergeRefuses.first ((no_table q.first r).0 e))

module _ (q : MergeRequest) (out : List ℕ) where
  judged : Judged q (length out)
  judged = judged_first q (length out) (table_fault q.first) refl

  -- the answer is what the rules say
  done_gave : {z : Sizes} {m : MergeReport} → Merges q (length out) z m → (merge_answer q out).answer ≡ gave m
  unfolding merge_answer
  done_gave h = ap (λ o. (write o out).answer) (merges_gives q (length out) h)

  denied_refused : {r : MergeRefusal} → MergeRefuses q (length out) r → (merge_answer q out).answer ≡ refused r
  unfolding merge_answer
  denied_refused h = ap (λ o. (write o out).answer) (refuses_so q (length out) h)

  -- and nothing else
  gave_done : (m : MergeReport) → Judged q (length out) → (merge_answer q out).answer ≡ gave m
      → (z : Sizes) × Merges q (length out) z m
  gave_done m (done {z} h) e = (z, subst (Merges q (length out) z) (same_given (sym (done_gave h) ∙ e)) h)
  gave_done m (denied h) e = absurd (not_gave (sym (denied_refused h) ∙ e))

  refused_denied : (r : MergeRefusal) → Judged q (length out) → (merge_answer q out).answer ≡ refused r
      → MergeRefuses q (length out) r
  refused_denied r (done h) e = absurd (not_gave (sym e ∙ done_gave h))
  refused_denied r (denied h) e = subst (MergeRefuses q (length out)) (same_refusal (sym (denied_refused h) ∙ e)) h

-- merging is done exactly when the rules say so, and reports what they say
pub merge_done : (q : MergeRequest) (out : List ℕ) (m : MergeReport)
    → ((merge_answer q out).answer ≡ gave m) ↔ ((z : Sizes) × Merges q (length out) z m)
merge_done q out m = (gave_done q out m (judged q out), λ h. done_gave q out h.1)

-- it is refused exactly as they say
pub merge_refused : (q : MergeRequest) (out : List ℕ) (r : MergeRefusal)
    → ((merge_answer q out).answer ≡ refused r) ↔ MergeRefuses q (length out) r
merge_refused q out r = (refused_denied q out r (judged q out), denied_refused q out)

-- and where it is done, the table that they describe stands in front of the output
pub merge_written : (q : MergeRequest) (out : List ℕ) (z : Sizes) (m : MergeReport) → Merges q (length out) z m
    → (joined : List ℕ) × IsMerged q.first q.second q.little z joined
    × ((merge_answer q out).out ≡ joined ++ drop (length joined) out)
unfolding merge_answer
merge_written q out z m h = (
  joined_of q.first q.second q.little,
  joined_is h.tables h.counts h.pools q.little,
  ap (λ o. (write o out).out) (merges_gives q (length out) h),
)
