-- Demand 1: what each job tells has its row in the table of numbers, and the output buffers stay. Assumes nothing.
use mathlib.Core.Path.{◌≡◌, refl, sym, subst}
use mathlib.Core.Logic.{◌⊎◌, inl, inr}
use mathlib.Core.Bool.{Bool}
use Rattle.std.specs.Prelude.{Option, None, Some}
use mathlib.Core.List.{List}
use Prim.Native.Nat.{ℕ}
use lib.ListN.{length}
use Rattle.refusals.specs.Limits.{level_limit}
use Rattle.refusals.specs.Numbers
use Rattle.refusals.specs.Outcomes
use Rattle.refusals.specs.Outcomes.{Outcome}
use Rattle.refusals.specs.Refusals.{refusal, number_of}
use Rattle.refusals.specs.declared.Refusal.{Refusal}
use Rattle.refusals.specs.declared.Cause.TheVariants.{NotAnObject}
use Rattle.refusals.proofs.NumberLaws.{row_of, text_row}
use Rattle.refusals.proofs.Outcomes.{refusal_keeps, same_refusal}
use Rattle.meaning.specs.Constraints.{Object}
use Rattle.table.specs.Records.{image_of}
use Rattle.table.specs.Check.{table_fault}
use Rattle.table.specs.Trees.{object_at}
use Rattle.table.specs.TableRules.{NoTable, unframed, broken}
use Rattle.table.specs.Says.{NameRefuses, no_table, no_name}
use Rattle.table.proofs.TableRuleLaws
use Rattle.table.proofs.SaysLaws
use Rattle.table.proofs.NamedLaws
use Rattle.table_merge.specs.Merge.{MergeRequest, MergeRefusal, merge_outcome, merge_answer}
use Rattle.table_merge.specs.MergeRules.{MergeRefuses}
use Rattle.table_merge.specs.MergeRules
use Rattle.table_merge.proofs.MergeRuleLaws
use Rattle.compile.specs.Compile.{compile_outcome, compile_answer}
use Rattle.judge.specs.Judge.{judge_answer}
use Rattle.rules_faults.specs.Faults.{Least}
use Rattle.rules_faults.specs.ConstraintFaults
use Rattle.rules_faults.proofs.Outcomes.{Lies}
use Rattle.rules_faults.proofs.Scanned
use Rattle.rules_faults.proofs.ConstraintScanned
use Rattle.demands.specs.Demands.{Demand1, TooShort}
use Rattle.demands.specs.Told.{Told, InText, over_long, inside, DataTold, AtEnd, at_end, InTable, whole, one_record, AsAsked, as_asked, joined, joined_length, MergeTold, of_first, of_second, of_neither}
use Rattle.demands.proofs.Rules.{refused_only, unread_least}
use Rattle.demands.proofs.Failures.{failure_told}

-- a fault of a text
text_told : (s : List ℕ) (x : Refusal) → Lies s x → Told (InText s) x
unfolding number_of
text_told s x (inl (e, l)) = subst (Told (InText s)) (sym e) (record { sort = Numbers.limit; row = Numbers.text_too_long; place = over_long l })
text_told s x (inr f) = record { sort = Numbers.token; row = text_row x.cause f.least f.most; place = inside f.inside }

compile_told_lem : (text : List ℕ) (little : Bool) (out : List ℕ) (r : Refusal)
    → (compile_answer text little out).answer ≡ Outcomes.refused r → Told (InText text) r ⊎ Told (AtEnd text) r
unfolding number_of
compile_told_lem text little out r h = by (refused_only text little out r h)
  where
    by : Least r (ConstraintFaults.faults text) ⊎ TooShort text little out r
        → Told (InText text) r ⊎ Told (AtEnd text) r
    by (inl l) = inl (text_told text r (ConstraintScanned.fault_lies text r l.one))
    by (inr x) = inr (subst (Told (AtEnd text)) (sym x.told) (record { sort = Numbers.text_end; row = Numbers.table_too_long; place = at_end }))

-- why bytes are no table
table_told : (bs : List ℕ) (r : Refusal) → NoTable bs r → Told (InTable bs) r
unfolding number_of
table_told bs r (unframed h) = record { sort = Numbers.whole_table; row = Numbers.not_aTable; place = whole }
table_told bs r (broken f a b c d) = record { sort = Numbers.table_record; row = Numbers.broken_record; place = one_record f a b }

merge_told_lem : (q : MergeRequest) (out : List ℕ) (r : MergeRefusal) → MergeRefuses q (length out) r → MergeTold q r
unfolding number_of
merge_told_lem q out r (MergeRules.first n) = of_first (table_told _ _ n)
merge_told_lem q out r (MergeRules.second t n) = of_second (table_told _ _ n)
merge_told_lem q out r (MergeRules.records b h) = of_neither (record { sort = Numbers.merged; row = Numbers.too_many_merged; place = joined })
merge_told_lem q out r (MergeRules.pool b h k) = of_neither (record { sort = Numbers.merged; row = Numbers.pool_too_large; place = joined })
merge_told_lem q out r (MergeRules.short b h k l) = of_neither (record { sort = Numbers.needed; row = Numbers.merged_too_long; place = joined_length b })

name_told_lem : (bs : List ℕ) (n : ℕ) (r : Refusal) → NameRefuses bs n r → Told (InTable bs) r ⊎ Told (AsAsked n) r
unfolding number_of
name_told_lem bs n r (no_table h) = inl (table_told bs r h)
name_told_lem bs n r (no_name t h) = inr (record { sort = Numbers.asked; row = Numbers.no_name; place = as_asked })

judge_told_lem : (table : List ℕ) (root : ℕ) (form : List ℕ) (r : Refusal)
    → judge_answer table root form ≡ Outcomes.refused r
    → Told (InTable table) r ⊎ Told (AsAsked root) r ⊎ DataTold form r
unfolding number_of judge_answer
judge_told_lem table root form r h = by (table_fault table) refl
  where
    under : table_fault table ≡ None → (o : Option Object) → object_at (image_of table) root ≡ o
        → Told (InTable table) r ⊎ Told (AsAsked root) r ⊎ DataTold form r
    under e None f =
        let k : refusal NotAnObject root ≡ r = same_refusal (rw (e, f) at h) in
        inr (inl (subst (Told (AsAsked root)) k (record { sort = Numbers.asked; row = Numbers.not_an_object; place = as_asked })))
    under e (Some o) f =
        let l = unread_least table root form o (SaysLaws.says_there table root o e f) r h in
        inr (inr (record { told = text_told form r (Scanned.fault_lies level_limit form r l.one); cause = Scanned.fault_of_lem level_limit form r l.one }))

    by : (t : Option Refusal) → table_fault table ≡ t → Told (InTable table) r ⊎ Told (AsAsked root) r ⊎ DataTold form r
    by None e = under e (object_at (image_of table) root) refl
    by (Some x) e = inl (table_told table r ((TableRuleLaws.no_table table r).0 (let k : x ≡ r = same_refusal (rw e at h) in rw k at e)))

pub demand1 : Demand1
unfolding compile_answer merge_answer
demand1 = record {
  numbered = row_of;
  compile_told_lem = compile_told_lem;
  check_told_lem = λ bs r h. table_told bs r ((TableRuleLaws.no_table bs r).0 h);
  merge_told_lem = λ q out r h. merge_told_lem q out r ((MergeRuleLaws.merge_refused q out r).0 h);
  judge_told_lem = judge_told_lem;
  failure_told = failure_told;
  name_told_lem = λ bs n r h. name_told_lem bs n r ((NamedLaws.name_refused bs n r).0 h);
  compile_keeps = λ text little out r. refusal_keeps (compile_outcome text little (length out)) out r;
  merge_keeps = λ q out r. refusal_keeps (merge_outcome q (length out)) out r;
}
