-- Demand 3: judging after a list of merges is what the two texts mean, the record moved by the sum. Assumes nothing.
use mathlib.Core.Path.{◌≡◌, refl, sym, ap, ◌∙◌, subst}
use mathlib.Core.Logic.{◌↔◌}
use mathlib.Core.Bool.{Bool, true, false, cond}
use Rattle.std.specs.Prelude.{None}
use mathlib.Core.List.{List, [], ◌∷◌}
use Prim.Native.Nat.{ℕ, ◌+◌, ◌^◌, ◌<◌}
use native.Mathlib.Omega.{arith}
use lib.ListN.{length, take}
use Rattle.refusals.specs.Limits.{level_limit}
use Rattle.refusals.specs.Reading.{Reading, got}
use Rattle.refusals.specs.Outcomes
use Rattle.refusals.specs.Outcomes.{Outcome, gave, after_reading}
use Rattle.refusals.specs.declared.Refusal.{Refusal}
use Rattle.refusals.proofs.Outcomes.{not_gave, same_given}
use Rattle.meaning.specs.Constraints.{Object}
use Rattle.meaning.specs.Data.{Datum}
use Rattle.meaning.specs.Verdicts
use Rattle.meaning.specs.Verdicts.{Verdict}
use Rattle.dadl.specs.Placed.{Block, spelled_block}
use Rattle.meaning.specs.Moving.{moved_object}
use Rattle.meaning.specs.Clauses.Proper.{ProperObject}
use Rattle.meaning.proofs.Moved.{judge_moved, moved_none, moved_twice}
use Rattle.meaning.proofs.NumberedLaws.{object_numbered}
use Rattle.cadl_objects.specs.Texts.{constraint_of}
use Rattle.cadl_objects.proofs.TreeReading.{pre_order, pool_fits, records_fit, tree_proper}
use Rattle.dadl.specs.Data.{datum_of}
use Rattle.table.specs.Records.{count, image_of}
use Rattle.table.specs.Check.{table_fault}
use Rattle.table.specs.Trees.{of_object, tree_at}
use Rattle.table.specs.Says.{Says}
use Rattle.table.proofs.Checked.{Checked}
use Rattle.table.proofs.SaysLaws.{says_there}
use Rattle.table.proofs.CheckLaws.{check_sound, check_complete, image_back}
use Rattle.table.proofs.TreeLaws.{moved_tree}
use Rattle.table_merge.specs.Joining.{merged}
use Rattle.table_merge.specs.Merge.{request, MergeReport, MergeRefusal, merge_answer}
use Rattle.table_merge.specs.Lists.{MergeStep, Carried, carried, behind, after_step, after_steps}
use Rattle.table_merge.proofs.MergeLaws.{count-merged, tree_kept, tree_moved}
use Rattle.table_merge.proofs.CheckedMerge.{checked_merge}
use Rattle.table_merge.proofs.Answers.{Joined, merge_gives}
use Rattle.table_merge.proofs.StepLaws.{step_is}
use Rattle.compile_flatten.specs.Flatten.{image_of_tree}
use Rattle.compile.specs.Compile.{compile_answer, table_of}
use Rattle.compile.proofs.Answers.{Compiled, compile_gives}
use Rattle.compile_flatten.specs.Layout.{IsCompiled}
use Rattle.compile_flatten.proofs.FlattenLaws.{tree_compiled}
use Rattle.compile_flatten.proofs.LayoutLaws.{compiled_is}
use Rattle.compile_flatten.proofs.OneLayoutLaws.{compiled_only}
use Rattle.compile_flatten.proofs.CheckedCompiled.{checked_compiled}
use Rattle.judge.specs.Judge.{judge_datum, judge_text, judge_answer, moved_answer}
use Rattle.rules_grammar.specs.ConstraintGrammar.{DerivesConstraint}
use Rattle.rules_grammar.specs.DataGrammar.{DerivesData}
use Rattle.rules_grammar.specs.Admits.{Admits}
use Rattle.rules_grammar.proofs.Constrained
use Rattle.rules_grammar.specs.FirstFailure.{FirstFailure}
use Rattle.rules_faults.specs.Faults.{Least}
use Rattle.rules_faults.specs.DataFaults
use Rattle.rules_grammar.proofs.Judged.{valid_admits, fails_first}
use Rattle.demands.specs.Demands.{meaning_of, Demand3, AfterMerges, Demand3Relations}
use Rattle.demands.proofs.JudgedTexts.{text_verdict, text_unread}

-- what is carried along: a table that passes the check, with the text's tree, moved by the sum, at record 1 + sum
pub record Carries (o : Object) (c : Carried) : Type 0 where
  pub passes : table_fault c.table ≡ None
  pub inside : 1 + c.sum < count (image_of c.table)
  pub tree : tree_at (image_of c.table) (1 + c.sum) ≡ of_object (moved_object o c.sum)

-- the start: the table of a text that compiling accepts
module _ (text : List ℕ) (o : Object) (end : ℕ) (e : constraint_of text ≡ got o end) where
  checked_start : Checked (image_of_tree o)
  checked_start = checked_compiled o (object_numbered o 1 (pre_order text o end e)) (tree_proper text o end e) (records_fit text o end e) (pool_fits text o end e)

  pub start_carries : (little : Bool) → Carries o (carried (table_of little o) 0)
  start_carries little =
      let b = image_back little (image_of_tree o) checked_start in
      let t = tree_compiled o (object_numbered o 1 (pre_order text o end e)) (tree_proper text o end e) in
      record {
        passes = check_complete little (image_of_tree o) checked_start;
        inside = rw b checked_start.some;
        tree = rw (b, moved_none o) t;
      }

-- a merge that is not refused carries the tree on
module _ (o : Object) (table other : List ℕ) (sum : ℕ) (h : Carries o (carried table sum)) (little : Bool)
    (m : MergeReport) (out : List ℕ) where
  first_carries : Joined (request table other little) m out → Carries o (carried (take m.length out) sum)
  first_carries j =
      let x = image_of table in
      let y = image_of other in
      let cx = check_sound table j.first_passes in
      let cy = check_sound other j.second_passes in
      let c = checked_merge x y cx cy j.records_fit j.pool_fits in
      let b = image_back little (merged x y) c in
      record {
        passes = rw j.written_is (check_complete little (merged x y) c);
        inside = rw (j.written_is, b) (omega (arith, count-merged x y, h.inside));
        tree = rw (j.written_is, b) (tree_kept x y cx (1 + sum) h.inside ∙ h.tree);
      }

  second_carries : Joined (request other table little) m out
      → Carries o (carried (take m.length out) (sum + m.shifts.records))
  second_carries j =
      let x = image_of other in
      let y = image_of table in
      let cx = check_sound other j.first_passes in
      let cy = check_sound table j.second_passes in
      let c = checked_merge x y cx cy j.records_fit j.pool_fits in
      let b = image_back little (merged x y) c in
      let k = length x.records in
      let f : 1 + (sum + k) ≡ k + (1 + sum) = omega arith in
      let g : sum + k ≡ k + sum = omega arith in
      record {
        passes = rw j.written_is (check_complete little (merged x y) c);
        inside = rw (j.written_is, j.shifts_are, b) (omega (arith, count-merged x y, h.inside));
        tree = rw (j.written_is, j.shifts_are, b, f, g) (tree_moved x y cx (1 + sum) (omega arith) ∙ ap (moved_tree k) h.tree ∙ ap of_object (moved_twice o k sum));
      }

-- one step, refused or not
step_carries : (o : Object) (s : MergeStep) (c : Carried) → Carries o c → Carries o (after_step s c)
unfolding after_step
step_carries o s c h = by s.carried_first _ refl
  where
    by : (b : Bool) (a : Outcome MergeRefusal MergeReport)
        → let m = merge_answer (cond b (request c.table s.other s.little) (request s.other c.table s.little)) s.out in
        m.answer ≡ a → Carries o (behind b c m.out a)
    by b (Outcomes.refused r) e = h
    by true (gave m) e = first_carries o c.table s.other c.sum h s.little m _ (merge_gives (request c.table s.other s.little) s.out m e)
    by false (gave m) e = second_carries o c.table s.other c.sum h s.little m _ (merge_gives (request s.other c.table s.little) s.out m e)

-- the whole list
list_carries : (o : Object) (steps : List MergeStep) (c : Carried) → Carries o c → Carries o (after_steps steps c)
list_carries o [] c h = h
list_carries o (s ∷ ss) c h = list_carries o ss (after_step s c) (step_carries o s c h)

-- judging by what is carried
datum_moved : (o : Object) (s : ℕ) → ProperObject o → (d : Reading Datum)
    → judge_datum (moved_object o s) d ≡ moved_answer s (judge_datum o d)
datum_moved o s h (Reading.refused r) = refl
datum_moved o s h (got d p) = ap gave (judge_moved o s h d)

judge_carried : (o : Object) (c : Carried) → ProperObject o → Carries o c → (form : List ℕ)
    → judge_answer c.table (1 + c.sum) form ≡ moved_answer c.sum (judge_text o form)
unfolding judge_answer
judge_carried o c p h form = rw (h.passes, h.tree) (datum_moved o c.sum p (datum_of level_limit form))

pub demand3 : Demand3
unfolding meaning_of
demand3 text little out size e steps form =
    let x = compile_gives text little out size e in
    let p = tree_proper text x.tree x.end x.is in
    let c = carried (table_of little x.tree) 0 in
    rw (x.written_is, x.is) (judge_carried x.tree (after_steps steps c) p (list_carries x.tree steps c (start_carries text x.tree x.end x.is little)) form)

-- the table of a text is the one that the rules lay out
pub compiled_table : (text : List ℕ) (tree : Object) (little : Bool) → DerivesConstraint text tree → (bs : List ℕ)
    → (bs ≡ table_of little tree) ↔ IsCompiled little tree bs
compiled_table text tree little d bs =
    let (end, e) = (Constrained.read_derives text tree).1 d in
    let k = compiled_is little tree (object_numbered tree 1 (pre_order text tree end e)) (tree_proper text tree end e) (records_fit text tree end e) (pool_fits text tree end e) in
    (λ h. subst (IsCompiled little tree) (sym h) k, λ h. compiled_only little tree bs h)

-- it says the text's tree
pub compiled_says : (text : List ℕ) (tree : Object) (little : Bool) → DerivesConstraint text tree
    → Says (table_of little tree) 1 tree
compiled_says text tree little d =
    let x = (Constrained.read_derives text tree).1 d in
    let h = start_carries text tree x.0 x.1 little in
    let t = h.tree in
    says_there (table_of little tree) 1 tree h.passes (rw (t, moved_none tree))

-- a verdict that is valid, with its record moved or not
valid_moved : (s : ℕ) (a : Outcome Refusal Verdict)
    → (moved_answer s a ≡ gave Verdicts.valid) ↔ (a ≡ gave Verdicts.valid)
valid_moved s (Outcomes.refused r) = (λ e. absurd (not_gave e), λ e. absurd (not_gave e))
valid_moved s (gave Verdicts.valid) = (λ e. refl, λ e. refl)
valid_moved s (gave (Verdicts.fails r n p)) = (λ e. absurd (fails_valid (same_given e)), λ e. absurd (fails_valid (same_given e)))
  where
    fails_valid : {a b c : ℕ} → Verdicts.fails a b c ≡ Verdicts.valid → ⊥
    fails_valid e = let n = ap failed e in omega arith
      where
        failed : Verdict → ℕ
        failed Verdicts.valid = 0
        failed (Verdicts.fails r n p) = 1

-- what two texts mean is valid exactly where the tree admits the datum
meaning_valid : (text : List ℕ) (tree : Object) (end : ℕ) (form : List ℕ) → constraint_of text ≡ got tree end
    → (meaning_of text form ≡ gave Verdicts.valid)
    ↔ ((tree : Object) × DerivesConstraint text tree × (b : Block) × DerivesData level_limit form b
    × Admits tree (spelled_block b form))
unfolding meaning_of
meaning_valid text tree end form e = (λ h. there (rw e at h), λ x. back x.0 x.1 x.2 x.3 x.4)
  where
    there : judge_text tree form ≡ gave Verdicts.valid
        → (tree : Object) × DerivesConstraint text tree × (b : Block) × DerivesData level_limit form b
        × Admits tree (spelled_block b form)
    there h = let (b, d, a) = (text_verdict tree form Verdicts.valid (λ d. Admits tree d) (λ d. valid_admits tree d)).0 h in (tree, (Constrained.read_derives text tree).0 (end, e), b, d, a)

    back : (o : Object) → DerivesConstraint text o → (b : Block) → DerivesData level_limit form b
        → Admits o (spelled_block b form)
        → after_reading (constraint_of text) (λ o. judge_text o form) ≡ gave Verdicts.valid
    back o c b d a = let x = (Constrained.read_derives text o).1 c in rw x.1 ((text_verdict o form Verdicts.valid (λ d. Admits o d) (λ d. valid_admits o d)).1 (b, d, a))

-- a refusal stays, whatever is moved
refused_moved : (s : ℕ) (a : Outcome Refusal Verdict) (r : Refusal) → moved_answer s a ≡ Outcomes.refused r
    → a ≡ Outcomes.refused r
refused_moved s (Outcomes.refused x) r e = e
refused_moved s (gave v) r e = absurd (not_gave (sym e))

-- what is carried behind the list, and what judging by it answers
module _ (text : List ℕ) (little : Bool) (out : List ℕ) (size : ℕ)
    (e : (compile_answer text little out).answer ≡ gave size) (steps : List MergeStep) where
  x : Compiled text little out size
  x = compile_gives text little out size e

  abbrev start : Carried
  start = carried (take size (compile_answer text little out).out) 0

  abbrev last : Carried
  last = after_steps steps start

  last_fits : 1 + last.sum < 2 ^ 32
  last_fits =
      let k = list_carries x.tree steps (carried (table_of little x.tree) 0) (start_carries text x.tree x.end x.is little) in
      let same : start ≡ carried (table_of little x.tree) 0 = ap (λ t. carried t 0) x.written_is in
      let l = (check_sound _ k.passes).few in
      let i = k.inside in
      rw same (omega arith)

  last_answer : (form : List ℕ)
      → judge_answer last.table (1 + last.sum) form ≡ moved_answer last.sum (meaning_of text form)
  last_answer form = demand3 text little out size e steps form

  last_valid : (form : List ℕ) → (judge_answer last.table (1 + last.sum) form ≡ gave Verdicts.valid)
      ↔ ((tree : Object) × DerivesConstraint text tree × (b : Block) × DerivesData level_limit form b
      × Admits tree (spelled_block b form))
  last_valid form =
      let v = valid_moved last.sum (meaning_of text form) in
      let m = meaning_valid text x.tree x.end form x.is in
      (λ h. m.0 (v.0 (sym (last_answer form) ∙ h)), λ z. last_answer form ∙ v.1 (m.1 z))

  last_fails : (form : List ℕ) (reason number place : ℕ) → (tree : Object) → DerivesConstraint text tree → (b : Block)
      → DerivesData level_limit form b
      → FirstFailure tree (spelled_block b form) reason number place
      → judge_answer last.table (1 + last.sum) form ≡ gave (Verdicts.fails reason (last.sum + number) place)
  unfolding meaning_of
  last_fails form reason number place tree c b d f =
      let y = (Constrained.read_derives text tree).1 c in
      let k = (text_verdict tree form (Verdicts.fails reason number place) (λ z. FirstFailure tree z reason number place) (λ z. fails_first tree z reason number place)).1 (b, d, f) in
      let m : meaning_of text form ≡ gave (Verdicts.fails reason number place) = rw y.1 k in
      last_answer form ∙ ap (moved_answer last.sum) m

  last_unread : (form : List ℕ) (r : Refusal) → judge_answer last.table (1 + last.sum) form ≡ Outcomes.refused r
      → Least r (DataFaults.faults level_limit form)
  unfolding meaning_of
  last_unread form r h =
      let k = refused_moved last.sum (meaning_of text form) r (sym (last_answer form) ∙ h) in
      text_unread x.tree form r (rw x.is at k)

  carried_on : AfterMerges text little out size steps
  carried_on = record { end = last; is = refl; root_fits = last_fits; valid = last_valid; fails = last_fails; unread = last_unread }

pub demand3_relations : Demand3Relations
demand3_relations = record { no_step = λ c. refl; further = λ s steps c. refl; step = step_is; after = carried_on }
