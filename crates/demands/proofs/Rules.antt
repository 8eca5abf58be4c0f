-- Demand 2: the answers of compiling and judging, from the rules as relations. Assumes nothing.
use mathlib.Core.Path.{◌≡◌, refl, sym, ap, ◌∙◌, subst}
use mathlib.Core.Logic.{◌↔◌, ◌⊎◌, inl, inr, ◌≢◌}
use mathlib.Core.Bool.{Bool, false}
use Rattle.std.specs.Prelude.{Option, None, Some}
use mathlib.Core.List.{List, [], ◌++◌}
use Prim.Native.Nat.{ℕ, ◌≤◌, ◌<◌}
use lib.Dec.{ltb}
use lib.ListN.{length, take, drop}
use native.Mathlib.Omega.{arith}
use borrow.Author.Tests.{lt-ltb, le-ltb}
use Rattle.refusals.specs.Limits.{text_limit, level_limit}
use Rattle.refusals.specs.Reading.{Reading, got}
use Rattle.refusals.specs.Outcomes
use Rattle.refusals.specs.Outcomes.{Outcome, gave, writes}
use Rattle.refusals.proofs.Outcomes.{same_refusal, refusal_is, too_short, Read, refused_or_read}
use Rattle.refusals.specs.declared.Refusal.{Refusal}
use Rattle.refusals.specs.Refusals.{refusal, number_of}
use Rattle.refusals.specs.declared.Cause.TheVariants.{TextTooLong, NotAnObject}
use Rattle.meaning.specs.Constraints.{Object}
use Rattle.meaning.specs.Data.{Datum}
use Rattle.meaning.specs.Verdicts.{Verdict}
use Rattle.meaning.specs.Verdicts
use Rattle.meaning.specs.Judging.{judge}
use Rattle.dadl.specs.Placed.{Block, spelled_block}
use Rattle.dadl.specs.Data.{block_of}
use Rattle.cadl_objects.specs.Texts.{constraint_text, constraint_of}
use Rattle.cadl_objects.proofs.TreeReading.{not_ten}
use Rattle.compile.specs.Compile.{compile_outcome, compile_answer, table_of, table_for}
use Rattle.compile.proofs.Answers.{compile_gives}
use Rattle.judge.specs.Judge.{judge_text, judge_answer}
use Rattle.rules_grammar.specs.ConstraintGrammar.{DerivesConstraint}
use Rattle.rules_grammar.specs.DataGrammar.{DerivesData}
use Rattle.rules_grammar.specs.Admits.{Admits}
use Rattle.rules_grammar.specs.FirstFailure.{FirstFailure}
use Rattle.rules_faults.specs.Faults.{Least, Alike}
use Rattle.rules_faults.specs.ConstraintFaults
use Rattle.rules_faults.specs.DataFaults
use Rattle.rules_grammar.proofs.Constrained
use Rattle.rules_grammar.proofs.Derived
use Rattle.rules_faults.proofs.Outcomes.{Lies}
use Rattle.rules_faults.proofs.Scanned
use Rattle.rules_faults.proofs.ConstraintScanned
use Rattle.lexis.proofs.TestLaws.{some_inj}
use Rattle.rules_grammar.proofs.Judged.{valid_admits, fails_first}
use Rattle.table.specs.Records.{image_of}
use Rattle.table.specs.Check.{table_fault}
use Rattle.table.specs.Trees.{object_at}
use Rattle.table.specs.TableRules.{NoTable}
use Rattle.table.specs.Names.{name_answer, slice_bytes}
use Rattle.table.specs.Says.{Says, NoObject, Named, NameRefuses}
use Rattle.table.proofs.TableRuleLaws
use Rattle.table.proofs.SaysLaws
use Rattle.table.proofs.NamedLaws
use Rattle.table_merge.proofs.MergeRuleLaws
use Rattle.table_merge.proofs.OneJoinedLaws
use Rattle.lexis.proofs.SeparatorLaws
use Rattle.lexis.proofs.TokenLaws
use Rattle.lexis.proofs.DataTokenLaws
use Rattle.values.proofs.WordLaws
use Rattle.values.proofs.DateWordLaws
use Rattle.values.proofs.TimeWordLaws
use Rattle.demands.specs.Demands.{Demand2, TooShort}
use Rattle.demands.proofs.JudgedTexts.{text_verdict, text_unread, text_long, text_least}
use Rattle.demands.proofs.Merges.{compiled_table, compiled_says}

module _ (text : List ℕ) (little : Bool) (out : List ℕ) where
  abbrev Accepted : ℕ → Type 0
  Accepted size = (tree : Object) × DerivesConstraint text tree × (size ≡ length (table_of little tree)) × (size ≤ length out)

  accepted_only : (size : ℕ) → (compile_answer text little out).answer ≡ gave size → Accepted size
  accepted_only size h =
      let x = compile_gives text little out size h in
      (x.tree, (Constrained.read_derives text x.tree).0 (x.end, x.is), x.size_is, omega (arith, x.size_is, x.room))

  accepted_all : (size : ℕ) → Accepted size → (compile_answer text little out).answer ≡ gave size
  unfolding compile_answer
  accepted_all size (tree, d, n, h) =
      let x = (Constrained.read_derives text tree).1 d in
      let b : ltb (length out) (length (table_of little tree)) ≡ false = le-ltb (length out) (length (table_of little tree)) (omega (arith, n, h)) in
      rw (x.1, b, sym n)

  written : (tree : Object) → DerivesConstraint text tree → length (table_of little tree) ≤ length out
      → (compile_answer text little out).out ≡ table_of little tree ++ drop (length (table_of little tree)) out
  unfolding compile_answer
  written tree d h =
      let x = (Constrained.read_derives text tree).1 d in
      rw (x.1, le-ltb (length out) (length (table_of little tree)) h)

  -- a refusal is the text's own, or the output is too short
  refused_by : (r : Refusal) → (compile_answer text little out).answer ≡ Outcomes.refused r
      → (constraint_of text ≡ Reading.refused r) ⊎ TooShort text little out r
  unfolding compile_answer
  refused_by r h = by (refused_or_read (constraint_of text) (table_for little (length text) (length out)) r (refusal_is (compile_outcome text little (length out)) out r h))
    where
      by : (constraint_of text ≡ Reading.refused r) ⊎ Read (constraint_of text)
          (table_for little (length text) (length out)) (Outcomes.refused r)
          → (constraint_of text ≡ Reading.refused r) ⊎ TooShort text little out r
      by (inl e) = inl e
      by (inr x) =
          let bs = table_of little x.value in
          let y = too_short refusal (length text) (length out) (writes bs (length bs)) r x.follows in
          inr (record { tree = x.value; derived = (Constrained.read_derives text x.value).0 (x.place, x.is); short = y.0; told = sym y.1 })

  pub refused_only : (r : Refusal) → (compile_answer text little out).answer ≡ Outcomes.refused r
      → Least r (ConstraintFaults.faults text) ⊎ TooShort text little out r
  refused_only r h = by (refused_by r h)
    where
      by : (constraint_of text ≡ Reading.refused r) ⊎ TooShort text little out r
          → Least r (ConstraintFaults.faults text) ⊎ TooShort text little out r
      by (inl e) = inl (ConstraintScanned.refused_least text r e)
      by (inr x) = inr x

  never_ten : (r : Refusal) → (compile_answer text little out).answer ≡ Outcomes.refused r → number_of r.cause ≢ 10
  unfolding number_of
  never_ten r h = by (refused_by r h)
    where
      by : (constraint_of text ≡ Reading.refused r) ⊎ TooShort text little out r → number_of r.cause ≢ 10
      by (inl e) = let k = not_ten text r e in omega arith
      by (inr x) = rw x.told (omega arith)

  least_refused : (x : Refusal) → Least x (ConstraintFaults.faults text)
      → (r : Refusal) × ((compile_answer text little out).answer ≡ Outcomes.refused r) × Alike x r
  unfolding compile_answer
  least_refused x l =
      let y = ConstraintScanned.least_refused text x l in
      (y.0, rw y.1, y.2)

  long_refused : text_limit < length text
      → (compile_answer text little out).answer ≡ Outcomes.refused (refusal TextTooLong text_limit)
  unfolding compile_answer constraint_of constraint_text
  long_refused h = rw (lt-ltb text_limit (length text) h)

  short_refused : (r : Refusal) → TooShort text little out r
      → (compile_answer text little out).answer ≡ Outcomes.refused r
  unfolding compile_answer
  short_refused r h =
      let x = (Constrained.read_derives text h.tree).1 h.derived in
      rw (x.1, lt-ltb (length out) (length (table_of little h.tree)) h.short, h.told)

-- what judging answers is what the data text gives under the object
module _ (table : List ℕ) (root : ℕ) (form : List ℕ) (o : Object) (h : Says table root o) where
  answer_is : judge_answer table root form ≡ judge_text o form
  unfolding judge_answer
  answer_is = rw (SaysLaws.table_checked h.table, SaysLaws.says_only table root o h)

  verdict_told_lem : (v : Verdict) (P : Datum → Type 0)
      → ((d : Datum) → (judge o d ≡ v) ↔ P d)
      → (judge_answer table root form ≡ gave v) ↔ ((b : Block) × DerivesData level_limit form b × P (spelled_block b form))
  verdict_told_lem v P f = let k = text_verdict o form v P f in (λ e. k.0 (sym answer_is ∙ e), λ x. answer_is ∙ k.1 x)

  pub unread_least : (r : Refusal) → judge_answer table root form ≡ Outcomes.refused r
      → Least r (DataFaults.faults level_limit form)
  unread_least r e = text_unread o form r (sym answer_is ∙ e)

  long_unread : text_limit < length form → judge_answer table root form ≡ Outcomes.refused (refusal TextTooLong text_limit)
  long_unread l = answer_is ∙ text_long o form l

  least_unread : (x : Refusal) → Least x (DataFaults.faults level_limit form)
      → (r : Refusal) × (judge_answer table root form ≡ Outcomes.refused r) × Alike x r
  least_unread x l = let (r, e, a) = text_least o form x l in (r, answer_is ∙ e, a)

pub fails_told : (table : List ℕ) (root : ℕ) (form : List ℕ) (o : Object) (reason number place : ℕ) → Says table root o
    → (judge_answer table root form ≡ gave (Verdicts.fails reason number place))
    ↔ ((b : Block) × DerivesData level_limit form b × FirstFailure o (spelled_block b form) reason number place)
fails_told table root form o r n p h = verdict_told_lem table root form o h (Verdicts.fails r n p) (λ d. FirstFailure o d r n p) (λ d. fails_first o d r n p)

-- what judging answers where there is no table, or no object of that number
no_table : (table : List ℕ) (root : ℕ) (form : List ℕ) (r : Refusal) → NoTable table r
    → judge_answer table root form ≡ Outcomes.refused r
unfolding judge_answer
no_table table root form r h = let e = (TableRuleLaws.no_table table r).1 h in rw e

module _ (table : List ℕ) (root : ℕ) (form : List ℕ) where
  object_missing : NoObject table root → judge_answer table root form ≡ Outcomes.refused (refusal NotAnObject root)
  unfolding judge_answer
  object_missing h = let e = (SaysLaws.no_object table root).1 h in rw (e.0, e.1)

  -- a data text is not refused with 14, nor is a table
  missing_object : judge_answer table root form ≡ Outcomes.refused (refusal NotAnObject root) → NoObject table root
  unfolding judge_answer number_of
  missing_object h = by (table_fault table) refl
    where
      under : table_fault table ≡ None → (o : Option Object) → object_at (image_of table) root ≡ o → NoObject table root
      under e None f = (SaysLaws.no_object table root).0 (e, f)
      under e (Some o) f =
          let l = unread_least table root form o (SaysLaws.says_there table root o e f) (refusal NotAnObject root) h in
          absurd (few (Scanned.fault_lies level_limit form (refusal NotAnObject root) l.one))
        where
          few : Lies form (refusal NotAnObject root) → ⊥
          few (inl (x, k)) = let n = ap (λ (y : Refusal). number_of y.cause) x in omega arith
          few (inr x) = let n = x.most in omega arith

      by : (x : Option Refusal) → table_fault table ≡ x → NoObject table root
      by None e = under e (object_at (image_of table) root) refl
      by (Some x) e =
          let k : x ≡ refusal NotAnObject root = same_refusal (rw e at h) in
          absurd (never ((TableRuleLaws.no_table table (refusal NotAnObject root)).0 (rw k at e)))
        where
          never : NoTable table (refusal NotAnObject root) → ⊥
          never = elim [ ]

-- the bytes of a name, and none with a refusal
named_bytes : (bs : List ℕ) (n start size : ℕ) → Named bs n start size
    → slice_bytes bs (name_answer bs n) ≡ take size (drop start bs)
named_bytes bs n start size h = let e = (NamedLaws.name_given_lem bs n start size).1 h in rw e

unnamed_bytes : (bs : List ℕ) (n : ℕ) (r : Refusal) → NameRefuses bs n r → slice_bytes bs (name_answer bs n) ≡ []
unnamed_bytes bs n r h = let e = (NamedLaws.name_refused bs n r).1 h in rw e

-- a tree is derived exactly where there is no fault
derived_faultless : (text : List ℕ)
    → ((tree : Object) × DerivesConstraint text tree) ↔ (ConstraintFaults.faults text ≡ [])
derived_faultless text = (λ x. let y = (Constrained.read_derives text x.0).1 x.1 in (ConstraintScanned.read_faultless text).0 (x.0, y.0, y.1), λ e. back ((ConstraintScanned.read_faultless text).1 e))
  where
    back : (o : Object) × (p : ℕ) × (constraint_of text ≡ got o p) → (tree : Object) × DerivesConstraint text tree
    back (o, p, e) = (o, (Constrained.read_derives text o).0 (p, e))

derived_readable : (form : List ℕ)
    → ((b : Block) × DerivesData level_limit form b) ↔ (DataFaults.faults level_limit form ≡ [])
derived_readable form = (λ x. (Scanned.read_faultless level_limit form).0 (x.0, length form, (Derived.read_derives level_limit form x.0).1 x.1), λ e. back ((Scanned.read_faultless level_limit form).1 e))
  where
    back : (b : Block) × (p : ℕ) × (block_of level_limit form ≡ got b p) → (b : Block) × DerivesData level_limit form b
    back (b, p, e) = (b, (Derived.read_derives level_limit form b).0 (subst (λ (q : ℕ). block_of level_limit form ≡ got b q) (Derived.read_whole level_limit form b p e) e))

pub demand2 : Demand2
demand2 = record {
  separated = SeparatorLaws.separated;
  tokens = TokenLaws.token_is;
  data_tokens = DataTokenLaws.data_token_is;
  type_tokens = DataTokenLaws.type_token_is;
  booleans = WordLaws.boolean_word;
  integers = WordLaws.integer-word;
  dates = DateWordLaws.date-word;
  zones = TimeWordLaws.zone-word;
  times = TimeWordLaws.time_word;
  words = WordLaws.good-word;
  accepted = λ text little out size. (accepted_only text little out size, accepted_all text little out size);
  one_tree = Constrained.one_tree;
  written = λ text tree little out. written text little out tree;
  compiled = compiled_table;
  compiled_says = compiled_says;
  faultless = derived_faultless;
  refused = refused_only;
  least_refused = least_refused;
  long_refused = long_refused;
  short_refused = short_refused;
  never_ten = never_ten;
  passes = TableRuleLaws.passes;
  broken = TableRuleLaws.no_table;
  object_there = SaysLaws.object_there;
  one_object_lem = λ bs n a b h k. some_inj (sym (SaysLaws.says_only bs n a h) ∙ SaysLaws.says_only bs n b k);
  named = NamedLaws.name_given_lem;
  name_refused = NamedLaws.name_refused;
  named_bytes = named_bytes;
  unnamed_bytes = unnamed_bytes;
  merged = MergeRuleLaws.merge_done;
  merge_written = MergeRuleLaws.merge_written;
  one_joined = OneJoinedLaws.one_joined;
  merge_refused = MergeRuleLaws.merge_refused;
  valid = λ table root form o h. verdict_told_lem table root form o h Verdicts.valid (λ d. Admits o d) (λ d. valid_admits o d);
  fails = fails_told;
  one_datum = Derived.one_tree level_limit;
  readable = derived_readable;
  unread = λ table root form o r h. unread_least table root form o h r;
  least_unread = λ table root form o x h. least_unread table root form o h x;
  long_unread = long_unread;
  no_table = no_table;
  no_object = λ table root form. (missing_object table root form, object_missing table root form);
}
