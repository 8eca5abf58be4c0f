-- The three demands, as statements over the definitions of the layers below. Their proofs are in proofs/. Each job has one definition of its answer, and the contracts of the code are equations with
-- it, for every input:
--
-- | job | function of gateway | definition | function for C |
-- |---|---|---|---|
-- | compile | compile | compile_answer | dk_compile |
-- | check | check | table_fault | dk_check |
-- | merge | merge | merge_answer | dk_merge |
-- | judge | judge | judge_answer | dk_judge |
-- | name | name, name_refusal | name_answer | dk_name |
--
-- `tests/contracts check` sees that these functions promise these definitions. The rules are document 01's, as relations of the layers that they speak of; no relation is defined by the
-- definition that it is proved one with, which `tests/contracts check` sees to as well. Assumes nothing.
use Rattle.std.specs.Prelude.{◌≡◌, ◌↔◌, ◌⊎◌, ◌≢◌, Bool, true, List, [], ◌∷◌, ◌++◌, ℕ, ◌+◌, ◌^◌, ◌≤◌, ◌<◌, length, take, drop}
use Rattle.std.specs.Prelude.{None, Some}
use Rattle.lexis.specs.Blanks.{token_start}
use Rattle.lexis.specs.Tokens.{token_at}
use Rattle.lexis.specs.DataTokens.{data_token_at, type_token_at}
use Rattle.lexis.specs.declared.Token.{Token}
use Rattle.values.specs.Integers.{integer_of}
use Rattle.values.specs.Dates.{date_of}
use Rattle.values.specs.declared.dates.Date.{Date}
use Rattle.values.specs.Times.{zone, time_of}
use Rattle.values.specs.Words.{boolean_of, good}
use Rattle.refusals.specs.Limits.{text_limit, level_limit}
use Rattle.refusals.specs.Outcomes
use Rattle.refusals.specs.Outcomes.{Outcome, gave, after_reading}
use Rattle.refusals.specs.declared.Refusal.{Refusal}
use Rattle.refusals.specs.Refusals.{number_of, refusal}
use Rattle.refusals.specs.Numbers.{PlaceSort, NumberRow}
use Rattle.refusals.specs.declared.Cause.{Cause}
use Rattle.refusals.specs.declared.Cause.TheVariants.{TextTooLong, OutputTooShort, NotAnObject}
use Rattle.meaning.specs.Constraints.{Object}
use Rattle.meaning.specs.Verdicts
use Rattle.meaning.specs.Verdicts.{Verdict}
use Rattle.dadl.specs.Placed.{Block, spelled_block}
use Rattle.table.specs.Check.{table_fault}
use Rattle.table.specs.Names.{name_answer, slice_bytes}
use Rattle.table.specs.TableRules.{IsTable, NoTable, KindAt}
use Rattle.table.specs.Says.{Says, NoObject, Named, NameRefuses}
use Rattle.cadl_objects.specs.Texts.{constraint_of}
use Rattle.table_merge.specs.Merge.{MergeRequest, MergeReport, MergeRefusal, merge_answer}
use Rattle.table_merge.specs.MergeRules.{Sizes, BothTables, IsMerged, Merges, MergeRefuses, StepIs}
use Rattle.table_merge.specs.Lists.{MergeStep, Carried, carried, after_step, after_steps}
use Rattle.compile_flatten.specs.Layout.{IsCompiled}
use Rattle.compile.specs.Compile.{compile_answer, table_of}
use Rattle.judge.specs.Judge.{judge_text, judge_answer, moved_answer}
use Rattle.lexis.specs.LongestMatch.{Separates, NextIs, NextDataIs, Classed, ClassedBehind}
use Rattle.values.specs.WordRules.{IsBoolean, IsInteger, IsDate, IsZone, IsTime, IsGood}
use Rattle.rules_grammar.specs.ConstraintGrammar.{DerivesConstraint}
use Rattle.rules_grammar.specs.DataGrammar.{DerivesData}
use Rattle.rules_grammar.specs.Admits.{Admits}
use Rattle.rules_grammar.specs.FirstFailure.{FirstFailure}
use Rattle.rules_faults.specs.Faults.{Least, Alike}
use Rattle.rules_faults.specs.ConstraintFaults
use Rattle.rules_faults.specs.DataFaults
use Rattle.demands.specs.Told.{Told, InText, DataTold, AtEnd, InTable, AsAsked, MergeTold, FailureTold}

-- what two texts alone mean: no table is made on the way. (A constraint text that is refused has no meaning; its refusal stands in, and demand 3 never asks for it.)
unfoldable pub meaning_of : List ℕ → List ℕ → Outcome Refusal Verdict
meaning_of text form = after_reading (constraint_of text) (λ tree. judge_text tree form)

-- Demand 1: any bytes may be given, each refusal is named by document 01's number with its place, and after a refusal the output buffer holds what it held before. That every job answers, for any
-- bytes, is that none has a `requires`.
pub record Demand1 : Type 0 where
  -- 'Numbers of refusal': each cause has a row, and what a job tells is a row with its number and a place of the sort that the row names
  pub numbered : (c : Cause) → (p : PlaceSort) × NumberRow c (number_of c) p
  pub compile_told_lem : (text : List ℕ) (little : Bool) (out : List ℕ) (r : Refusal)
      → (compile_answer text little out).answer ≡ Outcomes.refused r → Told (InText text) r ⊎ Told (AtEnd text) r
  pub check_told_lem : (table : List ℕ) (r : Refusal) → table_fault table ≡ Some r → Told (InTable table) r
  pub merge_told_lem : (q : MergeRequest) (out : List ℕ) (r : MergeRefusal) → (merge_answer q out).answer ≡ Outcomes.refused r
      → MergeTold q r
  pub judge_told_lem : (table : List ℕ) (root : ℕ) (form : List ℕ) (r : Refusal)
      → judge_answer table root form ≡ Outcomes.refused r
      → Told (InTable table) r ⊎ Told (AsAsked root) r ⊎ DataTold form r
  pub failure_told : (table : List ℕ) (root : ℕ) (form : List ℕ) (reason number place : ℕ)
      → judge_answer table root form ≡ gave (Verdicts.fails reason number place)
      → FailureTold table form reason number place
  pub name_told_lem : (table : List ℕ) (n : ℕ) (r : Refusal) → name_answer table n ≡ Outcomes.refused r
      → Told (InTable table) r ⊎ Told (AsAsked n) r
  -- "On refusal no byte of output changes"
  pub compile_keeps : (text : List ℕ) (little : Bool) (out : List ℕ) (r : Refusal)
      → (compile_answer text little out).answer ≡ Outcomes.refused r → (compile_answer text little out).out ≡ out
  pub merge_keeps : (q : MergeRequest) (out : List ℕ) (r : MergeRefusal)
      → (merge_answer q out).answer ≡ Outcomes.refused r
      → (merge_answer q out).out ≡ out

-- a text without fault whose table the output has no room for: 11, at the text's end
pub record TooShort (text : List ℕ) (little : Bool) (out : List ℕ) (r : Refusal) : Type 0 where
  pub tree : Object
  pub derived : DerivesConstraint text tree
  pub short : length out < length (table_of little tree)
  pub told : r ≡ refusal OutputTooShort (length text)

-- Demand 2: a constraint text is accepted exactly when the rules accept it, a datum is valid exactly when they admit it, and each refusal, with its place, is given when its rule says so and at
-- no other time. Which texts are accepted, what is a table, what is merged and which words are good is said by relations of their own; which faults a refused text has is what parsing it finds
-- (crates/rules_faults/specs), held by the grammar: it has none exactly where the grammar derives it.
pub record Demand2 : Type 0 where
  -- 'Constraint text': "Tokens by longest match; space, tab, CR, LF and `--` with any bytes up to the next CR or LF separate"; 'Data text': "same blanks and comments", "the longest run"
  pub separated : (s : List ℕ) (from at : ℕ) → (token_start s from ≡ at) ↔ Separates s from at
  pub tokens : (s : List ℕ) (from : ℕ) (t : Token) → (token_at s from ≡ t) ↔ NextIs s from t
  pub data_tokens : (s : List ℕ) (from : ℕ) (t : Token) → (data_token_at s from ≡ t) ↔ NextDataIs Classed s from t
  pub type_tokens : (s : List ℕ) (from : ℕ) (t : Token) → (type_token_at s from ≡ t) ↔ NextDataIs ClassedBehind s from t
  -- 'Data text': "it is good if it reads as at least one of: True or False; an integer; a date ..; a time .. with optional zone"
  pub booleans : (w : List ℕ) (b : ℕ) → (boolean_of w ≡ Some b) ↔ IsBoolean w b
  pub integers : (w : List ℕ) (v : ℕ) → (integer_of w ≡ Some v) ↔ IsInteger w v
  pub dates : (w : List ℕ) (d : Date) → (date_of w ≡ Some d) ↔ IsDate w d
  pub zones : (w : List ℕ) → (zone w ≡ true) ↔ IsZone w
  pub times : (w : List ℕ) (parts : ℕ) → (time_of w ≡ Some parts) ↔ IsTime w parts
  pub words : (w : List ℕ) → (good w ≡ true) ↔ IsGood w
  -- 'Constraint text': "object: TYPE, optional [code], `matches {`, then `*` or one or more attributes, `}`. The text is one object". Accepted exactly where the productions derive a tree whose
  -- table the output has room for; they derive at most one.
  pub accepted : (text : List ℕ) (little : Bool) (out : List ℕ) (size : ℕ)
      → ((compile_answer text little out).answer ≡ gave size)
      ↔ ((tree : Object) × DerivesConstraint text tree × (size ≡ length (table_of little tree)) × (size ≤ length out))
  pub one_tree : (text : List ℕ) (a b : Object) → DerivesConstraint text a → DerivesConstraint text b → a ≡ b
  -- 'Table': "Compiling numbers records and fills the pool in text order"; 'Numbers of refusal': "on success only bytes past the table's end stay". What is written is the
  -- table of the tree, laid out by the rules; it says the tree.
  pub written : (text : List ℕ) (tree : Object) (little : Bool) (out : List ℕ)
      → DerivesConstraint text tree → length (table_of little tree) ≤ length out
      → (compile_answer text little out).out ≡ table_of little tree ++ drop (length (table_of little tree)) out
  pub compiled : (text : List ℕ) (tree : Object) (little : Bool) → DerivesConstraint text tree
      → (bs : List ℕ) → (bs ≡ table_of little tree) ↔ IsCompiled little tree bs
  pub compiled_says : (text : List ℕ) (tree : Object) (little : Bool) → DerivesConstraint text tree
      → Says (table_of little tree) 1 tree
  -- 'Numbers of refusal': "In one text the smallest place wins, then the smallest number; 1 comes before all, 11 after all". A tree is derived exactly where the text has no fault. A refusal is the
  -- least of its faults or, where it has none, 11 at its end; and the least fault is told.
  pub faultless : (text : List ℕ)
      → ((tree : Object) × DerivesConstraint text tree) ↔ (ConstraintFaults.faults text ≡ [])
  pub refused : (text : List ℕ) (little : Bool) (out : List ℕ) (r : Refusal)
      → (compile_answer text little out).answer ≡ Outcomes.refused r
      → Least r (ConstraintFaults.faults text) ⊎ TooShort text little out r
  pub least_refused : (text : List ℕ) (little : Bool) (out : List ℕ) (x : Refusal)
      → Least x (ConstraintFaults.faults text)
      → (r : Refusal) × ((compile_answer text little out).answer ≡ Outcomes.refused r) × Alike x r
  pub long_refused : (text : List ℕ) (little : Bool) (out : List ℕ) → text_limit < length text
      → (compile_answer text little out).answer ≡ Outcomes.refused (refusal TextTooLong text_limit)
  pub short_refused : (text : List ℕ) (little : Bool) (out : List ℕ) (r : Refusal) → TooShort text little out r
      → (compile_answer text little out).answer ≡ Outcomes.refused r
  -- Compiling never answers 10, "pool above 16,384". That no text needs it is `pool_fits` in crates/cadl_objects/proofs/TreeReading.antt: each byte of the pool is a byte of its own of the text.
  pub never_ten : (text : List ℕ) (little : Bool) (out : List ℕ) (r : Refusal)
      → (compile_answer text little out).answer ≡ Outcomes.refused r → number_of r.cause ≢ 10
  -- 'Table', and 12 and 13 of 'Numbers of refusal': the check passes exactly where the bytes are a table, and tells why they are none
  pub passes : (bs : List ℕ)
      → (table_fault bs ≡ None) ↔ ((count : ℕ) × (pool : ℕ) × (root : ℕ) × IsTable bs count pool root)
  pub broken : (bs : List ℕ) (r : Refusal) → (table_fault bs ≡ Some r) ↔ NoTable bs r
  -- An object of a table is there exactly where the record asked has the kind 1, and says one tree.
  pub object_there : (bs : List ℕ) (n count pool root : ℕ) → IsTable bs count pool root → n < count → KindAt bs n 1
      → (o : Object) × Says bs n o
  pub one_object_lem : (bs : List ℕ) (n : ℕ) (a b : Object) → Says bs n a → Says bs n b → a ≡ b
  -- "Name: table, 14": "the part of the pool itself", by its start and its length; "with a refusal, an empty part"
  pub named : (bs : List ℕ) (n start size : ℕ)
      → (name_answer bs n ≡ gave (record { start = start; length = size })) ↔ Named bs n start size
  pub name_refused : (bs : List ℕ) (n : ℕ) (r : Refusal) → (name_answer bs n ≡ Outcomes.refused r) ↔ NameRefuses bs n r
  pub named_bytes : (bs : List ℕ) (n start size : ℕ) → Named bs n start size
      → slice_bytes bs (name_answer bs n) ≡ take size (drop start bs)
  pub unnamed_bytes : (bs : List ℕ) (n : ℕ) (r : Refusal) → NameRefuses bs n r → slice_bytes bs (name_answer bs n) ≡ []
  -- "Merging writes all in the order asked .. Both shifts are reported"; "Merge: first table, second, 8, 10, 11, naming the table for 12 and 13"
  pub merged : (q : MergeRequest) (out : List ℕ) (m : MergeReport)
      → ((merge_answer q out).answer ≡ gave m) ↔ ((z : Sizes) × Merges q (length out) z m)
  pub merge_written : (q : MergeRequest) (out : List ℕ) (z : Sizes) (m : MergeReport) → Merges q (length out) z m
      → (joined : List ℕ) × IsMerged q.first q.second q.little z joined
      × ((merge_answer q out).out ≡ joined ++ drop (length joined) out)
  pub one_joined : (first second : List ℕ) (little : Bool) (z : Sizes) (a b : List ℕ) → BothTables first second z
      → IsMerged first second little z a → IsMerged first second little z b → a ≡ b
  pub merge_refused : (q : MergeRequest) (out : List ℕ) (r : MergeRefusal)
      → ((merge_answer q out).answer ≡ Outcomes.refused r) ↔ MergeRefuses q (length out) r
  -- 'Meaning': "An object admits a block whose type, if written, is its own and whose members satisfy each attribute". Under an object of a table a data text is valid exactly where the productions
  -- of 'Data text' derive a datum that the object admits.
  pub valid : (table : List ℕ) (root : ℕ) (form : List ℕ) (o : Object)
      → Says table root o
      → (judge_answer table root form ≡ gave Verdicts.valid)
      ↔ ((b : Block) × DerivesData level_limit form b × Admits o (spelled_block b form))
  -- "Judging walks type first, then attributes in table order, each finished before the next; the first failure is told".
  pub fails : (table : List ℕ) (root : ℕ) (form : List ℕ) (o : Object) (reason number place : ℕ)
      → Says table root o
      → (judge_answer table root form ≡ gave (Verdicts.fails reason number place))
      ↔ ((b : Block) × DerivesData level_limit form b × FirstFailure o (spelled_block b form) reason number place)
  pub one_datum : (form : List ℕ) (a b : Block) → DerivesData level_limit form a → DerivesData level_limit form b → a ≡ b
  -- "Judge: table, 14, then the whole data text (1 to 5, 9), then 20 to 24". A refusal of the data text is the least of its faults, and the least fault is told.
  pub readable : (form : List ℕ)
      → ((b : Block) × DerivesData level_limit form b) ↔ (DataFaults.faults level_limit form ≡ [])
  pub unread : (table : List ℕ) (root : ℕ) (form : List ℕ) (o : Object) (r : Refusal) → Says table root o
      → judge_answer table root form ≡ Outcomes.refused r → Least r (DataFaults.faults level_limit form)
  pub least_unread : (table : List ℕ) (root : ℕ) (form : List ℕ) (o : Object) (x : Refusal)
      → Says table root o → Least x (DataFaults.faults level_limit form)
      → (r : Refusal) × (judge_answer table root form ≡ Outcomes.refused r) × Alike x r
  pub long_unread : (table : List ℕ) (root : ℕ) (form : List ℕ) (o : Object) → Says table root o
      → text_limit < length form
      → judge_answer table root form ≡ Outcomes.refused (refusal TextTooLong text_limit)
  pub no_table : (table : List ℕ) (root : ℕ) (form : List ℕ) (r : Refusal) → NoTable table r
      → judge_answer table root form ≡ Outcomes.refused r
  pub no_object : (table : List ℕ) (root : ℕ) (form : List ℕ)
      → (judge_answer table root form ≡ Outcomes.refused (refusal NotAnObject root)) ↔ NoObject table root

-- Demand 3: take any text that compiling accepts, into either order, then any list of merges, refused ones included. Judging any data by the carried table, lent alone, at record
-- 1 + the sum gives what the two texts alone mean, with the record moved by the sum.
abbrev pub Demand3 : Type 0
Demand3 =
    (text : List ℕ) (little : Bool) (out : List ℕ) (size : ℕ)
    → (compile_answer text little out).answer ≡ gave size
    → (steps : List MergeStep) (form : List ℕ)
    → let c = after_steps steps (carried (take size (compile_answer text little out).out) 0) in
    judge_answer c.table (1 + c.sum) form ≡ moved_answer c.sum (meaning_of text form)

-- Beside demand 3, of the same list: 1 + the sum is a number of 32 bits, as judging takes it; and, by the relations alone, what judging answers. The data is valid exactly where the grammar derives a
-- tree from the constraint text and a datum from the data text, and the tree admits the datum; a failure is the first one, with the record moved by the sum; a refusal is the data text's.
pub record AfterMerges (text : List ℕ) (little : Bool) (out : List ℕ) (size : ℕ) (steps : List MergeStep) : Type 0 where
  pub end : Carried
  pub is : end ≡ after_steps steps (carried (take size (compile_answer text little out).out) 0)
  pub root_fits : 1 + end.sum < 2 ^ 32
  pub valid : (form : List ℕ) → (judge_answer end.table (1 + end.sum) form ≡ gave Verdicts.valid)
      ↔ ((tree : Object) × DerivesConstraint text tree × (b : Block) × DerivesData level_limit form b
      × Admits tree (spelled_block b form))
  pub fails : (form : List ℕ) (reason number place : ℕ) → (tree : Object) → DerivesConstraint text tree → (b : Block)
      → DerivesData level_limit form b
      → FirstFailure tree (spelled_block b form) reason number place
      → judge_answer end.table (1 + end.sum) form ≡ gave (Verdicts.fails reason (end.sum + number) place)
  pub unread : (form : List ℕ) (r : Refusal) → judge_answer end.table (1 + end.sum) form ≡ Outcomes.refused r
      → Least r (DataFaults.faults level_limit form)

-- the list's steps: nothing is carried on but by the rules of merging
pub record Demand3Relations : Type 0 where
  pub no_step : (c : Carried) → after_steps [] c ≡ c
  pub further : (s : MergeStep) (steps : List MergeStep) (c : Carried)
      → after_steps (s ∷ steps) c ≡ after_steps steps (after_step s c)
  pub step : (s : MergeStep) (c : Carried) → StepIs s c (after_step s c)
  pub after : (text : List ℕ) (little : Bool) (out : List ℕ) (size : ℕ)
      → (compile_answer text little out).answer ≡ gave size
      → (steps : List MergeStep) → AfterMerges text little out size steps
