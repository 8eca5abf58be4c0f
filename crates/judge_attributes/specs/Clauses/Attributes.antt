-- What an attribute tells of a block: a verdict, or a block inside it that is still to be judged. Assumes nothing.
use Rattle.std.specs.Prelude.{◌≡◌, true, List, ◌∷◌, ℕ, ◌<◌, length}
use Rattle.std.specs.Prelude.{Option, None, Some}
use Rattle.std.specs.declared.result.Result.{Result}
use Rattle.std.specs.declared.result.Result.TheVariants.{Ok, Err}
use Rattle.lexis.specs.Bytes.{among}
use Rattle.meaning.specs.Constraints.{Attributes, attribute}
use Rattle.meaning.specs.Constraints
use Rattle.meaning.specs.Data.{Members}
use Rattle.meaning.specs.Data
use Rattle.meaning.specs.Verdicts.{valid}
use Rattle.meaning.specs.Verdicts
use Rattle.meaning.specs.Judging.{member_of, judge_member, judge_value}
use Rattle.table.specs.Records.{Image, record_in}
use Rattle.table.specs.Check.{kind_at}
use Rattle.table.specs.Rows.{object_kind, items}
use Rattle.table.specs.Trees.{attributes_in, value_in, tree_at}
use Rattle.table.specs.Clauses.Answers.{record_of}
use Rattle.table.specs.declared.records.Entry.{Entry}
use Rattle.judge_admission.specs.Clauses.Items.{image_from}
use Rattle.judge_tape.specs.Clauses.Rows.{content_on, members_on, datum_on, BlockGood, OfRow, MembersWithin, ContentWithin, DatumWithin}
use Rattle.judge_attributes.specs.Clauses.Answers.{failed}
use Rattle.judge_tape.specs.declared.members.Block.{Block}
use Rattle.judge_attributes.specs.declared.Failure.{Failure}
use Rattle.judge_attributes.specs.declared.Nested.{Nested}

-- the first of attributes alone
abbrev pub judge_first : Attributes → ℕ → Members → Verdicts.Verdict
judge_first Constraints.no_more place ms = valid
judge_first (attribute h v more) place ms = judge_member h place (member_of h.name ms) (λ x. judge_value v x)

-- the link of an attribute to its value: 0, or an object or a first item
pub record ValueLink (m : Image) (value : ℕ) : Type 0 where
  pub kind : 0 < value → among (kind_at m value) (object_kind ∷ items) ≡ true

-- an entry is that of the attribute with a number
pub record AttributeAt (records pool : List ℕ) (n : ℕ) (e : Entry) : Type 0 where
  pub kind : kind_at (image_from records pool) n ≡ 2
  pub is : record_of e ≡ record_in records n

module _ (m : Image) (s : List ℕ) (rows : ℕ) (tape : List ℕ) where
  -- a block by the object with a number
  abbrev pub block_under : ℕ → Block → Verdicts.Verdict
  block_under n b = judge_value (value_in (tree_at m n)) (Data.block (datum_on s rows tape b))

  -- the verdict that a step tells, or that of the block that it leads into
  abbrev pub nested_verdict : Option Nested → Verdicts.Verdict
  nested_verdict None = valid
  nested_verdict (Some x) = block_under x.object.0 x.block

  abbrev pub step_verdict : Result (Option Nested) Failure → Verdicts.Verdict
  step_verdict (Ok x) = nested_verdict x
  step_verdict (Err f) = failed f

  -- a block that a step leads into is under an object, is a row's and can be walked, and is no deeper than what holds it
  abbrev pub LeadsInto : (ℕ → Type 0) → Option Nested → Type 0
  LeadsInto Deep None = Unit {0}
  LeadsInto Deep (Some x) =
      (kind_at m x.object.0 ≡ 1) × BlockGood (length s) rows x.block × OfRow rows tape x.block
      × ((levels : ℕ) → Deep levels → DatumWithin (datum_on s rows tape x.block) levels)

  abbrev pub Leads : (ℕ → Type 0) → Result (Option Nested) Failure → Type 0
  Leads Deep (Ok x) = LeadsInto Deep x
  Leads Deep (Err f) = Unit {0}

  -- the value of a member, which has a row, by the object or the items with a number
  pub record ValueIs (value row : ℕ) (r : Result (Option Nested) Failure) : Type 0 where
    pub is : step_verdict r ≡ judge_value (value_in (tree_at m value)) (content_on s rows tape row)
    pub leads : Leads (λ levels. ContentWithin (content_on s rows tape row) levels) r

  -- the members of a block by the attribute with a number
  pub record AttributeAnswerIs (n : ℕ) (b : Block) (r : Result (Option Nested) Failure) : Type 0 where
    pub is : step_verdict r ≡ judge_first (attributes_in (tree_at m n)) b.place (members_on s rows tape b)
    pub leads : Leads (λ levels. MembersWithin (members_on s rows tape b) levels) r
