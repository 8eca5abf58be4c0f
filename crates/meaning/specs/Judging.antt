-- The meaning: judging a datum by an object. Document 01, 'Meaning': "An object admits a block whose type, if written, is its own and whose members satisfy each
-- attribute"; "Judging walks type first, then attributes in table order, each finished before the next; the first failure is told"; 'Numbers of refusal', 20 to
-- 24. Assumes nothing.
use Rattle.std.specs.Prelude.{Bool, true, cond, List, ℕ, eqb}
use Rattle.std.specs.Prelude.{Option, None, Some}
use Rattle.lexis.specs.Runs.{same}
use Rattle.meaning.specs.Constraints.{ObjectHead, Object, object, AttributeHead, Attributes, attribute, Value, any, nested, leaf, Leaf, prohibited, required}
use Rattle.meaning.specs.Constraints
use Rattle.meaning.specs.Data.{Datum, datum, Members, member, Content, string, word, block}
use Rattle.meaning.specs.Data
use Rattle.meaning.specs.Verdicts.{Verdict, valid, fails}
use Rattle.meaning.specs.Findings.{Finding, unsuited, refuted, admitted}
use Rattle.meaning.specs.Admission.{word_under, string_under, leaf_number}

-- one verdict after another: the first failure is told
abbrev pub then_judge : Verdict → Verdict → Verdict
then_judge valid v = v
then_judge (fails r n p) v = fails r n p

-- the place of a content's `<`
abbrev pub place_of : Content → ℕ
place_of (string p w) = p
place_of (word p w) = p
place_of (block (datum p t ms)) = p

-- the member of that name, all of its bytes
unfoldable pub member_of : List ℕ → Members → Option Content
member_of w Data.no_more = None
member_of w (member n c more) = let rest = member_of w more in cond (same w n) (Some c) rest

-- the type, if written, is the object's own
abbrev pub type_suits : List ℕ → Option (List ℕ) → Bool
type_suits t None = true
type_suits t (Some u) = same t u

abbrev pub verdict_of : ℕ → ℕ → Finding → Verdict
verdict_of number place unsuited = fails 20 number place
verdict_of number place refuted = fails 24 number place
verdict_of number place admitted = valid

-- a leaf's content under a leaf; a block there is 20
abbrev pub judge_leaf : Leaf → Content → Verdict
judge_leaf l (string p w) = verdict_of (leaf_number l) p (string_under l w)
judge_leaf l (word p w) = verdict_of (leaf_number l) p (word_under l w)
judge_leaf l (block (datum p t ms)) = fails 20 (leaf_number l) p

-- an attribute's member, missing or present, given how its value judges
abbrev pub judge_member : AttributeHead → (place : ℕ) → Option Content → (Content → Verdict) → Verdict
judge_member h place None value = cond (eqb h.existence required) (fails 22 h.number place) valid
judge_member h place (Some c) value = cond (eqb h.existence prohibited) (fails 23 h.number (place_of c)) (value c)

-- a block under an object, given how the object's attributes judge
abbrev pub judge_block : ObjectHead → (ℕ → Members → Verdict) → Datum → Verdict
judge_block h attributes (datum p t ms) = cond (type_suits h.type t) (attributes p ms) (fails 21 h.number p)

-- a member's content under an object, given how the object judges a block; a leaf there is 20
abbrev pub judge_content : (number : ℕ) → (Datum → Verdict) → Content → Verdict
judge_content number inside (string p w) = fails 20 number p
judge_content number inside (word p w) = fails 20 number p
judge_content number inside (block d) = inside d

abbrev pub object_number : Object → ℕ
object_number (object h xs) = h.number

unfoldable mutual
  -- a datum by an object
  pub judge : Object → Datum → Verdict
  judge (object h xs) d = judge_block h (λ p ms. judge_attributes xs p ms) d

  -- the members of a block, whose `<` stands at a place, by attributes
  pub judge_attributes : Attributes → ℕ → Members → Verdict
  judge_attributes Constraints.no_more place ms = valid
  judge_attributes (attribute h v more) place ms =
      then_judge (judge_member h place (member_of h.name ms) (λ x. judge_value v x)) (judge_attributes more place ms)

  -- a member's content by an attribute's value
  pub judge_value : Value → Content → Verdict
  judge_value any c = valid
  judge_value (nested o) c = judge_content (object_number o) (λ d. judge o d) c
  judge_value (leaf l) c = judge_leaf l c
