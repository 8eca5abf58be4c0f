-- Examples of judging: a datum by an object, with the verdict expected. The cases stand in JudgeTable and MadeTable. Assumes nothing.
use mathlib.Core.Path.{◌≡◌, refl}
use mathlib.Core.Bool.{Bool, true, false, ◌&&◌}
use Rattle.std.specs.Prelude.{None}
use mathlib.Core.List.{[], ◌∷◌}
use lib.Dec.{eqb}
use Rattle.lexis.specs.Text.{bytes}
use Rattle.meaning.specs.Constraints.{Leaf, Object, leaf, prohibited, optional, required}
use Rattle.meaning.specs.Constraints
use Rattle.meaning.specs.Data.{Datum, datum, member, Content}
use Rattle.meaning.specs.Data
use Rattle.meaning.specs.Verdicts.{Verdict, valid, fails}
use Rattle.meaning.specs.Admission.{first_range, first_text}
use Rattle.meaning.specs.Judging.{judge}
use Rattle.meaning.proofs.Trees.{object_with, attribute_with}

pub data Case : Type 0 where
  judges : Object → Datum → Verdict → Case
  -- a leaf in the smallest constraint, and what is given for it in the smallest data
  under : Leaf → Content → Verdict → Case

abbrev pub is_verdict : Verdict → Verdict → Bool
is_verdict valid valid = true
is_verdict valid (fails r n p) = false
is_verdict (fails r n p) valid = false
is_verdict (fails r n p) (fails reason number place) = eqb r reason && eqb n number && eqb p place

-- `A matches {a matches {..}}`
abbrev pub holding : Leaf → Object
holding l = object_with 1 (bytes "A") [] (attribute_with 2 required (bytes "a") (leaf l) Constraints.no_more)

-- `<a=..>`
abbrev pub given : Content → Datum
given c = datum 0 None (member (bytes "a") c Data.no_more)

unfoldable pub right : Case → Bool
right (judges o d v) = is_verdict (judge o d) v
right (under l c v) = is_verdict (judge (holding l) (given c)) v

-- the flags of existence in document 01, 'Table'
pub existence_flags : prohibited ∷ optional ∷ required ∷ [] ≡ 0 ∷ 1 ∷ 2 ∷ []
existence_flags = refl

-- a list without items has no record: a link to it is 0
pub no_items : first_range [] ∷ first_text [] ∷ [] ≡ 0 ∷ 0 ∷ []
no_items = refl
