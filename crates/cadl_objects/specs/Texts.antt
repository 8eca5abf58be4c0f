-- The constraint text. Document 01, 'Constraint text': "ASCII, at most 16,384 bytes"; "The text is one object"; 'Numbers of refusal': "1 comes before all".
-- Assumes nothing.
use Rattle.std.specs.Prelude.{List, ℕ, ltb, length}
use Rattle.lexis.specs.Tokens.{text_end}
use Rattle.refusals.specs.Limits.{text_limit, level_limit}
use Rattle.refusals.specs.declared.Cause.TheVariants.{TextTooLong}
use Rattle.refusals.specs.Reading.{Reading}
use Rattle.refusals.specs.Parsing.{Parse, parsed, and_then, noting, wanted, first_in}
use Rattle.meaning.specs.Constraints.{Object}
use Rattle.cadl_objects.specs.Objects.{object_from}

-- the outermost object, which is record 1, behind the header, and the text's end
unfoldable pub object_alone : List ℕ → Parse Object
object_alone s = and_then (object_from s level_limit 1 0) (λ o p. and_then (wanted s text_end p) (λ t q. parsed o q))

-- a constraint text
unfoldable pub constraint_text : List ℕ → Parse Object
constraint_text s = noting (ltb text_limit (length s)) TextTooLong text_limit (object_alone s)

-- the tree that a constraint text says, or its refusal
unfoldable pub constraint_of : List ℕ → Reading Object
constraint_of s = first_in (constraint_text s)
