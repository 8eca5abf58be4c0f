-- What reading tells of the parts of a constraint text. Assumes nothing.
use Rattle.std.specs.Prelude.{List, ℕ}
use Rattle.lexis.specs.declared.Token.{Token}
use Rattle.refusals.specs.Reading.{Reading}
use Rattle.refusals.specs.Parsing.{first_in}
use Rattle.meaning.specs.Constraints.{Object, Attributes, Value}
use Rattle.cadl_objects.specs.Objects.{Attribute}
use Rattle.cadl_objects.specs.Objects

unfoldable pub object_type : List ℕ → ℕ → ℕ → ℕ → Reading Token
object_type s levels next from = first_in (Objects.object_type s levels next from)

unfoldable pub object_code : List ℕ → ℕ → Reading (List ℕ)
object_code s from = first_in (Objects.object_code s from)

unfoldable pub attribute_name : List ℕ → List (List ℕ) → ℕ → ℕ → Reading Token
attribute_name s seen next from = first_in (Objects.attribute_name s seen next from)

unfoldable pub object_from : List ℕ → ℕ → ℕ → ℕ → Reading Object
object_from s levels next from = first_in (Objects.object_from s levels next from)

-- what holds objects of at most so many levels
unfoldable pub value : List ℕ → ℕ → ℕ → ℕ → Reading Value
value s levels next from = first_in (Objects.value s (Objects.object_from s levels) next from)

unfoldable pub attribute_from : List ℕ → ℕ → List (List ℕ) → ℕ → ℕ → Reading Attribute
attribute_from s levels seen next from = first_in (Objects.attribute_from s (Objects.object_from s levels) seen next from)

unfoldable pub attributes : List ℕ → ℕ → ℕ → List (List ℕ) → ℕ → ℕ → Reading Attributes
attributes s levels fuel seen next from =
    first_in (Objects.attributes s (Objects.object_from s levels) fuel seen next from)
