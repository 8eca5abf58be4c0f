-- A tree with the numbers of its records moved, nothing else changed. Assumes nothing.
use Rattle.std.specs.Prelude.{map, ℕ, ◌+◌}
use Rattle.meaning.specs.Verdicts.{Verdict, valid, fails}
use Rattle.meaning.specs.Constraints.{Range, Text, ObjectHead, AttributeHead, Leaf, single, ranges, texts, Object, object, Attributes, no_more, attribute, Value, any, nested, leaf}

abbrev pub moved_range : ℕ → Range → Range
moved_range s x = record { number = s + x.number; low = x.low; high = x.high }

abbrev pub moved_text : ℕ → Text → Text
moved_text s x = record { number = s + x.number; text = x.text }

abbrev pub moved_leaf : ℕ → Leaf → Leaf
moved_leaf s (single sort n flag) = single sort (s + n) flag
moved_leaf s (ranges sort l) = ranges sort (map (moved_range s) l)
moved_leaf s (texts l) = texts (map (moved_text s) l)

abbrev pub moved_object_head : ℕ → ObjectHead → ObjectHead
moved_object_head s h = record { number = s + h.number; type = h.type; code = h.code }

abbrev pub moved_attribute_head : ℕ → AttributeHead → AttributeHead
moved_attribute_head s h = record { number = s + h.number; existence = h.existence; name = h.name }

unfoldable mutual
  pub moved_object : Object → ℕ → Object
  moved_object (object h xs) s = object (moved_object_head s h) (moved_attributes xs s)

  pub moved_attributes : Attributes → ℕ → Attributes
  moved_attributes no_more s = no_more
  moved_attributes (attribute h v more) s = attribute (moved_attribute_head s h) (moved_value v s) (moved_attributes more s)

  pub moved_value : Value → ℕ → Value
  moved_value any s = any
  moved_value (nested o) s = nested (moved_object o s)
  moved_value (leaf l) s = leaf (moved_leaf s l)

-- a verdict with its record's number moved
abbrev pub moved_verdict : ℕ → Verdict → Verdict
moved_verdict s valid = valid
moved_verdict s (fails reason number place) = fails reason (s + number) place
