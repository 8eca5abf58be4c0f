-- All faults of a constraint text: those that parsing it finds, up to its first syntax fault. Assumes nothing.
use Rattle.std.specs.Prelude.{List, ℕ}
use Rattle.refusals.specs.declared.Refusal.{Refusal}
use Rattle.refusals.specs.Parsing.{faults_in}
use Rattle.cadl_objects.specs.Texts.{constraint_text}

unfoldable pub faults : List ℕ → List Refusal
faults s = faults_in (constraint_text s)
