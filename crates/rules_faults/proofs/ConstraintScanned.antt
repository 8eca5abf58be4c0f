-- The refusal that reading a constraint text tells is the least of all its faults. Assumes nothing.
use mathlib.Core.Path.{◌≡◌}
use mathlib.Core.Logic.{◌↔◌}
use mathlib.Core.List.{List, [], Memᴰ}
use Prim.Native.Nat.{ℕ}
use Rattle.refusals.specs.Reading.{refused, got}
use Rattle.refusals.specs.declared.Refusal.{Refusal}
use Rattle.meaning.specs.Constraints.{Object}
use Rattle.cadl_objects.specs.Texts.{object_alone, constraint_text, constraint_of}
use Rattle.cadl_objects.proofs.TreeReading.{alone_ordered}
use Rattle.rules_faults.specs.Faults.{Least, Alike}
use Rattle.rules_faults.specs.ConstraintFaults.{faults}
use Rattle.rules_faults.proofs.Outcomes.{Lies, text_lies, text_faultless, text_least, text_refused}

module _ (s : List ℕ) where
  -- a fault is 1, told at the limit, or lies in the text: the end of the fuel, told behind it, is none
  pub fault_lies : (x : Refusal) → Memᴰ x (faults s) → Lies s x
  unfolding constraint_text faults
  fault_lies = text_lies s _ (object_alone s) (alone_ordered s)

  -- a constraint text is read exactly where it has no fault
  pub read_faultless : ((o : Object) × (p : ℕ) × (constraint_of s ≡ got o p)) ↔ (faults s ≡ [])
  unfolding constraint_of constraint_text faults
  read_faultless = text_faultless s _ (object_alone s) (alone_ordered s)

  -- a refusal is the least of the faults
  pub refused_least : (x : Refusal) → constraint_of s ≡ refused x → Least x (faults s)
  unfolding constraint_of constraint_text faults
  refused_least = text_least s _ (object_alone s) (alone_ordered s)

  -- where a text has faults, it is refused with the number and at the place of the least
  pub least_refused : (x : Refusal) → Least x (faults s) → (y : Refusal) × (constraint_of s ≡ refused y) × Alike x y
  unfolding constraint_of constraint_text faults
  least_refused = text_refused s _ (object_alone s) (alone_ordered s)
