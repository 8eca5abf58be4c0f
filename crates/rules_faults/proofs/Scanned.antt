-- The refusal that reading a data text tells is the least of all its faults. Assumes nothing.
use mathlib.Core.Path.{◌≡◌}
use mathlib.Core.Logic.{◌↔◌}
use mathlib.Core.Bool.{true}
use mathlib.Core.List.{List, [], Memᴰ}
use Prim.Native.Nat.{ℕ}
use Rattle.refusals.specs.Reading.{refused, got}
use Rattle.refusals.specs.declared.Refusal.{Refusal}
use Rattle.refusals.specs.Numbers.{OfDataText}
use Rattle.refusals.proofs.Parses.{InOrder}
use Rattle.refusals.proofs.FaultCauses.{faults_are}
use Rattle.dadl.proofs.DataCauses.{text_of}
use Rattle.dadl.specs.Placed.{Block}
use Rattle.dadl.specs.Data.{datum_alone, data_text, block_of}
use Rattle.dadl.proofs.TreeReading.{alone_order}
use Rattle.rules_faults.specs.Faults.{Least, Alike}
use Rattle.rules_faults.specs.DataFaults.{faults}
use Rattle.rules_faults.proofs.Outcomes.{Lies, text_lies, text_faultless, text_least, text_refused}

module _ (levels : ℕ) (s : List ℕ) where
  -- a fault is 1, told at the limit, or lies in the text: the end of the fuel, told behind it, is none
  pub fault_lies : (x : Refusal) → Memᴰ x (faults levels s) → Lies s x
  unfolding data_text faults InOrder
  fault_lies = text_lies s _ (datum_alone levels s) (alone_order levels s true)

  -- a fault is 1 to 5 or 9
  pub fault_of_lem : (x : Refusal) → Memᴰ x (faults levels s) → OfDataText x.cause
  unfolding faults
  fault_of_lem = faults_are OfDataText (data_text levels s) (text_of s levels)

  -- a data text is read exactly where it has no fault
  pub read_faultless : ((b : Block) × (p : ℕ) × (block_of levels s ≡ got b p)) ↔ (faults levels s ≡ [])
  unfolding block_of data_text faults InOrder
  read_faultless = text_faultless s _ (datum_alone levels s) (alone_order levels s true)

  -- a refusal is the least of the faults
  pub refused_least : (x : Refusal) → block_of levels s ≡ refused x → Least x (faults levels s)
  unfolding block_of data_text faults InOrder
  refused_least = text_least s _ (datum_alone levels s) (alone_order levels s true)

  -- where a text has faults, it is refused with the number and at the place of the least
  pub least_refused : (x : Refusal) → Least x (faults levels s)
      → (y : Refusal) × (block_of levels s ≡ refused y) × Alike x y
  unfolding block_of data_text faults InOrder
  least_refused = text_refused s _ (datum_alone levels s) (alone_order levels s true)
