-- The loops of `compile_emission::lists::put_strings`. Assumes nothing.

use Rattle.compile_emission.proofs.WritingSteps.{InTexts}
use Rattle.compile_emission.proofs.lists.put_strings.Given as goal

abbrev pub invariant-loop-i : goal.invariant-loop-i
invariant-loop-i l = InTexts l.s l.little l.p l.scratch l.count l.end l.initial.records l.initial.bytes l.i l.to l.records l.bytes
