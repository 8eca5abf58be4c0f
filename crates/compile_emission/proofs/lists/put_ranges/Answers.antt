-- `compile_emission::lists::put_ranges` meets its contract. Assumes nothing.
use Rattle.compile_emission.proofs.WritingSteps.{ranges_start, ranges_go_on, ranges_end}
use Rattle.compile_emission.proofs.lists.put_ranges.Goals as goal

pub loop-i-init : goal.loop-i-init
loop-i-init c = search ranges_start

pub loop-i-preserved : goal.loop-i-preserved
loop-i-preserved c = search ranges_go_on

pub returns : goal.returns
returns c = search ranges_end
