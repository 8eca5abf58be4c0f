-- `compile_emission::lists::put_strings` meets its contract. Assumes nothing.
use Rattle.compile_emission.proofs.WritingSteps.{texts_start, texts_fit, texts_go_on, texts_end}
use Rattle.compile_emission.proofs.lists.put_strings.Goals as goal

pub loop-i-init : goal.loop-i-init
loop-i-init c = search texts_start

pub put_string-to-requires : goal.put_string-to-requires
put_string-to-requires c = search texts_fit

pub loop-i-preserved : goal.loop-i-preserved
loop-i-preserved c = search texts_go_on

pub returns : goal.returns
returns c = search texts_end
