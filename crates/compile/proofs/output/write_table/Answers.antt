-- `compile::output::write_table` meets its contract. Assumes nothing.
use borrow.Author.Rules.{rules}
use Rattle.compile.proofs.TableSteps.{output_short, output_written}
use Rattle.compile.proofs.output.write_table.Goals as goal

pub returns-then-out-length : goal.returns-then-out-length
returns-then-out-length c = search (output_short, rules)

pub returns : goal.returns
returns c =
    let records = c.copy-arg-2-1.given in
    let bytes = c.copy-arg-4-1.given in
    search output_written
