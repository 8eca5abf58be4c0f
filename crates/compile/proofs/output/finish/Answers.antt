-- `compile::output::finish` meets its contract. Assumes nothing.
use Rattle.std.proofs.lemmas.Result.{err_from_is_err_and}
use Rattle.compile.proofs.TableSteps.{finish_fault, finish_taken}
use Rattle.compile.proofs.output.finish.Goals as goal

pub returns-in_err-expect : goal.returns-in_err-expect
returns-in_err-expect c =
    let p = err_from_is_err_and c.from_residual.result c.from_residual.ensures.1 in
    rw (p.1, p.2) (let e = c.in_err-expect.ensures in search finish_fault)

pub returns : goal.returns
returns c = let e = c.in_ok-expect.ensures in search finish_taken
