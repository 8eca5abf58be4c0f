-- `compile_emission::heads::close_attribute` meets its contract. Assumes nothing.
use Rattle.std.proofs.lemmas.Result.{err_from_is_err_and}
use Rattle.compile_emission.proofs.HeadWriting.{close_fault, close_last, close_more}
use Rattle.compile_emission.proofs.heads.close_attribute.Goals as goal

pub returns-in_err-close : goal.returns-in_err-close
returns-in_err-close c =
    let p = err_from_is_err_and c.from_residual.result c.from_residual.ensures.1 in
    rw (p.1, p.2) (close_fault c.args.head c.in_err-close.ensures)

pub returns-then-t-eq-CLOSE_BRACE : goal.returns-then-t-eq-CLOSE_BRACE
returns-then-t-eq-CLOSE_BRACE c = let e = c.in_ok-close.ensures in search close_last

pub returns : goal.returns
returns c = let e = c.in_ok-close.ensures in search close_more
