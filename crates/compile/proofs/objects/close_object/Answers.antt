-- `compile::objects::close_object` meets its contract. Assumes nothing.
use Rattle.std.proofs.lemmas.Result.{err_from_is_err_and}
use Rattle.compile.proofs.ObjectSteps.{end_fault, end_taken}
use Rattle.compile.proofs.objects.close_object.Goals as goal

pub returns-in_err-close : goal.returns-in_err-close
returns-in_err-close c =
    let p = err_from_is_err_and c.from_residual.result c.from_residual.ensures.1 in
    rw (p.1, p.2) (end_fault _ _ c.in_err-close.ensures)

pub returns : goal.returns
returns c = end_taken _ _ c.in_ok-close.ensures
