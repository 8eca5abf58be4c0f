-- `compile::compile` meets its contract. Assumes nothing.
use borrow.Author.Rules.{rules}
use Rattle.std.proofs.lemmas.Result.{err_from_is_err_and}
use Rattle.compile.proofs.TableSteps.{compile_done, compile_long, compile_refused, compile_inside, compile_room}
use Rattle.compile.proofs.compile.Goals as goal

pub returns-then-text-gt-TEXT_LIMIT : goal.returns-then-text-gt-TEXT_LIMIT
returns-then-text-gt-TEXT_LIMIT c = search (compile_long, rules)

pub returns-in_err-q : goal.returns-in_err-q
returns-in_err-q c =
    let p = err_from_is_err_and c.from_residual.result c.from_residual.ensures.1 in
    let short = c.if-text-gt-TEXT_LIMIT.false in
    let d = c.in_err-q.ensures in
    rw (p.1, p.2) (search compile_refused)

pub finish-requires : goal.finish-requires
finish-requires c = let d = c.in_ok-q.ensures in search (compile_inside, compile_room, rules)

pub returns : goal.returns
returns c =
    let short = c.if-text-gt-TEXT_LIMIT.false in
    let d = c.in_ok-q.ensures in
    let e = c.finish.ensures in
    search compile_done
