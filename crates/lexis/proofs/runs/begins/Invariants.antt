-- The loops of `lexis::runs::begins`. Assumes nothing.
use lib.ListN.{drop}
use Rattle.lexis.specs.Clauses.Answers.{begins_by}
use Rattle.lexis.proofs.RunSteps.{InWord}
use Rattle.lexis.proofs.runs.begins.Given as goal

abbrev pub invariant-loop-i : goal.invariant-loop-i
invariant-loop-i g l =
    let admits = g.S.Spelling.admits in
    InWord admits l.w l.s l.at l.i (begins_by admits l.w (drop l.at l.s))
