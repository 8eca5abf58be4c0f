-- The loop of `integers::digits`. Assumes nothing.
use Rattle.std.proofs.Common.{◌≡◌, drop}
use Rattle.values.specs.Clauses.Answers.{digits_from}
use Rattle.values.proofs.integers.digits.Given as goal

abbrev pub invariant-loop-b : goal.invariant-loop-b
invariant-loop-b l = digits_from l.n (drop l.b-index l.ds) ≡ digits_from 0 l.ds
