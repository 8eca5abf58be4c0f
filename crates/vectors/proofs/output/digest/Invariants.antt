-- The loop of `vectors::output::digest`. Assumes nothing.
use Rattle.vectors.proofs.DigestSteps.{InDigest}
use Rattle.vectors.proofs.output.digest.Given as goal

abbrev pub invariant-loop-byte : goal.invariant-loop-byte
invariant-loop-byte l = InDigest l.bytes l.sum l.byte-index
