-- `vectors::output::digest` meets its contract. Assumes nothing.
use Rattle.vectors.proofs.DigestSteps.{digest_on}
use Rattle.vectors.proofs.output.digest.Goals as goal

pub loop-byte-preserved : goal.loop-byte-preserved
loop-byte-preserved c = search digest_on
