-- M1 to M12 hold. Assumes nothing.
use mathlib.Core.Path.{refl}
use Rattle.table_merge.proofs.Computes.{merge_computes}
use Rattle.compile.proofs.Computes.{compile_computes}
use Rattle.judge.proofs.Computes.{judge_computes}
use Rattle.demands.specs.Marked.{none, one_more, MarkedHold}

pub all_hold : MarkedHold
unfolding merge_computes compile_computes judge_computes
all_hold =
    one_more refl (one_more refl (one_more refl (one_more refl (one_more refl (one_more refl (one_more refl (one_more refl (one_more refl (one_more refl (one_more refl (one_more refl (one_more refl (one_more refl (one_more refl (one_more refl (one_more refl (one_more refl (one_more refl (one_more refl (one_more refl (one_more refl (one_more refl (one_more refl none)))))))))))))))))))))))
