-- `judge::judge_in` meets its contract. Assumes nothing.
use Prim.Native.Nat.{ℕ}
use lib.ListN.{length-replicate}
use native.Mathlib.Omega.{arith}
use Rattle.judge.proofs.judge_in.Goals as goal

pub judge_on-requires-clause-tape_room : goal.judge_on-requires-clause-tape_room
judge_on-requires-clause-tape_room g c = record { room = λ h. rw (length-replicate {0} {A = ℕ} _ 0) (c.requires.tape_room.enough h) }

pub whole_as_slice-judge_on : goal.whole_as_slice-judge_on
whole_as_slice-judge_on g c = let f = c.requires.tape_room.few in omega arith
