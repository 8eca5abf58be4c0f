-- The ways out of a merge, and what each answers. Assumes nothing.
use mathlib.Core.Path.{◌≡◌, sym, ap, ◌∙◌}
use mathlib.Core.Bool.{Bool}
use Rattle.std.specs.Prelude.{None, option_map as map}
use mathlib.Core.List.{List, ◌++◌}
use Prim.Native.Nat.{ℕ, ◌+◌, ◌-◌, ◌≤◌, ◌<◌}
use native.Mathlib.Omega.{arith}
use lib.ListN.{length, drop}
use lib.Seq.{sets}
use borrow.Author.Tests.{lt-ltb, le-ltb}
use Rattle.refusals.specs.Limits.{record_limit, pool_limit}
use Rattle.refusals.specs.Outcomes.{refused, gave, Answered, answered, write}
use Rattle.refusals.proofs.Outcomes.{front_stored}
use Rattle.refusals.specs.declared.Cause.TheVariants.{TooManyRecords, PoolTooLarge, OutputTooShort}
use Rattle.table.specs.Records.{count, image_of, bytes_of}
use Rattle.table.specs.Check.{table_fault}
use Rattle.table.specs.Clauses.Answers.{Opened}
use Rattle.std.specs.declared.result.Result.{Result}
use Rattle.std.specs.declared.result.Result.TheVariants.{Ok, Err}
use Rattle.table_merge.specs.declared.MergeRefusal.{MergeRefusal as Refused}
use Rattle.table_merge.specs.declared.Merged.{Merged}
use Rattle.table.specs.declared.records.Frame.{Frame}
use Rattle.table.proofs.FrameLaws.{count_opened, pool_opened}
use Rattle.table_merge.proofs.Answers.{none_mapped}
use Rattle.table_merge.specs.Joining.{merged}
use Rattle.table_merge.specs.Merge.{request, MergeReport, report, MergeRefusal, of_table, neither, join, merge_answer}
use Rattle.table_merge.specs.Clauses.Answers.{shifts, Joinable, joined_length, fault_in, answer_of}
use Rattle.table_merge.proofs.MovedLaws.{shifts_opened}
use Rattle.table_merge.proofs.JoinSteps.{length_joined}

module _ (first second : List ℕ) (x y : Frame) (little : Bool) (out : List ℕ) (a : Opened first x)
    (b : Opened second y) where
  -- the sizes that are tested are those of the counts
  records_are : length (image_of first).records + count (image_of second) ≡ x.count - 1 + y.count
  records_are = omega (arith, count_opened first x a, count_opened second y b)

  pools_are : length (image_of first).pool + length (image_of second).pool ≡ x.pool + y.pool
  pools_are = omega (arith, pool_opened first x a, pool_opened second y b)

  pub join_many : (z : MergeRefusal) → z ≡ neither TooManyRecords 0
      → record_limit < x.count - 1 + y.count
      → answered (refused z) out ≡ write (join (image_of first) (image_of second) little (length out)) out
  unfolding join
  join_many z e h = rw (e, records_are, lt-ltb record_limit (x.count - 1 + y.count) h)

  module _ (few : x.count - 1 + y.count ≤ record_limit) where
    pub join_large : (z : MergeRefusal) → z ≡ neither PoolTooLarge 0
        → pool_limit < x.pool + y.pool
        → answered (refused z) out ≡ write (join (image_of first) (image_of second) little (length out)) out
    unfolding join
    join_large z e h =
        rw (e, records_are, le-ltb record_limit (x.count - 1 + y.count) few, pools_are, lt-ltb pool_limit (x.pool + y.pool) h)

    module _ (small : x.pool + y.pool ≤ pool_limit) (p : table_fault first ≡ None) (q : table_fault second ≡ None) where
      pub joinable : Joinable first second x y
      joinable = record { first_passes = p; second_passes = q; first_opened = a; second_opened = b; few = few; small = small }

      pub join_short : (z : MergeRefusal) (l : ℕ) → z ≡ neither OutputTooShort l
          → l ≡ joined_length x y → length out < l
          → answered (refused z) out ≡ write (join (image_of first) (image_of second) little (length out)) out
      unfolding join
      join_short z l e t h =
          let n : length (bytes_of little (merged (image_of first) (image_of second))) ≡ l = length_joined joinable little ∙ sym t in
          rw (e, records_are, le-ltb record_limit (x.count - 1 + y.count) few, pools_are, le-ltb pool_limit (x.pool + y.pool) small, n, lt-ltb (length out) l h)

      pub join_done : (o : List ℕ) (l : ℕ) → l ≡ joined_length x y → l ≤ length out
          → o ≡ sets out 0 (bytes_of little (merged (image_of first) (image_of second)))
          → answered (gave (report l (shifts (x.count - 1) x.pool))) o
          ≡ write (join (image_of first) (image_of second) little (length out)) out
      unfolding join
      join_done o l t h w =
          let bs = bytes_of little (merged (image_of first) (image_of second)) in
          let n : length bs ≡ l = length_joined joinable little ∙ sym t in
          let v : o ≡ bs ++ drop (length bs) out = w ∙ front_stored bs out (omega arith) in
          rw (v, records_are, le-ltb record_limit (x.count - 1 + y.count) few, pools_are, le-ltb pool_limit (x.pool + y.pool) small, le-ltb (length out) (length bs) (omega arith), n, shifts_opened first x a)

-- what a check that was passed says of its table
pub passed : {A : Type 0} (bs : List ℕ) (n : ℕ) (c : Result A Refused) (x : A)
    → fault_in c ≡ map (of_table n) (table_fault bs) → c ≡ Ok x → table_fault bs ≡ None
passed bs n c x e h = none_mapped n (table_fault bs) (sym e ∙ ap fault_in h)

-- the check of each table
module _ {A : Type 0} (first second : List ℕ) (little : Bool) (out : List ℕ) (c : Result A Refused)
    (e : fault_in c ≡ map (of_table 1) (table_fault first)) where
  pub first_refused_lem : (z : Result Merged Refused) (r : Refused) → c ≡ Err r → z ≡ Err r
      → answered (answer_of z) out ≡ merge_answer (request first second little) out
  unfolding merge_answer
  first_refused_lem z r h g = rw (← e, h, g)

  module _ (x : A) (h : c ≡ Ok x) (d : Result A Refused) (f : fault_in d ≡ map (of_table 2) (table_fault second)) where
    pub second_refused_lem : (z : Result Merged Refused) (r : Refused) → d ≡ Err r → z ≡ Err r
        → answered (answer_of z) out ≡ merge_answer (request first second little) out
    unfolding merge_answer
    second_refused_lem z r g k = rw (← e, h, ← f, g, k)

    pub both_pass : (y : A) (m : Answered MergeRefusal MergeReport) → d ≡ Ok y
        → m ≡ write (join (image_of first) (image_of second) little (length out)) out
        → m ≡ merge_answer (request first second little) out
    unfolding merge_answer
    both_pass y m g w = rw (← e, h, ← f, g) w

pub ruleset merge_steps = (join_many, join_large, joinable, join_short, join_done, first_refused_lem, second_refused_lem, both_pass, passed)
