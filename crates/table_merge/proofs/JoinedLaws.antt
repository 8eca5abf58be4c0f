-- The table that merging writes is one that the rules describe. Assumes nothing.
use mathlib.Core.Path.{◌≡◌, refl, sym, ap₂, subst, ◌∙◌}
use mathlib.Core.Bool.{Bool}
use Rattle.std.specs.Prelude.{None}
use mathlib.Core.List.{List, [], ◌∷◌}
use Prim.Native.Nat.{ℕ, zero, suc, ◌+◌, ◌*◌, ◌-◌, ◌≤◌, ◌<◌}
use native.Mathlib.Omega.{arith}
use lib.ListN.{length, get_or, drop, get_or-append, get_or-map}
use lib.Seq.{drop-drop, get_or-take, get_or-drop, get_or-append-add}
use Rattle.lexis.specs.Runs.{StandsAt}
use Rattle.refusals.specs.Limits.{record_limit, pool_limit}
use Rattle.table.specs.Records.{Record, Image, record_size, make, field, count, header, header_of, record_in, image_of, bytes_of}
use Rattle.table.specs.Check.{table_fault}
use Rattle.table.specs.TableRules.{Holds, IsTable}
use Rattle.table.proofs.Checked.{Checked}
use Rattle.table.proofs.RecordLaws.{ImageFits, fit_counted, length-bytes}
use Rattle.table.proofs.CheckLaws.{image_fits, count-framed, pool_framed, fault_none, check_sound}
use Rattle.table.proofs.FrameLaws.{decodes_at}
use Rattle.table.proofs.HoldsLaws.{byte_is_lem, byte_there, holds_is}
use Rattle.table.proofs.TableRuleLaws.{frame_is, passes}
use Rattle.table.proofs.WrittenLaws.{pool_byte, record_bytes, written_holds}
use Rattle.table_merge.specs.Joining.{moved, shifts_by, merged}
use Rattle.table_merge.specs.Clauses.Answers.{shifts}
use Rattle.table_merge.specs.MergeRules.{Sizes, count_of, pool_of, length_of, BothTables, IsMerged}
use Rattle.table_merge.proofs.MergeLaws.{count-merged, pool_merged}
use Rattle.table_merge.proofs.CheckedMerge.{checked_merge}
use Rattle.table_merge.proofs.MoveRuleLaws.{holds_moves}

-- what a table says of itself is so of what its bytes hold
pub record Reads (bs : List ℕ) (size pool root : ℕ) : Type 0 where
  pub passed : table_fault bs ≡ None
  pub checked : Checked (image_of bs)
  pub counted : count (image_of bs) ≡ size
  pub pooled : length (image_of bs).pool ≡ pool
  pub rooted : (image_of bs).root ≡ root
  pub records : (d : Record) (n : ℕ) → suc n < size → get_or (image_of bs).records n d ≡ record_in bs (suc n)
  pub bytes : (k : ℕ) → k < pool → get_or (image_of bs).pool k 0 ≡ get_or bs (record_size * size + k) 0

pub table_reads : {bs : List ℕ} {size pool root : ℕ} → IsTable bs size pool root → Reads bs size pool root
unfolding image_of
table_reads {bs} {size} {pool} {root} t =
    let passed = (passes bs).1 (size, pool, root, t) in
    let s = fault_none bs passed in
    let f = frame_is bs size pool root t.frame in
    record {
      passed = passed;
      checked = check_sound bs passed;
      counted = count-framed bs s.frame ∙ sym f.0;
      pooled = pool_framed bs s.frame ∙ sym f.1;
      rooted = sym f.2;
      records =
          λ d n l.
          let e : record_size + record_size * n ≡ record_size * suc n = omega arith in
          decodes_at (field (header bs) 0 - 1) n (drop record_size bs) d (omega arith) ∙ rw (drop-drop (record_size * n) record_size bs, e);
      bytes =
          λ k l.
          rw (← f.0, ← f.1, get_or-take pool (drop (record_size * size) bs) k 0 l, get_or-drop (record_size * size) bs k 0);
    }

-- the records and the pool of a merge
kept_record : (x y : Image) (d : Record) (n : ℕ) → n < length x.records
    → get_or (merged x y).records n d ≡ get_or x.records n d
unfolding merged
kept_record x y d n l = get_or-append x.records _ d n l

moved_record : (x y : Image) (d : Record) (n : ℕ)
    → get_or (merged x y).records (length x.records + n) (moved (shifts_by x) d)
    ≡ moved (shifts_by x) (get_or y.records n d)
unfolding merged
moved_record x y d n = get_or-append-add x.records _ n _ ∙ get_or-map (moved (shifts_by x)) y.records n d

kept_byte : (x y : Image) (k : ℕ) → k < length x.pool → get_or (merged x y).pool k 0 ≡ get_or x.pool k 0
unfolding merged
kept_byte x y k l = get_or-append x.pool y.pool 0 k l

moved-byte : (x y : Image) (k : ℕ) → get_or (merged x y).pool (length x.pool + k) 0 ≡ get_or y.pool k 0
unfolding merged
moved-byte x y k = get_or-append-add x.pool y.pool k 0

root_kept : (x y : Image) → (merged x y).root ≡ x.root
unfolding merged
root_kept x y = refl

-- what is written
abbrev pub joined_of : List ℕ → List ℕ → Bool → List ℕ
joined_of first second little = bytes_of little (merged (image_of first) (image_of second))

module _ {first second : List ℕ} {z : Sizes} (t : BothTables first second z) where
  -- its sizes
  pub counts_are : length (image_of first).records + count (image_of second) ≡ count_of z
  counts_are = let a = table_reads t.first in let b = table_reads t.second in omega arith

  pub pools_are : length (image_of first).pool + length (image_of second).pool ≡ pool_of z
  pools_are = ap₂ ◌+◌ (table_reads t.first).pooled (table_reads t.second).pooled

  pub shifts_are : shifts_by (image_of first) ≡ shifts (z.count₁ - 1) z.pool₁
  shifts_are =
      let a = table_reads t.first in
      let c : length (image_of first).records ≡ z.count₁ - 1 = omega arith in
      λ i. record { records = c i; pool = a.pooled i }

  module _ (few : count_of z ≤ record_limit) (small : pool_of z ≤ pool_limit) where
    -- it passes the check
    joined_checked : Checked (merged (image_of first) (image_of second))
    joined_checked =
        checked_merge (image_of first) (image_of second) (table_reads t.first).checked (table_reads t.second).checked (rw counts_are few) (rw pools_are small)

    joined_fits : ImageFits (merged (image_of first) (image_of second))
    joined_fits = image_fits (merged (image_of first) (image_of second)) joined_checked

    count_joined : count (merged (image_of first) (image_of second)) ≡ count_of z
    count_joined = count-merged (image_of first) (image_of second) ∙ counts_are

    pool_joined : length (merged (image_of first) (image_of second)).pool ≡ pool_of z
    pool_joined = pool_merged (image_of first) (image_of second) ∙ pools_are

    module _ (little : Bool) where
      pub joined_length : length (joined_of first second little) ≡ length_of z
      joined_length =
          let m = merged (image_of first) (image_of second) in
          rw (length-bytes little m (fit_counted m.records joined_fits.records), count_joined, pool_joined)

      -- its records are those of the first table, and those of the second, moved
      kept_holds : (n : ℕ) (order : Bool) (r : Record) → 1 ≤ n → n < z.count₁ → Holds first n order r
          → Holds (joined_of first second little) n little r
      kept_holds zero order r low below h = absurd (omega arith)
      kept_holds (suc n) order r low below h =
          let x = image_of first in
          let y = image_of second in
          let a = table_reads t.first in
          let e : get_or (merged x y).records n r ≡ r = kept_record x y r n (omega arith) ∙ a.records r n below ∙ sym (holds_is first (suc n) order r h) in
          rw e at (written_holds little (merged x y) joined_fits r (suc n) (omega (arith, count-merged x y)))

      moved_holds : (n : ℕ) (order : Bool) (r : Record) → 1 ≤ n → n < z.count₂ → Holds second n order r
          → Holds (joined_of first second little) (n + (z.count₁ - 1)) little
          (moved (shifts (z.count₁ - 1) z.pool₁) r)
      moved_holds zero order r low below h = absurd (omega arith)
      moved_holds (suc n) order r low below h =
          let x = image_of first in
          let y = image_of second in
          let a = table_reads t.first in
          let b = table_reads t.second in
          let d = moved (shifts_by x) r in
          let i : suc (length x.records + n) ≡ suc n + (z.count₁ - 1) = omega arith in
          let e : get_or (merged x y).records (length x.records + n) d ≡ moved (shifts (z.count₁ - 1) z.pool₁) r =
          moved_record x y r n ∙ ap₂ moved shifts_are (b.records r n below ∙ sym (holds_is second (suc n) order r h)) in
          rw (e, i) at (written_holds little (merged x y) joined_fits d (suc (length x.records + n)) (omega (arith, count-merged x y)))

      -- and the bytes of its pool are theirs
      pool_holds : (k b : ℕ) → k < pool_of z → get_or (merged (image_of first) (image_of second)).pool k 0 ≡ b
          → StandsAt (joined_of first second little) (record_size * count_of z + k) (b ∷ [])
      pool_holds k b l e =
          let place = record_size * count_of z + k in
          let i : get_or (joined_of first second little) place 0 ≡ b = rw count_joined at (pool_byte little (merged (image_of first) (image_of second)) joined_fits k) ∙ e in
          rw i at (byte_there (joined_of first second little) place (rw joined_length (omega arith)))

      pub joined_is : IsMerged first second little z (joined_of first second little)
      joined_is =
          let x = image_of first in
          let y = image_of second in
          let m = merged x y in
          let a = table_reads t.first in
          let b = table_reads t.second in
          record {
            sized = joined_length;
            header =
                subst (Holds (joined_of first second little) 0 little) (λ i. make 0 0 (count_joined i ∷ pool_joined i ∷ (root_kept x y ∙ a.rooted) i ∷ []))
                (written_holds little m joined_fits (header_of m) 0 (omega arith));
            kept = kept_holds;
            moved =
                λ n order r low below h.
                let i = t.second.records n low below in
                (moved (shifts (z.count₁ - 1) z.pool₁) r, holds_moves (z.count₁ - 1) z.pool₁ i order r h, moved_holds n order r low below h);
            first_pool = λ k c l h. pool_holds k c (omega arith) (kept_byte x y k (omega arith) ∙ a.bytes k l ∙ byte_is_lem first _ c h);
            second_pool = λ k c l h. pool_holds (z.pool₁ + k) c (omega arith) (rw a.pooled at (moved-byte x y k) ∙ b.bytes k l ∙ byte_is_lem second _ c h);
            bytes = λ k c h l. rw (byte_is_lem (joined_of first second little) k c h) at (record_bytes little m joined_checked k (rw count_joined l));
          }
