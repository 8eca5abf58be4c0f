-- Steps of the check. Assumes nothing.
use mathlib.Core.Path.{◌≡◌, sym, ap, ◌∙◌}
use mathlib.Core.Bool.{Bool, true, false, ◌&&◌, and_assoc}
use mathlib.Core.List.{List}
use Prim.Native.Nat.{ℕ, suc, ◌+◌, ◌*◌, ◌-◌, ◌≤◌, ◌<◌}
use native.Mathlib.Numerals.{add-one}
use native.Mathlib.Omega.{arith}
use lib.Dec.{eqb, leb}
use lib.ListN.{length, take, drop}
use lib.Seq.{drop-drop}
use borrow.Author.Tests.{le-leb, lt-leb, eqb-true, leb-true}
use Rattle.std.specs.Prelude.{None, Some}
use Rattle.lexis.proofs.Cases.{and_left, and_right}
use Rattle.refusals.specs.Limits.{record_limit, pool_limit}
use Rattle.refusals.specs.Refusals.{refusal}
use Rattle.refusals.specs.declared.Cause.TheVariants.{NotATable, BrokenRecord}
use Rattle.refusals.specs.declared.Refusal.{Refusal}
use Rattle.table.specs.Records.{record_size, is_marked, decode, field, header, decodes, image_of}
use Rattle.table.specs.Check.{kind_at, obeys, clean, record_right, broken, broken_record, framed, table_fault}
use Rattle.table.specs.Clauses.Answers.{record_of, Opened, plain_header, counts_right, fault_of}
use Rattle.table.specs.declared.records.Entry.{Entry}
use Rattle.table.specs.declared.records.Frame.{Frame}
use Rattle.std.specs.declared.result.Result.{Result}
use Rattle.table.proofs.CheckLaws.{framed_is}
use Rattle.table.proofs.RecordSteps.{marked_in}
use Rattle.table.proofs.FrameLaws.{framed_opened}

-- the tests of the length and the mark
module _ (bs : List ℕ) where
  pub too_short : length bs < 24 → false ≡ framed bs
  unfolding framed
  too_short h = rw (lt-leb record_size (length bs) h)

  module _ (k : Bool) (l : 24 ≤ length bs) (e : k ≡ is_marked bs) where
    pub unmarked : k ≡ false → false ≡ framed bs
    unfolding framed
    unmarked h = rw (le-leb record_size (length bs) l, ← e, h)

    -- and those of the header that was read, in the order taken
    module _ (h : Entry) (m : k ≡ true) (q : record_of h ≡ decode (take record_size bs)) where
      framed_chain : framed bs ≡ (plain_header h && (counts_right h (length bs) && eqb (kind_at (image_of bs) h.c) 1))
      unfolding framed
      framed_chain = rw (le-leb record_size (length bs) l, ← e, m, ← q) (simp and_assoc)

      module _ (p : Bool) (ep : p ≡ plain_header h) where
        pub not_plain : p ≡ false → false ≡ framed bs
        not_plain g = rw (framed_chain, ← ep, g)

        module _ (c : Bool) (gp : p ≡ true) (ec : c ≡ counts_right h (length bs)) where
          pub counts_wrong : c ≡ false → false ≡ framed bs
          counts_wrong g = rw (framed_chain, ← ep, gp, ← ec, g)

          pub root_told : (r : ℕ) → c ≡ true → r ≡ kind_at (image_of bs) h.c → eqb r 1 ≡ framed bs
          root_told r g er = rw (framed_chain, ← ep, gp, ← ec, g, ← er)

-- counts that are right open the table
pub counts_open : (bs : List ℕ) (h : Entry) (c : Bool) → record_of h ≡ decode (take record_size bs)
    → c ≡ counts_right h (length bs) → c ≡ true
    → Opened bs (record { count = h.a; pool = h.b })
counts_open bs h c q e g =
    let few = leb h.a record_limit in
    let small = leb h.b pool_limit in
    let whole = eqb (length bs) (record_size * h.a + h.b) in
    let t : (leb 2 h.a && (few && (small && whole))) ≡ true = sym e ∙ g in
    let t1 = and_right (leb 2 h.a) (few && (small && whole)) t in
    let t2 = and_right few (small && whole) t1 in
    record {
      records = ap (λ r. field r 0) q;
      bytes = ap (λ r. field r 1) q;
      some = leb-true 2 h.a (and_left (leb 2 h.a) (few && (small && whole)) t);
      few = leb-true h.a record_limit (and_left few (small && whole) t1);
      small = leb-true h.b pool_limit (and_left small whole t2);
      whole = eqb-true (length bs) (record_size * h.a + h.b) (and_right small whole t2);
    }

-- a record: its mark and its rules
module _ (bs : List ℕ) (n at : ℕ) (k : Bool) (ea : at ≡ record_size * n) (e : k ≡ is_marked (drop at bs)) where
  pub record_unmarked : k ≡ false
      → k ≡ record_right (image_of bs) n (take record_size (drop (record_size * n) bs))
      (decode (take record_size (drop (record_size * n) bs)))
  record_unmarked h = rw (← ea, marked_in bs at, ← e, h)

  pub record_ruled : (x : Entry) (r : Bool) → k ≡ true → record_of x ≡ decode (take record_size (drop at bs))
      → r ≡ (obeys (image_of bs) n (record_of x) && clean (record_of x))
      → r ≡ record_right (image_of bs) n (take record_size (drop (record_size * n) bs))
      (decode (take record_size (drop (record_size * n) bs)))
  record_ruled x r h q g = rw (← ea, marked_in bs at, ← e, h, ← q) g

-- the records from number n on are at fault as all are
pub record Reached (bs : List ℕ) (f : Frame) (n : ℕ) : Type 0 where
  pub low : 1 ≤ n
  pub high : n ≤ f.count
  pub opened : Opened bs f
  pub is : broken (image_of bs) n (decodes (f.count - n) (drop (record_size * n) bs))
      (drop (record_size * n) bs) ≡ broken (image_of bs) 1 (image_of bs).records (drop record_size bs)

pub reach_first : (bs : List ℕ) (f : Frame) → Opened bs f → Reached bs f 1
unfolding image_of
reach_first bs f o = record { low = omega arith; high = omega arith; opened = o; is = rw o.records }

module _ (bs : List ℕ) (f : Frame) (n : ℕ) (i : Reached bs f n) where
  pub reach_end : f.count ≤ n
      → None ≡ broken_record (broken (image_of bs) 1 (image_of bs).records (drop record_size bs))
  unfolding broken
  reach_end h =
      let z : f.count - n ≡ 0 = omega arith in
      ap broken_record (rw z at i.is)

  module _ (r : Bool) (h : n < f.count)
      (e : r ≡ record_right (image_of bs) n (take record_size (drop (record_size * n) bs))
      (decode (take record_size (drop (record_size * n) bs)))) where
    one_more : f.count - n ≡ suc (f.count - (n + 1))
    one_more = omega arith

    pub reach_fault : (w : Refusal) → r ≡ false → w ≡ refusal BrokenRecord n
        → Some w ≡ broken_record (broken (image_of bs) 1 (image_of bs).records (drop record_size bs))
    unfolding broken
    reach_fault w g k = ap Some k ∙ ap broken_record (rw (one_more, ← e, g) at i.is)

    pub reach_next : r ≡ true → Reached bs f (n + 1)
    unfolding broken
    reach_next g =
        let s : record_size * n + record_size ≡ record_size * (n + 1) = omega arith in
        record { low = omega arith; high = omega arith; opened = i.opened; is = rw (one_more, ← e, g, drop-drop record_size (record_size * n) bs, s, ← (add-one n)) at i.is }

-- the whole check
module _ (bs : List ℕ) (b : Bool) (e : b ≡ framed bs) where
  pub no_table : (w : Refusal) → b ≡ false → w ≡ refusal NotATable 0 → Some w ≡ table_fault bs
  unfolding table_fault
  no_table w h k = rw (← e, h, k)

  module _ (h : b ≡ true) where
    passed : framed bs ≡ true
    passed = sym e ∙ h

    pub long_enough : record_size ≤ length bs
    long_enough = (framed_is bs passed).long

    pub table_open : (f : Frame) → (f.count ≡ field (header bs) 0) × (f.pool ≡ field (header bs) 1) → Opened bs f
    table_open f q = framed_opened bs f (framed_is bs passed) q.0 q.1

    pub table_told : {A : Type 0} (a : Result A Refusal)
        → fault_of a ≡ broken_record (broken (image_of bs) 1 (image_of bs).records (drop record_size bs))
        → fault_of a ≡ table_fault bs
    unfolding table_fault
    table_told a q = rw passed q

pub ruleset check_steps = (too_short, unmarked, not_plain, counts_wrong, root_told, counts_open, record_unmarked, record_ruled, reach_first, reach_end, reach_fault, reach_next, no_table, long_enough, table_open, table_told)
