-- Steps of the functions that copy a table's records and its pool into another. Assumes nothing.
use mathlib.Core.Path.{◌≡◌, refl, sym, ap, subst, ◌∙◌}
use mathlib.Core.Bool.{Bool}
use mathlib.Core.List.{List, map}
use Prim.Native.Nat.{ℕ, suc, ◌+◌, ◌*◌, ◌-◌, ◌≤◌, ◌<◌}
use native.Mathlib.Omega.{arith}
use lib.ListN.{length, take, drop}
use lib.Seq.{sets, drop-drop}
use Rattle.table.specs.Records.{record_size, field_count, decode, encode, decodes, encodes, record_in}
use Rattle.table.specs.Rows.{shape_of}
use Rattle.table.specs.Check.{uses_of}
use Rattle.table.specs.Clauses.Answers.{record_of}
use Rattle.table.specs.declared.records.Entry.{Entry}
use Rattle.table.proofs.RecordLaws.{decode_counted, length-encode}
use Rattle.table_merge.specs.Joining.{Shifts, moved}
use Rattle.table_merge.specs.Clauses.Answers.{Movable, Copying}
use Rattle.table_merge.proofs.CheckedMerge.{length_moved}
use Rattle.lexis.proofs.Stores.{sets_behind}

-- one record, read at its place, moved, and written at the place of its moved number
module _ (bs : List ℕ) (n : ℕ) (s : Shifts) (from : ℕ) (e : Entry) (at : from ≡ record_size * n)
    (read : record_of e ≡ decode (take record_size (drop from bs))) where
  entry_is : record_of e ≡ record_in bs n
  entry_is = rw at at read

  pub entry_movable : (out : List ℕ) → 1 ≤ n → Copying bs (n + 1) s out → Movable s (shape_of e.kind) (record_of e)
  entry_movable out l h = subst (λ r. Movable s (shape_of r.kind) r) (sym entry_is) (h.movable n l (omega arith))

  pub record_copied : (little : Bool) (out x : List ℕ) (m : Entry) (k to : ℕ) → record_of m ≡ moved s (record_of e)
      → k ≡ s.records + n → to ≡ record_size * k
      → x ≡ sets out to (encode little (record_of m))
      → x ≡ sets out (record_size * (s.records + n)) (encode little (moved s (record_in bs n)))
  record_copied little out x m k to p q t w =
      (rw (t, q) at w) ∙ ap (λ r. sets out (record_size * (s.records + n)) (encode little r)) (p ∙ ap (moved s) entry_is)

-- what is left to write of the records below a count, from a number on
abbrev pub left : List ℕ → ℕ → Shifts → Bool → ℕ → List ℕ → List ℕ
left bs count s little n out = sets out (record_size * (s.records + n)) (encodes little (map (moved s) (decodes (count - n) (drop (record_size * n) bs))))

-- the records below n are written: with those that are left the output is what it is to be
pub record InCopy (bs : List ℕ) (count : ℕ) (s : Shifts) (little : Bool) (was : List ℕ) (n : ℕ)
    (out : List ℕ) : Type 0 where
  pub copying : Copying bs count s was
  pub least : 1 ≤ n
  pub same : length out ≡ length was
  pub is : left bs count s little n out ≡ left bs count s little 1 was

pub copy_begins : (bs : List ℕ) (count : ℕ) (s : Shifts) (little : Bool) (out : List ℕ) → Copying bs count s out
    → InCopy bs count s little out 1 out
copy_begins bs count s little out h = record { copying = h; least = omega arith; same = refl; is = refl }

module _ {bs : List ℕ} {count : ℕ} {s : Shifts} {little : Bool} {was : List ℕ} {n : ℕ} {out : List ℕ}
    (inv : InCopy bs count s little was n out) where
  pub copy_asks : n < count → Copying bs (n + 1) s out
  copy_asks l =
      let h = inv.copying in
      record { inside = omega arith; room = omega arith; few = omega arith; movable = λ j a b. h.movable j a (omega arith) }

  -- one record less is left
  one_less : n < count
      → left bs count s little n out
      ≡ left bs count s little (n + 1)
      (sets out (record_size * (s.records + n)) (encode little (moved s (record_in bs n))))
  one_less l =
      let r = moved s (record_in bs n) in
      let k = count - (n + 1) in
      let e : count - n ≡ suc k = omega arith in
      let f : record_size * n + record_size ≡ record_size * (n + 1) = omega arith in
      let counted : length r.fields ≡ field_count = length_moved s (uses_of (record_in bs n)) (record_in bs n).fields ∙ decode_counted (take record_size (drop (record_size * n) bs)) in
      let g : record_size * (s.records + n) + length (encode little r) ≡ record_size * (s.records + (n + 1)) = omega (arith, length-encode little r counted) in
      rw (e, drop-drop record_size (record_size * n) bs, f) (sym (sets_behind (encode little r) _ out (record_size * (s.records + n)) (record_size * (s.records + (n + 1))) g))

  pub copy_goes_on : (x : List ℕ) → n < count
      → x ≡ sets out (record_size * (s.records + n)) (encode little (moved s (record_in bs n))) → length x ≡ length out
      → InCopy bs count s little was (n + 1) x
  copy_goes_on x l e k = record { copying = inv.copying; least = omega arith; same = omega arith; is = rw e (sym (one_less l) ∙ inv.is) }

  pub copy_ends : count ≤ n → out ≡ left bs count s little 1 was
  copy_ends l = let e : count - n ≡ 0 = omega arith in rw e at inv.is

pub ruleset copy_steps = (entry_movable, record_copied, copy_begins, copy_asks, copy_goes_on, copy_ends)
