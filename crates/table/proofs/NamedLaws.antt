-- The name that a record of a table has by the rules is the one handed out, and a name is refused exactly where the rules give none. Assumes nothing.
use mathlib.Core.Path.{◌≡◌, refl, sym, ap, subst, ◌∙◌}
use mathlib.Core.Bool.{Bool, true, false, not, true≢false, false≢true}
use mathlib.Core.Logic.{◌↔◌}
use Rattle.std.specs.Prelude.{Option, None, Some}
use mathlib.Core.List.{List, [], ◌∷◌}
use Prim.Native.Nat.{ℕ, zero, suc, ◌+◌, ◌*◌, ◌≤◌, ◌<◌}
use native.Mathlib.Omega.{arith}
use lib.Dec.{lit<}
use borrow.Author.Tests.{not-false, not-true}
use Rattle.lexis.specs.Bytes.{among}
use Rattle.lexis.proofs.Cases.{by_cond}
use Rattle.meaning.specs.Sorts.{text_kind}
use Rattle.refusals.specs.Refusals.{refusal}
use Rattle.refusals.specs.declared.Refusal.{Refusal}
use Rattle.refusals.specs.declared.Cause.TheVariants.{NoName}
use Rattle.refusals.specs.Outcomes.{refused, gave, or_fault, unless}
use Rattle.refusals.proofs.Outcomes.{not_gave, same_refusal, same_given, no_fault_lem, not_found}
use Rattle.table.specs.Records.{Record, record_size, field, image_of}
use Rattle.table.specs.Rows.{object_kind, attribute_kind}
use Rattle.table.specs.Check.{kind_at, table_fault}
use Rattle.table.specs.Names.{holds_name, Slice, name_slice, name_outcome, name_answer}
use Rattle.table.specs.TableRules.{Holds, IsRecord, IsTable}
use Rattle.table.specs.Says.{NamePart, type_of, name_of, string_of, Named, NameRefuses, no_table, no_name}
use Rattle.table.proofs.CheckLaws.{kind_record, kind_inside}
use Rattle.table.proofs.NameSteps.{kind_some}
use Rattle.table.proofs.TableRuleLaws.{passes, no_table as no_table_told}
use Rattle.table.proofs.SaysLaws.{table_checked, table_count, record_held}

-- a part by its start and its length
abbrev slice : ℕ → ℕ → Slice
slice start size = record { start = start; length = size }

abbrev Part : List ℕ → ℕ → ℕ → Slice → Type 0
Part bs count n p = NamePart bs count n p.start p.length

module _ {bs : List ℕ} {count pool root : ℕ} (t : IsTable bs count pool root) where
  module _ {n : ℕ} {little : Bool} {r : Record} (h : Holds bs n little r) (k : 1 ≤ r.kind) (l : n < count) where
    -- whether a record has a name hangs on its kind
    held_name : holds_name (image_of bs) n ≡ among r.kind (object_kind ∷ attribute_kind ∷ text_kind ∷ [])
    held_name = rw (kind_record (image_of bs) n, (record_held t h k l).1)

    -- its first two fields say where it is
    held_slice : name_slice (image_of bs) n ≡ slice (record_size * count + field r 0) (field r 1)
    held_slice = rw ((record_held t h k l).1, table_count t)

    -- so the part handed out is its name, or it has none
    held_part : NamePart bs count n (record_size * count + field r 0) (field r 1)
        → Part bs count n (name_slice (image_of bs) n)
    held_part p = subst (Part bs count n) (sym held_slice) p

    held_none : {P : Type 0} → among r.kind (object_kind ∷ attribute_kind ∷ text_kind ∷ []) ≡ false
        → holds_name (image_of bs) n ≡ true → P
    held_none e f = absurd (false≢true (sym e ∙ sym held_name ∙ f))

  part_there : {n : ℕ} → IsRecord bs count pool n → n < count → holds_name (image_of bs) n ≡ true
      → Part bs count n (name_slice (image_of bs) n)
  part_there (IsRecord.object h p q e) l f = held_part h (lit< tt) l (type_of h)
  part_there (IsRecord.attribute h g p q e) l f = held_part h (lit< tt) l (name_of h)
  part_there (IsRecord.boolean h a b) l f = held_none h (lit< tt) l refl f
  part_there (IsRecord.integer h a b o e) l f = held_none h (lit< tt) l refl f
  part_there (IsRecord.string h p e) l f = held_part h (lit< tt) l (string_of h)
  part_there (IsRecord.date_pattern h a b) l f = held_none h (lit< tt) l refl f
  part_there (IsRecord.date_interval h a b o e) l f = held_none h (lit< tt) l refl f
  part_there (IsRecord.time_pattern h a b) l f = held_none h (lit< tt) l refl f
  part_there (IsRecord.duration_pattern h a b) l f = held_none h (lit< tt) l refl f

  -- a record that has a name is one of the table's, and has the part that is handed out
  named_there : (n : ℕ) → holds_name (image_of bs) n ≡ true
      → (n < count) × Part bs count n (name_slice (image_of bs) n)
  named_there zero f = absurd (false≢true f)
  named_there (suc n) f =
      let i = kind_inside (image_of bs) (suc n) (kind_some (kind_at (image_of bs) (suc n)) f) in
      let c = table_count t in
      let l : suc n < count = omega arith in
      (l, part_there (t.records (suc n) (omega arith) l) l f)

  -- a part that is a record's name is the one handed out
  named_only : {n start size : ℕ} → NamePart bs count n start size → n < count
      → (holds_name (image_of bs) n ≡ true) × (name_slice (image_of bs) n ≡ slice start size)
  named_only (type_of h) l = (held_name h (lit< tt) l, held_slice h (lit< tt) l)
  named_only (name_of h) l = (held_name h (lit< tt) l, held_slice h (lit< tt) l)
  named_only (string_of h) l = (held_name h (lit< tt) l, held_slice h (lit< tt) l)

-- a name is given exactly where the rules give it
pub name_given_lem : (bs : List ℕ) (n start size : ℕ)
    → (name_answer bs n ≡ gave (record { start = start; length = size })) ↔ Named bs n start size
unfolding name_answer
name_given_lem bs n start size = (
  λ e.
      let x = no_fault_lem (slice start size) (table_fault bs) (name_outcome (image_of bs) n) e in
      let y = not_found (slice start size) (not (holds_name (image_of bs) n)) (refusal NoName n) (gave (name_slice (image_of bs) n)) x.1 in
      let q = (passes bs).0 x.0 in
      let p = named_there q.3 n (not-false (holds_name (image_of bs) n) y.0) in
      record {
        count = q.0;
        pool = q.1;
        root = q.2;
        table = q.3;
        inside = p.0;
        part = subst (Part bs q.0 n) (same_given y.1) p.1;
      },
  λ x.
      let p = named_only x.table x.part x.inside in
      rw (table_checked x.table, p.0, p.1),
)

-- a table's record that has no name by the rules is refused
no_part : {bs : List ℕ} {count pool root : ℕ} (n : ℕ) → IsTable bs count pool root
    → (n < count → (start size : ℕ) → ¬ NamePart bs count n start size) → (b : Bool) → holds_name (image_of bs) n ≡ b
    → unless (not b) (refusal NoName n) (gave (name_slice (image_of bs) n)) ≡ refused (refusal NoName n)
no_part n t h true e = let p = named_there t n e in absurd (h p.0 _ _ p.1)
no_part n t h false e = refl

-- a name is refused where the bytes are no table, or the record has none
refused_there : (bs : List ℕ) (n : ℕ) (r : Refusal) (f : Option Refusal) → table_fault bs ≡ f
    → or_fault f (name_outcome (image_of bs) n) ≡ refused r → NameRefuses bs n r
refused_there bs n r (Some x) f e = no_table ((no_table_told bs r).0 (f ∙ ap Some (same_refusal e)))
refused_there bs n r None f e =
    let q = (passes bs).0 f in
    by_cond (λ o. o ≡ refused r → NameRefuses bs n r) (not (holds_name (image_of bs) n))
    (λ h g.
    let b = not-true (holds_name (image_of bs) n) h in
    subst (NameRefuses bs n) (same_refusal g) (no_name q.3 (λ l start size p. true≢false (sym (named_only q.3 p l).0 ∙ b))))
    (λ h g. absurd (not_gave (sym g)))
    e

refused_only : {bs : List ℕ} {n : ℕ} {r : Refusal} → NameRefuses bs n r
    → or_fault (table_fault bs) (name_outcome (image_of bs) n) ≡ refused r
refused_only {bs} (no_table {r = r} h) = rw ((no_table_told bs r).1 h)
refused_only {bs} {n} (no_name t h) = rw (table_checked t) (no_part n t h (holds_name (image_of bs) n) refl)

-- and refused exactly where they refuse it
pub name_refused : (bs : List ℕ) (n : ℕ) (r : Refusal) → (name_answer bs n ≡ refused r) ↔ NameRefuses bs n r
unfolding name_answer
name_refused bs n r = (refused_there bs n r (table_fault bs) refl, refused_only)
