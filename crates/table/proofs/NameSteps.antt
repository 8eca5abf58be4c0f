-- Steps of the functions that hand out names, and that a name lies in its table. Assumes nothing.
use mathlib.Core.Path.{◌≡◌, refl, sym, ap, ◌∙◌}
use mathlib.Core.Bool.{Bool, true, false, not, false≢true}
use Rattle.std.specs.Prelude.{None}
use mathlib.Core.List.{List, [], ◌∷◌}
use Prim.Native.Nat.{ℕ, zero, suc, ◌+◌, ◌*◌, ◌-◌, ◌^◌, ◌≤◌, ◌<◌}
use native.Mathlib.Nat.{add-sub_cancel_left}
use native.Mathlib.Omega.{arith}
use lib.ListN
use lib.ListN.{length, get_or, take, drop}
use mir.Syntax.{w64}
use mir.Val.{Fits}
use borrow.Author.Tests.{not-false, ne_eqb}
use Rattle.lexis.specs.Bytes.{among}
use Rattle.meaning.specs.Sorts.{text_kind}
use Rattle.refusals.specs.Refusals.{refusal}
use Rattle.refusals.specs.declared.Refusal.{Refusal}
use Rattle.refusals.specs.declared.Cause.TheVariants.{NoName}
use Rattle.refusals.specs.Outcomes.{refused, gave}
use Rattle.refusals.proofs.Outcomes.{same_given, no_fault_lem, not_found}
use Rattle.table.specs.Records.{Image, record_size, decode, field, header, image_of}
use Rattle.table.specs.Rows.{shape_of, object_kind, attribute_kind, unnamed, place, row_of}
use Rattle.table.specs.Check.{kind_at, field_right, table_fault}
use Rattle.table.specs.Names.{record_at, holds_name, Slice, name_slice, name_outcome, name_answer, slice_bytes}
use Rattle.table.specs.Clauses.Answers.{record_of, Opened, fault_of, slice_of, answer_of}
use Rattle.table.specs.declared.records.Entry.{Entry}
use Rattle.table.specs.declared.records.Frame.{Frame}
use Rattle.table.specs.declared.names.NamePart.{NamePart}
use Rattle.std.specs.declared.result.Result.{Result}
use Rattle.std.specs.declared.result.Result.TheVariants.{Ok, Err}
use Rattle.table.proofs.Checked.{Checked}
use Rattle.table.proofs.UseLaws.{place_right}
use Rattle.table.proofs.CheckLaws.{count-framed, pool_framed, fault_none, check_sound, record_good, field_at, kind_record, kind_inside}
use Rattle.table.proofs.FrameLaws.{count_opened, record_opened, framed_opened}

-- a kind above those that have a name
name_past : (k : ℕ) → 5 ≤ k → (k ≡ 5 → ⊥) → false ≡ among k (object_kind ∷ attribute_kind ∷ text_kind ∷ [])
name_past k h g = rw (ne_eqb k 1 (λ e. omega arith), ne_eqb k 2 (λ e. omega arith), ne_eqb k 5 g)

-- a record that has a name is one of the table's, but the header
pub kind_some : (k : ℕ) → among k (object_kind ∷ attribute_kind ∷ text_kind ∷ []) ≡ true → 1 ≤ k
kind_some zero e = absurd (false≢true e)
kind_some (suc k) e = omega arith

number_some : (m : Image) (n : ℕ) → 1 ≤ kind_at m n → 1 ≤ n
number_some m zero h = h
number_some m (suc n) h = omega arith

-- bytes that pass the check are opened by the counts in their header
module _ (bs : List ℕ) (t : table_fault bs ≡ None) where
  pub sound_long : record_size ≤ length bs
  sound_long = (fault_none bs t).frame.long

  pub sound_open : (f : Frame) → (f.count ≡ field (header bs) 0) × (f.pool ≡ field (header bs) 1) → Opened bs f
  sound_open f q = framed_opened bs f (fault_none bs t).frame q.0 q.1

-- where the name lies, as it is read
pub part_read : (bs : List ℕ) (f : Frame) (n at start : ℕ) (e : Entry) → Opened bs f → (1 ≤ n) × (n < f.count)
    → at ≡ record_size * n → record_of e ≡ decode (take record_size (drop at bs))
    → start ≡ record_size * f.count + e.a → record { start = start; length = e.b } ≡ name_slice (image_of bs) n
part_read bs f n at start e o h ea q es =
    let r = record_opened bs f o n h.0 h.1 in
    rw (es, r, count_opened bs f o, ← ea, ← q)

-- the name of a record in a table that passes the check
module _ (bs : List ℕ) (f : Frame) (n k : ℕ) (h : Bool) (ek : k ≡ kind_at (image_of bs) n)
    (eh : h ≡ among k (object_kind ∷ attribute_kind ∷ text_kind ∷ [])) where
  pub name_refused : (w : Refusal) → h ≡ false → w ≡ refusal NoName n → refused w ≡ name_outcome (image_of bs) n
  name_refused w g k = rw (← ek, ← eh, g, k)

  module _ (g : h ≡ true) where
    pub name-found : (p : NamePart) → slice_of p ≡ name_slice (image_of bs) n
        → gave (slice_of p) ≡ name_outcome (image_of bs) n
    name-found p q = rw (← ek, ← eh, g) (ap gave q)

    pub name-inside : table_fault bs ≡ None → (f.count ≡ field (header bs) 0) × (f.pool ≡ field (header bs) 1)
        → Opened bs f × ((1 ≤ n) × (n < f.count))
    name-inside t q =
        let o = sound_open bs t f q in
        let l : 1 ≤ kind_at (image_of bs) n = rw (← ek) (kind_some k (sym eh ∙ g)) in
        (o, (number_some (image_of bs) n l, rw (count_opened bs f o) at (kind_inside (image_of bs) n l)))

-- what a check that was passed says of its table
pub passed_none : {A : Type 0} (bs : List ℕ) (a : Result A Refusal) (x : A) → fault_of a ≡ table_fault bs → a ≡ Ok x
    → table_fault bs ≡ None
passed_none bs a x e h = sym e ∙ ap fault_of h

-- the check's answer goes before
module _ {A : Type 0} (bs : List ℕ) (n : ℕ) (a : Result A Refusal) (e : fault_of a ≡ table_fault bs) where
  pub check_refused : (r : Refusal) → a ≡ Err r → refused r ≡ name_answer bs n
  unfolding name_answer
  check_refused r h = rw (← e, h)

  pub name_told_lem : (x : A) (r : Result NamePart Refusal) → a ≡ Ok x → answer_of r ≡ name_outcome (image_of bs) n
      → answer_of r ≡ name_answer bs n
  unfolding name_answer
  name_told_lem x r h q = rw (passed_none bs a x e h) q

-- the first field of a kind that has a name is a name's place
name_use : {P : Type 0} (k : ℕ) (xs : List ℕ) → among k (object_kind ∷ attribute_kind ∷ text_kind ∷ []) ≡ true
    → ((least most : ℕ) → get_or ((row_of k).uses xs) 0 unnamed ≡ place least most → P) → P
unfolding shape_of
name_use zero xs e f = absurd (false≢true e)
name_use (suc zero) xs e f = f 1 63 refl
name_use (suc (suc zero)) xs e f = f 1 63 refl
name_use (suc (suc (suc zero))) xs e f = absurd (false≢true e)
name_use (suc (suc (suc (suc zero)))) xs e f = absurd (false≢true e)
name_use (suc (suc (suc (suc (suc zero))))) xs e f = f 0 255 refl
name_use (suc (suc (suc (suc (suc (suc k)))))) xs e f = absurd (false≢true (name_past (suc (suc (suc (suc (suc (suc k)))))) (omega arith) (λ q. omega arith) ∙ e))

-- the name of a record of a checked table lies in the pool
pub name_in_pool : (m : Image) (n : ℕ) → Checked m → holds_name m n ≡ true
    → field (record_at m n) 0 + field (record_at m n) 1 ≤ length m.pool
name_in_pool m n c h =
    let l = kind_some (kind_at m n) h in
    let g = record_good m n c (number_some m n l) (kind_inside m n l) in
    let x = field (record_at m n) 0 in
    let next = field (record_at m n) 1 in
    name_use (record_at m n).kind (record_at m n).fields (rw (kind_record m n) at h)
    (λ least most u. (place_right m n least most x next (ap (λ v. field_right m n v x next) (sym u) ∙ field_at g 0 (omega arith))).inside)

-- so it lies in the bytes
part-fits : (bs : List ℕ) (n : ℕ) (p : Slice) → table_fault bs ≡ None → name_outcome (image_of bs) n ≡ gave p
    → p.start + p.length ≤ length bs
part-fits bs n p t e =
    let m = image_of bs in
    let s = fault_none bs t in
    let x = not_found p (not (holds_name m n)) (refusal NoName n) (gave (name_slice m n)) e in
    let k = name_in_pool m n (check_sound bs t) (not-false (holds_name m n) x.0) in
    let c = count-framed bs s.frame in
    let b = pool_framed bs s.frame in
    let w = s.frame.whole in
    rw (← same_given x.1) (omega arith)

pub name-fits : (bs : List ℕ) (n : ℕ) (p : Slice) → name_answer bs n ≡ gave p → p.start + p.length ≤ length bs
unfolding name_answer
name-fits bs n p e = let x = no_fault_lem p (table_fault bs) (name_outcome (image_of bs) n) e in part-fits bs n p x.0 x.1

-- the part handed out
module _ (bs : List ℕ) (n : ℕ) (a : Result NamePart Refusal) (e : answer_of a ≡ name_answer bs n) where
  module _ (p : NamePart) (h : a ≡ Ok p) where
    pub end_inside : p.start + p.length ≤ ListN.length bs
    end_inside = name-fits bs n (slice_of p) (sym e ∙ ap answer_of h)

    pub end_fits : ListN.length bs < 2 ^ 64 → Fits w64 (p.start + p.length)
    end_fits l = let k = end_inside in record { fits = omega arith }

    pub part_is : take (p.start + p.length - p.start) (drop p.start bs) ≡ slice_bytes bs (name_answer bs n)
    part_is = rw (← e, h, add-sub_cancel_left p.start p.length)

  pub part-empty : (r : Refusal) → a ≡ Err r → take (0 - 0) (drop 0 bs) ≡ slice_bytes bs (name_answer bs n)
  part-empty r h = rw (← e, h)

pub ruleset name_steps = (sound_long, sound_open, part_read, name_refused, name-found, name-inside, passed_none, check_refused, name_told_lem, end_inside, end_fits, part_is, part-empty)
