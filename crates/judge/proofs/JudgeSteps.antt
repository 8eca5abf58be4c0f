-- Steps of the functions that check the table, find the root and read the text, and of the answer that they give. Assumes nothing.
use mathlib.Core.Path.{◌≡◌, refl, sym, ap, ◌∙◌, subst}
use mathlib.Core.Bool.{true}
use Rattle.std.specs.Prelude.{Option, None, Some, option_map as map}
use Rattle.std.specs.Result.{IsErrAnd}
use Rattle.std.proofs.lemmas.Result.{err_from_is_err_and}
use Rattle.std.specs.declared.result.Result.{Result}
use Rattle.std.specs.declared.result.Result.TheVariants.{Ok, Err}
use mathlib.Core.List.{List, ◌∷◌, ◌++◌}
use Prim.Native.Nat.{ℕ, zero, suc, ◌*◌, ◌-◌, ◌≤◌}
use native.Mathlib.Nat.{zero-add}
use native.Mathlib.Omega.{arith}
use lib.ListN.{length, take, drop, length-take, length-drop, take-append-drop, get_or-eq_default}
use lib.Seq.{sets-eq, take_all}
use borrow.Author.Tests.{ne_eqb}
use Rattle.values.proofs.Common.{by_order}
use Rattle.refusals.specs.Limits.{level_limit}
use Rattle.refusals.specs.Refusals.{refusal}
use Rattle.refusals.specs.Outcomes.{Outcome, refused, gave}
use Rattle.refusals.specs.declared.Refusal.{Refusal}
use Rattle.refusals.specs.declared.Cause.TheVariants.{NotAnObject}
use Rattle.meaning.specs.Data.{datum}
use Rattle.meaning.specs.Data
use Rattle.meaning.specs.Judging.{judge_value}
use Rattle.meaning.specs.Verdicts.{Verdict}
use Rattle.dadl.specs.Placed.{Span, block, spelled_span, spelled_block, spelled_entries}
use Rattle.dadl.specs.Data.{block_of}
use Rattle.dadl.specs.Clauses.Tape.{entry_rows, entries_tape, type_start, type_end}
use Rattle.dadl.specs.Clauses.Rows.{TapeGood, linked}
use Rattle.dadl.specs.Clauses.Answers.{TapeRoom, data_wrote, data_written}
use Rattle.dadl.specs.declared.DataText.{DataText}
use Rattle.dadl.specs.declared.tokens.Part.{Part}
use Rattle.dadl.proofs.TapeLaws.{at_start, entries_length, entries_back}
use Rattle.dadl.proofs.GoodTapes.{TypeLies, each_ended}
use Rattle.dadl.proofs.TextTape.{datum_got, datum_refused, text_lies, text_room, text_good}
use Rattle.dadl.proofs.TreeReading.{accepted}
use Rattle.dadl.proofs.DataSteps.{IsData, is_data, is_data_refused}
use Rattle.table.specs.Records.{Record, Image, record_size, field, count, header, image_of}
use Rattle.table.specs.Check.{kind_at, table_fault}
use Rattle.table.specs.Names.{record_at}
use Rattle.table.specs.Rows.{Shape, table_header, object, attribute, text, single, range, shape_of, kind_of, is_known}
use Rattle.table.specs.Trees.{nothing, value_in, trees_of, tree_at, object_in, object_at}
use Rattle.table.specs.Clauses.Answers.{fault_of}
use Rattle.table.specs.declared.records.Frame.{Frame}
use Rattle.table.specs.declared.records.RecordNumber.{RecordNumber}
use Rattle.table.proofs.CheckLaws.{check_sound, kind_record}
use Rattle.table.proofs.TreeLaws.{length-trees_of}
use Rattle.table.proofs.NameSteps.{sound_open, passed_none}
use Rattle.table.proofs.WalkLaws.{node_by, node_of, tree_node}
use Rattle.table.proofs.UseLaws.{kind_shape}
use Rattle.judge.specs.Judge.{under_root, judge_answer}
use Rattle.judge_admission.specs.Clauses.Items.{image_from, TableGood}
use Rattle.judge_tape.specs.Clauses.Rows.{type_at, type_on, datum_on, TypeGood, BlockGood, DatumWithin}
use Rattle.judge_attributes.specs.Clauses.Attributes.{block_under}
use Rattle.judge.specs.Clauses.Answers.{answer_of}
use Rattle.judge.specs.declared.Denial.{Denial}
use Rattle.judge.specs.declared.Denial.TheVariants.{Refused}
use Rattle.judge.specs.Clauses.Walk.{Under}
use Rattle.judge_tape.specs.declared.members.Block as members
use Rattle.judge_admission.proofs.TableLaws.{object_tree}
use Rattle.judge.proofs.Depth.{text_within}

-- a type that lies in the text is read back from its places
type_back : (s : List ℕ) (t : Option Span) → TypeLies (length s) t
    → type_on s (type_at (type_start t) (type_end t)) ≡ map (spelled_span s) t
type_back s None h = refl
type_back s (Some x) h = rw (ne_eqb x.end 0 (λ e. omega arith))

type_lies : (size : ℕ) (t : Option Span) → TypeLies size t → TypeGood size (type_at (type_start t) (type_end t))
type_lies size None h = tt
type_lies size (Some x) h = rw (ne_eqb x.end 0 (λ e. omega arith)) (omega arith, omega arith)

-- what a text that is read leaves to judge
abbrev outermost : DataText → members.Block
outermost x = record { place = x.place; type_name = type_at x.type_start x.type_end; first = 0; inside = x.rows }

module _ (s tape after : List ℕ) (x : DataText) (room : TapeRoom s tape)
    (d : IsData tape after x (block_of level_limit s)) where
  -- the rows of the members begin the tape
  tape_begins : after ≡ entries_tape d.ms 0 ++ drop (length (entries_tape d.ms 0)) tape
  tape_begins =
      let a = accepted level_limit s (block x.place d.type d.ms) x.end d.is in
      let r = text_room level_limit s x.place d.type d.ms x.end d.is in
      let m = room.room a.short in
      let l = entries_length d.ms 0 in
      d.written ∙ sets-eq (entries_tape d.ms 0) tape 0 (omega arith) ∙ ap (λ k. entries_tape d.ms 0 ++ drop k tape) (zero-add (length (entries_tape d.ms 0)))

  tape_good : TapeGood (length s) x.rows after
  tape_good = rw (d.count, tape_begins) (text_good level_limit s x.place d.type d.ms x.end d.is (drop (length (entries_tape d.ms 0)) tape))

  rows_few : x.rows ≤ 4_096
  rows_few =
      let a = accepted level_limit s (block x.place d.type d.ms) x.end d.is in
      let r = text_room level_limit s x.place d.type d.ms x.end d.is in
      let l = a.short in
      rw d.count (omega arith)

  members_back : linked s x.rows after x.rows 0 ≡ spelled_entries d.ms s
  members_back =
      rw (d.count, tape_begins)
      (entries_back s (entry_rows d.ms) (entries_tape d.ms 0 ++ drop (length (entries_tape d.ms 0)) tape) d.ms 0
      (each_ended (length s) d.ms (text_lies level_limit s x.place d.type d.ms x.end d.is)) (at_start (entries_tape d.ms 0) _) (omega arith))

  -- the block that the walk takes is the text's
  datum_back : datum_on s x.rows after (outermost x) ≡ spelled_block (block x.place d.type d.ms) s
  unfolding spelled_block
  datum_back =
      let a = accepted level_limit s (block x.place d.type d.ms) x.end d.is in
      let t : type_on s (type_at x.type_start x.type_end) ≡ map (spelled_span s) d.type = rw (d.type_starts, d.type_ends) (type_back s d.type a.lies.1) in
      λ j. datum x.place (t j) (members_back j)

  block_good : BlockGood (length s) x.rows (outermost x)
  block_good =
      let a = accepted level_limit s (block x.place d.type d.ms) x.end d.is in
      record { lies = rw (d.type_starts, d.type_ends) (type_lies (length s) d.type a.lies.1); begins = record { there = λ h. h } }

  datum_within : DatumWithin (datum_on s x.rows after (outermost x)) level_limit
  datum_within = subst (λ x. DatumWithin x level_limit) (sym datum_back) (text_within level_limit s (block x.place d.type d.ms) x.end d.is)

-- a text by an object
module _ (records pool s : List ℕ) (root : RecordNumber) (t : TableGood records pool)
    (k : kind_at (image_from records pool) root.0 ≡ 1) (tape after : List ℕ) (x : Result DataText Refusal)
    (ex : data_wrote x after ≡ data_written tape (block_of level_limit s)) where
  pub text_refused : (why : Refusal) → x ≡ Err why
      → refused why ≡ under_root root.0 s (object_at (image_from records pool) root.0)
  text_refused why h =
      let e = datum_refused level_limit s why (is_data_refused tape after why (block_of level_limit s) (rw h at ex)) in
      rw (object_tree records pool t root.0 k, e)

  module _ (d : DataText) (h : x ≡ Ok d) where
    is : IsData tape after d (block_of level_limit s)
    is = is_data tape after d (block_of level_limit s) (rw h at ex)

    module _ (room : TapeRoom s tape) (type : Option Part) (et : type ≡ type_at d.type_start d.type_end) where
      pub text_under : Under records pool s after d.rows 16 root.0
          (record { place = d.place; type_name = type; first = 0; inside = d.rows })
      text_under = record {
        walk = record { checked = t; good = tape_good s tape after d room is; few = rows_few s tape after d room is };
        kind = k;
        good = rw et (block_good s tape after d room is);
        row = record { there = omega arith; holds = λ h. absurd (omega arith); is = λ h. absurd (omega arith) };
        within = rw et (datum_within s tape after d room is);
      }

      pub text_judged : (v : Verdict)
          → v
          ≡ block_under (image_from records pool) s d.rows after root.0
          (record { place = d.place; type_name = type; first = 0; inside = d.rows })
          → gave v ≡ under_root root.0 s (object_at (image_from records pool) root.0)
      unfolding judge_value
      text_judged v ev =
          let e = datum_got level_limit s (block d.place is.type is.ms) d.end is.is in
          let b : datum_on s d.rows after (record { place = d.place; type_name = type; first = 0; inside = d.rows }) ≡ spelled_block (block d.place is.type is.ms) s = rw et (datum_back s tape after d room is) in
          let o = object_tree records pool t root.0 k in
          let f : v ≡ judge_value (value_in (tree_at (image_from records pool) root.0)) (Data.block (spelled_block (block d.place is.type is.ms) s)) = ev ∙ ap (λ x. judge_value (value_in (tree_at (image_from records pool) root.0)) (Data.block x)) b in
          ap gave (rw o at f) ∙ rw (o, e)

-- what is no object of a checked table
no_object : (m : Image) (n : ℕ) (r : Record) → (r.kind ≡ 1 → ⊥) → object_in (node_of m n r) ≡ None
no_object m n r h = by (shape_of r.kind) (kind_shape r.kind)
  where
    by : (s : Shape) → (is_known s ≡ true → r.kind ≡ kind_of s) → object_in (node_by s m n r) ≡ None
    by table_header e = refl
    by object e = absurd (h (e refl))
    by attribute e = refl
    by text e = refl
    by (single sort) e = refl
    by (range sort) e = refl

none_there : (bs : List ℕ) → table_fault bs ≡ None → (n : ℕ) → (kind_at (image_of bs) n ≡ 1 → ⊥)
    → object_at (image_of bs) n ≡ None
unfolding tree_at
none_there bs t zero h = refl
none_there bs t (suc n) h =
    by_order (count (image_of bs)) (suc n)
    (λ l. ap object_in (get_or-eq_default (nothing ∷ trees_of (image_of bs)) nothing {n = suc n} (rw (length-trees_of (image_of bs)) l)))
    (λ l. ap object_in (tree_node (image_of bs) (check_sound bs t) (suc n) (omega arith) l)
    ∙ no_object (image_of bs) (suc n) (record_at (image_of bs) (suc n)) (λ e. h (kind_record (image_of bs) (suc n) ∙ e)))

-- a checked table in two parts: its records and its pool
module _ (bs text : List ℕ) (root : RecordNumber) (t : table_fault bs ≡ None) (f : Frame)
    (ef : (f.count ≡ field (header bs) 0) × (f.pool ≡ field (header bs) 1)) (k : ℕ)
    (ek : k ≡ kind_at (image_of bs) root.0) where
  pub root_none : (k ≡ 1 → ⊥)
      → refused (refusal NotAnObject root.0) ≡ under_root root.0 text (object_at (image_of bs) root.0)
  root_none h = rw (none_there bs t root.0 (λ e. h (ek ∙ e)))

  module _ (end : ℕ) (ee : end ≡ record_size * f.count) where
    pub records_end : end ≤ length bs
    records_end = let o = (sound_open bs t f ef).whole in omega arith

    parts_are : take (end - 0) (drop 0 bs) ++ take (length bs - end) (drop end bs) ≡ bs
    parts_are =
        let l = records_end in
        let e : end - 0 ≡ end = omega arith in
        rw (e, take_all (length bs - end) (drop end bs) (rw length-drop (omega arith))) (take-append-drop end bs)

    pub parts_good : TableGood (take (end - 0) (drop 0 bs)) (take (length bs - end) (drop end bs))
    parts_good =
        let l = records_end in
        let e : end - 0 ≡ end = omega arith in
        record { checked = rw parts_are t; whole = rw (parts_are, e, length-take, ← ef.0, ← ee) (omega arith) }

    pub parts_kind : (k ≡ 1)
        → kind_at (image_from (take (end - 0) (drop 0 bs)) (take (length bs - end) (drop end bs))) root.0 ≡ 1
    parts_kind h = rw parts_are (sym ek ∙ h)

    pub parts_judged : (a : Outcome Refusal Verdict)
        → a ≡ under_root root.0 text
        (object_at (image_from (take (end - 0) (drop 0 bs)) (take (length bs - end) (drop end bs))) root.0)
        → a ≡ under_root root.0 text (object_at (image_of bs) root.0)
    parts_judged a h = rw parts_are at h

-- the check goes before
module _ {A : Type 0} (bs text : List ℕ) (root : ℕ) (c : Result A Refusal) (ec : fault_of c ≡ table_fault bs) where
  pub table_refused : (why : Refusal) → c ≡ Err why → {B : Type 0} (q : Result B Denial) → IsErrAnd q (λ d. d ≡ Refused why)
      → answer_of q ≡ judge_answer bs root text
  unfolding judge_answer
  table_refused why h q i = let p = err_from_is_err_and q i in rw (p.1, p.2, ← ec, h)

  pub table_judged : (x : A) (a : Outcome Refusal Verdict) → c ≡ Ok x
      → a ≡ under_root root text (object_at (image_of bs) root) → a ≡ judge_answer bs root text
  unfolding judge_answer
  table_judged x a h q = rw (passed_none bs c x ec h) q
