-- What a step of the reader of a whole data text shows; and what its answer says of the text. Assumes nothing.
use mathlib.Core.Path.{◌≡◌, sym, ap, ◌∙◌}
use Rattle.std.specs.Prelude.{Option}
use mathlib.Core.List.{List}
use Prim.Native.Nat.{ℕ, ◌≤◌, ◌<◌}
use native.Mathlib.Omega.{arith}
use native.Mathlib.Nat.{zero-add}
use lib.ListN.{length}
use lib.Seq.{sets}
use borrow.Author.Tests.{lt-ltb, le-ltb}
use Rattle.lexis.specs.Tokens.{text_end}
use Rattle.lexis.specs.declared.Token.{Token}
use Rattle.refusals.specs.Limits.{text_limit, level_limit}
use Rattle.refusals.specs.Reading.{Reading, refused, got}
use Rattle.refusals.specs.Reading
use Rattle.refusals.specs.Parsing.{parsed, and_then, first_in}
use Rattle.refusals.specs.Refusals.{refusal}
use Rattle.refusals.specs.declared.Cause.TheVariants.{TextTooLong}
use Rattle.refusals.specs.declared.Refusal.{Refusal}
use Rattle.dadl.specs.Placed.{Span, Block, block, Entries}
use Rattle.dadl.specs.Data.{expect_data, block_from, outermost, datum_alone, data_text, block_of}
use Rattle.dadl.specs.Clauses.Tape.{entry_rows, type_start, type_end, entries_tape}
use Rattle.refusals.specs.Clauses.Answers.{ExpectIs}
use Rattle.dadl.specs.Clauses.Answers.{type_span, open_reading, Opens, OutermostIs, Wrote, RowsRoom, RowsPast, RowsIs, entries_from, type_part, TapeRoom, data_wrote, data_written}
use Rattle.std.specs.Result.{IsErrAnd}
use Rattle.std.specs.declared.result.Result.{Result}
use Rattle.std.specs.declared.result.Result.TheVariants.{Ok, Err}
use Rattle.dadl.specs.declared.tokens.Part.{Part}
use Rattle.dadl.specs.declared.tokens.Opening.{Opening}
use Rattle.dadl.specs.declared.blocks.Rows.{Rows}
use Rattle.dadl.specs.declared.DataText.{DataText}
use Rattle.dadl.proofs.TokenSteps.{passed_on}
use Rattle.refusals.proofs.StepLaws.{expected_fault, expected_token}
use Rattle.refusals.proofs.Parses.{first_then}
use Rattle.dadl.proofs.BlockSteps.{type_places, block_entries, IsRows, is_rows, rows_refused}

-- a text that is too long
pub data_long : (s : List ℕ) (levels : ℕ) (tape : List ℕ) → text_limit < length s → (x : Refusal)
    → x ≡ refusal TextTooLong text_limit → data_wrote (Err x) tape ≡ data_written tape (block_of levels s)
unfolding block_of data_text
data_long s levels tape h x e = rw (lt-ltb text_limit (length s) h, e)

-- a text that is not
module _ (levels : ℕ) (tape : List ℕ) {s : List ℕ} (h : length s ≤ text_limit) {o : Result Opening Refusal}
    (d : OutermostIs s o) where
  short : Reading.read_then (first_in (outermost levels s))
      (λ b p. first_in (and_then (expect_data s text_end p) (λ t q. parsed b q))) ≡ block_of levels s
  unfolding block_of data_text datum_alone
  short = rw (le-ltb text_limit (length s) h) (sym (first_then (outermost levels s) _))

  -- what is read once the outermost block is
  whole : (x : Reading Block) → first_in (outermost levels s) ≡ x
      → Reading.read_then x (λ b p. first_in (and_then (expect_data s text_end p) (λ t q. parsed b q))) ≡ block_of levels s
  whole x e = ap (λ y. Reading.read_then y (λ b p. first_in (and_then (expect_data s text_end p) (λ t q. parsed b q)))) (sym e) ∙ short

  pub data_shut : (x : Refusal) → o ≡ Err x → (q : Result DataText Refusal) → IsErrAnd q (λ z. z ≡ x)
      → data_wrote q tape ≡ data_written tape (block_of levels s)
  data_shut x g q i =
      let e : first_in (outermost levels s) ≡ refused x = sym (d.is levels) ∙ ap (open_reading (block_from s levels)) g in
      rw (passed_on q x i) (ap (data_written tape) (whole (refused x) e))

  module _ {w : Opening} (g : o ≡ Ok w) where
    abbrev place : ℕ
    place = w.place

    abbrev type : Option Span
    type = type_span w.type_name

    opens : first_in (outermost levels s) ≡ Reading.read_then (entries_from s levels place w.next)
        (λ ms p. got (block place type ms) p)
    opens = sym (d.is levels) ∙ ap (open_reading (block_from s levels)) g ∙ block_entries s levels place type w.next

    past : Opens s 0 w
    past = rw g at d.past

    pub data_room : levels ≤ level_limit → TapeRoom s tape → RowsRoom s levels w.next 0 tape
    data_room few room = let p = past in record { inside = omega arith; short = h; few = omega arith; long = room.room h }

    module _ {after : List ℕ} {r : Result Rows Refusal}
        (b : RowsIs s w.next 0 tape (entries_from s levels place w.next) after r) where
      pub data_refused : (x : Refusal) → r ≡ Err x → (q : Result DataText Refusal) → IsErrAnd q (λ z. z ≡ x)
          → data_wrote q after ≡ data_written tape (block_of levels s)
      data_refused x g q i =
          let f = rows_refused 0 tape after x (entries_from s levels place w.next) (rw g at b.is) in
          let e : first_in (outermost levels s) ≡ refused x = opens ∙ ap (λ y. Reading.read_then y (λ ms p. got (block place type ms) p)) f in
          rw (passed_on q x i) (ap (data_written tape) (whole (refused x) e))

      module _ {rows : Rows} (q : r ≡ Ok rows) where
        pub data_behind : rows.place ≤ length s
        data_behind = let p : RowsPast s w.next 0 (Ok rows) = rw q at b.past in omega arith

        found : IsRows 0 tape after rows (entries_from s levels place w.next)
        found = is_rows 0 tape after rows (entries_from s levels place w.next) (rw q at b.is)

        ended : Reading.read_then (first_in (expect_data s text_end rows.place)) (λ t z. got (block place type found.ms) z)
            ≡ block_of levels s
        ended =
            let e : first_in (outermost levels s) ≡ got (block place type found.ms) rows.place = opens ∙ ap (λ y. Reading.read_then y (λ ms p. got (block place type ms) p)) found.is in
            sym (first_then (expect_data s text_end rows.place) _) ∙ whole (got (block place type found.ms) rows.place) e

        module _ {v : Result Token Refusal} (k : ExpectIs s text_end rows.place (first_in (expect_data s text_end rows.place)) v) where
          pub data_endless : (x : Refusal) → v ≡ Err x → (y : Result DataText Refusal) → IsErrAnd y (λ z. z ≡ x)
              → data_wrote y after ≡ data_written tape (block_of levels s)
          data_endless x j y i = rw (passed_on y x i) (ap (data_written tape) (rw (expected_fault k x j) at ended))

          pub data_read : (t : Token) → v ≡ Ok t → (p : Part) → p ≡ type_part w.type_name
              → data_wrote (Ok (record { place = w.place; type_start = p.start; type_end = p.end; rows = rows.end; end = t.end })) after
              ≡ data_written tape (block_of levels s)
          data_read t j p u =
              let y = type_places w.type_name in
              let e : got (block place type found.ms) t.end ≡ block_of levels s = rw (expected_token k t j) at ended in
              (λ i. record {
                answer = Ok (record { place = w.place; type_start = (ap (λ (z : Part). z.start) u ∙ y.0) i; type_end = (ap (λ (z : Part). z.end) u ∙ y.1) i; rows = (found.count ∙ zero-add _) i; end = t.end });
                tape = found.tape i;
              })
              ∙ ap (data_written tape) e

-- what an answer says of the text: its block, and that the members' rows are on the tape
pub record IsData (tape after : List ℕ) (d : DataText) (reading : Reading Block) : Type 0 where
  pub type : Option Span
  pub ms : Entries
  pub is : reading ≡ got (block d.place type ms) d.end
  pub type_starts : d.type_start ≡ type_start type
  pub type_ends : d.type_end ≡ type_end type
  pub count : d.rows ≡ entry_rows ms
  pub written : after ≡ sets tape 0 (entries_tape ms 0)

pub is_data : (tape after : List ℕ) (d : DataText) (x : Reading Block)
    → data_wrote (Ok d) after ≡ data_written tape x → IsData tape after d x
is_data tape after d (refused x) e =
    let o : ◌≡◌ {A = Result DataText Refusal} (Ok d) (Err x) = ap (λ (q : Wrote DataText). q.answer) e in
    let z : ◌≡◌ {A = ℕ} 0 1 = cc in
    absurd (omega arith)
is_data tape after d (got (block p t ms) q) e =
    let r : DataText = record { place = p; type_start = type_start t; type_end = type_end t; rows = entry_rows ms; end = q } in
    let o : ◌≡◌ {A = Result DataText Refusal} (Ok d) (Ok r) = ap (λ (q : Wrote DataText). q.answer) e in
    let z : d ≡ r = cc in
    record {
      type = t;
      ms = ms;
      is = ap (λ (y : DataText). got (block y.place t ms) y.end) (sym z);
      type_starts = ap (λ (y : DataText). y.type_start) z;
      type_ends = ap (λ (y : DataText). y.type_end) z;
      count = ap (λ (y : DataText). y.rows) z;
      written = ap (λ (q : Wrote DataText). q.tape) e;
    }

pub is_data_refused : (tape after : List ℕ) (y : Refusal) (x : Reading Block)
    → data_wrote (Err y) after ≡ data_written tape x → x ≡ refused y
is_data_refused tape after y (refused x) e =
    let o : ◌≡◌ {A = Result DataText Refusal} (Err y) (Err x) = ap (λ (q : Wrote DataText). q.answer) e in
    cc
is_data_refused tape after y (got (block p t ms) q) e =
    let r : DataText = record { place = p; type_start = type_start t; type_end = type_end t; rows = entry_rows ms; end = q } in
    let o : ◌≡◌ {A = Result DataText Refusal} (Err y) (Ok r) = ap (λ (q : Wrote DataText). q.answer) e in
    let z : ◌≡◌ {A = ℕ} 0 1 = cc in
    absurd (omega arith)
