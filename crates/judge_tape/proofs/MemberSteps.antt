-- Steps of the functions that read the tape and seek a member. Assumes nothing.
use mathlib.Core.Path.{◌≡◌, refl, sym, ap, ap₂, ◌∙◌}
use mathlib.Core.Bool.{Bool, true, false, cond}
use Rattle.std.specs.Prelude.{Option, None, Some}
use mathlib.Core.List.{List}
use Prim.Native.Nat.{ℕ, zero, suc, ◌+◌, ◌*◌, ◌-◌, ◌≤◌, ◌<◌}
use native.Mathlib.Omega.{arith}
use lib.ListN.{length, get_or}
use lib.Dec.{eqb}
use borrow.Author.Tests.{eqb-false, ne_eqb}
use Rattle.lexis.specs.Runs.{part, same}
use Rattle.lexis.proofs.Cases.{by_cond}
use Rattle.meaning.specs.Data.{Members, Content}
use Rattle.meaning.specs.Data
use Rattle.meaning.specs.Judging.{member_of}
use Rattle.dadl.specs.Clauses.Tape.{row_size, row_number, members_at}
use Rattle.dadl.specs.Clauses.Rows.{row_at, TapeGood, linked, walked}
use Rattle.dadl.specs.Clauses.Answers.{name_at, NameLies}
use Rattle.dadl.proofs.TapeLaws.{number_at}
use Rattle.dadl.proofs.GoodTapes.{good_step}
use Rattle.judge_tape.specs.Clauses.Rows.{content_on, row_from, member_row, Begins, LeafRow}

-- a number of a row, as it is read
pub number_read : (tape : List ℕ) (n i r : ℕ) → i < row_size → r ≡ get_or tape (row_size * n + i) 0
    → r ≡ row_number (row_at tape n) i
number_read tape n i r h e = e ∙ sym (number_at tape n i h)

-- a row that there is lies on the tape
pub row_lies : (size rows : ℕ) (tape : List ℕ) (n : ℕ) → TapeGood size rows tape → n < rows
    → row_size * n + row_size ≤ length tape
row_lies size rows tape n g h = let r = g.room in omega arith

-- at row n of the search
pub record InRows (s tape : List ℕ) (rows first inside : ℕ) (name : List ℕ) (n : ℕ) : Type 0 where
  pub fuel : ℕ
  pub enough : rows ≤ n + fuel
  pub there : n < rows
  pub is : row_from s tape name fuel n ≡ member_row s tape rows first inside name

pub rows_none : (s tape : List ℕ) (rows first inside : ℕ) (name : List ℕ) → inside ≡ 0
    → None ≡ member_row s tape rows first inside name
rows_none s tape rows first inside name h = rw h

pub rows_start : (s tape : List ℕ) (rows first inside : ℕ) (name : List ℕ) → Begins rows first inside → (inside ≡ 0 → ⊥)
    → InRows s tape rows first inside name first
rows_start s tape rows first inside name b h = record { fuel = rows; enough = omega arith; there = b.there (omega arith); is = rw (ne_eqb inside 0 h) }

module _ (s tape : List ℕ) (rows first inside : ℕ) (name : List ℕ) (n : ℕ) (g : TapeGood (length s) rows tape)
    (i : InRows s tape rows first inside name n) where
  -- the row at hand, or one behind it
  abbrev either : Bool → ℕ → ℕ → Option ℕ
  either here fuel next = cond here (Some n) (cond (eqb next 0) None (row_from s tape name fuel next))

  now_or_later : (fuel : ℕ) × (rows ≤ suc n + fuel)
      × (either (same name (part s (row_number (row_at tape n) 1) (row_number (row_at tape n) 2))) fuel
      (row_number (row_at tape n) 8) ≡ member_row s tape rows first inside name)
  unfolding row_from
  now_or_later = by i.fuel i.enough i.is
    where
      by : (fuel : ℕ) → rows ≤ n + fuel → row_from s tape name fuel n ≡ member_row s tape rows first inside name
          → (fuel : ℕ) × (rows ≤ suc n + fuel)
          × (either (same name (part s (row_number (row_at tape n) 1) (row_number (row_at tape n) 2))) fuel
          (row_number (row_at tape n) 8) ≡ member_row s tape rows first inside name)
      by zero l e = absurd (let t = i.there in omega arith)
      by (suc fuel) l e = (fuel, omega arith, e)

  pub name_lies : NameLies s tape n
  name_lies =
      let q = g.rows n i.there in
      let x = number_at tape n 1 (omega arith) in
      let y = number_at tape n 2 (omega arith) in
      record { room = let r = row_lies (length s) rows tape n g i.there in omega arith; order = let o = q.name_start in omega arith; inside = rw y at q.name_end }

  name_at_lem : name_at s tape n ≡ part s (row_number (row_at tape n) 1) (row_number (row_at tape n) 2)
  name_at_lem = rw (number_at tape n 1 (omega arith), number_at tape n 2 (omega arith))

  module _ (w : List ℕ) (ew : w ≡ name_at s tape n) (r : Bool) (er : r ≡ same name w) where
    pub rows_found : r ≡ true → Some n ≡ member_row s tape rows first inside name
    rows_found h = ap (λ b. either b now_or_later.0 (row_number (row_at tape n) 8)) (sym h ∙ er ∙ ap (same name) (ew ∙ name_at_lem)) ∙ now_or_later.2

    module _ (h : r ≡ false) (next : ℕ) (en : next ≡ row_number (row_at tape n) 8) where
      later : cond (eqb next 0) None (row_from s tape name now_or_later.0 next)
          ≡ member_row s tape rows first inside name
      later = ap₂ (λ b k. either b now_or_later.0 k) (sym h ∙ er ∙ ap (same name) (ew ∙ name_at_lem)) en ∙ now_or_later.2

      pub rows_end : next ≡ 0 → None ≡ member_row s tape rows first inside name
      rows_end z = rw z at later

      module _ (z : next ≡ 0 → ⊥) where
        up : (n < next) × (next < rows)
        up = let q = (g.rows n i.there).next in let k : 0 < row_number (row_at tape n) 8 = rw (← en) (omega arith) in rw (← en) at (q k)

        pub rows_next : InRows s tape rows first inside name next
        rows_next = record { fuel = now_or_later.0; enough = let l = now_or_later.1 in let u = up in omega arith; there = up.1; is = rw (ne_eqb next 0 z) at later }

        pub rows_less : rows - next < rows - n
        rows_less = let u = up in omega arith

-- what the row that was found holds
abbrev pub found_on : List ℕ → ℕ → List ℕ → Option ℕ → Option Content
found_on s rows tape None = None
found_on s rows tape (Some n) = Some (content_on s rows tape n)

-- a row that was found is on the tape
abbrev pub FoundThere : ℕ → Option ℕ → Type 0
FoundThere rows None = Unit {0}
FoundThere rows (Some n) = n < rows

-- the row found is that of the member with the name
pub record FoundIs (s : List ℕ) (rows : ℕ) (tape : List ℕ) (ms : Members) (name : List ℕ) (o : Option ℕ) : Type 0 where
  pub is : found_on s rows tape o ≡ member_of name ms
  pub there : FoundThere rows o

module _ (s : List ℕ) (rows : ℕ) (tape name : List ℕ) (g : TapeGood (length s) rows tape) where
  row_holds : (fuel n : ℕ) → n < rows → rows ≤ n + fuel
      → FoundIs s rows tape (members_at s rows tape n) name (row_from s tape name fuel n)
  unfolding row_from member_of
  row_holds zero n h l = absurd (omega arith)
  row_holds (suc fuel) n h l =
      let row = row_at tape n in
      let next = row_number row 8 in
      rw (good_step s (length s) rows tape n g h)
      (by_cond (λ o. FoundIs s rows tape (walked s rows tape n row) name o) (same name (part s (row_number row 1) (row_number row 2)))
      (λ e. record { is = rw e; there = h })
      (λ e. by_cond (λ o. FoundIs s rows tape (walked s rows tape n row) name o) (eqb next 0)
      (λ z. record { is = rw (e, z); there = tt })
      (λ z.
      let u = (g.rows n h).next (let q = eqb-false next 0 z in omega arith) in
      let k = row_holds fuel next u.1 (omega arith) in
      record { is = rw (e, z) k.is; there = k.there })))

  pub member_holds : (first inside : ℕ) → Begins rows first inside
      → FoundIs s rows tape (linked s rows tape inside first) name (member_row s tape rows first inside name)
  unfolding member_of
  member_holds first inside b =
      by (eqb inside 0) refl
    where
      by : (z : Bool) → eqb inside 0 ≡ z
          → FoundIs s rows tape (cond z Data.no_more (members_at s rows tape first)) name
          (cond z None (row_from s tape name rows first))
      by true e = record { is = refl; there = tt }
      by false e = row_holds rows first (b.there (let q = eqb-false inside 0 e in omega arith)) (omega arith)

-- where the value of a row that holds a string or a word lies
module _ (s : List ℕ) (rows : ℕ) (tape : List ℕ) (n start end : ℕ) (g : TapeGood (length s) rows tape)
    (l : LeafRow rows tape n) (es : start ≡ row_number (row_at tape n) 6) (ee : end ≡ row_number (row_at tape n) 7) where
  pub value_order : start ≤ end
  value_order = let r = (g.rows n l.there).value l.leaf in omega arith

  pub value_ends : end ≤ length s
  value_ends = let r = (g.rows n l.there).value l.leaf in omega arith
