-- Steps of the functions that move a record. Assumes nothing.
use mathlib.Core.Path.{◌≡◌, refl, sym, ap, ◌∙◌}
use mathlib.Core.Bool.{true, cond, ◌||◌, or-true, false≢true}
use Prim.Native.Nat.{ℕ, ◌^◌, ◌≤◌, ◌<◌}
use native.Mathlib.Omega.{arith}
use lib.Dec.{eqb}
use borrow.Author.Tests.{eq-eqb, ne_eqb, le-leb}
use Rattle.table.specs.Records.{Record}
use Rattle.table.specs.Rows.{Shape, table_header, object, attribute, text, single, range, shape_of}
use Rattle.meaning.specs.Constraints.{integers, dates}
use Rattle.table.specs.Clauses.Answers.{record_of}
use Rattle.table.specs.declared.records.Entry.{Entry}
use Rattle.table.proofs.UseLaws.{names_none, plain_kind, plain_shape}
use Rattle.table_merge.specs.Joining.{Shifts, moved}
use Rattle.table_merge.specs.Clauses.Answers.{shifts, moved_link, moved_place, moved_as, Movable}

-- a number that stays where a test is 0, and moves elsewhere
module _ (t x y : ℕ) where
  pub stays : (z : ℕ) → t ≡ 0 → z ≡ x → z ≡ cond (eqb t 0) x y
  stays z h e = rw (eq-eqb t 0 h) e

  module _ (h : t ≡ 0 → ⊥) where
    pub moves : (z : ℕ) → z ≡ y → z ≡ cond (eqb t 0) x y
    moves z e = rw (ne_eqb t 0 h) e

    pub moves_within : cond (eqb t 0) x y < 2 ^ 32 → y < 2 ^ 32
    moves_within l = rw (ne_eqb t 0 h) at l

-- the fields that a kind names, moved one by one
module _ (records pool : ℕ) (r : Entry) where
  pub object_moved : (a c e : ℕ) → a ≡ moved_place pool r.a r.b → c ≡ moved_place pool r.c r.d
      → e ≡ moved_link records r.e
      → record_of (record { kind = r.kind; flag = r.flag; a = a; b = r.b; c = c; d = r.d; e = e })
      ≡ moved_as (shifts records pool) object (record_of r)
  object_moved a c e p q t = rw (p, q, t)

  pub attribute_moved : (a c d : ℕ) → a ≡ moved_place pool r.a r.b → c ≡ moved_link records r.c
      → d ≡ moved_link records r.d
      → record_of (record { kind = r.kind; flag = r.flag; a = a; b = r.b; c = c; d = d; e = r.e })
      ≡ moved_as (shifts records pool) attribute (record_of r)
  attribute_moved a c d p q t = rw (p, q, t)

  pub item-moved : (e : ℕ) → e ≡ moved_link records r.e
      → record_of (record { kind = r.kind; flag = r.flag; a = r.a; b = r.b; c = r.c; d = r.d; e = e })
      ≡ moved_as (shifts records 0) (range integers) (record_of r)
  item-moved e t = rw t

  pub string-moved : (a e : ℕ) → a ≡ moved_place pool r.a r.b → e ≡ moved_link records r.e
      → record_of (record { kind = r.kind; flag = r.flag; a = a; b = r.b; c = r.c; d = r.d; e = e })
      ≡ moved_as (shifts records pool) text (record_of r)
  string-moved a e p t = rw (p, t)

module _ (s : Shifts) (r : Entry) where
  -- the shape that is known
  shape_movable : (x : Shape) → shape_of r.kind ≡ x → Movable s (shape_of r.kind) (record_of r)
      → Movable s x (record_of r)
  shape_movable x e h = rw (← e) h

  shape_moved : (x : Shape) (y : Record) → shape_of r.kind ≡ x → y ≡ moved_as s x (record_of r)
      → y ≡ moved s (record_of r)
  shape_moved x y e h = h ∙ ap (λ z. moved_as s z (record_of r)) (sym e)

  shape_at : (k : ℕ) (x : Shape) → r.kind ≡ k → shape_of k ≡ x → shape_of r.kind ≡ x
  shape_at k x e h = ap shape_of e ∙ h

  pub object_movable : r.kind ≡ 1 → Movable s (shape_of r.kind) (record_of r) → Movable s object (record_of r)
  unfolding shape_of
  object_movable e h = shape_movable object (shape_at 1 object e refl) h

  pub object_is : (y : Record) → r.kind ≡ 1 → y ≡ moved_as s object (record_of r) → y ≡ moved s (record_of r)
  unfolding shape_of
  object_is y e h = shape_moved object y (shape_at 1 object e refl) h

  pub attribute_movable : r.kind ≡ 2 → Movable s (shape_of r.kind) (record_of r) → Movable s attribute (record_of r)
  unfolding shape_of
  attribute_movable e h = shape_movable attribute (shape_at 2 attribute e refl) h

  pub attribute_is : (y : Record) → r.kind ≡ 2 → y ≡ moved_as s attribute (record_of r) → y ≡ moved s (record_of r)
  unfolding shape_of
  attribute_is y e h = shape_moved attribute y (shape_at 2 attribute e refl) h

  -- the kind that is left of 4 and 5
  text_shape : 4 ≤ r.kind → (r.kind ≡ 4 → ⊥) → r.kind < 6 → shape_of r.kind ≡ text
  unfolding shape_of
  text_shape h h4 l = shape_at 5 text (omega arith) refl

  pub text_movable : 4 ≤ r.kind → (r.kind ≡ 4 → ⊥) → r.kind < 6 → Movable s (shape_of r.kind) (record_of r)
      → Movable s text (record_of r)
  text_movable h h4 l m = shape_movable text (text_shape h h4 l) m

  pub text_is : (y : Record) → 4 ≤ r.kind → (r.kind ≡ 4 → ⊥) → r.kind < 6 → y ≡ moved_as s text (record_of r)
      → y ≡ moved s (record_of r)
  text_is y h h4 l q = shape_moved text y (text_shape h h4 l) q

  -- a kind that names no field
  none_moves : (x : Shape) → names_none x ≡ true → record_of r ≡ moved_as s x (record_of r)
  none_moves table_header h = refl
  none_moves object h = absurd (false≢true h)
  none_moves attribute h = absurd (false≢true h)
  none_moves text h = absurd (false≢true h)
  none_moves (single sort) h = refl
  none_moves (range sort) h = absurd (false≢true h)

  still : plain_kind r.kind ≡ true → record_of r ≡ moved s (record_of r)
  still h = none_moves (shape_of r.kind) (plain_shape r.kind h)

  still_at : (k : ℕ) → r.kind ≡ k → plain_kind k ≡ true → record_of r ≡ moved s (record_of r)
  still_at k e h = still (ap plain_kind e ∙ h)

  pub none_still : r.kind ≡ 0 → record_of r ≡ moved s (record_of r)
  none_still e = still_at 0 e refl

  pub boolean_still : (r.kind ≡ 0 → ⊥) → (r.kind ≡ 1 → ⊥) → (r.kind ≡ 2 → ⊥) → r.kind < 4
      → record_of r ≡ moved s (record_of r)
  boolean_still h0 h1 h2 l = still_at 3 (omega arith) refl

  pub pattern_still : 6 ≤ r.kind → r.kind < 7 → record_of r ≡ moved s (record_of r)
  pattern_still h l = still_at 6 (omega arith) refl

  pub rest_still : 7 ≤ r.kind → (r.kind ≡ 7 → ⊥) → record_of r ≡ moved s (record_of r)
  rest_still h h7 = still (rw (le-leb 8 r.kind (omega arith)) (or-true (eqb r.kind 0 || eqb r.kind 3 || eqb r.kind 6)))

-- integers and date intervals move alike: by their link alone
module _ (records pool : ℕ) (r : Entry) where
  pub integer_movable : r.kind ≡ 4 → Movable (shifts records pool) (shape_of r.kind) (record_of r)
      → Movable (shifts records 0) (range integers) (record_of r)
  unfolding shape_of
  integer_movable e h = let g = shape_movable (shifts records pool) r (range integers) (shape_at (shifts records pool) r 4 (range integers) e refl) h in record { fits = g.fits }

  pub date_movable : r.kind ≡ 7 → Movable (shifts records pool) (shape_of r.kind) (record_of r)
      → Movable (shifts records 0) (range integers) (record_of r)
  unfolding shape_of
  date_movable e h = let g = shape_movable (shifts records pool) r (range dates) (shape_at (shifts records pool) r 7 (range dates) e refl) h in record { fits = g.fits }

  pub integer_is : (x : Record) → r.kind ≡ 4 → x ≡ moved_as (shifts records 0) (range integers) (record_of r)
      → x ≡ moved (shifts records pool) (record_of r)
  unfolding shape_of
  integer_is x e h = shape_moved (shifts records pool) r (range integers) x (shape_at (shifts records pool) r 4 (range integers) e refl) h

  pub date_is : (x : Record) → r.kind ≡ 7 → x ≡ moved_as (shifts records 0) (range integers) (record_of r)
      → x ≡ moved (shifts records pool) (record_of r)
  unfolding shape_of
  date_is x e h = shape_moved (shifts records pool) r (range dates) x (shape_at (shifts records pool) r 7 (range dates) e refl) h

pub ruleset choice_steps = (stays, moves, moves_within)

pub ruleset move_steps = (object_moved, attribute_moved, item-moved, string-moved)

pub ruleset kind_steps = (object_movable, object_is, attribute_movable, attribute_is, text_movable, text_is, integer_movable, date_movable, integer_is, date_is, none_still, boolean_still, pattern_still, rest_still)
