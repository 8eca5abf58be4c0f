-- A record of a table moves, by the rules, to the record that the definition moves it to, and to no other. Assumes nothing.
use mathlib.Core.Path.{◌≡◌, refl, sym, subst, ◌∙◌}
use mathlib.Core.Bool.{Bool, cond}
use mathlib.Core.List.{List}
use Prim.Native.Nat.{ℕ, zero, suc, ◌+◌}
use native.Mathlib.Nat.{add_comm}
use native.Mathlib.Omega.{arith}
use lib.Dec.{eqb, eqb-suc-zero}
use borrow.Author.Tests.{ne_eqb}
use Rattle.table.specs.Records.{Record}
use Rattle.table.specs.Rows.{shape_of}
use Rattle.table.specs.TableRules.{Holds, IsRecord}
use Rattle.table.proofs.HoldsLaws.{holds_is}
use Rattle.table_merge.specs.Joining.{moved}
use Rattle.table_merge.specs.Clauses.Answers.{shifts}
use Rattle.table_merge.specs.MergeRules.{LinkMoves, PlaceMoves, Moves}

module _ {by : ℕ} where
  -- a link moves to where the definition has it, and a place too
  link_is : {x x' : ℕ} → LinkMoves by x x' → x' ≡ cond (eqb x 0) 0 (by + x)
  link_is LinkMoves.nowhere = refl
  link_is (LinkMoves.onward {x} h) = rw (ne_eqb x 0 h) (add_comm x by)

  place_is : {a b a' : ℕ} → PlaceMoves by a b a' → a' ≡ cond (eqb b 0) a (by + a)
  place_is PlaceMoves.empty = refl
  place_is (PlaceMoves.onward {place} {size} h) = rw (ne_eqb size 0 (λ e. omega arith)) (add_comm place by)

module _ (by : ℕ) where
  link_moves : (x : ℕ) → LinkMoves by x (cond (eqb x 0) 0 (by + x))
  link_moves zero = LinkMoves.nowhere
  link_moves (suc x) = rw (eqb-suc-zero, add_comm) (LinkMoves.onward {x = suc x} (omega arith))

  place_moves : (a b : ℕ) → PlaceMoves by a b (cond (eqb b 0) a (by + a))
  place_moves a zero = PlaceMoves.empty
  place_moves a (suc b) = rw (eqb-suc-zero, add_comm) (PlaceMoves.onward {size = suc b} (omega arith))

-- so does a record
pub moves_is : {records pool : ℕ} {r m : Record} → Moves records pool r m → m ≡ moved (shifts records pool) r
unfolding shape_of
moves_is (Moves.object p q l) = rw (place_is p, place_is q, link_is l)
moves_is (Moves.attribute p l k) = rw (place_is p, link_is l, link_is k)
moves_is Moves.boolean = refl
moves_is (Moves.integer l) = rw (link_is l)
moves_is (Moves.string p l) = rw (place_is p, link_is l)
moves_is Moves.date_pattern = refl
moves_is (Moves.date_interval l) = rw (link_is l)
moves_is Moves.time_pattern = refl
moves_is Moves.duration_pattern = refl

-- a record that obeys the rules of its kind is held, and moves
pub record Held (records pool : ℕ) (bs : List ℕ) (n : ℕ) : Type 0 where
  pub order : Bool
  pub this : Record
  pub holds : Holds bs n order this
  pub moves : Moves records pool this (moved (shifts records pool) this)

module _ (s p : ℕ) {bs : List ℕ} {n : ℕ} where
  held : {order : Bool} {r : Record} → Holds bs n order r → Moves s p r (moved (shifts s p) r) → Held s p bs n
  held h m = record { order = _; this = _; holds = h; moves = m }

  pub record_held : {count pool : ℕ} → IsRecord bs count pool n → Held s p bs n
  unfolding shape_of
  record_held (IsRecord.object {a = a} {b} {c} {d} {e} h i j k) = held h (Moves.object (place_moves p a b) (place_moves p c d) (link_moves s e))
  record_held (IsRecord.attribute {a = a} {b} {c} {d} h i j k l) = held h (Moves.attribute (place_moves p a b) (link_moves s c) (link_moves s d))
  record_held (IsRecord.boolean h i j) = held h Moves.boolean
  record_held (IsRecord.integer {e = e} h i j k l) = held h (Moves.integer (link_moves s e))
  record_held (IsRecord.string {a = a} {b} {e} h i j) = held h (Moves.string (place_moves p a b) (link_moves s e))
  record_held (IsRecord.date_pattern h i j) = held h Moves.date_pattern
  record_held (IsRecord.date_interval {e = e} h i j k l) = held h (Moves.date_interval (link_moves s e))
  record_held (IsRecord.time_pattern h i j) = held h Moves.time_pattern
  record_held (IsRecord.duration_pattern h i j) = held h Moves.duration_pattern

  -- so the one that is held moves
  pub holds_moves : {count pool : ℕ} → IsRecord bs count pool n → (order : Bool) (r : Record) → Holds bs n order r
      → Moves s p r (moved (shifts s p) r)
  holds_moves i order r h =
      let g = record_held i in
      subst (λ x. Moves s p x (moved (shifts s p) x)) (holds_is bs n g.order g.this g.holds ∙ sym (holds_is bs n order r h)) g.moves
