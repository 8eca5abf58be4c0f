-- The tape of an accepted data text: a judge may walk it, its numbers are small, there are few, and the text's datum is read back from it. Assumes nothing.
use mathlib.Core.Path.{◌≡◌, refl}
use Rattle.std.specs.Prelude.{Option, option_map as map}
use mathlib.Core.List.{List, ◌++◌}
use Prim.Native.Nat.{ℕ, ◌*◌, ◌≤◌}
use native.Mathlib.Omega.{arith}
use lib.ListN.{length}
use Rattle.refusals.specs.Reading.{Reading, refused, got, read_then}
use Rattle.refusals.specs.declared.Refusal.{Refusal}
use Rattle.meaning.specs.Data.{Datum, datum}
use Rattle.dadl.specs.Placed.{Span, Block, block, Entries, spelled_span, spelled_block, spelled_entries}
use Rattle.dadl.specs.Data.{block_of, datum_of}
use Rattle.dadl.specs.Clauses.Tape.{block_rows, entry_rows, entries_tape, members_at}
use Rattle.dadl.specs.Clauses.Rows.{TapeGood}
use Rattle.dadl.proofs.TapeLaws.{EachBlock, EachEntry, tape_back}
use Rattle.dadl.proofs.GoodTapes.{Lies, each_ended, tape_good}
use Rattle.dadl.proofs.TreeReading.{accepted}

module _ (levels : ℕ) (s : List ℕ) where
  -- a text's datum is its block's, spelled_span out
  pub datum_got : (b : Block) (end : ℕ) → block_of levels s ≡ got b end → datum_of levels s ≡ got (spelled_block b s) end
  unfolding datum_of
  datum_got b end e = rw e

  -- a text whose block is refused has its datum refused so
  pub datum_refused : (r : Refusal) → block_of levels s ≡ refused r → datum_of levels s ≡ refused r
  unfolding datum_of
  datum_refused r e = rw e

  -- a datum is told only where a block is
  pub block_got : (d : Datum) (end : ℕ) → datum_of levels s ≡ got d end
      → (b : Block) × (block_of levels s ≡ got b end) × (spelled_block b s ≡ d)
  unfolding datum_of
  block_got d end = go (block_of levels s) refl
    where
      go : (r : Reading Block) → block_of levels s ≡ r → read_then r (λ b p. got (spelled_block b s) p) ≡ got d end
          → (b : Block) × (block_of levels s ≡ got b end) × (spelled_block b s ≡ d)
      go (refused x) f e = absurd (let z : ◌≡◌ {A = ℕ} 0 1 = cc in omega arith)
      go (got b p) f e = (b, (cc), (cc))

  -- a datum is refused only where the block is
  pub block_refused : (r : Refusal) → datum_of levels s ≡ refused r → block_of levels s ≡ refused r
  unfolding datum_of
  block_refused r = go (block_of levels s) refl
    where
      go : (x : Reading Block) → block_of levels s ≡ x → read_then x (λ b p. got (spelled_block b s) p) ≡ refused r
          → block_of levels s ≡ refused r
      go (refused x) f e = cc
      go (got b p) f e = absurd (let z : ◌≡◌ {A = ℕ} 0 1 = cc in omega arith)

module _ (levels : ℕ) (s : List ℕ) (p : ℕ) (t : Option Span) (ms : Entries) (end : ℕ)
    (e : block_of levels s ≡ got (block p t ms) end) where
  -- the members lie in the text
  pub text_lies : EachEntry ms (Lies (length s))
  unfolding EachBlock
  text_lies = (accepted levels s (block p t ms) end e).each

  -- each member takes four bytes of the text
  pub text_room : 4 * entry_rows ms ≤ length s
  unfolding block_rows
  text_room = (accepted levels s (block p t ms) end e).room

  -- a judge may walk the tape, whatever stands behind it
  pub text_good : (rest : List ℕ) → TapeGood (length s) (entry_rows ms) (entries_tape ms 0 ++ rest)
  text_good rest = tape_good (length s) ms rest text_lies

  -- the members are read back from it
  pub text_back : (rest : List ℕ) → members_at s (entry_rows ms) (entries_tape ms 0 ++ rest) 0 ≡ spelled_entries ms s
  text_back rest = tape_back s ms rest (each_ended (length s) ms text_lies)

  -- the text's datum is read back from it
  pub text_datum : (rest : List ℕ)
      → datum_of levels s
      ≡ got (datum p (map (spelled_span s) t) (members_at s (entry_rows ms) (entries_tape ms 0 ++ rest) 0)) end
  unfolding spelled_block
  text_datum rest = rw (text_back rest) (datum_got levels s (block p t ms) end e)
