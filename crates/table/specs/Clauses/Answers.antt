-- What the functions take and answer, as the definitions have it. Assumes nothing.
use Rattle.std.specs.Prelude.{◌≡◌, Bool, true, ◌&&◌, List, [], ◌∷◌, map, ℕ, ◌+◌, ◌*◌, ◌≤◌, eqb, leb}
use Rattle.std.specs.Prelude.{Option, None, Some}
use Rattle.std.proofs.Math.ListN
use Rattle.refusals.specs.Limits.{record_limit, pool_limit}
use Rattle.refusals.specs.Outcomes.{Outcome, refused, gave}
use Rattle.refusals.specs.declared.Refusal.{Refusal}
use Rattle.table.specs.Order.{put, get}
use Rattle.table.specs.Records.{Record, Image, record_size, number_size, field, header}
use Rattle.table.specs.Rows.{place, link}
use Rattle.table.specs.Check.{field_right, fields_right, uses_of, clean}
use Rattle.table.specs.Names.{Slice}
use Rattle.table.specs.declared.records.Entry.{Entry}
use Rattle.table.specs.declared.records.Frame.{Frame}
use Rattle.table.specs.declared.names.NamePart.{NamePart}
use Rattle.std.specs.declared.result.Result.{Result}
use Rattle.std.specs.declared.result.Result.TheVariants.{Ok, Err}

-- the refusal that is answered, if there is one
abbrev pub fault_of : {A : Type 0} → Result A Refusal → Option Refusal
fault_of (Ok x) = None
fault_of (Err r) = Some r

-- the part that is a name, and what a request for it answers
abbrev pub slice_of : NamePart → Slice
slice_of p = record { start = p.start; length = p.length }

abbrev pub answer_of : Result NamePart Refusal → Outcome Refusal Slice
answer_of (Ok p) = gave (slice_of p)
answer_of (Err r) = refused r

-- the entry of a kind and a flag whose numbers are 0
abbrev pub plain_entry : ℕ → ℕ → Entry
plain_entry kind flag = record { kind = kind; flag = flag; a = 0; b = 0; c = 0; d = 0; e = 0 }

-- the record that an entry holds
abbrev pub record_of : Entry → Record
record_of e = record { kind = e.kind; flag = e.flag; fields = e.a ∷ e.b ∷ e.c ∷ e.d ∷ e.e ∷ [] }

-- a number's bytes, the lowest first, read in an order; and a record with each number so
abbrev pub ordered : Bool → ℕ → ℕ
ordered little n = get little (put true number_size n)

abbrev pub ordered_as : Bool → Record → Record
ordered_as little r = record { kind = r.kind; flag = r.flag; fields = map (ordered little) r.fields }

-- a frame holds the counts of a table's header, which are within their limits and make up the table's length
pub record Opened (bs : List ℕ) (f : Frame) : Type 0 where
  pub records : f.count ≡ field (header bs) 0
  pub bytes : f.pool ≡ field (header bs) 1
  pub some : 2 ≤ f.count
  pub few : f.count ≤ record_limit
  pub small : f.pool ≤ pool_limit
  pub whole : ListN.length bs ≡ record_size * f.count + f.pool

-- the answer is the rule of a place and its length, in any table with so long a pool
pub record RecordPlaceIs (pool least most x next : ℕ) (r : Bool) : Type 0 where
  pub is : (m : Image) (n : ℕ) → ListN.length m.pool ≡ pool → r ≡ field_right m n (place least most) x next

-- the rules of a record's fields: of those that are named, and that the others are 0
unfoldable pub fields_kept : Image → ℕ → Record → Bool
fields_kept m n r = fields_right m n (uses_of r) r.fields && clean r

-- the rules of what follows an item's value: a link to an item of its kind, and two fields that are not named
abbrev pub next_right : Image → ℕ → Entry → Bool
next_right m n e = field_right m n (link (e.kind ∷ [])) e.e 0 && (eqb e.c 0 && eqb e.d 0)

-- the tests of a header: what is 0 in it, and its counts
abbrev pub plain_header : Entry → Bool
plain_header h = eqb h.kind 0 && (eqb h.flag 0 && (eqb h.d 0 && eqb h.e 0))

abbrev pub counts_right : Entry → ℕ → Bool
counts_right h length =
    leb 2 h.a && (leb h.a record_limit && (leb h.b pool_limit && eqb length (record_size * h.a + h.b)))
