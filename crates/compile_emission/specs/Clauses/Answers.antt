-- What the functions of this crate promise of their answers and of what they write. Assumes nothing.
use Rattle.std.specs.Prelude.{◌≡◌, Bool, cond, List, [], ◌∷◌, ◌++◌, ℕ, ◌+◌, ◌-◌, ◌*◌, ◌^◌, ◌≤◌, ◌<◌, eqb, ltb, length}
use Rattle.std.proofs.lemmas.List.Edits.{sets}
use Rattle.lexis.specs.Runs.{part}
use Rattle.lexis.specs.Spelling.{close_brace}
use Rattle.lexis.specs.Tokens.{token_at}
use Rattle.lexis.specs.declared.Token.{Token}
use Rattle.refusals.specs.Expecting.{expect}
use Rattle.refusals.specs.Limits.{text_limit, record_limit, pool_limit, item_limit}
use Rattle.refusals.specs.Reading.{Reading, refused, got, read_then}
use Rattle.refusals.specs.declared.Refusal.{Refusal}
use Rattle.meaning.specs.Constraints.{Value, leaf}
use Rattle.cadl_items.specs.Clauses.Told
use Rattle.cadl_items.specs.Clauses.Spans.{with_item, first_of, second_of, Within, SpansIn}
use Rattle.cadl_items.specs.Clauses.Answers.{items_from, text_at}
use Rattle.cadl_objects.specs.declared.heads.ObjectHead.{ObjectHead}
use Rattle.cadl_objects.specs.declared.heads.AttributeHead.{AttributeHead}
use Rattle.meaning.specs.Counting.{text_pool}
use Rattle.table.specs.Rows.{object_kind, attribute_kind}
use Rattle.meaning.specs.Sorts.{text_kind}
use Rattle.table.specs.Records.{Record, record_size, encode, encodes, make}
use Rattle.compile_flatten.specs.Flatten.{place_for, string_records}
use Rattle.compile_emission.specs.declared.spots.Spot.{Spot}
use Rattle.compile_emission.specs.declared.spots.AttributeEnd.{AttributeEnd}
use Rattle.compile_emission.specs.declared.spots.AttributeEnd.TheVariants.{Last, More}
use Rattle.std.specs.declared.result.Result.{Result}
use Rattle.std.specs.declared.result.Result.TheVariants.{Ok, Err}

-- a part of the text that the pool has room for, from a place on
pub record PartFits (s : List ℕ) (start end at : ℕ) : Type 0 where
  pub lies : Within s start end
  pub room : at + (end - start) ≤ pool_limit

-- a part of some bytes that others have room for, from a place on
pub record CopyFits (from : List ℕ) (start end : ℕ) (out : List ℕ) (at : ℕ) : Type 0 where
  pub lies : Within from start end
  pub room : at + (end - start) ≤ length out

-- the bytes of a part, put at a place, and the place behind them
pub record PartPut (s : List ℕ) (start end at : ℕ) (before after : List ℕ) (r : ℕ) : Type 0 where
  pub behind : r ≡ at + length (part s start end)
  pub bytes : after ≡ sets before at (part s start end)

-- the place of a part in the pool: 0 where it has no byte
abbrev pub pooled_place : ℕ → ℕ → ℕ → ℕ
pooled_place start end at = cond (ltb start end) at 0

-- what reading a part of the text answers, with the records and the pool; after a refusal nothing is said of them
pub record Wrote (A : Type 0) : Type 0 where
  pub answer : Result A Refusal
  pub records : List ℕ
  pub bytes : List ℕ

abbrev pub wrote : {A : Type 0} → Result A Refusal → List ℕ → List ℕ → Wrote A
wrote (Err x) rs bs = record { answer = Err x; records = []; bytes = [] }
wrote (Ok a) rs bs = record { answer = Ok a; records = rs; bytes = bs }

abbrev pub spot : ℕ → ℕ → ℕ → Spot
spot place next pool = record { place = place; next = next; pool = pool }

-- a tree's records and bytes, written from a spot on
unfoldable pub written : {A : Type 0} → (A → ℕ → List Record) → (A → List ℕ) → Bool → Spot → List ℕ → List ℕ → Reading A
    → Wrote Spot
written table pool little p rs bs (refused x) = record { answer = Err x; records = []; bytes = [] }
written table pool little p rs bs (got a q) = record {
  answer = Ok (spot q (p.next + length (table a p.pool)) (p.pool + length (pool a)));
  records = sets rs (record_size * p.next) (encodes little (table a p.pool));
  bytes = sets bs p.pool (pool a);
}

-- where a tree is read: a place of a text that is not too long, the next record's number, and the bytes in the pool, at most as many as stand before the place
pub record Room (s : List ℕ) (p : Spot) : Type 0 where
  pub inside : p.place ≤ length s
  pub short : length s ≤ text_limit
  pub records : p.next ≤ record_limit
  pub bytes : p.pool ≤ p.place

-- a link to a record: its number, where that is below another, else 0
abbrev pub link_below : ℕ → ℕ → ℕ
link_below n end = cond (ltb n end) n 0

-- records put from a spot on, with so many bytes in the pool: the answer is the spot behind them
pub record Puts (little : Bool) (p : Spot) (place : ℕ) (table : List Record) (size : ℕ) (before after : List ℕ)
    (r : Spot) : Type 0 where
  pub answer : r ≡ spot place (p.next + length table) (p.pool + size)
  pub records : after ≡ sets before (record_size * p.next) (encodes little table)

-- so many items, for whose records there is room
pub record ListWritingRoom (p : Spot) (count : ℕ) : Type 0 where
  pub few : count ≤ item_limit
  pub records : p.next + count ≤ record_limit

-- a string, item i of the scratch, with a record's number: there is room for its record and its bytes
pub record TextFits (s scratch : List ℕ) (i n at : ℕ) : Type 0 where
  pub few : i < item_limit
  pub part : PartFits s (first_of scratch i) (second_of scratch i) at
  pub short : length s ≤ text_limit
  pub records : n < record_limit

-- the record and the bytes of a string
pub record TextPut (w : List ℕ) (little : Bool) (n end at : ℕ) (rs bs rs' bs' : List ℕ) (r : ℕ) : Type 0 where
  pub behind : r ≡ at + length w
  pub records : rs' ≡ sets rs (record_size * n)
      (encode little (make text_kind 0 (place_for w at ∷ length w ∷ 0 ∷ 0 ∷ link_below (n + 1) end ∷ [])))
  pub bytes : bs' ≡ sets bs at w

-- so many strings in the scratch, for whose records and bytes there is room
pub record TextsRoom (s : List ℕ) (p : Spot) (scratch : List ℕ) (count : ℕ) : Type 0 where
  pub few : count ≤ item_limit
  pub short : length s ≤ text_limit
  pub records : p.next + count ≤ record_limit
  pub spans : SpansIn s scratch 0 count
  pub bytes : p.pool + length (text_pool (items_from (text_at s scratch) p.next 0 count)) ≤ pool_limit

-- their records and bytes
pub record TextsPut (s : List ℕ) (little : Bool) (p : Spot) (scratch : List ℕ) (count place : ℕ)
    (rs bs rs' bs' : List ℕ) (r : Spot) : Type 0 where
  pub puts : Puts little p place (string_records p.pool (items_from (text_at s scratch) p.next 0 count))
      (length (text_pool (items_from (text_at s scratch) p.next 0 count))) rs rs' r
  pub bytes : bs' ≡ sets bs p.pool (text_pool (items_from (text_at s scratch) p.next 0 count))

-- a leaf, as the value of an attribute
abbrev pub leaf_value : List ℕ → Spot → Reading Value
leaf_value s p = read_then (Told.leaf s p.next p.place) (λ l at. got (leaf l) at)

-- the number of an object's first attribute, 0 where any may follow
abbrev pub first_link : Bool → ℕ → ℕ
first_link any n = cond any 0 (n + 1)

-- an object's record by its type and its code
abbrev pub object_row : List ℕ → List ℕ → ℕ → ℕ → Record
object_row t c pool first =
    make object_kind 0 (place_for t pool ∷ length t ∷ place_for c (pool + length t) ∷ length c ∷ first ∷ [])

-- the same by its head, whose names stand in the text
abbrev pub typed_row : ObjectHead → ℕ → ℕ → Record
typed_row h pool first =
    let size = h.type_end - h.type_start in
    make object_kind 0
    (pooled_place h.type_start h.type_end pool ∷ size ∷ pooled_place h.code_start h.code_end (pool + size)
    ∷ (h.code_end - h.code_start) ∷ first ∷ [])

-- its record and its names are written
pub record ObjectPut (t c : List ℕ) (little : Bool) (p : Spot) (place : ℕ) (any : Bool) (rs bs rs' bs' : List ℕ)
    (r : Spot) : Type 0 where
  pub spot : r ≡ spot place (p.next + 1) (p.pool + length t + length c)
  pub records : rs' ≡ sets rs (record_size * p.next) (encode little (object_row t c p.pool (first_link any p.next)))
  pub bytes : bs' ≡ sets bs p.pool (t ++ c)

-- a name on the stack, and its bytes in the pool
pub record NameRoom (s : List ℕ) (p : Spot) (start end top : ℕ) : Type 0 where
  pub part : PartFits s start end p.pool
  pub short : length s ≤ text_limit
  pub records : p.next < record_limit
  pub few : top ≤ p.next

pub record NameKept (w : List ℕ) (p : Spot) (place start end top : ℕ) (bs names bs' names' : List ℕ)
    (r : Spot) : Type 0 where
  pub spot : r ≡ spot place (p.next + 1) (p.pool + length w)
  pub bytes : bs' ≡ sets bs p.pool w
  pub stack : names' ≡ with_item names top start end

-- an attribute's record by its name, and by the links to its value and to the next attribute
abbrev pub attribute_row : ℕ → List ℕ → ℕ → ℕ → ℕ → Record
attribute_row flag w pool value next = make attribute_kind flag (place_for w pool ∷ length w ∷ value ∷ next ∷ [])

-- the same by its head, whose name stands in the text
abbrev pub named_row : AttributeHead → ℕ → ℕ → ℕ → Record
named_row h pool value next =
    make attribute_kind h.existence
    (pooled_place h.name_start h.name_end pool ∷ (h.name_end - h.name_start) ∷ value ∷ next ∷ [])

-- the spot behind an attribute, and behind the object's `}` where that follows
abbrev pub attribute_behind : List ℕ → ℕ → ℕ → ℕ → AttributeEnd
attribute_behind s at next pool =
    let t = token_at s at in
    cond (eqb t.sort close_brace) (Last (spot t.end next pool)) (More (spot at next pool))

-- the link to the next attribute
abbrev pub next_link : List ℕ → ℕ → ℕ → ℕ
next_link s at next = cond (eqb (token_at s at).sort close_brace) 0 next

-- what closing an attribute behind its value answers and writes
unfoldable pub closed_attribute : List ℕ → Bool → Spot → ℕ → List ℕ → Spot → List ℕ → List ℕ → Reading Token
    → Wrote AttributeEnd
closed_attribute s little p flag w q rs bs (refused x) = record { answer = Err x; records = []; bytes = [] }
closed_attribute s little p flag w q rs bs (got t at) = record {
  answer = Ok (attribute_behind s at q.next q.pool);
  records =
      sets rs (record_size * p.next)
      (encode little (attribute_row flag w p.pool (link_below (p.next + 1) q.next) (next_link s at q.next)));
  bytes = bs;
}

pub record CloseIs (s : List ℕ) (little : Bool) (p : Spot) (flag : ℕ) (w : List ℕ) (q : Spot) (rs rs' : List ℕ)
    (r : Result AttributeEnd Refusal) : Type 0 where
  pub is : (bs : List ℕ)
      → wrote r rs' bs ≡ closed_attribute s little p flag w q rs bs (expect s close_brace q.place)

-- where an attribute is closed: behind its value, whose bytes stand in the pool behind those of its name
pub record CloseRoom (s : List ℕ) (p : Spot) (start end : ℕ) (q : Spot) : Type 0 where
  pub lies : Within s start end
  pub bytes : p.pool + (end - start) ≤ q.pool
  pub room : Room s q
  pub order : p.next < q.next

-- a part of the text whose place in the pool and length a record can hold
pub record RowRoom (start end pool : ℕ) : Type 0 where
  pub order : start ≤ end
  pub room : pool + (end - start) < 2 ^ 32
