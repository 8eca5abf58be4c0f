-- What the functions of this crate promise of their answers and of what they write. Assumes nothing.
use Rattle.std.specs.Prelude.{◌≡◌, Bool, List, [], ◌∷◌, ◌++◌, ℕ, ◌+◌, ◌*◌, ◌≤◌, ◌<◌, ltb, length}
use Rattle.std.proofs.lemmas.List.Edits.{sets}
use Rattle.lexis.specs.Runs.{part}
use Rattle.lexis.specs.Spelling.{close_brace}
use Rattle.lexis.specs.declared.Token.{Token}
use Rattle.refusals.specs.Expecting.{expect}
use Rattle.refusals.specs.Refusals.{refusal}
use Rattle.refusals.specs.declared.Refusal.{Refusal}
use Rattle.refusals.specs.declared.Cause.TheVariants.{OutputTooShort}
use Rattle.refusals.specs.Outcomes
use Rattle.refusals.specs.Outcomes.{Outcome, gave, unless, after_reading, Written, writes}
use Rattle.refusals.specs.Limits.{record_limit, pool_limit}
use Rattle.refusals.specs.Reading.{Reading, refused, got, read_then}
use Rattle.meaning.specs.Constraints.{no_more}
use Rattle.cadl_items.specs.Clauses.Spans.{first_of, second_of, span_at, earlier, Within}
use Rattle.cadl_items.specs.Clauses.Items.{Kept}
use Rattle.cadl_objects.specs.Objects.{Attribute}
use Rattle.cadl_objects.specs.Clauses.Told.{attribute_from}
use Rattle.meaning.specs.Counting.{attribute_pool, value_pool}
use Rattle.table.specs.Records.{record_size, encode, encodes, make}
use Rattle.compile_flatten.specs.Flatten.{value_link, attributes_table, value_table}
use Rattle.compile_emission.specs.Clauses.Answers.{Wrote, wrote, written, Room, attribute_row, attribute_behind, next_link}
use Rattle.compile_emission.specs.declared.spots.Spot.{Spot}
use Rattle.compile_emission.specs.declared.spots.AttributeEnd.{AttributeEnd}
use Rattle.std.specs.declared.result.Result.{Result}
use Rattle.std.specs.declared.result.Result.TheVariants.{Ok, Err}

-- what reading a tree answers and writes, and the names of the objects around it, so many, which stay as they were
pub record TreeIs (top : ℕ) (names names' : List ℕ) (result : Wrote Spot) (rs bs : List ℕ)
    (r : Result Spot Refusal) : Type 0 where
  pub is : wrote r rs bs ≡ result
  pub kept : Kept top names names'

-- where an object is read: each name on the stack has a record
pub record Stacked (s : List ℕ) (p : Spot) (top : ℕ) : Type 0 where
  pub room : Room s p
  pub few : top ≤ p.next

-- the `}` of an object behind its `*`: nothing more is written
pub record EndIs (s : List ℕ) (p : Spot) (from : ℕ) (r : Result Spot Refusal) : Type 0 where
  pub is : (little : Bool) (rs bs : List ℕ)
      → wrote r rs bs
      ≡ written attributes_table attribute_pool little p rs bs
      (read_then (expect s close_brace from) (λ u at. got no_more at))

-- what reading an attribute answers and writes
unfoldable pub attribute_written : List ℕ → Bool → Spot → List ℕ → List ℕ → Reading Attribute → Wrote AttributeEnd
attribute_written s little p rs bs (refused x) = record { answer = Err x; records = []; bytes = [] }
attribute_written s little p rs bs (got a at) =
    let w = a.name in
    let table = value_table a.value (p.pool + length w) in
    let next = p.next + 1 + length table in
    record {
      answer = Ok (attribute_behind s at next (p.pool + length w + length (value_pool a.value)));
      records =
          sets rs (record_size * p.next)
          (encodes little
          (attribute_row a.existence w p.pool (value_link a.value) (next_link s at next) ∷ table));
      bytes = sets bs p.pool (w ++ value_pool a.value);
    }

-- a name on the stack is that of the attribute that was read
pub record Pushed (s names : List ℕ) (top : ℕ) (w : List ℕ) : Type 0 where
  pub is : span_at s names top ≡ w
  pub lies : Within s (first_of names top) (second_of names top)

pub record AttributeIs (s : List ℕ) (little : Bool) (levels : ℕ) (p : Spot) (first top : ℕ)
    (names rs bs names' rs' bs' : List ℕ) (r : Result AttributeEnd Refusal) : Type 0 where
  pub is : wrote r rs' bs'
      ≡ attribute_written s little p rs bs (attribute_from s levels (earlier s names first top) p.next p.place)
  pub kept : Kept top names names'
  pub pushed : (a : Attribute) (at : ℕ)
      → attribute_from s levels (earlier s names first top) p.next p.place ≡ got a at
      → Pushed s names' top a.name

-- a text that goes on with an attribute: the names of its object are the spans from `first` on
pub record AttributeRoom (s : List ℕ) (p : Spot) (first top : ℕ) (names : List ℕ) : Type 0 where
  pub stacked : Stacked s p top
  pub lies : (i : ℕ) → first ≤ i → i < top → Within s (first_of names i) (second_of names i)

-- what compiling answers
abbrev pub answer_of : Result ℕ Refusal → Outcome Refusal ℕ
answer_of (Ok length) = gave length
answer_of (Err x) = Outcomes.refused x

-- a table's records and bytes, which are in the scratch, behind its header, for an output of so many bytes; `end` is the text's end
unfoldable pub table_written : Bool → (end : ℕ) → Spot → (rs bs : List ℕ) → (room : ℕ) → Outcome Refusal (Written ℕ)
table_written little end q rs bs room =
    let header = encode little (make 0 0 (q.next ∷ q.pool ∷ 1 ∷ [])) in
    let size = record_size * q.next in
    unless (ltb room (size + q.pool)) (refusal OutputTooShort end)
    (gave (writes (part (sets rs 0 header) 0 size ++ part bs 0 q.pool) (size + q.pool)))

-- where a text's tree was read
pub record TableRoom (q : Spot) : Type 0 where
  pub some : 1 ≤ q.next
  pub records : q.next ≤ record_limit
  pub bytes : q.pool ≤ pool_limit

-- a text whose tree was read up to its end
abbrev pub finished : Bool → List ℕ → Spot → (rs bs : List ℕ) → (room : ℕ) → Reading Token → Outcome Refusal (Written ℕ)
finished little text q rs bs room r = after_reading r (λ t. table_written little (length text) q rs bs room)
