-- Steps of the functions that write what objects and attributes begin and end with. Assumes nothing.
use mathlib.Core.Path.{◌≡◌, refl, sym, ap, ◌∙◌}
use mathlib.Core.Bool.{Bool}
use mathlib.Core.List.{List, [], ◌∷◌}
use Prim.Native.Nat.{ℕ, ◌+◌, ◌*◌, ◌-◌}
use native.Mathlib.Omega.{arith}
use lib.ListN.{length}
use lib.Seq.{sets}
use borrow.Author.Tests.{eq-eqb, ne_eqb}
use Rattle.lexis.specs.Runs.{part}
use Rattle.lexis.specs.Spelling.{close_brace}
use Rattle.lexis.specs.Tokens.{token_at}
use Rattle.lexis.specs.Clauses.Answers.{TokenIs}
use Rattle.lexis.specs.declared.Token.{Token}
use Rattle.lexis.proofs.Stores.{sets_behind}
use Rattle.refusals.specs.Expecting.{expect}
use Rattle.refusals.specs.Clauses.Answers.{ExpectIs}
use Rattle.refusals.specs.declared.Refusal.{Refusal}
use Rattle.cadl_items.specs.Clauses.Spans.{Within, with_item}
use Rattle.lexis.proofs.Parts.{part_length}
use Rattle.cadl_objects.specs.Clauses.Answers.{TypedPast}
use Rattle.table.specs.Rows.{object_kind, attribute_kind}
use Rattle.table.specs.Records.{Record, record_size, encode, make}
use Rattle.table.specs.Clauses.Answers.{record_of}
use Rattle.table.specs.declared.records.Entry.{Entry}
use Rattle.compile_flatten.specs.Flatten.{place_for}
use Rattle.compile_emission.specs.Clauses.Answers.{PartPut, pooled_place, link_below, spot, Room, first_link, object_row, typed_row, ObjectPut, NameKept, attribute_row, named_row, closed_attribute, CloseIs, CloseRoom}
use Rattle.compile_emission.specs.declared.spots.Spot.{Spot}
use Rattle.compile_emission.specs.declared.spots.AttributeEnd.TheVariants.{Last, More}
use Rattle.std.specs.declared.result.Result.TheVariants.{Ok, Err}
use Rattle.cadl_objects.specs.declared.heads.ObjectHead.{ObjectHead}
use Rattle.cadl_objects.specs.declared.heads.AttributeHead.{AttributeHead}
use Rattle.compile_emission.proofs.WritingSteps.{place_part}

-- a part of the text, as a record has it
part-row : (s : List ℕ) (start end pool : ℕ) → Within s start end
    → (pooled_place start end pool ≡ place_for (part s start end) pool) × (end - start ≡ length (part s start end))
part-row s start end pool w = (place_part s start end pool w, sym (part_length s start end w.inside))

-- what an object begins with
module _ {s : List ℕ} {p : Spot} (head : ObjectHead) (room : Room s p)
    (h : TypedPast s p.next p.place head.type_start head.type_end head.code_start head.code_end head.next) where
  abbrev ts : ℕ
  ts = head.type_start

  abbrev te : ℕ
  te = head.type_end

  abbrev cs : ℕ
  cs = head.code_start

  abbrev ce : ℕ
  ce = head.code_end

  type_lies : Within s ts te
  type_lies = omega arith

  code_lies : Within s cs ce
  code_lies = omega arith

  module _ {bs bs1 : List ℕ} {middle : ℕ} (t : PartPut s ts te p.pool bs bs1 middle) where
    pub object_put : {little any : Bool} {rs rs' bs2 : List ℕ} {first pool : ℕ} {e : Entry}
        → first ≡ first_link any p.next
        → record_of e ≡ typed_row head p.pool first
        → rs' ≡ sets rs (record_size * p.next) (encode little (record_of e)) → PartPut s cs ce middle bs1 bs2 pool
        → ObjectPut (part s ts te) (part s cs ce) little p head.next any rs bs rs' bs2 (spot head.next (p.next + 1) pool)
    object_put {little} {any} {rs} {rs'} {bs2} {first} {pool} {e} f r w k =
        let a = part-row s ts te p.pool type_lies in
        let m : p.pool + (te - ts) ≡ p.pool + length (part s ts te) = ap (λ (x : ℕ). p.pool + x) a.1 in
        let b = part-row s cs ce (p.pool + (te - ts)) code_lies in
        let c : pooled_place cs ce (p.pool + (te - ts)) ≡ place_for (part s cs ce) (p.pool + length (part s ts te)) = b.0 ∙ ap (place_for (part s cs ce)) m in
        let row : record_of e ≡ object_row (part s ts te) (part s cs ce) p.pool (first_link any p.next) = r ∙ λ i. make object_kind 0 (a.0 i ∷ a.1 i ∷ c i ∷ b.1 i ∷ f i ∷ []) in
        let z : pool ≡ p.pool + length (part s ts te) + length (part s cs ce) = k.behind ∙ ap (λ (x : ℕ). x + length (part s cs ce)) t.behind in
        record {
          spot = ap (λ (x : ℕ). spot head.next (p.next + 1) x) z;
          records = w ∙ ap (λ (x : Record). sets rs (record_size * p.next) (encode little x)) row;
          bytes = k.bytes ∙ rw (t.bytes, t.behind) (sets_behind (part s ts te) (part s cs ce) bs p.pool (p.pool + length (part s ts te)) refl);
        }

-- an attribute's name
pub name_kept : {s : List ℕ} {p : Spot} {start end top place : ℕ} {bs bs' names names' : List ℕ} {a b pool : ℕ}
    → a ≡ start → b ≡ end → names' ≡ with_item names top a b → PartPut s start end p.pool bs bs' pool
    → NameKept (part s start end) p place start end top bs names bs' names' (spot place (p.next + 1) pool)
name_kept {p = p} {top = top} {place} {names = names} ea eb e k = record {
  spot = ap (λ (x : ℕ). spot place (p.next + 1) x) k.behind;
  bytes = k.bytes;
  stack = e ∙ λ i. with_item names top (ea i) (eb i);
}

-- an attribute's record
named_is : (s : List ℕ) (h : AttributeHead) (pool value next : ℕ) → Within s h.name_start h.name_end
    → named_row h pool value next ≡ attribute_row h.existence (part s h.name_start h.name_end) pool value next
named_is s h pool value next w =
    let a = part-row s h.name_start h.name_end pool w in
    λ i. make attribute_kind h.existence (a.0 i ∷ a.1 i ∷ value ∷ next ∷ [])

-- the `}` of an attribute, and what follows it
module _ {s : List ℕ} {p : Spot} (head : AttributeHead) {q : Spot} where
  pub close_fault : {little : Bool} {rs : List ℕ} {x : Refusal}
      → ExpectIs s close_brace q.place (expect s close_brace q.place) (Err x)
      → CloseIs s little p head.existence (part s head.name_start head.name_end) q rs rs (Err x)
  unfolding closed_attribute
  close_fault e = record { is = λ bs. rw (← e.is) }

  module _ (room : CloseRoom s p head.name_start head.name_end q) {close t : Token}
      (e : ExpectIs s close_brace q.place (expect s close_brace q.place) (Ok close))
      (tok : TokenIs s close.end (token_at s close.end) t) {little : Bool} {rs rs' : List ℕ} where
    pub close_last : t.sort ≡ close_brace
        → rs' ≡ sets rs (record_size * p.next)
        (encode little (named_row head p.pool (link_below (p.next + 1) q.next) 0))
        → CloseIs s little p head.existence (part s head.name_start head.name_end) q rs rs'
        (Ok (Last (spot t.end q.next q.pool)))
    unfolding closed_attribute
    close_last k w = record { is = λ bs. rw (← e.is, ← tok.is, eq-eqb t.sort close_brace k, w, named_is s head p.pool _ 0 room.lies) }

    pub close_more : (t.sort ≡ close_brace → ⊥)
        → rs' ≡ sets rs (record_size * p.next)
        (encode little (named_row head p.pool (link_below (p.next + 1) q.next) q.next))
        → CloseIs s little p head.existence (part s head.name_start head.name_end) q rs rs'
        (Ok (More (spot close.end q.next q.pool)))
    unfolding closed_attribute
    close_more k w = record { is = λ bs. rw (← e.is, ← tok.is, ne_eqb t.sort close_brace k, w, named_is s head p.pool _ q.next room.lies) }
