-- Steps of the functions that read and write objects and attributes: a law for each way out and for each turn. Assumes nothing.
use mathlib.Core.Path.{◌≡◌, refl, sym, ap, ◌∙◌}
use mathlib.Core.Bool.{Bool, true, false}
use mathlib.Core.List.{List, [], ◌∷◌, ◌++◌, append_assoc}
use Prim.Native.Nat.{ℕ, suc, ◌+◌, ◌*◌, ◌-◌, ◌≤◌}
use native.Mathlib.Omega.{arith}
use native.Mathlib.Nat.{add-zero}
use lib.Dec.{eqb}
use lib.ListN.{length, length-append}
use lib.Seq.{sets}
use borrow.Author.Tests.{eq-eqb, ne_eqb}
use Rattle.lexis.specs.Runs.{part}
use Rattle.lexis.specs.Spelling.{close_brace, star}
use Rattle.lexis.specs.Tokens.{token_at, content_token_at, type_name}
use Rattle.lexis.specs.Clauses.Answers.{TokenIs}
use Rattle.lexis.specs.declared.Token.{Token}
use Rattle.lexis.proofs.Parts.{part_length}
use Rattle.lexis.proofs.Stores.{sets_behind}
use Rattle.refusals.specs.Reading.{Reading, refused, got, read_then}
use Rattle.refusals.specs.Expecting.{expect}
use Rattle.refusals.specs.Clauses.Answers.{ExpectIs}
use Rattle.refusals.specs.declared.Refusal.{Refusal}
use Rattle.std.specs.declared.result.Result.{Result}
use Rattle.std.specs.declared.result.Result.TheVariants.{Ok, Err}
use Rattle.meaning.specs.Constraints.{Object, object, Attributes, no_more, Value, nested}
use Rattle.meaning.specs.Counting.{object_pool, attribute_pool, value_pool}
use Rattle.cadl_items.proofs.ItemLaws.{all_kept}
use Rattle.cadl_objects.specs.Clauses.Told.{value, attributes, object_from}
use Rattle.cadl_objects.specs.Clauses.Answers.{Counted, TypedPast, ObjectHeadIs}
use Rattle.cadl_objects.specs.declared.heads.ObjectHead.{ObjectHead}
use Rattle.table.specs.Records.{record_size, encode, encodes}
use Rattle.compile_flatten.specs.Flatten.{attributes_link, object_table, attributes_table, value_table}
use Rattle.compile_emission.specs.Clauses.Answers.{spot, wrote, written, leaf_value, Room, object_row, ObjectPut}
use Rattle.compile.specs.Clauses.Answers.{TreeIs, Stacked, EndIs}
use Rattle.compile_emission.specs.declared.spots.Spot.{Spot}
use Rattle.compile_emission.proofs.WritingSteps.{front}
use Rattle.cadl_objects.proofs.TreeParts.{value_is}
use Rattle.compile.proofs.ReadingLaws.{behind_head, object_refused, object_levels_lem, object_got, Linked, linked}

-- ---- the `}` of an object that any attribute may follow

module _ {s : List ℕ} {from : ℕ} (p : Spot) where
  pub end_fault : (x : Refusal) → ExpectIs s close_brace from (expect s close_brace from) (Err x)
      → EndIs s p from (Err x)
  unfolding written
  end_fault x e = record { is = λ little rs bs. rw (← e.is) }

  pub end_taken : (t : Token) → ExpectIs s close_brace from (expect s close_brace from) (Ok t)
      → EndIs s p from (Ok (spot t.end p.next p.pool))
  unfolding written attributes_table attribute_pool
  end_taken t e = record { is = λ little rs bs. rw (← e.is, add-zero, add-zero) }

-- ---- an object

pub counted : {s : List ℕ} {p : Spot} → Room s p → Counted s p.next p.place
counted h = record { inside = h.inside; records = h.records }

-- attributes behind an object's record and names make up the object
object_written : (little : Bool) (p : Spot) (t c : List ℕ) (place : ℕ) (first : ℕ) (rs bs : List ℕ)
    (x : Reading Attributes) → ((xs : Attributes) (at : ℕ) → x ≡ got xs at → attributes_link xs ≡ first)
    → written attributes_table attribute_pool little (spot place (p.next + 1) (p.pool + length t + length c))
    (sets rs (record_size * p.next) (encode little (object_row t c p.pool first))) (sets bs p.pool (t ++ c)) x
    ≡ written object_table object_pool little p rs bs
    (read_then x (λ xs at. got (object (record { number = p.next; type = t; code = c }) xs) at))
unfolding written object_table object_pool
object_written little p t c place first rs bs (refused x) h = refl
object_written little p t c place first rs bs (got xs at) h =
    let q = p.pool + length t + length c in
    let n : p.next + 1 + length (attributes_table xs q) ≡ p.next + suc (length (attributes_table xs q)) = omega arith in
    let m : q + length (attribute_pool xs) ≡ p.pool + length (t ++ (c ++ attribute_pool xs)) = simp length-append (omega arith) in
    let l : p.pool + length (t ++ c) ≡ q = simp length-append (omega arith) in
    let r = front little (object_row t c p.pool first) (attributes_table xs q) p.next rs refl in
    let b : sets (sets bs p.pool (t ++ c)) q (attribute_pool xs) ≡ sets bs p.pool (t ++ (c ++ attribute_pool xs)) = sets_behind (t ++ c) (attribute_pool xs) bs p.pool q l ∙ ap (λ (y : List ℕ). sets bs p.pool y) (append_assoc t c (attribute_pool xs)) in
    let k = h xs at refl in
    λ i. record {
      answer = Ok (spot at (n i) (m i));
      records = (r ∙ ap (λ (y : ℕ). sets rs (record_size * p.next) (encodes little (object_row t c p.pool y ∷ attributes_table xs q))) (sym k)) i;
      bytes = b i;
    }

module _ {s : List ℕ} {p : Spot} {top : ℕ} (room : Stacked s p top) (levels : ℕ) where
  abbrev From : Reading Object
  From = object_from s levels p.next p.place

  pub object_faulty : (little : Bool) (names rs bs : List ℕ) (x : Refusal)
      → ObjectHeadIs s levels p.next p.place (Err x)
      → TreeIs top names names (written object_table object_pool little p rs bs From) rs bs (Err x)
  unfolding written
  object_faulty little names rs bs x e = record { is = rw (object_refused s levels p.next p.place x (sym e.is)); kept = all_kept names top }

  module _ {head : ObjectHead} (e : ObjectHeadIs s levels p.next p.place (Ok head)) where
    pub object_past : TypedPast s p.next p.place head.type_start head.type_end head.code_start head.code_end head.next
    object_past = e.past

    pub object_level : 1 ≤ levels
    object_level = object_levels_lem s levels p.next p.place _ head.next (sym e.is)

    read : From ≡ behind_head s (levels - 1) p.next (record { type = part s head.type_start head.type_end; code = part s head.code_start head.code_end }) head.next
    read = object_got s levels p.next p.place _ head.next (sym e.is)

    module _ {t : Token} (tok : TokenIs s head.next (token_at s head.next) t) {little any : Bool} {rs bs rs' bs' : List ℕ}
        {q : Spot} (put : ObjectPut (part s head.type_start head.type_end) (part s head.code_start head.code_end) little p head.next any rs bs rs' bs' q) where
      pub object_any : (names : List ℕ) (r : Result Spot Refusal) → any ≡ eqb t.sort star → any ≡ true → EndIs s q t.end r
          → TreeIs top names names (written object_table object_pool little p rs bs From) rs' bs' r
      object_any names r k y h =
          let z : eqb (token_at s head.next).sort star ≡ true = ap (λ (x : Token). eqb x.sort star) (sym tok.is) ∙ sym k ∙ y in
          let w = object_written little p (part s head.type_start head.type_end) (part s head.code_start head.code_end) head.next 0 rs bs (read_then (expect s close_brace t.end) (λ u at. got no_more at)) (ends (expect s close_brace t.end)) in
          let j = tok.is in
          record { is = h.is little rs' bs' ∙ rw (put.spot, put.records, put.bytes, y, read, z, ← j) w; kept = all_kept names top }
        where
          ends : (x : Reading Token) (xs : Attributes) (at : ℕ) → read_then x (λ u y. got no_more y) ≡ got xs at
              → attributes_link xs ≡ 0
          ends (refused x) xs at f = let z : ◌≡◌ {A = ℕ} 0 1 = cc in absurd (omega arith)
          ends (got u y) xs at f = let z : no_more ≡ xs = cc in rw (← z)

      pub object_more : Stacked s q top
      object_more =
          let h = object_past in
          let l = part_length s head.type_start head.type_end (omega arith) in
          let m = part_length s head.code_start head.code_end (omega arith) in
          let v = room.room in
          let x = room.few in
          rw put.spot (record { room = record { inside = h.inside; short = v.short; records = let n = h.records in omega arith; bytes = omega arith }; few = omega arith })

      pub object_attributes : (names names' rs2 bs2 : List ℕ) (r : Result Spot Refusal) → any ≡ eqb t.sort star → any ≡ false
          → TreeIs top names names'
          (written attributes_table attribute_pool little q rs' bs'
          (attributes s (levels - 1) (length s + 1) [] q.next q.place)) rs2 bs2 r
          → TreeIs top names names' (written object_table object_pool little p rs bs From) rs2 bs2 r
      object_attributes names names' rs2 bs2 r k y h =
          let z : eqb (token_at s head.next).sort star ≡ false = ap (λ (x : Token). eqb x.sort star) (sym tok.is) ∙ sym k ∙ y in
          let x = attributes s (levels - 1) (length s + 1) [] (p.next + 1) head.next in
          let l : Linked (p.next + 1) x = linked s (levels - 1) (length s + 1) [] (p.next + 1) head.next in
          let w = object_written little p (part s head.type_start head.type_end) (part s head.code_start head.code_end) head.next (p.next + 1) rs bs x (λ xs at f. by x l xs at f) in
          record { is = h.is ∙ rw (put.spot, put.records, put.bytes, y, read, z) w; kept = h.kept }
        where
          by : (x : Reading Attributes) → Linked (p.next + 1) x → (xs : Attributes) (at : ℕ) → x ≡ got xs at
              → attributes_link xs ≡ p.next + 1
          by (refused y) l xs at f = let z : ◌≡◌ {A = ℕ} 0 1 = cc in absurd (omega arith)
          by (got ys y) l xs at f = let z : ys ≡ xs = cc in rw (← z) l

-- ---- a value

nested_written : (little : Bool) (p : Spot) (rs bs : List ℕ) (x : Reading Object)
    → written object_table object_pool little p rs bs x
    ≡ written value_table value_pool little p rs bs (read_then x (λ o at. got (nested o) at))
unfolding written value_table value_pool
nested_written little p rs bs (refused x) = refl
nested_written little p rs bs (got o at) = refl

abbrev ValueOf : List ℕ → ℕ → Spot → Reading Value
ValueOf s levels p = value s levels p.next p.place

module _ (s : List ℕ) (p : Spot) (t : Token) (tok : TokenIs s p.place (content_token_at s p.place) t)
    (levels top : ℕ) where
  pub value_any : (little : Bool) (names rs bs : List ℕ) → t.sort ≡ star
      → TreeIs top names names (written value_table value_pool little p rs bs (ValueOf s levels p)) rs bs
      (Ok (spot t.end p.next p.pool))
  unfolding written value_table value_pool
  value_any little names rs bs k = record { is = rw (value_is s levels p.next p.place, ← tok.is, eq-eqb t.sort star k, add-zero, add-zero); kept = all_kept names top }

  pub value_object : (little : Bool) (names names' rs bs rs' bs' : List ℕ) (r : Result Spot Refusal)
      → t.sort ≡ type_name
      → TreeIs top names names'
      (written object_table object_pool little p rs bs (object_from s levels p.next p.place)) rs' bs' r
      → TreeIs top names names' (written value_table value_pool little p rs bs (ValueOf s levels p)) rs' bs' r
  value_object little names names' rs bs rs' bs' r l h = record {
    is =
        let k : t.sort ≡ star → ⊥ = λ e. omega arith in
        h.is ∙ nested_written little p rs bs (object_from s levels p.next p.place) ∙ rw (value_is s levels p.next p.place, ← tok.is, ne_eqb t.sort star k, eq-eqb t.sort type_name l);
    kept = h.kept;
  }

  pub value_leaf : (little : Bool) (names rs bs rs' bs' : List ℕ) (r : Result Spot Refusal) → (t.sort ≡ star → ⊥)
      → (t.sort ≡ type_name → ⊥) → wrote r rs' bs' ≡ written value_table value_pool little p rs bs (leaf_value s p)
      → TreeIs top names names (written value_table value_pool little p rs bs (ValueOf s levels p)) rs' bs' r
  value_leaf little names rs bs rs' bs' r k l h = record { is = h ∙ rw (value_is s levels p.next p.place, ← tok.is, ne_eqb t.sort star k, ne_eqb t.sort type_name l); kept = all_kept names top }
