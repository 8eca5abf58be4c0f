-- Steps of the functions that read and write an attribute, and an object's attributes one after the other. Assumes nothing.
use mathlib.Core.Path.{◌≡◌, refl, sym, ap, ◌∙◌}
use mathlib.Core.Bool.{Bool}
use mathlib.Core.List.{List}
use Prim.Native.Nat.{ℕ, ◌+◌, ◌*◌, ◌≤◌, ◌<◌}
use native.Mathlib.Omega.{arith}
use lib.ListN.{length}
use lib.Seq.{sets}
use Rattle.lexis.specs.Runs.{part}
use Rattle.lexis.specs.Spelling.{close_brace}
use Rattle.lexis.specs.declared.Token.{Token}
use Rattle.lexis.proofs.Parts.{part_length}
use Rattle.lexis.proofs.Stores.{sets_behind}
use Rattle.refusals.specs.Reading.{Reading, refused, got, read_then}
use Rattle.refusals.specs.Expecting.{expect}
use Rattle.refusals.specs.declared.Refusal.{Refusal}
use Rattle.refusals.proofs.Readings.{Holds}
use Rattle.meaning.specs.Constraints.{Value}
use Rattle.meaning.specs.Counting.{value_pool}
use Rattle.cadl_items.specs.Clauses.Spans.{first_of, second_of, earlier, SpansIn}
use Rattle.cadl_items.specs.Clauses.Items.{Kept}
use Rattle.cadl_items.proofs.ItemLaws.{item_first, item_second, item_kept, first_kept, second_kept, all_kept}
use Rattle.cadl_objects.specs.Objects.{Attribute}
use Rattle.cadl_objects.specs.Clauses.Told.{value, attribute_from}
use Rattle.cadl_objects.specs.Clauses.Answers.{NamedAttribute, NamedPast, AttributeHeadIs}
use Rattle.cadl_objects.specs.declared.heads.AttributeHead.{AttributeHead}
use Rattle.std.specs.declared.result.Result.{Result}
use Rattle.std.specs.declared.result.Result.TheVariants.{Ok, Err}
use Rattle.cadl_objects.proofs.TreeReading.{ValueRead, value_holds}
use Rattle.table.specs.Records.{record_size, encodes}
use Rattle.compile_flatten.specs.Flatten.{value_link, value_table}
use Rattle.compile_emission.specs.Clauses.Answers.{spot, written, link_below, Room, PartFits, NameRoom, NameKept, attribute_row, next_link, closed_attribute, CloseIs, CloseRoom}
use Rattle.compile.specs.Clauses.Answers.{TreeIs, Stacked, attribute_written, Pushed, AttributeIs, AttributeRoom}
use Rattle.compile_emission.specs.declared.spots.Spot.{Spot}
use Rattle.compile_emission.specs.declared.spots.AttributeEnd.{AttributeEnd}
use Rattle.compile_flatten.proofs.FlattenLaws.{value-length}
use Rattle.compile_emission.proofs.TreeWriting.{row_below, IsTree, is_tree_lem, is_refused_lem, tree_room, value_link_lem}
use Rattle.compile.proofs.ReadingLaws.{behind_name, attribute_by}

-- ---- an attribute

abbrev pub AttributeOf : List ℕ → ℕ → Spot → ℕ → ℕ → List ℕ → Reading Attribute
AttributeOf s levels p first top names = attribute_from s levels (earlier s names first top) p.next p.place

abbrev attribute_as : ℕ → List ℕ → Value → Attribute
attribute_as flag w v = record { existence = flag; name = w; value = v }

-- an attribute's record below its value's, and its `}`
attribute_written_lem : (s : List ℕ) (little : Bool) (p : Spot) (flag : ℕ) (w : List ℕ) (v : Value) (place : ℕ)
    (rs bs : List ℕ) (x : Reading Token)
    → link_below (p.next + 1) (p.next + 1 + length (value_table v (p.pool + length w))) ≡ value_link v
    → closed_attribute s little p flag w
    (spot place (p.next + 1 + length (value_table v (p.pool + length w))) (p.pool + length w + length (value_pool v)))
    (sets rs (record_size * (p.next + 1)) (encodes little (value_table v (p.pool + length w))))
    (sets (sets bs p.pool w) (p.pool + length w) (value_pool v)) x
    ≡ attribute_written s little p rs bs (read_then x (λ u at. got (attribute_as flag w v) at))
unfolding closed_attribute attribute_written
attribute_written_lem s little p flag w v place rs bs (refused x) h = refl
attribute_written_lem s little p flag w v place rs bs (got t at) h =
    let table = value_table v (p.pool + length w) in
    let next = p.next + 1 + length table in
    let r = row_below little (attribute_row flag w p.pool (link_below (p.next + 1) next) (next_link s at next)) table p.next rs refl in
    let b = sets_behind w (value_pool v) bs p.pool (p.pool + length w) refl in
    rw (r, b, h)

-- an attribute behind its head has the head's name
name_of : (s : List ℕ) (levels n : ℕ) (h : NamedAttribute) (r : ℕ) (a : Attribute) (at : ℕ)
    → behind_name s levels n h r ≡ got a at → a.name ≡ h.name
name_of s levels n h r a at e = by (value s levels (n + 1) r) e
  where
    two : (v : Value) (y : Reading Token)
        → read_then y (λ u z. got (attribute_as h.existence h.name v) z) ≡ got a at → a.name ≡ h.name
    two v (refused x) f = let z : ◌≡◌ {A = ℕ} 0 1 = cc in absurd (omega arith)
    two v (got u z) f = let k : a ≡ attribute_as h.existence h.name v = cc in ap (λ (x : Attribute). x.name) k

    by : (x : Reading Value)
        → read_then x (λ v y. read_then (expect s close_brace y) (λ u z. got (attribute_as h.existence h.name v) z))
        ≡ got a at
        → a.name ≡ h.name
    by (refused x) f = let z : ◌≡◌ {A = ℕ} 0 1 = cc in absurd (omega arith)
    by (got v y) f = two v (expect s close_brace y) f

-- names that stay
pub kept_both : {a b : ℕ} {x y z : List ℕ} → a ≤ b → Kept a x y → Kept b y z → Kept a x z
kept_both h k l = record { same = λ j m. l.same j (omega arith) ∙ k.same j m }

module _ {s : List ℕ} {p : Spot} {first top : ℕ} {names : List ℕ} (room : AttributeRoom s p first top names) where
  abbrev Seen : List (List ℕ)
  Seen = earlier s names first top

  module _ (levels : ℕ) where
    refused_is : {little : Bool} {rs bs names' rs' bs' : List ℕ} {x : Refusal} → Kept top names names'
        → AttributeOf s levels p first top names ≡ refused x
        → AttributeIs s little levels p first top names rs bs names' rs' bs' (Err x)
    unfolding attribute_written
    refused_is k f = record { is = rw f; kept = k; pushed = λ a at g. let z : ◌≡◌ {A = ℕ} 0 1 = cc in absurd (omega arith) }

    pub attribute_faulty : (little : Bool) (rs bs : List ℕ) (x : Refusal)
        → AttributeHeadIs s Seen p.next p.place (Err x)
        → AttributeIs s little levels p first top names rs bs names rs bs (Err x)
    attribute_faulty little rs bs x e = refused_is (all_kept names top) (attribute_by s levels Seen p.next p.place ∙ rw (← e.is))

  module _ {head : AttributeHead} (e : AttributeHeadIs s Seen p.next p.place (Ok head)) where
    named_past : NamedPast s p.next p.place head.name_start head.name_end head.existence head.next
    named_past = e.past

    name_fits : PartFits s head.name_start head.name_end p.pool
    name_fits =
        let h = named_past in
        let r = room.stacked.room in
        record { lies = omega arith; room = omega arith }

    pub name_room : NameRoom s p head.name_start head.name_end top
    name_room =
        let h = named_past in
        let r = room.stacked in
        record { part = name_fits; short = r.room.short; records = h.records; few = r.few }

    abbrev word : List ℕ
    word = part s head.name_start head.name_end

    module _ {bs names1 bs1 : List ℕ} {q : Spot} (put : NameKept word p head.next head.name_start head.name_end top bs names bs1 names1 q) where
      pub value_stacked : Stacked s q (top + 1)
      value_stacked =
          let h = named_past in
          let l = part_length s head.name_start head.name_end (omega arith) in
          let v = room.stacked.room in
          let x = room.stacked.few in
          rw put.spot (record { room = record { inside = h.inside; short = v.short; records = let n = h.records in omega arith; bytes = omega arith }; few = omega arith })

      module _ (levels : ℕ) (little : Bool) (rs : List ℕ) {names2 rs2 bs2 : List ℕ} {r : Result Spot Refusal}
          (d : TreeIs (top + 1) names1 names2
          (written value_table value_pool little q rs bs1 (value s levels q.next q.place)) rs2 bs2 r) where
        abbrev inside : Reading Value
        inside = value s levels (p.next + 1) head.next

        head_read : AttributeOf s levels p first top names ≡ behind_name s levels p.next
            (record { name = word; existence = head.existence }) head.next
        head_read = attribute_by s levels Seen p.next p.place ∙ rw (← e.is)

        still : Kept top names names2
        still = kept_both {b = top + 1} (omega arith) (rw put.stack (item_kept names top head.name_start head.name_end)) d.kept

        same_value : value s levels q.next q.place ≡ inside
        same_value = ap (λ (y : Spot). value s levels y.next y.place) put.spot

        pub value_refused : (x : Refusal) → r ≡ Err x
            → AttributeIs s little levels p first top names rs bs names2 rs2 bs2 (Err x)
        value_refused x k =
            let f = is_refused_lem value_table value_pool little q rs bs1 rs2 bs2 x _ (rw k at d.is) in
            refused_is levels still (head_read ∙ rw (← same_value, f))

        module _ {v : Spot} (k : r ≡ Ok v) where
          read : IsTree value_table value_pool little q rs bs1 rs2 bs2 v (value s levels q.next q.place)
          read = is_tree_lem value_table value_pool little q rs bs1 rs2 bs2 v _ (rw k at d.is)

          value_is : inside ≡ got read.tree v.place
          value_is = sym same_value ∙ read.is

          spot_is : v ≡ spot v.place (p.next + 1 + length (value_table read.tree (p.pool + length word)))
              (p.pool + length word + length (value_pool read.tree))
          spot_is = read.spot ∙ ap (λ (y : Spot). spot v.place (y.next + length (value_table read.tree y.pool)) (y.pool + length (value_pool read.tree))) put.spot

          records_are : rs2 ≡ sets rs (record_size * (p.next + 1))
              (encodes little (value_table read.tree (p.pool + length word)))
          records_are = read.records ∙ ap (λ (y : Spot). sets rs (record_size * y.next) (encodes little (value_table read.tree y.pool))) put.spot

          bytes_are : bs2 ≡ sets (sets bs p.pool word) (p.pool + length word) (value_pool read.tree)
          bytes_are = read.bytes ∙ λ i. sets (put.bytes i) (put.spot i).pool (value_pool read.tree)

          read_in : ValueRead s (p.next + 1) head.next read.tree v.place
          unfolding Holds
          read_in = rw value_is at (value_holds s levels (p.next + 1) head.next named_past.inside)

          pub value_closing : CloseRoom s p head.name_start head.name_end v
          value_closing =
              let h = named_past in
              let x = spot head.next (p.next + 1) (p.pool + length word) in
              let w : Room s x = rw put.spot at value_stacked.room in
              let n : v.next ≡ p.next + 1 + length (value_table read.tree (p.pool + length word)) = ap (λ (y : Spot). y.next) spot_is in
              record {
                lies = name_fits.lies;
                bytes = let m : v.pool ≡ p.pool + length word + length (value_pool read.tree) = ap (λ (y : Spot). y.pool) spot_is in omega (arith, part_length s head.name_start head.name_end name_fits.lies.inside);
                room = tree_room {p = x} {q = v} (value_table read.tree (p.pool + length word)) w read_in (value-length read.tree (p.pool + length word)) spot_is;
                order = omega arith;
              }

          link_is : link_below (p.next + 1)
              (p.next + 1 + length (value_table read.tree (p.pool + length word))) ≡ value_link read.tree
          link_is = rw (value-length read.tree (p.pool + length word)) (value_link_lem read.tree (p.next + 1) read_in.numbers read_in.proper)

          whole : AttributeOf s levels p first top names ≡ read_then (expect s close_brace v.place)
              (λ u at. got (attribute_as head.existence word read.tree) at)
          whole = head_read ∙ rw value_is

          on_stack : length names ≡ 4_096 → Pushed s names2 top word
          on_stack long =
              let t = room.stacked.few in
              let h = named_past in
              let l : 2 * top + 1 < length names = let m = h.records in omega arith in
              let a : first_of names2 top ≡ head.name_start = first_kept (top + 1) names1 names2 d.kept top (omega arith) ∙ rw put.stack (item_first names top head.name_start head.name_end l) in
              let b : second_of names2 top ≡ head.name_end = second_kept (top + 1) names1 names2 d.kept top (omega arith) ∙ rw put.stack (item_second names top head.name_start head.name_end l) in
              record { is = λ i. part s (a i) (b i); lies = rw (a, b) name_fits.lies }

          pub value_closed : (rs3 : List ℕ) (z : Result AttributeEnd Refusal) → length names ≡ 4_096
              → CloseIs s little p head.existence word v rs2 rs3 z
              → AttributeIs s little levels p first top names rs bs names2 rs3 bs2 z
          value_closed rs3 z long f =
              let x = expect s close_brace v.place in
              record {
                is = f.is bs2 ∙ (λ i. closed_attribute s little p head.existence word (spot_is i) (records_are i) (bytes_are i) x) ∙ attribute_written_lem s little p head.existence word read.tree v.place rs bs x link_is ∙ ap (attribute_written s little p rs bs) (sym whole);
                kept = still;
                pushed = λ a at j. rw (name_of s levels p.next (record { name = word; existence = head.existence }) head.next a at (sym head_read ∙ j)) (on_stack long);
              }

pub attribute_spans : {s : List ℕ} {p : Spot} {first top : ℕ} {names : List ℕ} → AttributeRoom s p first top names
    → length names ≡ 4_096 → SpansIn s names first top
attribute_spans h l = record { room = let a = h.stacked.few in let b = h.stacked.room.records in omega arith; within = h.lies }
