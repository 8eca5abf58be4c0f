-- Steps of the functions that tell what an attribute says of a block. Assumes nothing.
use mathlib.Core.Path.{◌≡◌, refl, sym, ap, ◌∙◌, subst}
use mathlib.Core.Bool.{Bool, true, false, not, cond, beq, false≢true}
use Rattle.std.specs.Prelude.{Option, None, Some}
use Rattle.std.specs.declared.result.Result.{Result}
use Rattle.std.specs.declared.result.Result.TheVariants.{Ok, Err}
use mathlib.Core.List.{List, ◌∷◌}
use Prim.Native.Nat.{ℕ, zero, suc, ◌+◌, ◌-◌, ◌≤◌, ◌<◌}
use native.Mathlib.Omega.{arith}
use lib.Dec.{eqb, lit<}
use lib.ListN.{length, take, drop}
use borrow.Author.Tests.{eqb-true, eqb-false, ne_eqb}
use Rattle.lexis.specs.Bytes.{among}
use Rattle.lexis.specs.Runs.{part, same}
use Rattle.lexis.proofs.Cases.{by_cond, either}
use Rattle.meaning.specs.Constraints.{Leaf}
use Rattle.meaning.specs.Data.{Members, member, Content, string, word}
use Rattle.meaning.specs.Data
use Rattle.meaning.specs.Verdicts.{Verdict, valid, fails}
use Rattle.meaning.specs.Admission.{leaf_number}
use Rattle.meaning.specs.Judging.{place_of, verdict_of, member_of, judge_member, judge_leaf, judge_content, judge_value}
use Rattle.dadl.specs.Clauses.Tape.{is_block, is_string, row_number}
use Rattle.dadl.specs.Clauses.Rows.{row_at, TapeGood, linked}
use Rattle.table.specs.Records.{Image, field, record_in}
use Rattle.table.specs.Rows.{shape_of, object_kind, items}
use Rattle.table.specs.Check.{kind_at}
use Rattle.table.specs.Trees.{attributes_in, value_in, tree_at}
use Rattle.table.specs.Clauses.Answers.{record_of}
use Rattle.table.specs.declared.records.Entry.{Entry}
use Rattle.table.specs.declared.records.RecordNumber.{RecordNumber}
use Rattle.judge_admission.specs.Clauses.Items.{name_of, record_leaf, Lies, ItemsGood, image_from}
use Rattle.judge_admission.specs.Clauses.Answers.{finding_of, finding_under}
use Rattle.judge_attributes.specs.Clauses.Answers.{leaf_verdict, failed}
use Rattle.dadl.specs.declared.tokens.Part.{Part}
use Rattle.judge_tape.specs.Clauses.Rows.{type_at, type_on, TypeGood, content_on, members_on, datum_on, member_row, Begins, LeafRow, block_on, MembersWithin, ContentWithin, Walk}
use Rattle.judge_attributes.specs.Clauses.Attributes.{judge_first, ValueLink, AttributeAt, Leads, ValueIs, AttributeAnswerIs}
use Rattle.judge_tape.specs.Clauses.Memo.{KnownIs}
use Rattle.judge_admission.specs.declared.Admission.{Admission}
use Rattle.judge_tape.specs.declared.members.Block.{Block}
use Rattle.judge_attributes.specs.declared.Failure.{Failure}
use Rattle.judge_attributes.specs.declared.Nested.{Nested}
use Rattle.judge_tape.proofs.MemberSteps.{found_on, FoundIs, member_holds}
use Rattle.judge_admission.proofs.TableLaws.{by_kind, number_lies, kind_there, link_there, name_there, items_there, object_tree, attribute_tree, leaf_there}

-- a block, as it is read
pub block_read : (tape : List ℕ) (n place start end inside : ℕ) (t : Option Part) → place ≡ row_number (row_at tape n) 3
    → start ≡ row_number (row_at tape n) 4 → end ≡ row_number (row_at tape n) 5 → t ≡ type_at start end
    → inside ≡ row_number (row_at tape n) 7
    → record { place = place; type_name = t; first = n + 1; inside = inside } ≡ block_on tape n
block_read tape n place start end inside t p a e k i =
    let h : t ≡ type_at (row_number (row_at tape n) 4) (row_number (row_at tape n) 5) = rw (← a, ← e) k in
    λ j. record { place = p j; type_name = h j; first = n + 1; inside = i j }

-- a type between two places in a text lies in it
type_lies : (size start end : ℕ) → start ≤ end → end ≤ size → TypeGood size (type_at start end)
type_lies size start end h l = by (eqb end 0)
  where
    by : (b : Bool) → TypeGood size (cond b None (Some (record { start = start; end = end })))
    by true = tt
    by false = (h, l)

-- a number that is not 0
pub value_some : (n : ℕ) → (n ≡ 0 → ⊥) → 1 ≤ n
value_some n h = omega arith

-- a leaf's first item is a record's
pub first_lies : (records pool : List ℕ) (first : ℕ) → ItemsGood records pool first → 1 ≤ first
    → (1 ≤ first) × Lies records first
first_lies records pool first i h = (h, i.there)

-- a row whose value is known to be admitted
pub value_known : (records pool s tape : List ℕ) (row first : ℕ) (r : Bool) → KnownIs records pool s tape row first r
    → r ≡ true → valid ≡ leaf_verdict records pool s first (row_at tape row)
value_known records pool s tape row first r k h = ap (verdict_of first (row_number (row_at tape row) 3)) (sym (k.admits h))

-- the value of a row that holds a string or a word
module _ (s : List ℕ) (rows : ℕ) (tape : List ℕ) (n start end : ℕ) (g : TapeGood (length s) rows tape)
    (l : LeafRow rows tape n) (es : start ≡ row_number (row_at tape n) 6) (ee : end ≡ row_number (row_at tape n) 7) where
  pub value_told : (records pool : List ℕ) (first holds place : ℕ) (a : Admission) (v : Verdict)
      → holds ≡ row_number (row_at tape n) 0
      → finding_of a ≡ finding_under (record_leaf records pool first) (eqb holds 1) (take (end - start) (drop start s))
      → place ≡ row_number (row_at tape n) 3 → v ≡ verdict_of first place (finding_of a)
      → v ≡ leaf_verdict records pool s first (row_at tape n)
  value_told records pool first holds place a v eh ea ep ev =
      let row = row_at tape n in
      ev ∙ ap (verdict_of first place) ea ∙ λ j. verdict_of first (ep j) (finding_under (record_leaf records pool first) (eqb (eh j) 1) (part s (es j) (ee j)))

-- the type between two places, as a text spells it
type_read : (s : List ℕ) (start end : ℕ)
    → cond (eqb end 0) None (Some (part s start end)) ≡ type_on s (type_at start end)
type_read s start end = by (eqb end 0)
  where
    by : (b : Bool)
        → cond b None (Some (part s start end)) ≡ type_on s (cond b None (Some (record { start = start; end = end })))
    by true = refl
    by false = refl

-- what a row holds: a block, or a string or a word
module _ (s : List ℕ) (rows : ℕ) (tape : List ℕ) (n : ℕ) where
  pub content_block : row_number (row_at tape n) 0 ≡ 0
      → content_on s rows tape n ≡ Data.block (datum_on s rows tape (block_on tape n))
  content_block h =
      let row = row_at tape n in
      rw h (ap (λ t. Data.block (Data.datum (row_number row 3) t (linked s rows tape (row_number row 7) (n + 1)))) (type_read s (row_number row 4) (row_number row 5)))

  -- a leaf under an object
  leaf_under_object : (number·object : ℕ) (inside : Data.Datum → Verdict) → (row_number (row_at tape n) 0 ≡ 0 → ⊥)
      → judge_content number·object inside (content_on s rows tape n)
      ≡ fails 20 number·object (row_number (row_at tape n) 3)
  leaf_under_object m inside h =
      rw (ne_eqb (row_number (row_at tape n) 0) 0 h)
      (by_cond (λ c. judge_content m inside c ≡ fails 20 m (row_number (row_at tape n) 3)) (eqb (row_number (row_at tape n) 0) is_string) (λ _. refl) (λ _. refl))

  -- a leaf under items
  leaf_under_items : (records pool : List ℕ) (l : Leaf) (first : ℕ) → leaf_number l ≡ first
      → record_leaf records pool first ≡ Some l → (row_number (row_at tape n) 0 ≡ 0 → ⊥)
      → judge_leaf l (content_on s rows tape n) ≡ leaf_verdict records pool s first (row_at tape n)
  leaf_under_items records pool l first el ef h =
      let row = row_at tape n in
      let w = part s (row_number row 6) (row_number row 7) in
      rw (ne_eqb (row_number row 0) 0 h, ef, ← el) (by (eqb (row_number row 0) is_string))
    where
      by : (b : Bool)
          → judge_leaf l
          (cond b (string (row_number (row_at tape n) 3)
          (part s (row_number (row_at tape n) 6) (row_number (row_at tape n) 7)))
          (word (row_number (row_at tape n) 3) (part s (row_number (row_at tape n) 6) (row_number (row_at tape n) 7))))
          ≡ verdict_of (leaf_number l) (row_number (row_at tape n) 3)
          (finding_under (Some l) b (part s (row_number (row_at tape n) 6) (row_number (row_at tape n) 7)))
      by true = refl
      by false = refl

-- what a value takes and what a row holds are both a block, or neither is
blocks_agree : (kind holds : ℕ) → not (beq (eqb kind 1) (eqb holds 0)) ≡ false → eqb kind 1 ≡ eqb holds 0
blocks_agree kind holds d = by (eqb kind 1) (eqb holds 0) d
  where
    by : (x y : Bool) → not (beq x y) ≡ false → x ≡ y
    by true true e = refl
    by true false e = absurd (false≢true (sym e))
    by false true e = absurd (false≢true (sym e))
    by false false e = refl

both_blocks : (kind holds : ℕ) → not (beq (eqb kind 1) (eqb holds 0)) ≡ false → holds ≡ 0 → kind ≡ 1
both_blocks kind holds d h = eqb-true kind 1 (blocks_agree kind holds d ∙ rw h)

no_block : (kind holds : ℕ) → not (beq (eqb kind 1) (eqb holds 0)) ≡ false → (holds ≡ 0 → ⊥) → kind ≡ 1 → ⊥
no_block kind holds d h = eqb-false kind 1 (blocks_agree kind holds d ∙ ne_eqb holds 0 h)

-- a member's value, by the object or the items with a number
module _ (records pool s tape : List ℕ) (rows : ℕ) (value : RecordNumber) (row : ℕ)
    (w : Walk records pool s tape rows) where
  pub value_any : value.0 ≡ 0 → ValueIs (image_from records pool) s rows tape value.0 row (Ok None)
  unfolding tree_at judge_value
  value_any h = record { is = rw h; leads = tt }

  module _ (l : ValueLink (image_from records pool) value.0) (h : value.0 ≡ 0 → ⊥) where
    -- its kind is an object's or an item's
    kind_some : (k : ℕ) → kind_at (image_from records pool) value.0 ≡ k → 1 ≤ k
    kind_some zero e = absurd (let f = l.kind (omega arith) in false≢true (rw e at f))
    kind_some (suc k) e = omega arith

    pub value_lies : Lies records value.0
    value_lies = number_lies records pool w.checked value.0 (kind_at (image_from records pool) value.0) refl (kind_some (kind_at (image_from records pool) value.0) refl)

    module _ (kind : ℕ) (q : kind ≡ (record_in records value.0).kind) where
      kind_read : kind_at (image_from records pool) value.0 ≡ kind
      kind_read = sym (kind_there records pool w.checked value.0 (kind_at (image_from records pool) value.0) refl (kind_some (kind_at (image_from records pool) value.0) refl)) ∙ sym q

      items_kind : (kind ≡ 1 → ⊥) → among (kind_at (image_from records pool) value.0) items ≡ true
      items_kind z = by_kind (kind_at (image_from records pool) value.0) 1 items (l.kind (omega arith)) (λ f. absurd (z (sym kind_read ∙ f))) (λ f. f)

      module _ (z : row < rows) (holds : ℕ) (eh : holds ≡ row_number (row_at tape row) 0) where
        -- a block under an object is still to be judged
        pub value_nested : not (beq (eqb kind 1) (eqb holds 0)) ≡ false → holds ≡ 0 → (b : Block) → b ≡ block_on tape row
            → ValueIs (image_from records pool) s rows tape value.0 row (Ok (Some (record { object = value; block = b })))
        unfolding ContentWithin
        value_nested ea ez b eb =
            let ek = both_blocks kind holds ea ez in
            let c = content_block s rows tape row (sym eh ∙ ez) in
            let g = w.good.rows row z in
            let d : datum_on s rows tape (block_on tape row) ≡ datum_on s rows tape b = ap (datum_on s rows tape) (sym eb) in
            record {
              is = ap (λ x. judge_value (value_in (tree_at (image_from records pool) value.0)) x) (ap Data.block (sym d) ∙ sym c);
              leads = (
                kind_read ∙ ek,
                rw eb (record { lies = type_lies (length s) _ _ g.type_start g.type_end; begins = record { there = λ k. g.inside (sym eh ∙ ez) k } }),
                rw eb (record { there = omega arith; holds = λ _. let r : row + 1 - 1 ≡ row = omega arith in rw r (sym eh ∙ ez); is = λ _. let r : row + 1 - 1 ≡ row = omega arith in rw r }),
                λ levels k. subst (λ x. ContentWithin x levels) (c ∙ ap Data.block d) k,
              );
            }

        module _ (f : Failure) (place : ℕ) (er : failed f ≡ fails 20 value.0 place)
            (ep : place ≡ row_number (row_at tape row) 3) where
          told_20 : fails 20 value.0
              (row_number (row_at tape row) 3) ≡ judge_value (value_in (tree_at (image_from records pool) value.0))
              (content_on s rows tape row) → ValueIs (image_from records pool) s rows tape value.0 row (Err f)
          told_20 h = record { is = er ∙ ap (fails 20 value.0) ep ∙ h; leads = tt }

          -- a leaf under an object
          value_leaf : kind ≡ 1 → (holds ≡ 0 → ⊥) → ValueIs (image_from records pool) s rows tape value.0 row (Err f)
          unfolding judge_value
          value_leaf ek ez =
              told_20 (rw (object_tree records pool w.checked value.0 (kind_read ∙ ek))
              (sym (leaf_under_object s rows tape row value.0 _ (λ f. ez (eh ∙ f)))))

          -- a block under items
          value_block : (kind ≡ 1 → ⊥) → holds ≡ 0 → ValueIs (image_from records pool) s rows tape value.0 row (Err f)
          unfolding judge_value
          value_block ek ez =
              let i = leaf_there records pool w.checked value.0 (items_kind ek) in
              told_20 (rw (i.tree, content_block s rows tape row (sym eh ∙ ez), i.number))

          -- what is not what is asked for
          pub value_unsuited : not (beq (eqb kind 1) (eqb holds 0)) ≡ true
              → ValueIs (image_from records pool) s rows tape value.0 row (Err f)
          value_unsuited d = by (eqb kind 1) (eqb holds 0) refl refl d
            where
              by : (x y : Bool) → eqb kind 1 ≡ x → eqb holds 0 ≡ y → not (beq x y) ≡ true
                  → ValueIs (image_from records pool) s rows tape value.0 row (Err f)
              by true true a b e = absurd (false≢true e)
              by true false a b e = value_leaf (eqb-true kind 1 a) (eqb-false holds 0 b)
              by false true a b e = value_block (eqb-false kind 1 a) (eqb-true holds 0 b)
              by false false a b e = absurd (false≢true e)

        module _ (ea : not (beq (eqb kind 1) (eqb holds 0)) ≡ false) (ez : holds ≡ 0 → ⊥) where
          pub value_items : ItemsGood records pool value.0
          value_items = items_there records pool w.checked value.0 (kind_at (image_from records pool) value.0) refl (kind_some (kind_at (image_from records pool) value.0) refl)

          pub value_row : LeafRow rows tape row
          value_row = record { there = z; leaf = omega arith }

          -- a leaf under items
          judged : leaf_verdict records pool s value.0 (row_at tape row)
              ≡ judge_value (value_in (tree_at (image_from records pool) value.0)) (content_on s rows tape row)
          unfolding judge_value
          judged =
              let i = leaf_there records pool w.checked value.0 (items_kind (no_block kind holds ea ez)) in
              rw i.tree (sym (leaf_under_items s rows tape row records pool i.leaf value.0 i.number i.there (λ f. ez (eh ∙ f))))

          pub value_admitted : valid ≡ leaf_verdict records pool s value.0 (row_at tape row)
              → ValueIs (image_from records pool) s rows tape value.0 row (Ok None)
          value_admitted e = record { is = e ∙ judged; leads = tt }

          pub value_fails : (f : Failure) → failed f ≡ leaf_verdict records pool s value.0 (row_at tape row)
              → ValueIs (image_from records pool) s rows tape value.0 row (Err f)
          value_fails f e = record { is = e ∙ judged; leads = tt }

-- a member that is found is no deeper than the members
pub member_within : (w : List ℕ) (ms : Members) (c : Content) (levels : ℕ) → member_of w ms ≡ Some c
    → MembersWithin ms levels → ContentWithin c levels
unfolding member_of MembersWithin
member_within w Data.no_more c levels e h = absurd (let z : ◌≡◌ {A = ℕ} 0 1 = cc in omega arith)
member_within w (member x d more) c levels e h = by (same w x) e (λ g. member_within w more c levels g h.1)
  where
    by : (b : Bool) → cond b (Some d) (member_of w more) ≡ Some c → (member_of w more ≡ Some c → ContentWithin c levels)
        → ContentWithin c levels
    by true g k = let f : d ≡ c = cc in subst (λ y. ContentWithin y levels) f h.0
    by false g k = k g

-- the place of what a row holds
content_place : (s : List ℕ) (rows : ℕ) (tape : List ℕ) (n : ℕ)
    → place_of (content_on s rows tape n) ≡ row_number (row_at tape n) 3
content_place s rows tape n =
    let P : Content → Type 0 = λ c. place_of c ≡ row_number (row_at tape n) 3 in
    either P (eqb (row_number (row_at tape n) 0) is_block) refl (either P (eqb (row_number (row_at tape n) 0) is_string) refl refl)

-- the block that a step leads into is within what holds it
leads_map : (m : Image) (s : List ℕ) (rows : ℕ) (tape : List ℕ) (P Q : ℕ → Type 0)
    → ((levels : ℕ) → Q levels → P levels) → (r : Result (Option Nested) Failure) → Leads m s rows tape P r
    → Leads m s rows tape Q r
leads_map m s rows tape P Q f (Ok None) h = tt
leads_map m s rows tape P Q f (Ok (Some x)) h = (h.0, h.1, h.2, λ levels q. h.3 levels (f levels q))
leads_map m s rows tape P Q f (Err e) h = tt

-- the members of a block, by an attribute
module _ (records pool s tape : List ℕ) (rows : ℕ) (n : RecordNumber) (e : Entry) (b : Block)
    (w : Walk records pool s tape rows) (a : AttributeAt records pool n.0 e) where
  pub attribute_name_lem : e.a + e.b ≤ length pool
  attribute_name_lem = rw (← a.is) at (name_there records pool w.checked n.0 2 a.kind (omega arith) refl)

  pub attribute_link : ValueLink (image_from records pool) e.c
  unfolding shape_of
  attribute_link =
      let k : 0 < field (record_in records n.0) 2 → among (kind_at (image_from records pool) (field (record_in records n.0) 2)) (object_kind ∷ items) ≡ true =
      λ h. (link_there records pool w.checked n.0 2 a.kind (omega arith) 2 (object_kind ∷ items) (lit< tt) refl h).kind in
      record { kind = rw (← a.is) at k }

  module _ (name : List ℕ) (en : name ≡ name_of pool (record_of e)) (r : Option ℕ)
      (begins : Begins rows b.first b.inside)
      (er : r ≡ member_row s tape rows b.first b.inside name) where
    f : FoundIs s rows tape (members_on s rows tape b) name r
    f = rw er (member_holds s rows tape name w.good b.first b.inside begins)

    first_is : judge_member (record { number = n.0; existence = e.flag; name = name_of pool (record_of e) }) b.place
        (found_on s rows tape r)
        (λ x. judge_value (value_in (tree_at (image_from records pool) e.c)) x)
        ≡ judge_first (attributes_in (tree_at (image_from records pool) n.0))
        b.place (members_on s rows tape b)
    first_is = rw (attribute_tree records pool w.checked n.0 a.kind, ← a.is, f.is, en)

    module _ (h : r ≡ None) where
      pub member_missing : (f : Failure) → failed f ≡ fails 22 n.0 b.place → e.flag ≡ 2
          → AttributeAnswerIs (image_from records pool) s rows tape n.0 b (Err f)
      member_missing f ev z = record { is = ev ∙ (rw (h, z) at first_is); leads = tt }

      pub member_absent : (e.flag ≡ 2 → ⊥) → AttributeAnswerIs (image_from records pool) s rows tape n.0 b (Ok None)
      member_absent z = record { is = rw (h, ne_eqb e.flag 2 z) at first_is; leads = tt }

    module _ (row : ℕ) (h : r ≡ Some row) where
      pub member_row_lem : row < rows
      member_row_lem = rw h at f.there

      pub member_present : (x : Failure) (place : ℕ) → failed x ≡ fails 23 n.0 place
          → place ≡ row_number (row_at tape row) 3 → e.flag ≡ 0
          → AttributeAnswerIs (image_from records pool) s rows tape n.0 b (Err x)
      member_present x place ev ep z =
          let k : fails 23 n.0 (place_of (content_on s rows tape row)) ≡ judge_first (attributes_in (tree_at (image_from records pool) n.0)) b.place (members_on s rows tape b) = rw (h, z) at first_is in
          record { is = ev ∙ ap (fails 23 n.0) (ep ∙ sym (content_place s rows tape row)) ∙ k; leads = tt }

      pub member_judged : (v : Result (Option Nested) Failure)
          → ValueIs (image_from records pool) s rows tape e.c row v
          → (e.flag ≡ 0 → ⊥) → AttributeAnswerIs (image_from records pool) s rows tape n.0 b v
      member_judged v i z =
          let k : Some (content_on s rows tape row) ≡ member_of name (members_on s rows tape b) = rw h at f.is in
          record {
            is = i.is ∙ (rw (h, ne_eqb e.flag 0 z) at first_is);
            leads = leads_map (image_from records pool) s rows tape (λ levels. ContentWithin (content_on s rows tape row) levels) (λ levels. MembersWithin (members_on s rows tape b) levels)
                (λ levels q. member_within name (members_on s rows tape b) (content_on s rows tape row) levels (sym k) q) v i.leads;
          }
