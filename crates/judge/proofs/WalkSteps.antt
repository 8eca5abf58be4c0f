-- Steps of the walk: a block's type, then its attributes in table order. Assumes nothing.
use mathlib.Core.Path.{◌≡◌, refl, sym, ap, ◌∙◌}
use mathlib.Core.Bool.{Bool, true, false, not, cond, ◌&&◌, ◌||◌, false≢true}
use Rattle.std.specs.Prelude.{Option, None, Some}
use Rattle.std.specs.declared.result.Result.{Result}
use Rattle.std.specs.declared.result.Result.TheVariants.{Ok, Err}
use mathlib.Core.List.{List, [], ◌∷◌}
use Prim.Native.Nat.{ℕ, zero, suc, ◌+◌, ◌*◌, ◌-◌, ◌≤◌, ◌<◌}
use native.Mathlib.Omega.{arith}
use lib.Dec.{eqb, lit<}
use lib.ListN.{length, take, drop, replicate, length-replicate}
use borrow.Author.Tests.{not-true, not-false, eqb-true, eqb-false, ne_eqb}
use Rattle.lexis.specs.Runs.{same}
use Rattle.lexis.proofs.Cases.{and_left, and_right}
use Rattle.values.proofs.Common.{by_order}
use Rattle.meaning.specs.Data.{Datum, datum, Members}
use Rattle.meaning.specs.Verdicts.{Verdict, valid, fails}
use Rattle.meaning.specs.Judging.{then_judge, type_suits, judge, judge_attributes, judge_value}
use Rattle.table.specs.Records.{field, record_in}
use Rattle.table.specs.Rows.{shape_of}
use Rattle.table.specs.Check.{kind_at}
use Rattle.table.specs.Trees.{attributes_in, tree_at}
use Rattle.table.specs.Clauses.Answers.{record_of}
use Rattle.table.specs.declared.records.Entry.{Entry}
use Rattle.table.specs.declared.records.RecordNumber.{RecordNumber}
use Rattle.table.proofs.UseLaws.{LinkRight}
use Rattle.judge_admission.specs.Clauses.Items.{name_of, Lies, image_from, TableGood}
use Rattle.judge_attributes.specs.Clauses.Answers.{failed}
use Rattle.judge_tape.specs.Clauses.Rows.{type_on, members_on, datum_on, TypeGood, BlockGood, DatumWithin, MembersWithin}
use Rattle.judge_attributes.specs.Clauses.Attributes.{judge_first, AttributeAt, block_under, Leads, AttributeAnswerIs}
use Rattle.judge.specs.Clauses.Walk.{Under}
use Rattle.judge_tape.specs.Clauses.Memo.{marked, Marks, base_of, VisitOf, admitted_in, ChainGood, ChainMarked, BlockAdmitted, may_visit, MemoGood}
use Rattle.judge_tape.specs.declared.members.Block.{Block}
use Rattle.dadl.specs.declared.tokens.Part.{Part}
use Rattle.judge_tape.specs.declared.memo.Visit.{Visit}
use Rattle.judge_attributes.specs.declared.Failure.{Failure}
use Rattle.judge_attributes.specs.declared.Nested.{Nested}
use Rattle.judge_admission.proofs.TableLaws.{by_kind, number_lies, link_there, name_there, object_tree, attribute_tree}
use Rattle.judge_admission.proofs.ItemSteps.{left}
use Rattle.judge_tape.proofs.MemoSteps.{left_some}
use Rattle.judge_tape.proofs.MemoLaws.{memo_visited, base_small, chain_sound, memo_admits, memo_marked}

-- a type that is not written suits, and one that is if it is the object's
module _ (s t : List ℕ) (type : Option Part) where
  pub type_none : type ≡ None → true ≡ type_suits t (type_on s type)
  type_none h = rw h

  pub type_same : (p : Part) → type ≡ Some p → (w : List ℕ) (r : Bool) → w ≡ t
      → r ≡ same w (take (p.end - p.start) (drop p.start s)) → r ≡ type_suits t (type_on s type)
  type_same p h w r ew er = rw (h, ← ew) er

-- a block's type that is written lies in the text
module _ (size rows : ℕ) (b : Block) (g : BlockGood size rows b) (p : Part) (h : b.type_name ≡ Some p) where
  lies : TypeGood size (Some p)
  lies = rw h at g.lies

  pub type_order : p.start ≤ p.end
  type_order = lies.0

  pub type_ahead : p.end ≤ size
  type_ahead = lies.1

-- a datum of at most so many levels: there is one, and its members have one less
abbrev members_of_lem : Datum → Members
members_of_lem (datum p t ms) = ms

pub within-less : (d : Datum) (levels : ℕ) → DatumWithin d levels
    → (0 < levels) × MembersWithin (members_of_lem d) (levels - 1)
unfolding DatumWithin
within-less (datum p t ms) zero h = absurd h
within-less (datum p t ms) (suc levels) h = let e : suc levels - 1 ≡ levels = omega arith in (omega arith, rw e h)

-- a link that leads up, or is 0
link_kind : (records pool : List ℕ) → TableGood records pool → (n k i j : ℕ) → kind_at (image_from records pool) n ≡ k
    → (0 < field (record_in records n) i → LinkRight (image_from records pool) n (j ∷ []) (field (record_in records n) i))
    → 0 < field (record_in records n) i → kind_at (image_from records pool) (field (record_in records n) i) ≡ j
link_kind records pool t n k i j e l h = by_kind (kind_at (image_from records pool) (field (record_in records n) i)) j [] (l h).kind (λ y. y) (λ y. absurd (false≢true y))

-- at attribute n of the walk from `first` on, by an object whose type suits
pub record InAttributes (records pool s tape : List ℕ) (rows levels object : ℕ) (b : Block) (v : Visit)
    (start memo : List ℕ) (first n : ℕ) : Type 0 where
  pub under : Under records pool s tape rows levels object b
  pub visit : VisitOf records b v
  pub known : MemoGood records pool s tape rows memo
  pub same : length memo ≡ length start
  pub chain : 0 < first → kind_at (image_from records pool) first ≡ 2
  pub kind : 0 < n → kind_at (image_from records pool) n ≡ 2
  pub is : judge_attributes (attributes_in (tree_at (image_from records pool) n)) b.place
      (members_on s rows tape b) ≡ judge_attributes (attributes_in (tree_at (image_from records pool) first)) b.place
      (members_on s rows tape b)
  pub whole : judge_attributes (attributes_in (tree_at (image_from records pool) first)) b.place
      (members_on s rows tape b) ≡ block_under (image_from records pool) s rows tape object b

-- what the levels and a memo of so many bytes leave to do: a walk without a memo may be given up for one with
abbrev room : ℕ → ℕ
room zero = 2
room (suc n) = 0

room_most : (n : ℕ) → room n ≤ 2
room_most zero = omega arith
room_most (suc n) = omega arith

unfoldable pub effort : ℕ → ℕ → ℕ
effort levels size = 3 * levels + room size

unfoldable pub effort_of_memo : ℕ → ℕ
effort_of_memo levels = 3 * levels + 1

pub memo_effort : (levels n t : ℕ) → 0 < n → effort_of_memo levels ≡ t
    → effort levels (length {A = ℕ} (replicate n 0)) < t
unfolding effort effort_of_memo
memo_effort levels n t h e = rw (length-replicate {0} {A = ℕ} n 0) (by n h)
  where
    by : (n : ℕ) → 0 < n → effort levels n < t
    by zero h = absurd (omega arith)
    by (suc n) h = omega arith

-- a block under an object
module _ (records pool s tape : List ℕ) (rows levels : ℕ) (object : RecordNumber) (b : Block)
    (u : Under records pool s tape rows levels object.0 b) where
  pub object_lies : Lies records object.0
  object_lies = number_lies records pool u.walk.checked object.0 1 u.kind (omega arith)

  pub visit_small : base_of records b ≤ 8_388_608
  visit_small = base_small records pool u.walk.checked rows tape b u.walk.few u.row

  module _ (e : Entry) (q : record_of e ≡ record_in records object.0) where
    pub object_name : e.a + e.b ≤ length pool
    object_name = rw (← q) at (name_there records pool u.walk.checked object.0 1 u.kind (omega arith) refl)

    first_kind : 0 < e.e → kind_at (image_from records pool) e.e ≡ 2
    unfolding shape_of
    first_kind = rw (← q) at (link_kind records pool u.walk.checked object.0 1 4 2 u.kind (link_there records pool u.walk.checked object.0 1 u.kind (omega arith) 4 (2 ∷ []) (lit< tt) refl))

    module _ (r : Bool)
        (er : r ≡ type_suits (name_of pool (record_of e)) (type_on s b.type_name)) where
      block_is :
          cond r (judge_attributes (attributes_in (tree_at (image_from records pool) e.e)) b.place
          (members_on s rows tape b))
          (fails 21 object.0 b.place) ≡ block_under (image_from records pool) s rows tape object.0 b
      unfolding judge_value judge
      block_is = rw (object_tree records pool u.walk.checked object.0 u.kind, ← q, er)

      pub type_differs_lem : not r ≡ true → (f : Failure) → failed f ≡ fails 21 object.0 b.place
          → failed f ≡ block_under (image_from records pool) s rows tape object.0 b
      type_differs_lem h f ev = ev ∙ (rw (not-true r h) at block_is)

      pub attributes-start : not r ≡ false → (memo : List ℕ) → MemoGood records pool s tape rows memo → (v : Visit)
          → VisitOf records b v → (after : List ℕ) → Marks memo (base_of records b) after
          → InAttributes records pool s tape rows levels object.0 b v after after e.e e.e
      attributes-start h memo g v w after m = record {
        under = u;
        visit = w;
        known = memo_visited records pool s tape rows memo after g b m;
        same = refl;
        chain = first_kind;
        kind = first_kind;
        is = refl;
        whole = rw (not-false r h) at block_is;
      }

-- the attributes of a block
module _ (records pool s tape : List ℕ) (rows levels object : ℕ) (b : Block) (v : Visit) (start memo : List ℕ)
    (first n : ℕ) (i : InAttributes records pool s tape rows levels object b v start memo first n) where
  good : TableGood records pool
  good = i.under.walk.checked

  pub visit_near : v.base ≤ 8_388_608
  visit_near = i.visit.small

  none_admits : n ≡ 0 → BlockAdmitted (image_from records pool) s rows tape b n
  unfolding judge_attributes tree_at
  none_admits z = rw z

  number_there : (n ≡ 0 → ⊥) → Lies records n
  number_there z = number_lies records pool good n 2 (i.kind (omega arith)) (omega arith)

  -- no attribute is left, or the memo knows that those left admit the block
  left_admits : (t : Bool) → eqb n 0 ≡ t → (t || (v.again && marked memo (v.base + n))) ≡ true
      → BlockAdmitted (image_from records pool) s rows tape b n
  left_admits true e h = none_admits (eqb-true n 0 e)
  left_admits false e h =
      let z = eqb-false n 0 e in
      memo_admits records pool good s tape rows b i.under.row v i.visit memo i.known n (omega arith) (number_there z) (and_left v.again (marked memo (v.base + n)) h) (and_right v.again (marked memo (v.base + n)) h)

  module _ (r : Bool) (er : r ≡ admitted_in memo v n) (h : not r ≡ false) where
    first_admits : BlockAdmitted (image_from records pool) s rows tape b first
    first_admits = sym i.is ∙ left_admits (eqb n 0) refl (sym er ∙ not-false r h)

    pub attributes_end : valid ≡ block_under (image_from records pool) s rows tape object b
    attributes_end = sym first_admits ∙ i.whole

    pub attributes_chain : ChainGood records first
    attributes_chain = chain_sound records pool good first i.chain

    pub attributes_known : (after : List ℕ) → ChainMarked records memo v.base first after
        → MemoGood records pool s tape rows after
    attributes_known after m = memo_marked records pool good s tape rows b i.under.row v i.visit memo i.known first i.chain first_admits after m

  pub levels_some : 1 ≤ levels
  levels_some = (within-less (datum_on s rows tape b) levels i.under.within).0

  pub levels_fall : (size whole t : ℕ) → effort levels whole ≡ t → effort (levels - 1) size < t
  unfolding effort
  levels_fall size whole t h = let l = levels_some in let m = room_most size in omega arith

  -- a walk that is given up has no memo
  pub memo_fall : (left : ℕ) (r : Bool) → r ≡ may_visit (length memo) left → not r ≡ true → (size t : ℕ)
      → length start ≡ size → effort levels size ≡ t → effort_of_memo levels < t
  unfolding effort effort_of_memo may_visit
  memo_fall left r er h size t es et =
      let z = spent (length memo) left (sym er ∙ not-true r h) in
      let q : size ≡ 0 = sym es ∙ sym i.same ∙ z in
      let f : 3 * levels + 2 ≡ t = rw q at et in
      omega arith
    where
      spent : (n k : ℕ) → may_visit n k ≡ false → n ≡ 0
      spent n k h = by (eqb k 0) h
        where
          by : (t : Bool) → cond t (not (eqb n 0)) true ≡ false → n ≡ 0
          by true y = eqb-true n 0 (not-false (eqb n 0) y)
          by false y = absurd (false≢true (sym y))

  -- at an attribute
  module _ (r : Bool) (er : r ≡ admitted_in memo v n) (h : not r ≡ true) where
    z : n ≡ 0 → ⊥
    z y = let l = left_some memo v n r er h in omega arith

    here_kind : kind_at (image_from records pool) n ≡ 2
    here_kind = i.kind (left_some memo v n r er h)

    pub attribute_lies : Lies records n
    attribute_lies = number_there z

    -- one that fails is told
    first_fails : (f : Failure)
        → failed f ≡ judge_first (attributes_in (tree_at (image_from records pool) n)) b.place (members_on s rows tape b)
        → failed f ≡ block_under (image_from records pool) s rows tape object b
    unfolding judge_attributes
    first_fails f ef =
        let t = attribute_tree records pool good n here_kind in
        fails_first _ _ (rw t at ef) ∙ (rw t at i.is) ∙ i.whole
      where
        fails_first : (x y : Verdict) → failed f ≡ x → failed f ≡ then_judge x y
        fails_first x y h = rw (← h)

    module _ (a : Entry) (qa : record_of a ≡ record_in records n) where
      pub attribute_at : AttributeAt records pool n a
      attribute_at = record { kind = here_kind; is = qa }

      next_link_lem : 0 < a.d → LinkRight (image_from records pool) n (2 ∷ []) a.d
      unfolding shape_of
      next_link_lem = rw (← qa) at (link_there records pool good n 2 here_kind (omega arith) 3 (2 ∷ []) (lit< tt) refl)

      pub attribute_less : left records a.d < left records n
      attribute_less =
          let l = attribute_lies in
          rw (ne_eqb n 0 z)
          (by_order a.d 0
          (λ k. let y : a.d ≡ 0 = omega arith in rw y (omega arith))
          (λ k. let x = (next_link_lem k).above in rw (ne_eqb a.d 0 (λ y. omega arith)) (omega arith)))

      module _ (step : Result (Option Nested) Failure) (ar : AttributeAnswerIs (image_from records pool) s rows tape n b step)
          (behind : List ℕ) (g : MemoGood records pool s tape rows behind) (lb : length behind ≡ length memo) where
        -- one that holds leads to the next
        first_holds : valid ≡ judge_first (attributes_in (tree_at (image_from records pool) n)) b.place
            (members_on s rows tape b) → (after : List ℕ) → MemoGood records pool s tape rows after
            → length after ≡ length behind
            → InAttributes records pool s tape rows levels object b v start after first a.d
        unfolding judge_attributes
        first_holds ef after k l =
            let t = attribute_tree records pool good n here_kind in
            record {
              under = i.under;
              visit = i.visit;
              known = k;
              same = l ∙ lb ∙ i.same;
              chain = i.chain;
              kind = λ h. by_kind (kind_at (image_from records pool) a.d) 2 [] (next_link_lem h).kind (λ y. y) (λ y. absurd (false≢true y));
              is = valid_first _ _ (rw (t, ← qa) at ef) ∙ (rw (t, ← qa) at i.is);
              whole = i.whole;
            }
          where
            valid_first : (x y : Verdict) → valid ≡ x → y ≡ then_judge x y
            valid_first x y h = rw (← h)

        pub told_valid : (o : Option Nested) → step ≡ Ok o → o ≡ None
            → InAttributes records pool s tape rows levels object b v start behind first a.d
        told_valid o h k = first_holds (rw (h ∙ ap Ok k) at ar.is) behind g refl

        pub told_fails : (f : Failure) → step ≡ Err f
            → failed f ≡ block_under (image_from records pool) s rows tape object b
        told_fails f h = first_fails f (rw h at ar.is)

        -- one whose value is a block is judged inside it
        module _ (o : Option Nested) (inner : Nested) (u : step ≡ Ok o) (w : o ≡ Some inner) where
          y : step ≡ Ok (Some inner)
          y = u ∙ ap Ok w

          leads : Leads (image_from records pool) s rows tape (λ l. MembersWithin (members_on s rows tape b) l)
              (Ok (Some inner))
          leads = rw y at ar.leads

          pub nested_under : Under records pool s tape rows (levels - 1) inner.object.0 inner.block
          nested_under = record { walk = i.under.walk; kind = leads.0; good = leads.1; row = leads.2; within = leads.3 (levels - 1) (within-less (datum_on s rows tape b) levels i.under.within).1 }

          pub nested_valid : valid ≡ block_under (image_from records pool) s rows tape inner.object.0 inner.block
              → (after : List ℕ) → MemoGood records pool s tape rows after
              → length after ≡ length behind
              → InAttributes records pool s tape rows levels object b v start after first a.d
          nested_valid ex = first_holds (ex ∙ (rw y at ar.is))

          pub nested_fails : (f : Failure)
              → failed f ≡ block_under (image_from records pool) s rows tape inner.object.0 inner.block
              → failed f ≡ block_under (image_from records pool) s rows tape object b
          nested_fails f ex = first_fails f (ex ∙ (rw y at ar.is))
