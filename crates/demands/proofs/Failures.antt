-- Demand 1, 20 to 24: a failure names a record of the table, of the kind that its row says, and a `<` of the data text. Assumes nothing.
use mathlib.Core.Path.{◌≡◌, refl, sym, subst}
use Rattle.std.specs.Prelude.{Option, None, Some}
use mathlib.Core.List.{List}
use Prim.Native.Nat.{ℕ, ◌<◌}
use lib.Dec.{lit<}
use Rattle.refusals.specs.Limits.{level_limit}
use Rattle.refusals.specs.Outcomes.{gave}
use Rattle.refusals.specs.declared.Refusal.{Refusal}
use Rattle.refusals.proofs.Outcomes.{not_gave}
use Rattle.meaning.specs.Constraints.{Leaf, Object, Attributes, AttributeHead, Value}
use Rattle.meaning.specs.Constraints
use Rattle.meaning.specs.Data.{Datum, Members, Content}
use Rattle.meaning.specs.Verdicts
use Rattle.meaning.specs.Admission.{leaf_number}
use Rattle.meaning.specs.Judging.{object_number}
use Rattle.table.specs.Records.{image_of}
use Rattle.table.specs.Rows.{shape_of}
use Rattle.table.specs.Check.{table_fault}
use Rattle.table.specs.Trees.{object_at}
use Rattle.table.specs.TableRules.{IsTable, KindAt, ObjectOrItem}
use Rattle.table.specs.Says.{SaysIntegers, SaysDates, SaysStrings, SaysLeaf, SaysObject, SaysAttributes, SaysValue, Says}
use Rattle.table.proofs.SaysLaws.{link_below_lem, says_there}
use Rattle.judge.specs.Judge.{judge_answer}
use Rattle.rules_grammar.specs.FirstFailure.{LeafFails, FirstFailure, AttributesFail, AttributeFails, ValueFails}
use Rattle.rules_grammar.specs.FirstFailure
use Rattle.rules_grammar.proofs.FailurePlaces.{failure_opening}
use Rattle.demands.specs.Told.{IsItem, ReasonRow, FailureTold}
use Rattle.demands.proofs.Rules.{fails_told}

-- an item is one that c may name
item_kind : {kind : ℕ} → IsItem kind → ObjectOrItem kind
item_kind IsItem.boolean = ObjectOrItem.boolean
item_kind IsItem.integer = ObjectOrItem.integer
item_kind IsItem.string = ObjectOrItem.string
item_kind IsItem.date_pattern = ObjectOrItem.date_pattern
item_kind IsItem.date_interval = ObjectOrItem.date_interval
item_kind IsItem.time_pattern = ObjectOrItem.time_pattern
item_kind IsItem.duration_pattern = ObjectOrItem.duration_pattern

-- a record of the table that a reason names
record Names (bs : List ℕ) (count reason number : ℕ) : Type 0 where
  pub kind : ℕ
  pub inside : number < count
  pub named : KindAt bs number kind
  pub row : ReasonRow reason kind

-- a leaf is named by its first item
record Item (bs : List ℕ) (n : ℕ) : Type 0 where
  pub kind : ℕ
  pub named : KindAt bs n kind
  pub item : IsItem kind

item_named : {bs : List ℕ} {count n : ℕ} {l : Leaf} → SaysLeaf bs count n l → (leaf_number l ≡ n) × Item bs n
item_named (SaysLeaf.boolean h) = (refl, record { kind = 3; named = h.kind; item = IsItem.boolean })
item_named (SaysLeaf.integer (SaysIntegers.integer h a b s)) = (refl, record { kind = 4; named = h.kind; item = IsItem.integer })
item_named (SaysLeaf.string (SaysStrings.string h w s)) = (refl, record { kind = 5; named = h.kind; item = IsItem.string })
item_named (SaysLeaf.date_pattern h) = (refl, record { kind = 6; named = h.kind; item = IsItem.date_pattern })
item_named (SaysLeaf.date_interval (SaysDates.date_interval h s)) = (refl, record { kind = 7; named = h.kind; item = IsItem.date_interval })
item_named (SaysLeaf.time_pattern h) = (refl, record { kind = 8; named = h.kind; item = IsItem.time_pattern })
item_named (SaysLeaf.duration_pattern h) = (refl, record { kind = 9; named = h.kind; item = IsItem.duration_pattern })

reason_item : {bs : List ℕ} {n r : ℕ} {l : Leaf} {c : Content} → LeafFails l c r → (i : Item bs n)
    → ReasonRow r i.kind
reason_item FirstFailure.block_for_leaf i = ReasonRow.unsuited (item_kind i.item)
reason_item (FirstFailure.unreadable h) i = ReasonRow.unsuited (item_kind i.item)
reason_item (FirstFailure.not_admitted h k) i = ReasonRow.not_admitted i.item

module _ {bs : List ℕ} {count pool root : ℕ} (t : IsTable bs count pool root) where
  leaf_names : {n r : ℕ} {l : Leaf} {c : Content} → LeafFails l c r → SaysLeaf bs count n l → n < count
      → Names bs count r (leaf_number l)
  leaf_names {r = r} f s k =
      let x = item_named s in
      subst (Names bs count r) (sym x.0) (record { kind = x.1.kind; inside = k; named = x.1.named; row = reason_item f x.1 })

  -- a string or a word where an object is asked for
  object_unsuited : {o : Object} {n : ℕ} → SaysObject bs count n o → n < count → Names bs count 20 (object_number o)
  object_unsuited (SaysObject.object h a b s) k = record { kind = 1; inside = k; named = h.kind; row = ReasonRow.unsuited ObjectOrItem.object }

  -- an attribute's own failure, where it is known of its value's
  attribute_names_lem : {a : AttributeHead} {v : Value} {p : ℕ} {ms : Members} {r number q : ℕ}
      → ((c : Content) (r number q : ℕ) → ValueFails v c r number q → Names bs count r number)
      → AttributeFails a v p ms r number q → KindAt bs a.number 2 → a.number < count → Names bs count r number
  attribute_names_lem value (FirstFailure.missing e m) h k = record { kind = 2; inside = k; named = h; row = ReasonRow.missing }
  attribute_names_lem value (FirstFailure.forbidden e m) h k = record { kind = 2; inside = k; named = h; row = ReasonRow.prohibited }
  attribute_names_lem value (FirstFailure.value_fails e m f) h k = value _ _ _ _ f

  mutual
    unfolding shape_of

    object_names : (o : Object) {d : Datum} {r number q n : ℕ} → FirstFailure o d r number q → SaysObject bs count n o
        → n < count → Names bs count r number
    object_names (Constraints.object head xs) (FirstFailure.type_differs e) (SaysObject.object h a b s) k =
        record { kind = 1; inside = k; named = h.kind; row = ReasonRow.type_differs }
    object_names (Constraints.object head xs) (FirstFailure.inside y f) (SaysObject.object h a b s) k =
        attributes_names xs f s (link_below_lem t h (lit< tt) k 4 _ (lit< tt) refl)

    attributes_names : (xs : Attributes) {p : ℕ} {ms : Members} {r number q n : ℕ} → AttributesFail xs p ms r number q
        → SaysAttributes bs count n xs
        → n < count → Names bs count r number
    attributes_names (Constraints.attribute head v more) (FirstFailure.now f) (SaysAttributes.attribute h a s rest) k =
        attribute_names_lem (λ c r number q g. value_names v g s (link_below_lem t h (lit< tt) k 2 _ (lit< tt) refl)) f h.kind k
    attributes_names (Constraints.attribute head v more) (FirstFailure.later y f) (SaysAttributes.attribute h a s rest) k =
        attributes_names more f rest (link_below_lem t h (lit< tt) k 3 _ (lit< tt) refl)
    attributes_names Constraints.no_more f s k = elim f [ ]

    value_names : (v : Value) {c : Content} {r number q n : ℕ} → ValueFails v c r number q → SaysValue bs count n v
        → n < count → Names bs count r number
    value_names (Constraints.nested o) FirstFailure.string_for_block (SaysValue.an_object s) k = object_unsuited s k
    value_names (Constraints.nested o) FirstFailure.word_for_block (SaysValue.an_object s) k = object_unsuited s k
    value_names (Constraints.nested o) (FirstFailure.block_fails f) (SaysValue.an_object s) k = object_names o f s k
    value_names (Constraints.leaf l) (FirstFailure.leaf_fails f) (SaysValue.a_leaf s) k = leaf_names f s k
    value_names Constraints.any f s k = elim f [ ]

pub failure_told : (table : List ℕ) (root : ℕ) (form : List ℕ) (reason number place : ℕ)
    → judge_answer table root form ≡ gave (Verdicts.fails reason number place)
    → FailureTold table form reason number place
unfolding judge_answer
failure_told table root form reason number place h = by (table_fault table) refl
  where
    told : (o : Object) → Says table root o → FailureTold table form reason number place
    told o s =
        let (b, d, f) = (fails_told table root form o reason number place s).0 h in
        let x = object_names s.table o f s.object s.inside in
        record {
          count = s.count;
          pool = s.pool;
          root = s.root;
          kind = x.kind;
          passes = s.table;
          inside = x.inside;
          named = x.named;
          row = x.row;
          opening = failure_opening level_limit form b o reason number place d f;
        }

    under : table_fault table ≡ None → (o : Option Object) → object_at (image_of table) root ≡ o
        → FailureTold table form reason number place
    under e None f = absurd (not_gave (rw (e, f) at h))
    under e (Some o) f = told o (says_there table root o e f)

    by : (x : Option Refusal) → table_fault table ≡ x → FailureTold table form reason number place
    by None e = under e (object_at (image_of table) root) refl
    by (Some x) e = absurd (not_gave (rw e at h))
