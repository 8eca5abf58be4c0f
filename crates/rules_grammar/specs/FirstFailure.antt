-- The failure that is told, as rules. Document 01, 'Meaning': "Judging walks type first, then attributes in table order, each finished before the next; the first failure is told";
-- 'Numbers of refusal': 20 "block for leaf or leaf for block; leaf unreadable as the kind asked", at the "record that c names, its datum's `<`", 21 "type differs", at "record, `<`",
-- 22 "member missing", at "attribute, enclosing `<`", 23 "member present under 0..0", at "attribute, member's `<`", 24 "value not admitted", at "first item, `<`". Proved one with judge. Assumes nothing.
use Rattle.std.specs.Prelude.{◌≡◌, ◌≢◌, List, ℕ}
use Rattle.std.specs.Prelude.{Option, Some}
use Rattle.meaning.specs.Constraints.{Leaf, ObjectHead, Object, AttributeHead, Attributes, Value}
use Rattle.meaning.specs.Constraints
use Rattle.meaning.specs.Data.{Datum, datum, Members, Content}
use Rattle.meaning.specs.Data
use Rattle.meaning.specs.Admission.{leaf_number}
use Rattle.meaning.specs.Judging.{place_of, object_number}
use Rattle.rules_grammar.specs.Admits.{TypeSuits, MemberOf, Missing, Readable, LeafAdmits, Satisfy}

-- a leaf's value fails with a reason: it is a block, cannot be read as the kind asked, or is not admitted
pub data LeafFails : Leaf → Content → ℕ → Type 0 where
  block_for_leaf : {l : Leaf} {d : Datum} → LeafFails l (Data.block d) 20
  unreadable : {l : Leaf} {c : Content} → ¬ Readable l c → LeafFails l c 20
  not_admitted : {l : Leaf} {c : Content} → Readable l c → ¬ LeafAdmits l c → LeafFails l c 24

mutual
  -- the first failure of a datum under an object: reason, record and data place
  pub data FirstFailure : Object → Datum → (reason number place : ℕ) → Type 0 where
    type_differs : {o : ObjectHead} {p : ℕ} {u : List ℕ} {xs : Attributes} {ms : Members} → o.type ≢ u
        → FirstFailure (Constraints.object o xs) (datum p (Some u) ms) 21 o.number p
    inside : {o : ObjectHead} {p r k q : ℕ} {xs : Attributes} {u : Option (List ℕ)} {ms : Members}
        → TypeSuits o.type u
        → AttributesFail xs p ms r k q
        → FirstFailure (Constraints.object o xs) (datum p u ms) r k q

  -- the first failure among attributes in their order, of members whose enclosing `<` stands at p: an attribute fails, and those before it are satisfied
  pub data AttributesFail : Attributes → ℕ → Members → (reason number place : ℕ) → Type 0 where
    now : {a : AttributeHead} {p r k q : ℕ} {v : Value} {more : Attributes} {ms : Members}
        → AttributeFails a v p ms r k q → AttributesFail (Constraints.attribute a v more) p ms r k q
    later : {a : AttributeHead} {p r k q : ℕ} {v : Value} {more : Attributes} {ms : Members}
        → Satisfy ms a v
        → AttributesFail more p ms r k q
        → AttributesFail (Constraints.attribute a v more) p ms r k q

  -- an attribute's own failure
  pub data AttributeFails : AttributeHead → Value → ℕ → Members → (reason number place : ℕ) → Type 0 where
    missing : {a : AttributeHead} {p : ℕ} {v : Value} {ms : Members} → a.existence ≡ 2 → Missing a.name ms
        → AttributeFails a v p ms 22 a.number p
    forbidden : {a : AttributeHead} {p : ℕ} {v : Value} {ms : Members} {c : Content}
        → a.existence ≡ 0
        → MemberOf a.name c ms
        → AttributeFails a v p ms 23 a.number (place_of c)
    value_fails : {a : AttributeHead} {p r k q : ℕ} {v : Value} {ms : Members} {c : Content}
        → a.existence ≢ 0
        → MemberOf a.name c ms
        → ValueFails v c r k q
        → AttributeFails a v p ms r k q

  -- the failure of a member's content under an attribute's value
  pub data ValueFails : Value → Content → (reason number place : ℕ) → Type 0 where
    string_for_block : {o : Object} {p : ℕ} {w : List ℕ}
        → ValueFails (Constraints.nested o) (Data.string p w) 20 (object_number o) p
    word_for_block : {o : Object} {p : ℕ} {w : List ℕ}
        → ValueFails (Constraints.nested o) (Data.word p w) 20 (object_number o) p
    block_fails : {o : Object} {d : Datum} {r k q : ℕ} → FirstFailure o d r k q
        → ValueFails (Constraints.nested o) (Data.block d) r k q
    leaf_fails : {l : Leaf} {c : Content} {r : ℕ} → LeafFails l c r
        → ValueFails (Constraints.leaf l) c r (leaf_number l) (place_of c)
