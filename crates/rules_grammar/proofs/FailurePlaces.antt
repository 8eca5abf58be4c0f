-- The place of a first failure is a `<` of the data text: each place of a derived datum is one, and a failure is told at a place of the datum. Assumes nothing.
use mathlib.Core.Path.{◌≡◌, refl}
use mathlib.Core.List.{List, [], ◌∷◌}
use Rattle.std.specs.Prelude.{Option}
use Prim.Native.Nat.{ℕ, zero, suc, ◌-◌}
use native.Mathlib.Omega.{arith}
use lib.ListN.{take, drop}
use Rattle.lexis.specs.Text.{byte, bytes}
use Rattle.lexis.specs.Runs.{StandsAt}
use Rattle.lexis.specs.Spelling.{less}
use Rattle.lexis.specs.declared.Token.{Token}
use Rattle.meaning.specs.Constraints.{Object, Attributes, AttributeHead, Value}
use Rattle.meaning.specs.Constraints
use Rattle.meaning.specs.Data.{Datum, datum, Members, no_more, member, Content}
use Rattle.meaning.specs.Data
use Rattle.meaning.specs.Judging.{place_of}
use Rattle.dadl.specs.Placed
use Rattle.dadl.specs.Placed.{Block, Entries, PlacedContent, spelled_block, spelled_entries, spelled_content}
use Rattle.lexis.specs.SpellingRules.{SpellsData}
use Rattle.lexis.specs.SpellingRules
use Rattle.lexis.specs.LongestMatch.{NextDataIs, Classed}
use Rattle.rules_grammar.specs.Admits.{MemberOf}
use Rattle.rules_grammar.specs.Admits
use Rattle.rules_grammar.specs.DataGrammar.{NextDataToken, DerivesDataLeaf, DerivesDatum, DerivesMembers, DerivesContent, DerivesData}
use Rattle.rules_grammar.specs.DataGrammar
use Rattle.rules_grammar.specs.FirstFailure.{FirstFailure, AttributesFail, AttributeFails, ValueFails}
use Rattle.rules_grammar.specs.FirstFailure
use Rattle.lexis.proofs.ByteRules.{empty_cons, cons_first}

-- a `<` stands where it is the next token: no run and no other mark has its sort
less-mark : {w : List ℕ} → SpellsData less w → w ≡ bytes "<"
less-mark SpellingRules.less = refl

no_run : {w : List ℕ} → ¬ Classed w less
no_run = elim [ ]

-- the first byte of a part stands where it begins
first_stands : (b k : ℕ) (xs : List ℕ) → take k xs ≡ b ∷ [] → take 1 xs ≡ b ∷ []
first_stands b zero xs e = absurd (empty_cons e)
first_stands b (suc k) [] e = absurd (empty_cons e)
first_stands b (suc k) (x ∷ xs) e = let h : x ≡ b = cons_first e in rw h

less_stands : (s : List ℕ) {from : ℕ} {t : Token} → NextDataToken s from less t → StandsAt s t.start (bytes "<")
less_stands s (DataGrammar.next n e) = by n e
  where
    by : {from : ℕ} {t : Token} → NextDataIs Classed s from t → t.sort ≡ less → StandsAt s t.start (bytes "<")
    by (NextDataIs.ends p h) f = absurd (omega arith)
    by (NextDataIs.run p r c) f = absurd (no_run (rw f at c))
    by (NextDataIs.longest {at = at} {end = end} p x) f = first_stands (byte "<") (end - at) (drop at s) (less-mark (rw f at x.one.spelled))
    by (NextDataIs.none p h r x) f = absurd (omega arith)

-- each place of a datum is such
mutual
  data Places (Such : ℕ → Type 0) : Datum → Type 0 where
    in_datum : {p : ℕ} {t : Option (List ℕ)} {ms : Members} → Such p → MemberPlaces Such ms → Places Such (datum p t ms)

  data MemberPlaces (Such : ℕ → Type 0) : Members → Type 0 where
    in_none : MemberPlaces Such no_more
    in_member : {w : List ℕ} {c : Content} {ms : Members} → ContentPlaces Such c → MemberPlaces Such ms
        → MemberPlaces Such (member w c ms)

  data ContentPlaces (Such : ℕ → Type 0) : Content → Type 0 where
    in_string : {p : ℕ} {w : List ℕ} → Such p → ContentPlaces Such (Data.string p w)
    in_word : {p : ℕ} {w : List ℕ} → Such p → ContentPlaces Such (Data.word p w)
    in_block : {d : Datum} → Places Such d → ContentPlaces Such (Data.block d)

-- of a datum that is derived, each is a `<`
module _ (s : List ℕ) where
  abbrev Opening : ℕ → Type 0
  Opening p = StandsAt s p (bytes "<")

  leaf_places : {place from end : ℕ} {c : PlacedContent} → Opening place → DerivesDataLeaf s place from c end
      → ContentPlaces Opening (spelled_content c s)
  unfolding spelled_content
  leaf_places h (DataGrammar.a_string t k) = in_string h
  leaf_places h (DataGrammar.a_word t k) = in_word h

  mutual
    unfolding spelled_block spelled_entries spelled_content

    datum_places : (b : Block) {from end : ℕ} → DerivesDatum s from b end → Places Opening (spelled_block b s)
    datum_places (Placed.block p t ms) (DataGrammar.untyped l d g n) = in_datum (less_stands s l) (member_places ms d)
    datum_places (Placed.block p t ms) (DataGrammar.typed o u k c l d g n) = in_datum (less_stands s l) (member_places ms d)

    member_places : (ms : Entries) {from end : ℕ} → DerivesMembers s from ms end
        → MemberPlaces Opening (spelled_entries ms s)
    member_places Placed.no_more DataGrammar.no_member = in_none
    member_places (Placed.entry w c more) (DataGrammar.one_more n k e d ms) = in_member (content_places c d) (member_places more ms)

    content_places : (c : PlacedContent) {from end : ℕ} → DerivesContent s from c end
        → ContentPlaces Opening (spelled_content c s)
    content_places (Placed.inside b) (DataGrammar.a_datum d) = in_block (datum_places b d)
    content_places (Placed.inside b) (DataGrammar.a_leaf l d g) = leaf_places (less_stands s l) d
    content_places (Placed.string p x) (DataGrammar.a_leaf l d g) = leaf_places (less_stands s l) d
    content_places (Placed.word p x) (DataGrammar.a_leaf l d g) = leaf_places (less_stands s l) d

-- a failure is told at one of them
module _ (Such : ℕ → Type 0) where
  content_place : {c : Content} → ContentPlaces Such c → Such (place_of c)
  content_place (in_string h) = h
  content_place (in_word h) = h
  content_place (in_block (in_datum h ms)) = h

  member_content : {w : List ℕ} {c : Content} {ms : Members} → MemberOf w c ms → MemberPlaces Such ms
      → ContentPlaces Such c
  member_content Admits.here (in_member h hs) = h
  member_content (Admits.behind n m) (in_member h hs) = member_content m hs

  -- an attribute's own failure, where it is known of its value's
  attribute_place : {a : AttributeHead} {v : Value} {p : ℕ} {ms : Members} {r k q : ℕ}
      → ((c : Content) (r k q : ℕ) → ValueFails v c r k q → ContentPlaces Such c → Such q)
      → AttributeFails a v p ms r k q → Such p → MemberPlaces Such ms → Such q
  attribute_place value (FirstFailure.missing e m) x ms = x
  attribute_place value (FirstFailure.forbidden e m) x ms = content_place (member_content m ms)
  attribute_place value (FirstFailure.value_fails e m f) x ms = value _ _ _ _ f (member_content m ms)

  mutual
    failure_place : (o : Object) {d : Datum} {r k q : ℕ} → FirstFailure o d r k q → Places Such d → Such q
    failure_place (Constraints.object h xs) (FirstFailure.type_differs n) (in_datum x ms) = x
    failure_place (Constraints.object h xs) (FirstFailure.inside t f) (in_datum x ms) = attributes_place xs f x ms

    attributes_place : (xs : Attributes) {p : ℕ} {ms : Members} {r k q : ℕ} → AttributesFail xs p ms r k q → Such p
        → MemberPlaces Such ms → Such q
    attributes_place Constraints.no_more f x ms = elim f [ ]
    attributes_place (Constraints.attribute a v more) (FirstFailure.now f) x ms = attribute_place (λ c r k q g y. value_place v g y) f x ms
    attributes_place (Constraints.attribute a v more) (FirstFailure.later y f) x ms = attributes_place more f x ms

    value_place : (v : Value) {c : Content} {r k q : ℕ} → ValueFails v c r k q → ContentPlaces Such c → Such q
    value_place Constraints.any f ms = elim f [ ]
    value_place (Constraints.nested o) FirstFailure.string_for_block (in_string x) = x
    value_place (Constraints.nested o) FirstFailure.word_for_block (in_word x) = x
    value_place (Constraints.nested o) (FirstFailure.block_fails f) (in_block ms) = failure_place o f ms
    value_place (Constraints.leaf l) (FirstFailure.leaf_fails f) ms = content_place ms

pub failure_opening : (levels : ℕ) (s : List ℕ) (b : Block) (o : Object) (r k q : ℕ) → DerivesData levels s b
    → FirstFailure o (spelled_block b s) r k q
    → StandsAt s q (bytes "<")
failure_opening levels s b o r k q (DataGrammar.whole_text n d e l) f = failure_place (Opening s) o f (datum_places s b d)
