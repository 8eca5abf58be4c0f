-- A data text is read to a tree exactly where the grammar derives the tree. Assumes nothing.
use mathlib.Core.Path.{◌≡◌, refl, sym, ap, ◌∙◌}
use mathlib.Core.Logic.{◌↔◌}
use mathlib.Core.Bool.{true, false, not}
use Rattle.std.specs.Prelude.{Option, None, Some}
use mathlib.Core.List.{List, [], ◌∷◌, Memᴰ}
use Prim.Native.Nat.{ℕ, zero, suc, ◌≤◌, ◌<◌, ◌+◌}
use native.Mathlib.Omega.{arith}
use lib.Dec.{eqb, ltb}
use lib.ListN.{length}
use borrow.Author.Tests.{eqb-true, ltb-false, le-ltb, not-false, eq-eqb}
use Rattle.lexis.specs.Runs.{listed, same}
use Rattle.lexis.specs.Spelling.{less, greater}
use Rattle.lexis.specs.Tokens.{text_end, type_name, name, spelling, inner}
use Rattle.lexis.specs.Tokens
use Rattle.lexis.specs.DataTokens.{data_token_at, type_token_at, equals, open_round, close_round, word_run}
use Rattle.lexis.specs.declared.Token.{Token}
use Rattle.lexis.proofs.Cases.{by_cond}
use Rattle.lexis.proofs.Places.{Found}
use Rattle.lexis.proofs.DataPlaces.{data_token-found, type_token-found}
use Rattle.values.specs.Words.{good}
use Rattle.refusals.specs.Limits.{text_limit, name_limit, string_limit}
use Rattle.refusals.specs.Reading.{Reading, got}
use Rattle.refusals.specs.Parsing.{Parse, parsed, and_then, as_read}
use Rattle.refusals.specs.declared.Cause.TheVariants.{TextTooLong, TooLong, BadWord, RepeatedName}
use Rattle.refusals.proofs.Readings.{Holds}
use Rattle.refusals.proofs.Parses.{Yields, parsed_yields, stopped_yields, noting_yields, then_yields, yielded, yields_map, rank, order_holds}
use Rattle.dadl.specs.Placed.{Span, Block, block, Entries, no_more, entry, PlacedContent, string, word, inside, spelled_block}
use Rattle.dadl.specs.Data.{expect_data, datum_of, type_from, leaf_from, typed, content_from, name_from, members, block_from, outermost, datum_alone, data_text, block_of, span_of}
use Rattle.dadl.proofs.TreeReading.{BlockRead, outermost_order, ContentRead, content_order, block_order}
use Rattle.rules_grammar.specs.DataGrammar.{NextDataToken, next, NextType, next_type, names_of, Distinct, no_name, new_name, levels_of, member_levels, content_levels, DerivesDataLeaf, a_string, a_word, DerivesDatum, DerivesMembers, no_member, one_more, DerivesContent, a_datum, a_leaf, DerivesData, whole_text}
use Rattle.rules_grammar.specs.DataGrammar
use Rattle.lexis.specs.SpellingRules.{SpellsData}
use Rattle.lexis.specs.LongestMatch.{Classed, NextDataIs}
use Rattle.rules_grammar.proofs.NextLaws.{next_data, data_read, next_type_lem, type_read}
use Rattle.lexis.proofs.TestLaws.{true_or_false, false_true, same_eq, or_cases, or_left, or_right, eq_same}
use Rattle.values.proofs.WordLaws.{good-word}

-- a name is listed exactly where it is one of the names
pub listed_mem : (w : List ℕ) (ws : List (List ℕ)) → listed w ws ≡ true → Memᴰ w ws
unfolding listed
listed_mem w [] h = absurd (false_true h)
listed_mem w (x ∷ xs) h = or_cases (same w x) (listed w xs) h (λ e. Memᴰ.head (same_eq w x e)) (λ e. Memᴰ.tail (listed_mem w xs e))

mem_listed : (w : List ℕ) (ws : List (List ℕ)) → Memᴰ w ws → listed w ws ≡ true
unfolding listed
mem_listed w [] m = elim m [ ]
mem_listed w (x ∷ xs) (Memᴰ.head e) = or_left (same w x) (listed w xs) (eq_same w x e)
mem_listed w (x ∷ xs) (Memᴰ.tail m) = or_right (same w x) (listed w xs) (mem_listed w xs m)

pub not_listed : (w : List ℕ) (ws : List (List ℕ)) → ¬ Memᴰ w ws → listed w ws ≡ false
not_listed w ws h = true_or_false (listed w ws) (λ e. absurd (h (listed_mem w ws e))) (λ e. e)

pub listed_not : (w : List ℕ) (ws : List (List ℕ)) → listed w ws ≡ false → ¬ Memᴰ w ws
listed_not w ws h m = false_true (sym h ∙ mem_listed w ws m)

-- what each part of the reader gives: a derivation of the part
pub data Took (s : List ℕ) (sort from : ℕ) : Token → ℕ → Type 0 where
  took : {t : Token} → NextDataToken s from sort t → Took s sort from t t.end

data TypeGiven (s : List ℕ) (from : ℕ) : Span → ℕ → Type 0 where
  type_given : {t c : Token} → NextType s from t → length (spelling s t) ≤ name_limit
      → NextDataToken s t.end close_round c → TypeGiven s from (span_of t) c.end

data NameGiven (s : List ℕ) (seen : List (List ℕ)) (t : Token) : Span → ℕ → Type 0 where
  name_given : {e : Token} → length (spelling s t) ≤ name_limit → ¬ Memᴰ (spelling s t) seen
      → NextDataToken s t.end equals e → NameGiven s seen t (span_of t) e.end

data LeafGiven (s : List ℕ) (place from : ℕ) : PlacedContent → ℕ → Type 0 where
  leaf_given : {p : ℕ} {c : PlacedContent} {g : Token} → DerivesDataLeaf s place from c p → NextDataToken s p greater g
      → LeafGiven s place from c g.end

data BlockGiven (s : List ℕ) (levels place : ℕ) (type : Option Span) (from : ℕ) : Block → ℕ → Type 0 where
  block_given : {p : ℕ} {ms : Entries} {g : Token}
      → DerivesMembers s from ms p
      → NextDataToken s p greater g
      → Distinct [] (names_of s ms)
      → suc (member_levels ms) ≤ levels
      → BlockGiven s levels place type from (block place type ms) g.end

data MembersGiven (s : List ℕ) (levels : ℕ) (seen : List (List ℕ)) (from : ℕ) : Entries → ℕ → Type 0 where
  members_given : {p : ℕ} {ms : Entries} {g : Token}
      → DerivesMembers s from ms p
      → NextDataToken s p greater g
      → Distinct seen (names_of s ms)
      → member_levels ms ≤ levels
      → MembersGiven s levels seen from ms g.end

data ContentGiven (s : List ℕ) (levels from : ℕ) : PlacedContent → ℕ → Type 0 where
  content_given : {p : ℕ} {c : PlacedContent} → DerivesContent s from c p → content_levels c ≤ levels
      → ContentGiven s levels from c p

data DatumGiven (s : List ℕ) (levels from : ℕ) : Block → ℕ → Type 0 where
  datum_given : {p : ℕ} {b : Block} → DerivesDatum s from b p → levels_of b ≤ levels → DatumGiven s levels from b p

module _ (s : List ℕ) where
  pub expect_gives : (sort from : ℕ) → Yields (Took s sort from) (expect_data s sort from)
  unfolding expect_data
  expect_gives sort from =
      let t = data_token_at s from in
      let P = Took s sort from in
      by_cond (λ (r : Reading Token). Yields P (as_read r)) (eqb t.sort sort) (λ e. parsed_yields P t t.end (took (next_data (eqb-true _ _ e)))) (λ e. stopped_yields P _)

  type_gives : (from : ℕ) → Yields (TypeGiven s from) (type_from s from)
  unfolding type_from
  type_gives from =
      let t = type_token_at s from in
      let P = TypeGiven s from in
      by_cond (Yields P) (eqb t.sort type_name)
      (λ e. noting_yields P (ltb name_limit (length (spelling s t))) TooLong t.start _ (λ l.
      then_yields P (Took s close_round t.end) (expect_data s close_round t.end) _ (expect_gives close_round t.end) (λ c p x. ends (next_type_lem (eqb-true _ _ e)) (ltb-false _ _ l) x)))
      (λ e. stopped_yields P _)
    where
      ends : {t c : Token} {p : ℕ} → NextType s from t → length (spelling s t) ≤ name_limit
          → Took s close_round t.end c p → Yields (TypeGiven s from) (parsed (span_of t) p)
      ends n l (took x) = parsed_yields (TypeGiven s from) _ _ (type_given n l x)

  name_gives : (seen : List (List ℕ)) (t : Token) → Yields (NameGiven s seen t) (name_from s seen t)
  unfolding name_from
  name_gives seen t =
      let P = NameGiven s seen t in
      noting_yields P (ltb name_limit (length (spelling s t))) TooLong t.start _ (λ l.
      noting_yields P (listed (spelling s t) seen) RepeatedName t.start _ (λ m.
      then_yields P (Took s equals t.end) (expect_data s equals t.end) _ (expect_gives equals t.end) (λ c p x. ends (ltb-false _ _ l) (listed_not _ _ m) x)))
    where
      ends : {c : Token} {p : ℕ} → length (spelling s t) ≤ name_limit → ¬ Memᴰ (spelling s t) seen
          → Took s equals t.end c p → Yields (NameGiven s seen t) (parsed (span_of t) p)
      ends l m (took x) = parsed_yields (NameGiven s seen t) _ _ (name_given l m x)

  leaf_gives : (place from : ℕ)
      → (eqb (data_token_at s from).sort Tokens.string ≡ false → eqb (data_token_at s from).sort word_run ≡ true)
      → Yields (LeafGiven s place from) (leaf_from s place (data_token_at s from))
  unfolding leaf_from
  leaf_gives place from h =
      let t = data_token_at s from in
      let P = LeafGiven s place from in
      by_cond (Yields P) (eqb t.sort Tokens.string)
      (λ e. noting_yields P (ltb string_limit (length (inner s t))) TooLong t.start _ (λ l.
      then_yields P (Took s greater t.end) (expect_data s greater t.end) _ (expect_gives greater t.end) (λ c p x. ends (a_string (next_data (eqb-true _ _ e)) (ltb-false _ _ l)) x)))
      (λ e. noting_yields P (not (good (spelling s t))) BadWord t.start _ (λ l.
      then_yields P (Took s greater t.end) (expect_data s greater t.end) _ (expect_gives greater t.end) (λ c p x. ends (a_word (next_data (eqb-true _ _ (h e))) ((good-word (spelling s t)).0 (not-false _ l))) x)))
    where
      ends : {c : PlacedContent} {q p : ℕ} {g : Token} → DerivesDataLeaf s place from c q → Took s greater q g p
          → Yields (LeafGiven s place from) (parsed c p)
      ends d (took x) = parsed_yields (LeafGiven s place from) _ _ (leaf_given d x)

-- blocks with a type and without one, from their members
datum_typed : {s : List ℕ} {levels from p q : ℕ} {o l : Token} {w : Span} {b : Block}
    → NextDataToken s from open_round o
    → TypeGiven s o.end w p
    → NextDataToken s p less l
    → BlockGiven s levels l.start (Some w) l.end b q
    → DatumGiven s levels from b q
unfolding levels_of
datum_typed h (type_given t k c) n (block_given m e d v) = datum_given (DataGrammar.typed h t k c n m e d) v

datum_untyped : {s : List ℕ} {levels from q : ℕ} {l : Token} {b : Block} → NextDataToken s from less l
    → BlockGiven s levels l.start None l.end b q → DatumGiven s levels from b q
unfolding levels_of
datum_untyped n (block_given m e d v) = datum_given (DataGrammar.untyped n m e d) v

content_datum : {s : List ℕ} {levels from p : ℕ} {b : Block} → DatumGiven s levels from b p
    → ContentGiven s levels from (inside b) p
unfolding content_levels
content_datum (datum_given d l) = content_given (a_datum d) l

leaf_levels : {s : List ℕ} {place from p : ℕ} {c : PlacedContent} → DerivesDataLeaf s place from c p
    → content_levels c ≡ 0
unfolding content_levels
leaf_levels (a_string n l) = refl
leaf_levels (a_word n l) = refl

content_leaf : {s : List ℕ} {levels from p : ℕ} {l : Token} {c : PlacedContent} → NextDataToken s from less l
    → LeafGiven s l.start l.end c p → ContentGiven s levels from c p
content_leaf n (leaf_given d g) = content_given (a_leaf n d g) (omega (arith, leaf_levels d))

no_more_lem : {s : List ℕ} {levels from : ℕ} {seen : List (List ℕ)} {g : Token} → NextDataToken s from greater g
    → MembersGiven s levels seen from no_more g.end
unfolding names_of member_levels
no_more_lem n = members_given no_member n no_name (omega arith)

one_more_lem : {s : List ℕ} {levels from p q r : ℕ} {seen : List (List ℕ)} {t : Token} {w : Span} {c : PlacedContent}
    {ms : Entries}
    → NextDataToken s from name t
    → NameGiven s seen t w p
    → ContentGiven s levels p c q
    → MembersGiven s levels (spelling s t ∷ seen) q ms r
    → MembersGiven s levels seen from (entry w c ms) r
unfolding names_of member_levels
one_more_lem n (name_given l m e) (content_given d k) (members_given ds g a b) = members_given (one_more n l e d ds) g (new_name m a) (omega arith)

module _ (s : List ℕ) (levels : ℕ)
    (below : (place : ℕ) (type : Option Span) (from : ℕ)
    → Yields (BlockGiven s levels place type from) (block_from s levels place type from)) where
  -- a block behind its type
  typed_gives : (from : ℕ) → NextDataToken s from open_round (data_token_at s from)
      → Yields (DatumGiven s levels from) (typed s (block_from s levels) (data_token_at s from).end)
  unfolding typed
  typed_gives from h =
      let t = data_token_at s from in
      let P = DatumGiven s levels from in
      then_yields P (TypeGiven s t.end) (type_from s t.end) _ (type_gives s t.end) (λ w p g.
      then_yields P (Took s less p) (expect_data s less p) _ (expect_gives s less p) (λ l q x. opens g x))
    where
      opens : {w : Span} {l : Token} {p q : ℕ} → TypeGiven s (data_token_at s from).end w p → Took s less p l q
          → Yields (DatumGiven s levels from) (block_from s levels l.start (Some w) q)
      opens {w} g (took {t = l} n) = yields_map _ (DatumGiven s levels from) _ (λ b r y. datum_typed h g n y) (below l.start (Some w) l.end)

  less_gives : (from : ℕ) (l : Token) → NextDataToken s from less l
      → Yields (DatumGiven s levels from) (block_from s levels l.start None l.end)
  less_gives from l h = yields_map _ (DatumGiven s levels from) _ (λ b r y. datum_untyped h y) (below l.start None l.end)

  inside_gives : (from : ℕ) (w : Parse Block) → Yields (DatumGiven s levels from) w
      → Yields (ContentGiven s levels from) (and_then w (λ d q. parsed (inside d) q))
  inside_gives from w h = then_yields (ContentGiven s levels from) (DatumGiven s levels from) w _ h (λ d q x. parsed_yields (ContentGiven s levels from) (inside d) q (content_datum x))

  content_gives : (from : ℕ) → Yields (ContentGiven s levels from) (content_from s (block_from s levels) from)
  unfolding content_from
  content_gives from =
      let t = data_token_at s from in
      let u = data_token_at s t.end in
      let P = ContentGiven s levels from in
      by_cond (Yields P) (eqb t.sort open_round)
      (λ e. inside_gives from _ (typed_gives from (next_data (eqb-true _ _ e))))
      (λ e. by_cond (Yields P) (eqb t.sort less)
      (λ g. let n = next_data (eqb-true _ _ g) in
      let leaf : (eqb u.sort Tokens.string ≡ false → eqb u.sort word_run ≡ true) → Yields P (leaf_from s t.start u) =
      λ y. yields_map (LeafGiven s t.start t.end) P _ (λ c p x. content_leaf n x) (leaf_gives s t.start t.end y) in
      by_cond (Yields P) (eqb u.sort Tokens.string) (λ x. leaf (λ y. absurd (false_true (sym y ∙ x))))
      (λ x. by_cond (Yields P) (eqb u.sort word_run) (λ y. leaf (λ z. y)) (λ y. inside_gives from _ (less_gives from t n))))
      (λ g. stopped_yields P _))

  members_gives : (fuel : ℕ) (seen : List (List ℕ)) (from : ℕ)
      → Yields (MembersGiven s levels seen from) (members s (block_from s levels) fuel seen from)
  unfolding members
  members_gives zero seen from = stopped_yields (MembersGiven s levels seen from) _
  members_gives (suc fuel) seen from =
      let t = data_token_at s from in
      let P = MembersGiven s levels seen from in
      by_cond (Yields P) (eqb t.sort greater)
      (λ e. parsed_yields P no_more t.end (no_more_lem (next_data (eqb-true _ _ e))))
      (λ e. by_cond (Yields P) (eqb t.sort name)
      (λ g. then_yields P (NameGiven s seen t) (name_from s seen t) _ (name_gives s seen t) (λ w p a.
      then_yields P (ContentGiven s levels p) (content_from s (block_from s levels) p) _ (content_gives p) (λ x q b.
      then_yields P (MembersGiven s levels (spelling s t ∷ seen) q) (members s (block_from s levels) fuel (spelling s t ∷ seen) q) _ (members_gives fuel (spelling s t ∷ seen) q) (λ ms r c.
      parsed_yields P (entry w x ms) r (one_more_lem (next_data (eqb-true _ _ g)) a b c)))))
      (λ g. stopped_yields P _))

block_gives : (s : List ℕ) (levels place : ℕ) (type : Option Span) (from : ℕ)
    → Yields (BlockGiven s levels place type from) (block_from s levels place type from)
unfolding block_from Yields
block_gives s zero place type from = tt
block_gives s (suc levels) place type from =
    let P = BlockGiven s (suc levels) place type from in
    then_yields P (MembersGiven s levels [] from) (members s (block_from s levels) (length s + 1) [] from) _
    (members_gives s levels (λ p t f. block_gives s levels p t f) (length s + 1) [] from)
    (λ ms p x. parsed_yields P (block place type ms) p (made x))
  where
    made : {ms : Entries} {p : ℕ} → MembersGiven s levels [] from ms p
        → BlockGiven s (suc levels) place type from (block place type ms) p
    made (members_given d g n l) = block_given d g n (omega arith)

outermost_gives : (levels : ℕ) (s : List ℕ) → Yields (DatumGiven s levels 0) (outermost levels s)
unfolding outermost
outermost_gives levels s =
    let t = data_token_at s 0 in
    let P = DatumGiven s levels 0 in
    by_cond (Yields P) (eqb t.sort open_round)
    (λ e. typed_gives s levels (block_gives s levels) 0 (next_data (eqb-true _ _ e)))
    (λ e. then_yields P (Took s less 0) (expect_data s less 0) _ (expect_gives s less 0) (λ l p x. opens x))
  where
    opens : {l : Token} {p : ℕ} → Took s less 0 l p
        → Yields (DatumGiven s levels 0) (block_from s levels l.start None p)
    opens (took {t = l} n) = less_gives s levels (block_gives s levels) 0 l n

abbrev Derived : ℕ → List ℕ → Block → ℕ → Type 0
Derived levels s b p = DerivesData levels s b

data_gives : (levels : ℕ) (s : List ℕ) → Yields (Derived levels s) (data_text levels s)
unfolding data_text datum_alone
data_gives levels s =
    noting_yields (Derived levels s) (ltb text_limit (length s)) TextTooLong text_limit _ (λ l.
    then_yields (Derived levels s) (DatumGiven s levels 0) (outermost levels s) _ (outermost_gives levels s) (λ b p x.
    then_yields (Derived levels s) (Took s text_end p) (expect_data s text_end p) _ (expect_gives s text_end p) (λ t q y.
    parsed_yields (Derived levels s) b q (made (ltb-false _ _ l) x y))))
  where
    made : {b : Block} {p q : ℕ} {t : Token} → length s ≤ text_limit → DatumGiven s levels 0 b p → Took s text_end p t q
        → DerivesData levels s b
    made l (datum_given d k) (took n) = whole_text l d n k

-- the other way round: a part that is derived is read
expect_got : {s : List ℕ} {sort from : ℕ} {t : Token} → NextDataToken s from sort t
    → expect_data s sort from ≡ parsed t t.end
unfolding expect_data
expect_got {sort = sort} (next n e) = rw (data_read n, e, eq-eqb sort sort refl)

type_got : {s : List ℕ} {from : ℕ} {t c : Token} → NextType s from t → length (spelling s t) ≤ name_limit
    → NextDataToken s t.end close_round c → type_from s from ≡ parsed (span_of t) c.end
unfolding type_from
type_got {s} (next_type {t = t} m e) l n = rw (type_read m, e, le-ltb name_limit (length (spelling s t)) l, expect_got n)

name_got : {s : List ℕ} {seen : List (List ℕ)} (t : Token) {e : Token} → length (spelling s t) ≤ name_limit
    → ¬ Memᴰ (spelling s t) seen → NextDataToken s t.end equals e
    → name_from s seen t ≡ parsed (span_of t) e.end
unfolding name_from
name_got {s} {seen} t l m n = rw (le-ltb name_limit (length (spelling s t)) l, not_listed (spelling s t) seen m, expect_got n)

leaf_got : {s : List ℕ} {place from p : ℕ} {c : PlacedContent} {g : Token} → DerivesDataLeaf s place from c p
    → NextDataToken s p greater g → leaf_from s place (data_token_at s from) ≡ parsed c g.end
unfolding leaf_from
leaf_got {s} (a_string {t = t} (next m e) l) n = rw (data_read m, e, le-ltb string_limit (length (inner s t)) l, expect_got n)
leaf_got {s} (a_word {t = t} (next m e) l) n = rw (data_read m, e, (good-word (spelling s t)).1 l, expect_got n)

-- a sort compared with another
pub other : {a b : ℕ} → a ≡ b → (k : ℕ) → eqb a k ≡ eqb b k
other e k = ap (λ z. eqb z k) e

-- derived tokens lie in the text
next_found : {s : List ℕ} {from sort : ℕ} {t : Token} → NextDataToken s from sort t → from ≤ length s → Found s from t
next_found {s} {from} (next n e) h = rw (data_read n) at (data_token-found s from h)

type_found : {s : List ℕ} {from : ℕ} {t : Token} → NextType s from t → from ≤ length s → Found s from t
type_found {s} {from} (next_type n e) h = rw (type_read n) at (type_token-found s from h)

-- so does a content that is read
content_read : (s : List ℕ) (levels from : ℕ) (c : PlacedContent) (p : ℕ) → from ≤ length s
    → content_from s (block_from s levels) from ≡ parsed c p → ContentRead s from c p
unfolding Holds
content_read s levels from c p h e = rw e at (order_holds s _ (rank from 0) _ (content_order s 0 (block_from s levels) (λ p t q a. block_order s levels p t q) from (omega arith) h))

-- neither a string nor a word stands where members do
no_leaf : {s : List ℕ} {from p : ℕ} {ms : Entries} {g : Token} → DerivesMembers s from ms p
    → NextDataToken s p greater g
    → (eqb (data_token_at s from).sort Tokens.string ≡ false) × (eqb (data_token_at s from).sort word_run ≡ false)
no_leaf no_member (next m e) = (rw (data_read m, e), rw (data_read m, e))
no_leaf (one_more (next m e) l n d ds) g = (rw (data_read m, e), rw (data_read m, e))

block_got : (s : List ℕ) (levels place : ℕ) (type : Option Span) (from : ℕ) (ms : Entries) (p : ℕ)
    → members s (block_from s levels) (length s + 1) [] from ≡ parsed ms p
    → block_from s (suc levels) place type from ≡ parsed (block place type ms) p
unfolding block_from
block_got s levels place type from ms p e = rw e

-- a block behind its `<`, and behind its type
less_got : (s : List ℕ) (levels from p : ℕ) (ms : Entries) (l g : Token)
    → NextDataToken s from less l
    → DerivesMembers s l.end ms p
    → NextDataToken s p greater g
    → members s (block_from s levels) (length s + 1) [] l.end ≡ parsed ms g.end
    → content_from s (block_from s (suc levels)) from ≡ parsed (inside (block l.start None ms)) g.end
unfolding content_from
less_got s levels from p ms l g (next k e) m n h =
    let x = no_leaf m n in
    let b = block_got s levels l.start None l.end ms g.end h in
    rw (data_read k, e, x.0, x.1, b)

typed_got : (s : List ℕ) (levels from : ℕ) (ms : Entries) (t c l g : Token)
    → NextType s from t
    → length (spelling s t) ≤ name_limit
    → NextDataToken s t.end close_round c
    → NextDataToken s c.end less l
    → members s (block_from s levels) (length s + 1) [] l.end ≡ parsed ms g.end
    → typed s (block_from s (suc levels)) from ≡ parsed (block l.start (Some (span_of t)) ms) g.end
unfolding typed
typed_got s levels from ms t c l g x a y n h =
    let b = block_got s levels l.start (Some (span_of t)) l.end ms g.end h in
    rw (type_got x a y, expect_got n, b)

round_got : (s : List ℕ) (levels from : ℕ) (ms : Entries) (o t c l g : Token)
    → NextDataToken s from open_round o
    → NextType s o.end t
    → length (spelling s t) ≤ name_limit
    → NextDataToken s t.end close_round c
    → NextDataToken s c.end less l
    → members s (block_from s levels) (length s + 1) [] l.end ≡ parsed ms g.end
    → content_from s (block_from s (suc levels)) from ≡ parsed (inside (block l.start (Some (span_of t)) ms)) g.end
unfolding content_from
round_got s levels from ms o t c l g (next k e) x a y n h = rw (data_read k, other e open_round, typed_got s levels o.end ms t c l g x a y n h)

-- a leaf behind its `<`
leaf_content : (s : List ℕ) (levels from p : ℕ) (c : PlacedContent) (l g : Token) → NextDataToken s from less l
    → DerivesDataLeaf s l.start l.end c p → NextDataToken s p greater g
    → content_from s (block_from s levels) from ≡ parsed c g.end
unfolding content_from
leaf_content s levels from p c l g (next i e) (a_string (next j f) k) n =
    rw (data_read i, other e open_round, other e less, leaf_got {place = l.start} (a_string (next j f) k) n, data_read j, other f Tokens.string)
leaf_content s levels from p c l g (next i e) (a_word (next j f) k) n =
    rw (data_read i, other e open_round, other e less, leaf_got {place = l.start} (a_word (next j f) k) n, data_read j, other f Tokens.string, other f word_run)

no_block : {s : List ℕ} {place from p : ℕ} {b : Block} → ¬ DerivesDataLeaf s place from (inside b) p
no_block = elim [ ]

-- members, none, or one and those behind it
none_got : (s : List ℕ) (levels fuel : ℕ) (seen : List (List ℕ)) (from : ℕ) (t : Token) → NextDataToken s from greater t
    → length s < from + fuel → from ≤ length s
    → members s (block_from s levels) fuel seen from ≡ parsed no_more t.end
unfolding members
none_got s levels zero seen from t n k h = absurd (omega arith)
none_got s levels (suc fuel) seen from t (next n e) k h = rw (data_read n, e)

more_got : (s : List ℕ) (levels fuel : ℕ) (seen : List (List ℕ)) (from p q : ℕ) (c : PlacedContent) (ms : Entries)
    (n e : Token)
    → NextDataToken s from name n
    → name_from s seen n ≡ parsed (span_of n) e.end
    → content_from s (block_from s levels) e.end ≡ parsed c p
    → members s (block_from s levels) fuel (spelling s n ∷ seen) p ≡ parsed ms q
    → members s (block_from s levels) (suc fuel) seen from ≡ parsed (entry (span_of n) c ms) q
unfolding members
more_got s levels fuel seen from p q c ms n e (next m x) a b d = rw (data_read m, other x greater, other x name, a, b, d)

pub head_new : {before names : List (List ℕ)} {w : List ℕ} → Distinct before (w ∷ names) → ¬ Memᴰ w before
head_new (new_name h d) = h

pub tail_new : {before names : List (List ℕ)} {w : List ℕ} → Distinct before (w ∷ names) → Distinct (w ∷ before) names
tail_new (new_name h d) = d

mutual
  unfolding levels_of names_of

  datum_got : (b : Block) (s : List ℕ) (from p : ℕ) → DerivesDatum s from b p → (levels : ℕ) → levels_of b ≤ levels
      → from ≤ length s → content_from s (block_from s levels) from ≡ parsed (inside b) p
  datum_got (block q ty ms) s from p d zero k h = absurd (omega arith)
  datum_got (block q ty ms) s from p (DataGrammar.untyped {l = l} {g = t} n m g d) (suc levels) k h =
      let f = next_found n h in
      less_got s levels from _ ms l t n m g (members_got ms s l.end _ m levels (length s + 1) [] t g d (omega arith) f.inside (omega arith))
  datum_got (block q ty ms) s from p (DataGrammar.typed {o = u} {t = w} {c = v} {l = l} {g = t} o x a c n m g d) (suc levels) k h =
      let f = next_found n (next_found c (type_found x (next_found o h).inside).inside).inside in
      round_got s levels from ms u w v l t o x a c n (members_got ms s l.end _ m levels (length s + 1) [] t g d (omega arith) f.inside (omega arith))

  members_got : (ms : Entries) (s : List ℕ) (from p : ℕ) → DerivesMembers s from ms p
      → (levels fuel : ℕ) (seen : List (List ℕ)) (t : Token)
      → NextDataToken s p greater t
      → Distinct seen (names_of s ms)
      → member_levels ms ≤ levels
      → from ≤ length s
      → length s < from + fuel
      → members s (block_from s levels) fuel seen from ≡ parsed ms t.end
  members_got no_more s from p no_member levels fuel seen t g d l h k = none_got s levels fuel seen from t g k h
  members_got (entry w c ms) s from p m levels zero seen t g d l h k = absurd (omega arith)
  members_got (entry w c ms) s from p (one_more {p = q} {n = n} {e = e} x a y b m) levels (suc fuel) seen t g d l h k =
      let f = next_found x h in
      let u = next_found y f.inside in
      let v = content_got c s e.end q b levels (omega arith) u.inside in
      let z = content_read s levels e.end c q u.inside v in
      more_got s levels fuel seen from q t.end c ms n e x (name_got n a (head_new d) y) v
      (members_got ms s q p m levels fuel (spelling s n ∷ seen) t g (tail_new d) (omega arith) z.most (omega arith))

  content_got : (c : PlacedContent) (s : List ℕ) (from p : ℕ) → DerivesContent s from c p → (levels : ℕ)
      → content_levels c ≤ levels → from ≤ length s → content_from s (block_from s levels) from ≡ parsed c p
  content_got (string q x) s from p (a_leaf {p = r} {l = l} {g = g} n d m) levels k h = leaf_content s levels from r (string q x) l g n d m
  content_got (word q x) s from p (a_leaf {p = r} {l = l} {g = g} n d m) levels k h = leaf_content s levels from r (word q x) l g n d m
  content_got (inside b) s from p (a_datum d) levels k h = datum_got b s from p d levels k h
  content_got (inside b) s from p (a_leaf n d m) levels k h = absurd (no_block d)

-- the outermost datum
less-outermost : (levels : ℕ) (s : List ℕ) (b : Block) (p : ℕ) (l : Token) → NextDataToken s 0 less l
    → block_from s levels l.start None l.end ≡ parsed b p → outermost levels s ≡ parsed b p
unfolding outermost
less-outermost levels s b p l (next n e) h = rw (expect_got {from = 0} (next n e), data_read n, other e open_round) h

round_outermost : (levels : ℕ) (s : List ℕ) (b : Block) (p : ℕ) (o : Token) → NextDataToken s 0 open_round o
    → typed s (block_from s levels) o.end ≡ parsed b p → outermost levels s ≡ parsed b p
unfolding outermost
round_outermost levels s b p o (next n e) h = rw (data_read n, other e open_round) h

outermost_got : (levels : ℕ) (s : List ℕ) (b : Block) (p : ℕ) → DerivesDatum s 0 b p → levels_of b ≤ levels
    → outermost levels s ≡ parsed b p
unfolding levels_of
outermost_got zero s (block q ty ms) p d k = absurd (omega arith)
outermost_got (suc levels) s b p (DataGrammar.untyped {l = l} {g = t} {ms = ms} n m g d) k =
    let f = next_found n (omega arith) in
    less-outermost (suc levels) s (block l.start None ms) t.end l n
    (block_got s levels l.start None l.end ms t.end (members_got ms s l.end _ m levels (length s + 1) [] t g d (omega arith) f.inside (omega arith)))
outermost_got (suc levels) s b p (DataGrammar.typed {o = u} {t = w} {c = v} {l = l} {g = t} {ms = ms} o x a c n m g d) k =
    let f = next_found n (next_found c (type_found x (next_found o (omega arith)).inside).inside).inside in
    round_outermost (suc levels) s (block l.start (Some (span_of w)) ms) t.end u o
    (typed_got s levels u.end ms w v l t x a c n (members_got ms s l.end _ m levels (length s + 1) [] t g d (omega arith) f.inside (omega arith)))

-- the text's end, as a token, ends where the text does: no other token has its sort
end_no_class : {w : List ℕ} → ¬ Classed w text_end
end_no_class = elim [ ]

end_no_spelling : {w : List ℕ} → ¬ SpellsData text_end w
end_no_spelling = elim [ ]

at_end_lem : {s : List ℕ} {from : ℕ} {t : Token} → NextDataIs Classed s from t → t.sort ≡ text_end → length s ≤ t.end
at_end_lem (NextDataIs.ends p h) e = h
at_end_lem (NextDataIs.run p r c) e = absurd (end_no_class (rw e at c))
at_end_lem (NextDataIs.longest p x) e = absurd (end_no_spelling (rw e at x.one.spelled))
at_end_lem (NextDataIs.none p h r x) e = absurd (omega arith)

next_at_end : {s : List ℕ} {from : ℕ} {t : Token} → NextDataToken s from text_end t → from ≤ length s → t.end ≡ length s
next_at_end (next n e) h =
    let a = at_end_lem n e in
    let f = next_found (next n e) h in
    omega arith

-- a datum that is read ends in the text
outermost-inside : (levels : ℕ) (s : List ℕ) (b : Block) (p : ℕ) → outermost levels s ≡ parsed b p → p ≤ length s
unfolding Holds
outermost-inside levels s b p e = let r : BlockRead s 0 b p = rw e at (order_holds s _ 0 _ (outermost_order levels s)) in r.most

data_got : (levels : ℕ) (s : List ℕ) (b : Block) → DerivesData levels s b → block_of levels s ≡ got b (length s)
unfolding block_of data_text datum_alone
data_got levels s b (whole_text {p = p} {e = e} l d n k) =
    let o = outermost_got levels s b p d k in
    rw (le-ltb text_limit (length s) l, o, expect_got n, next_at_end n (outermost-inside levels s b p o))

-- a data text is read to a tree, up to its end, exactly where the grammar derives the tree
pub read_derives : (levels : ℕ) (s : List ℕ) (b : Block)
    → (block_of levels s ≡ got b (length s)) ↔ DerivesData levels s b
unfolding block_of
read_derives levels s b = (λ h. yielded (Derived levels s) (data_text levels s) b (length s) (data_gives levels s) h, λ h. data_got levels s b h)

-- a text that is read is read up to its end
pub read_whole : (levels : ℕ) (s : List ℕ) (b : Block) (p : ℕ) → block_of levels s ≡ got b p → p ≡ length s
unfolding block_of
read_whole levels s b p h = let x = data_got levels s b (yielded (Derived levels s) (data_text levels s) b p (data_gives levels s) h) in cc

-- a text derives at most one tree
pub one_tree : (levels : ℕ) (s : List ℕ) (a b : Block) → DerivesData levels s a → DerivesData levels s b → a ≡ b
one_tree levels s a b h k =
    let x = data_got levels s a h in
    let y = data_got levels s b k in
    cc

-- so the datum that a text says is the derived tree, spelled out
pub says_derived : (levels : ℕ) (s : List ℕ) (b : Block) → DerivesData levels s b
    → datum_of levels s ≡ got (spelled_block b s) (length s)
unfolding datum_of
says_derived levels s b h = rw (data_got levels s b h)
