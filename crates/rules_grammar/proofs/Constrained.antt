-- A constraint text is read to a tree exactly where the grammar derives the tree. Assumes nothing.
use mathlib.Core.Path.{◌≡◌, refl, sym, ap, ◌∙◌}
use mathlib.Core.Logic.{◌≢◌, ◌↔◌}
use mathlib.Core.Bool.{true, false, ◌||◌, ◌&&◌}
use mathlib.Core.List.{List, [], ◌∷◌, Memᴰ}
use Prim.Native.Nat.{ℕ, zero, suc, ◌≤◌, ◌<◌, ◌+◌}
use native.Mathlib.Omega.{arith}
use lib.Dec.{eqb, ltb, lit<}
use lib.ListN.{length}
use borrow.Author.Tests.{eqb-true, eqb-false, ltb-false, le-ltb, ne_eqb}
use Rattle.lexis.specs.Text.{bytes}
use Rattle.lexis.specs.Runs.{listed, same}
use Rattle.lexis.specs.Bytes.{within}
use Rattle.lexis.specs.Spelling.{matches, existence, open_brace, close_brace, dots, star, bar, true_word, false_word}
use Rattle.lexis.specs.Tokens.{token_at, content_token_at, text_end, type_name, name, code, integer, string, spelling, inner}
use Rattle.lexis.specs.declared.Token.{Token}
use Rattle.lexis.proofs.Cases.{and_left, and_right}
use Rattle.lexis.proofs.Places.{Found, token-found}
use Rattle.refusals.specs.Limits.{text_limit, level_limit, record_limit, name_limit, code_limit}
use Rattle.refusals.specs.Reading.{Reading, refused, got, refuse, read_then}
use Rattle.refusals.specs.declared.Cause.TheVariants.{TextTooLong, TooDeep, TooLong, TooManyRecords, RepeatedName, EndsEarly}
use Rattle.refusals.specs.declared.Refusal.{Refusal}
use Rattle.refusals.specs.Expecting.{syntax_cause, expect}
use Rattle.refusals.proofs.Readings.{Holds}
use Rattle.refusals.proofs.Tokens.{strict_of}
use Rattle.meaning.specs.Constraints.{Object, object, AttributeHead, Attributes, no_more, attribute, Value, any, nested, leaf, Leaf, prohibited, optional, required}
use Rattle.cadl_items.specs.Clauses.Told
use Rattle.cadl_items.proofs.LeafReading.{LeafRead, leaf_holds}
use Rattle.cadl_objects.specs.Existence.{opening, is_zero, is_one, from_nought, from_one, bounds, existence_from}
use Rattle.cadl_objects.specs.Objects.{Attribute, past_attribute, head_of}
use Rattle.cadl_objects.specs.Objects
use Rattle.cadl_objects.specs.Clauses.Told.{object_type, object_code, attribute_name, value, attribute_from, attributes, object_from}
use Rattle.cadl_objects.specs.Texts.{constraint_of}
use Rattle.cadl_items.proofs.LeafParts.{leaf_is}
use Rattle.cadl_objects.proofs.TreeParts.{body, type_is, code_is, name_is_lem, value_is, attribute_is, attributes_is, object_is, object_none, constraint_is}
use Rattle.cadl_objects.proofs.TreeReading.{ObjectRead, object_holds}
use Rattle.rules_grammar.specs.DataGrammar.{Distinct, no_name, new_name}
use Rattle.rules_grammar.specs.LeafGrammar.{NextToken, next}
use Rattle.rules_grammar.specs.ConstraintGrammar.{Opens, opens, SpelledInteger, digit, DerivesBounds, DerivesExistence, unwritten, written, DerivesCode, uncoded, coded, attribute_names, object_levels, attribute_levels, value_levels, behind_attribute, WithinLimit, DerivesObject, an_object, DerivesBody, any_members, DerivesAttributes, last_one, one_more, DerivesAttribute, an_attribute, DerivesValue, anything, one_object, one_leaf, DerivesConstraint, whole_text}
use Rattle.rules_grammar.specs.ConstraintGrammar
use Rattle.rules_grammar.proofs.NextLaws.{next_token, token_read, sort_read, content_token, content_same, content_read}
use Rattle.lexis.proofs.TestLaws.{same_eq}
use Rattle.rules_grammar.proofs.Given.{Gives, got_gives, refuse_gives, cond_gives, unless_gives, then_gives, given, gives_map}
use Rattle.rules_grammar.proofs.Items.{Took, took, expect_gives, expect_got, leaf_got, leaf_derives}
use Rattle.rules_grammar.proofs.Derived.{not_listed, listed_not, other, head_new, tail_new}

-- what each part of the reader gives: a derivation of the part
data OpenGiven (s : List ℕ) (from : ℕ) : Token → ℕ → Type 0 where
  open_given : {b : Token} → Opens s from b → OpenGiven s from b b.end

data NameGiven (s : List ℕ) (sort : ℕ) (c from : ℕ) : Token → ℕ → Type 0 where
  name_given : {t : Token} → NextToken s from sort t → WithinLimit c (spelling s t) → NameGiven s sort c from t t.end

data NewGiven (s : List ℕ) (seen : List (List ℕ)) (c from : ℕ) : Token → ℕ → Type 0 where
  new_given : {t : Token} → NextToken s from name t → WithinLimit c (spelling s t) → ¬ Memᴰ (spelling s t) seen
      → NewGiven s seen c from t t.end

data ObjectGiven (s : List ℕ) (levels : ℕ) (c from : ℕ) : Object → ℕ → Type 0 where
  object_given : {o : Object} {p : ℕ} → DerivesObject s c from o p → object_levels o ≤ levels
      → ObjectGiven s levels c from o p

data ValueGiven (s : List ℕ) (levels : ℕ) (c from : ℕ) : Value → ℕ → Type 0 where
  value_given : {v : Value} {p : ℕ} → DerivesValue s c from v p → value_levels v ≤ levels → ValueGiven s levels c from v p

data AttributeGiven (s : List ℕ) (levels : ℕ) (seen : List (List ℕ)) (c from : ℕ) : Attribute → ℕ → Type 0 where
  attribute_given : {a : Attribute} {p : ℕ}
      → DerivesAttribute s c from (head_of c a) a.value p
      → ¬ Memᴰ a.name seen
      → value_levels a.value ≤ levels
      → AttributeGiven s levels seen c from a p

data AttributesGiven (s : List ℕ) (levels : ℕ) (seen : List (List ℕ)) (c from : ℕ) : Attributes → ℕ → Type 0 where
  attributes_given : {xs : Attributes} {p : ℕ} {z : Token}
      → DerivesAttributes s c from xs p
      → NextToken s p close_brace z
      → Distinct seen (attribute_names xs)
      → attribute_levels xs ≤ levels
      → AttributesGiven s levels seen c from xs z.end

data BodyGiven (s : List ℕ) (levels : ℕ) (c from : ℕ) : Attributes → ℕ → Type 0 where
  body_given : {xs : Attributes} {p : ℕ} → DerivesBody s c from xs p → Distinct [] (attribute_names xs)
      → attribute_levels xs ≤ levels → BodyGiven s levels c from xs p

module _ (s : List ℕ) where
  opening_gives : (from : ℕ) → Gives (OpenGiven s from) (opening s from)
  unfolding opening
  opening_gives from = then_gives (OpenGiven s from) (Took s matches from) (expect s matches from) _ (expect_gives s matches from) (λ t p x. go x)
    where
      both : {m b : Token} {p : ℕ} → NextToken s from matches m → Took s open_brace m.end b p → OpenGiven s from b p
      both n (took x) = open_given (opens n x)

      go : {m : Token} {p : ℕ} → Took s matches from m p → Gives (OpenGiven s from) (expect s open_brace p)
      go (took {t = m} n) = gives_map (Took s open_brace m.end) (OpenGiven s from) _ (λ b q y. both n y) (expect_gives s open_brace m.end)

  digit_of_lem : (w : List ℕ) (from : ℕ)
      → (eqb (token_at s from).sort integer && same w (spelling s (token_at s from))) ≡ true
      → SpelledInteger s from w (token_at s from)
  digit_of_lem w from e =
      let t = token_at s from in
      digit (next_token (eqb-true _ _ (and_left (eqb t.sort integer) (same w (spelling s t)) e))) (same_eq w (spelling s t) (and_right (eqb t.sort integer) (same w (spelling s t)) e))

  bounds_gives : (from : ℕ) → Gives (DerivesBounds s from) (bounds s from)
  unfolding bounds from_nought from_one
  bounds_gives from =
      let t = token_at s from in
      let d = token_at s t.end in
      let u = token_at s d.end in
      let P = DerivesBounds s from in
      cond_gives P (is_zero s t) _ _
      (λ e. let x = digit_of_lem (bytes "0") from e in
      cond_gives P (eqb d.sort dots) _ _
      (λ f. cond_gives P (is_zero s u) _ _ (λ g. got_gives P prohibited u.end (ConstraintGrammar.nought_to_nought x (next_token (eqb-true _ _ f)) (digit_of_lem (bytes "0") d.end g)))
      (λ g. cond_gives P (is_one s u) _ _ (λ h. got_gives P optional u.end (ConstraintGrammar.nought_to_one x (next_token (eqb-true _ _ f)) (digit_of_lem (bytes "1") d.end h)))
      (λ h. refuse_gives P (syntax_cause u) u.start)))
      (λ f. got_gives P prohibited t.end (ConstraintGrammar.nought x)))
      (λ e. cond_gives P (is_one s t) _ _
      (λ k. let x = digit_of_lem (bytes "1") from k in
      cond_gives P (eqb d.sort dots) _ _
      (λ f. cond_gives P (is_one s u) _ _ (λ h. got_gives P required u.end (ConstraintGrammar.one_to_one x (next_token (eqb-true _ _ f)) (digit_of_lem (bytes "1") d.end h)))
      (λ h. refuse_gives P (syntax_cause u) u.start))
      (λ f. got_gives P required t.end (ConstraintGrammar.one x)))
      (λ k. refuse_gives P (syntax_cause t) t.start))

  existence_gives : (from : ℕ) → Gives (DerivesExistence s from) (existence_from s from)
  unfolding existence_from
  existence_gives from =
      let t = token_at s from in
      let P = DerivesExistence s from in
      cond_gives P (eqb t.sort existence) _ _
      (λ e. then_gives P (OpenGiven s t.end) (opening s t.end) _ (opening_gives t.end) (λ b p x.
      then_gives P (DerivesBounds s p) (bounds s p) _ (bounds_gives p) (λ k q y.
      then_gives P (Took s close_brace q) (expect s close_brace q) _ (expect_gives s close_brace q) (λ z r w.
      got_gives P k r (made (next_token (eqb-true _ _ e)) x y w)))))
      (λ e. got_gives P required from unwritten)
    where
      made : {x b z : Token} {k p q r : ℕ} → NextToken s from existence x → OpenGiven s x.end b p
          → DerivesBounds s p k q → Took s close_brace q z r → DerivesExistence s from k r
      made n (open_given o) d (took z) = written n o d z

  code_gives : (from : ℕ) → Gives (DerivesCode s from) (object_code s from)
  code_gives from =
      let t = token_at s from in
      let P = DerivesCode s from in
      rw (code_is s from) (cond_gives P (eqb t.sort code) _ _
      (λ e. unless_gives P (ltb code_limit (length (inner s t))) TooLong t.start _ (λ a.
      got_gives P (inner s t) t.end (coded (next_token (eqb-true _ _ e)) (ltb-false _ _ a))))
      (λ e. got_gives P [] from uncoded))

  type_gives : (levels : ℕ) (c from : ℕ) → Gives (NameGiven s type_name c from) (object_type s levels c from)
  type_gives levels c from =
      let P = NameGiven s type_name c from in
      rw (type_is s levels c from) (then_gives P (Took s type_name from) (expect s type_name from) _ (expect_gives s type_name from) (λ t p x.
      unless_gives P (eqb levels 0) TooDeep t.start _ (λ a.
      unless_gives P (ltb name_limit (length (spelling s t))) TooLong t.start _ (λ b.
      unless_gives P (eqb c record_limit) TooManyRecords t.start _ (λ d.
      got_gives P t p (made x (record { short = ltb-false _ _ b; room = eqb-false _ _ d })))))))
    where
      made : {t : Token} {p : ℕ} → Took s type_name from t p → WithinLimit c (spelling s t)
          → NameGiven s type_name c from t p
      made (took n) f = name_given n f

  name_gives : (seen : List (List ℕ)) (c from : ℕ) → Gives (NewGiven s seen c from) (attribute_name s seen c from)
  name_gives seen c from =
      let P = NewGiven s seen c from in
      rw (name_is_lem s seen c from) (then_gives P (Took s name from) (expect s name from) _ (expect_gives s name from) (λ t p x.
      unless_gives P (ltb name_limit (length (spelling s t))) TooLong t.start _ (λ b.
      unless_gives P (eqb c record_limit) TooManyRecords t.start _ (λ d.
      unless_gives P (listed (spelling s t) seen) RepeatedName t.start _ (λ m.
      got_gives P t p (made x (record { short = ltb-false _ _ b; room = eqb-false _ _ d }) (listed_not _ _ m)))))))
    where
      made : {t : Token} {p : ℕ} → Took s name from t p → WithinLimit c (spelling s t) → ¬ Memᴰ (spelling s t) seen
          → NewGiven s seen c from t p
      made (took n) f m = new_given n f m

-- the parts put together
attribute_made : {s : List ℕ} {levels from e p q r x : ℕ} {seen : List (List ℕ)} {c : ℕ} {t b z : Token} {v : Value}
    → NewGiven s seen c from t p
    → DerivesExistence s p e q
    → OpenGiven s q b r
    → ValueGiven s levels (c + 1) r v x
    → {y : ℕ}
    → Took s close_brace x z y
    → AttributeGiven s levels seen c from (record { existence = e; name = spelling s t; value = v }) y
attribute_made (new_given n f m) d (open_given o) (value_given w l) (took z) = attribute_given (an_attribute n f d o w z) m l

last_made : {s : List ℕ} {levels from p : ℕ} {seen : List (List ℕ)} {c : ℕ} {a : Attribute} {z : Token}
    → AttributeGiven s levels seen c from a p → NextToken s p close_brace z
    → AttributesGiven s levels seen c from (attribute (head_of c a) a.value no_more) z.end
unfolding attribute_names attribute_levels
last_made (attribute_given d m l) n = attributes_given (last_one d) n (new_name m no_name) (omega arith)

more_made : {s : List ℕ} {levels from p q : ℕ} {seen : List (List ℕ)} {c : ℕ} {a : Attribute} {xs : Attributes}
    → AttributeGiven s levels seen c from a p
    → AttributesGiven s levels (a.name ∷ seen) (past_attribute c a) p xs q
    → AttributesGiven s levels seen c from (attribute (head_of c a) a.value xs) q
unfolding attribute_names attribute_levels
more_made (attribute_given d m l) (attributes_given ds n x k) = attributes_given (one_more d ds) n (new_name m x) (omega arith)

nested_made : {s : List ℕ} {levels from p : ℕ} {c : ℕ} {o : Object} → ObjectGiven s levels c from o p
    → ValueGiven s levels c from (nested o) p
unfolding value_levels
nested_made (object_given d l) = value_given (one_object d) l

object_made : {s : List ℕ} {levels from p q r x : ℕ} {c : ℕ} {t b : Token} {k : List ℕ} {xs : Attributes}
    → NameGiven s type_name c from t p
    → DerivesCode s p k q
    → OpenGiven s q b r
    → BodyGiven s levels (c + 1) r xs x
    → ObjectGiven s (suc levels) c from (object (record { number = c; type = spelling s t; code = k }) xs) x
unfolding object_levels
object_made (name_given n f) d (open_given o) (body_given b m l) = object_given (an_object n f d o b m) (omega arith)

module _ (s : List ℕ) (levels : ℕ)
    (below : (c from : ℕ) → Gives (ObjectGiven s levels c from) (object_from s levels c from)) where
  value_gives : (c from : ℕ) → Gives (ValueGiven s levels c from) (value s levels c from)
  unfolding value_levels
  value_gives c from =
      let t = content_token_at s from in
      let P = ValueGiven s levels c from in
      rw (value_is s levels c from) (cond_gives P (eqb t.sort star) _ _ (λ e. got_gives P any t.end (value_given (anything (content_token (eqb-true _ _ e) (omega arith))) (omega arith)))
      (λ e. cond_gives P (eqb t.sort type_name) _ _
      (λ f. then_gives P (ObjectGiven s levels c from) (object_from s levels c from) _ (below c from) (λ o p x. got_gives P (nested o) p (nested_made x)))
      (λ f. leaf_case (Told.leaf s c from) refl)))
    where
      leaf_case : (r : Reading Leaf) → Told.leaf s c from ≡ r
          → Gives (ValueGiven s levels c from) (read_then r (λ l p. got (leaf l) p))
      leaf_case (refused x) e = refuse_gives (ValueGiven s levels c from) x.cause x.place
      leaf_case (got l p) e = got_gives (ValueGiven s levels c from) (leaf l) p (value_given (one_leaf (leaf_derives s c from l p e)) (omega arith))

  attribute_gives : (seen : List (List ℕ)) (c from : ℕ)
      → Gives (AttributeGiven s levels seen c from) (attribute_from s levels seen c from)
  attribute_gives seen c from =
      let P = AttributeGiven s levels seen c from in
      rw (attribute_is s levels seen c from) (then_gives P (NewGiven s seen c from) (attribute_name s seen c from) _ (name_gives s seen c from) (λ t p a.
      then_gives P (DerivesExistence s p) (existence_from s p) _ (existence_gives s p) (λ e q b.
      then_gives P (OpenGiven s q) (opening s q) _ (opening_gives s q) (λ u r d.
      then_gives P (ValueGiven s levels (c + 1) r) (value s levels (c + 1) r) _ (value_gives (c + 1) r) (λ v x f.
      then_gives P (Took s close_brace x) (expect s close_brace x) _ (expect_gives s close_brace x) (λ z y g.
      got_gives P (record { existence = e; name = spelling s t; value = v }) y (attribute_made a b d f g)))))))

  attributes_gives : (fuel : ℕ) (seen : List (List ℕ)) (c from : ℕ)
      → Gives (AttributesGiven s levels seen c from) (attributes s levels fuel seen c from)
  unfolding attributes Objects.attributes
  attributes_gives zero seen c from = refuse_gives (AttributesGiven s levels seen c from) EndsEarly (length s + 1)
  attributes_gives (suc fuel) seen c from =
      let P = AttributesGiven s levels seen c from in
      rw (attributes_is s levels fuel seen c from) (then_gives P (AttributeGiven s levels seen c from) (attribute_from s levels seen c from) _ (attribute_gives seen c from) (λ a p x.
      cond_gives P (eqb (token_at s p).sort close_brace) _ _
      (λ e. got_gives P (attribute (head_of c a) a.value no_more) (token_at s p).end (last_made x (next_token (eqb-true _ _ e))))
      (λ e. then_gives P (AttributesGiven s levels (a.name ∷ seen) (past_attribute c a) p) (attributes s levels fuel (a.name ∷ seen) (past_attribute c a) p) _ (attributes_gives fuel (a.name ∷ seen) (past_attribute c a) p) (λ xs q y.
      got_gives P (attribute (head_of c a) a.value xs) q (more_made x y)))))

  body_gives : (c from : ℕ) → Gives (BodyGiven s levels c from) (body s levels c from)
  unfolding attribute_names attribute_levels
  body_gives c from =
      let t = token_at s from in
      let P = BodyGiven s levels c from in
      cond_gives P (eqb t.sort star) _ _
      (λ e. then_gives P (Took s close_brace t.end) (expect s close_brace t.end) _ (expect_gives s close_brace t.end) (λ z p x. got_gives P no_more p (star_made (next_token (eqb-true _ _ e)) x)))
      (λ e. gives_map (AttributesGiven s levels [] c from) P _ (λ xs p x. made x) (attributes_gives (length s + 1) [] c from))
    where
      star_made : {t z : Token} {p : ℕ} → NextToken s from star t → Took s close_brace t.end z p
          → BodyGiven s levels c from no_more p
      star_made n (took z) = body_given (any_members n z) no_name (omega arith)

      made : {xs : Attributes} {p : ℕ} → AttributesGiven s levels [] c from xs p → BodyGiven s levels c from xs p
      made (attributes_given d n m l) = body_given (ConstraintGrammar.members d n) m l

  object_step : (c from : ℕ) → Gives (ObjectGiven s (suc levels) c from) (object_from s (suc levels) c from)
  object_step c from =
      let P = ObjectGiven s (suc levels) c from in
      rw (object_is s levels c from) (then_gives P (NameGiven s type_name c from) (object_type s (suc levels) c from) _ (type_gives s (suc levels) c from) (λ t p a.
      then_gives P (DerivesCode s p) (object_code s p) _ (code_gives s p) (λ k q b.
      then_gives P (OpenGiven s q) (opening s q) _ (opening_gives s q) (λ u r d.
      then_gives P (BodyGiven s levels (c + 1) r) (body s levels (c + 1) r) _ (body_gives (c + 1) r) (λ xs x f.
      got_gives P (object (record { number = c; type = spelling s t; code = k }) xs) x (object_made a b d f))))))

-- without a level left nothing is given
no_level : (s : List ℕ) (c from : ℕ) (P : Object → ℕ → Type 0) (go : Token → ℕ → Reading Object)
    → Gives P (read_then (object_type s 0 c from) go)
no_level s c from P go = rw (type_is s 0 c from) (cases (expect s type_name from))
  where
    cases : (r : Reading Token) → Gives P (read_then (read_then r (λ t p. refuse TooDeep t.start)) go)
    cases (refused x) = refuse_gives P x.cause x.place
    cases (got t p) = refuse_gives P TooDeep t.start

object_gives : (s : List ℕ) (levels : ℕ) (c from : ℕ) → Gives (ObjectGiven s levels c from) (object_from s levels c from)
object_gives s zero c from = rw (object_none s c from (λ t p. refuse TooDeep p)) (no_level s c from (ObjectGiven s 0 c from) (λ t p. refuse TooDeep p))
object_gives s (suc levels) c from = object_step s levels (λ d f. object_gives s levels d f) c from

abbrev Derived : List ℕ → Object → ℕ → Type 0
Derived s o p = DerivesConstraint s o

text_gives : (s : List ℕ) → Gives (Derived s) (constraint_of s)
text_gives s =
    rw (constraint_is s) (unless_gives (Derived s) (ltb text_limit (length s)) TextTooLong text_limit _ (λ l.
    then_gives (Derived s) (ObjectGiven s level_limit 1 0) (object_from s level_limit 1 0) _ (object_gives s level_limit 1 0) (λ o p x.
    then_gives (Derived s) (Took s text_end p) (expect s text_end p) _ (expect_gives s text_end p) (λ t q y.
    got_gives (Derived s) o q (made (ltb-false _ _ l) x y)))))
  where
    made : {o : Object} {p q : ℕ} {t : Token} → length s ≤ text_limit → ObjectGiven s level_limit 1 0 o p
        → Took s text_end p t q → DerivesConstraint s o
    made l (object_given d k) (took n) = whole_text l d n k

-- the other way round: a part that is derived is read
opening_got : {s : List ℕ} {from : ℕ} {b : Token} → Opens s from b → opening s from ≡ got b b.end
unfolding opening
opening_got (opens m b) = rw (expect_got m, expect_got b)

-- a digit under a test for another
is_digit : {s : List ℕ} {from : ℕ} {w : List ℕ} {t : Token} → SpelledInteger s from w t → (v : List ℕ)
    → (eqb (token_at s from).sort integer && same v (spelling s (token_at s from))) ≡ same v w
is_digit (digit (next n e) h) v = rw (token_read n, other e integer) (ap (same v) (sym h))

digit_read : {s : List ℕ} {from : ℕ} {w : List ℕ} {t : Token} → SpelledInteger s from w t → token_at s from ≡ t
digit_read (digit (next n e) h) = token_read n

bounds_got : {s : List ℕ} {from e p : ℕ} {z : Token} → DerivesBounds s from e p → NextToken s p close_brace z
    → bounds s from ≡ got e p
unfolding bounds from_nought from_one same
bounds_got (ConstraintGrammar.nought x) n = rw (is_digit x (bytes "0"), digit_read x, other (sort_read n) dots)
bounds_got (ConstraintGrammar.one x) n = rw (is_digit x (bytes "0"), is_digit x (bytes "1"), digit_read x, other (sort_read n) dots)
bounds_got (ConstraintGrammar.nought_to_nought x (next i d) y) n =
    rw (is_digit x (bytes "0"), digit_read x, token_read i, other d dots, is_digit y (bytes "0"), digit_read y)
bounds_got (ConstraintGrammar.nought_to_one x (next i d) y) n =
    rw (is_digit x (bytes "0"), digit_read x, token_read i, other d dots, is_digit y (bytes "0"), is_digit y (bytes "1"), digit_read y)
bounds_got (ConstraintGrammar.one_to_one x (next i d) y) n =
    rw (is_digit x (bytes "0"), is_digit x (bytes "1"), digit_read x, token_read i, other d dots, is_digit y (bytes "1"), digit_read y)

existence_got : {s : List ℕ} {from e p : ℕ} {b : Token} → DerivesExistence s from e p → Opens s p b
    → existence_from s from ≡ got e p
unfolding existence_from
existence_got unwritten (opens m n) = rw (other (sort_read m) existence)
existence_got (written (next m x) o d z) n = rw (token_read m, other x existence, opening_got o, bounds_got d z, expect_got z)

code_got : {s : List ℕ} {from p : ℕ} {k : List ℕ} {b : Token} → DerivesCode s from k p → Opens s p b
    → object_code s from ≡ got k p
code_got {s} {from} uncoded (opens m n) = rw (code_is s from, other (sort_read m) code)
code_got {s} {from} (coded {t = t} (next m e) l) n = rw (code_is s from, token_read m, other e code, le-ltb code_limit (length (inner s t)) l)

type_got : (s : List ℕ) (levels : ℕ) (c from : ℕ) (t : Token) → NextToken s from type_name t
    → WithinLimit c (spelling s t) → object_type s (suc levels) c from ≡ got t t.end
type_got s levels c from t n f =
    let e : eqb (suc levels) 0 ≡ false = ne_eqb (suc levels) 0 (λ z. omega arith) in
    rw (type_is s (suc levels) c from, expect_got n, e, le-ltb name_limit (length (spelling s t)) f.short, ne_eqb c record_limit f.room)

name_got : (s : List ℕ) (seen : List (List ℕ)) (c from : ℕ) (t : Token) → NextToken s from name t
    → WithinLimit c (spelling s t) → ¬ Memᴰ (spelling s t) seen
    → attribute_name s seen c from ≡ got t t.end
name_got s seen c from t n f m =
    rw (name_is_lem s seen c from, expect_got n, le-ltb name_limit (length (spelling s t)) f.short, ne_eqb c record_limit f.room, not_listed (spelling s t) seen m)

-- derived tokens lie in the text
pub next_found : {s : List ℕ} {from sort : ℕ} {t : Token} → NextToken s from sort t → from ≤ length s → Found s from t
next_found {s} {from} (next n e) h = rw (token_read n) at (token-found s from h)

open_found : {s : List ℕ} {from : ℕ} {b : Token} → Opens s from b → from ≤ length s
    → (from ≤ b.end) × (b.end ≤ length s)
open_found (opens m b) h =
    let f = next_found m h in
    let g = next_found b f.inside in
    (omega (arith, f.start, f.order, g.start, g.order), g.inside)

bounds-found : {s : List ℕ} {from e p : ℕ} → DerivesBounds s from e p → from ≤ length s → (from ≤ p) × (p ≤ length s)
bounds-found (ConstraintGrammar.nought (digit n b)) h = let f = next_found n h in (omega (arith, f.start, f.order), f.inside)
bounds-found (ConstraintGrammar.one (digit n b)) h = let f = next_found n h in (omega (arith, f.start, f.order), f.inside)
bounds-found (ConstraintGrammar.nought_to_nought (digit n b) d (digit m x)) h =
    let f = next_found n h in
    let g = next_found d f.inside in
    let i = next_found m g.inside in
    (omega (arith, f.start, f.order, g.start, g.order, i.start, i.order), i.inside)
bounds-found (ConstraintGrammar.nought_to_one (digit n b) d (digit m x)) h =
    let f = next_found n h in
    let g = next_found d f.inside in
    let i = next_found m g.inside in
    (omega (arith, f.start, f.order, g.start, g.order, i.start, i.order), i.inside)
bounds-found (ConstraintGrammar.one_to_one (digit n b) d (digit m x)) h =
    let f = next_found n h in
    let g = next_found d f.inside in
    let i = next_found m g.inside in
    (omega (arith, f.start, f.order, g.start, g.order, i.start, i.order), i.inside)

existence-found : {s : List ℕ} {from e p : ℕ} → DerivesExistence s from e p → from ≤ length s
    → (from ≤ p) × (p ≤ length s)
existence-found unwritten h = (omega arith, h)
existence-found (written x o d z) h =
    let f = next_found x h in
    let g = open_found o f.inside in
    let i = bounds-found d g.1 in
    let j = next_found z i.1 in
    (omega (arith, f.start, f.order, g.0, i.0, j.start, j.order), j.inside)

code-found : {s : List ℕ} {from p : ℕ} {k : List ℕ} → DerivesCode s from k p → from ≤ length s → p ≤ length s
code-found uncoded h = h
code-found (coded n l) h = (next_found n h).inside

-- a value that is read, with the place behind it
record ValueGot (s : List ℕ) (levels : ℕ) (c from : ℕ) (v : Value) (p : ℕ) : Type 0 where
  is : value s levels c from ≡ got v p
  low : from ≤ p
  high : p ≤ length s

-- a leaf starts with no `*` and no TYPE
leaf_refused : (s : List ℕ) (number from k : ℕ) → (content_token_at s from).sort ≡ k
    → (eqb k true_word || eqb k false_word) ≡ false
    → (eqb k integer || eqb k bar) ≡ false
    → eqb k string ≡ false
    → within 31 35 k ≡ false
    → within 41 44 k ≡ false
    → within 101 227 k ≡ false
    → Told.leaf s number from ≡ refuse (syntax_cause (content_token_at s from)) (content_token_at s from).start
leaf_refused s number from k e a b c d f g =
    let x : (eqb (content_token_at s from).sort true_word || eqb (content_token_at s from).sort false_word) ≡ false = ap (λ z. eqb z true_word || eqb z false_word) e ∙ a in
    let y : (eqb (content_token_at s from).sort integer || eqb (content_token_at s from).sort bar) ≡ false = ap (λ z. eqb z integer || eqb z bar) e ∙ b in
    let u : eqb (content_token_at s from).sort string ≡ false = other e string ∙ c in
    let v : within 31 35 (content_token_at s from).sort ≡ false = ap (within 31 35) e ∙ d in
    let w : within 41 44 (content_token_at s from).sort ≡ false = ap (within 41 44) e ∙ f in
    let i : within 101 227 (content_token_at s from).sort ≡ false = ap (within 101 227) e ∙ g in
    rw (leaf_is s number from, x, y, u, v, w, i)

refused_got : {A : Type 0} {x : Refusal} {a : A} {p : ℕ} → refused x ≡ got a p → ⊥
refused_got {A} {x} {a} {p} e = let z : ◌≡◌ {A = ℕ} 0 1 = cc in omega arith

leaf-start : (s : List ℕ) (number from : ℕ) (l : Leaf) (p : ℕ) → Told.leaf s number from ≡ got l p
    → (eqb (content_token_at s from).sort star ≡ false) × (eqb (content_token_at s from).sort type_name ≡ false)
leaf-start s number from l p e = (
  ne_eqb _ _ (λ k. refused_got (sym (leaf_refused s number from star k refl refl refl refl refl refl) ∙ e)),
  ne_eqb _ _ (λ k. refused_got (sym (leaf_refused s number from type_name k refl refl refl refl refl refl) ∙ e)),
)

star-value : (s : List ℕ) (levels : ℕ) (c from : ℕ) (t : Token) → NextToken s from star t → from ≤ length s
    → ValueGot s levels c from any t.end
star-value s levels c from t (next n e) h =
    let f = next_found (next n e) h in
    record { is = rw (value_is s levels c from, content_read (next n e) (λ k. omega arith), other e star); low = omega (arith, f.start, f.order); high = f.inside }

leaf-value : (s : List ℕ) (levels : ℕ) (c from : ℕ) (l : Leaf) (p : ℕ) → Told.leaf s c from ≡ got l p → from ≤ length s
    → ValueGot s levels c from (leaf l) p
unfolding Holds
leaf-value s levels c from l p e h =
    let x = leaf-start s c from l p e in
    let y : LeafRead s c from l p = rw e at (leaf_holds s c from h) in
    record { is = rw (value_is s levels c from, x.0, x.1, e); low = omega (arith, y.least); high = y.most }

-- an object starts with a TYPE and no pattern: a code or `matches` follows
no_brace : {s : List ℕ} {from p : ℕ} {k : List ℕ} {b : Token} → DerivesCode s from k p → Opens s p b
    → (token_at s from).sort ≢ close_brace
no_brace uncoded (opens m n) e = let f = sort_read m in omega arith
no_brace (coded m l) o e = let f = sort_read m in omega arith

object_starts : {s : List ℕ} {c from p : ℕ} {o : Object} → DerivesObject s c from o p
    → (content_token_at s from).sort ≡ type_name
object_starts {s} {from = from} (an_object (next n e) f d o b m) =
    let r = token_read n in
    rw (content_same s from (λ k. rw r (no_brace d o)), r) e

nested_value : (s : List ℕ) (levels : ℕ) (c from : ℕ) (o : Object) (p : ℕ) → (content_token_at s from).sort ≡ type_name
    → object_from s levels c from ≡ got o p → from ≤ length s
    → ValueGot s levels c from (nested o) p
unfolding Holds
nested_value s levels c from o p t e h =
    let y : ObjectRead s c from o p = rw e at (object_holds s levels c from h) in
    record { is = rw (value_is s levels c from, other t star, other t type_name, e); low = omega (arith, y.least); high = y.most }

-- an attribute that is read, with the place behind it
record AttributeGot (s : List ℕ) (levels : ℕ) (seen : List (List ℕ)) (c from : ℕ) (a : AttributeHead) (v : Value)
    (p : ℕ) : Type 0 where
  is : attribute_from s levels seen c from ≡ got (record { existence = a.existence; name = a.name; value = v }) p
  number : c ≡ a.number
  low : from < p
  high : p ≤ length s

attribute_got : (s : List ℕ) (levels : ℕ) (seen : List (List ℕ)) (c from : ℕ) (a : AttributeHead) (v : Value) (p : ℕ)
    → DerivesAttribute s c from a v p
    → ¬ Memᴰ a.name seen
    → from ≤ length s
    → ((d f q : ℕ) (z : Token) → DerivesValue s d f v q → NextToken s q close_brace z → f ≤ length s
    → ValueGot s levels d f v q)
    → AttributeGot s levels seen c from a v p
attribute_got s levels seen c from a v p (an_attribute {p = q} {q = r} {t = t} {b = b} {z = z} n f d o x y) m h go =
    let i = next_found n h in
    let j = existence-found d i.inside in
    let k = open_found o j.1 in
    let u = go (c + 1) b.end r z x y k.1 in
    let g = next_found y u.high in
    let l : t.start < t.end = named n h in
    record {
      is = rw (attribute_is s levels seen c from, name_got s seen c from t n f m, existence_got d o, opening_got o, u.is, expect_got y);
      number = refl;
      low = omega (arith, i.start, j.0, k.0, u.low, g.start, g.order);
      high = g.inside;
    }
  where
    named : {t : Token} → NextToken s from name t → from ≤ length s → t.start < t.end
    named {t} (next n a) b = strict_of name (lit< tt) t s from (next_found (next n a) b) a

-- attributes: the last one, and one with more behind it
last_got : (s : List ℕ) (levels fuel : ℕ) (seen : List (List ℕ)) (c from : ℕ) (a : AttributeHead) (v : Value) (p : ℕ)
    (z : Token)
    → AttributeGot s levels seen c from a v p
    → NextToken s p close_brace z
    → attributes s levels (suc fuel) seen c from ≡ got (attribute a v no_more) z.end
last_got s levels fuel seen c from a v p z g (next n x) =
    rw (attributes_is s levels fuel seen c from, g.is, token_read n, other x close_brace)
    (λ i. got (attribute (record { number = g.number i; existence = a.existence; name = a.name }) v no_more) z.end)

more_got : (s : List ℕ) (levels fuel : ℕ) (seen : List (List ℕ)) (c from : ℕ) (a : AttributeHead) (v : Value) (p q : ℕ)
    (xs : Attributes)
    → AttributeGot s levels seen c from a v p
    → (token_at s p).sort ≡ name
    → attributes s levels fuel (a.name ∷ seen) (behind_attribute c v) p ≡ got xs q
    → attributes s levels (suc fuel) seen c from ≡ got (attribute a v xs) q
more_got s levels fuel seen c from a v p q xs g n k = rw (attributes_is s levels fuel seen c from, g.is, other n close_brace, k) (λ i. got (attribute (record { number = g.number i; existence = a.existence; name = a.name }) v xs) q)

attribute_starts : {s : List ℕ} {c from p : ℕ} {a : AttributeHead} {v : Value} → DerivesAttribute s c from a v p
    → (token_at s from).sort ≡ name
attribute_starts (an_attribute n f d o x y) = sort_read n

starts_name : {s : List ℕ} {c from p : ℕ} {xs : Attributes} → DerivesAttributes s c from xs p
    → (token_at s from).sort ≡ name
starts_name (last_one d) = attribute_starts d
starts_name (one_more d ds) = attribute_starts d

no_attribute : {s : List ℕ} {c from p : ℕ} → ¬ DerivesAttributes s c from no_more p
no_attribute = elim [ ]

-- what stands between an object's braces, given its attributes
body_got : (s : List ℕ) (levels : ℕ) (c from : ℕ) (xs : Attributes) (p : ℕ)
    → DerivesBody s c from xs p
    → ((q : ℕ) (z : Token) → DerivesAttributes s c from xs q → NextToken s q close_brace z
    → attributes s levels (length s + 1) [] c from ≡ got xs z.end)
    → body s levels c from ≡ got xs p
body_got s levels c from xs p (any_members (next n e) z) go = rw (token_read n, other e star, expect_got z)
body_got s levels c from xs p (ConstraintGrammar.members {p = q} {z = z} ds n) go = rw (other (starts_name ds) star) (go q z ds n)

by_got : (s : List ℕ) (levels : ℕ) (c from p q : ℕ) (t b : Token) (k : List ℕ) (xs : Attributes)
    → NextToken s from type_name t
    → WithinLimit c (spelling s t)
    → DerivesCode s t.end k p
    → Opens s p b
    → body s levels (c + 1) b.end ≡ got xs q
    → object_from s (suc levels) c from ≡ got (object (record { number = c; type = spelling s t; code = k }) xs) q
by_got s levels c from p q t b k xs n f d o h = rw (object_is s levels c from, type_got s levels c from t n f, code_got d o, opening_got o, h)

module _ (s : List ℕ) where
  mutual
    unfolding object_levels attribute_names

    object_got : (o : Object) (c from p : ℕ) → DerivesObject s c from o p → (levels : ℕ)
        → object_levels o ≤ levels → from ≤ length s → object_from s levels c from ≡ got o p
    object_got (object m xs) c from p d zero l h = absurd (omega arith)
    object_got (object m xs) c from p (an_object {p = q} {t = t} {b = b} {k = k} n f d o y u) (suc levels) l h =
        let g = open_found o (code-found d (next_found n h).inside) in
        by_got s levels c from q p t b k xs n f d o
        (body_got s levels (c + 1) b.end xs p y (λ r z ds w. attributes_got xs (c + 1) b.end r ds levels (length s + 1) [] z w u (omega arith) g.1 (omega arith)))

    attributes_got : (xs : Attributes) (c from p : ℕ) → DerivesAttributes s c from xs p
        → (levels fuel : ℕ) (seen : List (List ℕ)) (z : Token)
        → NextToken s p close_brace z
        → Distinct seen (attribute_names xs)
        → attribute_levels xs ≤ levels
        → from ≤ length s
        → length s < from + fuel
        → attributes s levels fuel seen c from ≡ got xs z.end
    attributes_got no_more c from p d levels fuel seen z n u l h k = absurd (no_attribute d)
    attributes_got (attribute b v more) c from p d levels zero seen z n u l h k = absurd (omega arith)
    attributes_got (attribute b v more) c from p (last_one d) levels (suc fuel) seen z n u l h k =
        let a = attribute_got s levels seen c from b v p d (head_new u) h (λ x f q g y j i. value_got v x f q y levels g j (omega arith) i) in
        last_got s levels fuel seen c from b v p z a n
    attributes_got (attribute b v more) c from p (one_more {p = q} d ds) levels (suc fuel) seen z n u l h k =
        let a = attribute_got s levels seen c from b v q d (head_new u) h (λ x f r g y j i. value_got v x f r y levels g j (omega arith) i) in
        more_got s levels fuel seen c from b v q z.end more a (starts_name ds)
        (attributes_got more (behind_attribute c v) q p ds levels fuel (b.name ∷ seen) z n (tail_new u) (omega arith) a.high (omega (arith, a.low)))

    value_got : (v : Value) (c from p : ℕ) → DerivesValue s c from v p → (levels : ℕ) (z : Token)
        → NextToken s p close_brace z → value_levels v ≤ levels → from ≤ length s → ValueGot s levels c from v p
    value_got any c from p (anything {t = t} n) levels z w l h = star-value s levels c from t n h
    value_got (nested o) c from p (one_object d) levels z w l h = nested_value s levels c from o p (object_starts d) (object_got o c from p d levels l h) h
    value_got (leaf x) c from p (one_leaf d) levels z w l h = leaf-value s levels c from x p (leaf_got s c from x p z d w) h

text_got : (s : List ℕ) (o : Object) → DerivesConstraint s o → (p : ℕ) × (constraint_of s ≡ got o p)
text_got s o (whole_text {p = p} {e = e} l d n k) = (e.end, rw (constraint_is s, le-ltb text_limit (length s) l, object_got s o 1 0 p d level_limit k (omega arith), expect_got n))

-- a constraint text is read to a tree exactly where the grammar derives it
pub read_derives : (s : List ℕ) (o : Object) → ((p : ℕ) × (constraint_of s ≡ got o p)) ↔ DerivesConstraint s o
read_derives s o = (λ h. given (Derived s) (constraint_of s) o h.0 (text_gives s) h.1, λ h. text_got s o h)

-- a text derives at most one tree
pub one_tree : (s : List ℕ) (a b : Object) → DerivesConstraint s a → DerivesConstraint s b → a ≡ b
one_tree s a b h k =
    let x = (text_got s a h).1 in
    let y = (text_got s b k).1 in
    cc
