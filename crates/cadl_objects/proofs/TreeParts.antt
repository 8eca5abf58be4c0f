-- What reading tells of objects and attributes, by their parts. Assumes nothing.
use mathlib.Core.Path.{◌≡◌, refl, sym, ap, ◌∙◌}
use mathlib.Core.Bool.{cond}
use mathlib.Core.List.{List, [], ◌∷◌}
use Prim.Native.Nat.{ℕ, zero, suc, ◌+◌}
use lib.Dec.{eqb, ltb}
use lib.ListN.{length}
use Rattle.lexis.specs.Runs.{listed}
use Rattle.lexis.specs.Spelling.{close_brace, star}
use Rattle.lexis.specs.Tokens.{token_at, content_token_at, text_end, type_name, name, code, spelling, inner}
use Rattle.refusals.specs.Limits.{text_limit, level_limit, record_limit, name_limit, code_limit}
use Rattle.refusals.specs.declared.Cause.TheVariants.{TextTooLong, TooDeep, TooLong, TooManyRecords, RepeatedName}
use Rattle.lexis.specs.declared.Token.{Token}
use Rattle.refusals.specs.Reading.{Reading, refused, got, refuse, read_then, read_unless}
use Rattle.refusals.specs.Expecting.{expect}
use Rattle.refusals.specs.Parsing.{as_read, wanted}
use Rattle.refusals.proofs.Parses.{first_then, told_cond, told_noting, told_read, told_then}
use Rattle.meaning.specs.Constraints.{Object, object, Attributes, no_more, attribute, any, nested, leaf}
use Rattle.cadl_items.specs.Leaves
use Rattle.cadl_items.specs.Clauses.Told
use Rattle.cadl_objects.specs.Existence.{opening, existence_from}
use Rattle.cadl_objects.specs.Objects.{Attribute, past_attribute, head_of}
use Rattle.cadl_objects.specs.Objects
use Rattle.cadl_objects.specs.Texts.{object_alone, constraint_text, constraint_of}
use Rattle.cadl_objects.specs.Clauses.Told.{object_type, object_code, attribute_name, value, attribute_from, attributes, object_from}

-- behind an attribute
abbrev pub go_on : List ℕ → ℕ → Attribute → (ℕ → Reading Attributes) → ℕ → Reading Attributes
go_on s next a more p =
    cond (eqb (token_at s p).sort close_brace) (got (attribute (head_of next a) a.value no_more) (token_at s p).end)
    (read_then (more p) (λ xs q. got (attribute (head_of next a) a.value xs) q))

-- what stands between an object's braces, and the `}`
abbrev pub body : List ℕ → ℕ → ℕ → ℕ → Reading Attributes
body s levels next from =
    cond (eqb (token_at s from).sort star) (read_then (expect s close_brace (token_at s from).end) (λ u p. got no_more p)) (attributes s levels (length s + 1) [] next from)

module _ (s : List ℕ) where
  pub type_is : (levels next from : ℕ) → object_type s levels next from
      ≡ read_then (expect s type_name from) (λ t p.
      read_unless (eqb levels 0) TooDeep t.start
      (read_unless (ltb name_limit (length (spelling s t))) TooLong t.start
      (read_unless (eqb next record_limit) TooManyRecords t.start (got t p))))
  unfolding object_type Objects.object_type
  type_is levels next from =
      told_then (wanted s type_name from) _ _ _ (told_read (expect s type_name from)) (λ t p.
      told_noting (eqb levels 0) TooDeep t.start _ _ (told_noting (ltb name_limit (length (spelling s t))) TooLong t.start _ _
      (told_noting (eqb next record_limit) TooManyRecords t.start _ _ refl)))

  pub code_is : (from : ℕ) → object_code s from
      ≡ cond (eqb (token_at s from).sort code)
      (read_unless (ltb code_limit (length (inner s (token_at s from)))) TooLong (token_at s from).start
      (got (inner s (token_at s from)) (token_at s from).end))
      (got [] from)
  unfolding object_code Objects.object_code
  code_is from = let t = token_at s from in told_cond (eqb t.sort code) _ _ _ _ (told_noting (ltb code_limit (length (inner s t))) TooLong t.start _ _ refl) refl

  pub name_is_lem : (seen : List (List ℕ)) (next from : ℕ) → attribute_name s seen next from
      ≡ read_then (expect s name from) (λ t p.
      read_unless (ltb name_limit (length (spelling s t))) TooLong t.start
      (read_unless (eqb next record_limit) TooManyRecords t.start
      (read_unless (listed (spelling s t) seen) RepeatedName t.start (got t p))))
  unfolding attribute_name Objects.attribute_name
  name_is_lem seen next from =
      told_then (wanted s name from) _ _ _ (told_read (expect s name from)) (λ t p.
      told_noting (ltb name_limit (length (spelling s t))) TooLong t.start _ _ (told_noting (eqb next record_limit) TooManyRecords t.start _ _
      (told_noting (listed (spelling s t) seen) RepeatedName t.start _ _ refl)))

  pub value_is : (levels next from : ℕ) → value s levels next from
      ≡ cond (eqb (content_token_at s from).sort star) (got any (content_token_at s from).end)
      (cond (eqb (content_token_at s from).sort type_name) (read_then (object_from s levels next from) (λ o p. got (nested o) p))
      (read_then (Told.leaf s next from) (λ l p. got (leaf l) p)))
  unfolding value object_from Told.leaf
  value_is levels next from =
      told_cond (eqb (content_token_at s from).sort star) _ _ _ _ refl
      (told_cond (eqb (content_token_at s from).sort type_name) _ _ _ _ (first_then (Objects.object_from s levels next from) _) (first_then (Leaves.leaf s next from) _))

  pub attribute_is : (levels : ℕ) (seen : List (List ℕ)) (next from : ℕ) → attribute_from s levels seen next from
      ≡ read_then (attribute_name s seen next from) (λ t p.
      read_then (existence_from s p) (λ e q.
      read_then (opening s q) (λ u r.
      read_then (value s levels (next + 1) r) (λ v x.
      read_then (expect s close_brace x) (λ w y.
      got (record { existence = e; name = spelling s t; value = v }) y)))))
  unfolding attribute_from attribute_name value Objects.attribute_from
  attribute_is levels seen next from =
      told_then (Objects.attribute_name s seen next from) _ _ _ refl (λ t p.
      told_then (as_read (existence_from s p)) _ _ _ (told_read (existence_from s p)) (λ e q.
      told_then (as_read (opening s q)) _ _ _ (told_read (opening s q)) (λ u r.
      told_then (Objects.value s (Objects.object_from s levels) (next + 1) r) _ _ _ refl (λ v x.
      told_then (wanted s close_brace x) _ _ _ (told_read (expect s close_brace x)) (λ w y. refl)))))

  pub attributes_is : (levels fuel : ℕ) (seen : List (List ℕ)) (next from : ℕ)
      → attributes s levels (suc fuel) seen next from
      ≡ read_then (attribute_from s levels seen next from)
      (λ a p. go_on s next a (attributes s levels fuel (a.name ∷ seen) (past_attribute next a)) p)
  unfolding attributes attribute_from Objects.attributes
  attributes_is levels fuel seen next from =
      told_then (Objects.attribute_from s (Objects.object_from s levels) seen next from) _ _ _ refl (λ a p.
      told_cond (eqb (token_at s p).sort close_brace) _ _ _ _ refl
      (first_then (Objects.attributes s (Objects.object_from s levels) fuel (a.name ∷ seen) (past_attribute next a) p) _))

  -- an object of levels that are allowed, and one that is too deep
  pub object_is : (levels next from : ℕ) → object_from s (suc levels) next from
      ≡ read_then (object_type s (suc levels) next from) (λ t p.
      read_then (object_code s p) (λ k q.
      read_then (opening s q) (λ u r.
      read_then (body s levels (next + 1) r) (λ xs x.
      got (object (record { number = next; type = spelling s t; code = k }) xs) x))))
  unfolding object_from object_type object_code attributes Objects.object_from
  object_is levels next from =
      told_then (Objects.object_type s (suc levels) next from) _ _ _ refl (λ t p.
      told_then (Objects.object_code s p) _ _ _ refl (λ k q.
      told_then (as_read (opening s q)) _ _ _ (told_read (opening s q)) (λ u r.
      told_then (Objects.body s (Objects.object_from s levels) (next + 1) r) _ _ _
      (told_cond (eqb (token_at s r).sort star) _ _ _ _
      (told_then (wanted s close_brace (token_at s r).end) _ _ _ (told_read (expect s close_brace (token_at s r).end)) (λ z x. refl)) refl) (λ xs x. refl))))

  unread : (r : Reading Token) (f g : Token → ℕ → Reading Object)
      → read_then (read_then r (λ t p. refuse {A = Token} TooDeep t.start)) f
      ≡ read_then (read_then r (λ t p. refuse {A = Token} TooDeep t.start)) g
  unread (refused x) f g = refl
  unread (got t p) f g = refl

  pub object_none : (next from : ℕ) (go : Token → ℕ → Reading Object)
      → object_from s zero next from ≡ read_then (object_type s zero next from) go
  unfolding object_from object_type Objects.object_from
  object_none next from go =
      let e = type_is zero next from in
      told_then (Objects.object_type s zero next from) _ _ _ e (λ t p. refl) ∙ (unread (expect s type_name from) _ go ∙ ap (λ r. read_then r go) (sym e))

-- a constraint text
pub constraint_is : (s : List ℕ) → constraint_of s
    ≡ read_unless (ltb text_limit (length s)) TextTooLong text_limit
    (read_then (object_from s level_limit 1 0) (λ o p. read_then (expect s text_end p) (λ t q. got o q)))
unfolding constraint_of constraint_text object_alone object_from
constraint_is s =
    told_noting (ltb text_limit (length s)) TextTooLong text_limit _ _
    (told_then (Objects.object_from s level_limit 1 0) _ _ _ refl (λ o p. told_then (wanted s text_end p) _ _ _ (told_read (expect s text_end p)) (λ t q. refl)))
