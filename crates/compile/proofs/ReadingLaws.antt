-- Objects and attributes by their heads, and what holds of links and of one turn of the attributes. Assumes nothing.
use mathlib.Core.Path.{◌≡◌, refl, sym, ◌∙◌}
use mathlib.Core.Bool.{Bool, true, false, cond}
use mathlib.Core.List.{List, ◌∷◌}
use Prim.Native.Nat.{ℕ, zero, suc, ◌+◌, ◌-◌, ◌≤◌, ◌<◌}
use native.Mathlib.Omega.{arith}
use native.Mathlib.Numerals.{sub-one}
use lib.Dec.{eqb}
use Rattle.lexis.specs.Spelling.{close_brace}
use Rattle.lexis.specs.Tokens.{token_at, type_name, spelling}
use Rattle.lexis.specs.declared.Token.{Token}
use Rattle.refusals.specs.Reading.{Reading, refused, got, refuse, read_then}
use Rattle.refusals.specs.Expecting.{expect}
use Rattle.refusals.specs.declared.Cause.TheVariants.{TooDeep}
use Rattle.refusals.specs.declared.Refusal.{Refusal}
use Rattle.meaning.specs.Constraints.{Object, object, Attributes}
use Rattle.cadl_objects.specs.Existence.{opening, existence_from}
use Rattle.cadl_objects.specs.Objects.{Attribute, past_attribute}
use Rattle.cadl_objects.specs.Objects
use Rattle.cadl_objects.specs.Clauses.Told.{object_type, object_code, attribute_name, value, attribute_from, attributes, object_from}
use Rattle.cadl_objects.specs.Clauses.Answers.{Typed, object_head, NamedAttribute, attribute_head}
use Rattle.cadl_objects.proofs.TreeParts.{go_on, body, type_is, attribute_is, attributes_is, object_is, object_none}
use Rattle.compile_flatten.specs.Flatten.{attributes_link}

-- one reading after another, whichever are joined first
pub then_then : {A B C : Type 0} (r : Reading A) (f : A → ℕ → Reading B) (g : B → ℕ → Reading C)
    → read_then (read_then r f) g ≡ read_then r (λ a p. read_then (f a p) g)
then_then (refused x) f g = refl
then_then (got a p) f g = refl

then_same : {A B : Type 0} (r : Reading A) (f g : A → ℕ → Reading B) → ((a : A) (p : ℕ) → f a p ≡ g a p)
    → read_then r f ≡ read_then r g
then_same (refused x) f g h = refl
then_same (got a p) f g h = h a p

-- three readings that make a head, and what is read behind it
by_head : {A B C D E : Type 0} (a : Reading A) (b : A → ℕ → Reading B) (c : ℕ → Reading C) (make : A → B → D)
    (go : D → ℕ → Reading E)
    → read_then a (λ t p. read_then (b t p) (λ k q. read_then (c q) (λ u r. go (make t k) r)))
    ≡ read_then (read_then a (λ t p. read_then (b t p) (λ k q. read_then (c q) (λ u r. got (make t k) r)))) go
by_head a b c make go =
    sym (then_then a (λ t p. read_then (b t p) (λ k q. read_then (c q) (λ u r. got (make t k) r))) go
    ∙ then_same a _ _ (λ t p. then_then (b t p) (λ k q. read_then (c q) (λ u r. got (make t k) r)) go
    ∙ then_same (b t p) _ _ (λ k q. then_then (c q) (λ u r. got (make t k) r) go)))

-- an object behind its head
abbrev pub behind_head : List ℕ → ℕ → ℕ → Typed → ℕ → Reading Object
behind_head s levels n h r = read_then (body s levels (n + 1) r) (λ xs x. got (object (record { number = n; type = h.type; code = h.code }) xs) x)

-- a TYPE, a code and `matches {`, and what is read behind them
head_by : (s : List ℕ) (levels n from : ℕ) (go : Typed → ℕ → Reading Object)
    → read_then (object_type s levels n from)
    (λ t p. read_then (object_code s p)
    (λ k q. read_then (opening s q) (λ u r. go (record { type = spelling s t; code = k }) r)))
    ≡ read_then (object_head s levels n from) go
unfolding object_head
head_by s levels n from go = by_head (object_type s levels n from) (λ t p. object_code s p) (opening s) (λ t k. record { type = spelling s t; code = k }) go

object_by_lem : (s : List ℕ) (levels n from : ℕ)
    → object_from s (suc levels) n from ≡ read_then (object_head s (suc levels) n from) (behind_head s levels n)
object_by_lem s levels n from = object_is s levels n from ∙ head_by s (suc levels) n from (behind_head s levels n)

-- where no level is left no head is read
headless : (s : List ℕ) (n from : ℕ) (h : Typed) (p : ℕ) → object_head s zero n from ≡ got h p → ⊥
unfolding object_head
headless s n from h p e = by (expect s type_name from) (rw (type_is s zero n from) at e)
  where
    by : (r : Reading Token)
        → read_then (read_then r (λ t q. refuse {A = Token} TooDeep t.start))
        (λ t q. read_then (object_code s q)
        (λ k x. read_then (opening s x) (λ u y. got (record { type = spelling s t; code = k }) y))) ≡ got h p
        → ⊥
    by (refused x) g = let z : ◌≡◌ {A = ℕ} 0 1 = cc in omega arith
    by (got t q) g = let z : ◌≡◌ {A = ℕ} 0 1 = cc in omega arith

pub object_refused : (s : List ℕ) (levels : ℕ) (n from : ℕ) (x : Refusal) → object_head s levels n from ≡ refused x
    → object_from s levels n from ≡ refused x
object_refused s zero n from x e = object_none s n from _ ∙ (head_by s zero n from (λ h r. refuse TooDeep r) ∙ rw e)
object_refused s (suc levels) n from x e = object_by_lem s levels n from ∙ rw e

pub object_levels_lem : (s : List ℕ) (levels : ℕ) (n from : ℕ) (h : Typed) (p : ℕ) → object_head s levels n from ≡ got h p
    → 1 ≤ levels
object_levels_lem s zero n from h p e = absurd (headless s n from h p e)
object_levels_lem s (suc levels) n from h p e = omega arith

pub object_got : (s : List ℕ) (levels : ℕ) (n from : ℕ) (h : Typed) (p : ℕ) → object_head s levels n from ≡ got h p
    → object_from s levels n from ≡ behind_head s (levels - 1) n h p
object_got s zero n from h p e = absurd (headless s n from h p e)
object_got s (suc levels) n from h p e = object_by_lem s levels n from ∙ rw (e, sub-one)

-- an attribute behind its head
abbrev pub behind_name : List ℕ → ℕ → ℕ → NamedAttribute → ℕ → Reading Attribute
behind_name s levels n h r =
    read_then (value s levels (n + 1) r) (λ v x.
    read_then (expect s close_brace x) (λ w y.
    got (record { existence = h.existence; name = h.name; value = v }) y))

pub attribute_by : (s : List ℕ) (levels : ℕ) (seen : List (List ℕ)) (n from : ℕ)
    → attribute_from s levels seen n from ≡ read_then (attribute_head s seen n from) (behind_name s levels n)
unfolding attribute_head
attribute_by s levels seen n from =
    attribute_is s levels seen n from
    ∙ by_head (attribute_name s seen n from) (λ t p. existence_from s p) (opening s) (λ t e. record { name = spelling s t; existence = e }) (behind_name s levels n)

-- attributes that are read begin with the number given
abbrev pub Linked : ℕ → Reading Attributes → Type 0
Linked n (refused x) = Unit {0}
Linked n (got xs p) = attributes_link xs ≡ n

linked_then : {A : Type 0} (n : ℕ) (r : Reading A) (go : A → ℕ → Reading Attributes)
    → ((a : A) (p : ℕ) → Linked n (go a p)) → Linked n (read_then r go)
linked_then n (refused x) go h = tt
linked_then n (got a p) go h = h a p

linked_cond : (n : ℕ) (b : Bool) (x y : Reading Attributes) → Linked n x → Linked n y → Linked n (cond b x y)
linked_cond n true x y h k = h
linked_cond n false x y h k = k

pub linked : (s : List ℕ) (levels fuel : ℕ) (seen : List (List ℕ)) (n from : ℕ)
    → Linked n (attributes s levels fuel seen n from)
unfolding attributes Objects.attributes
linked s levels zero seen n from = tt
linked s levels (suc fuel) seen n from =
    rw (attributes_is s levels fuel seen n from) (linked_then n (attribute_from s levels seen n from) _ (λ a p.
    linked_cond n (eqb (token_at s p).sort close_brace) _ _ refl
    (linked_then n (attributes s levels fuel (a.name ∷ seen) (past_attribute n a) p) _ (λ xs q. refl))))

-- one turn of the attributes
pub turn : (s : List ℕ) (levels fuel : ℕ) (seen : List (List ℕ)) (n from : ℕ) → 0 < fuel
    → attributes s levels fuel seen n from
    ≡ read_then (attribute_from s levels seen n from)
    (λ a p. go_on s n a (attributes s levels (fuel - 1) (a.name ∷ seen) (past_attribute n a)) p)
turn s levels zero seen n from z = absurd (omega arith)
turn s levels (suc fuel) seen n from z = rw sub-one (attributes_is s levels fuel seen n from)
