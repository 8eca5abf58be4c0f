-- A literal's value is read exactly where the rule gives it: of an integer, and of a date's token, which has all its parts. Assumes nothing.
use mathlib.Core.Path.{◌≡◌, refl, subst}
use mathlib.Core.Logic.{◌↔◌}
use Rattle.std.specs.Prelude.{Option, None, Some, option_map as map}
use mathlib.Core.List.{List}
use Prim.Native.Nat.{ℕ}
use native.Mathlib.Omega.{arith}
use lib.ListN.{length, length-append}
use Rattle.lexis.specs.Tokens.{integer, date}
use Rattle.values.specs.Dates.{date_of}
use Rattle.values.specs.declared.dates.Date.{Date}
use Rattle.cadl_intervals.specs.Intervals.{literal_value}
use Rattle.values.specs.WordRules.{IsDate, fixed}
use Rattle.values.specs.WordRules
use Rattle.rules_grammar.specs.LeafGrammar.{IsLiteral, an_integer, a_full_date}
use Rattle.lexis.proofs.TestLaws.{none_some, some_inj}
use Rattle.values.proofs.DateWordLaws.{date-word}
use Rattle.values.proofs.WordLaws.{integer-word}

-- a date of ten bytes has all its parts
all_parts : {w : List ℕ} {d : Date} → IsDate w d → length w ≡ 10 → d.parts ≡ 3
all_parts (WordRules.year (fixed h _) i) l = absurd (omega arith)
all_parts (WordRules.month (fixed h _) (fixed k _) i) l = absurd (omega (arith, simp length-append at l))
all_parts (WordRules.day y m d i) l = refl

pub literal_of_lem : {kind v : ℕ} {w : List ℕ} → IsLiteral kind w v → literal_value kind w ≡ Some v
literal_of_lem {w = w} (an_integer {v = v} h) = (integer-word w v).1 h
literal_of_lem {w = w} (a_full_date {d = d} h e) = rw ((date-word w d).1 h)

pub integer-literal : (w : List ℕ) (v : ℕ) → (literal_value integer w ≡ Some v) ↔ IsLiteral integer w v
integer-literal w v = (λ e. an_integer ((integer-word w v).0 e), literal_of_lem)

pub date-literal : (w : List ℕ) (v : ℕ) → length w ≡ 10 → (literal_value date w ≡ Some v) ↔ IsLiteral date w v
date-literal w v l = (go (date_of w) refl, literal_of_lem)
  where
    go : (o : Option Date) → date_of w ≡ o → map (λ (d : Date). d.day) o ≡ Some v → IsLiteral date w v
    go None e f = absurd (none_some f)
    go (Some d) e f = let h = (date-word w d).0 e in subst (IsLiteral date w) (some_inj f) (a_full_date h (all_parts h l))
