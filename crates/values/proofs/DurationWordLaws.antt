-- A word is read as a duration exactly where the rule says so. Assumes nothing.
use mathlib.Core.Path.{◌≡◌, refl, sym, subst}
use mathlib.Core.Logic.{◌↔◌}
use Rattle.std.specs.Prelude.{Some}
use mathlib.Core.List.{List, [], ◌∷◌}
use Prim.Native.Nat.{ℕ}
use lib.Dec.{eqb}
use borrow.Author.Tests.{eqb-true, eqb-false, ne_eqb}
use Rattle.lexis.specs.Text.{byte}
use Rattle.lexis.specs.Durations.{digit_slot, slots_of}
use Rattle.lexis.specs.DurationRules.{SlotsBehindP, DigitsAndLetter}
use Rattle.lexis.specs.DurationRules
use Rattle.lexis.proofs.Cases.{by_cond}
use Rattle.lexis.proofs.SlotLaws.{slots_some}
use Rattle.lexis.proofs.DurationLaws.{word_slots_are}
use Rattle.values.specs.Durations.{slots_if, duration_of}
use Rattle.values.specs.WordRules.{IsDuration}
use Rattle.values.specs.WordRules
use Rattle.values.proofs.Common.{Each, none_each, some_each}

-- slots, if there are any
slots_by : (P : ℕ → Type 0) (w : List ℕ) → ((f : ℕ) → SlotsBehindP DigitsAndLetter w f → P f)
    → Each P (slots_if (slots_of digit_slot w))
slots_by P w g =
    by_cond (Each P) (eqb (slots_of digit_slot w) 0)
    (λ e. none_each P)
    (λ e. some_each P (slots_of digit_slot w) (g _ ((word_slots_are w _ (eqb-false _ 0 e)).0 refl)))

duration_by : (w : List ℕ) → Each (IsDuration w) (duration_of w)
unfolding duration_of
duration_by [] = slots_by (IsDuration []) [] (λ f h. WordRules.unsigned h)
duration_by (b ∷ w) =
    by_cond (λ (v : List ℕ). Each (IsDuration (b ∷ w)) (slots_if (slots_of digit_slot v))) (eqb b (byte "-"))
    (λ e. slots_by (IsDuration (b ∷ w)) w (λ f h. subst (λ (c : ℕ). IsDuration (c ∷ w) f) (sym (eqb-true b (byte "-") e)) (WordRules.signed h)))
    (λ e. slots_by (IsDuration (b ∷ w)) (b ∷ w) (λ f h. WordRules.unsigned h))

slots_of_lem : {w : List ℕ} {f : ℕ} → SlotsBehindP DigitsAndLetter w f → slots_if (slots_of digit_slot w) ≡ Some f
slots_of_lem {w} {f} h = let n = slots_some h in rw ((word_slots_are w f n).1 h, ne_eqb f 0 n) refl

duration_of_lem : {w : List ℕ} {f : ℕ} → IsDuration w f → duration_of w ≡ Some f
unfolding duration_of
duration_of_lem (WordRules.unsigned (DurationRules.dates k n)) = slots_of_lem (DurationRules.dates k n)
duration_of_lem (WordRules.unsigned (DurationRules.times k l n)) = slots_of_lem (DurationRules.times k l n)
duration_of_lem (WordRules.signed h) = slots_of_lem h

pub duration_word : (w : List ℕ) (f : ℕ) → (duration_of w ≡ Some f) ↔ IsDuration w f
duration_word w f = (duration_by w f, duration_of_lem)
