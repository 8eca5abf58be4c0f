-- What holds of a reading: of its refusal a property, of a value, with the place behind it, another. Assumes nothing.
use mathlib.Core.Path.{◌≡◌, refl}
use mathlib.Core.Bool.{Bool, true, false, cond}
use mathlib.Core.Logic.{◌≢◌}
use mathlib.Core.List.{List}
use Prim.Native.Nat.{ℕ, ◌≤◌}
use lib.ListN.{length}
use Rattle.refusals.specs.Reading.{Reading, refused, got, refuse, read_then}
use Rattle.refusals.specs.Refusals.{number_of, refusal}
use Rattle.refusals.specs.declared.Cause.{Cause}
use Rattle.refusals.specs.declared.Refusal.{Refusal}

unfoldable pub Holds : {A : Type 0} → (Refusal → Type 0) → (A → ℕ → Type 0) → Reading A → Type 0
Holds F P (refused r) = F r
Holds F P (got a p) = P a p

-- a constraint text's refusal: its place lies in the text or at its end, and its number is not 10
abbrev pub ConstraintRefusal : List ℕ → Refusal → Type 0
ConstraintRefusal s r = (r.place ≤ length s) × (number_of r.cause ≢ 10)

module _ {A : Type 0} (F : Refusal → Type 0) (P : A → ℕ → Type 0) where
  pub refuse_holds : (cause : Cause) (place : ℕ) → F (refusal cause place) → Holds F P (refuse cause place)
  unfolding Holds
  refuse_holds cause place h = h

  pub got_holds : (a : A) (p : ℕ) → P a p → Holds F P (got a p)
  unfolding Holds
  got_holds a p h = h

  pub cond_holds : (b : Bool) (x y : Reading A) → (b ≡ true → Holds F P x) → (b ≡ false → Holds F P y)
      → Holds F P (cond b x y)
  cond_holds true x y f g = f refl
  cond_holds false x y f g = g refl

  pub then_holds : {B : Type 0} (Q : B → ℕ → Type 0) (r : Reading B) (go : B → ℕ → Reading A) → Holds F Q r
      → ((b : B) (p : ℕ) → Q b p → Holds F P (go b p)) → Holds F P (read_then r go)
  unfolding Holds
  then_holds Q (refused x) go h k = h
  then_holds Q (got b p) go h k = k b p h

-- the place behind a value that was read from a place on: at or behind that place, and behind it
pub record From (low high : ℕ) (p : ℕ) : Type 0 where
  pub least : low ≤ p
  pub most : p ≤ high

-- what follows from a property follows of what was read
pub holds_map : {A : Type 0} (F : Refusal → Type 0) (P Q : A → ℕ → Type 0) (r : Reading A)
    → ((a : A) (p : ℕ) → P a p → Q a p) → Holds F P r → Holds F Q r
unfolding Holds
holds_map F P Q (refused x) f h = h
holds_map F P Q (got a p) f h = f a p h
