-- What holds of a value that a reading gives, with the place behind it. Assumes nothing.
use mathlib.Core.Path.{◌≡◌, refl}
use mathlib.Core.Bool.{Bool, true, false, cond}
use Prim.Native.Nat.{ℕ}
use Rattle.refusals.specs.Reading.{Reading, refused, got, refuse, read_then, read_unless}
use Rattle.refusals.specs.declared.Cause.{Cause}

unfoldable pub Gives : {A : Type 0} → (A → ℕ → Type 0) → Reading A → Type 0
Gives P (refused r) = Unit {0}
Gives P (got a p) = P a p

module _ {A : Type 0} (P : A → ℕ → Type 0) where
  pub got_gives : (a : A) (p : ℕ) → P a p → Gives P (got a p)
  unfolding Gives
  got_gives a p h = h

  pub refuse_gives : (cause : Cause) (place : ℕ) → Gives P (refuse cause place)
  unfolding Gives
  refuse_gives cause place = tt

  pub cond_gives : (b : Bool) (x y : Reading A) → (b ≡ true → Gives P x) → (b ≡ false → Gives P y)
      → Gives P (cond b x y)
  cond_gives true x y f g = f refl
  cond_gives false x y f g = g refl

  pub unless_gives : (fault : Bool) (cause : Cause) (place : ℕ) (more : Reading A) → (fault ≡ false → Gives P more)
      → Gives P (read_unless fault cause place more)
  unfolding Gives
  unless_gives true cause place more k = tt
  unless_gives false cause place more k = k refl

  pub then_gives : {B : Type 0} (Q : B → ℕ → Type 0) (r : Reading B) (go : B → ℕ → Reading A) → Gives Q r
      → ((b : B) (p : ℕ) → Q b p → Gives P (go b p)) → Gives P (read_then r go)
  unfolding Gives
  then_gives Q (refused x) go h k = tt
  then_gives Q (got b p) go h k = k b p h

  -- what holds of what a reading gives holds of a value that it is
  pub given : (r : Reading A) (a : A) (p : ℕ) → Gives P r → r ≡ got a p → P a p
  unfolding Gives
  given r a p h e = rw e at h

-- what follows of a value that is given
pub gives_map : {A : Type 0} (P Q : A → ℕ → Type 0) (r : Reading A) → ((a : A) (p : ℕ) → P a p → Q a p) → Gives P r
    → Gives Q r
unfolding Gives
gives_map P Q (refused x) f h = tt
gives_map P Q (got a p) f h = f a p h
