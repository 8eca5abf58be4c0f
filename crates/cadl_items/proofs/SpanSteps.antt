-- What a step of the search for a repeated span shows. Assumes nothing.
use mathlib.Core.Path.{◌≡◌, ◌∙◌}
use mathlib.Core.Bool.{Bool, true, false, ◌||◌}
use mathlib.Core.List.{List}
use Prim.Native.Nat.{ℕ, suc, ◌+◌, ◌-◌, ◌≤◌, ◌<◌}
use native.Mathlib.Omega.{arith}
use lib.ListN.{length}
use Rattle.lexis.specs.Runs.{byte_at, same, listed}
use Rattle.lexis.proofs.Comparing.{InBytes, bytes_end, bytes_differ}
use Rattle.lexis.proofs.RunSteps.{same_long}
use Rattle.cadl_items.specs.Clauses.Spans.{span_at, latest, earlier, SpansIn}

-- at the spans before n of the search for a name
pub record InNames (s spans : List ℕ) (first end : ℕ) (name : List ℕ) (n : ℕ) (again : Bool) : Type 0 where
  pub most : n ≤ end
  pub good : SpansIn s spans first end
  pub not_yet : again ≡ false
  pub is : listed name (latest (span_at s spans) first (n - first)) ≡ listed name (earlier s spans first end)

module _ (s spans : List ℕ) (first end : ℕ) (name : List ℕ) (n : ℕ) (again : Bool)
    (inv : InNames s spans first end name n again) where
  pub names_end : n ≤ first → again ≡ listed name (earlier s spans first end)
  unfolding latest listed
  names_end l = let e : n - first ≡ 0 = omega arith in inv.not_yet ∙ rw e at inv.is

  module _ (l : first < n) (other : List ℕ) (eo : other ≡ span_at s spans (n - 1)) where
    -- the span's bytes, and those before it
    at_span : (same name other || listed name (latest (span_at s spans) first (n - 1 - first))) ≡ listed name
        (earlier s spans first end)
    unfolding latest listed
    at_span =
        let a : n - first ≡ suc (n - 1 - first) = omega arith in
        let b : first + (n - 1 - first) ≡ n - 1 = omega arith in
        rw eo (rw (a, b) at inv.is)

    pub bytes_found : (i : ℕ) (r : Bool) → InBytes name other i r → i ≡ length name
        → true ≡ listed name (earlier s spans first end)
    bytes_found i r b e = rw (← (bytes_end name other i r b e)) at at_span

    names_next : (r : Bool) → r ≡ false → false ≡ same name other → InNames s spans first end name (n - 1) r
    names_next r k h = let m = inv.most in record { most = omega arith; good = inv.good; not_yet = k; is = rw (← h) at at_span }

    pub longer_next : (length name ≡ length other → ⊥) → InNames s spans first end name (n - 1) again
    longer_next k = names_next again inv.not_yet (same_long name other k)

    pub bytes_next : (i : ℕ) (r : Bool) → InBytes name other i r → (i ≡ length name → ⊥)
        → (byte_at name i ≡ byte_at other i → ⊥)
        → InNames s spans first end name (n - 1) r
    bytes_next i r b k d = names_next r b.not_yet (bytes_differ name other i r b k d)
