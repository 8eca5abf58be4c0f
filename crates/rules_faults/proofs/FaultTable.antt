-- Texts with several faults, all of which are listed, each by its number and place. Assumes nothing.
use mathlib.Core.Path.{◌≡◌, refl}
use mathlib.Core.List.{List, [], ◌∷◌, ◌++◌}
use Prim.Native.Nat.{ℕ}
use lib.ListN.{replicate}
use Rattle.lexis.specs.Text.{bytes}
use Rattle.refusals.specs.Limits.{level_limit}
use Rattle.refusals.specs.declared.Refusal.{Refusal}
use Rattle.refusals.specs.Refusals.{number_of}
use Rattle.dadl.proofs.Computes.{data_computes}
use Rattle.rules_faults.specs.DataFaults.{faults}

-- numbers and places
abbrev pub told : List Refusal → List ℕ
told [] = []
told (x ∷ xs) = number_of x.cause ∷ x.place ∷ told xs

-- so many blocks, one in the other, around a text
abbrev around : List (List ℕ) → List ℕ → List ℕ
around [] s = s
around (x ∷ xs) s = (bytes "<a=" ++ around xs s) ++ bytes ">"

-- past bad words and names that stood before, up to the text's end
pub past_faults : told (faults level_limit (bytes "<a=<_x> a=<5> b=<024> a=")) ≡ 5 ∷ 4 ∷ 9 ∷ 8 ∷ 5 ∷ 17 ∷ 9 ∷ 22 ∷ 2 ∷ 24 ∷ []
unfolding data_computes faults
past_faults = refl

-- behind `(`: a run that is no TYPE, a mark, and a string
pub no_type_lem : told (faults level_limit (bytes "(a)<>")) ≡ 2 ∷ 1 ∷ []
unfolding data_computes faults
no_type_lem = refl

pub mark_for_type : told (faults level_limit (bytes "(=)<>")) ≡ 2 ∷ 1 ∷ []
unfolding data_computes faults
mark_for_type = refl

pub string_for_type : told (faults level_limit (bytes "<a=(\"A\")<>>")) ≡ 2 ∷ 4 ∷ []
unfolding data_computes faults
string_for_type = refl

-- a name, a type and a string that are too long, and the name again
pub past_lengths : told (faults level_limit (bytes "<b" ++ replicate 63 0x62 ++ bytes "=(T" ++ replicate 63 0x54 ++ bytes ")<> b" ++ replicate 63 0x62 ++ bytes "=<\"" ++ replicate 256 0x20 ++ bytes "\">>")) ≡ 4 ∷ 1 ∷ 4 ∷ 67 ∷ 4 ∷ 135 ∷ 9 ∷ 135 ∷ 4 ∷ 201 ∷ []
unfolding data_computes faults
past_lengths = refl

-- into the 17th level and the 18th
pub past_levels : told (faults level_limit (around (replicate 18 []) (bytes "<_>"))) ≡ 3 ∷ 48 ∷ 5 ∷ 55 ∷ []
unfolding data_computes faults
past_levels = refl

-- nothing is scanned behind a syntax fault
pub up_to_syntax : told (faults level_limit (bytes "<a=<_x> a <_x>>")) ≡ 5 ∷ 4 ∷ 9 ∷ 8 ∷ 2 ∷ 10 ∷ []
unfolding data_computes faults
up_to_syntax = refl
