-- What parsing a part of a text finds: its faults as they are met, and then a value and the place behind it, or a syntax fault, behind which nothing can be read. A text is described
-- once, by such parts. The description is read in two ways: its first fault is what reading tells, and all its faults are a list. Assumes nothing.
use Rattle.std.specs.Prelude.{Bool, true, false, cond, List, [], ◌∷◌, ℕ}
use Rattle.lexis.specs.declared.Token.{Token}
use Rattle.refusals.specs.declared.Cause.{Cause}
use Rattle.refusals.specs.declared.Refusal.{Refusal}
use Rattle.refusals.specs.Refusals.{refusal}
use Rattle.refusals.specs.Reading.{Reading, refused, got}
use Rattle.refusals.specs.Expecting.{syntax_cause, expect}

pub data Parse (A : Type 0) : Type 0 where
  stopped : Refusal → Parse A
  flawed : Refusal → Parse A → Parse A
  parsed : (value : A) (place : ℕ) → Parse A

-- one part after another
abbrev pub and_then : {A B : Type 0} → Parse A → (A → ℕ → Parse B) → Parse B
and_then (stopped x) go = stopped x
and_then (flawed x w) go = flawed x (and_then w go)
and_then (parsed a p) go = go a p

-- the same, where the next part is told whether the first had no fault
abbrev pub soundly : {A B : Type 0} → Parse A → (Bool → A → ℕ → Parse B) → Parse B
soundly (stopped x) go = stopped x
soundly (flawed x w) go = flawed x (and_then w (go false))
soundly (parsed a p) go = go true a p

-- a fault, where the test finds one, and what follows all the same
abbrev pub noting : {A : Type 0} → Bool → Cause → ℕ → Parse A → Parse A
noting fault cause place more = cond fault (flawed (refusal cause place) more) more

-- a syntax fault
abbrev pub syntax : {A : Type 0} → Token → Parse A
syntax t = stopped (refusal (syntax_cause t) t.start)

-- a part in which only syntax faults can stand, as it is read
abbrev pub as_read : {A : Type 0} → Reading A → Parse A
as_read (refused x) = stopped x
as_read (got a p) = parsed a p

-- a token of the sort asked for in a constraint text
abbrev pub wanted : List ℕ → ℕ → ℕ → Parse Token
wanted s sort from = as_read (expect s sort from)

-- what reading tells: the first fault, or the value
abbrev pub first_in : {A : Type 0} → Parse A → Reading A
first_in (stopped x) = refused x
first_in (flawed x w) = refused x
first_in (parsed a p) = got a p

-- all faults
abbrev pub faults_in : {A : Type 0} → Parse A → List Refusal
faults_in (stopped x) = x ∷ []
faults_in (flawed x w) = x ∷ faults_in w
faults_in (parsed a p) = []
