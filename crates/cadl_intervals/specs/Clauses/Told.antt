-- What reading tells of the parts of an interval. Assumes nothing.
use Rattle.std.specs.Prelude.{true, List, ℕ}
use Rattle.lexis.specs.Tokens.{token_at}
use Rattle.refusals.specs.Reading.{Reading, read_then}
use Rattle.refusals.specs.Parsing.{first_in}
use Rattle.cadl_intervals.specs.Intervals.{kind_by, Ends, Interval}
use Rattle.cadl_intervals.specs.Intervals

unfoldable pub literal : List ℕ → ℕ → ℕ → Reading ℕ
literal s kind from = first_in (Intervals.literal s kind from)

unfoldable pub up_to : List ℕ → ℕ → ℕ → ℕ → Reading Ends
up_to s kind low from = first_in (Intervals.up_to s kind low from)

unfoldable pub above : List ℕ → ℕ → ℕ → ℕ → Reading Ends
above s kind a from = first_in (Intervals.above s kind a from)

-- behind an a that was read, and so is possible
unfoldable pub spread : List ℕ → ℕ → ℕ → Reading Ends
spread s a from = first_in (Intervals.spread s true a from)

unfoldable pub from : List ℕ → ℕ → ℕ → ℕ → Reading Ends
from s kind a at = first_in (Intervals.from s true kind a at)

abbrev pub with_literal : List ℕ → ℕ → ℕ → (ℕ → ℕ → ℕ → Reading Ends) → Reading Ends
with_literal s kind at go =
    let k = kind_by kind (token_at s at) in
    read_then (literal s k at) (λ a p. go k a p)

unfoldable pub between : List ℕ → ℕ → ℕ → Reading Ends
between s kind at = first_in (Intervals.between s kind at)

unfoldable pub interval : List ℕ → ℕ → ℕ → Reading Interval
interval s kind at = first_in (Intervals.interval s kind at)
