-- The loop of `patterns::fits_duration`. Assumes nothing.
use Rattle.std.proofs.Common.{◌≡◌, ◌-◌}
use Rattle.values.specs.Patterns.{slots_fit, fits_duration}
use Rattle.values.proofs.patterns.fits_duration.Given as goal

abbrev pub invariant-loop : goal.invariant-loop
invariant-loop l = slots_fit (7 - l.counter) l.p l.f ≡ fits_duration l.pattern l.filled
