-- The measures of the functions that call each other, and the loop over attributes. Assumes nothing.
use Prim.Native.Nat.{◌+◌, ◌*◌, ◌-◌}
use lib.ListN.{length}
use Rattle.compile.proofs.AttributesSteps.{InAttributes}
use Rattle.compile.proofs.objects.+read_attribute_read_attributes_read_object_read_value.Given as goal

abbrev pub decreases-read_attribute : goal.decreases-read_attribute
decreases-read_attribute l = 4 * l.levels + 2

abbrev pub decreases-read_attributes : goal.decreases-read_attributes
decreases-read_attributes l = 4 * l.levels + 3

abbrev pub decreases-read_object : goal.decreases-read_object
decreases-read_object l = 4 * l.levels

abbrev pub decreases-read_value : goal.decreases-read_value
decreases-read_value l = 4 * l.levels + 1

abbrev pub invariant-read_attributes-loop-behind : goal.invariant-read_attributes-loop-behind
invariant-read_attributes-loop-behind l =
    InAttributes l.s l.little l.levels l.initial.q l.first l.initial.records l.initial.bytes l.initial.names l.q l.top l.records l.bytes l.names

abbrev pub decreases-read_attributes-loop-behind : goal.decreases-read_attributes-loop-behind
decreases-read_attributes-loop-behind l = length l.s - l.q.place
