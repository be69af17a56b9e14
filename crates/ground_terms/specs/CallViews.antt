-- The calls of the code.
use Rattle.ground_terms.specs.declared.handed.SinkCall.{SinkCall}
use Rattle.ground_terms.specs.declared.handed.SinkCall.TheVariants.{Literal, Node}
use Rattle.ground_terms.specs.Calls.{Call, a_literal, a_node}

abbrev pub plain_call : SinkCall → Call
plain_call (Literal atom positive) = a_literal atom positive
plain_call (Node junction parts) = a_node junction parts
