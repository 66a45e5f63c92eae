use Rattle.std.proofs.Common.{subst}
use Rattle.jser_printer.specs.Given.{view_nodes}
use Rattle.jser_index.proofs.GraphLemmas.{stands_for, surveyed}
use Rattle.jser_index.proofs.graph.Index.read.Goals as goal

pub invariant_of-result : goal.invariant_of-result
invariant_of-result g c =
    stands_for (g.B.AsSlice.items c.args.bytes) c.in_ok-survey.field-0.survey c.in_ok-survey.field-0.totals c.into_found-found.result.nodes
    (view_nodes c.into_found-found.result.owners.items) c.into_found-found.result.names
    (surveyed _ (g.B.AsSlice.items c.args.bytes) c.in_ok-survey.field-0.survey c.in_ok-survey.field-0.totals c.as_slice.ensures c.in_ok-survey.ensures) c.into_found-found.ensures.nodes
    c.into_found-found.ensures.owners c.into_found-found.ensures.names

pub returns-clause-accepted : goal.returns-clause-accepted
returns-clause-accepted g c =
    stands_for (g.B.AsSlice.items c.args.bytes) c.in_ok-survey.field-0.survey c.in_ok-survey.field-0.totals c.into_found-found.result.nodes
    (view_nodes c.into_found-found.result.owners.items) c.into_found-found.result.names
    (surveyed _ (g.B.AsSlice.items c.args.bytes) c.in_ok-survey.field-0.survey c.in_ok-survey.field-0.totals c.as_slice.ensures c.in_ok-survey.ensures) c.into_found-found.ensures.nodes
    c.into_found-found.ensures.owners c.into_found-found.ensures.names
