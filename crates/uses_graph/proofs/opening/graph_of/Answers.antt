use Rattle.jser_reader.proofs.ReaderLemmas.{all_bytes}
use Rattle.uses_graph.proofs.OpeningLemmas.{has_none}
use Rattle.uses_graph.proofs.opening.graph_of.Goals as goal

pub returns-in-Err-Refused-clause-exact : goal.returns-in-Err-Refused-clause-exact
returns-in-Err-Refused-clause-exact c =
    has_none c.args.bytes.now c.in-Err-Refused.field-0 c.in-Err-Refused.field-0-0 (all_bytes c.args.bytes.now (λ k. (c.type_inv.bytes k).fits))
    c.in-Err-Refused.field-0-is c.in-Err-Refused.ensures.refused
