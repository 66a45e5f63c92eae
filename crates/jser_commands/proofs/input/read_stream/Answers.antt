use Rattle.jser_commands.proofs.InputLemmas.{read_accepts, read_refuses}
use Rattle.jser_commands.proofs.input.read_stream.Goals as goal

pub returns-in-Ok-clause-accepted : goal.returns-in-Ok-clause-accepted
returns-in-Ok-clause-accepted g c =
    read_accepts _ c.in-Ok.read.items c.as_slice.result.now c.stream_of.result c.as_slice.ensures.value c.in-Ok.ensures.accepted c.stream_of.ensures.accepted

pub returns-in-Ok-clause-refused : goal.returns-in-Ok-clause-refused
returns-in-Ok-clause-refused g c =
    read_refuses _ c.in-Ok.read.items c.as_slice.result.now c.stream_of.result c.as_slice.ensures.value c.in-Ok.ensures.accepted c.stream_of.ensures.refused
