-- The check finds this with no answer too; with one, it refuses a wrong body sooner.
use Rattle.std.proofs.Common.{rules}
use Rattle.jser_value.proofs.EncodedLemmas.{puts_stream}
use Rattle.jser_value.proofs.encoder.put_stream.Goals as goal

pub returns-clause-puts : goal.returns-clause-puts
returns-clause-puts g c = search (rules, puts_stream)
