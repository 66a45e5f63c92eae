-- The check finds this with no answer too; with one, it refuses a wrong body sooner.
use Rattle.std.proofs.Common.{rules}
use Rattle.jser_index.proofs.node.StoredNode.node.Goals as goal

pub returns-clause-tag_byte : goal.returns-clause-tag_byte
returns-clause-tag_byte c = search rules
