-- The check finds this with no answer too; with one, it refuses a wrong body sooner.
use Rattle.jser_trees.proofs.TopLoop.{top_begun, top_next, top_done, top_failed, top_endless}
use Rattle.std.proofs.Common.{rules}
use Rattle.jser_trees.proofs.values.contents.Goals as goal

pub contents-preserved : goal.contents-preserved
contents-preserved c = search (rules, top_begun, top_next, top_done, top_failed, top_endless)
