use Rattle.std.proofs.Common.{Ok, Err}
use Rattle.jser_reader.proofs.ReaderLemmas.{all_bytes}
use Rattle.jser_value.specs.View.{view_contents}
use Rattle.jser_trees.specs.Answers.{tree_gate}
use Rattle.jser_reader.proofs.RefusalLemmas.{tells_first}
use Rattle.jser_trees.proofs.AnswerLemmas.{tells_list, tells_refused, lowered_tells}
use Rattle.jser_trees.proofs.TreeLemmas.{passes_tree}
use Rattle.jser_trees.proofs.read.read_all.Goals as goal

pub tree_of-requires : goal.tree_of-requires
tree_of-requires g c =
    passes_tree (g.G.Gate.told c.args.gate.now) c.args.bytes.now c.in-Ok.field-0
    (lowered_tells g.G.Gate.told c.new.result c.args.gate.now c.args.bytes.now (Ok c.in-Ok.field-0) c.new.ensures c.in-Ok.ensures)

pub returns-in-Ok-tree_of-clause-accepted : goal.returns-in-Ok-tree_of-clause-accepted
returns-in-Ok-tree_of-clause-accepted g c =
    tells_list (tree_gate (g.G.Gate.told c.args.gate.now)) c.args.bytes.now (view_contents c.in-Ok-tree_of.contents) c.in-Ok.field-0
    (lowered_tells g.G.Gate.told c.new.result c.args.gate.now c.args.bytes.now (Ok c.in-Ok.field-0) c.new.ensures c.in-Ok.ensures)
    c.in-Ok-tree_of.ensures

pub returns-in-Err-clause-refused : goal.returns-in-Err-clause-refused
returns-in-Err-clause-refused g c =
    tells_refused (tree_gate (g.G.Gate.told c.args.gate.now)) c.args.bytes.now c.in-Err.stop (all_bytes c.args.bytes.now (λ k. (c.type_inv.bytes k).fits))
    (lowered_tells g.G.Gate.told c.new.result c.args.gate.now c.args.bytes.now (Err c.in-Err.stop) c.new.ensures c.in-Err.ensures)

pub returns-in-Err-clause-first : goal.returns-in-Err-clause-first
returns-in-Err-clause-first g c =
    tells_first (tree_gate (g.G.Gate.told c.args.gate.now)) c.args.bytes.now (Err c.in-Err.stop) (all_bytes c.args.bytes.now (λ k. (c.type_inv.bytes k).fits))
    (lowered_tells g.G.Gate.told c.new.result c.args.gate.now c.args.bytes.now (Err c.in-Err.stop) c.new.ensures c.in-Err.ensures)
