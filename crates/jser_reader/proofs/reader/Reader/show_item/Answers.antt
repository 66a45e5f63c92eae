use Rattle.std.proofs.Common.{rules}
use Rattle.jser_reader.proofs.FurtherLemmas.{item_steps}
use Rattle.jser_reader.proofs.reader.Reader.show_item.Goals as goal

pub returns-in-Ok-Item-clause-tells : goal.returns-in-Ok-Item-clause-tells
returns-in-Ok-Item-clause-tells g c =
    item_steps (g.G.Gate.told c.args.self.now.gate) c.args.piece.now c.in-Ok-Item.item c.in-Ok-Item.used _ _ _ _ (search rules) (search rules) (search rules) (search rules)
