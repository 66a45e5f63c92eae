use Rattle.std.proofs.Common.{refl}
use Rattle.jser_reader.proofs.ItemLemmas.{makes_text, makes_raw, makes_cut}
use Rattle.jser_reader.proofs.machine.items.item_of.Goals as goal

pub returns-in-Text : goal.returns-in-Text
returns-in-Text c = makes_text _ c.args.kept.items c.args.part.now _ c.in-Text.is refl

pub returns-in-Prims : goal.returns-in-Prims
returns-in-Prims c = makes_raw _ c.args.kept.items c.args.part.now _ c.in-Prims.is refl

pub returns-else-is_empty : goal.returns-else-is_empty
returns-else-is_empty c =
    makes_cut _ c.args.kept.items c.args.part.now _ c.in_default.not-Text c.in_default.not-Prims c.in_default.not-Bytes c.cut_item.ensures
