use Rattle.std.proofs.Common.{sym, ◌∙◌}
use Rattle.jser_scan.proofs.JsonLemmas.{says_other, says_pair}
use Rattle.jser_scan.proofs.json_text.write_character.Goals as goal

pub returns-then-begins_with_pair-clause-said : goal.returns-then-begins_with_pair-clause-said
returns-then-begins_with_pair-clause-said g c =
    says_pair _ _ _ _ c.args.units.now c.split_at.result.0.now c.split_at.result.1.now (sym c.begins_with_pair.ensures.pair ∙ c.if-begins_with_pair.true)
    c.split_at.ensures.front c.split_at.ensures.back c.write_units.ensures

pub returns-else-begins_with_pair-clause-said : goal.returns-else-begins_with_pair-clause-said
returns-else-begins_with_pair-clause-said g c =
    says_other _ _ _ _ c.args.units.now c.split_at-else-begins_with_pair.result.0.now c.split_at-else-begins_with_pair.result.1.now c.whole_unit.result c.requires
    (sym c.begins_with_pair.ensures.pair ∙ c.if-begins_with_pair.false) c.whole_unit.ensures c.split_at-else-begins_with_pair.ensures.front
    c.split_at-else-begins_with_pair.ensures.back c.write_units-else-begins_with_pair.ensures
