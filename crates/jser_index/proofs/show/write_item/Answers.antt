use Rattle.std.proofs.Common.{rules}
use Rattle.jser_index.proofs.PartLemmas.{part_token, part_text}
use Rattle.jser_index.proofs.ShowLemmas.{ok_by, err_by}
use Rattle.jser_index.proofs.show.write_item.Goals as goal

pub returns-in-Token-clause-said : goal.returns-in-Token-clause-said
returns-in-Token-clause-said g c =
    ok_by c.write_next.result c.write_next.ensures.said (λ says told e. says told (part_token c.args.item c.in-Token.token told (search rules) e))

pub returns-in-Token-clause-front : goal.returns-in-Token-clause-front
returns-in-Token-clause-front g c =
    err_by c.write_next.result c.write_next.ensures.front (λ begins told e. begins told (part_token c.args.item c.in-Token.token told (search rules) e))

pub returns-in-Text-clause-said : goal.returns-in-Text-clause-said
returns-in-Text-clause-said g c =
    ok_by c.write_text.result c.write_text.ensures.said (λ says told e. says told (part_text c.args.item c.in-Text.bytes told (search rules) e))

pub returns-in-Text-clause-goes : goal.returns-in-Text-clause-goes
returns-in-Text-clause-goes g c =
    ok_by c.write_text.result c.write_text.ensures.goes (λ goes_on told e. goes_on told (part_text c.args.item c.in-Text.bytes told (search rules) e))

pub returns-in-Text-clause-front : goal.returns-in-Text-clause-front
returns-in-Text-clause-front g c =
    err_by c.write_text.result c.write_text.ensures.front (λ begins told e. begins told (part_text c.args.item c.in-Text.bytes told (search rules) e))
