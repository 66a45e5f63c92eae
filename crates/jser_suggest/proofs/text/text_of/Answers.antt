use Rattle.jser_suggest.specs.Gathering.{name_list}
use Rattle.jser_suggest.proofs.UnitLemmas.{text_units}
use Rattle.jser_suggest.proofs.text.text_of.Goals as goal

pub returns : goal.returns
returns c =
    text_units c.new-text.result c.push_limit.new.text c.push_limit-2.new.text c.push_limit-3.new.text c.push_limit-4.new.text c.push_names.new.text c.push_str.new.self
    c.args.bytes c.args.refs c.args.depth c.args.longest (name_list c.args.names.now) c.new-text.ensures.bytes c.in_ok-push_limit.ensures c.in_ok-push_limit-2.ensures
    c.in_ok-push_limit-3.ensures c.in_ok-push_limit-4.ensures c.in_ok-push_names.ensures c.in_ok-push_str.ensures.bytes
