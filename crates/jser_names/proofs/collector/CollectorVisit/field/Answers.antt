use Rattle.jser_names.proofs.LentLemmas.{takes_field}
use Rattle.jser_names.proofs.collector.CollectorVisit.field.Goals as goal

pub returns-clause-takes : goal.returns-clause-takes
returns-clause-takes c =
    takes_field c.args.field c.args.whereabouts c.args.self.now c.item.new.self c.field_name.new.self c.field_type.new.self c.field_type.result c.in_ok-item.ensures.takes
    c.in_ok-field_name.ensures c.field_type.ensures
