use Rattle.std.proofs.Common.{rules, ◌-◌}
use Rattle.jser_reader.specs.Visits.{type_size}
use Rattle.jser_reader.proofs.FieldShownLemmas.{unnamed, named, typed_takes, typed_stops, tag_stops, is_fault}
use Rattle.jser_reader.proofs.visit.Visit.field.Goals as goal

pub returns-in_ok-item-in-Some-clause-takes : goal.returns-in_ok-item-in-Some-clause-takes
returns-in_ok-item-in-Some-clause-takes g c =
    typed_takes g.Self.Visit.takes c.args.field c.args.whereabouts c.in-Some.handle c.earlier.result c.earlier-in-Some.result _ _ _ _ _ (search rules) (search rules) (search rules) c.in_ok-item.ensures.takes
    (unnamed g.Self.Visit.takes c.args.field.name c.args.whereabouts.handles (c.args.whereabouts.end - type_size c.args.field.type_handle) c.earlier-2.result _ _ (search rules) (search rules) c.in_ok-item-2.ensures.takes) c.item-in-Some-2.result c.in_ok-item-in-Some.ensures.takes c.item-in-Some-2.ensures.takes

pub returns-in_ok-item-in-Some-clause-stops : goal.returns-in_ok-item-in-Some-clause-stops
returns-in_ok-item-in-Some-clause-stops g c =
    typed_stops g.Self.Visit.takes c.args.field c.args.whereabouts c.in-Some.handle c.earlier.result c.earlier-in-Some.result _ _ _ _ _ (search rules) (search rules) (search rules) c.in_ok-item.ensures.takes
    (unnamed g.Self.Visit.takes c.args.field.name c.args.whereabouts.handles (c.args.whereabouts.end - type_size c.args.field.type_handle) c.earlier-2.result _ _ (search rules) (search rules) c.in_ok-item-2.ensures.takes) g.Self.Visit.stops c.item-in-Some-2.result c.in_ok-item-in-Some.ensures.takes c.item-in-Some-2.ensures.stops

pub returns-in_err-item-in-Some-type_handle-clause-stops : goal.returns-in_err-item-in-Some-type_handle-clause-stops
returns-in_err-item-in-Some-type_handle-clause-stops g c =
    is_fault _ c.from_residual-in_err-item-in-Some-type_handle.result _ (search rules)
    (tag_stops g.Self.Visit.takes c.args.field c.args.whereabouts c.in-Some-type_handle.handle c.earlier.result c.earlier-in-Some-type_handle.result _ _ _ c.item-in-Some-type_handle.new.self _ (search rules) (search rules) (search rules) c.in_ok-item.ensures.takes
    (named g.Self.Visit.takes c.args.field.name c.args.whereabouts.handles (c.args.whereabouts.end - type_size c.args.field.type_handle) c.earlier-2.result c.earlier-name_end.result _ _ _ (search rules) (search rules) (search rules) c.in_ok-item-2.ensures.takes c.in_ok-item-3.ensures.takes) g.Self.Visit.stops _ c.in_err-item-in-Some-type_handle.ensures.stops)

pub returns-in_ok-item-in-Some-type_handle-clause-takes : goal.returns-in_ok-item-in-Some-type_handle-clause-takes
returns-in_ok-item-in-Some-type_handle-clause-takes g c =
    typed_takes g.Self.Visit.takes c.args.field c.args.whereabouts c.in-Some-type_handle.handle c.earlier.result c.earlier-in-Some-type_handle.result _ _ _ _ _ (search rules) (search rules) (search rules) c.in_ok-item.ensures.takes
    (named g.Self.Visit.takes c.args.field.name c.args.whereabouts.handles (c.args.whereabouts.end - type_size c.args.field.type_handle) c.earlier-2.result c.earlier-name_end.result _ _ _ (search rules) (search rules) (search rules) c.in_ok-item-2.ensures.takes c.in_ok-item-3.ensures.takes) c.item-in-Some-type_handle-2.result c.in_ok-item-in-Some-type_handle.ensures.takes c.item-in-Some-type_handle-2.ensures.takes

pub returns-in_ok-item-in-Some-type_handle-clause-stops : goal.returns-in_ok-item-in-Some-type_handle-clause-stops
returns-in_ok-item-in-Some-type_handle-clause-stops g c =
    typed_stops g.Self.Visit.takes c.args.field c.args.whereabouts c.in-Some-type_handle.handle c.earlier.result c.earlier-in-Some-type_handle.result _ _ _ _ _ (search rules) (search rules) (search rules) c.in_ok-item.ensures.takes
    (named g.Self.Visit.takes c.args.field.name c.args.whereabouts.handles (c.args.whereabouts.end - type_size c.args.field.type_handle) c.earlier-2.result c.earlier-name_end.result _ _ _ (search rules) (search rules) (search rules) c.in_ok-item-2.ensures.takes c.in_ok-item-3.ensures.takes) g.Self.Visit.stops c.item-in-Some-type_handle-2.result c.in_ok-item-in-Some-type_handle.ensures.takes c.item-in-Some-type_handle-2.ensures.stops
