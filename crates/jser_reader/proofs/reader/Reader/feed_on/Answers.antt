use Rattle.std.proofs.Common.{rules, inl, refl, ap}
use Rattle.jser_reader.proofs.FeedLemmas.{feeding_none, feeding_step, fed_tells, fed_visits, halts_tells, halts_visits, stops_tells, stops_visits}
use Rattle.jser_reader.proofs.ShowingLemmas.{item_goes, whole_goes, field_goes, more_goes, stop_goes}
use Rattle.jser_reader.proofs.reader.Reader.feed_on.Goals as goal

pub items-init : goal.items-init
items-init g c = record { gate = refl; feeding = feeding_none _ _ _ _ _ _ }

pub returns-in-Err-clause-tells : goal.returns-in-Err-clause-tells
returns-in-Err-clause-tells g c =
    halts_tells _ _ _ _ _ _ _ _ _ _ _ _ _ _ c.items.invariant.feeding
    (stop_goes (g.G.Gate.told c.args.self.now.gate) _ (ap g.G.Gate.told c.items.invariant.gate) _ _ _ _ _ _ c.in-Err.ensures.tells)

pub returns-in-Err-clause-visits : goal.returns-in-Err-clause-visits
returns-in-Err-clause-visits g c = halts_visits _ _ _ _ _ _ g.V.Visit.stops _ _ _ _ _ _ _ c.items.invariant.feeding

pub returns-in-Ok-More-clause-tells : goal.returns-in-Ok-More-clause-tells
returns-in-Ok-More-clause-tells g c = fed_tells _ _ _ _ _ _ _ _ _ _ _ _ _ c.items.invariant.feeding (more_goes (g.G.Gate.told c.args.self.now.gate) _ (ap g.G.Gate.told c.items.invariant.gate) c.items.rest.now c.in-Ok-More.field-0 _ _ _ _ c.in-Ok-More.ensures.tells c.in-Ok-More.field-0-is).0

pub returns-in-Ok-More-clause-visits : goal.returns-in-Ok-More-clause-visits
returns-in-Ok-More-clause-visits g c = fed_visits _ _ _ _ _ _ g.V.Visit.stops _ _ _ _ _ _ c.items.invariant.feeding (more_goes (g.G.Gate.told c.args.self.now.gate) _ (ap g.G.Gate.told c.items.invariant.gate) c.items.rest.now c.in-Ok-More.field-0 _ _ _ _ c.in-Ok-More.ensures.tells c.in-Ok-More.field-0-is).1

pub items-preserved-in-Ok : goal.items-preserved-in-Ok
items-preserved-in-Ok g c = record {
  gate = search rules;
  feeding =
      feeding_step _ _ _ _ _ _ c.items.rest.now c.split_at.result.1.now _ c.in-Ok-Item.used _ _ _ _ _ c.item.new.self c.items.invariant.feeding
      (item_goes (g.G.Gate.told c.args.self.now.gate) _ (ap g.G.Gate.told c.items.invariant.gate) c.items.rest.now c.in-Ok-Item.field-0 _ _ _ _ c.in-Ok-Item.ensures.tells c.in-Ok-Item.item c.in-Ok-Item.used c.whereabouts.result (search rules) c.in-Ok-Item.field-0-is)
      (search rules) (c.item.new.self, c.in-Ok.ensures.takes, refl);
}

pub returns-in-Err-item-clause-tells : goal.returns-in-Err-item-clause-tells
returns-in-Err-item-clause-tells g c =
    stops_tells g.V.Visit.takes _ _ _ _ _ _ c.items.rest.now _ _ _ _ _ _ _ c.items.invariant.feeding
    (item_goes (g.G.Gate.told c.args.self.now.gate) _ (ap g.G.Gate.told c.items.invariant.gate) c.items.rest.now c.in-Ok-Item.field-0 _ _ _ _ c.in-Ok-Item.ensures.tells c.in-Ok-Item.item c.in-Ok-Item.used c.whereabouts.result (search rules) c.in-Ok-Item.field-0-is)

pub returns-in-Err-item-clause-visits : goal.returns-in-Err-item-clause-visits
returns-in-Err-item-clause-visits g c =
    stops_visits _ _ _ _ _ _ g.V.Visit.stops _ c.items.rest.now _ _ _ _ _ _ _ _ c.items.invariant.feeding
    (item_goes (g.G.Gate.told c.args.self.now.gate) _ (ap g.G.Gate.told c.items.invariant.gate) c.items.rest.now c.in-Ok-Item.field-0 _ _ _ _ c.in-Ok-Item.ensures.tells c.in-Ok-Item.item c.in-Ok-Item.used c.whereabouts.result (search rules) c.in-Ok-Item.field-0-is)
    (inl c.in-Err-item.ensures.stops)

pub items-preserved-in-Ok-whole : goal.items-preserved-in-Ok-whole
items-preserved-in-Ok-whole g c = record {
  gate = search rules;
  feeding =
      feeding_step _ _ _ _ _ _ c.items.rest.now c.split_at-in-Ok-Whole.result.1.now _ _ _ _ _ _ _ _ c.items.invariant.feeding
      (whole_goes (g.G.Gate.told c.args.self.now.gate) _ (ap g.G.Gate.told c.items.invariant.gate) c.items.rest.now c.in-Ok-Whole.field-0 _ _ _ _ c.in-Ok-Whole.ensures.tells c.in-Ok-Whole.whole c.whereabouts-in-Ok-Whole.result (search rules) c.in-Ok-Whole.field-0-is)
      (search rules) c.in-Ok-whole.ensures.takes;
}

pub returns-in-Err-whole-clause-tells : goal.returns-in-Err-whole-clause-tells
returns-in-Err-whole-clause-tells g c =
    stops_tells g.V.Visit.takes _ _ _ _ _ _ c.items.rest.now _ _ _ _ _ _ _ c.items.invariant.feeding
    (whole_goes (g.G.Gate.told c.args.self.now.gate) _ (ap g.G.Gate.told c.items.invariant.gate) c.items.rest.now c.in-Ok-Whole.field-0 _ _ _ _ c.in-Ok-Whole.ensures.tells c.in-Ok-Whole.whole c.whereabouts-in-Ok-Whole.result (search rules) c.in-Ok-Whole.field-0-is)

pub returns-in-Err-whole-clause-visits : goal.returns-in-Err-whole-clause-visits
returns-in-Err-whole-clause-visits g c =
    stops_visits _ _ _ _ _ _ g.V.Visit.stops _ c.items.rest.now _ _ _ _ _ _ _ _ c.items.invariant.feeding
    (whole_goes (g.G.Gate.told c.args.self.now.gate) _ (ap g.G.Gate.told c.items.invariant.gate) c.items.rest.now c.in-Ok-Whole.field-0 _ _ _ _ c.in-Ok-Whole.ensures.tells c.in-Ok-Whole.whole c.whereabouts-in-Ok-Whole.result (search rules) c.in-Ok-Whole.field-0-is)
    c.in-Err-whole.ensures.stops

pub items-preserved : goal.items-preserved
items-preserved g c = record {
  gate = search rules;
  feeding =
      feeding_step _ _ _ _ _ _ c.items.rest.now c.split_at-in-Ok-Field.result.1.now _ _ _ _ _ _ _ _ c.items.invariant.feeding
      (field_goes (g.G.Gate.told c.args.self.now.gate) _ (ap g.G.Gate.told c.items.invariant.gate) c.items.rest.now c.in-Ok-Field.field-0 _ _ _ _ c.in-Ok-Field.ensures.tells c.in-Ok-Field.field c.whereabouts-in-Ok-Field.result (search rules) c.in-Ok-Field.field-0-is)
      (search rules) c.in-Ok-field.ensures.takes;
}

pub returns-in-Err-field-clause-tells : goal.returns-in-Err-field-clause-tells
returns-in-Err-field-clause-tells g c =
    stops_tells g.V.Visit.takes _ _ _ _ _ _ c.items.rest.now _ _ _ _ _ _ _ c.items.invariant.feeding
    (field_goes (g.G.Gate.told c.args.self.now.gate) _ (ap g.G.Gate.told c.items.invariant.gate) c.items.rest.now c.in-Ok-Field.field-0 _ _ _ _ c.in-Ok-Field.ensures.tells c.in-Ok-Field.field c.whereabouts-in-Ok-Field.result (search rules) c.in-Ok-Field.field-0-is)

pub returns-in-Err-field-clause-visits : goal.returns-in-Err-field-clause-visits
returns-in-Err-field-clause-visits g c =
    stops_visits _ _ _ _ _ _ g.V.Visit.stops _ c.items.rest.now _ _ _ _ _ _ _ _ c.items.invariant.feeding
    (field_goes (g.G.Gate.told c.args.self.now.gate) _ (ap g.G.Gate.told c.items.invariant.gate) c.items.rest.now c.in-Ok-Field.field-0 _ _ _ _ c.in-Ok-Field.ensures.tells c.in-Ok-Field.field c.whereabouts-in-Ok-Field.result (search rules) c.in-Ok-Field.field-0-is)
    c.in-Err-field.ensures.stops
