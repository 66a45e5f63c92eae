use Rattle.std.proofs.Common.{rules, ap, sym}
use Rattle.jser_reader.proofs.CloseLemmas.{fits_closed}
use Rattle.jser_reader.proofs.LayerLemmas.{layers_closed}
use Rattle.jser_reader.proofs.SuperLemmas.{closes_at}
use Rattle.jser_reader.proofs.machine.Machine.close_top.Goals as goal

pub invariant_of-self : goal.invariant_of-self
invariant_of-self c = (
  fits_closed _ _ _ _ _ _ c.args.number c.args.role _ _ c.self-2.invariant.0 (search rules) c.pop.ensures c.close_kept.ensures.closed c.close_kept.ensures.chains,
  layers_closed c.args.self.now c.pop_layer-layer.new.self c.self.inside.outer.items c.self-2.inside.outer.items _ _ _ c.args.number c.args.role c.pop_layer-layer.ensures.rest
      (ap (λ r. r.layers) (sym c.self.view_is)) (ap (λ r. r.layers) (sym c.self-2.view_is)) c.requires.top (search rules) (search rules),
)

pub returns : goal.returns
returns c =
    closes_at c.args.self.now c.pop_layer-layer.new.self _ c.args.parent c.args.number c.args.role c.pop_layer-layer.ensures.rest (search rules) c.requires.top
    (search rules) (search rules) (search rules) (search rules) (search rules) (search rules) (search rules)
