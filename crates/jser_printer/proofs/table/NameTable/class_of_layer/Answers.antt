use Rattle.std.proofs.Common.{◌∙◌, refl, ap, sym, Some, arith}
use Rattle.jser_shown.specs.Known.{own_class_of}
use Rattle.jser_printer.specs.Tables.{layers_in}
use Rattle.jser_printer.proofs.TableLemmas.{length_view, length_chains, straight_inside, layer_straight, layer_at_number, chain_inside, index_inside, number_kept}
use Rattle.jser_printer.proofs.table.NameTable.class_of_layer.Goals as goal

pub overflow_sub-result : goal.overflow_sub-result
overflow_sub-result c =
    let within = straight_inside _ _ _ _ c.self.view_is c.self.invariant _ _ c.requires.chain_in c.index-class.ensures in
    omega (arith, c.if-back-class.true, within)

pub returns-then-back-class-clause-layer : goal.returns-then-back-class-clause-layer
returns-then-back-class-clause-layer c =
    layer_straight _ _ _ _ c.self.view_is c.self.invariant _ _ _ _ _ c.requires.chain_in c.index-class.ensures c.layers-layers.ensures
    c.requires.index_in refl c.if-back-class.true

pub class_of_layer-requires-clause-chain : goal.class_of_layer-requires-clause-chain
class_of_layer-requires-clause-chain c =
    chain_inside _ _ _ _ c.self.view_is c.self.invariant _ _ c.requires.chain_in
    (number_kept _ _ _ _ c.self.view_is c.self.invariant _ _ c.requires.chain_in c.index-class.ensures)

pub class_of_layer-requires-clause-index : goal.class_of_layer-requires-clause-index
class_of_layer-requires-clause-index c =
    index_inside _ _ _ _ c.self.view_is c.self.invariant _ _ _ c.requires.chain_in
    (number_kept _ _ _ _ c.self.view_is c.self.invariant _ _ c.requires.chain_in c.index-class.ensures) c.requires.index_in

pub returns-clause-inside : goal.returns-clause-inside
returns-clause-inside c =
    let long = length_view _ _ _ _ c.self.view_is c.self.invariant in
    let alike = length_chains _ _ _ _ c.self.view_is c.self.invariant in
    omega (arith, c.index.ensures, c.class_of_layer.ensures.inside, long, alike)

pub returns-clause-layer : goal.returns-clause-layer
returns-clause-layer c =
    layer_at_number _ _ _ _ c.self.view_is c.self.invariant _ _ _ _ c.requires.chain_in
    (number_kept _ _ _ _ c.self.view_is c.self.invariant _ _ c.requires.chain_in c.index-class.ensures)
    c.class_of_layer.ensures.number c.class_of_layer.ensures.inside
    ∙ ap (λ m. Some (own_class_of (layers_in c.args.self.now.chains m))) (sym c.index.ensures)
