use Rattle.jser_grammar.specs.Spelling.{utf}
use Rattle.jser_value.proofs.EncodeLemmas.{puts_next, puts_all, interfaces_flat}
use Rattle.jser_value.proofs.encoder.put_interfaces.Goals as goal

pub loop-name-preserved : goal.loop-name-preserved
loop-name-preserved g c =
    puts_next (λ name. utf name.items) _ _ _ _ _ _ c.args.names.now c.loop-name.name-index _ c.loop-name-test.true c.name-item.is c.loop-name.invariant (rw (← c.deref.ensures.value) c.put_utf.ensures)

pub returns : goal.returns
returns g c =
    puts_all (λ name. utf name.items) _ _ _ _ c.args.names.now c.loop-name.name-index _ c.loop-name-test.false (interfaces_flat c.args.names.now) c.loop-name.invariant
