use Rattle.std.proofs.Common.{rules, ◌<◌, length, arith, sym, ap, ◌∙◌, subst}
use Rattle.jser_anywhere.specs.NamesIn.{names_in, untold}
use Rattle.jser_names.specs.Counts.{names_counted}
use Rattle.jser_commands.proofs.HiddenLemmas.{gathers_none, gathers_more}
use Rattle.jser_commands.proofs.hidden.hidden_names.Goals as goal

pub names-init : goal.names-init
names-init c = record {
  gathers = gathers_none (names_counted c.args.checked.now) c.new-hidden.result (names_in 0 c.args.bytes.now) (untold c.new-names.result) c.in_ok-places.places
      c.new-names.ensures.names c.new-hidden.ensures c.in_ok-places.ensures.0;
  size = c.in_ok-places.ensures.1;
  same = c.new-names.ensures.bytes;
}

pub names-preserved-then-is_hidden : goal.names-preserved-then-is_hidden
names-preserved-then-is_hidden c = record {
  gathers = gathers_more (names_counted c.args.checked.now) (names_in 0 c.args.bytes.now) (untold c.names.names) (untold c.next.new.self)
      _ c.names.places c.note.new.self c.names.hidden c.count.new.self c.note.result
      c.names.invariant.gathers c.in-Some.ensures.tells (omega (arith, c.in-Some.ensures.inside, c.names.invariant.size, ap length c.names.invariant.same))
      c.note.ensures c.if-note.true c.text.result.now c.units.result.now c.units-then-is_hidden.result.now c.text.ensures c.units.ensures c.units-then-is_hidden.ensures
      (sym c.is_hidden.ensures ∙ c.if-is_hidden.true) c.in_ok-count.ensures.counted;
  size = ap length c.note.ensures.noted ∙ search rules;
  same = c.in-Some.ensures.same ∙ c.names.invariant.same;
}
