use Rattle.std.proofs.Common.{rules}
use Rattle.jser_anywhere.proofs.WholeLemmas.{begins_later, ends_elsewhere, none_left}
use Rattle.jser_anywhere.proofs.whole.whole_class.Goals.{else-found-eq0-via-then-found-eq0+else-found-bytes, else-found-eq0-via-else-found-eq0}
use Rattle.jser_anywhere.proofs.whole.whole_class.Goals as goal

pub names-preserved : goal.names-preserved
names-preserved c = record {
  names = elim c.else-found-eq0.branch [
    | else-found-eq0-via-then-found-eq0+else-found-bytes w ↦ ends_elsewhere c.args.bytes.now c.names.names c.next.new.self c.in-Some.found c.names.invariant.names c.in-Some.ensures.tells (search rules)
    | else-found-eq0-via-else-found-eq0 w ↦ begins_later c.args.bytes.now c.names.names c.next.new.self c.in-Some.found c.names.invariant.names c.in-Some.ensures.tells (search rules)
  ];
}

pub returns-clause-none : goal.returns-clause-none
returns-clause-none c = λ is units stands. none_left c.args.bytes.now c.names.names c.next.new.self c.names.invariant.names c.in_default.ensures.tells units stands
