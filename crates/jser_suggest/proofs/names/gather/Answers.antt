use Rattle.std.proofs.Common.{rules, refl, arith}
use Rattle.jser_suggest.specs.Gathering.{name_list}
use Rattle.jser_suggest.proofs.GatherLemmas.{count_is_there, gained_all, gains_next, unwritable_at}
use Rattle.jser_suggest.proofs.names.gather.Goals as goal

pub unreachable-requires : goal.unreachable-requires
unreachable-requires c =
    count_is_there c.args.checked.now c.names.number (omega (arith, c.names-test.true, c.len-count.ensures)) c.in_default.ensures

pub names-preserved : goal.names-preserved
names-preserved c = record {
  gained =
      gains_next c.args.checked.now c.names.number (name_list c.args.names.now) (name_list c.names.names) (name_list c.gather_one.new.names) c.in-Some.counted
      c.in-Some.counted.name.now c.in-Some.ensures refl c.names.invariant.gained c.in-Ok.ensures.gains;
  inside = search rules;
}

pub returns-in-Err-clause-fault : goal.returns-in-Err-clause-fault
returns-in-Err-clause-fault c =
    unwritable_at c.args.checked.now c.names.number c.in-Some.counted c.in-Some.counted.name.now c.in-Err.fault c.in-Some.ensures refl c.in-Err.ensures.fault

pub returns-clause-gains : goal.returns-clause-gains
returns-clause-gains c =
    gained_all c.args.checked.now c.names.number (name_list c.args.names.now) (name_list c.names.names) (omega (arith, c.names-test.false, c.len-count.ensures)) c.names.invariant.gained
