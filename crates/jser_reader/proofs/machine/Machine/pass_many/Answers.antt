use Rattle.std.proofs.Common.{refl, arith, rules}
use Rattle.jser_reader.proofs.ManyPasses.{goes_first, goes_next, goes_ended, goes_still, none_taken, none_passes, back_fits, many_pass, many_end, ends_some}
use Rattle.jser_reader.proofs.PassLemmas.{pass_none}
use Rattle.jser_reader.proofs.machine.Machine.pass_many.Goals as goal

pub returns-then-tally-from-clause-passes : goal.returns-then-tally-from-clause-passes
returns-then-tally-from-clause-passes c = λ gate is_gate. pass_none gate c.args.piece.now _ _

pub returns-then-not-is_at_rest-clause-passes : goal.returns-then-not-is_at_rest-clause-passes
returns-then-not-is_at_rest-clause-passes c = λ gate is_gate. pass_none gate c.args.piece.now _ _

pub values-init : goal.values-init
values-init c = record { so = goes_first c.args.piece.now _ _ _ c.requires.can c.requires.some (search rules) c.counts-counts.ensures; tally = refl }

pub values-preserved : goal.values-preserved
values-preserved c = record {
  so = (goes_next c.args.piece.now _ _ _ _ _ _ c.turn.result c.values.invariant.so c.turn.ensures (search rules)).0;
  tally = c.values.invariant.tally;
}

pub values-smaller : goal.values-smaller
values-smaller c =
    let more = (goes_next c.args.piece.now _ _ _ _ _ _ c.turn.result c.values.invariant.so c.turn.ensures (search rules)).1 in
    omega arith

pub write_back-requires-clause-used : goal.write_back-requires-clause-used
write_back-requires-clause-used c =
    back_fits c.args.piece.now c.args.self.now _ _ (goes_ended c.args.piece.now _ _ _ _ _ _ c.turn.result c.values.invariant.so c.turn.ensures (search rules)).1 c.requires.some

pub write_back-requires-clause-last : goal.write_back-requires-clause-last
write_back-requires-clause-last c = (goes_ended c.args.piece.now _ _ _ _ _ _ c.turn.result c.values.invariant.so c.turn.ensures (search rules)).1.last

pub returns-in-Ended-clause-passes : goal.returns-in-Ended-clause-passes
returns-in-Ended-clause-passes c =
    many_end c.args.piece.now _ _ _ _ _ _ _ _ (goes_ended c.args.piece.now _ _ _ _ _ _ c.turn.result c.values.invariant.so c.turn.ensures (search rules)) c.requires.can c.requires.some
    (c.is_at_rest.ensures (search rules)) c.write_back.ensures.machine c.value_done.ensures.ready c.value_done.ensures.kept c.value_done.ensures.meter c.values.invariant.tally
    c.write_back.ensures.tally

pub returns-in-Ended-clause-within : goal.returns-in-Ended-clause-within
returns-in-Ended-clause-within c =
    (goes_ended c.args.piece.now _ _ _ _ _ _ c.turn.result c.values.invariant.so c.turn.ensures (search rules)).1.within

pub returns-in-Ended-clause-nothing : goal.returns-in-Ended-clause-nothing
returns-in-Ended-clause-nothing c = λ none.
    let some = ends_some c.args.piece.now c.args.self.now _ c.args.tally.now _ (goes_ended c.args.piece.now _ _ _ _ _ _ c.turn.result c.values.invariant.so c.turn.ensures (search rules)).0 in
    absurd (omega arith)

pub returns-then-counts-eq0-clause-passes : goal.returns-then-counts-eq0-clause-passes
returns-then-counts-eq0-clause-passes c =
    none_passes c.args.piece.now _ _ _ _ _ (goes_still c.args.piece.now _ _ _ _ _ _ c.turn.result c.values.invariant.so c.turn.ensures (search rules)) (search rules) c.values.invariant.tally

pub returns-then-counts-eq0-clause-nothing : goal.returns-then-counts-eq0-clause-nothing
returns-then-counts-eq0-clause-nothing c = λ _. (
  none_taken c.args.piece.now _ _ _ _ (goes_still c.args.piece.now _ _ _ _ _ _ c.turn.result c.values.invariant.so c.turn.ensures (search rules)) (search rules),
  c.values.invariant.tally,
)

pub write_back-requires-in-Nothing-clause-used : goal.write_back-requires-in-Nothing-clause-used
write_back-requires-in-Nothing-clause-used c =
    back_fits c.args.piece.now c.args.self.now _ _ (goes_still c.args.piece.now _ _ _ _ _ _ c.turn.result c.values.invariant.so c.turn.ensures (search rules)).holds.holds c.requires.some

pub write_back-requires-in-Nothing-clause-last : goal.write_back-requires-in-Nothing-clause-last
write_back-requires-in-Nothing-clause-last c = (goes_still c.args.piece.now _ _ _ _ _ _ c.turn.result c.values.invariant.so c.turn.ensures (search rules)).holds.holds.last

pub returns-in-Nothing-clause-passes : goal.returns-in-Nothing-clause-passes
returns-in-Nothing-clause-passes c =
    many_pass c.args.piece.now _ _ _ _ _ _ _ (goes_still c.args.piece.now _ _ _ _ _ _ c.turn.result c.values.invariant.so c.turn.ensures (search rules)) c.requires.can c.requires.some
    (c.is_at_rest.ensures (search rules)) c.write_back-in-Nothing.ensures.machine c.values.invariant.tally c.write_back-in-Nothing.ensures.tally

pub returns-in-Nothing-clause-within : goal.returns-in-Nothing-clause-within
returns-in-Nothing-clause-within c =
    (goes_still c.args.piece.now _ _ _ _ _ _ c.turn.result c.values.invariant.so c.turn.ensures (search rules)).holds.holds.within

pub returns-then-counts-eq0-2-clause-passes : goal.returns-then-counts-eq0-2-clause-passes
returns-then-counts-eq0-2-clause-passes c = none_passes c.args.piece.now _ _ _ _ _ c.values.invariant.so (search rules) c.values.invariant.tally

pub returns-then-counts-eq0-2-clause-nothing : goal.returns-then-counts-eq0-2-clause-nothing
returns-then-counts-eq0-2-clause-nothing c = λ _. (none_taken c.args.piece.now _ _ _ _ c.values.invariant.so (search rules), c.values.invariant.tally)

pub returns-clause-passes : goal.returns-clause-passes
returns-clause-passes c =
    many_pass c.args.piece.now _ _ _ _ _ _ _ c.values.invariant.so c.requires.can c.requires.some (c.is_at_rest.ensures (search rules)) c.write_back-2.ensures.machine c.values.invariant.tally
    c.write_back-2.ensures.tally
