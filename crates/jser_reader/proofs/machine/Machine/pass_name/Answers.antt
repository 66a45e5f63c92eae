use Rattle.std.proofs.Common.{◌+◌, ◌∙◌, ap, rules}
use Rattle.jser_reader.specs.ClassNames.{with_name}
use Rattle.jser_reader.specs.Takes.{farther}
use Rattle.jser_reader.proofs.NameSteps.{name_ends, name_stops, name_kept}
use Rattle.jser_reader.proofs.machine.Machine.pass_name.Goals as goal

pub returns-in-On-clause-passes : goal.returns-in-On-clause-passes
returns-in-On-clause-passes g c = λ tally.
    name_ends _ c.in-Some.len c.judge_name.result c.args.piece.now c.args.self.now _ _ tally c.requires.can c.requires.phase c.in-Some.ensures c.judge_name.ensures
    ((search rules) ∙ ap (λ now. with_name (farther c.args.self.now (2 + c.in-Some.len)) now)
    (name_kept c.in-Some.len c.args.piece.now _ _ _ _ c.split_at.ensures.back c.split_at-2.ensures.front c.clear.ensures.items c.add_units.ensures))
    (search rules)

pub returns-in-Stopped-clause-passes : goal.returns-in-Stopped-clause-passes
returns-in-Stopped-clause-passes g c = λ tally.
    name_stops _ c.in-Some.len c.judge_name.result c.args.piece.now c.args.self.now _ _ tally c.requires.can c.requires.phase c.in-Some.ensures c.judge_name.ensures
    ((search rules) ∙ ap (λ now. with_name (farther c.args.self.now (2 + c.in-Some.len)) now)
    (name_kept c.in-Some.len c.args.piece.now _ _ _ _ c.split_at.ensures.back c.split_at-2.ensures.front c.clear.ensures.items c.add_units.ensures))
    (search rules)
