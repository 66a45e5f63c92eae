use Rattle.std.proofs.Common.{rules, refl}
use Rattle.jser_names.specs.declared.counts.Seen.{Seen}
use Rattle.jser_names.proofs.CountLemmas.{added_spelled, added_tally}
use Rattle.jser_names.proofs.counts.NameCounts.add.Goals as goal

pub invariant_of-self-in-Ok : goal.invariant_of-self-in-Ok
invariant_of-self-in-Ok c =
    let seen : Seen = record { times = 1; spelled = c.in_ok-to_vec.field-0 } in (
      c.in-Ok.ensures.unique,
      added_spelled c.args.name.now c.args.text.now c.in_ok-to_vec-2.field-0 seen c.self.inside.names.entries c.insert.new.self.entries c.args.self.now
          c.self.view_is c.requires.new (search rules) (search rules) c.requires.spelled c.in-Ok.ensures.entries c.self.invariant.1,
    )

pub returns-in-Ok-clause-added : goal.returns-in-Ok-clause-added
returns-in-Ok-clause-added c =
    let seen : Seen = record { times = 1; spelled = c.in_ok-to_vec.field-0 } in
    added_tally c.args.name.now c.in_ok-to_vec-2.field-0 seen c.self.inside.names.entries c.insert.new.self.entries c.args.self.now
    c.self.view_is c.requires.new (search rules) refl c.in-Ok.ensures.entries
