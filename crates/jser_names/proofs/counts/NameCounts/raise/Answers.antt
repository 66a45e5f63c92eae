use Rattle.std.proofs.Common.{rules, refl, ap, ◌∙◌, map}
use Rattle.jser_names.specs.Counts.{tally_of}
use Rattle.jser_names.proofs.CountLemmas.{put_back, raised, raised_kept}
use Rattle.jser_names.proofs.counts.NameCounts.raise.Goals as goal

pub invariant_of-self : goal.invariant_of-self
invariant_of-self c =
    raised_kept c.self.inside.names.entries c.args.number c.index_mut-seen.result.now c.index_mut-seen.result.now c.self.invariant c.index_mut-seen.ensures.value refl

pub returns-in_default-clause-kept : goal.returns-in_default-clause-kept
returns-in_default-clause-kept c =
    ap (map tally_of) (put_back c.self.inside.names.entries c.args.number c.index_mut-seen.result.now c.index_mut-seen.ensures.value) ∙ c.self.view_is

pub invariant_of-self-2 : goal.invariant_of-self-2
invariant_of-self-2 c =
    raised_kept c.self.inside.names.entries c.args.number c.index_mut-seen.result.now (record { times = c.in-Some.times; spelled = c.index_mut-seen.result.now.spelled })
    c.self.invariant c.index_mut-seen.ensures.value refl

pub returns-clause-counted : goal.returns-clause-counted
returns-clause-counted c = λ name e.
    raised name c.self.inside.names.entries c.args.self.now c.args.number c.index_mut-seen.result.now (record { times = c.in-Some.times; spelled = c.index_mut-seen.result.now.spelled })
    c.self.view_is e c.index_mut-seen.ensures.value (search rules)
