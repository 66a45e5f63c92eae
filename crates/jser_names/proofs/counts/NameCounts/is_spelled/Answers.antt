use Rattle.std.proofs.Common.{rules, ap, sym, ◌∙◌, bytes_eq}
use Rattle.jser_names.proofs.CountLemmas.{spelled_so}
use Rattle.jser_names.proofs.counts.NameCounts.is_spelled.Goals as goal

pub returns-then-not-is_empty-clause-named : goal.returns-then-not-is_empty-clause-named
returns-then-not-is_empty-clause-named c = λ e.
    spelled_so c.args.text.now c.self.inside.names.entries c.args.self.now c.args.number (c.in-Some.field-0-0.now, c.in-Some.seen.now) c.self.view_is c.self.invariant
    (sym c.in-Some.ensures.entry) (search rules) (ap (λ xs. bytes_eq xs c.args.text.now) (sym c.as_slice.ensures.value) ∙ sym c.eq.ensures ∙ e)
