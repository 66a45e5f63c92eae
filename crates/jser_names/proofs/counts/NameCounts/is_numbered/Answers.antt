use Rattle.std.proofs.Common.{ap, sym, ◌∙◌, bytes_eq}
use Rattle.jser_names.proofs.CountLemmas.{named_at}
use Rattle.jser_names.proofs.counts.NameCounts.is_numbered.Goals as goal

pub returns-in-Some : goal.returns-in-Some
returns-in-Some c = λ e.
    named_at c.args.name.now c.self.inside.names.entries c.args.self.now c.args.number (c.in-Some.other.now, c.in-Some.field-0-1.now) c.self.view_is c.self.invariant.0
    (sym c.in-Some.ensures.entry) (ap (λ xs. bytes_eq xs c.args.name.now) (sym c.as_slice.ensures.value) ∙ sym c.eq.ensures ∙ e)
