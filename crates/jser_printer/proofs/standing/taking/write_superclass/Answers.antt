use Rattle.std.proofs.Common.{ap, sym, ◌∙◌, rules}
use Rattle.jser_shown.specs.Telling.{goes_in}
use Rattle.jser_printer.specs.declared.seen.Seen.TheVariants as seen
use Rattle.jser_printer.specs.Frames.{cues_of}
use Rattle.jser_printer.specs.Seen.{view_seen}
use Rattle.jser_printer.proofs.PassLemmas.{close_fits}
use Rattle.jser_printer.proofs.TakeLemmas.{null_taken}
use Rattle.jser_printer.proofs.standing.taking.write_superclass.Goals as goal

pub returns-in_ok-close-in-Null-clause-takes : goal.returns-in_ok-close-in-Null-clause-takes
returns-in_ok-close-in-Null-clause-takes g c = λ e os name done.
    ap (λ x. goes_in e c.args.table.now.known os (cues_of c.args.table.now.layers c.args.table.now.chains c.args.frames.now) (view_seen x)) (c.in-Tag.is ∙ ap seen.Tag c.in-Null.is)
    ∙ sym (null_taken c.args.table.now.layers c.close.new.self.layers c.args.table.now.chains c.close.new.self.chains _
    c.args.frames.now c.pop.new.self c.args.at
    e c.args.table.now.known c.close.new.self.known os c.requires.fit
    c.in_ok-close-in-Null.ensures.layers c.in_ok-close-in-Null.ensures.chains c.pop.ensures c.requires.top
    c.in_ok-close-in-Null.ensures.known)

pub returns-in_ok-close-in-Null-clause-fit : goal.returns-in_ok-close-in-Null-clause-fit
returns-in_ok-close-in-Null-clause-fit g c = search (rules, close_fits)
