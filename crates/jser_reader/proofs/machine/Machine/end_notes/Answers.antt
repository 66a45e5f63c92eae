use Rattle.std.proofs.Common.{rules, ◌≡◌, ◌∷◌, true, false}
use Rattle.jser_reader.specs.declared.frame.Frame.TheVariants as frame
use Rattle.jser_reader.specs.Stacks.{tail_of}
use Rattle.jser_reader.proofs.TagLemmas.{section_ends, sections_end}
use Rattle.jser_reader.proofs.machine.Machine.end_notes.Goals as goal

pub returns-then-not-next_section-clause-end : goal.returns-then-not-next_section-clause-end
returns-then-not-next_section-clause-end c =
    let none : c.next_section.result ≡ false = search rules in
    let top : c.args.self.now.frames ≡ frame.Notes c.in-Notes.last c.in-Notes.section ∷ tail_of c.args.self.now.frames = search rules in
    λ notes. sections_end c.args.self.now _ _ _ _ c.in-Notes.last c.in-Notes.section _ c.next_section.ensures.part none c.value_done.ensures.ready c.value_done.ensures.kept top
    (search rules) (search rules) (search rules) (search rules) (search rules) (search rules) (search rules) (search rules) (search rules) (search rules) (search rules)

pub returns-else-not-next_section-clause-end : goal.returns-else-not-next_section-clause-end
returns-else-not-next_section-clause-end c =
    let some : c.next_section.result ≡ true = search rules in
    let top : c.args.self.now.frames ≡ frame.Notes c.in-Notes.last c.in-Notes.section ∷ tail_of c.args.self.now.frames = search rules in
    λ notes. section_ends c.args.self.now _ _ c.in-Notes.last c.in-Notes.section _ c.next_section.ensures.part some top
    (search rules) (search rules) (search rules) (search rules) (search rules) (search rules)
