use Rattle.std.proofs.Common.{◌≡◌, ◌≤◌, ◌∷◌, length}
use Rattle.jser_table.specs.Sections.{layer_of, under, IsOn}
use Rattle.jser_reading.specs.Goals.{section_parts}
use Rattle.jser_reader.specs.Many.{RawsOn}
use Rattle.jser_reader.proofs.machine.Machine.sections_from.Given as goal

abbrev pub invariant-sections : goal.invariant-sections
invariant-sections l = record {
  on : IsOn l.self.table.chains l.last l.section;
  ahead : RawsOn l.self.table.chains l.used (section_parts (layer_of l.self.table.chains l.fn.first ∷ under l.self.table.chains l.last l.fn.first)) (section_parts (layer_of l.self.table.chains l.section ∷ under l.self.table.chains l.last l.section));
  room : l.used ≤ l.room;
  same : l.self ≡ l.fn.self;
}

abbrev pub decreases-sections : goal.decreases-sections
decreases-sections l = length (under l.self.table.chains l.last l.section)
