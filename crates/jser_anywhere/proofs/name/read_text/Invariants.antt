use Rattle.jser_anywhere.proofs.NameLemmas.{Reads}
use Rattle.jser_anywhere.proofs.name.read_text.Given as goal

abbrev pub invariant-bytes : goal.invariant-bytes
invariant-bytes l = Reads l.bytes l.units.items l.byte-index l.place
