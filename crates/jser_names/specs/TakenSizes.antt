-- No more bytes are taken than a stream may have, as the trait `Taker` asks.
use Rattle.std.specs.Prelude.{ℕ, ◌≤◌, List, length}
use Rattle.std.proofs.Common.{arith, ap}
use Rattle.jser_grammar.specs.Caps.{most_bytes}
use Rattle.jser_reader.specs.declared.tally.Tally.{Tally}
use Rattle.jser_reader.specs.Gates.{open_gate}
use Rattle.jser_reader.specs.Readers.{Seen}
use Rattle.jser_reader.specs.ReaderStates.{StandsFor}
use Rattle.jser_names.specs.Standing.{Names, Stands}

pub taken_within : (bytes : List ℕ) (r : Seen) (tally : Tally) → StandsFor open_gate bytes r tally → length bytes ≤ most_bytes
unfolding StandsFor
taken_within bytes r tally st = st.1

pub named_within : (bytes : List ℕ) (r : Seen) (tally : Tally) (x : Names) → Stands bytes r tally x → length bytes ≤ most_bytes
named_within bytes r tally x st =
    let within = st.reads.within in
    let split = ap length st.split in
    omega arith
