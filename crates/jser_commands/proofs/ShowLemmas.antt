-- What `show` printed.
use Rattle.std.proofs.Common.{ℕ, List, Option, Some, None, Bool}
use Rattle.std.specs.Prelude.{IfSome}
use Rattle.std.specs.Io.KnownBytes.{Appends}
use Rattle.jser_shown.specs.Shown.{shown}
use Rattle.jser_index.specs.declared.GraphFault.{GraphFault}
use Rattle.jser_index.specs.Graphs.{GraphView, StandsForSome}
use Rattle.jser_index.specs.Showing.{WroteText, WroteFront}
use Rattle.jser_commands.specs.Lines.{AppendsSome, SaysText}

pub says_shown : (told : Option (List ℕ)) (values : Bool) (graph : GraphView) (old new : Option (List ℕ)) → IfSome told (λ bytes. StandsForSome bytes graph)
    → WroteText values graph old new → IfSome told (λ bytes. SaysText (shown values) bytes (Appends old new))
unfolding WroteText
says_shown None values graph old new stands wrote = tt
says_shown (Some bytes) values graph old new stands wrote =
    record { list = stands.0; passes = stands.1.passes; printed = wrote bytes stands.0 stands.1 }

pub says_front : (told : Option (List ℕ)) (values : Bool) (graph : GraphView) (old new : Option (List ℕ)) → IfSome told (λ bytes. StandsForSome bytes graph)
    → ((why : GraphFault) × WroteFront values graph old new why) → IfSome told (λ bytes. SaysText (shown values) bytes (AppendsSome old new))
unfolding WroteFront
says_front None values graph old new stands wrote = tt
says_front (Some bytes) values graph old new stands wrote =
    let some = wrote.1 bytes stands.0 stands.1 in
    record { list = stands.0; passes = stands.1.passes; printed = record { count = some.count; within = some.within; went = some.went } }
