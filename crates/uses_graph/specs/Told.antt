-- What is told of a stream, in words of the list that its bytes spell.
use Rattle.std.specs.Prelude.{ℕ, List, Option}
use Rattle.jser_grammar.specs.Trees.{ContentTrees}
use Rattle.jser_grammar.specs.Streams.{IsStreamOf}
use Rattle.jser_verdict.specs.Passing.{Passes}
use Rattle.jser_reader.specs.Gates.{open_gate}
use Rattle.jser_value.specs.declared.ValueCause.{ValueCause}
use Rattle.jser_index.specs.declared.GraphFault.{GraphFault}
use Rattle.jser_graph.specs.Outputs.{CauseOf}
use Rattle.jser_index.specs.Showing.{WroteSome, written_of}

-- this holds of whatever list the bytes spell
abbrev pub OfEachList : List ℕ → (ContentTrees → Type 0) → Type 0
OfEachList bytes P = (list : ContentTrees) → IsStreamOf bytes list → P list

-- why there is no tree of it
abbrev pub TreeCause : ValueCause → List ℕ → ContentTrees → Type 0
TreeCause why bytes list = CauseOf why bytes list

-- the first bytes of a text went out, and the fault tells how many
abbrev pub FrontShown : (old new : Option (List ℕ)) → (text : List ℕ) → GraphFault → Type 0
FrontShown old new text why = WroteSome old new text (written_of why)

-- they are a stream within the greatest limits
abbrev pub AreStream : List ℕ → Type 0
AreStream bytes = (list : ContentTrees) × Passes open_gate bytes list
