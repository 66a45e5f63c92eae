-- What is told of the list for which a graph stands is told of every list that the bytes spell.
use denote.Bor.{Bor}
use Rattle.std.proofs.Common.{◌≡◌, ℕ, false, List, length, slice_get, Option, Result, Ok, Err, IfOk, IfErr, OnOk, ap, subst, ◌∙◌}
use Rattle.std.specs.Io.KnownBytes.{Appends}
use Rattle.jser_grammar.specs.CheckedNames.{checked_names}
use Rattle.jser_reading.specs.ByteLaws.{OneReading}
use Rattle.jser_value.specs.declared.Contents.{Contents}
use Rattle.jser_value.specs.declared.ValueCause.{ValueCause}
use Rattle.jser_value.specs.View.{view_contents}
use Rattle.jser_shown.specs.Nodes.{nodes_of}
use Rattle.jser_shown.specs.Shown.{shown}
use Rattle.jser_index.specs.declared.GraphFault.{GraphFault}
use Rattle.jser_index.specs.declared.Node.{Node}
use Rattle.jser_index.specs.Graphs.{GraphView, StandsFor, StandsForSome, IsNode, node_at, text_of}
use Rattle.jser_index.specs.Listed.{IsList}
use Rattle.jser_graph.specs.Outputs.{IsOf, HasCause}
use Rattle.jser_index.specs.Outputs.{WroteFirst}
use Rattle.jser_index.specs.Showing.{counted, CountsText, WroteText, WroteFront}
use Rattle.uses_graph.specs.Told.{OfEachList, TreeCause, FrontShown}

-- it stands for each list that they spell
each : OneReading → (bytes : List ℕ) (graph : GraphView) → StandsForSome bytes graph → OfEachList bytes (StandsFor graph bytes)
each one bytes graph some = λ list is. subst (StandsFor graph bytes) (one bytes some.0 list some.1.passes.0 is) some.1

pub node_told : OneReading → (bytes : List ℕ) (graph : GraphView) (epoch handle : ℕ) (node : Option Node) → StandsForSome bytes graph
    → IsNode (node_at graph.nodes epoch handle) node → OfEachList bytes (λ list. IsNode (node_at (nodes_of list) epoch handle) node)
node_told one bytes graph epoch handle node some is = λ list spelled.
    subst (λ nodes. IsNode (node_at nodes epoch handle) node) (each one bytes graph some list spelled).nodes_are is

pub text_told : OneReading → (bytes : List ℕ) (graph : GraphView) (epoch handle : ℕ) (units : Option (Bor (List ℕ))) → StandsForSome bytes graph
    → IsList (text_of (node_at graph.nodes epoch handle)) units → OfEachList bytes (λ list. IsList (text_of (node_at (nodes_of list) epoch handle)) units)
text_told one bytes graph epoch handle units some is = λ list spelled.
    subst (λ nodes. IsList (text_of (node_at nodes epoch handle)) units) (each one bytes graph some list spelled).nodes_are is

pub count_told : OneReading → (bytes : List ℕ) (graph : GraphView) (count : ℕ) → StandsForSome bytes graph
    → count ≡ length graph.names → OfEachList bytes (λ list. count ≡ length (checked_names list))
count_told one bytes graph count some is = λ list spelled. is ∙ ap length (each one bytes graph some list spelled).names_are

pub name_told : OneReading → (bytes : List ℕ) (graph : GraphView) (number : ℕ) (name : Option (Bor (List ℕ))) → StandsForSome bytes graph
    → IsList (slice_get graph.names number) name → OfEachList bytes (λ list. IsList (slice_get (checked_names list) number) name)
name_told one bytes graph number name some is = λ list spelled.
    subst (λ names. IsList (slice_get names number) name) (each one bytes graph some list spelled).names_are is

pub bytes_told : (bytes : List ℕ) (graph : GraphView) → StandsForSome bytes graph → graph.bytes ≡ bytes
bytes_told bytes graph some = some.1.bytes_are

pub text_shown : OneReading → (bytes : List ℕ) (graph : GraphView) (old new : Option (List ℕ)) → StandsForSome bytes graph → WroteText false graph old new
    → OfEachList bytes (λ list. Appends old new (shown false list))
unfolding WroteText
text_shown one bytes graph old new some went = λ list spelled. went bytes list (each one bytes graph some list spelled)

pub length_shown : OneReading → (bytes : List ℕ) (graph : GraphView) (count : ℕ) → StandsForSome bytes graph → CountsText false graph count
    → OfEachList bytes (λ list. count ≡ counted (length (shown false list)))
unfolding CountsText
length_shown one bytes graph count some is = λ list spelled. is bytes list (each one bytes graph some list spelled)

pub front_shown : OneReading → (bytes : List ℕ) (graph : GraphView) (old new : Option (List ℕ)) (why : GraphFault) → StandsForSome bytes graph
    → WroteFront false graph old new why → OfEachList bytes (λ list. FrontShown old new (shown false list) why)
unfolding WroteFront
front_shown one bytes graph old new why some went = λ list spelled. went bytes list (each one bytes graph some list spelled)

pub tree_told : OneReading → (bytes : List ℕ) (graph : GraphView) (contents : Contents) → StandsForSome bytes graph → IsOf graph contents
    → OfEachList bytes (λ list. view_contents contents ≡ list)
unfolding IsOf
tree_told one bytes graph contents some is = λ list spelled. is bytes list (each one bytes graph some list spelled)

pub cause_told : OneReading → (bytes : List ℕ) (graph : GraphView) (why : ValueCause) → StandsForSome bytes graph → HasCause graph why
    → OfEachList bytes (λ list. TreeCause why bytes list)
unfolding HasCause
cause_told one bytes graph why some is = λ list spelled. is bytes list (each one bytes graph some list spelled)

-- ---- of what a call answers

pub shown_told : OneReading → {X E : Type 0} (bytes : List ℕ) (graph : GraphView) (result : Result X E) (old new : Option (List ℕ)) → StandsForSome bytes graph
    → OnOk result (WroteText false graph old new) → OnOk result (OfEachList bytes (λ list. Appends old new (shown false list)))
shown_told one bytes graph (Ok x) old new some went = text_shown one bytes graph old new some went
shown_told one bytes graph (Err e) old new some went = tt

pub length_told : OneReading → {E : Type 0} (bytes : List ℕ) (graph : GraphView) (result : Result ℕ E) → StandsForSome bytes graph
    → IfOk result (CountsText false graph) → IfOk result (λ count. OfEachList bytes (λ list. count ≡ counted (length (shown false list))))
length_told one bytes graph (Ok count) some is = length_shown one bytes graph count some is
length_told one bytes graph (Err e) some is = tt

pub front_told : OneReading → {X : Type 0} (bytes : List ℕ) (graph : GraphView) (result : Result X GraphFault) (old new : Option (List ℕ)) → StandsForSome bytes graph
    → IfErr result (WroteFront false graph old new) → IfErr result (λ why. OfEachList bytes (λ list. FrontShown old new (shown false list) why))
front_told one bytes graph (Ok x) old new some went = tt
front_told one bytes graph (Err why) old new some went = front_shown one bytes graph old new why some went

pub list_told : OneReading → {E : Type 0} (bytes : List ℕ) (graph : GraphView) (result : Result Contents E) → StandsForSome bytes graph
    → IfOk result (IsOf graph) → IfOk result (λ contents. OfEachList bytes (λ list. view_contents contents ≡ list))
list_told one bytes graph (Ok contents) some is = tree_told one bytes graph contents some is
list_told one bytes graph (Err e) some is = tt

pub first_told : {X : Type 0} (bytes : List ℕ) (graph : GraphView) (result : Result X GraphFault) (old new : Option (List ℕ)) → StandsForSome bytes graph
    → IfErr result (WroteFirst old new graph.bytes) → IfErr result (WroteFirst old new bytes)
first_told bytes graph result old new some went = subst (λ xs. IfErr result (WroteFirst old new xs)) some.1.bytes_are went
