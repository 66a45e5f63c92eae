-- The tree of a graph is the list for which it stands.
use Rattle.std.proofs.Common.{◌<◌, ◌≤◌, subst, arith}
use Rattle.jser_reading.specs.ByteLaws.{OneReading}
use Rattle.jser_verdict.specs.Passing.{Passes}
use Rattle.jser_reader.specs.Gates.{open_gate}
use Rattle.jser_value.specs.declared.Contents.{Contents}
use Rattle.jser_value.specs.declared.ValueCause.TheVariants as cause
use Rattle.jser_value.specs.View.{view_contents}
use Rattle.jser_trees.specs.Answers.{tree_gate}
use Rattle.jser_index.specs.Graphs.{GraphView}
use Rattle.jser_graph.specs.Outputs.{IsOf, HasCause}

pub is_of : (graph : GraphView) (contents : Contents) → OneReading → Passes (tree_gate open_gate) graph.bytes (view_contents contents) → IsOf graph contents
unfolding IsOf
is_of graph contents one p = λ bytes list h.
    one bytes (view_contents contents) list (subst (λ xs. Passes (tree_gate open_gate) xs (view_contents contents)) h.bytes_are p).0 h.passes.0

pub too_deep : (graph : GraphView) → 1000 < graph.totals.depth → HasCause graph cause.TooDeep
unfolding HasCause
too_deep graph over = λ bytes list h. let d = h.totals_are.depth in omega arith

pub too_large : (graph : GraphView) → graph.totals.depth ≤ 1000 → 2147483647 < graph.totals.bytes → HasCause graph cause.TooLarge
unfolding HasCause
too_large graph within over = λ bytes list h.
    let d = h.totals_are.depth in
    let b = h.totals_are.all_bytes in
    (omega arith, omega arith)

pub memory_out : (graph : GraphView) → graph.totals.depth ≤ 1000 → graph.totals.bytes ≤ 2147483647 → HasCause graph cause.OutOfMemory
unfolding HasCause
memory_out graph shallow short = λ bytes list h.
    let d = h.totals_are.depth in
    let b = h.totals_are.all_bytes in
    (omega arith, omega arith)
