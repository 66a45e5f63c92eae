-- What was written is read as the same list.
use Rattle.std.proofs.Common.{◌≡◌, ℕ, List, Some, sym, ◌∙◌, subst}
use Rattle.jser_grammar.specs.Trees.{ContentTrees}
use Rattle.jser_grammar.specs.Spelling.{spelling}
use Rattle.jser_grammar.specs.Streams.{IsStreamOf}
use Rattle.jser_reading.specs.ByteLaws.{OneReading}
use Rattle.jser_value.specs.Limits.{IsContents}
use Rattle.jser_verdict.specs.Passing.{Passes}
use Rattle.jser_reader.specs.Gates.{open_gate}
use Rattle.jser_reader.specs.declared.Refusal.{Refusal}
use Rattle.jser_reader.specs.declared.Stop.{Stop}
use Rattle.jser_reader.specs.declared.Stop.TheVariants as stop
use Rattle.jser_trees.specs.Answers.{tree_gate, IfRefused, Refuses}
use Rattle.jser_trees.specs.Building.{list_in}
use Rattle.jser_trees.specs.Laws.{FindsList, WrittenPasses}

pub read_same : (bytes : List ℕ) (list again : ContentTrees) → OneReading → bytes ≡ spelling list → IsContents list → Passes (tree_gate open_gate) bytes again → again ≡ list
read_same bytes list again one written contents passes =
    let given : IsStreamOf bytes list = (written, contents.well_formed) in
    one bytes again list passes.0 given

pub not_refused : (bytes : List ℕ) (list : ContentTrees) (refusal : Refusal) → WrittenPasses → bytes ≡ spelling list → IsContents list → Refuses (tree_gate open_gate) bytes refusal → ⊥
not_refused bytes list refusal passes written contents refuses =
    refuses.none (list, subst (λ (xs : List ℕ). Passes (tree_gate open_gate) xs list) (sym written) (passes list contents))

pub not_refused_stop : (bytes : List ℕ) (list : ContentTrees) (why : Stop) (refusal : Refusal) → why ≡ stop.Refused refusal → WrittenPasses → bytes ≡ spelling list → IsContents list
    → IfRefused (Refuses (tree_gate open_gate) bytes) why → ⊥
not_refused_stop bytes list why refusal is passes written contents refused =
    not_refused bytes list refusal passes written contents (subst (λ (w : Stop). IfRefused (Refuses (tree_gate open_gate) bytes) w) is refused)

pub said_by_bytes : (list : ContentTrees) → FindsList → IsContents list → list_in (spelling list) ≡ Some list
said_by_bytes list finds contents = finds list contents.well_formed contents.depth
