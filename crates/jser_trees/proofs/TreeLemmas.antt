-- What is found in a stream within the caps of trees is its list.
use Rattle.std.proofs.Common.{◌≡◌, ℕ, ◌≤◌, List, length, Option, Some, None, Err, sym, ◌∙◌, ap, subst, arith}
use Rattle.jser_grammar.specs.Trees.{ContentTrees}
use Rattle.jser_grammar.specs.Spelling.{spelling}
use Rattle.jser_grammar.specs.Streams.{IsStreamOf}
use Rattle.jser_value.specs.Limits.{IsContents}
use Rattle.jser_verdict.specs.Gates.{Gate}
use Rattle.jser_reader.specs.declared.Totals.{Totals}
use Rattle.jser_reader.specs.Answers.{PassesWith}
use Rattle.jser_trees.specs.Answers.{tree_gate, IsTreeStream}
use Rattle.jser_trees.specs.declared.cursor.Fault.{Fault}
use Rattle.jser_trees.specs.declared.cursor.Fault.TheVariants as fault
use Rattle.jser_trees.specs.Found.{FindsAll}
use Rattle.jser_trees.specs.Building.{list_in}
use Rattle.jser_trees.proofs.ValuesBuilt.{list_found}

same_some : {A : Type 0} → (x y : A) → Some x ≡ Some y → x ≡ y
same_some x y e = cc

listed : (bytes : List ℕ) (tree : IsTreeStream bytes) → list_in bytes ≡ Some tree.list
listed bytes tree = ap list_in tree.is_stream.0 ∙ list_found tree.list tree.is_stream.1 tree.depth

same_list : (bytes : List ℕ) (list : ContentTrees) (tree : IsTreeStream bytes) → list_in bytes ≡ Some list → tree.list ≡ list
same_list bytes list tree found = same_some tree.list list (sym (listed bytes tree) ∙ found)

pub is_stream : (bytes : List ℕ) (list : ContentTrees) → IsTreeStream bytes → list_in bytes ≡ Some list → IsStreamOf bytes list
is_stream bytes list tree found = subst (λ x. IsStreamOf bytes x) (same_list bytes list tree found) tree.is_stream

whole : (bytes : List ℕ) (tree : IsTreeStream bytes) → IsContents tree.list
whole bytes tree =
    let size : length (spelling tree.list) ≤ 2147483647 = subst (λ (xs : List ℕ). length xs ≤ 2147483647) tree.is_stream.0 tree.size in
    record { well_formed = tree.is_stream.1; depth = tree.depth; size = size }

pub obeys_caps : (bytes : List ℕ) (list : ContentTrees) → IsTreeStream bytes → list_in bytes ≡ Some list → IsContents list
obeys_caps bytes list tree found = subst (λ x. IsContents x) (same_list bytes list tree found) (whole bytes tree)

pub never_lost : (bytes : List ℕ) → IsTreeStream bytes → list_in bytes ≡ None → ⊥
never_lost bytes tree lost = let e : None ≡ Some tree.list = sym lost ∙ listed bytes tree in absurd (cc)

-- a list that passes the lowered gate is within the caps
pub passes_tree : (gate : Gate) (bytes : List ℕ) (totals : Totals) → PassesWith (tree_gate gate) bytes totals → IsTreeStream bytes
passes_tree gate bytes totals passing =
    let size = passing.1.2 in
    let depth = passing.1.3 in
    record { list = passing.0; is_stream = passing.1.0; depth = omega (arith, depth); size = omega (arith, size) }

pub failed_lost : {X Y : Type 0} → (view : X → Y) (e : Fault) (built : Option Y) → e ≡ fault.Lost → FindsAll view (Err e) built → built ≡ None
failed_lost view e built is h = subst (λ (x : Fault). FindsAll view (Err x) built) is h
