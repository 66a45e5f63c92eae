-- Whether bytes have a graph.
use Rattle.std.proofs.Common.{◌≡◌, ℕ, true, false, List, ◌++◌, take, drop, refl, sym, subst, inl, inr, take-append-drop}
use Rattle.std.specs.Prelude.{◌↔◌}
use Rattle.jser_grammar.specs.Parts.{IsBytes}
use Rattle.jser_verdict.specs.Passing.{Passes}
use Rattle.jser_verdict.proofs.ByteLists.{bytes_right}
use Rattle.jser_reader.specs.declared.Refusal.{Refusal}
use Rattle.jser_reader.specs.declared.Stop.{Stop}
use Rattle.jser_reader.specs.declared.Stop.TheVariants as stop
use Rattle.jser_reader.specs.Gates.{open_gate}
use Rattle.jser_index.specs.Graphs.{GraphView, IfRefused, StandsForSome}
use Rattle.jser_index.specs.Reading.{IsRefused}
use Rattle.uses_graph.specs.Told.{AreStream}

pub has_graph : (bytes : List ℕ) (graph : GraphView) → StandsForSome bytes graph → (true ≡ true) ↔ AreStream bytes
has_graph bytes graph some = (λ yes. (some.0, some.1.passes), λ are. refl)

none_passes : (bytes : List ℕ) (refusal : Refusal) → IsBytes bytes → IsRefused bytes refusal → AreStream bytes → ⊥
none_passes bytes refusal all (inl front) are =
    let n = refusal.to_byte in
    let whole : take n bytes ++ drop n bytes ≡ bytes = take-append-drop n bytes in
    let after : IsBytes (drop n bytes) = bytes_right (take n bytes) (drop n bytes) (subst IsBytes (sym whole) all) in
    front.refused.none_passes (drop n bytes) are.0 after (subst (λ xs. Passes open_gate xs are.0) (sym whole) are.1)
none_passes bytes refusal all (inr cut) are = cut.none_passes are.0 are.1

pub has_none : (bytes : List ℕ) (why : Stop) (refusal : Refusal) → IsBytes bytes → why ≡ stop.Refused refusal → IfRefused (IsRefused bytes) why
    → (false ≡ true) ↔ AreStream bytes
has_none bytes why refusal all is refused =
    (λ no. absurd (let e : false ≡ true = no in cc), λ are. absurd (none_passes bytes refusal all (subst (IfRefused (IsRefused bytes)) is refused) are))
