-- The machine reads exactly the tokens of the lists that obey the format.
use Rattle.std.proofs.Common.{◌≡◌, List, [], ◌∷◌, refl, ◌∙◌, ap}
use Rattle.jser_reading.proofs.Vocabulary.{ContentTrees, WellFormed, beginning, header_token, header_at, Piece, at, cut_top, tokens_of, header_goal, top_goal, begin_state}
use Rattle.jser_reading.specs.Laws.{Exact}
use Rattle.jser_reading.proofs.TreeToMachine.{reads_top}
use Rattle.jser_reading.proofs.Remaining.{RemainsAt, Remains}
use Rattle.jser_reading.proofs.MachineToTree.{reads_remain}

one_list : (fs : List Piece) → RemainsAt header_goal beginning (Remains (top_goal ∷ [])) fs → (list : ContentTrees)
    × WellFormed list × (fs ≡ tokens_of list)
one_list fs (r, e, (list, r', w, e', k)) =
    (list, w, e ∙ ap (λ x. at header_at 0 beginning header_token ∷ x) (e' ∙ ap (λ x. cut_top beginning list x) k))

pub exact_law : Exact
exact_law fs =
    (λ h. one_list fs (reads_remain fs begin_state h), λ (list, w, e). rw e (refl, tt, reads_top list beginning [] w refl))
