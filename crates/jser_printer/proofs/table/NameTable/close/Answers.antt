use Rattle.std.proofs.Common.{◌≡◌, List, [], ◌∷◌, ◌++◌, ap, ◌∙◌, subst}
use Rattle.jser_printer.specs.Tables.{layers_under, IsStraight, Closes}
use Rattle.jser_printer.specs.declared.class.KeptClass.{KeptClass}
use Rattle.jser_printer.proofs.CloseLemmas.{known_closed, chains_closed, sound_closed}
use Rattle.jser_printer.proofs.table.NameTable.close.Goals as goal

added : (old kept new : List KeptClass) (c : KeptClass) → new ≡ kept ++ c ∷ [] → kept ≡ old → new ≡ old ++ c ∷ []
added old kept new c is same = is ∙ ap (λ cs. cs ++ c ∷ []) same

pub invariant_of-self-2 : goal.invariant_of-self-2
invariant_of-self-2 c =
    sound_closed _ _ _ _ c.self.view_is c.self.invariant _ _ _ _ _ _ c.parent_in-above.ensures (subst (Closes _ _ _) c.handle_of.ensures c.close_in-chain.ensures.closes)
    (added _ _ _ _ c.in-Ok.ensures.items c.in_ok-reserve.ensures.items) c.close_in-chain.ensures.number c.requires
    (c.in-Some.ensures ∙ ap (λ classes. layers_under classes c.parent_in-above.result) c.deref.ensures.value)
    (subst (λ classes. IsStraight classes c.parent_in-above.result c.straight_under-straight.result) c.deref-2.ensures.value c.straight_under-straight.ensures) c.close_in-chain.ensures.fewer

pub returns-clause-known : goal.returns-clause-known
returns-clause-known c =
    known_closed _ _ _ _ c.self.view_is c.self.invariant _ _ _ _ _ _ c.parent_in-above.ensures (subst (Closes _ _ _) c.handle_of.ensures c.close_in-chain.ensures.closes)
    (added _ _ _ _ c.in-Ok.ensures.items c.in_ok-reserve.ensures.items)

pub returns-clause-chains : goal.returns-clause-chains
returns-clause-chains c =
    chains_closed _ _ _ _ c.self.view_is c.self.invariant _ _ _ _ _ _ c.parent_in-above.ensures (subst (Closes _ _ _) c.handle_of.ensures c.close_in-chain.ensures.closes)
    (added _ _ _ _ c.in-Ok.ensures.items c.in_ok-reserve.ensures.items)
