-- What is seen of a token is what a teller sees of it.
use Rattle.std.proofs.Common.{◌≡◌, ℕ, List, ◌∷◌, ap, ◌∙◌, sym, subst}
use Rattle.jser_prim.specs.Outgoing.{Outgoing, SinkState}
use Rattle.jser_reading.specs.Labels.{StreamToken}
use Rattle.jser_shown.specs.Words.{end_line, mark}
use Rattle.jser_shown.specs.Known.{NamedField}
use Rattle.jser_shown.specs.Cues.{Teller, teller, made_cue}
use Rattle.jser_shown.specs.Telling.{goes, goes_in, class_handle_goes, handle_goes, handle_says, seen, settled}
use Rattle.jser_printer.specs.Given.{view_owner}
use Rattle.jser_printer.specs.declared.owner.Owner.{Owner}
use Rattle.jser_printer.specs.declared.phase.Phase.{Phase}
use Rattle.jser_printer.specs.declared.phase.Phase.TheVariants as phase
use Rattle.jser_printer.specs.declared.seen.Seen.{Seen}
use Rattle.jser_printer.specs.declared.seen.Seen.TheVariants as sight
use Rattle.jser_printer.specs.Passing.{says_next}
use Rattle.jser_printer.specs.Phases.{in_phase}
use Rattle.jser_printer.specs.Says.{Says}
use Rattle.jser_printer.specs.Seen.{view_seen}

pub goes_seen : (old new : Teller) (s : Seen) (told : StreamToken) → new ≡ goes_in old.epoch old.known old.owners old.cues (view_seen s) → view_seen s ≡ seen told → new ≡ goes old told
goes_seen old new s told is same = is ∙ ap (λ f. goes_in old.epoch old.known old.owners old.cues f) same

-- the handle of a reference that is a value: nothing is due before it

pub says_handle : (a b : Outgoing) (d e : SinkState) (s : Teller) (p : Phase) (name : List ℕ) (done : List NamedField) (standing : Teller) (n : ℕ) (told : StreamToken)
    → in_phase p name done standing ≡ s → p ≡ phase.Handle → Says a b d e (λ k. mark standing.epoch.number n (end_line k)) → view_seen (sight.Handle n) ≡ seen told → Says a b d e (λ k. says_next s told k)
says_handle a b d e s p name done standing n told here is h same =
    subst (λ t. Says a b d e (λ k. says_next t told k)) (ap (λ x. in_phase x name done standing) (sym is) ∙ here)
    (subst (λ f. Says a b d e (λ k. handle_says standing.epoch.number f k)) same h)

pub goes_handle : (s : Teller) (p : Phase) (name : List ℕ) (done : List NamedField) (standing : Teller) (n : ℕ) (told : StreamToken)
    → in_phase p name done standing ≡ s → p ≡ phase.Handle → view_seen (sight.Handle n) ≡ seen told → in_phase phase.Frames name done standing ≡ goes (settled s) told
goes_handle s p name done standing n told here is same =
    ap (λ f. handle_goes standing.epoch standing.known standing.owners standing.cues f) same
    ∙ ap (λ t. goes (settled t) told) (ap (λ x. in_phase x name done standing) (sym is) ∙ here)

-- the handle of a reference that is the class of an owner

pub says_class_handle : (a b : Outgoing) (d e : SinkState) (s : Teller) (p : Phase) (owner : Owner) (level : ℕ) (name : List ℕ) (done : List NamedField) (standing : Teller) (n : ℕ) (told : StreamToken)
    → in_phase p name done standing ≡ s → p ≡ phase.ClassHandle owner level → Says a b d e (λ k. mark standing.epoch.number n (end_line k)) → view_seen (sight.Handle n) ≡ seen told → Says a b d e (λ k. says_next s told k)
says_class_handle a b d e s p owner level name done standing n told here is h same =
    subst (λ t. Says a b d e (λ k. says_next t told k)) (ap (λ x. in_phase x name done standing) (sym is) ∙ here)
    (subst (λ f. Says a b d e (λ k. handle_says standing.epoch.number f k)) same h)

pub goes_class_handle : (s : Teller) (p : Phase) (owner : Owner) (level : ℕ) (name : List ℕ) (done : List NamedField) (old new : Teller) (n : ℕ) (told : StreamToken)
    → in_phase p name done old ≡ s → p ≡ phase.ClassHandle owner level → new ≡ teller old.epoch old.known old.owners (made_cue (view_owner owner) level n ∷ old.cues) → view_seen (sight.Handle n) ≡ seen told → in_phase phase.Frames name done new ≡ goes (settled s) told
goes_class_handle s p owner level name done old new n told here is ended same =
    ended
    ∙ ap (λ f. class_handle_goes old.epoch old.known old.owners old.cues (view_owner owner) level f) same
    ∙ ap (λ t. goes (settled t) told) (ap (λ x. in_phase x name done old) (sym is) ∙ here)
