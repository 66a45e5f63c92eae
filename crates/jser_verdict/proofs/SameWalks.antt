-- The walks by the two verdicts are equal.
use Rattle.std.proofs.Common.{◌≡◌, ℕ, List, [], ◌∷◌, ◌++◌, refl, sym, ◌∙◌, ap, subst}
use Rattle.jser_reading.proofs.Vocabulary.{IsBytes, StreamToken, Label, Piece, piece, settled, label_of, Accepts, advance, begin_state, Runs, left}
use Rattle.jser_reading.specs.Scanner.{Verdict, by_verdict, more, good, bad, refused, walk}
use Rattle.jser_reading.proofs.Fronts.{left-append, Runs-append}
use Rattle.jser_reading.proofs.Next.{next_law}
use Rattle.jser_reading.proofs.Walking.{snoc_more}
use Rattle.jser_verdict.specs.Gates.{Gate}
use Rattle.jser_verdict.specs.Verdicts.{verdict}
use Rattle.jser_verdict.proofs.Scanning.{scanning_verdict}
use Rattle.jser_verdict.specs.TokenLaws.{VerdictScans}
use Rattle.jser_verdict.proofs.Scans.{verdict_scans}
use Rattle.jser_verdict.proofs.ToldRows.{more_short, same_verdict}
use Rattle.jser_verdict.proofs.ByteLists.{bytes_left, bytes_right}
use Rattle.jser_verdict.proofs.ReadTokens.{read_next, size_next}

walk_same : (g : Gate) (bs : List ℕ) (front : List Piece) (p : List ℕ) → Runs begin_state front
    → scanning_verdict g (label_of (settled (left begin_state front))) p ≡ more → IsBytes (p ++ bs)
    → walk (verdict g) (left begin_state front) p bs ≡ walk (scanning_verdict g) (left begin_state front) p bs
walk_same g [] front p r m h = refl
walk_same g (b ∷ bs) front p r m h =
    go (scanning_verdict g l (p ++ (b ∷ []))) refl (λ ev. walk_same g bs front (p ++ (b ∷ [])) r ev hq)
    (λ f a. next f a (walk_same g bs (front ++ (piece l f ∷ [])) [] (Runs-append front (piece l f ∷ []) begin_state r (refl, a, tt)) ((verdict_scans g).nothing_yet (label_of (settled (left begin_state (front ++ (piece l f ∷ [])))))) hb))
  where
    l : Label
    l = label_of (settled (left begin_state front))

    hq : IsBytes ((p ++ (b ∷ [])) ++ bs)
    hq = subst (λ z. IsBytes z) (sym (snoc_more p b bs)) h

    hb : IsBytes bs
    hb = bytes_right (p ++ (b ∷ [])) bs hq

    same : verdict g l (p ++ (b ∷ [])) ≡ scanning_verdict g l (p ++ (b ∷ []))
    same = same_verdict g l (p ++ (b ∷ [])) (read_next front l ((next_law front l).1 (r, refl))) (bytes_left (p ++ (b ∷ [])) bs hq)
        (size_next l.position p b (more_short g l p m))

    next : (f : StreamToken) → Accepts l f
        → walk (verdict g) (left begin_state (front ++ (piece l f ∷ []))) [] bs ≡ walk (scanning_verdict g) (left begin_state (front ++ (piece l f ∷ []))) [] bs
        → walk (verdict g) (advance (settled (left begin_state front)) f) [] bs ≡ walk (scanning_verdict g) (advance (settled (left begin_state front)) f) [] bs
    next f a e = subst (λ s. walk (verdict g) s [] bs ≡ walk (scanning_verdict g) s [] bs) (left-append front (piece l f ∷ []) begin_state) e

    go : (x : Verdict) → scanning_verdict g l (p ++ (b ∷ [])) ≡ x
        → (scanning_verdict g l (p ++ (b ∷ [])) ≡ more
        → walk (verdict g) (left begin_state front) (p ++ (b ∷ [])) bs ≡ walk (scanning_verdict g) (left begin_state front) (p ++ (b ∷ [])) bs)
        → ((f : StreamToken) → Accepts l f
        → walk (verdict g) (advance (settled (left begin_state front)) f) [] bs ≡ walk (scanning_verdict g) (advance (settled (left begin_state front)) f) [] bs)
        → walk (verdict g) (left begin_state front) p (b ∷ bs) ≡ walk (scanning_verdict g) (left begin_state front) p (b ∷ bs)
    go more ev m' f' = step more ev ∙ m' ev ∙ sym (step_v more ev)
      where
        step : (x : Verdict) → scanning_verdict g l (p ++ (b ∷ [])) ≡ x → walk (verdict g) (left begin_state front) p (b ∷ bs)
            ≡ by_verdict x (walk (verdict g) (left begin_state front) (p ++ (b ∷ [])) bs)
            (λ f. walk (verdict g) (advance (settled (left begin_state front)) f) [] bs) (λ k. refused (p ++ (b ∷ [])) bs k)
        step x ev = ap (λ y. by_verdict y (walk (verdict g) (left begin_state front) (p ++ (b ∷ [])) bs)
            (λ f. walk (verdict g) (advance (settled (left begin_state front)) f) [] bs) (λ k. refused (p ++ (b ∷ [])) bs k)) (same ∙ ev)

        step_v : (x : Verdict) → scanning_verdict g l (p ++ (b ∷ [])) ≡ x → walk (scanning_verdict g) (left begin_state front) p (b ∷ bs)
            ≡ by_verdict x (walk (scanning_verdict g) (left begin_state front) (p ++ (b ∷ [])) bs)
            (λ f. walk (scanning_verdict g) (advance (settled (left begin_state front)) f) [] bs) (λ k. refused (p ++ (b ∷ [])) bs k)
        step_v x ev = ap (λ y. by_verdict y (walk (scanning_verdict g) (left begin_state front) (p ++ (b ∷ [])) bs)
            (λ f. walk (scanning_verdict g) (advance (settled (left begin_state front)) f) [] bs) (λ k. refused (p ++ (b ∷ [])) bs k)) ev
    go (good fd) ev m' f' =
        ap (λ y. by_verdict y (walk (verdict g) (left begin_state front) (p ++ (b ∷ [])) bs)
        (λ f. walk (verdict g) (advance (settled (left begin_state front)) f) [] bs) (λ k. refused (p ++ (b ∷ [])) bs k)) (same ∙ ev)
        ∙ f' fd ((verdict_scans g).good_is l (p ++ (b ∷ [])) fd ev).1
        ∙ sym (ap (λ y. by_verdict y (walk (scanning_verdict g) (left begin_state front) (p ++ (b ∷ [])) bs)
        (λ f. walk (scanning_verdict g) (advance (settled (left begin_state front)) f) [] bs) (λ k. refused (p ++ (b ∷ [])) bs k)) ev)
    go (bad j) ev m' f' =
        ap (λ y. by_verdict y (walk (verdict g) (left begin_state front) (p ++ (b ∷ [])) bs)
        (λ f. walk (verdict g) (advance (settled (left begin_state front)) f) [] bs) (λ k. refused (p ++ (b ∷ [])) bs k)) (same ∙ ev)
        ∙ sym (ap (λ y. by_verdict y (walk (scanning_verdict g) (left begin_state front) (p ++ (b ∷ [])) bs)
        (λ f. walk (scanning_verdict g) (advance (settled (left begin_state front)) f) [] bs) (λ k. refused (p ++ (b ∷ [])) bs k)) ev)

pub same_walk : (g : Gate) (bytes : List ℕ) → IsBytes bytes
    → walk (verdict g) begin_state [] bytes ≡ walk (scanning_verdict g) begin_state [] bytes
same_walk g bytes h = walk_same g bytes [] [] tt ((verdict_scans g).nothing_yet (label_of (settled begin_state))) h

pub verdict_scans_law : VerdictScans
verdict_scans_law g =
    (scanning_verdict g, verdict_scans g, λ l p rd hb le. same_verdict g l p rd hb le, λ bytes hb. same_walk g bytes hb)
