-- A refusal, save Truncated, is the same with any bytes after those that decide, and no stream that passes begins with
-- them.
use Rattle.std.proofs.Common.{◌≡◌, ℕ, suc, ◌-◌, ◌<◌, ◌≤◌, Bool, true, false, ◌&&◌, if◌then◌else◌, List, [], ◌++◌, length, refl, sym, ◌∙◌, ap, subst, arith, nat_le, take, drop, append_assoc, append-nil, length-append, le-leb, inl, inr}
use Rattle.std.proofs.lemmas.Bool.{cases_lt}
use Rattle.std.proofs.lemmas.List.{take-append-drop, length-take-le, take_at}
use Rattle.std.proofs.lemmas.Bool.Decides.{nat_tests}
use Rattle.jser_reading.proofs.Vocabulary.{ContentTrees, IsBytes, begin_state, settled}
use Rattle.jser_reading.specs.Scanner.{Outcome, ended, refused, walk}
use Rattle.jser_verdict.specs.Reasons.{Reason, bytes_exceeded, truncated, reason_with}
use Rattle.jser_verdict.specs.Gates.{Gate}
use Rattle.jser_verdict.specs.Passing.{Passes}
use Rattle.jser_verdict.specs.Verdicts.{verdict}
use Rattle.jser_verdict.specs.Answers.{Told, accepted, refused_at, is_top, is_none, told_whole, told_over, answer}
use Rattle.jser_verdict.specs.AnswerLaws.{RefusedForGood}
use Rattle.jser_verdict.proofs.WalkFaults.{decides_alone}
use Rattle.jser_verdict.proofs.AnswerLaws.{accepts_passing}
use Rattle.jser_verdict.proofs.ByteLists.{bytes_left, bytes_both, take_again, take_past}

module _ (g : Gate) where
  -- the answer, by whether the bytes are within the limit
  within : (bytes : List ℕ) → length bytes ≤ g.bytes
      → answer g bytes ≡ told_whole (length bytes) (walk (verdict g) begin_state [] bytes)
  within bytes h =
      ap (λ b. if b then told_whole (length bytes) (walk (verdict g) begin_state [] bytes) else told_over g.bytes (walk (verdict g) begin_state [] (take g.bytes bytes)))
      (le-leb (length bytes) g.bytes h)

  beyond : (bytes : List ℕ) → g.bytes < length bytes
      → answer g bytes ≡ told_over g.bytes (walk (verdict g) begin_state [] (take g.bytes bytes))
  beyond bytes h =
      ap (λ b. if b then told_whole (length bytes) (walk (verdict g) begin_state [] bytes) else told_over g.bytes (walk (verdict g) begin_state [] (take g.bytes bytes)))
      (over (length bytes) g.bytes h)
    where
      over : (a b : ℕ) → b < a → nat_le a b ≡ false
      over a b h = grind (arith, nat_tests)

  abbrev At : ℕ → List ℕ → ℕ → Told
  At end wrong k = refused_at (end - length wrong) end (reason_with k)

  -- bytes that decide, with any after them
  answers : (decide wrong : List ℕ) (k : ℕ) → length decide ≤ g.bytes
      → ((behind : List ℕ) → walk (verdict g) begin_state [] (decide ++ behind) ≡ refused wrong behind k)
      → (behind : List ℕ) → answer g (decide ++ behind) ≡ At (length decide) wrong k
  answers decide wrong k le again behind = elim (cases_lt g.bytes (length (decide ++ behind))) [
    | inr h ↦
        let e : length (decide ++ behind) - length behind ≡ length decide = omega (arith, length-append decide behind) in
        within (decide ++ behind) h ∙ ap (told_whole (length (decide ++ behind))) (again behind) ∙ ap (λ n. At n wrong k) e
    | inl h ↦
        let n : ℕ = g.bytes - length decide in
        let l : length (take n behind) ≡ n = length-take-le n behind (omega (arith, length-append decide behind, h, le)) in
        let e : g.bytes - length (take n behind) ≡ length decide = omega (arith, l, le) in
        beyond (decide ++ behind) h
        ∙ ap (λ z. told_over g.bytes (walk (verdict g) begin_state [] z)) (take_past decide behind g.bytes le)
        ∙ ap (told_over g.bytes) (again (take n behind)) ∙ ap (λ n. At n wrong k) e
  ]

  -- what the walk over the first bytes refuses
  refused_again : (bytes seen after wrong rest : List ℕ) (k : ℕ) → IsBytes seen → length seen ≤ g.bytes → bytes ≡ seen ++ after
      → walk (verdict g) begin_state [] seen ≡ refused wrong rest k
      → (behind : List ℕ) → answer g (take (length seen - length rest) bytes ++ behind) ≡ At (length seen - length rest) wrong k
  refused_again bytes seen after wrong rest k hb le es e behind =
      let x = decides_alone g seen wrong rest k hb e in
      let l : length x.0 ≡ length seen - length rest = omega (arith, ap length x.1, length-append x.0 rest) in
      let split : bytes ≡ x.0 ++ (rest ++ after) = es ∙ ap (λ z. z ++ after) x.1 ∙ append_assoc x.0 rest after in
      let t : take (length seen - length rest) bytes ≡ x.0 =
      ap (take (length seen - length rest)) split ∙ take_at x.0 (rest ++ after) (length seen - length rest) l in
      ap (λ z. answer g (z ++ behind)) t
      ∙ answers x.0 wrong k (omega (arith, l, le)) x.2 behind ∙ ap (λ n. At n wrong k) l

  module _ (bytes : List ℕ) (hb : IsBytes bytes) (behind : List ℕ) where
    abbrev Again : (at end : ℕ) → Reason → Type 0
    Again at end r = answer g (take end bytes ++ behind) ≡ refused_at at end r

    moved : (at end at' end' : ℕ) (r r' : Reason) → refused_at at' end' r' ≡ refused_at at end r → Again at' end' r'
        → Again at end r
    moved at end at' end' r r' e h =
        let ea : at' ≡ at = cc in
        let ee : end' ≡ end = cc in
        let er : r' ≡ r = cc in
        subst (λ q. Again at end q) er (subst (λ a. Again at a r') ee (subst (λ a. Again a end' r') ea h))

    whole : length bytes ≤ g.bytes → (at end : ℕ) (r : Reason) → (r ≡ truncated → ⊥) → (out : Outcome)
        → walk (verdict g) begin_state [] bytes ≡ out → told_whole (length bytes) out ≡ refused_at at end r → Again at end r
    whole le at end r nt (refused wrong rest k) e h =
        moved at end (length bytes - length rest - length wrong) (length bytes - length rest) r (reason_with k) h
        (refused_again bytes bytes [] wrong rest k hb le (sym (append-nil bytes)) e behind)
    whole le at end r nt (ended s cut) e h = go (is_top (settled s).1 && is_none cut) h
      where
        go : (b : Bool) → (if b then accepted else refused_at (length bytes - length cut) (length bytes) truncated) ≡ refused_at at end r
            → Again at end r
        go true h = absurd (cc)
        go false h = let er : truncated ≡ r = cc in absurd (nt (sym er))

    over : g.bytes < length bytes → (at end : ℕ) (r : Reason) → (out : Outcome)
        → walk (verdict g) begin_state [] (take g.bytes bytes) ≡ out → told_over g.bytes out ≡ refused_at at end r → Again at end r
    over lt at end r (refused wrong rest k) e h =
        let l : length (take g.bytes bytes) ≡ g.bytes = length-take-le g.bytes bytes (omega (arith, lt)) in
        let split : take g.bytes bytes ++ drop g.bytes bytes ≡ bytes = take-append-drop g.bytes bytes in
        let hs : IsBytes (take g.bytes bytes) =
        bytes_left (take g.bytes bytes) (drop g.bytes bytes) (subst (λ z. IsBytes z) (sym split) hb) in
        let x = refused_again bytes (take g.bytes bytes) (drop g.bytes bytes) wrong rest k hs (omega (arith, l)) (sym split) e behind in
        moved at end (g.bytes - length rest - length wrong) (g.bytes - length rest) r (reason_with k) h
        (subst (λ n. Again (n - length rest - length wrong) (n - length rest) (reason_with k)) l x)
    over lt at end r (ended s cut) e h =
        let l : length (take (suc g.bytes) bytes) ≡ suc g.bytes = length-take-le (suc g.bytes) bytes (omega (arith, lt)) in
        let long : g.bytes < length (take (suc g.bytes) bytes ++ behind) =
        omega (arith, l, length-append (take (suc g.bytes) bytes) behind) in
        moved at end (g.bytes - length cut) (suc g.bytes) r bytes_exceeded h
        (beyond (take (suc g.bytes) bytes ++ behind) long
        ∙ ap (λ z. told_over g.bytes (walk (verdict g) begin_state [] z)) (take_again g.bytes bytes behind lt) ∙ ap (told_over g.bytes) e)

    again : (at end : ℕ) (r : Reason) → answer g bytes ≡ refused_at at end r → (r ≡ truncated → ⊥) → Again at end r
    again at end r e nt = elim (cases_lt g.bytes (length bytes)) [
      | inr h ↦ whole h at end r nt (walk (verdict g) begin_state [] bytes) refl (sym (within bytes h) ∙ e)
      | inl h ↦ over h at end r (walk (verdict g) begin_state [] (take g.bytes bytes)) refl (sym (beyond bytes h) ∙ e)
    ]

pub refused_for_good : RefusedForGood
refused_for_good g bytes at end r hb e nt behind hh = (same, λ list p. never list p)
  where
    same : answer g (take end bytes ++ behind) ≡ refused_at at end r
    same = again g bytes hb behind at end r e nt

    first : IsBytes (take end bytes)
    first = bytes_left (take end bytes) (drop end bytes) (subst (λ z. IsBytes z) (sym (take-append-drop end bytes)) hb)

    never : (list : ContentTrees) → Passes g (take end bytes ++ behind) list → ⊥
    never list p =
        let x : answer g (take end bytes ++ behind) ≡ accepted =
        (accepts_passing g (take end bytes ++ behind) (bytes_both (take end bytes) behind first hh)).1 (list, p) in
        let z : accepted ≡ refused_at at end r = sym x ∙ same in
        cc
