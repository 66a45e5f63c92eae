-- The answer is right: accepted exactly for the streams that pass, refused exactly with the first fault, for good.
use Rattle.std.proofs.Common.{◌≡◌, ℕ, suc, ◌+◌, ◌-◌, ◌<◌, ◌≤◌, Bool, true, false, ◌&&◌, if◌then◌else◌, List, [], ◌∷◌, ◌++◌, length, refl, sym, ◌∙◌, ap, ap₂, subst, arith, nat_le, take, drop, append-nil, length-append, leb-true, le-leb, inl, inr, true≢false}
use Rattle.std.proofs.lemmas.Bool.{leb-false}
use Rattle.std.proofs.lemmas.List.{take-append-drop, length-take-le}
use Rattle.jser_reading.proofs.Vocabulary.{ContentTrees, Goal, IsBytes, IsDone, begin_state, settled, top_goal}
use Rattle.jser_reading.specs.TokenBytes.{joined}
use Rattle.jser_reading.specs.GateLimits.{gate_of}
use Rattle.jser_reading.specs.Scanner.{Outcome, ended, refused, walk, PassesBy}
use Rattle.jser_verdict.specs.Reasons.{Reason, bytes_exceeded, truncated, turn, reason_with}
use Rattle.jser_verdict.specs.Gates.{Gate, limits_of}
use Rattle.jser_verdict.specs.Verdicts.{verdict}
use Rattle.jser_verdict.specs.FirstFault.{IsFault, IsFirstFault}
use Rattle.jser_verdict.specs.Answers.{Told, accepted, refused_at, is_top, is_none, told_whole, told_over, answer}
use Rattle.jser_verdict.specs.AnswerLaws.{AcceptsPassing, AcceptsNoFault, RefusesFirstFault}
use Rattle.jser_verdict.proofs.Turns.{reason_of_turn}
use Rattle.jser_verdict.proofs.OpenTokens.{no_row}
use Rattle.jser_verdict.proofs.SameWalks.{same_walk}
use Rattle.jser_verdict.proofs.Passing.{by_tokens, by_tree}
use Rattle.jser_verdict.proofs.WalkFaults.{refuses_the_first, cut_is_the_first, over_is_the_first, takes, taken}
use Rattle.jser_verdict.proofs.OneFault.{one_first_fault}
use Rattle.jser_verdict.proofs.ByteLists.{bytes_left}

top_done : (gs : List Goal) → is_top gs ≡ true → gs ≡ top_goal ∷ []
top_done (top_goal ∷ []) h = refl
top_done [] h = absurd (true≢false (sym h))
top_done (g ∷ h ∷ gs) e = absurd (not_top g h gs e)
  where
    not_top : (g h : Goal) (gs : List Goal) → is_top (g ∷ h ∷ gs) ≡ true → ⊥
    not_top top_goal h gs e = absurd (true≢false (sym e))
    not_top _ h gs e = absurd (true≢false (sym e))
top_done (_ ∷ []) h = absurd (true≢false (sym h))

none_empty : (p : List ℕ) → is_none p ≡ true → p ≡ []
none_empty [] h = refl
none_empty (b ∷ p) h = absurd (true≢false (sym h))

both_true : (a b : Bool) → (a && b) ≡ true → (a ≡ true) × (b ≡ true)
both_true true b h = (refl, h)
both_true false b h = absurd (true≢false (sym h))

abbrev RefusesFirst : Gate → List ℕ → Told → Type 0
RefusesFirst g bytes accepted = Unit {0}
RefusesFirst g bytes (refused_at at end r) = IsFirstFault g bytes at end r

placed : (g : Gate) (bytes : List ℕ) (at end at' end' k : ℕ) (r : Reason) → at ≡ at' → end ≡ end' → k ≡ turn r
    → IsFirstFault g bytes at' end' r → IsFirstFault g bytes at end (reason_with k)
placed g bytes at end at' end' k r ea ee ek x =
    let er : reason_with k ≡ r = ap reason_with ek ∙ reason_of_turn r in
    subst (λ q. IsFirstFault g bytes at end q) (sym er)
    (subst (λ a. IsFirstFault g bytes a end r) (sym ea) (subst (λ a. IsFirstFault g bytes at' a r) (sym ee) x))

module _ (g : Gate) (bytes : List ℕ) (hb : IsBytes bytes) where
  whole_first : length bytes ≤ g.bytes → (out : Outcome) → walk (verdict g) begin_state [] bytes ≡ out
      → RefusesFirst g bytes (told_whole (length bytes) out)
  whole_first le (refused wrong rest k) e =
      let x = refuses_the_first g bytes [] wrong rest k hb (le, inl refl) e in
      let l = x.3 in
      let f : IsFirstFault g bytes x.0 (x.0 + length wrong) x.1 = subst (λ z. IsFirstFault g z x.0 (x.0 + length wrong) x.1) (append-nil bytes) x.4 in
      placed g bytes (length bytes - length rest - length wrong) (length bytes - length rest) x.0 (x.0 + length wrong) k x.1
      (omega (arith, l)) (omega (arith, l)) x.2 f
  whole_first le (ended s cut) e = go (is_top (settled s).1 && is_none cut) refl
    where
      go : (b : Bool) → (is_top (settled s).1 && is_none cut) ≡ b
          → RefusesFirst g bytes (if b then accepted else refused_at (length bytes - length cut) (length bytes) truncated)
      go true eb = tt
      go false eb =
          let nd : IsDone (settled s) × (cut ≡ []) → ⊥ =
          λ d. let z : (is_top (settled s).1 && is_none cut) ≡ true = ap₂ (λ a c. is_top a && is_none c) d.0 d.1 in true≢false (sym z ∙ eb) in
          let x = cut_is_the_first g bytes cut s hb le e nd in
          let l = x.1 in
          let ea : x.0 ≡ length bytes - length cut = omega (arith, l) in
          subst (λ a. IsFirstFault g bytes a (length bytes) truncated) ea x.2

  over_first : g.bytes < length bytes → (out : Outcome) → walk (verdict g) begin_state [] (take g.bytes bytes) ≡ out
      → RefusesFirst g bytes (told_over g.bytes out)
  over_first lt out e = go out e (drop g.bytes bytes) split
    where
      split : take g.bytes bytes ++ drop g.bytes bytes ≡ bytes
      split = take-append-drop g.bytes bytes

      lt' : length (take g.bytes bytes) ≡ g.bytes
      lt' = length-take-le g.bytes bytes (omega (arith, lt))

      hs : IsBytes (take g.bytes bytes)
      hs = bytes_left (take g.bytes bytes) (drop g.bytes bytes) (subst (λ z. IsBytes z) (sym split) hb)

      go : (out : Outcome) → walk (verdict g) begin_state [] (take g.bytes bytes) ≡ out → (after : List ℕ) → take g.bytes bytes ++ after ≡ bytes
          → RefusesFirst g bytes (told_over g.bytes out)
      go (refused wrong rest k) e after es =
          let x = refuses_the_first g (take g.bytes bytes) after wrong rest k hs (omega (arith, lt'), inr lt') e in
          let l = x.3 in
          let f : IsFirstFault g bytes x.0 (x.0 + length wrong) x.1 = subst (λ z. IsFirstFault g z x.0 (x.0 + length wrong) x.1) es x.4 in
          placed g bytes (g.bytes - length rest - length wrong) (g.bytes - length rest) x.0 (x.0 + length wrong) k x.1
          (omega (arith, l, lt')) (omega (arith, l, lt')) x.2 f
      go (ended s cut) e [] es = absurd (omega (arith, ap length es, length-append (take g.bytes bytes) [], lt', lt))
      go (ended s cut) e (b ∷ after) es =
          let x = over_is_the_first g (take g.bytes bytes) cut b after s hs lt' e in
          let l = x.1 in
          let f : IsFirstFault g bytes x.0 (suc (length (take g.bytes bytes))) bytes_exceeded =
          subst (λ z. IsFirstFault g z x.0 (suc (length (take g.bytes bytes))) bytes_exceeded) es x.2 in
          let ea : x.0 ≡ g.bytes - length cut = omega (arith, l, lt') in
          let ee : suc (length (take g.bytes bytes)) ≡ suc g.bytes = omega (arith, lt') in
          subst (λ a. IsFirstFault g bytes a (suc g.bytes) bytes_exceeded) ea
          (subst (λ a. IsFirstFault g bytes x.0 a bytes_exceeded) ee f)

  answer_first : RefusesFirst g bytes (answer g bytes)
  answer_first = go (nat_le (length bytes) g.bytes) refl
    where
      go : (b : Bool) → nat_le (length bytes) g.bytes ≡ b
          → RefusesFirst g bytes (if b then told_whole (length bytes) (walk (verdict g) begin_state [] bytes) else told_over g.bytes (walk (verdict g) begin_state [] (take g.bytes bytes)))
      go true eb = whole_first (leb-true (length bytes) g.bytes eb) (walk (verdict g) begin_state [] bytes) refl
      go false eb = over_first (leb-false (length bytes) g.bytes eb) (walk (verdict g) begin_state [] (take g.bytes bytes)) refl

  abbrev Streams : Type 0
  Streams = (list : ContentTrees) × PassesBy (gate_of (limits_of g)) bytes list × (length bytes ≤ g.bytes)

  answer_yes : answer g bytes ≡ accepted → Streams
  answer_yes h = go (nat_le (length bytes) g.bytes) refl h
    where
      whole : length bytes ≤ g.bytes → (out : Outcome) → walk (verdict g) begin_state [] bytes ≡ out → told_whole (length bytes) out ≡ accepted → Streams
      whole le (refused wrong rest k) e h = absurd (cc)
      whole le (ended s cut) e h = done (is_top (settled s).1 && is_none cut) refl h
        where
          done : (b : Bool) → (is_top (settled s).1 && is_none cut) ≡ b
              → (if b then accepted else refused_at (length bytes - length cut) (length bytes) truncated) ≡ accepted → Streams
          done false eb h = absurd (cc)
          done true eb h =
              let p = both_true (is_top (settled s).1) (is_none cut) eb in
              let ec = none_empty cut p.1 in
              let x = takes g bytes hb (s, top_done (settled s).1 p.0, e ∙ ap (λ z. ended s z) ec) in
              (x.0, x.1, le)

      over : (out : Outcome) → told_over g.bytes out ≡ accepted → Streams
      over (refused wrong rest k) h = absurd (cc)
      over (ended s cut) h = absurd (cc)

      go : (b : Bool) → nat_le (length bytes) g.bytes ≡ b
          → (if b then told_whole (length bytes) (walk (verdict g) begin_state [] bytes) else told_over g.bytes (walk (verdict g) begin_state [] (take g.bytes bytes))) ≡ accepted → Streams
      go true eb h = whole (leb-true (length bytes) g.bytes eb) (walk (verdict g) begin_state [] bytes) refl h
      go false eb h = over (walk (verdict g) begin_state [] (take g.bytes bytes)) h

  yes_answer : (list : ContentTrees) → PassesBy (gate_of (limits_of g)) bytes list → length bytes ≤ g.bytes → answer g bytes ≡ accepted
  yes_answer list p le =
      let x = taken g bytes list hb p in
      ap (λ b. if b then told_whole (length bytes) (walk (verdict g) begin_state [] bytes) else told_over g.bytes (walk (verdict g) begin_state [] (take g.bytes bytes))) (le-leb (length bytes) g.bytes le)
      ∙ ap (told_whole (length bytes)) x.2
      ∙ ap (λ gs. if is_top gs && true then accepted else refused_at (length bytes - 0) (length bytes) truncated) x.1

  no_fault_at_all : (list : ContentTrees) → PassesBy (gate_of (limits_of g)) bytes list → length bytes ≤ g.bytes
      → (at end : ℕ) (r : Reason) → IsFault g bytes at end r → ⊥
  no_fault_at_all list p le at end r (l, some, rest, o, ee, inl h) =
      let x = taken g bytes list hb p in
      no_row g bytes [] x.0 (sym (same_walk g bytes hb) ∙ x.2) o.front l some rest r o.next o.split o.no_token h
  no_fault_at_all list p le at end r (l, some, rest, o, ee, inr (inl (er, et))) =
      let e1 = et.0 in
      let bg = o.begins in
      omega (arith, ap length o.split, length-append (joined o.front) (some ++ rest), length-append some rest, ee, e1, bg, le)
  no_fault_at_all list p le at end r (l, some, rest, o, ee, inr (inr (er, c))) = c.2 list p.0

  -- the first fault is told
  fault_told : (at end : ℕ) (r : Reason) → IsFirstFault g bytes at end r → (told : Told) → answer g bytes ≡ told
      → answer g bytes ≡ refused_at at end r
  fault_told at end r f accepted e =
      let y = answer_yes e in absurd (no_fault_at_all y.0 y.1 y.2 at end r f.0)
  fault_told at end r f (refused_at at' end' r') e =
      let first : IsFirstFault g bytes at' end' r' = rw e at answer_first in
      let one = one_first_fault g bytes at' end' at end r' r first f in
      e ∙ ap (λ z. refused_at z end' r') one.0 ∙ ap (λ z. refused_at at z r') one.1 ∙ ap (λ z. refused_at at end z) one.2

pub accepts_passing : AcceptsPassing
accepts_passing g bytes hb = (
  λ h. let x = answer_yes g bytes hb h in (x.0, by_tree g bytes x.0 x.1 x.2),
  λ (list, p). let x = by_tokens g bytes list p in yes_answer g bytes hb list x.0 x.1,
)

pub accepts_no_fault : AcceptsNoFault
accepts_no_fault g bytes hb h at end r f =
    let x = answer_yes g bytes hb h in no_fault_at_all g bytes hb x.0 x.1 x.2 at end r f

pub refuses_first_fault : RefusesFirstFault
refuses_first_fault g bytes at end r hb = (
  λ e. told e,
  λ f. fault_told g bytes hb at end r f (answer g bytes) refl,
)
  where
    told : answer g bytes ≡ refused_at at end r → IsFirstFault g bytes at end r
    told e = rw e at (answer_first g bytes hb)
