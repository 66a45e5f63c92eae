-- The laws of the walk by the verdict that code follows: those of the walk by the verdict that looks at the format.
use Rattle.std.proofs.Common.{◌≡◌, ℕ, List, [], ◌∷◌, ◌++◌, length, refl, sym, ◌∙◌, ap, ap₂, subst, arith, length-append, inl, inr}
use Rattle.jser_reading.proofs.Vocabulary.{ContentTrees, IsBytes, State, StreamToken, advance, begin_state, label_of, settled}
use Rattle.jser_reading.specs.TokenBytes.{joined}
use Rattle.jser_reading.specs.GateLimits.{gate_of}
use Rattle.jser_reading.specs.Scanner.{Verdict, more, good, bad, VerdictOn, ended, refused, walk, PassesBy}
use Rattle.jser_reading.specs.WalkLaws.{TakesWhole}
use Rattle.jser_reading.proofs.Faults.{accepts_law}
use Rattle.jser_verdict.specs.Gates.{Gate, limits_of}
use Rattle.jser_verdict.specs.Passing.{Passes}
use Rattle.jser_verdict.specs.Verdicts.{verdict}
use Rattle.jser_verdict.proofs.Scanning.{scanning_verdict}
use Rattle.jser_verdict.specs.FaultLaws.{RefusesTheFirst, CutIsTheFirst, OverIsTheFirst, RefusesPromptly, DecidesAlone}
use Rattle.jser_verdict.proofs.Scans.{verdict_scans}
use Rattle.jser_verdict.proofs.OpenTokens.{no_row}
use Rattle.jser_verdict.proofs.FirstFaults.{refuses_first, cut_first, over_first}
use Rattle.jser_verdict.proofs.SameWalks.{same_walk}
use Rattle.jser_verdict.proofs.Passing.{by_tokens}
use Rattle.jser_verdict.proofs.ByteLists.{bytes_left, bytes_both}

pub refuses_the_first : RefusesTheFirst
refuses_the_first g seen behind wrong rest k hb cap e =
    refuses_first g seen behind wrong rest k hb cap (sym (same_walk g seen hb) ∙ e)

pub cut_is_the_first : CutIsTheFirst
cut_is_the_first g bytes cut s hb cap e nd = cut_first g bytes cut s cap (sym (same_walk g bytes hb) ∙ e) nd

pub over_is_the_first : OverIsTheFirst
over_is_the_first g seen cut b after s hb cap e = over_first g seen cut b after s cap (sym (same_walk g seen hb) ∙ e)

-- the walk takes exactly the streams that the gate lets through token by token
pub takes : (g : Gate) (bytes : List ℕ) → IsBytes bytes → TakesWhole (verdict g) bytes
    → (list : ContentTrees) × PassesBy (gate_of (limits_of g)) bytes list
takes g bytes hb (s, d, e) =
    (accepts_law (gate_of (limits_of g)) (scanning_verdict g) (verdict_scans g) bytes).0 (s, d, sym (same_walk g bytes hb) ∙ e)

pub taken : (g : Gate) (bytes : List ℕ) (list : ContentTrees) → IsBytes bytes → PassesBy (gate_of (limits_of g)) bytes list
    → TakesWhole (verdict g) bytes
taken g bytes list hb p =
    let x = (accepts_law (gate_of (limits_of g)) (scanning_verdict g) (verdict_scans g) bytes).1 (list, p) in
    (x.0, x.1, same_walk g bytes hb ∙ x.2)

-- where a walk within the limit refuses nothing, only Truncated holds
pub refuses_promptly : RefusesPromptly
refuses_promptly g seen cut s hb le e at end r (l, some, rest, o, ee, inl h) =
    absurd (no_row g seen cut s (sym (same_walk g seen hb) ∙ e) o.front l some rest r o.next o.split o.no_token h)
refuses_promptly g seen cut s hb le e at end r (l, some, rest, o, ee, inr (inl (er, et))) =
    let e1 = et.0 in
    let bg = o.begins in
    absurd (omega (arith, ap length o.split, length-append (joined o.front) (some ++ rest), length-append some rest, ee, e1, bg, le))
refuses_promptly g seen cut s hb le e at end r (l, some, rest, o, ee, inr (inr (er, c))) = er

-- the bytes that decide
abbrev Decides : VerdictOn → State → List ℕ → List ℕ → List ℕ → List ℕ → ℕ → Type 0
Decides v s p bs w q k = (d : List ℕ) × (bs ≡ d ++ q) × ((x : List ℕ) → walk v s p (d ++ x) ≡ refused w x k)

walk_decides : (v : VerdictOn) (bs : List ℕ) (s : State) (p w q : List ℕ) (k : ℕ) → walk v s p bs ≡ refused w q k → Decides v s p bs w q k
walk_decides v [] s p w q k e = absurd (cc)
walk_decides v (b ∷ bs) s p w q k e =
    go (v (label_of (settled s)) (p ++ (b ∷ []))) refl (λ e1. walk_decides v bs s (p ++ (b ∷ [])) w q k e1)
    (λ f e1. walk_decides v bs (advance (settled s) f) [] w q k e1)
  where
    go : (x : Verdict) → v (label_of (settled s)) (p ++ (b ∷ [])) ≡ x
        → (walk v s (p ++ (b ∷ [])) bs ≡ refused w q k → Decides v s (p ++ (b ∷ [])) bs w q k)
        → ((f : StreamToken) → walk v (advance (settled s) f) [] bs ≡ refused w q k → Decides v (advance (settled s) f) [] bs w q k)
        → Decides v s p (b ∷ bs) w q k
    go more ex m f = let r = m (rw ex at e) in (b ∷ r.0, ap (λ z. b ∷ z) r.1, λ x. rw ex (r.2 x))
    go (good fd) ex m f = let r = f fd (rw ex at e) in (b ∷ r.0, ap (λ z. b ∷ z) r.1, λ x. rw ex (r.2 x))
    go (bad j) ex m f =
        let z : refused (p ++ (b ∷ [])) bs j ≡ refused w q k = rw ex at e in
        let ew : p ++ (b ∷ []) ≡ w = cc in
        let eq : bs ≡ q = cc in
        let ek : j ≡ k = cc in
        (b ∷ [], ap (λ z. b ∷ z) eq, λ x. rw ex (ap₂ (λ a c. refused a x c) ew ek))

pub decides_alone : DecidesAlone
decides_alone g seen wrong rest k hb e =
    let x = walk_decides (verdict g) seen begin_state [] wrong rest k e in
    let hd : IsBytes x.0 = bytes_left x.0 rest (subst (λ z. IsBytes z) x.1 hb) in
    (x.0, x.1, x.2, λ behind list h p. none (x.0 ++ behind) behind list (bytes_both x.0 behind hd h) (x.2 behind) p)
  where
    none : (bytes behind : List ℕ) (list : ContentTrees) → IsBytes bytes → walk (verdict g) begin_state [] bytes ≡ refused wrong behind k
        → Passes g bytes list → ⊥
    none bytes behind list h e p =
        let y = taken g bytes list h (by_tokens g bytes list p).0 in
        let z : ended y.0 [] ≡ refused wrong behind k = sym y.2 ∙ e in
        cc
