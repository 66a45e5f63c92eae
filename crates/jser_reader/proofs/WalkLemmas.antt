-- The walk over bytes: in two parts, up to the end of a token, and within one.
use Rattle.std.proofs.Common.{◌≡◌, ℕ, suc, ◌+◌, ◌<◌, ◌≤◌, cond, nat_lt, List, [], ◌∷◌, ◌++◌, length, Some, None, refl, sym, ◌∙◌, ap, ap₂, subst, arith, append_assoc, append-nil, length-append, lt-ltb, le-ltb, ◌⊎◌, inl, inr}
use Rattle.jser_reading.specs.Labels.{StreamToken, Label}
use Rattle.jser_reading.specs.TokensFromBytes.{size_in, token_in}
use Rattle.jser_reading.specs.Goals.{State, settled}
use Rattle.jser_reading.specs.Accepts.{label_of}
use Rattle.jser_reading.specs.Machine.{advance}
use Rattle.jser_reading.specs.Scanner.{Verdict, more, good, bad, VerdictOn, IsUndecided, Outcome, by_verdict, walk, refused, ended}
use Rattle.jser_verdict.specs.Reasons.{Reason, turn}
use Rattle.jser_verdict.specs.Gates.{Gate}
use Rattle.jser_verdict.specs.Verdicts.{reason_at, by_reason, found_token, verdict}
use Rattle.jser_reader.specs.Readers.{Seen}
use Rattle.jser_reader.specs.Walks.{Stands, Keeps}

-- the walk over some bytes, and then others
pub walk_on : (v : VerdictOn) (bytes others : List ℕ) (s t : State) (p cut : List ℕ) → walk v s p bytes ≡ ended t cut
    → walk v s p (bytes ++ others) ≡ walk v t cut others
walk_on v [] others s t p cut e =
    let es : s ≡ t = cc in
    let ep : p ≡ cut = cc in
    ap₂ (λ x y. walk v x y others) es ep
walk_on v (b ∷ bytes) others s t p cut e =
    go (v (label_of (settled s)) (p ++ (b ∷ []))) (λ r q. walk_on v bytes others r t q cut) e
  where
    go : (y : Verdict) → ((r : State) (q : List ℕ) → walk v r q bytes ≡ ended t cut → walk v r q (bytes ++ others) ≡ walk v t cut others)
        → by_verdict y (walk v s (p ++ (b ∷ [])) bytes) (λ f. walk v (advance (settled s) f) [] bytes) (λ r. refused (p ++ (b ∷ [])) bytes r) ≡ ended t cut
        → by_verdict y (walk v s (p ++ (b ∷ [])) (bytes ++ others)) (λ f. walk v (advance (settled s) f) [] (bytes ++ others))
        (λ r. refused (p ++ (b ∷ [])) (bytes ++ others) r) ≡ walk v t cut others
    go more k e = k s (p ++ (b ∷ [])) e
    go (good f) k e = k (advance (settled s) f) [] e
    go (bad r) k e = absurd (cc)

-- what the verdict on these bytes makes of the walk over those that follow
abbrev pub judged_by : VerdictOn → State → (bytes rest : List ℕ) → Outcome
judged_by v s bytes rest =
    by_verdict (v (label_of (settled s)) bytes) (walk v s bytes rest) (λ f. walk v (advance (settled s) f) [] rest)
    (λ reason. refused bytes rest reason)

-- where no front of the bytes of a token decides, the bytes are judged as a whole
pub walk_token : (v : VerdictOn) (s : State) (taken cut rest : List ℕ) → 0 < length taken
    → IsUndecided v (label_of (settled s)) (cut ++ taken) → walk v s cut (taken ++ rest) ≡ judged_by v s (cut ++ taken) rest
walk_token v s [] cut rest some u = absurd (omega arith)
walk_token v s (b ∷ []) cut rest some u = refl
walk_token v s (b ∷ c ∷ taken) cut rest some u =
    let same : (cut ++ (b ∷ [])) ++ (c ∷ taken) ≡ cut ++ (b ∷ c ∷ taken) = append_assoc cut (b ∷ []) (c ∷ taken) in
    let m : v (label_of (settled s)) (cut ++ (b ∷ [])) ≡ more = u (cut ++ (b ∷ [])) c taken (sym same) in
    let ih = walk_token v s (c ∷ taken) (cut ++ (b ∷ [])) rest (omega arith) (subst (IsUndecided v (label_of (settled s))) (sym same) u) in
    ap (λ y. by_verdict y (walk v s (cut ++ (b ∷ [])) (c ∷ (taken ++ rest))) (λ f. walk v (advance (settled s) f) [] (c ∷ (taken ++ rest)))
    (λ r. refused (cut ++ (b ∷ [])) (c ∷ (taken ++ rest)) r)) m
    ∙ ih ∙ ap (λ p. judged_by v s p rest) same

-- and where they do not decide either, the token stays open
pub walk_open : (v : VerdictOn) (s : State) (taken cut : List ℕ) → IsUndecided v (label_of (settled s)) (cut ++ taken)
    → v (label_of (settled s)) (cut ++ taken) ≡ more → walk v s cut taken ≡ ended s (cut ++ taken)
walk_open v s [] cut u m = ap (λ c. ended s c) (sym (append-nil cut))
walk_open v s (b ∷ taken) cut u m =
    ap (walk v s cut) (sym (append-nil (b ∷ taken)))
    ∙ walk_token v s (b ∷ taken) cut [] (omega arith) u
    ∙ ap (λ y. by_verdict y (walk v s (cut ++ (b ∷ taken)) []) (λ f. walk v (advance (settled s) f) [] [])
    (λ r. refused (cut ++ (b ∷ taken)) [] r)) m

-- the last of some bytes, and a front that is short of all
pub before_last : (xs : List ℕ) (b : ℕ) (a : List ℕ) (c : ℕ) (d : List ℕ) → xs ++ (b ∷ []) ≡ a ++ (c ∷ d)
    → (a ≡ xs) ⊎ ((rest : List ℕ) × (xs ≡ a ++ (c ∷ rest)))
before_last [] b [] c d e = inl refl
before_last [] b (y ∷ a) c d e =
    let n : 1 ≡ suc (length (a ++ (c ∷ d))) = ap length e in
    let m : length (a ++ (c ∷ d)) ≡ length a + suc (length d) = length-append a (c ∷ d) in
    absurd (omega arith)
before_last (x ∷ xs) b [] c d e = let h : x ≡ c = cc in inr (xs, ap (λ z. z ∷ xs) h)
before_last (x ∷ xs) b (y ∷ a) c d e =
    let h : x ≡ y = cc in
    let t : xs ++ (b ∷ []) ≡ a ++ (c ∷ d) = cc in
    elim (before_last xs b a c d t) [
      | inl k ↦ inl (ap₂ (λ p q. p ∷ q) (sym h) k)
      | inr k ↦ inr (k.0, ap₂ (λ p q. p ∷ q) h k.1)
    ]

-- the verdict on the bytes of a token

pub verdict_more : (g : Gate) (l : Label) (bytes : List ℕ) → reason_at g l l.position bytes ≡ None
    → length bytes < size_in l.position bytes → verdict g l bytes ≡ more
verdict_more g l bytes e k =
    ap₂ (λ o x. by_reason o (cond x more (found_token (token_in l.position bytes)))) e (lt-ltb (length bytes) (size_in l.position bytes) k)

pub verdict_good : (g : Gate) (l : Label) (bytes : List ℕ) (f : StreamToken) → reason_at g l l.position bytes ≡ None
    → size_in l.position bytes ≤ length bytes → token_in l.position bytes ≡ Some f → verdict g l bytes ≡ good f
verdict_good g l bytes f e k h =
    ap₂ (λ o x. by_reason o (cond x more (found_token (token_in l.position bytes)))) e (le-ltb (length bytes) (size_in l.position bytes) k)
    ∙ ap found_token h

pub verdict_bad : (g : Gate) (l : Label) (bytes : List ℕ) (r : Reason) → reason_at g l l.position bytes ≡ Some r
    → verdict g l bytes ≡ bad (turn r)
verdict_bad g l bytes r e =
    ap (λ o. by_reason o (cond (nat_lt (length bytes) (size_in l.position bytes)) more (found_token (token_in l.position bytes)))) e

-- no byte was taken
pub kept_none : (gate : Gate) (r : Seen) → Keeps gate [] r r
unfolding Keeps
kept_none gate r = λ s cut st. record {
  walks = ap (λ c. ended s c) (sym (append-nil cut));
  stands = subst (Stands gate r (settled s)) (sym (append-nil cut)) st;
  at = omega arith;
}
