-- The walk over bytes, for one verdict and its gate: whole tokens are taken, refused bytes are told, and what was
-- taken on the way are whole tokens.
use Rattle.std.proofs.Common.{◌≡◌, ℕ, ◌≤◌, Bool, true, false, List, [], ◌∷◌, ◌++◌, length, refl, sym, ◌∙◌, ap, ap₂, arith, IsTrue, append_assoc, append-nil}
use Rattle.jser_reading.proofs.Vocabulary.{StreamToken, Label, Piece, piece, State, settled, label_of, Accepts, advance, begin_state, Runs, left}
use Rattle.std.proofs.Common.{length-append}
use Rattle.jser_reading.specs.TokenBytes.{bytes_of, joined}
use Rattle.jser_reading.specs.Scanner.{Verdict, more, good, bad, VerdictOn, TokenGate, IsUndecided, IsScanner, Outcome, ended, refused, by_verdict, walk, AllPass, HasNoToken}

pub snoc_more : (p : List ℕ) (b : ℕ) (q : List ℕ) → (p ++ (b ∷ [])) ++ q ≡ p ++ (b ∷ q)
snoc_more p b q = append_assoc p (b ∷ []) q

-- a proper front of p and one more is a front of p
pub front_of : (a p : List ℕ) (x c : ℕ) (b : List ℕ) → p ++ (x ∷ []) ≡ a ++ (c ∷ b) → (d : List ℕ) × (p ≡ a ++ d)
front_of [] p x c b e = (p, refl)
front_of (y ∷ a) [] x c b e = absurd (nonempty a c b (cc))
  where
    nonempty : (a : List ℕ) (c : ℕ) (b : List ℕ) → [] ≡ a ++ (c ∷ b) → ⊥
    nonempty [] c b e = cc
    nonempty (z ∷ a) c b e = cc
front_of (y ∷ a) (z ∷ p) x c b e =
    let t : p ++ (x ∷ []) ≡ a ++ (c ∷ b) = cc in
    let yz : z ≡ y = cc in
    let r = front_of a p x c b t in (r.0, ap₂ (λ n q. n ∷ q) yz r.1)

pub joined-append : (a b : List Piece) → joined (a ++ b) ≡ joined a ++ joined b
joined-append [] b = refl
joined-append (piece l f ∷ a) b =
    ap (λ x. bytes_of f ++ x) (joined-append a b) ∙ sym (append_assoc (bytes_of f) (joined a) (joined b))

module _ (gate : TokenGate) (verdict : VerdictOn) (sc : IsScanner gate verdict) where
  -- a whole token is taken
  walk_token_from : (b : List ℕ) (c : ℕ) (a : List ℕ) (s : State) (f : StreamToken) (bs : List ℕ)
      → Accepts (label_of (settled s)) f → IsTrue (gate (label_of (settled s)) f)
      → bytes_of f ≡ a ++ (c ∷ b) → walk verdict s a (c ∷ (b ++ bs)) ≡ walk verdict (advance (settled s) f) [] bs
  walk_token_from [] c a s f bs h g e =
      let l = label_of (settled s) in
      let v : verdict l (a ++ (c ∷ [])) ≡ good f = rw (← e) (sc.is_good l f h g) in
      rw v refl
  walk_token_from (c' ∷ b) c a s f bs h g e =
      let l = label_of (settled s) in
      let e' : bytes_of f ≡ (a ++ (c ∷ [])) ++ (c' ∷ b) = e ∙ sym (snoc_more a c (c' ∷ b)) in
      let v : verdict l (a ++ (c ∷ [])) ≡ more = sc.before_end l f h g (a ++ (c ∷ [])) c' b e' in
      rw v (walk_token_from b c' (a ++ (c ∷ [])) s f bs h g e')

  walk_token : (s : State) (f : StreamToken) (bs : List ℕ) → Accepts (label_of (settled s)) f
      → IsTrue (gate (label_of (settled s)) f)
      → walk verdict s [] (bytes_of f ++ bs) ≡ walk verdict (advance (settled s) f) [] bs
  walk_token s f bs h g = go (bytes_of f) refl
    where
      go : (w : List ℕ) → bytes_of f ≡ w → walk verdict s [] (bytes_of f ++ bs) ≡ walk verdict (advance (settled s) f) [] bs
      go [] e =
          let n : verdict (label_of (settled s)) [] ≡ more = sc.nothing_yet (label_of (settled s)) in
          let g' : verdict (label_of (settled s)) [] ≡ good f = rw (← e) (sc.is_good (label_of (settled s)) f h g) in
          absurd (cc)
      go (c ∷ b) e = rw e (walk_token_from b c [] s f bs h g e)

  -- whole tokens are taken
  pub walk_front : (front : List Piece) (s : State) (bs : List ℕ) → Runs s front → AllPass gate front
      → walk verdict s [] (joined front ++ bs) ≡ walk verdict (left s front) [] bs
  walk_front [] s bs h g = refl
  walk_front (piece l f ∷ ps) s bs h g =
      let g' : IsTrue (gate (label_of (settled s)) f) = rw (← h.0) g.0 in
      rw (append_assoc (bytes_of f) (joined ps) bs) (walk_token s f (joined ps
      ++ bs) h.1 g' ∙ walk_front ps (advance (settled s) f) bs h.2 g.1)

  -- bytes that are bad, and undecided before, are refused
  walk_bad : (b : List ℕ) (c : ℕ) (a : List ℕ) (s : State) (bs : List ℕ) (r : ℕ)
      → verdict (label_of (settled s)) (a ++ (c ∷ b)) ≡ bad r
      → IsUndecided verdict (label_of (settled s)) (a ++ (c ∷ b)) → walk verdict s a (c ∷ (b ++ bs)) ≡ refused (a ++ (c ∷ b)) bs r
  walk_bad [] c a s bs r v u = rw v refl
  walk_bad (c' ∷ b) c a s bs r v u =
      let e : (a ++ (c ∷ [])) ++ (c' ∷ b) ≡ a ++ (c ∷ c' ∷ b) = snoc_more a c (c' ∷ b) in
      let m : verdict (label_of (settled s)) (a ++ (c ∷ [])) ≡ more = u (a ++ (c ∷ [])) c' b (sym e) in
      rw m (walk_bad b c' (a ++ (c ∷ [])) s bs r (rw e v) (rw e u) ∙ ap (λ p. refused p bs r) e)

  pub refuses : (front : List Piece) (wrong rest : List ℕ) (r : ℕ) → Runs begin_state front → AllPass gate front
      → verdict (label_of (settled (left begin_state front))) wrong ≡ bad r
      → IsUndecided verdict (label_of (settled (left begin_state front))) wrong
      → walk verdict begin_state [] (joined front ++ (wrong ++ rest)) ≡ refused wrong rest r
  refuses front [] rest r h g v u = let n = sc.nothing_yet (label_of (settled (left begin_state front))) in absurd (cc)
  refuses front (c ∷ b) rest r h g v u =
      walk_front front begin_state (c ∷ (b ++ rest)) h g ∙ walk_bad b c [] (left begin_state front) rest r v u

  -- bytes that are bad, and have no whole token before, are refused at their end or earlier
  abbrev pub RefusesBy : State → List ℕ → List ℕ → List ℕ → Type 0
  RefusesBy s cut bytes rest = (w q : List ℕ) × (k : ℕ) × (walk verdict s cut bytes ≡ refused w q k) × (length rest ≤ length q)

  walk_wrong : (b : List ℕ) (c : ℕ) (a : List ℕ) (s : State) (rest : List ℕ) (r : ℕ)
      → verdict (label_of (settled s)) (a ++ (c ∷ b)) ≡ bad r
      → HasNoToken (label_of (settled s)) (a ++ (c ∷ b)) → RefusesBy s a (c ∷ (b ++ rest)) rest
  walk_wrong [] c a s rest r v u = (a ++ (c ∷ []), rest, r, rw v refl, omega arith)
  walk_wrong (c' ∷ b) c a s rest r v u =
      let e : (a ++ (c ∷ [])) ++ (c' ∷ b) ≡ a ++ (c ∷ c' ∷ b) = snoc_more a c (c' ∷ b) in
      go (verdict l (a ++ (c ∷ []))) refl (walk_wrong b c' (a ++ (c ∷ [])) s rest r (rw e v) (rw e u))
    where
      l : Label
      l = label_of (settled s)

      go : (x : Verdict) → verdict l (a ++ (c ∷ [])) ≡ x → RefusesBy s (a ++ (c ∷ [])) (c' ∷ (b ++ rest)) rest
          → RefusesBy s a (c ∷ ((c' ∷ b) ++ rest)) rest
      go more e (w, q, k, ew, lq) = (w, q, k, rw e ew, lq)
      go (good f) e z =
          let y = sc.good_is l (a ++ (c ∷ [])) f e in
          absurd (u (a ++ (c ∷ [])) c' b f (sym (snoc_more a c (c' ∷ b))) y.1 y.0)
      go (bad k) e z = (a ++ (c ∷ []), (c' ∷ b) ++ rest, k, rw e refl, omega (arith, length-append (c' ∷ b) rest))

  pub refuses_by : (front : List Piece) (wrong rest : List ℕ) (r : ℕ) → Runs begin_state front → AllPass gate front
      → verdict (label_of (settled (left begin_state front))) wrong ≡ bad r
      → HasNoToken (label_of (settled (left begin_state front))) wrong
      → RefusesBy begin_state [] (joined front ++ (wrong ++ rest)) rest
  refuses_by front [] rest r h g v u = let n = sc.nothing_yet (label_of (settled (left begin_state front))) in absurd (cc)
  refuses_by front (c ∷ b) rest r h g v u =
      let x = walk_wrong b c [] (left begin_state front) rest r v u in
      (x.0, x.1, x.2, walk_front front begin_state (c ∷ (b ++ rest)) h g ∙ x.3, x.4)

  -- each front of these bytes, all of them too, wants more
  abbrev pub Quiet : Label → List ℕ → Type 0
  Quiet l p = (a b : List ℕ) → p ≡ a ++ b → verdict l a ≡ more

  pub quiet_more : (l : Label) (p : List ℕ) (x : ℕ) → Quiet l p → verdict l (p ++ (x ∷ [])) ≡ more → Quiet l (p ++ (x ∷ []))
  quiet_more l p x q v a [] e = let n : p ++ (x ∷ []) ≡ a = e ∙ append-nil a in rw (← n) v
  quiet_more l p x q v a (c ∷ b) e = let r = front_of a p x c b e in q a r.0 r.1

  pub undecided_more : (l : Label) (p : List ℕ) (x : ℕ) → Quiet l p → IsUndecided verdict l (p ++ (x ∷ []))
  undecided_more l p x q a c b e = let r = front_of a p x c b e in q a r.0 r.1

  pub quiet_none : (l : Label) → Quiet l []
  quiet_none l [] b e = sc.nothing_yet l
  quiet_none l (x ∷ a) b e = absurd (cc)

  -- what was found on the way: whole tokens, and bytes that decide nothing, or that are refused
  abbrev pub Found : State → List ℕ → Outcome → Type 0
  Found s bs (ended t q) =
      (front : List Piece) × Runs s front × AllPass gate front × (left s front ≡ t) × (bs ≡ joined front ++ q)
      × Quiet (label_of (settled t)) q
  Found s bs (refused p rest r) = (front : List Piece) × Runs s front × AllPass gate front × (bs ≡ joined front ++ (p ++ rest))
      × (verdict (label_of (settled (left s front))) p ≡ bad r) × IsUndecided verdict (label_of (settled (left s front))) p

  found_more : (out : Outcome) (s : State) (f : StreamToken) (bs : List ℕ) → Accepts (label_of (settled s)) f
      → IsTrue (gate (label_of (settled s)) f)
      → Found (advance (settled s) f) bs out → Found s (bytes_of f ++ bs) out
  found_more (ended t q) s f bs h g (front, r, ga, e, eb, u) = (
    piece (label_of (settled s)) f ∷ front,
    (refl, h, r),
    (g, ga),
    e,
    ap (λ x. bytes_of f
        ++ x) eb ∙ sym (append_assoc (bytes_of f) (joined front) q),
    u,
  )
  found_more (refused p rest k) s f bs h g (front, r, ga, eb, v, u) = (
    piece (label_of (settled s)) f ∷ front,
    (refl, h, r),
    (g, ga),
    ap (λ x. bytes_of f
        ++ x) eb ∙ sym (append_assoc (bytes_of f) (joined front) (p ++ rest)),
    v,
    u,
  )

  walk_found : (bs : List ℕ) (s : State) (p : List ℕ) → Quiet (label_of (settled s)) p → Found s (p ++ bs) (walk verdict s p bs)
  walk_found [] s p q = ([], tt, tt, refl, append-nil p, q)
  walk_found (b ∷ bs) s p q =
      go (verdict l (p ++ (b ∷ []))) refl (λ v. walk_found bs s (p
      ++ (b ∷ [])) (quiet_more l p b q v))
      (λ f. walk_found bs (advance (settled s) f) [] (quiet_none (label_of (settled (advance (settled s) f)))))
    where
      l : Label
      l = label_of (settled s)

      go : (v : Verdict) → verdict l (p ++ (b ∷ [])) ≡ v
          → (verdict l (p ++ (b ∷ [])) ≡ more → Found s ((p ++ (b ∷ [])) ++ bs) (walk verdict s (p ++ (b ∷ [])) bs))
          → ((f : StreamToken) → Found (advance (settled s) f) bs (walk verdict (advance (settled s) f) [] bs))
          → Found s (p ++ (b ∷ bs)) (by_verdict v (walk verdict s (p
          ++ (b ∷ [])) bs) (λ f. walk verdict (advance (settled s) f) [] bs) (λ r. refused (p ++ (b ∷ [])) bs r))
      go more e m g = rw (← snoc_more p b bs) (m e)
      go (good f) e m g =
          let x = sc.good_is l (p ++ (b ∷ [])) f e in
          rw (← snoc_more p b bs, x.0) (found_more (walk verdict (advance (settled s) f) [] bs) s f bs x.1 x.2 (g f))
      go (bad r) e m g = ([], tt, tt, sym (snoc_more p b bs), e, undecided_more l p b q)

  pub walked : (bs : List ℕ) → Found begin_state bs (walk verdict begin_state [] bs)
  walked bs = walk_found bs begin_state [] (quiet_none (label_of (settled begin_state)))

  -- bytes that are undecided before their end have no whole token before it
  pub undecided_no_token : (l : Label) (wrong : List ℕ) → IsUndecided verdict l wrong → HasNoToken l wrong
  undecided_no_token l wrong u a c b f e h ef = go (gate l f) refl
    where
      go : (x : Bool) → gate l f ≡ x → ⊥
      go true g =
          let n : verdict l a ≡ more = u a c b e in
          let y : verdict l a ≡ good f = rw ef (sc.is_good l f h g) in
          cc
      go false g =
          let y = sc.stops l f h g in
          let e1 : wrong ≡ y.0 ++ (y.1 ++ (c ∷ b)) = e ∙ ap (λ z. z ++ (c ∷ b)) (ef ∙ y.3) ∙ append_assoc y.0 y.1 (c ∷ b) in
          cut y.0 y.1 y.2 e1 y.4
        where
          cut : (p q : List ℕ) (k : ℕ) → wrong ≡ p ++ (q ++ (c ∷ b)) → verdict l p ≡ bad k → ⊥
          cut p [] k e v = let z : verdict l p ≡ more = u p c b e in cc
          cut p (x ∷ q) k e v = let z : verdict l p ≡ more = u p x (q ++ (c ∷ b)) e in cc
