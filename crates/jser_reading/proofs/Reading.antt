-- One reading, for a verdict and its gate: bytes are cut into tokens in one way, and tokens are those of one tree.
use Rattle.std.proofs.Common.{Bool, true, false, ap, ◌≡◌, ℕ, List, [], ◌∷◌, ◌++◌, refl, sym, ◌∙◌, ap₂, IsTrue, append_assoc, append-nil, ◌⊎◌, inl, inr}
use Rattle.jser_reading.proofs.Vocabulary.{Runs, ValueTree, ContentTrees, WellFormedValue, WellFormed, Moment, StreamToken, tag_token, value_at, Label, Piece, piece, at, tag_of, cut_value, tokens_of, value_part, top_goal, parts_goal, State, settled, label_of, Accepts, advance, begin_state, Reads}
use Rattle.jser_reading.specs.TokenBytes.{bytes_of, joined}
use Rattle.jser_reading.specs.Scanner.{more, good, bad, VerdictOn, TokenGate, IsUndecided, IsScanner, AllPass}
use Rattle.jser_reading.proofs.TreeToMachine.{reads_value}
use Rattle.jser_reading.proofs.Exact.{exact_law}
use Rattle.jser_reading.proofs.Fronts.{reads_runs}
use Rattle.jser_reading.proofs.SameTokens.{same_value, same_list}
use Rattle.jser_reading.proofs.TokensAppend.{cut_value-append}

-- one of two fronts of a list is a front of the other
fronts : (a b x y : List ℕ) → a ++ x ≡ b ++ y
    → (((d : List ℕ) × (a ≡ b ++ d) × (y ≡ d ++ x)) ⊎ ((c : ℕ) × (d : List ℕ) × (b ≡ a ++ (c ∷ d))))
fronts [] [] x y e = inl ([], refl, sym e)
fronts [] (c ∷ b) x y e = inr (c, b, refl)
fronts (c ∷ a) [] x y e = inl (c ∷ a, refl, sym e)
fronts (c ∷ a) (c' ∷ b) x y e =
    let ec : c ≡ c' = cc in
    let et : a ++ x ≡ b ++ y = cc in
    elim (fronts a b x y et) [
      | inl h ↦ inl (h.0, ap₂ (λ n q. n ∷ q) ec h.1, h.2)
      | inr h ↦ inr (h.0, h.1, ap₂ (λ n q. n ∷ q) (sym ec) h.2)
    ]

-- the tokens of a value alone
abbrev pub tokens_of_value : Moment → ValueTree → List Piece
tokens_of_value m v = at value_at 1 m (tag_token (tag_of v)) ∷ cut_value 1 m v []

module _ (gate : TokenGate) (verdict : VerdictOn) (sc : IsScanner gate verdict) where
  pub same_token : (l : Label) (f g : StreamToken) (x y : List ℕ) → Accepts l f → IsTrue (gate l f) → Accepts l g → IsTrue (gate l g)
      → bytes_of f ++ x ≡ bytes_of g ++ y → (f ≡ g) × (x ≡ y)
  same_token l f g x y h hp k kp e = go (fronts (bytes_of f) (bytes_of g) x y e)
    where
      go : (((d : List ℕ) × (bytes_of f ≡ bytes_of g ++ d) × (y ≡ d ++ x))
          ⊎ ((c : ℕ) × (d : List ℕ) × (bytes_of g ≡ bytes_of f ++ (c ∷ d)))) → (f ≡ g) × (x ≡ y)
      go (inl ([], e1, e2)) =
          let u = sc.is_good l f h hp in
          let w = sc.is_good l g k kp in
          let z : bytes_of f ≡ bytes_of g = e1 ∙ append-nil (bytes_of g) in
          (cc, sym e2)
      go (inl (c ∷ d, e1, e2)) =
          let u : verdict l (bytes_of g) ≡ more = sc.before_end l f h hp (bytes_of g) c d e1 in
          let w = sc.is_good l g k kp in
          absurd (cc)
      go (inr (c, d, e1)) =
          let u : verdict l (bytes_of f) ≡ more = sc.before_end l g k kp (bytes_of f) c d e1 in
          let w = sc.is_good l f h hp in
          absurd (cc)

  some_bytes : (l : Label) (f : StreamToken) (x : List ℕ) → Accepts l f → IsTrue (gate l f) → bytes_of f ++ x ≡ [] → ⊥
  some_bytes l f x h hp e = go (bytes_of f) refl e
    where
      go : (w : List ℕ) → bytes_of f ≡ w → w ++ x ≡ [] → ⊥
      go [] e k = let u = sc.nothing_yet l in let w : verdict l [] ≡ good f = rw (← e) (sc.is_good l f h hp) in cc
      go (c ∷ w) e k = cc

  -- a token that is let through, and another one, with bytes that begin alike
  same_front_token : (l : Label) (f g : StreamToken) (x y : List ℕ) → Accepts l f → IsTrue (gate l f) → Accepts l g → bytes_of f
      ++ x ≡ bytes_of g ++ y
      → (f ≡ g) × (x ≡ y)
  same_front_token l f g x y h hp k e = go (gate l g) refl
    where
      stopped : (p q : List ℕ) (r : ℕ) → bytes_of g ≡ p ++ q → verdict l p ≡ bad r → IsUndecided verdict l p → ⊥
      stopped p q r eg v u = cut (fronts (bytes_of f) p x (q ++ y) (e ∙ ap (λ z. z ++ y) eg ∙ append_assoc p q y))
        where
          cut : (((d : List ℕ) × (bytes_of f ≡ p ++ d) × (q ++ y ≡ d ++ x))
              ⊎ ((c : ℕ) × (d : List ℕ) × (p ≡ bytes_of f ++ (c ∷ d)))) → ⊥
          cut (inl ([], e1, e2)) =
              let n : verdict l p ≡ good f = rw (← append-nil p, ← e1) (sc.is_good l f h hp) in
              cc
          cut (inl (c ∷ d, e1, e2)) = let n : verdict l p ≡ more = sc.before_end l f h hp p c d e1 in cc
          cut (inr (c, d, e1)) =
              let n : verdict l (bytes_of f) ≡ more = u (bytes_of f) c d e1 in
              let w = sc.is_good l f h hp in
              cc

      go : (b : Bool) → gate l g ≡ b → (f ≡ g) × (x ≡ y)
      go true kp = same_token l f g x y h hp k kp e
      go false kp = let z = sc.stops l g k kp in absurd (stopped z.0 z.1 z.2 z.3 z.4 z.5)

  -- tokens that the machine takes, and whose bytes begin those of others that it reads, begin those
  pub begin_pieces : (a b : List Piece) (s : State) (z : List ℕ) → Runs s a → Reads s b → AllPass gate a → joined a
      ++ z ≡ joined b
      → (behind : List Piece) × (b ≡ a ++ behind)
  begin_pieces [] b s z h k ga e = (b, refl)
  begin_pieces (piece l f ∷ a) [] s z h k ga e =
      absurd (some_bytes (label_of (settled s)) f (joined a
      ++ z) h.1 (rw (← h.0) ga.0) (sym (append_assoc (bytes_of f) (joined a) z) ∙ e))
  begin_pieces (piece l f ∷ a) (piece l' g ∷ b) s z h k ga e =
      let x =
      same_front_token (label_of (settled s)) f g (joined a
      ++ z) (joined b) h.1 (rw (← h.0) ga.0) k.1 (sym (append_assoc (bytes_of f) (joined a) z) ∙ e) in
      let k' : Reads (advance (settled s) f) b = rw x.0 k.2 in
      let r = begin_pieces a b (advance (settled s) f) z h.2 k' ga.1 x.1 in
      let fg : f ≡ g = x.0 in
      let l1 : l ≡ label_of (settled s) = h.0 in
      let l2 : l' ≡ label_of (settled s) = k.0 in
      let q : b ≡ a ++ r.0 = r.1 in
      (r.0, cc)

  pub same_pieces : (a b : List Piece) (s : State) → Reads s a → Reads s b → AllPass gate a → AllPass gate b
      → joined a ≡ joined b → a ≡ b
  same_pieces [] [] s h k ga gb e = refl
  same_pieces [] (piece l f ∷ b) s h k ga gb e =
      absurd (some_bytes (label_of (settled s)) f (joined b) k.1 (rw (← k.0) gb.0) (sym e))
  same_pieces (piece l f ∷ a) [] s h k ga gb e = absurd (some_bytes (label_of (settled s)) f (joined a) h.1 (rw (← h.0) ga.0) e)
  same_pieces (piece l f ∷ a) (piece l' g ∷ b) s h k ga gb e =
      let x = same_token (label_of (settled s)) f g (joined a) (joined b) h.1 (rw (← h.0) ga.0) k.1 (rw (← k.0) gb.0) e in
      let k' : Reads (advance (settled s) f) b = rw x.0 k.2 in
      let r : a ≡ b = same_pieces a b (advance (settled s) f) h.2 k' ga.1 gb.1 x.1 in
      let fg : f ≡ g = x.0 in
      let l1 : l ≡ label_of (settled s) = h.0 in
      let l2 : l' ≡ label_of (settled s) = k.0 in
      cc

  -- two lists whose tokens pass and have the same bytes are equal
  pub same_by_bytes : (list other : ContentTrees) → WellFormed list → WellFormed other → AllPass gate (tokens_of list)
      → AllPass gate (tokens_of other)
      → joined (tokens_of list) ≡ joined (tokens_of other) → list ≡ other
  same_by_bytes list other w w' g g' e =
      same_list list other w w'
      (same_pieces (tokens_of list) (tokens_of other) begin_state ((exact_law (tokens_of list)).1 (list, w, refl))
      ((exact_law (tokens_of other)).1 (other, w', refl)) g g' e)

  -- and so are two values, where the bytes of one begin those of the other
  pub same_value_by_bytes : (m : Moment) (v u : ValueTree) (rest : List ℕ) → WellFormedValue m.table v → WellFormedValue m.table u
      → AllPass gate (tokens_of_value m v) → joined (tokens_of_value m v) ++ rest ≡ joined (tokens_of_value m u) → v ≡ u
  same_value_by_bytes m v u rest h k gv e =
      let s : State = (m, parts_goal 0 (value_part ∷ []) ∷ top_goal ∷ []) in
      let rv : Reads s (tokens_of_value m v) = (refl, tt, reads_value v 1 m (parts_goal 0 [] ∷ top_goal ∷ []) [] h refl) in
      let ru : Reads s (tokens_of_value m u) = (refl, tt, reads_value u 1 m (parts_goal 0 [] ∷ top_goal ∷ []) [] k refl) in
      let x = begin_pieces (tokens_of_value m v) (tokens_of_value m u) s rest (reads_runs (tokens_of_value m v) s rv) ru gv e in
      let x1 = x.1 in
      let t : tag_of v ≡ tag_of u = cc in
      let f : cut_value 1 m u [] ≡ cut_value 1 m v [] ++ x.0 = cc in
      (same_value v u 1 m x.0 [] h k t (cut_value-append v 1 m [] x.0 ∙ sym f)).0
