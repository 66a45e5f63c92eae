-- Which fronts of the bytes taken are streams: those behind which the walk stands at the top. Within a token it does not.
use Rattle.std.proofs.Common.{◌≡◌, ℕ, zero, suc, ◌+◌, ◌-◌, ◌<◌, ◌≤◌, ◌⊎◌, false, if◌then◌else◌, List, [], ◌∷◌, ◌++◌, length, take, drop, refl, sym, ◌∙◌, ap, subst, arith, append_assoc, append-nil, length-append, take-append-drop, length-take-le, inl, inr}
use Rattle.std.proofs.lemmas.Bool.{cases_lt}
use Rattle.std.proofs.lemmas.List.{take-append-le}
use Rattle.jser_grammar.specs.Trees.{ContentTrees}
use Rattle.jser_grammar.specs.Parts.{IsBytes}
use Rattle.jser_reading.specs.TokenBytes.{joined}
use Rattle.jser_reading.specs.TokensFromBytes.{size_in}
use Rattle.jser_reading.specs.Goals.{State, settled}
use Rattle.jser_reading.specs.Accepts.{label_of}
use Rattle.jser_reading.specs.Labels.{StreamToken, Piece}
use Rattle.jser_reading.specs.Machine.{begin_state, advance, IsDone, Runs, left}
use Rattle.jser_reading.specs.Scanner.{Verdict, more, good, bad, VerdictOn, IsUndecided, Outcome, by_verdict, walk, refused, ended}
use Rattle.jser_reading.proofs.Next.{next_law}
use Rattle.jser_verdict.specs.Gates.{Gate}
use Rattle.jser_verdict.specs.Passing.{Passes}
use Rattle.jser_verdict.specs.Reasons.{turn}
use Rattle.jser_verdict.specs.Verdicts.{verdict}
use Rattle.jser_verdict.proofs.ByteLists.{bytes_both, bytes_left, bytes_right, take_past}
use Rattle.jser_verdict.proofs.Passing.{by_tokens}
use Rattle.jser_verdict.proofs.ReadTokens.{read_next}
use Rattle.jser_verdict.proofs.SameWalks.{same_walk}
use Rattle.jser_verdict.proofs.Scanning.{scanning_verdict}
use Rattle.jser_verdict.proofs.Scans.{verdict_scans}
use Rattle.jser_verdict.proofs.ToldRows.{same_verdict}
use Rattle.jser_verdict.proofs.WalkFaults.{taken}
use Rattle.jser_reader.specs.declared.machine.flow.Flow.TheVariants as flow
use Rattle.jser_reader.specs.declared.phase.Phase.{Phase}
use Rattle.jser_reader.specs.declared.phase.Phase.TheVariants as phase
use Rattle.jser_reader.specs.declared.refusal.Refusal.{Refusal}
use Rattle.jser_reader.specs.declared.refusal.Stop.TheVariants as stop
use Rattle.jser_reader.specs.declared.tally.Tally.{Tally}
use Rattle.jser_reader.specs.Readers.{Seen}
use Rattle.jser_reader.specs.Tallies.{is_top, begun_next, whole_of}
use Rattle.jser_reader.specs.Walks.{HasTaken, Takes, Keeps, StopTold}
use Rattle.jser_reader.specs.WholeContents.{IsWhole, StaysWhole, OneIsWhole}
use Rattle.jser_reader.proofs.AnswerLemmas.{passes}
use Rattle.jser_reader.proofs.StandLemmas.{took_stands, kept_stands}
use Rattle.jser_reader.proofs.StreamWalks.{ends_at_top, ends_only_at_top, done_at_top}
use Rattle.jser_reader.proofs.WalkLemmas.{walk_on, walk_open}

-- ---- one number

pub one_whole_law : OneIsWhole
one_whole_law gate bytes n m h k =
    elim (cases_lt n m) [
      | inl lt ↦ absurd (less n m h k lt)
      | inr le ↦
          elim (cases_lt m n) [
            | inl lt ↦ absurd (less m n k h lt)
            | inr ge ↦ omega arith
          ]
    ]
  where
    less : (a b : ℕ) → IsWhole gate bytes a → IsWhole gate bytes b → a < b → ⊥
    less a b x y lt = elim y.front [
      | inl z ↦ omega arith
      | inr p ↦ x.longest b lt y.within p.0 p.1
    ]

-- 0 of nothing
pub whole_of_none : (gate : Gate) → IsWhole gate [] 0
whole_of_none gate = record { within = omega arith; front = inl refl; longest = λ m lt le list p. omega arith }

-- ---- what no stream is

-- where the walk does not stand at the top, the bytes are no stream that passes
no_pass : (gate : Gate) (bytes cut : List ℕ) (s : State) → IsBytes bytes → walk (verdict gate) begin_state [] bytes ≡ ended s cut
    → (IsDone (settled s) → cut ≡ [] → ⊥) → (list : ContentTrees) → Passes gate bytes list → ⊥
no_pass gate bytes cut s hb e nt list p =
    let x = taken gate bytes list hb (by_tokens gate bytes list p).0 in
    let k : ended s cut ≡ ended x.0 [] = sym e ∙ x.2 in
    let es : s ≡ x.0 = cc in
    let ec : cut ≡ [] = cc in
    nt (subst (λ t. IsDone (settled t)) (sym es) x.1) ec

-- nor where it refuses them
no_pass_refused : (gate : Gate) (bytes wrong rest : List ℕ) (k : ℕ) → IsBytes bytes → walk (verdict gate) begin_state [] bytes ≡ refused wrong rest k
    → (list : ContentTrees) → Passes gate bytes list → ⊥
no_pass_refused gate bytes wrong rest k hb e list p =
    let x = taken gate bytes list hb (by_tokens gate bytes list p).0 in
    let z : refused wrong rest k ≡ ended x.0 [] = sym e ∙ x.2 in
    absurd (cc)

-- ---- within a token

-- how many bytes of a token the outcome of a walk has
abbrev kept_of : Outcome → ℕ
kept_of (ended s cut) = length cut
kept_of (refused wrong rest k) = length wrong

at_most : (v : VerdictOn) (s : State) (cut bytes : List ℕ) → kept_of (walk v s cut bytes) ≤ length cut + length bytes
at_most v s cut [] = omega arith
at_most v s cut (b ∷ bytes) =
    go (v (label_of (settled s)) (cut ++ (b ∷ []))) (at_most v s (cut ++ (b ∷ [])) bytes) (λ f. at_most v (advance (settled s) f) [] bytes) (length-append cut (b ∷ []))
  where
    go : (y : Verdict) → kept_of (walk v s (cut ++ (b ∷ [])) bytes) ≤ length (cut ++ (b ∷ [])) + length bytes
        → ((f : StreamToken) → kept_of (walk v (advance (settled s) f) [] bytes) ≤ 0 + length bytes)
        → length (cut ++ (b ∷ [])) ≡ length cut + 1
        → kept_of (by_verdict y (walk v s (cut ++ (b ∷ [])) bytes) (λ f. walk v (advance (settled s) f) [] bytes) (λ r. refused (cut ++ (b ∷ [])) bytes r)) ≤ length cut + suc (length bytes)
    go more k f n = omega arith
    go (good fd) k f n = let x = f fd in omega arith
    go (bad r) k f n = omega arith

-- a walk that has all bytes at its end is within the same token at each front
open_within : (v : VerdictOn) (s : State) (cut front : List ℕ) (c : ℕ) (rest : List ℕ)
    → kept_of (walk v s cut (front ++ (c ∷ rest))) ≡ length cut + length (front ++ (c ∷ rest)) → walk v s cut front ≡ ended s (cut ++ front)
open_within v s cut [] c rest e = ap (λ x. ended s x) (sym (append-nil cut))
open_within v s cut (b ∷ front) c rest e =
    go (v (label_of (settled s)) (cut ++ (b ∷ []))) (open_within v s (cut ++ (b ∷ [])) front c rest) (length-append cut (b ∷ [])) e
  where
    go : (y : Verdict)
        → (kept_of (walk v s (cut ++ (b ∷ [])) (front ++ (c ∷ rest))) ≡ length (cut ++ (b ∷ [])) + length (front ++ (c ∷ rest)) → walk v s (cut ++ (b ∷ [])) front ≡ ended s ((cut ++ (b ∷ [])) ++ front))
        → length (cut ++ (b ∷ [])) ≡ length cut + 1
        → kept_of (by_verdict y (walk v s (cut ++ (b ∷ [])) (front ++ (c ∷ rest))) (λ f. walk v (advance (settled s) f) [] (front ++ (c ∷ rest))) (λ r. refused (cut ++ (b ∷ [])) (front ++ (c ∷ rest)) r))
        ≡ length cut + suc (length (front ++ (c ∷ rest)))
        → by_verdict y (walk v s (cut ++ (b ∷ [])) front) (λ f. walk v (advance (settled s) f) [] front) (λ r. refused (cut ++ (b ∷ [])) front r) ≡ ended s (cut ++ (b ∷ front))
    go more k n e = k (omega arith) ∙ ap (λ x. ended s x) (append_assoc cut (b ∷ []) front)
    go (good fd) k n e = let x = at_most v (advance (settled s) fd) [] (front ++ (c ∷ rest)) in absurd (omega arith)
    go (bad r) k n e = let x = length-append front (c ∷ rest) in absurd (omega arith)

-- ---- one number, from bytes to more of them

-- no front that ends in the bytes that came is a stream: the number stays
stays_whole : (gate : Gate) (bytes came : List ℕ) (n : ℕ) → IsWhole gate bytes n
    → ((k : ℕ) → 0 < k → k ≤ length came → (list : ContentTrees) → Passes gate (bytes ++ take k came) list → ⊥) → IsWhole gate (bytes ++ came) n
stays_whole gate bytes came n h none =
    let w = h.within in
    let l : length (bytes ++ came) ≡ length bytes + length came = length-append bytes came in
    record {
      within = omega arith;
      front = elim h.front [
        | inl z ↦ inl z
        | inr p ↦ inr (p.0, subst (λ xs. Passes gate xs p.0) (sym (take-append-le n bytes came w)) p.1)
      ];
      longest =
          λ m lt le list p.
          elim (cases_lt (length bytes) m) [
            | inl past ↦
                none (m - length bytes) (omega arith) (omega arith) list
                (subst (λ xs. Passes gate xs list) (take_past bytes came m (omega arith)) p)
            | inr short ↦ h.longest m lt short list (subst (λ xs. Passes gate xs list) (take-append-le m bytes came short) p)
          ];
    }

-- all of them are a stream: the number is that of all
all_whole : (gate : Gate) (bytes : List ℕ) (list : ContentTrees) → Passes gate bytes list → IsWhole gate bytes (length bytes)
all_whole gate bytes list p = record {
  within = omega arith;
  front = inr (list, subst (λ xs. Passes gate xs list) (sym (take_all bytes)) p);
  longest = λ m lt le other q. omega arith;
}
  where
    take_all : (xs : List ℕ) → take (length xs) xs ≡ xs
    take_all [] = refl
    take_all (x ∷ xs) = ap (λ ys. x ∷ ys) (take_all xs)

-- ---- where the machine stands

-- at the top, or not
abbrev pub TopOrNot : Phase → Type 0
TopOrNot p = (p ≡ phase.Top) ⊎ ((p ≡ phase.Top → ⊥) × (is_top p ≡ false))

pub top_or_not : (p : Phase) → TopOrNot p
top_or_not phase.Top = inl refl
top_or_not phase.Header = inr (λ e. absurd (cc), refl)
top_or_not phase.Note = inr (λ e. absurd (cc), refl)
top_or_not phase.Value = inr (λ e. absurd (cc), refl)
top_or_not phase.ClassTag = inr (λ e. absurd (cc), refl)
top_or_not phase.SuperTag = inr (λ e. absurd (cc), refl)
top_or_not phase.TextTag = inr (λ e. absurd (cc), refl)
top_or_not phase.BackHandle = inr (λ e. absurd (cc), refl)
top_or_not phase.ClassHandle = inr (λ e. absurd (cc), refl)
top_or_not phase.SuperHandle = inr (λ e. absurd (cc), refl)
top_or_not phase.TextHandle = inr (λ e. absurd (cc), refl)
top_or_not phase.Length2 = inr (λ e. absurd (cc), refl)
top_or_not phase.Length8 = inr (λ e. absurd (cc), refl)
top_or_not phase.Text = inr (λ e. absurd (cc), refl)
top_or_not phase.Suid = inr (λ e. absurd (cc), refl)
top_or_not phase.Flags = inr (λ e. absurd (cc), refl)
top_or_not phase.FieldCount = inr (λ e. absurd (cc), refl)
top_or_not phase.TypeCode = inr (λ e. absurd (cc), refl)
top_or_not phase.InterfaceCount = inr (λ e. absurd (cc), refl)
top_or_not phase.ArrayLength = inr (λ e. absurd (cc), refl)
top_or_not phase.BlockLength1 = inr (λ e. absurd (cc), refl)
top_or_not phase.BlockLength4 = inr (λ e. absurd (cc), refl)
top_or_not phase.Prims = inr (λ e. absurd (cc), refl)
top_or_not phase.Bytes = inr (λ e. absurd (cc), refl)
top_or_not phase.Cut = inr (λ e. absurd (cc), refl)
top_or_not phase.Stopped = inr (λ e. absurd (cc), refl)

pub whole_top : (r : Seen) (tally : Tally) → r.phase ≡ phase.Top → whole_of r tally ≡ r.meter.at
whole_top r tally e = ap (λ p. if is_top p then r.meter.at else tally.begun) e

pub whole_inside : (r : Seen) (tally : Tally) → is_top r.phase ≡ false → whole_of r tally ≡ tally.begun
whole_inside r tally e = ap (λ b. if b then r.meter.at else tally.begun) e

pub whole_below : (r : Seen) (tally : Tally) → (r.phase ≡ phase.Top → ⊥) → whole_of r tally ≡ tally.begun
whole_below r tally inside = elim (top_or_not r.phase) [
  | inl top ↦ absurd (inside top)
  | inr other ↦ whole_inside r tally other.1
]

pub whole_stopped : (r : Seen) (tally : Tally) → r.phase ≡ phase.Stopped → whole_of r tally ≡ tally.begun
whole_stopped r tally e = whole_inside r tally (ap is_top e)

-- at the top all bytes are whole contents
top_whole : (gate : Gate) (bytes : List ℕ) (r : Seen) (tally : Tally) → HasTaken gate bytes r → length bytes ≤ gate.bytes → r.phase ≡ phase.Top → IsWhole gate bytes (whole_of r tally)
top_whole gate bytes r tally st room top =
    let s = left begin_state st.tokens in
    let d = ends_at_top gate r (settled s) st.cut st.stands top in
    let p = passes gate bytes s st.all_bytes room (st.walked ∙ ap (λ c. ended s c) d.1) d.0 in
    subst (IsWhole gate bytes) (sym (whole_top r tally top ∙ st.taken)) (all_whole gate bytes p.0 p.1)

-- ---- a part of a token

some_cut : (cut front : List ℕ) → 0 < length front → cut ++ front ≡ [] → ⊥
some_cut cut front some e = let n = length-append cut front in let z : length (cut ++ front) ≡ 0 = ap length e in omega arith

-- some bytes that came, but not all
abbrev Split : List ℕ → ℕ → Type 0
Split came k = (c : ℕ) × (rest : List ℕ) × (came ≡ take k came ++ (c ∷ rest))

split_in : (came : List ℕ) (k : ℕ) → k < length came → Split came k
split_in came k lt = go (drop k came) (sym (take-append-drop k came)) (length-take-le k came (omega arith))
  where
    go : (z : List ℕ) → came ≡ take k came ++ z → length (take k came) ≡ k → Split came k
    go [] e l = let n : length came ≡ length (take k came) + 0 = ap length e ∙ length-append (take k came) [] in absurd (omega arith)
    go (c ∷ rest) e l = (c, rest, e)

take_whole : (k : ℕ) (xs : List ℕ) → length xs ≤ k → take k xs ≡ xs
take_whole zero [] h = refl
take_whole (suc k) [] h = refl
take_whole zero (x ∷ xs) h = absurd (omega arith)
take_whole (suc k) (x ∷ xs) h = ap (λ ys. x ∷ ys) (take_whole k xs (omega arith))

bytes_take : (k : ℕ) (xs : List ℕ) → IsBytes xs → IsBytes (take k xs)
bytes_take k xs h = bytes_left (take k xs) (drop k xs) (subst (λ z. IsBytes z) (sym (take-append-drop k xs)) h)

-- a front of the bytes that came, behind which the walk is within the open token
within_none : (gate : Gate) (bytes cut front : List ℕ) (s : State) → IsBytes bytes → IsBytes front → 0 < length front
    → walk (verdict gate) begin_state [] bytes ≡ ended s cut → walk (verdict gate) s cut front ≡ ended s (cut ++ front)
    → (list : ContentTrees) → Passes gate (bytes ++ front) list → ⊥
within_none gate bytes cut front s hb hf some w open_ =
    no_pass gate (bytes ++ front) (cut ++ front) s (bytes_both bytes front hb hf)
    (walk_on (verdict gate) bytes front begin_state s [] cut w ∙ open_) (λ d e. some_cut cut front some e)

some_taken : (k : ℕ) (came : List ℕ) → 0 < k → k ≤ length came → 0 < length (take k came)
some_taken k came some le = let l = length-take-le k came le in omega arith

kept_n : (gate : Gate) (old new : Seen) (bytes came : List ℕ) (n : ℕ) → Keeps gate came old new → IsBytes came → HasTaken gate bytes old → IsWhole gate bytes n → IsWhole gate (bytes ++ came) n
unfolding Keeps
kept_n gate old new bytes came n h bt st i =
    let s = left begin_state st.tokens in
    let x = h s st.cut st.stands in
    let full : kept_of (walk (verdict gate) s st.cut came) ≡ length st.cut + length came = ap kept_of x.walks ∙ length-append st.cut came in
    stays_whole gate bytes came n i (λ k some le.
    within_none gate bytes st.cut (take k came) s st.all_bytes (bytes_take k came bt) (some_taken k came some le) st.walked
    (elim (cases_lt k (length came)) [
      | inl lt ↦
          let y = split_in came k lt in
          open_within (verdict gate) s st.cut (take k came) y.0 y.1 (subst (λ z. kept_of (walk (verdict gate) s st.cut z) ≡ length st.cut + length z) y.2 full)
      | inr ge ↦ subst (λ z. walk (verdict gate) s st.cut z ≡ ended s (st.cut ++ z)) (sym (take_whole k came ge)) x.walks
    ]))

-- the same token is still open
pub kept_whole : (gate : Gate) (old new : Seen) (bytes came : List ℕ) (tally : Tally) → Keeps gate came old new → IsBytes came → HasTaken gate bytes old → length (bytes ++ came) ≤ gate.bytes
    → IsWhole gate bytes (whole_of old tally) → IsWhole gate (bytes ++ came) (whole_of new tally)
unfolding Keeps
kept_whole gate old new bytes came tally h bt st room i = elim (top_or_not new.phase) [
  | inl top ↦ top_whole gate (bytes ++ came) new tally (kept_stands gate old new bytes came h bt st) room top
  | inr other ↦
      let s = left begin_state st.tokens in
      let x = h s st.cut st.stands in
      let before : is_top old.phase ≡ false = elim (top_or_not old.phase) [
        | inl top ↦ absurd (done_at_top gate new (settled s) (st.cut ++ came) x.stands (ends_at_top gate old (settled s) st.cut st.stands top).0 other.0)
        | inr inside ↦ inside.1
      ] in
      subst (IsWhole gate (bytes ++ came)) (whole_inside old tally before ∙ sym (whole_inside new tally other.1))
      (kept_n gate old new bytes came (whole_of old tally) h bt st i)
]

-- ---- a refusal

stopped_n : (gate : Gate) (old new : Seen) (bytes came after : List ℕ) (refusal : Refusal) (n : ℕ) → Takes gate came flow.Stopped old new → new.meter.stop ≡ stop.Refused refusal
    → IsBytes came → IsBytes after → HasTaken gate bytes old → IsWhole gate bytes n → IsWhole gate (bytes ++ (came ++ after)) n
unfolding Takes
stopped_n gate old new bytes came after refusal n h er bt ba st i =
    let s = left begin_state st.tokens in
    let x = subst (λ why. StopTold gate s st.cut came old.meter.from why) er (h s st.cut st.stands).1 in
    stays_whole gate bytes (came ++ after) n i (λ k some le.
    elim (cases_lt k (length came)) [
      | inl lt ↦
          let y = split_in came k lt in
          let e : take k (came ++ after) ≡ take k came = take-append-le k came after (omega arith) in
          let full : kept_of (walk (verdict gate) s st.cut came) ≡ length st.cut + length came =
          ap (λ z. kept_of (walk (verdict gate) s st.cut z)) (sym (append-nil came)) ∙ ap kept_of (x.walks []) ∙ length-append st.cut came in
          λ list p. within_none gate bytes st.cut (take k came) s st.all_bytes (bytes_take k came bt) (some_taken k came some (omega arith)) st.walked
          (open_within (verdict gate) s st.cut (take k came) y.0 y.1 (subst (λ z. kept_of (walk (verdict gate) s st.cut z) ≡ length st.cut + length z) y.2 full))
          list (subst (λ z. Passes gate (bytes ++ z) list) e p)
      | inr ge ↦
          let m : ℕ = k - length came in
          let e : take k (came ++ after) ≡ came ++ take m after = take_past came after k ge in
          let all : IsBytes (bytes ++ (came ++ take m after)) = bytes_both bytes (came ++ take m after) st.all_bytes (bytes_both came (take m after) bt (bytes_take m after ba)) in
          λ list p. no_pass_refused gate (bytes ++ (came ++ take m after)) (st.cut ++ came) (take m after) (turn x.reason) all
          (walk_on (verdict gate) bytes (came ++ take m after) begin_state s [] st.cut st.walked ∙ x.walks (take m after))
          list (subst (λ z. Passes gate (bytes ++ z) list) e p)
    ])

-- bytes are refused, whatever comes after them
pub stopped_whole : (gate : Gate) (old new : Seen) (bytes came : List ℕ) (refusal : Refusal) (n : ℕ) → Takes gate came flow.Stopped old new → new.meter.stop ≡ stop.Refused refusal
    → IsBytes came → HasTaken gate bytes old → IsWhole gate bytes n → StaysWhole gate (bytes ++ came) n
stopped_whole gate old new bytes came refusal n h er bt st i = λ after ba.
    subst (λ z. IsWhole gate z n) (sym (append_assoc bytes came after)) (stopped_n gate old new bytes came after refusal n h er bt ba st i)

-- the limit of bytes was reached, and more come
pub limit_whole : (gate : Gate) (bytes came : List ℕ) (n : ℕ) → length bytes ≡ gate.bytes → IsWhole gate bytes n → StaysWhole gate (bytes ++ came) n
limit_whole gate bytes came n full i = λ after ba.
    subst (λ z. IsWhole gate z n) (sym (append_assoc bytes came after))
    (stays_whole gate bytes (came ++ after) n i (λ k some le list p.
    let few = p.2 in
    let l = length-append bytes (take k (came ++ after)) in
    let t = length-take-le k (came ++ after) le in
    omega arith))

-- ---- a token has ended

-- no front of a token decides
token_undecided : (gate : Gate) (tokens : List Piece) (bytes : List ℕ) (token : StreamToken)
    → let l = label_of (settled (left begin_state tokens)) in
    Runs begin_state tokens → verdict gate l bytes ≡ good token → size_in l.position bytes ≡ length bytes → IsBytes bytes
    → IsUndecided (scanning_verdict gate) l bytes
token_undecided gate tokens bytes token r v e h =
    let l = label_of (settled (left begin_state tokens)) in
    let same : verdict gate l bytes ≡ scanning_verdict gate l bytes =
    same_verdict gate l bytes (read_next tokens l ((next_law tokens l).1 (r, refl))) h (omega arith) in
    let g = (verdict_scans gate).good_is l bytes token (sym same ∙ v) in
    subst (IsUndecided (scanning_verdict gate) l) (sym g.0) ((verdict_scans gate).before_end l token g.1 g.2)

-- the walk by the other verdict is within the token at each front of it
open_scanned : (v : VerdictOn) (s : State) (cut front : List ℕ) (c : ℕ) (rest : List ℕ)
    → IsUndecided v (label_of (settled s)) (cut ++ (front ++ (c ∷ rest))) → walk v s cut front ≡ ended s (cut ++ front)
open_scanned v s cut front c rest u =
    walk_open v s front cut
    (λ a b more e. u a b (more ++ (c ∷ rest)) (sym (append_assoc cut front (c ∷ rest)) ∙ ap (λ z. z ++ (c ∷ rest)) e ∙ append_assoc a (b ∷ more) (c ∷ rest)))
    (u (cut ++ front) c rest (sym (append_assoc cut front (c ∷ rest))))

-- inside a token the walk by the verdict has ended
front_of_token : (gate : Gate) (bytes cut front : List ℕ) (s : State) (c : ℕ) (rest : List ℕ) → IsBytes bytes → IsBytes front
    → walk (verdict gate) begin_state [] bytes ≡ ended s cut
    → IsUndecided (scanning_verdict gate) (label_of (settled s)) (cut ++ (front ++ (c ∷ rest)))
    → walk (verdict gate) begin_state [] (bytes ++ front) ≡ ended s (cut ++ front)
front_of_token gate bytes cut front s c rest hb hf w u =
    same_walk gate (bytes ++ front) (bytes_both bytes front hb hf)
    ∙ walk_on (scanning_verdict gate) bytes front begin_state s [] cut (sym (same_walk gate bytes hb) ∙ w)
    ∙ open_scanned (scanning_verdict gate) s cut front c rest u

-- the open token has ended
pub took_whole : (gate : Gate) (old new : Seen) (bytes came : List ℕ) (tally told : Tally) → told.begun ≡ begun_next old tally → Takes gate came flow.On old new → IsBytes came → HasTaken gate bytes old
    → length (bytes ++ came) ≤ gate.bytes → IsWhole gate bytes (whole_of old tally) → IsWhole gate (bytes ++ came) (whole_of new told)
unfolding Takes
took_whole gate old new bytes came tally told eb h bt st room i = elim (top_or_not new.phase) [
  | inl top ↦ top_whole gate (bytes ++ came) new told (took_stands gate old new bytes came h bt st) room top
  | inr other ↦ subst (IsWhole gate (bytes ++ came)) (sym (whole_inside new told other.1 ∙ eb)) (stays_whole gate bytes came (whole_of old tally) i (none other.0))
]
  where
    none : (new.phase ≡ phase.Top → ⊥) → (k : ℕ) → 0 < k → k ≤ length came → (list : ContentTrees) → Passes gate (bytes ++ take k came) list → ⊥
    none inside k some le = elim (cases_lt k (length came)) [
      | inl lt ↦
          let s = left begin_state st.tokens in
          let x = h s st.cut st.stands in
          let is : bytes ++ came ≡ joined st.tokens ++ (st.cut ++ came) = ap (λ b. b ++ came) st.are_tokens ∙ append_assoc (joined st.tokens) st.cut came in
          let all : IsBytes (bytes ++ came) = bytes_both bytes came st.all_bytes bt in
          let of_token : IsBytes (st.cut ++ came) = bytes_right (joined st.tokens) (st.cut ++ came) (subst IsBytes is all) in
          let u = token_undecided gate st.tokens (st.cut ++ came) x.token st.runs x.is_good x.whole of_token in
          let y = split_in came k lt in
          no_pass gate (bytes ++ take k came) (st.cut ++ take k came) s (bytes_both bytes (take k came) st.all_bytes (bytes_take k came bt))
          (front_of_token gate bytes st.cut (take k came) s y.0 y.1 st.all_bytes (bytes_take k came bt) st.walked
          (subst (λ z. IsUndecided (scanning_verdict gate) (label_of (settled s)) (st.cut ++ z)) y.2 u))
          (λ d e. some_cut st.cut (take k came) (some_taken k came some le) e)
      | inr ge ↦
          let now = took_stands gate old new bytes came h bt st in
          let s = left begin_state now.tokens in
          λ list p. no_pass gate (bytes ++ came) now.cut s now.all_bytes now.walked
          (λ d e. ends_only_at_top gate new (settled s) now.cut now.stands inside (d, e)) list
          (subst (λ z. Passes gate (bytes ++ z) list) (take_whole k came ge) p)
    ]
