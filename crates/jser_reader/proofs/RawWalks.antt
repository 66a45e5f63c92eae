-- Raw values, the bytes of a block, and the walk over them: any bytes, so many.
use Rattle.std.proofs.Common.{◌≡◌, ℕ, suc, ◌+◌, ◌*◌, ◌<◌, ◌≤◌, List, ◌∷◌, ◌++◌, length, Some, None, refl, sym, ◌∙◌, ap, ap₂, subst, arith, length-append}
use Rattle.jser_table.specs.Codes.{PrimCode, size_of}
use Rattle.jser_reading.specs.Labels.{StreamToken, prims_token, bytes_token, Label}
use Rattle.jser_reading.specs.TokensFromBytes.{size_in, token_in, prims_in}
use Rattle.jser_reading.specs.Goals.{Part, raw_part, Goal, parts_goal, block_goal, State, settle, settled}
use Rattle.jser_reading.specs.Accepts.{label_of}
use Rattle.jser_reading.specs.Machine.{advance}
use Rattle.jser_reading.specs.Scanner.{more, IsUndecided}
use Rattle.jser_verdict.specs.Gates.{Gate}
use Rattle.jser_verdict.specs.Verdicts.{reason_at, verdict}
use Rattle.jser_reader.specs.declared.machine.flow.Flow.TheVariants as flow
use Rattle.jser_reader.specs.declared.phase.Phase.TheVariants as phase
use Rattle.jser_reader.specs.Stacks.{FitsDepth}
use Rattle.jser_reader.specs.Readers.{Seen, moment_of, goals_of}
use Rattle.jser_reader.specs.Steps.{after_value}
use Rattle.jser_reader.specs.Handlers.{Tells}
use Rattle.jser_reader.specs.Walks.{PrimsStands, BytesStands, StandsAt, Stands, Took, Takes, StaysOpen, Keeps, Counts}
use Rattle.jser_reader.proofs.WalkLemmas.{walk_open, verdict_more}
use Rattle.jser_reader.proofs.StandLemmas.{judged}
use Rattle.jser_reader.proofs.FixedWalks.{limits_counted}

-- so many bytes of any kind
pub record IsRaw (l : Label) (size : ℕ) (token : List ℕ → StreamToken) : Type 0 where
  pub quiet : (g : Gate) (bytes : List ℕ) → reason_at g l l.position bytes ≡ None
  pub size_is : (bytes : List ℕ) → size_in l.position bytes ≡ size
  pub found : (bytes : List ℕ) → token_in l.position bytes ≡ Some (token bytes)

raw_undecided : (g : Gate) (l : Label) (size : ℕ) (token : List ℕ → StreamToken) (bytes : List ℕ) → IsRaw l size token → length bytes ≤ size
    → IsUndecided (verdict g) l bytes
raw_undecided g l size token bytes i k a c d e =
    let n : length bytes ≡ length a + suc (length d) = ap length e ∙ length-append a (c ∷ d) in
    let s = i.size_is a in
    verdict_more g l a (i.quiet g a) (omega arith)

raw_more : (g : Gate) (l : Label) (size : ℕ) (token : List ℕ → StreamToken) (bytes : List ℕ) → IsRaw l size token → length bytes < size
    → verdict g l bytes ≡ more
raw_more g l size token bytes i k = let s = i.size_is bytes in verdict_more g l bytes (i.quiet g bytes) (omega arith)

prims_raw : (s : State) (r : Seen) (depth : ℕ) (c : PrimCode) (n : ℕ) (parts : List Part) (goals : List Goal)
    → s ≡ (moment_of r, parts_goal depth (raw_part c (suc n) ∷ parts) ∷ goals)
    → IsRaw (label_of s) (suc n * size_of c) (λ bytes. prims_token (prims_in c (suc n) bytes))
prims_raw s r depth c n parts goals e =
    subst (λ t. IsRaw (label_of t) (suc n * size_of c) (λ bytes. prims_token (prims_in c (suc n) bytes))) (sym e)
    (record { quiet = λ g bytes. refl; size_is = λ bytes. refl; found = λ bytes. refl })

block_raw : (s : State) (r : Seen) (depth n : ℕ) (goals : List Goal) → s ≡ (moment_of r, block_goal depth (suc n) ∷ goals)
    → IsRaw (label_of s) (suc n) (λ bytes. bytes_token bytes)
block_raw s r depth n goals e =
    subst (λ t. IsRaw (label_of t) (suc n) (λ bytes. bytes_token bytes)) (sym e)
    (record { quiet = λ g bytes. refl; size_is = λ bytes. refl; found = λ bytes. refl })

-- what comes next is the same after bytes were counted

same_after : (bytes : List ℕ) (old mid : Seen) → Counts bytes old mid → settle (moment_of old) (goals_of old) ≡ after_value mid
unfolding after_value
same_after bytes old mid c = rw c.frames (rw c.layers (rw c.table (rw c.refs refl)))

same_moment : (bytes : List ℕ) (old mid : Seen) → Counts bytes old mid → moment_of old ≡ moment_of mid
same_moment bytes old mid c = rw c.table (rw c.refs refl)

same_goals : (bytes : List ℕ) (old mid : Seen) → Counts bytes old mid → goals_of old ≡ goals_of mid
same_goals bytes old mid c = rw c.frames (rw c.layers (rw c.table refl))

same_block : (s : State) (bytes : List ℕ) (old mid : Seen) → Counts bytes old mid → (n : ℕ)
    → s ≡ (moment_of old, block_goal (length old.frames) (suc n) ∷ goals_of old) → s ≡ (moment_of mid, block_goal (length mid.frames) (suc n) ∷ goals_of mid)
same_block s bytes old mid c n e = rw c.frames (rw c.layers (rw c.table (rw c.refs e)))

-- the last raw bytes end the token
raw_taken : (gate : Gate) (old mid new : Seen) (s : State) (cut taken : List ℕ) (size : ℕ) (token : List ℕ → StreamToken)
    → IsRaw (label_of (settled s)) size token
    → Tells None (after_value mid) flow.On mid new → Stands gate old (settled s) cut → Counts taken old mid
    → 0 < length taken → length (cut ++ taken) ≡ size
    → settled (advance (settled s) (token (cut ++ taken))) ≡ after_value mid
    → Took gate s cut taken flow.On old new
raw_taken gate old mid new s cut taken size token i h st c some n goes =
    judged gate None (after_value mid) flow.On old mid new s cut taken h st c some
    (raw_undecided gate (label_of (settled s)) size token (cut ++ taken) i (omega arith)) (i.quiet gate (cut ++ taken))
    (λ _. record {
      token = token (cut ++ taken);
      enough = let k = i.size_is (cut ++ taken) in omega arith;
      found = i.found (cut ++ taken);
      goes = goes;
    })
    (λ stops. absurd (cc))

pub prims_taken : (gate : Gate) (old mid new : Seen) (taken : List ℕ) → Tells None (after_value mid) flow.On mid new
    → old.phase ≡ phase.Prims → 0 < length taken → length taken ≡ old.left → Counts taken old mid
    → Takes gate taken flow.On old new
unfolding Takes
prims_taken gate old mid new taken h ep some n c = λ s cut st.
    let x : PrimsStands old (settled s) cut = subst (λ p. StandsAt p old (settled s) cut) ep st.stands in
    let z = x.size in
    let l : length (cut ++ taken) ≡ length cut + length taken = length-append cut taken in
    raw_taken gate old mid new s cut taken (suc x.more * size_of x.type_code) (λ bytes. prims_token (prims_in x.type_code (suc x.more) bytes))
    (prims_raw (settled s) old x.depth x.type_code x.more x.parts x.goals x.is) h st c some (l ∙ ap (λ k. length cut + k) n ∙ z)
    (ap (λ t. settled (advance t (prims_token (prims_in x.type_code (suc x.more) (cut ++ taken))))) x.is ∙ x.after ∙ same_after taken old mid c)

pub block_taken : (gate : Gate) (old mid new : Seen) (taken : List ℕ) → Tells None (after_value mid) flow.On mid new
    → old.phase ≡ phase.Bytes → 0 < length taken → length taken ≡ old.left → Counts taken old mid
    → Takes gate taken flow.On old new
unfolding Takes
block_taken gate old mid new taken h ep some n c = λ s cut st.
    let x : BytesStands old (settled s) cut = subst (λ p. StandsAt p old (settled s) cut) ep st.stands in
    let z = x.size in
    let l : length (cut ++ taken) ≡ length cut + length taken = length-append cut taken in
    raw_taken gate old mid new s cut taken (suc x.more) (λ bytes. bytes_token bytes)
    (block_raw (settled s) old (length old.frames) x.more (goals_of old) x.is) h st c some (l ∙ ap (λ k. length cut + k) n ∙ z)
    (ap (λ t. settled (advance t (bytes_token (cut ++ taken)))) x.is ∙ same_after taken old mid c)

-- others leave it open
raw_kept : (gate : Gate) (old new : Seen) (s : State) (cut piece : List ℕ) (size : ℕ) (token : List ℕ → StreamToken)
    → IsRaw (label_of (settled s)) size token → Stands gate old (settled s) cut → Counts piece old new → length (cut ++ piece) < size
    → StandsAt new.phase new (settled s) (cut ++ piece) → StaysOpen gate s cut piece old new
raw_kept gate old new s cut piece size token i st c k h =
    let n : length (cut ++ piece) ≡ length cut + length piece = length-append cut piece in
    let a = c.at in
    let f = c.from in
    let e = st.counts in
    record {
      walks = walk_open (verdict gate) s piece cut (raw_undecided gate (label_of (settled s)) size token (cut ++ piece) i (omega arith))
          (raw_more gate (label_of (settled s)) size token (cut ++ piece) i k);
      stands = record { limits_are = limits_counted gate piece old new c st.limits_are; stands = h; counts = omega arith };
      at = c.at;
    }

pub prims_kept : (gate : Gate) (old new : Seen) (piece : List ℕ) → old.phase ≡ phase.Prims → new.phase ≡ phase.Prims
    → length piece < old.left → new.left + length piece ≡ old.left → Counts piece old new → Keeps gate piece old new
unfolding Keeps
prims_kept gate old new piece ep en k left c = λ s cut st.
    let x : PrimsStands old (settled s) cut = subst (λ p. StandsAt p old (settled s) cut) ep st.stands in
    let z = x.size in
    let l : length (cut ++ piece) ≡ length cut + length piece = length-append cut piece in
    let q : length (cut ++ piece) + new.left ≡ length cut + old.left = omega arith in
    let some : 0 < new.left = omega arith in
    let h : PrimsStands new (settled s) (cut ++ piece) = record {
      depth = x.depth;
      type_code = x.type_code;
      more = x.more;
      parts = x.parts;
      goals = x.goals;
      is = x.is ∙ ap (λ m. (m, parts_goal x.depth (raw_part x.type_code (suc x.more) ∷ x.parts) ∷ x.goals)) (same_moment piece old new c);
      size = q ∙ z;
      depth_is = subst (λ fs. FitsDepth (length fs) x.depth) (sym c.frames) x.depth_is;
      goes_on = some;
      after =
          ap (λ m. settle m (parts_goal x.depth x.parts ∷ x.goals)) (sym (same_moment piece old new c)) ∙ x.after
          ∙ ap₂ (λ m gs. settle m gs) (same_moment piece old new c) (same_goals piece old new c);
    } in
    raw_kept gate old new s cut piece (suc x.more * size_of x.type_code) (λ bytes. prims_token (prims_in x.type_code (suc x.more) bytes))
    (prims_raw (settled s) old x.depth x.type_code x.more x.parts x.goals x.is) st c
    (less (length (cut ++ piece)) new.left (suc x.more * size_of x.type_code) some (q ∙ z))
    (subst (λ p. StandsAt p new (settled s) (cut ++ piece)) (sym en) h)
  where
    less : (a b n : ℕ) → 0 < b → a + b ≡ n → a < n
    less a b n h e = omega arith

pub block_kept : (gate : Gate) (old new : Seen) (piece : List ℕ) → old.phase ≡ phase.Bytes → new.phase ≡ phase.Bytes
    → length piece < old.left → new.left + length piece ≡ old.left → Counts piece old new → Keeps gate piece old new
unfolding Keeps
block_kept gate old new piece ep en k left c = λ s cut st.
    let x : BytesStands old (settled s) cut = subst (λ p. StandsAt p old (settled s) cut) ep st.stands in
    let z = x.size in
    let l : length (cut ++ piece) ≡ length cut + length piece = length-append cut piece in
    let h : BytesStands new (settled s) (cut ++ piece) = record {
      more = x.more;
      is = same_block (settled s) piece old new c x.more x.is;
      size = omega arith;
      goes_on = omega arith;
    } in
    raw_kept gate old new s cut piece (suc x.more) (λ bytes. bytes_token bytes)
    (block_raw (settled s) old (length old.frames) x.more (goals_of old) x.is) st c (omega arith)
    (subst (λ p. StandsAt p new (settled s) (cut ++ piece)) (sym en) h)
