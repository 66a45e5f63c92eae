-- From the contract of a handler to the walk over bytes: what the machine stands for before and after a token.
use Rattle.std.proofs.Common.{◌≡◌, ℕ, suc, ◌+◌, ◌*◌, ◌<◌, List, [], ◌∷◌, ◌++◌, length, Option, Some, None, refl, sym, ◌∙◌, ap, ap₂, subst, arith, append_assoc, append-nil, length-append, inr}
use Rattle.jser_table.specs.Codes.{PrimCode, byte_code, char_code, double_code, float_code, int_code, long_code, short_code, boolean_code, size_of}
use Rattle.jser_grammar.specs.Parts.{IsBytes}
use Rattle.jser_reading.specs.Labels.{StreamToken, Piece, piece}
use Rattle.jser_reading.specs.TokenBytes.{bytes_of, joined}
use Rattle.jser_reading.specs.TokensFromBytes.{size_in, token_in}
use Rattle.jser_reading.specs.Goals.{State, settled}
use Rattle.jser_reading.specs.Accepts.{label_of, Accepts}
use Rattle.jser_reading.specs.Machine.{advance, begin_state, Runs, left}
use Rattle.jser_reading.specs.Scanner.{good, bad, IsUndecided, by_verdict, walk, refused, ended}
use Rattle.jser_reading.proofs.Fronts.{left-append, Runs-append}
use Rattle.jser_reading.proofs.Next.{next_law}
use Rattle.jser_reading.proofs.Walking.{joined-append}
use Rattle.jser_verdict.specs.Reasons.{turn}
use Rattle.jser_verdict.specs.Reasons.{Reason as ToldReason}
use Rattle.jser_verdict.specs.Gates.{Gate, Answer}
use Rattle.jser_verdict.specs.Verdicts.{reason_at, verdict}
use Rattle.jser_verdict.proofs.Scanning.{scanning_verdict}
use Rattle.jser_verdict.proofs.Scans.{verdict_scans}
use Rattle.jser_verdict.proofs.ToldRows.{same_verdict}
use Rattle.jser_verdict.proofs.ByteLists.{bytes_both, bytes_right}
use Rattle.jser_verdict.proofs.ReadTokens.{read_next}
use Rattle.jser_reader.specs.declared.machine.flow.Flow.{Flow}
use Rattle.jser_reader.specs.declared.machine.flow.Flow.TheVariants as flow
use Rattle.jser_reader.specs.declared.phase.Phase.{Phase}
use Rattle.jser_reader.specs.declared.phase.Phase.TheVariants as phase
use Rattle.jser_reader.specs.Readers.{Seen, Ready, ReadyAt, PrimsReady, BytesReady}
use Rattle.jser_reader.specs.Memory.{IsForgotten}
use Rattle.jser_reader.specs.Handlers.{Tells, TellCases, TellsSurely}
use Rattle.jser_reader.specs.Walks.{gate_with, PrimsStands, BytesStands, StandsAt, Stands, HasTaken, Took, Takes, Keeps, Counts}
use Rattle.jser_reader.proofs.WalkLemmas.{walk_on, judged_by, walk_token, verdict_good, verdict_bad}

-- ---- where a token begins

some_size : (c : PrimCode) → 0 < size_of c
some_size byte_code = omega arith
some_size char_code = omega arith
some_size double_code = omega arith
some_size float_code = omega arith
some_size int_code = omega arith
some_size long_code = omega arith
some_size short_code = omega arith
some_size boolean_code = omega arith

prims_begin : (r : Seen) (s : State) → PrimsReady r s → PrimsStands r s []
prims_begin r s h = record {
  depth = h.depth;
  type_code = h.type_code;
  more = h.more;
  parts = h.parts;
  goals = h.goals;
  is = h.is;
  size = let e = h.size in omega arith;
  goes_on = let e = h.size in let k = some_size h.type_code in some h.more (size_of h.type_code) r.left k e;
  depth_is = h.depth_is;
  after = h.after;
}
  where
    some : (n k left : ℕ) → 0 < k → left ≡ suc n * k → 0 < left
    some n k left h e = omega (arith, e)

bytes_begin : (r : Seen) (s : State) → BytesReady r s → BytesStands r s []
bytes_begin r s h = record {
  more = h.more;
  is = h.is;
  size = let e = h.size in omega arith;
  goes_on = let e = h.size in omega arith;
}

pub stands_at : (p : Phase) (r : Seen) (s : State) → ReadyAt p r s → StandsAt p r s []
stands_at phase.Prims r s h = prims_begin r s h
stands_at phase.Bytes r s h = bytes_begin r s h
stands_at phase.Text r s h = absurd h
stands_at phase.Cut r s h = absurd h
stands_at phase.Stopped r s h = absurd h
stands_at p r s h = (h, refl)

-- a machine that is ready has no cut token
pub stands_ready : (gate : Gate) (r : Seen) (s : State) → Ready r s → gate_with r gate.answer ≡ gate → r.meter.at ≡ r.meter.from
    → Stands gate r s []
unfolding Ready
stands_ready gate r s h g e =
    record { limits_are = g; stands = stands_at r.phase r s h; counts = omega arith }

-- the limits stay what they are
pub same_limits : (old new : Seen) (answer : List ℕ → Answer) → new.meter.limits ≡ old.meter.limits → new.table.max ≡ old.table.max
    → gate_with new answer ≡ gate_with old answer
same_limits old new answer el em =
    ap₂ (λ l n. record { bytes = l.bytes; depth = l.depth; refs = l.refs; array = l.array; handles = n; answer = answer }) el em

-- ---- a token that a handler judged

-- the bytes are a token that leads to this state
pub record LeadsTo (s : State) (bytes : List ℕ) (next : State) : Type 0 where
  pub token : StreamToken
  pub enough : size_in (label_of s).position bytes ≡ length bytes
  pub found : token_in (label_of s).position bytes ≡ Some token
  pub goes : settled (advance s token) ≡ next

-- what a handler that takes no memory tells, or one that cannot fail
pub tells_surely : (told : Option ToldReason) (s : State) (found : Flow) (old new : Seen) → TellsSurely told s found old new → Tells told s found old new
unfolding Tells TellsSurely
tells_surely None s flow.On old new h = h
tells_surely None s flow.Stopped old new h = absurd h
tells_surely (Some k) s flow.On old new h = absurd h
tells_surely (Some k) s flow.Stopped old new h = h

-- where it refuses nothing, it goes on
pub surely_goes_on : (told : Option ToldReason) (s : State) (found : Flow) (old new : Seen) → TellsSurely told s found old new → found ≡ flow.Stopped → told ≡ None → ⊥
unfolding TellsSurely
surely_goes_on None s flow.On old new h stops none = absurd (cc)
surely_goes_on None s flow.Stopped old new h stops none = h
surely_goes_on (Some k) s found old new h stops none = absurd (cc)

took_token : (gate : Gate) (told : Option ToldReason) (next : State) (found : Flow) (old mid new : Seen) (s : State) (cut taken : List ℕ)
    → TellCases told next found mid new → Stands gate old (settled s) cut → Counts taken old mid
    → ((rest : List ℕ) → walk (verdict gate) s cut (taken ++ rest) ≡ judged_by (verdict gate) s (cut ++ taken) rest)
    → reason_at gate (label_of (settled s)) (label_of (settled s)).position (cut ++ taken) ≡ told
    → (told ≡ None → LeadsTo (settled s) (cut ++ taken) next)
    → (found ≡ flow.Stopped → told ≡ None → IsForgotten (label_of (settled s)).position → ⊥)
    → Took gate s cut taken found old new
took_token gate None next flow.On old mid new s cut taken h st c w e leads keeps =
    let x = leads refl in
    let v : verdict gate (label_of (settled s)) (cut ++ taken) ≡ good x.token =
    verdict_good gate (label_of (settled s)) (cut ++ taken) x.token e (let w = x.enough in omega arith) x.found in
    record {
      token = x.token;
      is_good = v;
      whole = x.enough;
      walks =
          λ rest. w rest
          ∙ ap (λ y. by_verdict y (walk (verdict gate) s (cut ++ taken) rest) (λ f. walk (verdict gate) (advance (settled s) f) [] rest)
          (λ r. refused (cut ++ taken) rest r)) v;
      stands =
          rw x.goes
          (stands_ready gate new next h.ready
          (same_limits old new gate.answer (ap (λ m. m.limits) h.meter ∙ c.limits) (h.max ∙ ap (λ t. t.max) c.table) ∙ st.limits_are)
          (ap (λ m. m.at) h.meter ∙ sym (ap (λ m. m.from) h.meter)));
      at = ap (λ m. m.at) h.meter ∙ c.at;
    }
took_token gate (Some k) next flow.On old mid new s cut taken h st c w e leads keeps = absurd h
took_token gate None next flow.Stopped old mid new s cut taken h st c w e leads keeps = (h.phase, rw h.stop (inr (keeps refl refl, (leads refl).enough)))
took_token gate (Some k) next flow.Stopped old mid new s cut taken h st c w e leads keeps =
    let v : verdict gate (label_of (settled s)) (cut ++ taken) ≡ bad (turn k) = verdict_bad gate (label_of (settled s)) (cut ++ taken) k e in (
      h.phase,
      rw h.stop (record {
        reason = k;
        is_named = refl;
        walks =
            λ rest. w rest
            ∙ ap (λ y. by_verdict y (walk (verdict gate) s (cut ++ taken) rest) (λ f. walk (verdict gate) (advance (settled s) f) [] rest)
            (λ r. refused (cut ++ taken) rest r)) v;
        begins = c.from;
        ends =
            let n : length (cut ++ taken) ≡ length cut + length taken = length-append cut taken in
            let a = c.at in
            let k = st.counts in
            omega arith;
      }),
    )

-- the bytes of a token of which no front decides, as its handler judged them
pub judged : (gate : Gate) (told : Option ToldReason) (next : State) (found : Flow) (old mid new : Seen) (s : State) (cut taken : List ℕ)
    → Tells told next found mid new → Stands gate old (settled s) cut → Counts taken old mid → 0 < length taken
    → IsUndecided (verdict gate) (label_of (settled s)) (cut ++ taken)
    → reason_at gate (label_of (settled s)) (label_of (settled s)).position (cut ++ taken) ≡ told
    → (told ≡ None → LeadsTo (settled s) (cut ++ taken) next)
    → (found ≡ flow.Stopped → told ≡ None → IsForgotten (label_of (settled s)).position → ⊥)
    → Took gate s cut taken found old new
unfolding Tells
judged gate told next found old mid new s cut taken h st c some u e leads keeps =
    took_token gate told next found old mid new s cut taken h st c (λ rest. walk_token (verdict gate) s taken cut rest some u) e leads keeps

-- ---- the bytes that the machine stands for

-- what ends the open token is a token that may come there
pub token_read : (gate : Gate) (tokens : List Piece) (bytes : List ℕ) (token : StreamToken)
    → let l = label_of (settled (left begin_state tokens)) in
    Runs begin_state tokens → verdict gate l bytes ≡ good token → size_in l.position bytes ≡ length bytes → IsBytes bytes
    → (bytes ≡ bytes_of token) × Accepts l token
token_read gate tokens bytes token r v e h =
    let l = label_of (settled (left begin_state tokens)) in
    let same : verdict gate l bytes ≡ scanning_verdict gate l bytes =
    same_verdict gate l bytes (read_next tokens l ((next_law tokens l).1 (r, refl))) h (omega arith) in
    let g = (verdict_scans gate).good_is l bytes token (sym same ∙ v) in (g.0, g.1)

unfoldable pub took_stands : (gate : Gate) (old new : Seen) (bytes taken : List ℕ) → Takes gate taken flow.On old new → IsBytes taken → HasTaken gate bytes old
    → HasTaken gate (bytes ++ taken) new
unfolding Takes
took_stands gate old new bytes taken h bt st =
    let s = left begin_state st.tokens in
    let l = label_of (settled s) in
    let x = h s st.cut st.stands in
    let all : IsBytes (bytes ++ taken) = bytes_both bytes taken st.all_bytes bt in
    let is : bytes ++ taken ≡ joined st.tokens ++ (st.cut ++ taken) = ap (λ b. b ++ taken) st.are_tokens ∙ append_assoc (joined st.tokens) st.cut taken in
    let of_token : IsBytes (st.cut ++ taken) = bytes_right (joined st.tokens) (st.cut ++ taken) (subst IsBytes is all) in
    let f = token_read gate st.tokens (st.cut ++ taken) x.token st.runs x.is_good x.whole of_token in
    let after : left begin_state (st.tokens ++ (piece l x.token ∷ [])) ≡ advance (settled s) x.token = left-append st.tokens (piece l x.token ∷ []) begin_state in
    let w : walk (verdict gate) begin_state [] (bytes ++ taken) ≡ ended (advance (settled s) x.token) [] =
    walk_on (verdict gate) bytes taken begin_state s [] st.cut st.walked
    ∙ ap (walk (verdict gate) s st.cut) (sym (append-nil taken)) ∙ x.walks [] in
    let n : length (bytes ++ taken) ≡ length bytes + length taken = length-append bytes taken in
    let a = x.at in
    let t = st.taken in
    record {
      tokens = st.tokens ++ (piece l x.token ∷ []);
      cut = [];
      runs = Runs-append st.tokens (piece l x.token ∷ []) begin_state st.runs (refl, f.1, tt);
      are_tokens =
          is ∙ ap (λ b. joined st.tokens ++ b) (f.0 ∙ sym (append-nil (bytes_of x.token)))
          ∙ sym (joined-append st.tokens (piece l x.token ∷ [])) ∙ sym (append-nil (joined (st.tokens ++ (piece l x.token ∷ []))));
      walked = w ∙ ap (λ t. ended t []) (sym after);
      stands = subst (λ t. Stands gate new (settled t) []) (sym after) x.stands;
      taken = omega arith;
      all_bytes = all;
    }

unfoldable pub kept_stands : (gate : Gate) (old new : Seen) (bytes taken : List ℕ) → Keeps gate taken old new → IsBytes taken → HasTaken gate bytes old
    → HasTaken gate (bytes ++ taken) new
unfolding Keeps
kept_stands gate old new bytes taken h bp st =
    let s = left begin_state st.tokens in
    let x = h s st.cut st.stands in
    let n : length (bytes ++ taken) ≡ length bytes + length taken = length-append bytes taken in
    let a = x.at in
    let t = st.taken in
    record {
      tokens = st.tokens;
      cut = st.cut ++ taken;
      runs = st.runs;
      are_tokens = ap (λ b. b ++ taken) st.are_tokens ∙ append_assoc (joined st.tokens) st.cut taken;
      walked = walk_on (verdict gate) bytes taken begin_state s [] st.cut st.walked ∙ x.walks;
      stands = x.stands;
      taken = omega arith;
      all_bytes = bytes_both bytes taken st.all_bytes bp;
    }
