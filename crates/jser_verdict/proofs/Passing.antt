-- What a gate lets pass, in words of the tree, is what it lets pass token by token, within its limit of bytes.
use Rattle.std.proofs.Common.{◌≡◌, ℕ, ◌≤◌, List, [], ◌∷◌, length, refl, sym, arith, IsTrue, true≢false}
use Rattle.jser_reading.proofs.Vocabulary.{ContentTrees}
use Rattle.jser_reading.specs.GateLimits.{gate_of, Each}
use Rattle.jser_reading.specs.Scanner.{PassesBy}
use Rattle.jser_reading.proofs.WithinLimits.{limited_law}
use Rattle.jser_verdict.specs.Gates.{Answer, pass, rejected, unmatched, Gate, is_pass, limits_of}
use Rattle.jser_verdict.specs.Passing.{Passes}
use Rattle.jser_verdict.specs.AnswerLaws.{LoweredIsGate, LoweredPasses}

passed_name : (a : Answer) → a ≡ pass → IsTrue (is_pass a)
passed_name a e = rw e refl

name_passed : (a : Answer) → IsTrue (is_pass a) → a ≡ pass
name_passed pass h = refl
name_passed rejected h = absurd (true≢false (sym h))
name_passed unmatched h = absurd (true≢false (sym h))

each_mapped : {A : Type 0} (P Q : A → Type 0) (xs : List A) → ((x : A) → P x → Q x) → Each P xs → Each Q xs
each_mapped P Q [] f h = tt
each_mapped P Q (x ∷ xs) f h = (f x h.0, each_mapped P Q xs f h.1)

pub by_tokens : (g : Gate) (bytes : List ℕ) (list : ContentTrees) → Passes g bytes list
    → PassesBy (gate_of (limits_of g)) bytes list × (length bytes ≤ g.bytes)
by_tokens g bytes list (st, names, le, depth, refs, arrays, handles) = (
  (st, (limited_law (limits_of g) list st.1).1 (depth, refs, arrays, handles, each_mapped _ _ _ (λ name h. passed_name (g.answer name) h) names)),
  le,
)

pub by_tree : (g : Gate) (bytes : List ℕ) (list : ContentTrees) → PassesBy (gate_of (limits_of g)) bytes list
    → length bytes ≤ g.bytes → Passes g bytes list
by_tree g bytes list (st, all) le =
    let x = (limited_law (limits_of g) list st.1).0 all in
    (st, each_mapped _ _ _ (λ name h. name_passed (g.answer name) h) x.4, le, x.0, x.1, x.2, x.3)

pub lowered_is_gate : LoweredIsGate
lowered_is_gate g bytes depth h =
    let b = h.0 in let d = h.1 in (omega (arith, b), omega (arith, d), h.2, h.3, h.4)

pub lowered_passes : LoweredPasses
lowered_passes g most deepest bytes list = (
  λ (st, names, le, depth, refs, arrays, handles). (
    (st, names, omega (arith, le), omega (arith, depth), refs, arrays, handles),
    omega (arith, le),
    omega (arith, depth),
  ),
  λ ((st, names, le, depth, refs, arrays, handles), a, b). (
    st,
    names,
    omega (arith, le, a),
    omega (arith, depth, b),
    refs,
    arrays,
    handles,
  ),
)
