-- What a reader that keeps a tally knows after a piece, and at the end.
use Rattle.std.proofs.Common.{◌≡◌, ℕ, zero, suc, ◌<◌, ◌≤◌, List, [], ◌∷◌, ◌++◌, length, take, get_or, refl, sym, arith, ◌∙◌, ap, subst}
use Rattle.jser_grammar.specs.Trees.{ContentTrees}
use Rattle.jser_grammar.specs.Parts.{IsBytes}
use Rattle.jser_reading.specs.Goals.{settled}
use Rattle.jser_reading.specs.Machine.{begin_state, left}
use Rattle.jser_reading.specs.Scanner.{ended}
use Rattle.jser_verdict.specs.Gates.{Gate}
use Rattle.jser_verdict.specs.Passing.{Passes}
use Rattle.jser_reader.specs.declared.machine.flow.Flow.TheVariants as flow
use Rattle.jser_reader.specs.declared.phase.Phase.TheVariants as phase
use Rattle.jser_reader.specs.declared.tally.Tally.{Tally}
use Rattle.jser_reader.specs.Readers.{Seen}
use Rattle.jser_reader.specs.States.{IsWithin}
use Rattle.jser_reader.specs.Walks.{Takes, Keeps}
use Rattle.jser_reader.specs.Tallies.{tally_next, HasCounted, totals_of, AreTotals}
use Rattle.jser_reader.proofs.AnswerLemmas.{passes}
use Rattle.jser_reader.proofs.CountLemmas.{took_counts, kept_counts, counts_are_totals}
use Rattle.jser_reader.proofs.ReaderLemmas.{token_ends, token_goes_on, bytes_front, front_of_front}
use Rattle.jser_reader.proofs.StreamWalks.{ends_at_top}

-- the first byte that is taken of a piece
first_of : (n : ℕ) (xs : List ℕ) → 0 < n → get_or (take n xs) 0 0 ≡ get_or xs 0 0
first_of zero xs some = absurd (omega arith)
first_of (suc n) [] some = refl
first_of (suc n) (x ∷ xs) some = refl

pub first_taken : (old : Seen) (piece front : List ℕ) (n : ℕ) → IsWithin old piece front → n ≤ length front → 0 < n → get_or (take n piece) 0 0 ≡ get_or front 0 0
first_taken old piece front n w le some = ap (λ xs. get_or xs 0 0) (sym (front_of_front old piece front n w le)) ∙ first_of n front some

-- a token has ended within the piece
pub token_counts : (gate : Gate) (bytes piece front : List ℕ) (n : ℕ) (old new : Seen) (tally : Tally) → IsWithin old piece front → n ≤ length front
    → IsBytes piece → Takes gate (take n front) flow.On old new → HasCounted gate bytes old tally → length bytes ≤ gate.bytes
    → HasCounted gate (bytes ++ take n piece) new (tally_next old (get_or (take n piece) 0 0) tally)
    × (length (bytes ++ take n piece) ≤ gate.bytes)
token_counts gate bytes piece front n old new tally w le h t c room = (
  took_counts gate old new bytes (take n piece) tally (subst (λ xs. Takes gate xs flow.On old new) (front_of_front old piece front n w le) t)
      (bytes_front n piece h) c,
  (token_ends gate bytes piece front n old new w le h t c.taken room).1,
)

-- the open token goes on
pub goes_on_counts : (gate : Gate) (bytes piece front : List ℕ) (n : ℕ) (old new : Seen) (tally : Tally) → IsWithin old piece front → n ≤ length front
    → IsBytes piece → Keeps gate (take n front) old new → HasCounted gate bytes old tally → length bytes ≤ gate.bytes
    → HasCounted gate (bytes ++ take n piece) new tally × (length (bytes ++ take n piece) ≤ gate.bytes)
goes_on_counts gate bytes piece front n old new tally w le h t c room = (
  kept_counts gate old new bytes (take n piece) tally (subst (λ xs. Keeps gate xs old new) (front_of_front old piece front n w le) t)
      (bytes_front n piece h) c,
  (token_goes_on gate bytes piece front n old new w le h t c.taken room).1,
)

-- at the top the bytes are a stream that passes, and the totals are its counts
pub finish_totals : (gate : Gate) (bytes : List ℕ) (r : Seen) (tally : Tally) → HasCounted gate bytes r tally → length bytes ≤ gate.bytes
    → r.phase ≡ phase.Top → (list : ContentTrees) × Passes gate bytes list × AreTotals bytes list (totals_of r tally)
finish_totals gate bytes r tally c room top =
    let st = c.taken in
    let s = left begin_state st.tokens in
    let d = ends_at_top gate r (settled s) st.cut st.stands top in
    let x = passes gate bytes s st.all_bytes room (st.walked ∙ ap (λ cut. ended s cut) d.1) d.0 in
    (x.0, x.1, counts_are_totals gate bytes r tally x.0 c top x.1.0)
