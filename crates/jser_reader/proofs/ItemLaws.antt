-- Laws of the tokens that a reader took.
use Rattle.std.proofs.Common.{true, List, [], ◌∷◌, ◌++◌, refl, sym, ◌∙◌, subst, append_assoc}
use Rattle.jser_reading.specs.Labels.{Piece, piece}
use Rattle.jser_reading.specs.Tokens.{tokens_of}
use Rattle.jser_reading.specs.TokenBytes.{joined}
use Rattle.jser_reading.specs.Machine.{begin_state, Runs}
use Rattle.jser_reading.specs.Scanner.{TokenGate, AllPass}
use Rattle.jser_reading.proofs.Exact.{exact_law}
use Rattle.jser_reading.proofs.PlainVerdict.{plain_verdict, scanner}
use Rattle.jser_reading.proofs.Reading.{begin_pieces}
use Rattle.jser_reading.proofs.SpelledTokens.{spelled_law}
use Rattle.jser_reader.specs.ReaderStates.{StandsFor}
use Rattle.jser_reader.specs.TokenLaws.{BytesAreTokens, TokensBeginStreams}
use Rattle.jser_reader.proofs.ItemCalls.{stands_in}

pub bytes_are_tokens_law : BytesAreTokens
unfolding StandsFor
bytes_are_tokens_law gate bytes r tally = (
  λ st. (st.0.taken.tokens, st.0.taken.cut, st.0.taken.are_tokens, stands_in gate bytes st.0.taken.tokens st.0.taken.cut r tally st.0 refl refl st.1),
  λ h. subst (λ b. StandsFor gate b r tally) (sym h.2) (h.3.counted, h.3.within),
)

-- a gate that lets all tokens through
abbrev all_tokens : TokenGate
all_tokens label token = true

all_pass : (tokens : List Piece) → AllPass all_tokens tokens
all_pass [] = tt
all_pass (piece label token ∷ tokens) = (refl, all_pass tokens)

pub tokens_begin_streams_law : TokensBeginStreams
tokens_begin_streams_law gate front cut r tally h behind list st =
    begin_pieces all_tokens (plain_verdict all_tokens) (scanner all_tokens) front (tokens_of list) begin_state (cut ++ behind)
    (subst (Runs begin_state) h.tokens_are h.counted.taken.runs) ((exact_law (tokens_of list)).1 (list, st.1, refl)) (all_pass front)
    (sym (append_assoc (joined front) cut behind) ∙ st.0 ∙ sym (spelled_law list st.1))
