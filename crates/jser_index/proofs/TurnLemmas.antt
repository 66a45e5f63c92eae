-- Bytes that a reader took, by their tokens.
use Rattle.std.proofs.Common.{◌≡◌, ℕ, List, [], ◌∷◌, ◌++◌, length, sym, ◌∙◌, ap, arith, append_assoc, append-nil}
use Rattle.jser_reading.specs.Labels.{StreamToken, Label, Piece, piece}
use Rattle.jser_reading.specs.TokenBytes.{bytes_of, joined}
use Rattle.jser_verdict.specs.Gates.{Gate}
use Rattle.jser_reader.specs.declared.tally.Tally.{Tally}
use Rattle.jser_reader.specs.Readers.{Seen}
use Rattle.jser_reader.specs.ReaderStates.{StandsFor}
use Rattle.jser_reader.specs.ItemsTold.{StandsIn}

pub stands_for : (gate : Gate) (front : List Piece) (cut : List ℕ) (r : Seen) (tally : Tally) → StandsIn gate front cut r tally
    → StandsFor gate (joined front ++ cut) r tally
unfolding StandsFor
stands_for gate front cut r tally h = (h.counted, h.within)

-- all bytes have been taken
pub whole : (bytes rest : List ℕ) (front : List Piece) (cut : List ℕ) → bytes ≡ (joined front ++ cut) ++ rest → length rest ≡ 0 → bytes ≡ joined front ++ cut
whole bytes [] front cut split n = split ∙ append-nil (joined front ++ cut)
whole bytes (b ∷ rest) front cut split n = absurd (omega arith)

pub joined_one : (front : List Piece) (label : Label) (told : StreamToken) → joined (front ++ (piece label told ∷ [])) ≡ joined front ++ bytes_of told
joined_one [] label told = append-nil (bytes_of told)
joined_one (piece l f ∷ front) label told =
    ap (λ xs. bytes_of f ++ xs) (joined_one front label told) ∙ sym (append_assoc (bytes_of f) (joined front) (bytes_of told))
