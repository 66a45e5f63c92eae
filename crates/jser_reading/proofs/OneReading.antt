-- One reading, as a law of the definitions alone: over spellings and well-formed trees, with no verdict in it.
use Rattle.std.proofs.Common.{◌≡◌, true, List, [], ◌∷◌, ◌++◌, refl, sym, ◌∙◌, ap, append-nil}
use Rattle.jser_reading.proofs.Vocabulary.{ValueTree, WellFormedValue, Moment, Piece, piece, tokens_of}
use Rattle.jser_grammar.specs.Spelling.{value_spelling}
use Rattle.jser_reading.specs.TokenBytes.{joined}
use Rattle.jser_reading.specs.Scanner.{TokenGate, AllPass}
use Rattle.jser_reading.specs.ByteLaws.{OneReading, NoPrefix}
use Rattle.jser_reading.proofs.SpelledTokens.{spelled_value, spelled_law}
use Rattle.jser_reading.proofs.PlainVerdict.{plain_verdict, scanner}
use Rattle.jser_reading.proofs.Reading.{tokens_of_value, same_by_bytes, same_value_by_bytes}

abbrev open_gate : TokenGate
open_gate label token = true

all_pass : (pieces : List Piece) → AllPass open_gate pieces
all_pass [] = tt
all_pass (piece label token ∷ pieces) = (refl, all_pass pieces)

pub one_reading_law : OneReading
one_reading_law bytes list other (e, w) (e', w') =
    same_by_bytes open_gate (plain_verdict open_gate) (scanner open_gate) list other w w' (all_pass (tokens_of list))
    (all_pass (tokens_of other))
    (spelled_law list w ∙ sym e ∙ e' ∙ sym (spelled_law other w'))

-- the bytes of a value's tokens are its spelling
spelled_alone : (m : Moment) (v : ValueTree) → WellFormedValue m.table v → joined (tokens_of_value m v) ≡ value_spelling v
spelled_alone m v w = spelled_value v 1 m [] w ∙ append-nil (value_spelling v)

pub no_prefix_law : NoPrefix
no_prefix_law T value other rest w w' e =
    let m : Moment = record { table = T; places = 0 } in
    same_value_by_bytes open_gate (plain_verdict open_gate) (scanner open_gate) m value other rest w w'
    (all_pass (tokens_of_value m value))
    (ap (λ z. z ++ rest) (spelled_alone m value w) ∙ e ∙ sym (spelled_alone m other w'))
