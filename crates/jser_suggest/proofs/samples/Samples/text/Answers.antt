use Rattle.std.proofs.Common.{◌≡◌, true, ℕ, List, IfOk, subst, string_bytes}
use Rattle.jser_prim.specs.ModifiedUtf8.{utf16_units}
use Rattle.jser_filter.specs.Pieces.{pieces_of}
use Rattle.jser_suggest.specs.Suggested.{suggested, is_one_line}
use Rattle.jser_suggest.specs.Samples.{AreKnown}
use Rattle.jser_suggest.proofs.KnownLemmas.{text_pieces, text_line}
use Rattle.jser_suggest.proofs.samples.Samples.text.Goals as goal

pub returns-clause-pieces : goal.returns-clause-pieces
returns-clause-pieces c =
    subst (λ s. (streams : List (List ℕ)) → AreKnown streams s → IfOk c.text_of.result (λ text. pieces_of (utf16_units (string_bytes text)) ≡ suggested s)) c.self.view_is
    (λ streams are. text_pieces streams _ c.text_of.result are c.text_of.ensures)

pub returns-clause-one_line : goal.returns-clause-one_line
returns-clause-one_line c =
    subst (λ s. (streams : List (List ℕ)) → AreKnown streams s → IfOk c.text_of.result (λ text. is_one_line (utf16_units (string_bytes text)) ≡ true)) c.self.view_is
    (λ streams are. text_line streams _ c.text_of.result are c.text_of.ensures)
