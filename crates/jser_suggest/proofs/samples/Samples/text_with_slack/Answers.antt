use Rattle.std.proofs.Common.{◌≡◌, true, ℕ, List, IfOk, subst, string_bytes}
use Rattle.jser_prim.specs.ModifiedUtf8.{utf16_units}
use Rattle.jser_filter.specs.Pieces.{pieces_of}
use Rattle.jser_suggest.specs.Gathering.{name_list}
use Rattle.jser_suggest.specs.Suggested.{suggested, suggested_text, widened, is_one_line}
use Rattle.jser_suggest.specs.Samples.{AreKnown}
use Rattle.jser_suggest.proofs.SlackLemmas.{known_of, same_known, widened_pieces, widened_line}
use Rattle.jser_suggest.proofs.samples.Samples.text_with_slack.Goals as goal

pub returns-clause-pieces : goal.returns-clause-pieces
returns-clause-pieces c =
    let known = known_of c.self.inside.bytes c.self.inside.refs c.self.inside.depth c.self.inside.longest (name_list c.self.inside.names) in
    subst (λ s. (streams : List (List ℕ)) → AreKnown streams s → IfOk c.text_of.result (λ text. pieces_of (utf16_units (string_bytes text)) ≡ suggested (widened c.args.slack s)))
    c.self.view_is
    (λ streams are. widened_pieces c.args.slack streams known c.text_of.result are
    (subst (λ k. IfOk c.text_of.result (λ text. utf16_units (string_bytes text) ≡ suggested_text k))
    (same_known c.args.slack known c.times.result c.times-2.result c.times-3.result c.times-4.result c.times.ensures c.times-2.ensures c.times-3.ensures c.times-4.ensures) c.text_of.ensures))

pub returns-clause-one_line : goal.returns-clause-one_line
returns-clause-one_line c =
    let known = known_of c.self.inside.bytes c.self.inside.refs c.self.inside.depth c.self.inside.longest (name_list c.self.inside.names) in
    subst (λ s. (streams : List (List ℕ)) → AreKnown streams s → IfOk c.text_of.result (λ text. is_one_line (utf16_units (string_bytes text)) ≡ true)) c.self.view_is
    (λ streams are. widened_line c.args.slack streams known c.text_of.result are
    (subst (λ k. IfOk c.text_of.result (λ text. utf16_units (string_bytes text) ≡ suggested_text k))
    (same_known c.args.slack known c.times.result c.times-2.result c.times-3.result c.times-4.result c.times.ensures c.times-2.ensures c.times-3.ensures c.times-4.ensures) c.text_of.ensures))
