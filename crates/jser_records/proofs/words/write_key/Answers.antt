use Rattle.std.proofs.Common.{sym, subst, ◌∙◌}
use Rattle.jser_printer.specs.Says.{SaysTo}
use Rattle.jser_records.specs.Words.{hex_member}
use Rattle.jser_records.proofs.WordLemmas.{says_key}
use Rattle.jser_records.proofs.words.write_key.Goals as goal

pub returns-then-is_there : goal.returns-then-is_there
returns-then-is_there g c =
    says_key _ _ _ _ _ _ _ _ c.args.key.now c.args.signs.now (sym c.is_there.ensures ∙ c.if-is_there.true) c.write.ensures c.write_signs.ensures
    (subst (λ xs. SaysTo g.W.Sink.gone_out g.W.Sink.has_failed c.write_signs.new.outbox c.write_key_hex.new.outbox c.write_signs.new.sink c.write_key_hex.new.sink (λ k. hex_member xs c.args.signs.now k)) c.bytes.ensures c.write_key_hex.ensures)
