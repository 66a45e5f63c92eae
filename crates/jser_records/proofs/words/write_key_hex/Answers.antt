use Rattle.std.proofs.Common.{sym, ◌∙◌}
use Rattle.jser_records.proofs.WordLemmas.{says_hex}
use Rattle.jser_records.proofs.words.write_key_hex.Goals as goal

pub returns-then-has_byte : goal.returns-then-has_byte
returns-then-has_byte g c =
    says_hex _ _ _ _ _ _ _ _ c.args.bytes.now c.args.signs.now (sym c.has_byte.ensures ∙ c.if-has_byte.true) c.write.ensures c.write_hex.ensures c.write-then-has_byte.ensures
