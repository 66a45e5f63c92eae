use Rattle.jser_records.proofs.WordLemmas.{says_byte}
use Rattle.jser_records.proofs.sign.write_sign.Goals as goal

pub returns-in-Byte-2 : goal.returns-in-Byte-2
returns-in-Byte-2 g c = says_byte _ _ _ _ _ _ c.args.json c.args.sign _ c.in-Byte-2.is c.if-json.false c.write.ensures c.write_hex.ensures
