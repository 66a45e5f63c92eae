use Rattle.jser_records.proofs.KeyLemmas.{key_behind_more}
use Rattle.jser_records.proofs.lines.take_behind.Goals as goal

pub returns-else-is_first-clause-key : goal.returns-else-is_first-clause-key
returns-else-is_first-clause-key c = λ some has known.
    key_behind_more c.args.is_first c.args.current.now.reading c.add_key-else-is_first.new.self has c.args.behind.now c.if-is_first.false c.add_key-else-is_first.ensures known
