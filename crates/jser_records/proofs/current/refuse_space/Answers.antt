use Rattle.std.proofs.Common.{◌≡◌, get_or, arith}
use Rattle.jser_records.specs.Texts.{without_space}
use Rattle.jser_records.proofs.TextLemmas.{spaceless_on}
use Rattle.jser_records.proofs.current.refuse_space.Goals as goal

pub loop-character-preserved : goal.loop-character-preserved
loop-character-preserved c =
    let i = c.loop-character.character-index in
    let made : c.without_space.result ≡ without_space (get_or c.loop-character.text i 0) = c.without_space.ensures in
    spaceless_on c.args.text.now c.loop-character.text i c.without_space.result (omega arith) (omega arith) c.loop-character.invariant made
