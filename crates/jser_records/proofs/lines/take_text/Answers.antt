use Rattle.std.proofs.Common.{subst}
use Rattle.jser_records.specs.Stretches.{InStretch}
use Rattle.jser_records.proofs.KeyLemmas.{key_longer}
use Rattle.jser_records.proofs.LineLemmas.{came_keyed}
use Rattle.jser_records.proofs.StretchLemmas.{behind_more, stopped_keyed}
use Rattle.jser_records.proofs.lines.take_text.Goals as goal

pub returns-in-Behind-clause-on : goal.returns-in-Behind-clause-on
returns-in-Behind-clause-on c = λ asked line long apart was.
    let written = c.args.spelling in
    let old = c.args.current.now.reading in
    let new = c.add_key.new.self in
    let text = c.args.text.now in
    behind_more written asked line text old new (λ has known. key_longer old new has text c.add_key.ensures known) (λ v came. came_keyed old new v text c.add_key.ensures came)
    (λ lost. stopped_keyed old new text c.add_key.ensures lost) (subst (λ s. InStretch s written asked line old) c.in-Behind.is was)
