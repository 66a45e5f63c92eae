use Rattle.std.proofs.Common.{refl, rules}
use Rattle.jser_find.proofs.TextLemmas.{no_text_found}
use Rattle.jser_find.proofs.texts.TextFinds.next.Goals as goal

pub returns-in-None-clause-finds : goal.returns-in-None-clause-finds
returns-in-None-clause-finds c = (
  no_text_found c.args.self.now (record { text = c.self.inside.text.now; most = c.self.inside.most; place = c.self.inside.place }) c.first_start.result
      (search rules) (search rules) c.first_start.ensures.first,
  refl,
  refl,
)
