use Rattle.std.proofs.Common.{map, string_bytes}
use Rattle.jser_line.proofs.WordLemmas.{all_texts}
use Rattle.jser_line.proofs.args.texts_of.Goals as goal

pub returns-in-Some : goal.returns-in-Some
returns-in-Some c =
    all_texts c.args.matches.now c.args.id.now (map (λ value. value.now) c.in-Some.values.now) (λ texts. map string_bytes texts.items) c.owned.result c.in-Some.ensures c.owned.ensures
