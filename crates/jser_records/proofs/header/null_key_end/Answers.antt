use Rattle.jser_records.proofs.HeaderLemmas.{no_null_key}
use Rattle.jser_records.proofs.header.null_key_end.Goals as goal

pub returns-in-Some-clause-none : goal.returns-in-Some-clause-none
returns-in-Some-clause-none c = λ none before key same one is.
    no_null_key c.args.front.now c.in-Some.before.now before key c.in-Some.ensures.minus (c.key_end.ensures.none none) same is
