use Rattle.jser_suggest.proofs.UnitLemmas.{limit_pushed}
use Rattle.jser_suggest.proofs.text.push_limit.Goals as goal

pub returns : goal.returns
returns c = limit_pushed c.args.text.now c.push_str.new.self c.write.new.self c.args.words.now c.args.value c.in_ok-push_str.ensures.bytes c.in_ok-write.ensures.bytes c.ranges.value.fits
