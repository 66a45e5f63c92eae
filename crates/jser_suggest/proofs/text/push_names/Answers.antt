use Rattle.std.proofs.Common.{refl, codes}
use Rattle.jser_suggest.proofs.UnitLemmas.{name_pushed_on, word_units}
use Rattle.jser_suggest.proofs.text.push_names.Goals as goal

pub loop-name-preserved : goal.loop-name-preserved
loop-name-preserved c =
    name_pushed_on c.loop-name.text c.push_str.new.self c.push_str-in-loop-name.new.self c.in-Some.name c.as_str.result (codes ";") _ c.loop-name.name-iterator c.next.new.self
    c.in_ok-push_str.ensures.bytes (word_units (codes ";") refl) c.in_ok-push_str-2.ensures.bytes c.as_str.ensures.value c.in-Some.ensures.steps c.loop-name.invariant
