use Rattle.jser_printer.specs.Names.{view_name}
use Rattle.jser_explain.specs.Rest.{view_rest}
use Rattle.jser_explain.proofs.LengthLemmas.{all_short}
use Rattle.jser_explain.proofs.WhyLemmas.{why_all}
use Rattle.jser_explain.proofs.why.write_lines.Goals as goal

pub returns : goal.returns
returns g c =
    let sentence = c.sentence_of-sentence.result.now in
    let class = view_name c.class_in.result in
    let more = view_rest c.args.rest.now in
    why_all g.W.Sink.gone_out g.W.Sink.has_failed sentence c.args.bytes.now c.args.found.now c.args.spot class more _ _ _ _ _ _ c.requires.place c.class_in.ensures
    (all_short sentence c.args.bytes.now c.args.spot class more c.sentence_of-sentence.ensures c.requires.hint) c.write_head.ensures c.write_rest.ensures
