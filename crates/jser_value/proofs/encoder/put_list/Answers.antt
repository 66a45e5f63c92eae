use Rattle.jser_grammar.specs.Spelling.{content_spelling}
use Rattle.jser_value.specs.View.{view_content}
use Rattle.jser_value.proofs.EncodeLemmas.{puts_next, puts_all, contents_flat}
use Rattle.jser_value.proofs.encoder.put_list.Goals as goal

pub loop-content-preserved : goal.loop-content-preserved
loop-content-preserved g c =
    puts_next (λ content. content_spelling (view_content content)) _ _ _ _ _ _ c.args.contents.now c.loop-content.content-index _ c.loop-content-test.true c.content-item.is c.loop-content.invariant c.put_content.ensures

pub returns : goal.returns
returns g c =
    puts_all (λ content. content_spelling (view_content content)) _ _ _ _ c.args.contents.now c.loop-content.content-index _ c.loop-content-test.false (contents_flat c.args.contents.now) c.loop-content.invariant
