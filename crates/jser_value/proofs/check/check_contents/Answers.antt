-- The check finds this with no answer too; with one, it refuses a wrong body sooner.
use Rattle.std.proofs.Common.{arith, refl, rules}
use Rattle.std.proofs.lemmas.Grind.{common_steps}
use Rattle.jser_grammar.specs.Trees.{block, reset, content}
use Rattle.jser_value.proofs.CheckLemmas.{judged_failed}
use Rattle.jser_value.proofs.NotesLemmas.{judged_wrong, contents_failed, contents_passed, contents_room, contents_room_left}
use Rattle.jser_value.proofs.check.check_contents.Goals as goal
use Rattle.jser_value.proofs.check.check_contents.Goals.{in-Block+in_ok-require-in-Block, in-Reset, in-Value+in_ok-check_value-in-Value}
use Rattle.jser_value.specs.View.{view_value}
use Rattle.jser_value.specs.declared.tree.Body.{the_lemmas}

pub returns-in_err-require-in-Block : goal.returns-in_err-require-in-Block
returns-in_err-require-in-Block c =
    record { judged = judged_wrong c.from_residual.result _ _ _ (search rules) (contents_failed c.list.table.entries c.list.content-index c.args.list.now c.content-item.result (block c.in-Block.long c.in-Block.bytes.items) _ c.list.invariant.0 (search rules) (search rules) (search (rules, the_lemmas)) (search rules)) }

pub check_value-requires : goal.check_value-requires
check_value-requires c = record { room = contents_room c.list.table.entries c.list.content-index c.args.list.now c.content-item.result (content (view_value c.in-Value.value)) c.list.invariant.1 (search rules) (search rules) (search (rules, the_lemmas)) }

pub returns-in_err-check_value-in-Value : goal.returns-in_err-check_value-in-Value
returns-in_err-check_value-in-Value c =
    record {
      judged = judged_failed c.from_residual-in_err-check_value-in-Value.result c.in_err-check_value-in-Value.field-0.0 _ _ _ _ _ _ (search rules) c.in_err-check_value-in-Value.ensures.judged
          (λ fails. contents_failed c.list.table.entries c.list.content-index c.args.list.now c.content-item.result (content (view_value c.in-Value.value)) _ c.list.invariant.0 (search rules) (search rules) (search (rules, the_lemmas)) fails);
    }

pub list-preserved : goal.list-preserved
list-preserved c = elim c.match-content.branch [
  | in-Block+in_ok-require-in-Block w ↦ (
    contents_passed c.list.table.entries c.match-content.table.entries c.list.content-index c.args.list.now c.content-item.result (block w.in-Block.long w.in-Block.bytes.items) _ c.list.invariant.0 (search rules) (search rules) (search (rules, the_lemmas)) (search rules) (search rules),
    contents_room_left c.list.table.entries c.match-content.table.entries c.list.content-index c.args.list.now c.content-item.result (block w.in-Block.long w.in-Block.bytes.items) c.list.invariant.1 (search rules) (search rules) (search (rules, the_lemmas)) (search rules),
  )
  | in-Reset w ↦ (
    contents_passed c.list.table.entries c.match-content.table.entries c.list.content-index c.args.list.now c.content-item.result reset _ c.list.invariant.0 (search rules) (search rules) (search (rules, the_lemmas)) refl (search rules),
    contents_room_left c.list.table.entries c.match-content.table.entries c.list.content-index c.args.list.now c.content-item.result reset c.list.invariant.1 (search rules) (search rules) (search (rules, the_lemmas)) (search rules),
  )
  | in-Value+in_ok-check_value-in-Value w ↦ (
    contents_passed c.list.table.entries c.match-content.table.entries c.list.content-index c.args.list.now c.content-item.result (content (view_value w.in-Value.value)) _ c.list.invariant.0 (search rules) (search rules) (search (rules, the_lemmas)) (search rules) (search rules),
    contents_room_left c.list.table.entries c.match-content.table.entries c.list.content-index c.args.list.now c.content-item.result (content (view_value w.in-Value.value)) c.list.invariant.1 (search rules) (search rules) (search (rules, the_lemmas)) (search rules),
  )
]

pub returns : goal.returns
returns c = grind (arith, common_steps)
