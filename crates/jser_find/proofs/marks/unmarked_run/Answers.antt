use Rattle.jser_find.proofs.MarkLemmas.{marked_lane, run_unmarked}
use Rattle.jser_find.proofs.marks.unmarked_run.Goals as goal

pub returns-clause-within : goal.returns-clause-within
returns-clause-within c =
    let parts = c.either-parts.ensures _ _ (c.either.ensures _ _ c.are.ensures c.are-2.ensures) c.are-3.ensures in
    let hex = c.both.ensures _ _ (c.either-2.ensures _ _ c.are-4.ensures c.are-5.ensures) (c.either-3.ensures _ _ c.are-6.ensures c.are-7.ensures) in
    let one = c.either-4.ensures _ _ hex (c.both-2.ensures _ _ c.are-8.ensures c.are-9.ensures) in
    let two = c.either-5.ensures _ _ one (c.both-3.ensures _ _ c.are-10.ensures c.are-11.ensures) in
    let begins = c.either-begins.ensures _ _ two (c.both-4.ensures _ _ c.are-12.ensures c.are-13.ensures) in
    (c.first_of.ensures (marked_lane c.args.text.now c.args.at) (c.either-6.ensures _ _ parts begins)).few

pub returns-clause-unmarked : goal.returns-clause-unmarked
returns-clause-unmarked c =
    let parts = c.either-parts.ensures _ _ (c.either.ensures _ _ c.are.ensures c.are-2.ensures) c.are-3.ensures in
    let hex = c.both.ensures _ _ (c.either-2.ensures _ _ c.are-4.ensures c.are-5.ensures) (c.either-3.ensures _ _ c.are-6.ensures c.are-7.ensures) in
    let one = c.either-4.ensures _ _ hex (c.both-2.ensures _ _ c.are-8.ensures c.are-9.ensures) in
    let two = c.either-5.ensures _ _ one (c.both-3.ensures _ _ c.are-10.ensures c.are-11.ensures) in
    let begins = c.either-begins.ensures _ _ two (c.both-4.ensures _ _ c.are-12.ensures c.are-13.ensures) in
    run_unmarked c.args.text.now c.args.at c.first_of.result c.requires (c.first_of.ensures (marked_lane c.args.text.now c.args.at) (c.either-6.ensures _ _ parts begins))
