use Rattle.std.proofs.Common.{rules, arith, refl, subst, sym, Ok, Err}
use Rattle.jser_reader.specs.declared.item.Step.TheVariants as step
use Rattle.jser_reader.specs.Bounds.{MemoryFree}
use Rattle.jser_reader.specs.ReaderStates.{NextTells}
use Rattle.jser_reader.specs.States.{IsWithin}
use Rattle.jser_reader.specs.ItemsTold.{TellsItems}
use Rattle.jser_reader.proofs.ItemCalls.{tells_end, tells_part, tells_more, tells_stop}
use Rattle.jser_reader.proofs.ReaderLemmas.{all_bytes, within_room}
use Rattle.jser_reader.proofs.NextLemmas.{kept_open, kept_part, step_item, step_part, step_more, step_stops, step_over, item_progress, part_progress}
use Rattle.jser_reader.proofs.MemoryLemmas.{free_ok, free_stop, free_limit}
use Rattle.jser_reader.proofs.reader.Reader.step.Goals as goal

pub take-requires-clause-room : goal.take-requires-clause-room
take-requires-clause-room g c =
    within_room c.self.inside.machine c.args.piece.now c.args.front.now (subst (λ r. IsWithin r.machine c.args.piece.now c.args.front.now) (sym c.self.view_is) c.requires.within) c.requires.some

pub returns-in-Ended-clause-tells : goal.returns-in-Ended-clause-tells
returns-in-Ended-clause-tells g c =
    subst (λ r. NextTells (g.G.Gate.told r.gate) c.args.piece.now (Ok c.lend.result) r.machine r.tally c.take.new.self c.count.new.tally) c.self.view_is
    (step_item _ c.in-Ended.used _ c.args.piece.now c.args.front.now _ _ _ _ _ c.take.ensures c.in-Ended.is c.count.ensures.next (search rules) (subst (λ r. IsWithin r.machine c.args.piece.now c.args.front.now) (sym c.self.view_is) c.requires.within)
    (all_bytes c.args.piece.now (λ k. omega (arith, c.type_inv.piece k))) c.lend.ensures.used)

pub returns-in-Ended-clause-progress : goal.returns-in-Ended-clause-progress
returns-in-Ended-clause-progress g c =
    item_progress _ c.in-Ended.used _ c.args.piece.now c.args.front.now _ _ _ c.take.ensures c.in-Ended.is (subst (λ r. IsWithin r.machine c.args.piece.now c.args.front.now) (sym c.self.view_is) c.requires.within) c.lend.ensures.used

pub returns-in-Part-clause-tells : goal.returns-in-Part-clause-tells
returns-in-Part-clause-tells g c =
    subst (λ r. NextTells (g.G.Gate.told r.gate) c.args.piece.now (Ok c.lend-in-Part.result) r.machine r.tally c.take.new.self c.count.new.tally) c.self.view_is
    (step_part _ c.in-Part.used _ c.args.piece.now c.args.front.now _ _ _ _ _ c.take.ensures c.in-Part.is c.count.ensures.quiet (subst (λ r. IsWithin r.machine c.args.piece.now c.args.front.now) (sym c.self.view_is) c.requires.within)
    (all_bytes c.args.piece.now (λ k. omega (arith, c.type_inv.piece k))) c.lend-in-Part.ensures.used)

pub returns-in-Part-clause-progress : goal.returns-in-Part-clause-progress
returns-in-Part-clause-progress g c =
    part_progress _ c.in-Part.used _ c.args.piece.now c.args.front.now _ _ _ c.take.ensures c.in-Part.is (subst (λ r. IsWithin r.machine c.args.piece.now c.args.front.now) (sym c.self.view_is) c.requires.within) c.lend-in-Part.ensures.used

pub returns-in-Stopped-clause-tells : goal.returns-in-Stopped-clause-tells
returns-in-Stopped-clause-tells g c =
    subst (λ r. NextTells (g.G.Gate.told r.gate) c.args.piece.now (Err c.answer.result) r.machine r.tally c.answer.new.self c.count.new.tally) c.self.view_is
    (step_stops c.answer.result _ _ c.args.piece.now c.args.front.now _ _ _ _ _ _ c.take.ensures c.in-Stopped.is c.answer.ensures (subst (λ r. IsWithin r.machine c.args.piece.now c.args.front.now) (sym c.self.view_is) c.requires.within)
    (all_bytes c.args.piece.now (λ k. omega (arith, c.type_inv.piece k))) c.count.ensures.begun)

pub returns-then-front-piece-clause-tells : goal.returns-then-front-piece-clause-tells
returns-then-front-piece-clause-tells g c =
    subst (λ r. NextTells (g.G.Gate.told r.gate) c.args.piece.now (Err c.exceed.result) r.machine r.tally c.exceed.new.self c.exceed.new.tally) c.self.view_is
    (step_over c.exceed.result _ c.args.piece.now c.args.front.now _ _ _ _ _ _ _ c.take.ensures c.in_default.is c.count.ensures.quiet c.exceed.ensures.stops (subst (λ r. IsWithin r.machine c.args.piece.now c.args.front.now) (sym c.self.view_is) c.requires.within)
    (all_bytes c.args.piece.now (λ k. omega (arith, c.type_inv.piece k))) c.if-front-piece.true (search rules) (search rules))

pub returns-else-front-piece-clause-tells : goal.returns-else-front-piece-clause-tells
returns-else-front-piece-clause-tells g c =
    subst (λ r. NextTells (g.G.Gate.told r.gate) c.args.piece.now (Ok step.More) r.machine r.tally c.take.new.self c.count.new.tally) c.self.view_is
    (step_more _ c.args.piece.now c.args.front.now _ _ _ _ _ c.take.ensures c.in_default.is c.count.ensures.quiet (subst (λ r. IsWithin r.machine c.args.piece.now c.args.front.now) (sym c.self.view_is) c.requires.within)
    (all_bytes c.args.piece.now (λ k. omega (arith, c.type_inv.piece k))) (λ more. let m = c.if-front-piece.false in omega arith))

pub returns-in-Ended-clause-items : goal.returns-in-Ended-clause-items
returns-in-Ended-clause-items g c =
    subst (λ r. TellsItems (g.G.Gate.told r.gate) c.args.piece.now (Ok c.lend.result) r.machine r.tally c.take.new.self c.count.new.tally) c.self.view_is
    (tells_end _ _ _ c.in-Ended.used _ c.args.piece.now c.args.front.now _ _ _ _ _ c.take.ensures c.in-Ended.is c.count.ensures.next (search rules) (subst (λ r. IsWithin r.machine c.args.piece.now c.args.front.now) (sym c.self.view_is) c.requires.within)
    (all_bytes c.args.piece.now (λ k. omega (arith, c.type_inv.piece k))) c.lend.ensures.used (search rules) (search rules) c.lend.ensures.lent)

pub returns-in-Part-clause-items : goal.returns-in-Part-clause-items
returns-in-Part-clause-items g c =
    subst (λ r. TellsItems (g.G.Gate.told r.gate) c.args.piece.now (Ok c.lend-in-Part.result) r.machine r.tally c.take.new.self c.count.new.tally) c.self.view_is
    (subst (TellsItems _ c.args.piece.now (Ok c.lend-in-Part.result) _ _ _) (sym (kept_part c.in-Part.used _ c.args.front.now _ _ _ _ _ c.take.ensures c.in-Part.is c.count.ensures.quiet))
    (tells_part _ _ _ c.in-Part.used _ c.args.piece.now c.args.front.now _ _ _ _ c.take.ensures c.in-Part.is (subst (λ r. IsWithin r.machine c.args.piece.now c.args.front.now) (sym c.self.view_is) c.requires.within)
    (all_bytes c.args.piece.now (λ k. omega (arith, c.type_inv.piece k))) c.lend-in-Part.ensures.used (search rules) (search rules) c.lend-in-Part.ensures.lent))

pub returns-in-Stopped-clause-items : goal.returns-in-Stopped-clause-items
returns-in-Stopped-clause-items g c = tells_stop c.args.piece.now c.answer.result _ _ _ _ _

pub returns-then-front-piece-clause-items : goal.returns-then-front-piece-clause-items
returns-then-front-piece-clause-items g c = tells_stop c.args.piece.now c.exceed.result _ _ _ _ _

pub returns-else-front-piece-clause-items : goal.returns-else-front-piece-clause-items
returns-else-front-piece-clause-items g c =
    subst (λ r. TellsItems (g.G.Gate.told r.gate) c.args.piece.now (Ok step.More) r.machine r.tally c.take.new.self c.count.new.tally) c.self.view_is
    (subst (TellsItems _ c.args.piece.now (Ok step.More) _ _ _) (sym (kept_open _ c.args.front.now _ _ _ _ _ c.take.ensures c.in_default.is c.count.ensures.quiet))
    (tells_more _ c.args.piece.now c.args.front.now _ _ _ _ c.take.ensures c.in_default.is (subst (λ r. IsWithin r.machine c.args.piece.now c.args.front.now) (sym c.self.view_is) c.requires.within)
    (all_bytes c.args.piece.now (λ k. omega (arith, c.type_inv.piece k))) (λ more. let m = c.if-front-piece.false in omega arith)))

pub returns-in-Ended-clause-memory : goal.returns-in-Ended-clause-memory
returns-in-Ended-clause-memory g c = free_ok c.lend.result _ c.args.piece.now _ _ _ refl

pub returns-in-Part-clause-memory : goal.returns-in-Part-clause-memory
returns-in-Part-clause-memory g c = free_ok c.lend-in-Part.result _ c.args.piece.now _ _ _ refl

pub returns-in-Stopped-clause-memory : goal.returns-in-Stopped-clause-memory
returns-in-Stopped-clause-memory g c =
    subst (λ r. MemoryFree (g.G.Gate.told r.gate) c.args.piece.now (Err c.answer.result) r.machine r.tally) c.self.view_is
    (free_stop c.answer.result _ _ c.args.piece.now c.args.front.now _ _ _ _ _ c.take.ensures c.in-Stopped.is c.answer.ensures (subst (λ r. IsWithin r.machine c.args.piece.now c.args.front.now) (sym c.self.view_is) c.requires.within))

pub returns-then-front-piece-clause-memory : goal.returns-then-front-piece-clause-memory
returns-then-front-piece-clause-memory g c =
    subst (λ r. MemoryFree (g.G.Gate.told r.gate) c.args.piece.now (Err c.exceed.result) r.machine r.tally) c.self.view_is
    (free_limit c.exceed.result _ c.args.piece.now c.args.front.now _ _ _ _ _ c.take.ensures c.in_default.is c.exceed.ensures.stops (subst (λ r. IsWithin r.machine c.args.piece.now c.args.front.now) (sym c.self.view_is) c.requires.within)
    (all_bytes c.args.piece.now (λ k. omega (arith, c.type_inv.piece k))) (search rules))

pub returns-else-front-piece-clause-memory : goal.returns-else-front-piece-clause-memory
returns-else-front-piece-clause-memory g c = free_ok step.More _ c.args.piece.now _ _ _ refl
