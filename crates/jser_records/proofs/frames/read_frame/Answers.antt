use Rattle.std.proofs.Common.{[], refl, sym, subst, ◌∙◌}
use Rattle.jser_records.specs.declared.layout.Shape.TheVariants as shape
use Rattle.jser_records.specs.Arriving.{Took}
use Rattle.jser_records.specs.Frames.{Begun}
use Rattle.jser_records.specs.Held.{Holds}
use Rattle.jser_records.specs.Keys.{HasNoKey}
use Rattle.jser_records.specs.Sized.{at_line}
use Rattle.jser_records.proofs.FrameLemmas.{begun_held, frame_read, held_key, plain_begun}
use Rattle.jser_records.proofs.HeldLemmas.{keeps_both}
use Rattle.jser_records.proofs.RecordLemmas.{front_quiet}
use Rattle.jser_records.proofs.RoomLemmas.{took_first}
use Rattle.jser_records.proofs.ToldLemmas.{quiet_from}
use Rattle.jser_records.proofs.frames.read_frame.Goals as goal

pub returns-in-Ok-clause-frames : goal.returns-in-Ok-clause-frames
returns-in-Ok-clause-frames g c =
    let was = c.args.clerk.now in
    let begun = c.begin.new.self.reading in
    let mid = record was { current = c.hold.new.self } in
    let last = c.take_value.new.clerk in
    let ready : Begun c.hold.new.self.reading =
    begun_held begun c.hold.new.self.reading c.begin.ensures.open c.hold.ensures.kept (plain_begun begun c.begin.ensures.has c.begin.ensures.place c.begin.ensures.open) in
    frame_read was mid last c.close.new.self c.args.inbox.now c.pass.new.self c.take_value.new.inbox _ _ _ _ _ _ c.close.result c.read_u32-length.result
    (quiet_from was mid last _ _ _ _ refl (keeps_both was.current c.begin.new.self c.hold.new.self c.begin.ensures.keeps c.hold.ensures.keeps) c.take_value.ensures.quiet)
    (subst (λ k. HasNoKey k) (sym (c.take_value.ensures.key ∙ held_key begun c.hold.new.self.reading c.hold.ensures.kept)) c.begin.ensures.key)
    (subst (λ xs. Took c.args.inbox.now c.pass.new.self xs) (sym (c.read_u32-length.ensures ∙ c.front.ensures)) (took_first c.args.inbox.now c.pass.new.self 4 c.pass.ensures))
    (subst (λ xs. Holds c.hold.new.self xs) (c.front-2.ensures ∙ sym (c.read_u32-length.ensures ∙ c.front.ensures)) (c.hold.ensures.held [] c.begin.ensures.held))
    (c.in-Ok.ensures.takes ready) c.close.ensures.closes

pub returns-in-Err-clause-frames : goal.returns-in-Err-clause-frames
returns-in-Err-clause-frames g c =
    let was = c.args.clerk.now in
    front_quiet shape.Frames at_line was c.take_value.new.clerk c.args.inbox.now _ _ _ _
    (quiet_from was (record was { current = c.hold.new.self }) c.take_value.new.clerk _ _ _ _ refl
    (keeps_both was.current c.begin.new.self c.hold.new.self c.begin.ensures.keeps c.hold.ensures.keeps) c.take_value.ensures.quiet)
