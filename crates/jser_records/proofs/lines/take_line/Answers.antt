use Rattle.std.proofs.Common.{[], ◌++◌, subst, sym, ◌∙◌, arith}
use Rattle.jser_records.specs.Keys.{HasNoKey}
use Rattle.jser_records.specs.Lines.{FieldCame}
use Rattle.jser_records.proofs.FrameLemmas.{held_key}
use Rattle.jser_records.proofs.LineLemmas.{ready_begun}
use Rattle.jser_records.proofs.lines.take_line.Goals as goal

pub returns-clause-came : goal.returns-clause-came
returns-clause-came c =
    let written = c.args.lines.spelling in
    let bare = c.without_return.result.now in
    let begun = c.begin.new.self.reading in
    let mid = c.hold.new.self.reading in
    let last = c.hold-2.new.self.reading in
    let f : FieldCame c.args.lines bare last c.take_front.new.current.reading = c.take_front.ensures.came in
    let no_key : HasNoKey last.key = subst HasNoKey (sym (held_key mid last c.hold-2.ensures.kept ∙ held_key begun mid c.hold.ensures.kept)) c.begin.ensures.key in
    record {
      bare = bare;
      is_bare = c.without_return.ensures.bare;
      field = f.field;
      key = f.key;
      is_field = f.is_field;
      came =
          λ counted.
          f.came (ready_begun begun mid last written.form c.begin.ensures.open c.begin.ensures.spelled c.hold.ensures.kept c.hold-2.ensures.kept)
          (record { few = let within = c.without_return.ensures.within in let all = counted.few in omega (arith, within, all); digits = counted.digits });
      key_is = f.key_is no_key;
      stopped = f.stopped no_key;
    }

pub returns-clause-held : goal.returns-clause-held
returns-clause-held c = c.take_front.ensures.held (c.args.line.now ++ c.args.end.now) (c.hold-2.ensures.held c.args.line.now (c.hold.ensures.held [] c.begin.ensures.held))
