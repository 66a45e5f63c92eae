use Rattle.std.proofs.Common.{Some, ◌∙◌, arith, rules}
use Rattle.jser_table.specs.Sections.{IsNext}
use Rattle.jser_reader.proofs.ManySections.{began_values, began_notes, began_ended, next_ahead}
use Rattle.jser_reader.proofs.machine.Machine.sections_from.Goals as goal

pub returns-then-held-gt0 : goal.returns-then-held-gt0
returns-then-held-gt0 c = record {
  begins =
      rw (← c.sections.invariant.same)
      (began_values _ _ c.args.last c.sections.section c.sections.used c.args.room c.section-held.result c.sections.invariant.on c.sections.invariant.ahead (search rules)
      (let room = c.sections.invariant.room in omega arith) (omega arith));
  same = c.sections.invariant.same;
}

pub returns-then-held : goal.returns-then-held
returns-then-held c = record {
  begins =
      rw (← c.sections.invariant.same)
      (began_notes _ _ c.args.last c.sections.section c.sections.used c.args.room c.section-held.result c.sections.invariant.on c.sections.invariant.ahead (search rules)
      (let room = c.sections.invariant.room in omega arith) (search rules) (search rules));
  same = c.sections.invariant.same;
}

pub returns-in-None : goal.returns-in-None
returns-in-None c = record {
  begins =
      rw (← c.sections.invariant.same)
      (began_ended _ _ c.args.last c.sections.section c.sections.used c.args.room c.section-held.result c.sections.invariant.ahead (search rules)
      (let room = c.sections.invariant.room in omega arith) (search rules) (search rules) (search rules));
  same = c.section_behind.ensures.same ∙ c.sections.invariant.same;
}

pub sections-preserved : goal.sections-preserved
sections-preserved c =
    let next : IsNext c.sections.self.table.chains c.args.last c.sections.section (Some c.in-Some.next) = search rules in
    record {
      on = rw c.section_behind.ensures.same next.0;
      ahead =
          rw c.section_behind.ensures.same
          (next_ahead _ _ c.args.last c.sections.section c.in-Some.next c.sections.used c.section-held.result c.sections.invariant.ahead (search rules) (search rules) (search rules) next);
      room = let room = c.sections.invariant.room in omega arith;
      same = c.section_behind.ensures.same ∙ c.sections.invariant.same;
    }
