use Rattle.std.proofs.Common.{rules, ◌+◌, arith}
use Rattle.jser_reader.proofs.MemberLemmas.{new_type_passes, type_can}
use Rattle.jser_reader.proofs.WholeLemmas.{text_assigned, no_text_assigned, string_room}
use Rattle.jser_reader.proofs.machine.Machine.whole_type.Goals as goal

pub returns-then-not-assign_type : goal.returns-then-not-assign_type
returns-then-not-assign_type c = no_text_assigned c.assign_type.result _ _ c.assign_type.ensures (search rules)

pub go_farther-requires : goal.go_farther-requires
go_farther-requires c =
    string_room c.args.piece.now c.in-Some.len _ _ (text_assigned c.assign_type.result _ _ c.assign_type.ensures (search rules)) c.requires.can c.in-Some.ensures

pub returns : goal.returns
returns c = record {
  passes = λ gate tally.
      new_type_passes gate c.in-Some.len c.fields_done.result c.args.piece.now c.args.self.now _ _ _ tally c.requires.can c.requires.phase (search rules) (search rules) c.in-Some.ensures
      (text_assigned c.assign_type.result _ _ c.assign_type.ensures (search rules)) c.fields_done.ensures.goes c.fields_done.ensures.result (search rules);
  some = omega arith;
  within = search rules;
  can = type_can c.args.piece.now (c.in-Some.len + 3) c.fields_done.result c.args.self.now _ _ _ c.requires.can (search rules) (text_assigned c.assign_type.result _ _ c.assign_type.ensures (search rules))
      c.fields_done.ensures.goes c.fields_done.ensures.meter (search rules);
}
