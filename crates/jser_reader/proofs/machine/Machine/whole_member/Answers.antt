use Rattle.std.proofs.Common.{rules, refl, ◌+◌, get_or, arith}
use Rattle.jser_reader.proofs.MemberLemmas.{raw_member_passes, named_member_passes, typed_member_passes, member_can, named_can}
use Rattle.jser_reader.proofs.FieldToldLemmas.{raw_member_told, named_member_told, typed_member_told, takes_none, takes_some}
use Rattle.jser_reader.proofs.machine.Machine.whole_member.Goals as goal

pub returns-then-not-is_object_code : goal.returns-then-not-is_object_code
returns-then-not-is_object_code c = record {
  takes =
      takes_none (get_or c.args.piece.now 0 0) c.in-Some.len c.args.piece.now c.text_in-name.result _ _ c.in-Some.ensures c.text_in-name.ensures
      (record {
        passes = λ gate tally.
            raw_member_passes gate (get_or c.args.piece.now 0 0) c.in-Some.len c.fields_done.result c.args.piece.now _ _ _ _ tally c.requires.can c.requires.phase refl c.in-Some.ensures
            (c.begin_member.ensures.begins (search rules)) c.fields_done.ensures.goes c.fields_done.ensures.result (search rules);
        some = omega arith;
        within = search rules;
        can = member_can c.args.piece.now (c.in-Some.len + 3) c.fields_done.result c.args.self.now _ _ _ _ _ c.requires.can (search rules) (c.begin_member.ensures.begins (search rules))
            c.fields_done.ensures.goes c.fields_done.ensures.meter (search rules);
      });
  told = λ gate tally.
      raw_member_told gate (get_or c.args.piece.now 0 0) c.in-Some.len c.fields_done.result c.args.piece.now c.text_in-name.result _ _ _ _ tally c.requires.can c.requires.phase refl c.in-Some.ensures
      (c.begin_member.ensures.begins (search rules)) c.fields_done.ensures.goes c.fields_done.ensures.result (search rules) c.text_in-name.ensures;
}

pub returns-in_default-type_here : goal.returns-in_default-type_here
returns-in_default-type_here c = record {
  takes =
      takes_none (get_or c.args.piece.now 0 0) c.in-Some.len c.args.piece.now c.text_in-name.result _ _ c.in-Some.ensures c.text_in-name.ensures
      (record {
        passes = λ gate tally.
            named_member_passes gate (get_or c.args.piece.now 0 0) c.in-Some.len c.args.piece.now _ _ _ _ tally c.requires.can c.requires.phase refl c.in-Some.ensures
            (c.begin_member-in_default-type_here.ensures.begins (search rules)) (search rules) c.next_type.ensures.next;
        some = omega arith;
        within = search rules;
        can = named_can c.args.piece.now (c.in-Some.len + 3) c.args.self.now _ _ _ _ c.requires.can (search rules) (c.begin_member-in_default-type_here.ensures.begins (search rules))
            c.next_type.ensures.next (search rules);
      });
  told = λ gate tally.
      named_member_told gate (get_or c.args.piece.now 0 0) c.in-Some.len c.args.piece.now c.text_in-name.result _ _ _ _ tally c.requires.can c.requires.phase refl c.in-Some.ensures
      (c.begin_member-in_default-type_here.ensures.begins (search rules)) (search rules) c.next_type.ensures.next c.text_in-name.ensures;
}

pub returns : goal.returns
returns c = record {
  takes =
      takes_some (get_or c.args.piece.now 0 0) c.in-Some.len c.in-Some-type_here.handle c.args.piece.now c.text_in-name.result _ _ c.in-Some.ensures c.text_in-name.ensures
      (record {
        passes = λ gate tally.
            typed_member_passes gate (get_or c.args.piece.now 0 0) c.in-Some.len _ c.fields_done-2.result c.args.piece.now _ _ _ _ _ tally c.requires.can c.requires.phase refl c.in-Some.ensures
            c.split_at.ensures.back c.in-Some-type_here.ensures (c.begin_member-2.ensures.begins (search rules)) c.fields_done-2.ensures.goes c.fields_done-2.ensures.result (search rules);
        some = omega arith;
        within = search rules;
        can = member_can c.args.piece.now (c.in-Some.len + 8) c.fields_done-2.result c.args.self.now _ _ _ _ _ c.requires.can (search rules) (c.begin_member-2.ensures.begins (search rules))
            c.fields_done-2.ensures.goes c.fields_done-2.ensures.meter (search rules);
      });
  told = λ gate tally.
      typed_member_told gate (get_or c.args.piece.now 0 0) c.in-Some.len c.in-Some-type_here.handle c.fields_done-2.result c.args.piece.now _ c.text_in-name.result _ _ _ _ tally c.requires.can c.requires.phase refl
      c.in-Some.ensures c.split_at.ensures.back c.in-Some-type_here.ensures (c.begin_member-2.ensures.begins (search rules)) c.fields_done-2.ensures.goes c.fields_done-2.ensures.result (search rules)
      c.text_in-name.ensures;
}
