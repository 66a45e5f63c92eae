use Rattle.std.proofs.Common.{rules, true, false}
use Rattle.jser_reader.proofs.CutLemmas.{field_count_is, suid_is, four_is, cut_taken}
use Rattle.jser_reader.proofs.LengthLemmas.{rest_of_length_taken}
use Rattle.jser_reader.proofs.machine.Machine.end_cut.Goals as goal

pub returns-in-Length2 : goal.returns-in-Length2
returns-in-Length2 g c =
    rest_of_length_taken _ false c.two-n.result c.args.missing _ c.args.piece.now c.split_at.result.0.now c.args.self.now _ c.take_length2.ensures
    (search rules) c.requires.phase (search rules) (search rules) c.requires.some c.requires.there

pub returns-in-Length8 : goal.returns-in-Length8
returns-in-Length8 g c =
    rest_of_length_taken _ true c.eight-n.result c.args.missing _ c.args.piece.now c.split_at.result.0.now c.args.self.now _ c.take_length8.ensures
    (search rules) c.requires.phase (search rules) (search rules) c.requires.some c.requires.there

pub returns-in-FieldCount : goal.returns-in-FieldCount
returns-in-FieldCount g c =
    cut_taken _ 2 c.two-n-in-FieldCount.result c.args.missing _ _ _ c.args.piece.now c.split_at.result.0.now c.args.self.now _ c.take_field_count.ensures c.after.ensures
    field_count_is (search rules) c.requires.phase (search rules) (search rules) c.requires.some c.requires.there

pub returns-in-Suid : goal.returns-in-Suid
returns-in-Suid g c =
    cut_taken _ 8 c.eight-n-in-Suid.result c.args.missing _ _ _ c.args.piece.now c.split_at.result.0.now c.args.self.now _ c.take_suid.ensures c.after-in-Suid.ensures
    suid_is (search rules) c.requires.phase (search rules) (search rules) c.requires.some c.requires.there

pub returns-in_default : goal.returns-in_default
returns-in_default g c =
    cut_taken _ 4 c.four-n.result c.args.missing _ _ _ c.args.piece.now c.split_at.result.0.now c.args.self.now _ c.end_four.ensures c.after-in_default.ensures
    (four_is c.in_default.phase (search rules)) (search rules) c.requires.phase (search rules) (search rules) c.requires.some c.requires.there
