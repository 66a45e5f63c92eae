use Rattle.std.specs.Prelude.{◌++◌}
use Rattle.jser_printer.specs.Names.{view_name}
use Rattle.jser_printer.proofs.SaysLemmas.{says_five}
use Rattle.jser_explain.specs.Heads.{class_line}
use Rattle.jser_explain.specs.Opened.{places_words, writer_words}
use Rattle.jser_explain.specs.Rest.{piece_words}
use Rattle.jser_explain.proofs.why.write_rest.Goals as goal

pub returns : goal.returns
returns g c =
    says_five _ _ _ _ _ _ _ _ _ _ _ _ (λ k. class_line (view_name c.args.rest.now.class) k) (λ k. piece_words c.args.rest.now.piece k)
    (λ k. places_words c.args.rest.now.opened.now k) (λ k. writer_words (view_name c.args.rest.now.writer) k) (λ k. c.args.rest.now.hint.now ++ k)
    c.write_class.ensures c.write_piece.ensures c.write_places.ensures c.write_writer.ensures c.write.ensures
