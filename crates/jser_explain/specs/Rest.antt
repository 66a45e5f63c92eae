-- What is said behind the class of a refusal. Each function puts its words before what follows.
use Rattle.std.specs.Prelude.{ℕ, List, ◌++◌, codes, Option, Some, None}
use Rattle.std.specs.Fmt.{decimal}
use Rattle.jser_scan.specs.Paths.{path_words}
use Rattle.jser_printer.specs.declared.opened.Open.{Open}
use Rattle.jser_printer.specs.Names.{view_name}
use Rattle.jser_explain.specs.declared.piece.Piece.{Piece}
use Rattle.jser_explain.specs.declared.why.Rest.{Rest}
use Rattle.jser_explain.specs.Opened.{places_words, writer_words}
use Rattle.jser_explain.specs.Heads.{class_line}

-- piece N: TEXT
abbrev pub known_piece_words : Piece → List ℕ → List ℕ
known_piece_words piece k = codes "  piece " ++ (decimal piece.index ++ (codes ": " ++ path_words piece.text (codes "\n" ++ k)))

abbrev pub piece_words : Option Piece → List ℕ → List ℕ
piece_words None k = k
piece_words (Some piece) k = known_piece_words piece k

-- the class, where the filter was not asked about it; the piece that decides; what is open; the class of it that wrote its
-- data by code of its own; what the bytes look like
pub record More : Type 0 where
  pub class : Option (List ℕ)
  pub piece : Option Piece
  pub opened : List Open
  pub writer : Option (List ℕ)
  pub hint : List ℕ

abbrev pub view_rest : Rest → More
view_rest rest = record { class = view_name rest.class; piece = rest.piece; opened = rest.opened.now; writer = view_name rest.writer; hint = rest.hint.now }

abbrev pub without_piece : More → More
without_piece more = record { class = more.class; piece = None; opened = more.opened; writer = more.writer; hint = more.hint }

abbrev pub rest_words : More → List ℕ → List ℕ
rest_words more k = class_line more.class (piece_words more.piece (places_words more.opened (writer_words more.writer (more.hint ++ k))))
