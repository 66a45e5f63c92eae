-- The filter that is suggested for good streams: its pieces, its text, and which names can be written in it.
use Rattle.std.specs.Prelude.{ℕ, ◌*◌, min, Bool, true, false, not, ◌==◌, ◌||◌, List, [], ◌∷◌, ◌++◌, map, codes, Option, None, Some}
use Rattle.std.specs.List.{list_all, list_any}
use Rattle.std.specs.Char.Unicode.Alphabetic.{is_alphabetic}
use Rattle.std.specs.Char.Unicode.Numeric.{is_numeric}
use Rattle.std.specs.Char.Utf16.{lone_unit_char}
use Rattle.std.specs.Fmt.{decimal}
use Rattle.jser_table.specs.Names.{ends_in}
use Rattle.jser_filter.specs.declared.limit.Limit.TheVariants as limit
use Rattle.jser_filter.specs.Patterns.{exact, prefix}
use Rattle.jser_filter.specs.Pieces.{Piece, limit_piece, pattern_piece}

-- what is known of good streams: the greatest of their counts and array lengths, and their element names
pub record Known : Type 0 where
  pub bytes : ℕ
  pub refs : ℕ
  pub depth : ℕ
  pub array : ℕ
  pub names : List (List ℕ)

-- the pattern that allows this name alone, and the pattern that rejects all names
abbrev pub only : List ℕ → Piece
only name = pattern_piece record { rejects = false; in_module = None; name = exact name }

abbrev pub no_other : Piece
no_other = pattern_piece record { rejects = true; in_module = None; name = prefix [] }

-- maxbytes=B;maxrefs=R;maxdepth=D;maxarray=A;NAME;..;!*
abbrev pub suggested : Known → List Piece
suggested known =
    limit_piece limit.Bytes known.bytes ∷ limit_piece limit.Refs known.refs ∷ limit_piece limit.Depth known.depth ∷ limit_piece limit.Array known.array
    ∷ (map only known.names ++ no_other ∷ [])

-- so many times a count, as far as a filter can have such a limit
abbrev pub times : (n count : ℕ) → ℕ
times n count = min (n * count) 9223372036854775807

-- each limit so many times as high
abbrev pub widened : (n : ℕ) → Known → Known
widened n known = record { bytes = times n known.bytes; refs = times n known.refs; depth = times n known.depth; array = times n known.array; names = known.names }

abbrev pub names_text : List (List ℕ) → List ℕ
names_text [] = []
names_text (name ∷ names) = 0x3B ∷ (name ++ names_text names)

abbrev pub suggested_text : Known → List ℕ
suggested_text known =
    codes "maxbytes=" ++ decimal known.bytes ++ codes ";maxrefs=" ++ decimal known.refs ++ codes ";maxdepth=" ++ decimal known.depth ++ codes ";maxarray="
    ++ decimal known.array ++ names_text known.names ++ codes ";!*"

-- Whether the piece that spells a name is the pattern that allows it alone: the name is not empty, has no `;`, `=` or `/`,
-- does not begin with `!` and does not end with `*`.
abbrev pub has : ℕ → List ℕ → Bool
has c units = list_any (λ unit. unit == c) units

abbrev pub begins : ℕ → List ℕ → Bool
begins c [] = false
begins c (unit ∷ units) = unit == c

abbrev pub is_empty : List ℕ → Bool
is_empty [] = true
is_empty (unit ∷ units) = false

abbrev pub is_writable : List ℕ → Bool
is_writable name =
    not (is_empty name || (begins 0x21 name || (has 0x3B name || (has 0x3D name || (has 0x2F name || ends_in 0x2A name)))))

-- Whether a text has one line: in a filter's file a line feed ends a piece.
abbrev pub is_one_line : List ℕ → Bool
is_one_line units = not (has 0x0A units)

-- Whether a name is written in a filter as it is: it has only letters and digits, by Unicode, and `_`, `$`, `.` and `-`. None
-- of these moves a terminal, or is read as another in a file of properties. The halves of a surrogate pair are no letters.
abbrev pub is_plain_sign : Option ℕ → Bool
is_plain_sign None = false
is_plain_sign (Some c) = (is_alphabetic c || is_numeric c) || (c == 0x5F || (c == 0x24 || (c == 0x2E || c == 0x2D)))

abbrev pub is_plain_unit : ℕ → Bool
is_plain_unit unit = is_plain_sign (lone_unit_char unit)

abbrev pub is_plain : List ℕ → Bool
is_plain name = list_all is_plain_unit name
