-- A name, of which a long one is cut. Each function puts its words before what follows.
use Rattle.std.specs.Prelude.{ℕ, ◌==◌, nat_lt, Bool, true, false, if◌then◌else◌, List, [], ◌∷◌, ◌++◌, length, take, codes}
use Rattle.jser_shown.specs.Words.{quoted}

-- how many letters are printed at most
abbrev pub MOST_LETTERS : ℕ
MOST_LETTERS = 200

-- `..` behind a name that has more
abbrev pub cut_words : Bool → List ℕ → List ℕ
cut_words false k = k
cut_words true k = codes ".." ++ k

abbrev pub short_name : List ℕ → List ℕ → List ℕ
short_name units k = quoted (take MOST_LETTERS units) (cut_words (nat_lt MOST_LETTERS (length units)) k)

-- how many bytes the first letter of a quoted text takes: behind a `\` it is one, or `u` and four digits
abbrev pub escape_end : List ℕ → ℕ
escape_end [] = 2
escape_end (b ∷ bytes) = if b == 0x75 then 6 else 2

abbrev pub unit_end : List ℕ → ℕ
unit_end [] = 1
unit_end (b ∷ bytes) = if b == 0x5C then escape_end bytes else 1
