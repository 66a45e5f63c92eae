-- What is said of what is open. Each function puts its words before what follows.
use Rattle.std.specs.Prelude.{ℕ, zero, suc, ◌-◌, List, [], ◌∷◌, ◌++◌, length, take, drop, codes, Option, Some, None}
use Rattle.std.specs.Fmt.{decimal}
use Rattle.jser_printer.specs.Names.{view_name}
use Rattle.jser_printer.specs.declared.opened.Open.{Open}
use Rattle.jser_printer.specs.declared.opened.Open.TheVariants as part
use Rattle.jser_explain.specs.Short.{short_name}

-- a class; a proxy class has no name
abbrev pub name_words : Option (List ℕ) → List ℕ → List ℕ
name_words None k = codes "a proxy class" ++ k
name_words (Some name) k = short_name name k

-- some words, a class, and the end of the line
abbrev pub class_words : List ℕ → Option (List ℕ) → List ℕ → List ℕ
class_words words class k = words ++ name_words class (codes "\n" ++ k)

-- in field NAME of NAME
abbrev pub field_words : List ℕ → Option (List ℕ) → List ℕ → List ℕ
field_words name class k = codes "  in field " ++ short_name name (class_words (codes " of ") class k)

-- in element N
abbrev pub element_words : ℕ → List ℕ → List ℕ
element_words index k = codes "  in element " ++ (decimal index ++ (codes "\n" ++ k))

abbrev pub open_words : Open → List ℕ → List ℕ
open_words (part.Object class writer) k = class_words (codes "  in object of ") (view_name class) k
open_words (part.Field name class) k = field_words name.now (view_name class) k
open_words (part.Element index) k = element_words index k
open_words (part.Annotation class) k = class_words (codes "  in annotation of ") (view_name class) k
open_words (part.Descriptor class) k = class_words (codes "  in descriptor ") (view_name class) k

-- the outermost first
abbrev pub opened_words : List Open → List ℕ → List ℕ
opened_words [] k = k
opened_words (o ∷ os) k = open_words o (opened_words os k)

-- .. N more
abbrev pub left_out_line : ℕ → List ℕ → List ℕ
left_out_line n k = codes "  .. " ++ (decimal n ++ (codes " more\n" ++ k))

abbrev pub left_out_words : ℕ → List ℕ → List ℕ
left_out_words zero k = k
left_out_words (suc n) k = left_out_line (suc n) k

-- of those behind the outermost the innermost, and how many are left out
abbrev pub MOST_PLACES : ℕ
MOST_PLACES = 20

abbrev pub inner_words : List Open → List ℕ → List ℕ
inner_words others k = left_out_words (length others - MOST_PLACES) (opened_words (drop (length others - MOST_PLACES) others) k)

-- what is told of what is open: the outermost and the innermost
abbrev pub places_words : List Open → List ℕ → List ℕ
places_words opened k = opened_words (take MOST_PLACES opened) (inner_words (drop MOST_PLACES opened) k)

-- NAME has a writeObject of its own, ..
abbrev pub own_writer_words : List ℕ → List ℕ → List ℕ
own_writer_words name k =
    codes "  " ++ short_name name (codes " has a writeObject of its own: if it does not write its fields first, this stream cannot be read without that class\n" ++ k)

abbrev pub writer_words : Option (List ℕ) → List ℕ → List ℕ
writer_words None k = k
writer_words (Some name) k = own_writer_words name k
