-- The checked names of a stream, counted along its tokens: the text behind the tag of a plain descriptor is one, and so are
-- as many texts behind the number of interfaces. And the length of its longest array.
use Rattle.std.specs.Prelude.{ℕ, zero, suc, ◌≡◌, max, List, [], ◌∷◌}
use Rattle.jser_grammar.specs.Trees.{ContentTrees}
use Rattle.jser_grammar.specs.WellFormed.{WellFormed}
use Rattle.jser_grammar.specs.CheckedNames.{checked_names}
use Rattle.jser_grammar.specs.Counts.{array_lengths}
use Rattle.jser_reading.specs.Tokens.{tokens_of}
use Rattle.jser_shown.specs.Counting.{NameTally, tally_one, tally_all}
use Rattle.jser_reading.specs.Labels.{Tag, class_desc_tag, StreamToken, tag_token, block_tag_token, end_tag_token, reset_tag_token, interface_count_token, array_length_token, text_token, Piece, piece}

-- the names so far, counted, and how many of the next texts are names
pub record Collected : Type 0 where
  pub names : List NameTally
  pub left : ℕ

abbrev pub begin_collecting : Collected
begin_collecting = record { names = []; left = 0 }

abbrev pub names_begun : Tag → ℕ
names_begun class_desc_tag = 1
names_begun tag = 0

abbrev pub collect_text : List ℕ → (left : ℕ) → Collected → Collected
collect_text units zero x = x
collect_text units (suc left) x = record { names = tally_one units x.names; left = left }

-- one token more
abbrev pub collect : StreamToken → Collected → Collected
collect (tag_token tag) x = record x { left = names_begun tag }
collect (block_tag_token long) x = record x { left = 0 }
collect end_tag_token x = record x { left = 0 }
collect reset_tag_token x = record x { left = 0 }
collect (interface_count_token n) x = record x { left = n }
collect (text_token long units) x = collect_text units x.left x
collect token x = x

-- these tokens more
abbrev pub collected : Collected → List Piece → Collected
collected x [] = x
collected x (piece label token ∷ rest) = collected (collect token x) rest

-- ---- the longest array

abbrev pub greatest : List ℕ → ℕ
greatest [] = 0
greatest (n ∷ ns) = max n (greatest ns)

-- the greater of a length and that of the array that the token begins, if it begins one
abbrev pub measure : StreamToken → ℕ → ℕ
measure (array_length_token n) longest = max longest n
measure token longest = longest

-- these tokens more
abbrev pub measured : ℕ → List Piece → ℕ
measured longest [] = longest
measured longest (piece label token ∷ rest) = measured (measure token longest) rest

-- ---- laws

-- Along the tokens of a list that obeys the format its checked names are counted.
abbrev pub NamesAreCollected : Type 0
NamesAreCollected = (list : ContentTrees) → WellFormed list → (collected begin_collecting (tokens_of list)).names ≡ tally_all [] (checked_names list)

-- .. and the greatest of its array lengths.
abbrev pub LengthsAreMeasured : Type 0
LengthsAreMeasured = (list : ContentTrees) → WellFormed list → measured 0 (tokens_of list) ≡ greatest (array_lengths list)
