-- Which bytes are a stream: chapter 6's grammar in this profile. The header is that of stream version 5
-- (Java Object Serialization Specification, section 6.4.2: STREAM_MAGIC, STREAM_VERSION).
use Rattle.std.specs.Prelude.{ℕ, ◌≡◌, List}
use Rattle.jser_grammar.specs.Trees.{ContentTrees}
use Rattle.jser_grammar.specs.Spelling.{spelling}
use Rattle.jser_grammar.specs.WellFormed.{WellFormed}

-- these bytes spell this list, and it obeys the format
abbrev pub IsStreamOf : List ℕ → ContentTrees → Type 0
IsStreamOf bytes list = (bytes ≡ spelling list) × WellFormed list
