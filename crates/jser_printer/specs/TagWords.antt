-- What the words of tags are made of.
use Rattle.std.specs.Prelude.{ℕ, List, ◌++◌}
use Rattle.jser_reading.specs.Labels.{Tag}
use Rattle.jser_shown.specs.Words.{mark}
use Rattle.jser_shown.specs.Telling.{tag_says}
use Rattle.jser_printer.specs.Given.{view_node}
use Rattle.jser_printer.specs.declared.words.tag.Marks.{Marks}

-- a word, a mark and what is behind it
abbrev pub marked_text : List ℕ → ℕ → ℕ → List ℕ → List ℕ → List ℕ
marked_text word epoch number behind k = word ++ mark epoch number (behind ++ k)

-- what a tag says where a teller stands
abbrev pub tag_words : Marks → Tag → List ℕ → List ℕ
tag_words marks tag k = tag_says marks.epoch marks.next (view_node marks.owner) tag k
