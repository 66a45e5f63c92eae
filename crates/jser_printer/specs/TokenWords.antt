-- What is said of a token.
use Rattle.std.specs.Prelude.{ℕ, List}
use Rattle.jser_shown.specs.Cues.{Cue}
use Rattle.jser_shown.specs.Telling.{SeenToken, says_at, says_in}
use Rattle.jser_shown.specs.Words.{Epoch}
use Rattle.jser_printer.specs.Given.{view_node}
use Rattle.jser_printer.specs.declared.words.tag.Marks.{Marks}

-- the epoch that marks stand for
abbrev pub epoch_in : Marks → Epoch
epoch_in marks = record { number = marks.epoch; values = marks.values }

-- what a cue says of a token where a teller stands
abbrev pub cue_words : Marks → Cue → SeenToken → List ℕ → List ℕ
cue_words marks cue seen k = says_at (epoch_in marks) marks.next (view_node marks.owner) cue seen k

-- what the first of these cues says of it
abbrev pub token_words : Marks → List Cue → SeenToken → List ℕ → List ℕ
token_words marks cues seen k = says_in (epoch_in marks) marks.next (view_node marks.owner) cues seen k
