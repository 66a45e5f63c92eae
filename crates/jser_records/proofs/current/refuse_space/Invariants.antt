use Rattle.std.proofs.Common.{◌≡◌, ◌++◌, map, take, drop}
use Rattle.jser_records.specs.Texts.{without_space}
use Rattle.jser_records.proofs.current.refuse_space.Given as goal

-- the characters so far are as they will be
abbrev pub invariant-loop-character : goal.invariant-loop-character
invariant-loop-character l = l.text ≡ map without_space (take l.character-index l.fn.text) ++ drop l.character-index l.fn.text
