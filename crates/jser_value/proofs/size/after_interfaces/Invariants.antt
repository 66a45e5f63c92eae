use Rattle.std.proofs.Common.{◌≡◌, ◌+◌, length, map, drop}
use Rattle.jser_grammar.specs.Spelling.{interfaces_spelling}
use Rattle.jser_value.proofs.size.after_interfaces.Given as goal

abbrev pub invariant-loop-name : goal.invariant-loop-name
invariant-loop-name l = length (interfaces_spelling (map (λ name. name.items) l.interfaces)) + l.left ≡ l.room + length (interfaces_spelling (map (λ name. name.items) (drop l.name-index l.interfaces)))
