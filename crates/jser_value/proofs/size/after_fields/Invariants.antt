use Rattle.std.proofs.Common.{◌≡◌, ◌+◌, length, map, drop}
use Rattle.jser_grammar.specs.Spelling.{fields_spelling}
use Rattle.jser_value.specs.View.{view_field}
use Rattle.jser_value.proofs.size.after_fields.Given as goal

abbrev pub invariant-loop-field : goal.invariant-loop-field
invariant-loop-field l = length (fields_spelling (map view_field l.fields)) + l.left ≡ l.room + length (fields_spelling (map view_field (drop l.field-index l.fields)))
