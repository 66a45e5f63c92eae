use Rattle.std.proofs.Common.{◌≡◌, ◌++◌, map, string_bytes}
use Rattle.jser_prim.specs.ModifiedUtf8.{utf16_units}
use Rattle.jser_suggest.specs.Suggested.{names_text}
use Rattle.jser_suggest.specs.Gathering.{name_list}
use Rattle.jser_suggest.proofs.text.push_names.Given as goal

abbrev pub invariant-loop-name : goal.invariant-loop-name
invariant-loop-name l =
    utf16_units (string_bytes l.text) ++ names_text (map (λ text. utf16_units (string_bytes text)) l.name-iterator) ≡ utf16_units (string_bytes l.fn.text) ++ names_text (name_list l.names)
