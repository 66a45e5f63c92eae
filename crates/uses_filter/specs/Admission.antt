-- Which names a broker admits.
use Rattle.std.specs.Prelude.{Bool, true, false}
use Rattle.jser_table.specs.Names.{ElementOf, element, primitive_element, malformed_element}
use Rattle.jser_filter.specs.declared.Verdict.{Verdict}
use Rattle.jser_filter.specs.declared.Verdict.TheVariants as verdict

-- the filter does not reject the name
abbrev pub is_kept : Verdict → Bool
is_kept (verdict.Allowed index) = true
is_kept (verdict.Rejected index) = false
is_kept verdict.Undecided = true
is_kept verdict.NoClass = true

-- the name can be that of a class, and the filter does not reject it
abbrev pub is_admitted : ElementOf → Verdict → Bool
is_admitted (element name) verdict = is_kept verdict
is_admitted primitive_element verdict = is_kept verdict
is_admitted malformed_element verdict = false
