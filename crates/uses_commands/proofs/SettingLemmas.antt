-- What the table of a file says of a package.
use Rattle.std.proofs.Common.{◌≡◌, ℕ, Bool, List, [], Option, Some, None, ap, ◌∙◌}
use Rattle.std.specs.Prelude.{IfSome}
use Rattle.jser_prim.specs.ModifiedUtf8.{utf16_units}
use Rattle.jser_filter.specs.Tables.{ModuleTable, lines_of, module_of, table_of}
use Rattle.jser_filter.specs.declared.Verdict.{Verdict}
use Rattle.jser_filter.specs.Filters.{FilterView, verdict_of}
use Rattle.jser_filter.specs.Laws.{verdict_with}
use Rattle.jser_filter.specs.Pieces.{pieces_of}
use Rattle.jser_settings.specs.FilterFiles.{filter_text}
use Rattle.jser_settings.specs.Settings.{IsFilterOf, IsTable}
use Rattle.uses_commands.specs.Settings.{is_module}

pub module_is : (told : Option (List ℕ)) (table : ModuleTable) (name wanted : List ℕ) (is_in : Bool)
    → IfSome told (λ bytes. IsTable bytes table) → is_in ≡ is_module wanted (module_of table name)
    → IfSome told (λ bytes. is_in ≡ is_module wanted (module_of (table_of (lines_of (utf16_units bytes))) name))
module_is None table name wanted is_in is e = tt
module_is (Some bytes) table name wanted is_in is e = e ∙ ap (λ t. is_module wanted (module_of t name)) is.lines

-- what the filter of a file says of a name
pub verdict_in_file : (told : Option (List ℕ)) (filter : FilterView) (name : List ℕ) (said : Verdict) → IfSome told (λ bytes. IsFilterOf bytes filter)
    → said ≡ verdict_of filter name → IfSome told (λ bytes. said ≡ verdict_with (utf16_units (filter_text bytes)) [] name)
verdict_in_file None filter name said is e = tt
verdict_in_file (Some bytes) filter name said is e =
    e ∙ ap (λ p. verdict_of record { pieces = p; modules = filter.modules } name) is.pieces
    ∙ ap (λ m. verdict_of record { pieces = pieces_of (utf16_units (filter_text bytes)); modules = m } name) is.modules
