-- Options that exclude one another: a filter is a text or a file, and an input has one form.
use Rattle.std.specs.Prelude.{◌&&◌, ◌||◌, Bool, false, if◌then◌else◌, Option, Some, None, is_some}
use Rattle.jser_inputs.specs.declared.Form.{Form}
use Rattle.jser_inputs.specs.declared.Form.TheVariants as form
use Rattle.jser_line.specs.declared.args.Forms.{Forms}
use Rattle.jser_line.specs.declared.clash.Clash.{Clash}
use Rattle.jser_line.specs.declared.clash.Clash.TheVariants as clash
use Rattle.jser_line.specs.Args.{FilterWords}
use Rattle.jser_line.specs.App.{Asked, check, show, list, scan, suggest, explain, records, find, RecordsAsked}

abbrev pub form_in : Forms → Form
form_in forms =
    if forms.hex then form.Hex else if forms.base64 then form.Base64 else if forms.base64url then form.Base64Url else form.Binary

abbrev pub clash_of_forms : Forms → Option Clash
clash_of_forms forms =
    if forms.hex && forms.base64 then Some clash.HexAndBase64
    else if forms.hex && forms.base64url then Some clash.HexAndBase64Url
    else if forms.base64 && forms.base64url then Some clash.BothBase64
    else None

abbrev pub clash_of : FilterWords → Forms → Option Clash
clash_of filters forms = if is_some filters.text && is_some filters.file then Some clash.Filters else clash_of_forms forms

-- one of the forms is named
abbrev pub is_named : Forms → Bool
is_named forms = forms.hex || (forms.base64 || forms.base64url)

-- records are lines of one form, frames, or sized; NUL and fields are of lines, and `\n` of two characters is of base64 that no program reads on
abbrev pub clash_of_layout : RecordsAsked → Option Clash
clash_of_layout asked =
    if asked.frames && (asked.sized || is_named asked.forms) then Some clash.FramesAndForm
    else if asked.sized && is_named asked.forms then Some clash.SizedAndForm
    else if (asked.frames || asked.sized) && (asked.zero || is_some asked.field) then Some clash.LinesAlone
    else if asked.copy && (asked.frames || (asked.sized || asked.forms.hex)) then Some clash.Base64Alone
    else if asked.copy && asked.pass then Some clash.CopyAndPass
    else None

-- a command whose input has no other form
abbrev pub no_forms : Forms
no_forms = record { hex = false; base64 = false; base64url = false }

abbrev pub first_clash : (first second : Option Clash) → Option Clash
first_clash (Some clash) second = Some clash
first_clash None second = second

abbrev pub clash_in : Asked → Option Clash
clash_in (check filters strict forms anywhere file) = clash_of filters forms
clash_in (show forms values limit file) = clash_of_forms forms
clash_in (list filters forms anywhere file) = clash_of filters forms
clash_in (scan filters strict forms anywhere refused json progress paths) = clash_of filters forms
clash_in (suggest forms slack files) = clash_of_forms forms
clash_in (explain filters strict forms anywhere file) = clash_of filters forms
clash_in (records asked) = first_clash (clash_of asked.filters asked.forms) (clash_of_layout asked)
clash_in (find asked) = clash_of asked.filters no_forms
