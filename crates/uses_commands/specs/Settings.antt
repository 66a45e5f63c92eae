-- What the words of a command line set.
use Rattle.std.specs.Prelude.{Bool, false, if◌then◌else◌, List, [], ◌∷◌, ℕ, Option, Some, None, is_some}
use Rattle.std.specs.Str.{bytes_eq}
use Rattle.clap.specs.Words.{Text}
use Rattle.jser_inputs.specs.declared.Form.{Form}
use Rattle.jser_line.specs.declared.Forms.{Forms}
use Rattle.jser_line.specs.Clashes.{clash_in, form_in, no_forms}
use Rattle.jser_line.specs.App.{Asked, check, show, list, scan, suggest, explain, records, find}

-- the files that are named
abbrev pub files_of : Asked → List Text
files_of (check filters strict forms anywhere file) = file ∷ []
files_of (show forms values limit file) = file ∷ []
files_of (list filters forms anywhere file) = file ∷ []
files_of (scan filters strict forms anywhere refused json progress paths) = paths
files_of (suggest forms slack files) = files
files_of (explain filters strict forms anywhere file) = file ∷ []
files_of (records words) = words.file ∷ []
files_of (find words) = words.files

abbrev pub all_files : Option Asked → List Text
all_files None = []
all_files (Some asked) = files_of asked

-- the module that was found is this one
abbrev pub is_module : List ℕ → Option (List ℕ) → Bool
is_module wanted None = false
is_module wanted (Some found) = bytes_eq found wanted

-- the form that is asked for, where no two options exclude one another
abbrev pub forms_of : Asked → Forms
forms_of (check filters strict forms anywhere file) = forms
forms_of (show forms values limit file) = forms
forms_of (list filters forms anywhere file) = forms
forms_of (scan filters strict forms anywhere refused json progress paths) = forms
forms_of (suggest forms slack files) = forms
forms_of (explain filters strict forms anywhere file) = forms
forms_of (records words) = words.forms
forms_of (find words) = no_forms

abbrev pub form_asked : Asked → Option Form
form_asked asked = if is_some (clash_in asked) then None else Some (form_in (forms_of asked))
