-- The arguments that several commands take, as clap defines them, and what is read of them.
use Rattle.std.specs.Prelude.{Bool, List, [], Option, Some, None, codes, option_map, unwrap_or, string_bytes, true, false}
use Rattle.std.specs.Str.{bytes_eq}
use Rattle.clap.specs.declared.builder.ArgAction.TheVariants.{Append, SetTrue}
use Rattle.clap.specs.Words.{App, Row, Rule, Text, all_of, first_of, new_rule, with_rule}
use Rattle.jser_line.specs.declared.args.Filters.{Filters}
use Rattle.jser_line.specs.declared.args.Forms.{Forms}

-- an option with a value that has a name in the help, as --filter T
abbrev pub option_rule : Text → Rule
option_rule name = record (new_rule name) { long = Some name; value_names = 1 }

-- a flag, as --strict
abbrev pub flag_rule : Text → Rule
flag_rule name = record (new_rule name) { long = Some name; action = Some SetTrue }

abbrev pub filter_rule : Rule
filter_rule = option_rule (codes "filter")

abbrev pub filter_file_rule : Rule
filter_file_rule = option_rule (codes "filter-file")

abbrev pub modules_rule : Rule
modules_rule = option_rule (codes "modules")

abbrev pub strict_rule : Rule
strict_rule = flag_rule (codes "strict")

abbrev pub anywhere_rule : Rule
anywhere_rule = flag_rule (codes "anywhere")

abbrev pub limit_rule : Rule
limit_rule = option_rule (codes "limit")

abbrev pub all_rule : Rule
all_rule = flag_rule (codes "all")

abbrev pub text_rule : Rule
text_rule = flag_rule (codes "text")

abbrev pub carve_rule : Rule
carve_rule = option_rule (codes "carve")

abbrev pub effort_rule : Rule
effort_rule = option_rule (codes "effort")

abbrev pub most_files_rule : Rule
most_files_rule = option_rule (codes "most-files")

abbrev pub slack_rule : Rule
slack_rule = option_rule (codes "slack")

abbrev pub values_rule : Rule
values_rule = flag_rule (codes "values")

abbrev pub hex_rule : Rule
hex_rule = flag_rule (codes "hex")

abbrev pub base64_rule : Rule
base64_rule = flag_rule (codes "base64")

abbrev pub base64url_rule : Rule
base64url_rule = flag_rule (codes "base64url")

abbrev pub refused_rule : Rule
refused_rule = flag_rule (codes "refused")

abbrev pub json_rule : Rule
json_rule = flag_rule (codes "json")

abbrev pub frames_rule : Rule
frames_rule = flag_rule (codes "frames")

abbrev pub sized_rule : Rule
sized_rule = flag_rule (codes "sized")

abbrev pub zero_rule : Rule
zero_rule = flag_rule (codes "zero")

abbrev pub copy_rule : Rule
copy_rule = flag_rule (codes "copy")

abbrev pub field_rule : Rule
field_rule = option_rule (codes "field")

abbrev pub most_rule : Rule
most_rule = option_rule (codes "most")

abbrev pub progress_rule : Rule
progress_rule = flag_rule (codes "progress")

abbrev pub pass_rule : Rule
pass_rule = flag_rule (codes "pass")

-- files and folders, one or more
abbrev pub paths_rule : Rule
paths_rule = record (new_rule (codes "path")) { required = true; action = Some Append; value_names = 1 }

-- files, one or more
abbrev pub files_rule : Rule
files_rule = record (new_rule (codes "file")) { required = true; action = Some Append; value_names = 1 }

-- the stream's file
abbrev pub file_rule : Rule
file_rule = record (new_rule (codes "file")) { required = true; value_names = 1 }

-- [--filter T | --filter-file F] [--modules M]
abbrev pub with_filter_rules : App → App
with_filter_rules app = with_rule (with_rule (with_rule app filter_rule) filter_file_rule) modules_rule

-- the words of a filter, and [--strict]
abbrev pub with_strict_filter_rules : App → App
with_strict_filter_rules app = with_rule (with_filter_rules app) strict_rule

-- [--hex | --base64 | --base64url]
abbrev pub with_form_rules : App → App
with_form_rules app = with_rule (with_rule (with_rule app hex_rule) base64_rule) base64url_rule

-- the value of an argument, or the empty text
abbrev pub text_in : List Row → (name : Text) → Text
text_in rows name = unwrap_or (first_of name rows) []

-- all its values
abbrev pub texts_in : List Row → (name : Text) → List Text
texts_in rows name = unwrap_or (all_of name rows) []

abbrev pub is_true : Option Text → Bool
is_true None = false
is_true (Some text) = bytes_eq text (codes "true")

-- a filter's text, a filter file, and a modules file
pub record FilterWords : Type 0 where
  pub text : Option Text
  pub file : Option Text
  pub modules : Option Text

abbrev pub filters_in : List Row → FilterWords
filters_in rows = record {
  text = first_of (codes "filter") rows;
  file = first_of (codes "filter-file") rows;
  modules = first_of (codes "modules") rows;
}

abbrev pub filters_asked : Filters → FilterWords
filters_asked filters = record {
  text = option_map string_bytes filters.text;
  file = option_map string_bytes filters.file;
  modules = option_map string_bytes filters.modules;
}

abbrev pub forms_in : List Row → Forms
forms_in rows = record {
  hex = is_true (first_of (codes "hex") rows);
  base64 = is_true (first_of (codes "base64") rows);
  base64url = is_true (first_of (codes "base64url") rows);
}
