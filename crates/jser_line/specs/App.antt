-- The command line, as clap defines it: which commands there are, and what each asks for.
use Rattle.std.specs.Prelude.{◌≢◌, Bool, List, Option, Some, None, codes, option_and_then, option_map, if◌then◌else◌, map, string_bytes, true}
use Rattle.std.specs.Str.{bytes_eq}
use Rattle.clap.specs.declared.error.ErrorKind.TheVariants.{OutOfMemory}
use Rattle.clap.specs.Words.{kind_of, takes, App, Row, Text, first_of, new_app, subcommand_of, with_rule, with_subcommand}
use Rattle.jser_line.specs.declared.args.Forms.{Forms}
use Rattle.jser_line.specs.declared.records.Records.{Records}
use Rattle.jser_line.specs.declared.find.Find.{Find}
use Rattle.jser_line.specs.declared.line.Line.{Line}
use Rattle.jser_line.specs.declared.line.Line.TheVariants as line
use Rattle.jser_line.specs.declared.line.LineFault.{LineFault}
use Rattle.jser_line.specs.declared.line.LineFault.TheVariants as fault
use Rattle.jser_line.specs.Args.{FilterWords, all_rule, anywhere_rule, carve_rule, copy_rule, effort_rule, field_rule, file_rule, files_rule, filters_asked, filters_in, forms_in, frames_rule, is_true, json_rule, limit_rule, most_files_rule, most_rule, pass_rule, paths_rule, progress_rule, refused_rule, sized_rule, slack_rule, text_in, text_rule, texts_in, values_rule, with_filter_rules, with_form_rules, with_strict_filter_rules, zero_rule}

-- [--filter T | --filter-file F] [--modules M] [--strict] [--hex | --base64 | --base64url] [--anywhere] FILE
abbrev pub with_check_rules : App → App
with_check_rules app = with_rule (with_rule (with_form_rules (with_strict_filter_rules app)) anywhere_rule) file_rule

-- serialcheck check, with these
abbrev pub check_app : App
check_app = with_check_rules (new_app (codes "check"))

-- serialcheck show [--hex | --base64 | --base64url] [--values] [--limit N] FILE
abbrev pub show_app : App
show_app = with_rule (with_rule (with_rule (with_form_rules (new_app (codes "show"))) values_rule) limit_rule) file_rule

-- serialcheck list [--filter T | --filter-file F] [--modules M] [--hex | --base64 | --base64url] [--anywhere] FILE
abbrev pub list_app : App
list_app = with_rule (with_rule (with_form_rules (with_filter_rules (new_app (codes "list")))) anywhere_rule) file_rule

-- [--anywhere] [--refused] [--json] [--progress]
abbrev pub with_answer_rules : App → App
with_answer_rules app = with_rule (with_rule (with_rule (with_rule app anywhere_rule) refused_rule) json_rule) progress_rule

-- serialcheck scan [--filter T | --filter-file F] [--modules M] [--strict] [--hex | --base64 | --base64url] [--anywhere] [--refused] [--json] [--progress] PATH..
abbrev pub scan_app : App
scan_app = with_rule (with_answer_rules (with_form_rules (with_strict_filter_rules (new_app (codes "scan"))))) paths_rule

-- serialcheck suggest [--hex | --base64 | --base64url] [--slack N] FILE..
abbrev pub suggest_app : App
suggest_app = with_rule (with_rule (with_form_rules (new_app (codes "suggest"))) slack_rule) files_rule

-- serialcheck explain, with the words of check
abbrev pub explain_app : App
explain_app = with_check_rules (new_app (codes "explain"))

-- [--frames] [--sized] [--zero] [--copy]
abbrev pub with_shape_rules : App → App
with_shape_rules app = with_rule (with_rule (with_rule (with_rule app frames_rule) sized_rule) zero_rule) copy_rule

-- [--frames] [--sized] [--zero] [--copy] [--field N] [--most N]
abbrev pub with_layout_rules : App → App
with_layout_rules app = with_rule (with_rule (with_shape_rules app) field_rule) most_rule

-- all these, and [--anywhere] [--refused] [--json] [--progress] [--pass]
abbrev pub with_more_rules : App → App
with_more_rules app = with_rule (with_answer_rules (with_layout_rules app)) pass_rule

-- serialcheck records [--filter T | --filter-file F] [--modules M] [--strict] [--hex | --base64 | --base64url | --frames | --sized]
-- [--zero] [--copy] [--field N] [--most N] [--anywhere] [--refused] [--json] [--progress] [--pass] FILE
abbrev pub records_app : App
records_app = with_rule (with_more_rules (with_form_rules (with_strict_filter_rules (new_app (codes "records"))))) file_rule

-- [--json] [--progress] [--carve DIR] [--most-files N]
abbrev pub with_find_answer_rules : App → App
with_find_answer_rules app = with_rule (with_rule (with_rule (with_rule app json_rule) progress_rule) carve_rule) most_files_rule

-- [--text] [--all] [--most N] [--effort N] [--json] [--progress] [--carve DIR] [--most-files N]
abbrev pub with_find_rules : App → App
with_find_rules app = with_find_answer_rules (with_rule (with_rule (with_rule (with_rule app text_rule) all_rule) most_rule) effort_rule)

-- serialcheck find [--filter T | --filter-file F] [--modules M] [--strict] [--text] [--all] [--most N] [--effort N] [--json] [--progress]
-- [--carve DIR] [--most-files N] FILE..
abbrev pub find_app : App
find_app = with_rule (with_find_rules (with_strict_filter_rules (new_app (codes "find")))) files_rule

-- a command that has a version to tell
abbrev pub versioned : App → App
versioned app = record app { top = record app.top { has_version = true } }

-- check, show, list and scan
abbrev pub with_first_commands : App → App
with_first_commands app = with_subcommand (with_subcommand (with_subcommand (with_subcommand app check_app.top) show_app.top) list_app.top) scan_app.top

abbrev pub the_app : App
the_app =
    with_subcommand (with_subcommand (with_subcommand (with_subcommand (with_first_commands (versioned (new_app (codes "serialcheck")))) suggest_app.top) explain_app.top)
    records_app.top) find_app.top

-- what the words of records ask for
pub record RecordsAsked : Type 0 where
  pub filters : FilterWords
  pub strict : Bool
  pub forms : Forms
  pub frames : Bool
  pub sized : Bool
  pub zero : Bool
  pub copy : Bool
  pub field : Option Text
  pub most : Option Text
  pub anywhere : Bool
  pub refused : Bool
  pub json : Bool
  pub progress : Bool
  pub pass : Bool
  pub file : Text

-- what the words of find ask for
pub record FindAsked : Type 0 where
  pub filters : FilterWords
  pub strict : Bool
  pub text : Bool
  pub all : Bool
  pub most : Option Text
  pub effort : Option Text
  pub json : Bool
  pub progress : Bool
  pub carve : Option Text
  pub most_files : Option Text
  pub files : List Text

-- what the words ask for
pub data Asked : Type 0 where
  check : FilterWords → (strict : Bool) → Forms → (anywhere : Bool) → (file : Text) → Asked
  show : Forms → (values : Bool) → (limit : Option Text) → (file : Text) → Asked
  list : FilterWords → Forms → (anywhere : Bool) → (file : Text) → Asked
  scan : FilterWords → (strict : Bool) → Forms → (anywhere refused json progress : Bool) → (paths : List Text) → Asked
  suggest : Forms → (slack : Option Text) → (files : List Text) → Asked
  explain : FilterWords → (strict : Bool) → Forms → (anywhere : Bool) → (file : Text) → Asked
  records : RecordsAsked → Asked
  find : FindAsked → Asked

abbrev pub check_in : List Row → Asked
check_in rows =
    check (filters_in rows) (is_true (first_of (codes "strict") rows)) (forms_in rows) (is_true (first_of (codes "anywhere") rows)) (text_in rows (codes "file"))

abbrev pub show_in : List Row → Asked
show_in rows =
    show (forms_in rows) (is_true (first_of (codes "values") rows)) (first_of (codes "limit") rows) (text_in rows (codes "file"))

abbrev pub list_in : List Row → Asked
list_in rows = list (filters_in rows) (forms_in rows) (is_true (first_of (codes "anywhere") rows)) (text_in rows (codes "file"))

abbrev pub scan_in : List Row → Asked
scan_in rows =
    scan (filters_in rows) (is_true (first_of (codes "strict") rows)) (forms_in rows) (is_true (first_of (codes "anywhere") rows))
    (is_true (first_of (codes "refused") rows)) (is_true (first_of (codes "json") rows)) (is_true (first_of (codes "progress") rows)) (texts_in rows (codes "path"))

abbrev pub suggest_in : List Row → Asked
suggest_in rows = suggest (forms_in rows) (first_of (codes "slack") rows) (texts_in rows (codes "file"))

abbrev pub explain_in : List Row → Asked
explain_in rows =
    explain (filters_in rows) (is_true (first_of (codes "strict") rows)) (forms_in rows) (is_true (first_of (codes "anywhere") rows)) (text_in rows (codes "file"))

abbrev pub records_in : List Row → Asked
records_in rows = records (record {
  filters = filters_in rows;
  strict = is_true (first_of (codes "strict") rows);
  forms = forms_in rows;
  frames = is_true (first_of (codes "frames") rows);
  sized = is_true (first_of (codes "sized") rows);
  zero = is_true (first_of (codes "zero") rows);
  copy = is_true (first_of (codes "copy") rows);
  field = first_of (codes "field") rows;
  most = first_of (codes "most") rows;
  anywhere = is_true (first_of (codes "anywhere") rows);
  refused = is_true (first_of (codes "refused") rows);
  json = is_true (first_of (codes "json") rows);
  progress = is_true (first_of (codes "progress") rows);
  pass = is_true (first_of (codes "pass") rows);
  file = text_in rows (codes "file");
})

abbrev pub find_in : List Row → Asked
find_in rows = find (record {
  filters = filters_in rows;
  strict = is_true (first_of (codes "strict") rows);
  text = is_true (first_of (codes "text") rows);
  all = is_true (first_of (codes "all") rows);
  most = first_of (codes "most") rows;
  effort = first_of (codes "effort") rows;
  json = is_true (first_of (codes "json") rows);
  progress = is_true (first_of (codes "progress") rows);
  carve = first_of (codes "carve") rows;
  most_files = first_of (codes "most-files") rows;
  files = texts_in rows (codes "file");
})

-- what a subcommand with these matches asks for
abbrev pub asked_by : Text × List Row → Option Asked
asked_by found =
    if bytes_eq found.0 (codes "check") then Some (check_in found.1)
    else (if bytes_eq found.0 (codes "show") then Some (show_in found.1)
    else (if bytes_eq found.0 (codes "list") then Some (list_in found.1)
    else (if bytes_eq found.0 (codes "scan") then Some (scan_in found.1)
    else (if bytes_eq found.0 (codes "suggest") then Some (suggest_in found.1)
    else (if bytes_eq found.0 (codes "explain") then Some (explain_in found.1)
    else (if bytes_eq found.0 (codes "records") then Some (records_in found.1)
    else (if bytes_eq found.0 (codes "find") then Some (find_in found.1)
    else None)))))))

-- what the words ask for, by clap's own definition of the matches
abbrev pub asked_in : List Text → Option Asked
asked_in words = option_and_then asked_by (subcommand_of the_app words)

abbrev pub records_asked : Records → RecordsAsked
records_asked words = record {
  filters = filters_asked words.filters;
  strict = words.strict;
  forms = words.forms;
  frames = words.frames;
  sized = words.sized;
  zero = words.zero;
  copy = words.copy;
  field = option_map string_bytes words.field;
  most = option_map string_bytes words.most;
  anywhere = words.anywhere;
  refused = words.refused;
  json = words.json;
  progress = words.progress;
  pass = words.pass;
  file = string_bytes words.file;
}

abbrev pub find_asked : Find → FindAsked
find_asked words = record {
  filters = filters_asked words.filters;
  strict = words.strict;
  text = words.text;
  all = words.all;
  most = option_map string_bytes words.most;
  effort = option_map string_bytes words.effort;
  json = words.json;
  progress = words.progress;
  carve = option_map string_bytes words.carve;
  most_files = option_map string_bytes words.most_files;
  files = map string_bytes words.files.items;
}

abbrev pub line_asks : Line → Asked
line_asks (line.Check filters strict forms anywhere file) = check (filters_asked filters) strict forms anywhere (string_bytes file)
line_asks (line.Show forms values limit file) = show forms values (option_map string_bytes limit) (string_bytes file)
line_asks (line.List filters forms anywhere file) = list (filters_asked filters) forms anywhere (string_bytes file)
line_asks (line.Scan filters strict forms anywhere refused json progress paths) =
    scan (filters_asked filters) strict forms anywhere refused json progress (map string_bytes paths.items)
line_asks (line.Suggest forms slack files) = suggest forms (option_map string_bytes slack) (map string_bytes files.items)
line_asks (line.Explain filters strict forms anywhere file) = explain (filters_asked filters) strict forms anywhere (string_bytes file)
line_asks (line.Records words) = records (records_asked words)
line_asks (line.Find words) = find (find_asked words)

-- clap's own definition does not take the words, unless memory ran out
abbrev pub IsMistake : List Text → LineFault → Type 0
IsMistake words (fault.Clap error) = (kind_of error ≢ OutOfMemory) × (takes the_app words ≢ true)
IsMistake words fault.OutOfMemory = Unit {0}
