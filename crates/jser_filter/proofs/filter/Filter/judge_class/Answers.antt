use Rattle.std.proofs.Common.{rules, ◌≡◌, false, ap, sym, ◌∙◌}
use Rattle.std.specs.List.{list_any}
use Rattle.std.specs.Option.{option_and_then}
use Rattle.jser_filter.specs.Filters.{is_pattern, verdict_at}
use Rattle.jser_filter.specs.Tables.{module_of, module_of_class}
use Rattle.jser_filter.proofs.IndexLemmas.{none_matches}
use Rattle.jser_filter.proofs.filter.Filter.judge_class.Goals as goal

pub returns : goal.returns
returns c =
    let found = c.of_package-found.ensures ∙ ap (option_and_then (module_of c.self.inside.modules)) c.before_last-package.ensures in
    rw (← c.self.view_is, ← found) c.judge_by.ensures

pub returns-then-not-has_patterns : goal.returns-then-not-has_patterns
returns-then-not-has_patterns c =
    let none : list_any is_pattern c.args.self.now.pieces ≡ false = search rules in
    sym (ap (verdict_at c.args.self.now.pieces) (none_matches (module_of_class c.args.self.now.modules c.args.class.now) c.args.class.now c.args.self.now.pieces none))
