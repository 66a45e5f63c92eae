use Rattle.std.proofs.Common.{Some, option_map, ap, ◌∙◌}
use Rattle.jser_filter.specs.Tables.{module_of}
use Rattle.jser_filter.proofs.ModulesLemmas.{module_found}
use Rattle.jser_filter.proofs.modules.Modules.get.Goals as goal

pub returns-in-Some : goal.returns-in-Some
returns-in-Some c =
    ap Some c.as_slice.ensures.value ∙ ap (option_map (λ v. v.items)) c.in-Some.ensures.value
    ∙ module_found c.args.«package».now c.self.inside.entries.entries ∙ ap (λ t. module_of t c.args.«package».now) c.self.view_is

pub returns-in-None : goal.returns-in-None
returns-in-None c =
    ap (option_map (λ v. v.items)) c.in-None.ensures.value
    ∙ module_found c.args.«package».now c.self.inside.entries.entries ∙ ap (λ t. module_of t c.args.«package».now) c.self.view_is
