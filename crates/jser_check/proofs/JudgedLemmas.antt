-- The class of a loadable name is not malformed.
use Rattle.std.proofs.Common.{◌≡◌, ℕ, List, [], ◌∷◌, refl, sym, ap, ◌∙◌}
use Rattle.jser_table.specs.Names.{plain_name, name_kind}
use Rattle.jser_anywhere.specs.Names.{is_part}
use Rattle.jser_anywhere.specs.LoadableNames.{IsSegment, dotted}
use Rattle.jser_anywhere.proofs.LoadableLemmas.{other}
use Rattle.jser_check.specs.Passing.{NamesAreJudged}

plain_kind : (first : List ℕ) (others : List (List ℕ)) → IsSegment first → name_kind (dotted first others) ≡ plain_name
plain_kind [] others s = absurd s
plain_kind (unit ∷ units) [] s = rw (other is_part unit 0x5B s.0 refl) refl
plain_kind (unit ∷ units) (next ∷ others) s = rw (other is_part unit 0x5B s.0 refl) refl

pub names_are_judged : NamesAreJudged
names_are_judged units p = λ e. absurd (cc (sym (ap name_kind p.units_are ∙ plain_kind p.first p.others p.segment) ∙ e))
