use Rattle.jser_explain.proofs.ShortLemmas.{first_letters, is_cut, rest_within, says_shown}
use Rattle.jser_explain.proofs.short.write_name.Goals as goal

pub overflow_sub-quoted : goal.overflow_sub-quoted
overflow_sub-quoted g c =
    rest_within 200 c.args.name.now _ _ c.quoted-quoted.ensures (c.behind_letters-rest.ensures c.args.name.now c.quoted-quoted.ensures)

pub returns : goal.returns
returns g c =
    let left = c.behind_letters-rest.ensures c.args.name.now c.quoted-quoted.ensures in
    says_shown _ _ _ _ c.args.name.now c.split_at.result.0.now _
    (first_letters 200 c.args.name.now _ c.behind_letters-rest.result.now _ c.quoted-quoted.ensures left c.split_at.ensures.front)
    (is_cut 200 c.args.name.now _ _ left c.is_empty.ensures) c.write_shown.ensures
