use Rattle.std.proofs.Common.{◌≡◌, ◌≤◌, ◌+◌, ◌<◌, ap, sym, subst, ◌∙◌, arith, length, drop, get_or, if◌then◌else◌, Some, None}
use Rattle.std.proofs.lemmas.Iterator.{YieldsList-from_chars}
use Rattle.std.proofs.lemmas.Iterator.Consumers.{YieldsList-turn, YieldsList-end}
use Rattle.std.proofs.lemmas.List.{length_push}
use Rattle.std.specs.Str.{chars}
use Rattle.jser_settings.specs.Unseen.{first_unseen, first_unseen_behind, is_unseen}
use Rattle.jser_settings.proofs.UnseenLemmas.{found_here, goes_on_in_piece, goes_on_behind, at_end}
use Rattle.jser_settings.proofs.unseen.first_unseen.Goals as goal

pub returns-then-is_unseen_between : goal.returns-then-is_unseen_between
returns-then-is_unseen_between c =
    let t = YieldsList-turn (YieldsList-from_chars c.args.text.now c.utf8.text cc) c.signs.yielded _ c.signs.yielded_by _ _ c.in-Some.sign c.in-Some.is c.next.ensures.steps in
    found_here (chars c.args.text.now) (length c.signs.yielded) c.in-Some.sign c.signs.number c.signs.before (first_unseen (chars c.args.text.now)) t c.signs.invariant.1 (sym c.is_unseen_between.ensures ∙ c.if-is_unseen_between.true)

pub signs-preserved-then-sign-eq59 : goal.signs-preserved-then-sign-eq59
signs-preserved-then-sign-eq59 c =
    let t = YieldsList-turn (YieldsList-from_chars c.args.text.now c.utf8.text cc) c.signs.yielded _ c.signs.yielded_by _ _ c.in-Some.sign c.in-Some.is c.next.ensures.steps in
    let n = length_push c.signs.yielded c.in-Some.sign in (
      omega (arith, n, c.signs.invariant.0),
      ap (λ k. first_unseen_behind (c.signs.number + 1) c.in-Some.sign (drop k (chars c.args.text.now))) n
          ∙ goes_on_behind (chars c.args.text.now) (length c.signs.yielded) c.in-Some.sign c.signs.number c.signs.before (first_unseen (chars c.args.text.now)) t c.signs.invariant.1 (sym c.is_unseen_between.ensures ∙ c.if-is_unseen_between.false) (c.if-sign-eq59.true),
    )

pub signs-preserved : goal.signs-preserved
signs-preserved c =
    let t = YieldsList-turn (YieldsList-from_chars c.args.text.now c.utf8.text cc) c.signs.yielded _ c.signs.yielded_by _ _ c.in-Some.sign c.in-Some.is c.next.ensures.steps in
    let n = length_push c.signs.yielded c.in-Some.sign in (
      omega (arith, n, c.signs.invariant.0),
      ap (λ k. first_unseen_behind c.signs.number c.in-Some.sign (drop k (chars c.args.text.now))) n
          ∙ goes_on_in_piece (chars c.args.text.now) (length c.signs.yielded) c.in-Some.sign c.signs.number c.signs.before (first_unseen (chars c.args.text.now)) t c.signs.invariant.1 (sym c.is_unseen_between.ensures ∙ c.if-is_unseen_between.false) (c.if-sign-eq59.false),
    )

pub returns-then-is_unseen : goal.returns-then-is_unseen
returns-then-is_unseen c =
    let t = YieldsList-end (YieldsList-from_chars c.args.text.now c.utf8.text cc) c.signs.yielded _ c.signs.yielded_by _ _ c.in-None.is c.next.ensures.steps in
    ap (λ b. if b then Some c.signs.number else None) (sym (sym c.is_unseen.ensures ∙ c.if-is_unseen.true))
    ∙ at_end (chars c.args.text.now) (length c.signs.yielded) c.signs.number c.signs.before (first_unseen (chars c.args.text.now)) (sym t.1) c.signs.invariant.1

pub returns-else-is_unseen : goal.returns-else-is_unseen
returns-else-is_unseen c =
    let t = YieldsList-end (YieldsList-from_chars c.args.text.now c.utf8.text cc) c.signs.yielded _ c.signs.yielded_by _ _ c.in-None.is c.next.ensures.steps in
    ap (λ b. if b then Some c.signs.number else None) (sym (sym c.is_unseen.ensures ∙ c.if-is_unseen.false))
    ∙ at_end (chars c.args.text.now) (length c.signs.yielded) c.signs.number c.signs.before (first_unseen (chars c.args.text.now)) (sym t.1) c.signs.invariant.1
