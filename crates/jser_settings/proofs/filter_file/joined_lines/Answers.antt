use Rattle.std.proofs.Common.{rules, ◌≡◌, ◌++◌, ◌∷◌, [], string_bytes, ap, sym, subst, ◌∙◌, arith}
use Rattle.jser_settings.specs.FilterFiles.{filter_text, uncommented, without_return}
use Rattle.jser_settings.proofs.FilterFileLemmas.{joined_more}
use Rattle.jser_settings.proofs.filter_file.joined_lines.Goals as goal

pub lines-preserved : goal.lines-preserved
lines-preserved c =
    let done = string_bytes c.lines.joined in
    let pushed : string_bytes c.push_str-in-Some.new.self ≡ (done ++ uncommented (without_return c.in-Some.line.now)) ++ 0x3B ∷ [] =
    c.in_ok-push_str-2.ensures.bytes
    ∙ ap (λ x. x ++ 0x3B ∷ []) (c.in_ok-push_str.ensures.bytes ∙ ap (λ x. done ++ x) (c.uncommented.ensures ∙ ap (λ x. uncommented x) c.without_return.ensures)) in (
      search rules,
      subst (λ t. t ++ filter_text c.in-Some.after.now ≡ filter_text c.args.text.now) (sym pushed)
          (joined_more done c.lines.rest.now c.in-Some.line.now c.in-Some.after.now (filter_text c.args.text.now) c.lines.invariant.1
          (c.in-Some.ensures.byte (omega arith) (λ w o h. h))),
    )
