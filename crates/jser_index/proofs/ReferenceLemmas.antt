-- A reference that is lent at once, before which no node is due: nothing is found but that the next text is a name.
use Rattle.std.proofs.Common.{◌≡◌, ℕ, ◌-◌, ◌≤◌, true, false, length, None, refl, sym, ap, arith}
use Rattle.jser_reading.specs.TokenBytes.{tag_byte}
use Rattle.jser_reading.specs.Labels.{Tag, null_tag, reference_tag, class_desc_tag, object_tag, string_tag, array_tag, class_tag, long_string_tag, proxy_desc_tag, enum_tag, StreamToken, tag_token, block_tag_token, end_tag_token, reset_tag_token}
use Rattle.jser_shown.specs.Finding.{Finding, begin_kind, kind_begun, take_token}
use Rattle.jser_printer.specs.declared.Token.TheVariants as lent
use Rattle.jser_printer.specs.Given.{IsOf}
use Rattle.jser_index.specs.Surveying.{GoesPastBoth}
use Rattle.jser_index.proofs.SurveyLemmas.{finds_unmade, passes_unmade, tag_no_name, handle_quiet}

none_begins : (tag : Tag) → 0x71 ≡ tag_byte tag → kind_begun tag ≡ None
none_begins reference_tag is = refl
none_begins null_tag is = absurd (omega arith)
none_begins string_tag is = absurd (omega arith)
none_begins class_desc_tag is = absurd (omega arith)
none_begins object_tag is = absurd (omega arith)
none_begins array_tag is = absurd (omega arith)
none_begins class_tag is = absurd (omega arith)
none_begins long_string_tag is = absurd (omega arith)
none_begins proxy_desc_tag is = absurd (omega arith)
none_begins enum_tag is = absurd (omega arith)

reference_taken : (told : StreamToken) (now : Finding) → IsOf (lent.Tag 0x71) told → record now { is_name = true } ≡ take_token told now
reference_taken (tag_token tag) now is = ap (λ k. record (begin_kind k now) { is_name = true }) (sym (none_begins tag is))
reference_taken (block_tag_token false) now is = absurd (omega arith)
reference_taken (block_tag_token true) now is = absurd (omega arith)
reference_taken end_tag_token now is = absurd (omega arith)
reference_taken reset_tag_token now is = absurd (omega arith)
reference_taken _ now is = absurd is

pub reference_unmade : (handle assigned end : ℕ) (old new : Finding) → assigned ≤ length old.nodes → new ≡ record old { is_name = true; place = end }
    → GoesPastBoth (IsOf (lent.Tag 0x71)) (IsOf (lent.Handle handle)) assigned assigned (end - 4) end old new
reference_unmade handle assigned end old new le is =
    let between : Finding = record old { is_name = true; place = end - 4 } in
    record {
      between = between;
      first = record {
        finds = λ told i at.
            finds_unmade told assigned (end - 4) old old (record old { is_name = true }) between le (tag_no_name 0x71 told old i) (reference_taken told old i) refl at;
        place = refl;
      };
      second = record {
        finds = λ told i at. passes_unmade told assigned end between new (handle_quiet handle told i) le is at;
        place = ap (λ x. x.place) is;
      };
    }
