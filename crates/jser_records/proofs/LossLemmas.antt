-- Where nobody knows what comes next, a record was counted as not read.
use Rattle.std.proofs.Common.{◌≡◌, ◌≢◌, ◌⊎◌, ℕ, ◌<◌, Bool, true, List, [], ◌∷◌, inl, inr, refl, sym, ap, subst, ◌∙◌, arith, if◌then◌else◌}
use Rattle.std.specs.Prelude.{nat_lt}
use Rattle.std.proofs.lemmas.Bool.{lt-ltb}
use Rattle.jser_scan.specs.declared.Found.{Found}
use Rattle.jser_scan.specs.declared.Found.TheVariants as found
use Rattle.jser_scan.specs.declared.Rules.{Rules}
use Rattle.jser_scan.specs.declared.Tally.{Tally}
use Rattle.jser_scan.specs.Tallies.{noted, status_of}
use Rattle.jser_records.specs.declared.answer.Answer.{Answer}
use Rattle.jser_records.specs.declared.answer.Answer.TheVariants as answer
use Rattle.jser_records.specs.declared.layout.Shape.{Shape}
use Rattle.jser_records.specs.declared.layout.Shape.TheVariants as shape
use Rattle.jser_records.specs.Held.{Terms, passes}
use Rattle.jser_records.specs.Readings.{IsFor, Value, none, plain, text_of, cut_at, unknown, parted, failed}
use Rattle.jser_records.specs.Records.{AreRecords, IsPart}
use Rattle.jser_records.specs.Sized.{At, IsSized, SizedPart, at_line, at_line_end, at_loss, next_at}
use Rattle.jser_records.specs.Told.{Event, all_counted, behind, counted, counted_event, ended, passed_over}

noted_kept : (tally : Tally) (result : Found) → 0 < tally.unread → 0 < (noted tally result).unread
noted_kept tally (found.Accepted totals) some = some
noted_kept tally (found.Refused refusal class) some = some
noted_kept tally (found.Hidden from to class) some = some
noted_kept tally found.NotOpened some = omega (arith, some)
noted_kept tally (found.NotRead fault) some = omega (arith, some)
noted_kept tally found.OutOfMemory some = omega (arith, some)

counted_kept : (tally : Tally) (result : Answer) → 0 < tally.unread → 0 < (counted tally result).unread
counted_kept tally (answer.Checked result) some = noted_kept tally result some
counted_kept tally answer.Null some = some
counted_kept tally (answer.Longer most) some = omega (arith, some)
counted_kept tally answer.LongKey some = omega (arith, some)
counted_kept tally (answer.Cut at total) some = omega (arith, some)
counted_kept tally answer.NoLength some = omega (arith, some)
counted_kept tally answer.LineEndInKey some = omega (arith, some)
counted_kept tally answer.ErrorReply some = omega (arith, some)

unread_kept : (tally : Tally) (events : List Event) → 0 < tally.unread → 0 < (all_counted tally events).unread
unread_kept tally [] some = some
unread_kept tally (ended e ∷ es) some = unread_kept (counted tally e.answer) es (counted_kept tally e.answer some)
unread_kept tally (behind bytes ∷ es) some = unread_kept tally es some
unread_kept tally (passed_over bytes ∷ es) some = unread_kept tally es some

stopped_counted : (is_lost : Bool) (result : Answer) (tally : Tally) → (result ≡ answer.Checked found.OutOfMemory) ⊎ ((result ≡ answer.LongKey) × (is_lost ≡ true)) → 0 < (counted tally result).unread
stopped_counted is_lost result tally (inl is) = subst (λ a. 0 < (counted tally a).unread) (sym is) (omega arith)
stopped_counted is_lost result tally (inr is) = subst (λ a. 0 < (counted tally a).unread) (sym is.0) (omega arith)

loss_counted : (rules : Rules) (most : ℕ) (is_lost : Bool) (result : Answer) (tally : Tally) → IsFor rules most is_lost unknown result → 0 < (counted tally result).unread
loss_counted rules most is_lost result tally (inl is) = subst (λ a. 0 < (counted tally a).unread) (sym is) (omega arith)
loss_counted rules most is_lost result tally (inr stopped) = stopped_counted is_lost result tally stopped

parted_counted : (rules : Rules) (most : ℕ) (is_lost : Bool) (result : Answer) (tally : Tally) → IsFor rules most is_lost parted result → 0 < (counted tally result).unread
parted_counted rules most is_lost result tally (inl is) = subst (λ a. 0 < (counted tally a).unread) (sym is) (omega arith)
parted_counted rules most is_lost result tally (inr stopped) = stopped_counted is_lost result tally stopped

no_loss : (line key : List ℕ) (value : Value) (body rest : List ℕ) (passed : Bool) → IsSized line key value body rest → next_at value passed ≡ at_loss → ⊥
no_loss line key none body rest passed is lost = absurd (cc)
no_loss line key (plain value) body rest passed is lost = absurd (cc)
no_loss line key (text_of form mark text) body rest passed is lost = is
no_loss line key (cut_at at total) body rest passed is lost = absurd (cc)
no_loss line key unknown body rest passed is lost = is
no_loss line key parted body rest passed is lost = is
no_loss line key failed body rest passed is lost = absurd (cc)

sized_lost : (terms : Terms) (at to : At) (bytes rest : List ℕ) (event : Event) (tally : Tally) → SizedPart terms at bytes event to rest → to ≡ at_loss → 0 < (counted_event tally event).unread
sized_lost terms at_line to bytes rest (ended e) tally (inl sized) lost = absurd (no_loss sized.line sized.key sized.value sized.body rest (passes e.answer) sized.is (sym sized.next ∙ lost))
sized_lost terms at_line to bytes rest (ended e) tally (inr (inl loss)) lost = loss_counted terms.rules terms.most e.key.is_lost e.answer tally loss.0.right
sized_lost terms at_line to bytes rest (ended e) tally (inr (inr loss)) lost = parted_counted terms.rules terms.most e.key.is_lost e.answer tally loss.0.right
sized_lost terms at_line to bytes rest (behind some) tally part lost = absurd part
sized_lost terms at_line to bytes rest (passed_over some) tally part lost = let not : to ≡ at_line = part.next in absurd (cc)
sized_lost terms (at_line_end passed) to bytes rest (ended e) tally part lost = loss_counted terms.rules terms.most e.key.is_lost e.answer tally part.0.right
sized_lost terms (at_line_end passed) to bytes rest (behind some) tally part lost = let not : to ≡ at_line = part.2 in absurd (cc)
sized_lost terms (at_line_end passed) to bytes rest (passed_over some) tally part lost = let not : to ≡ at_line = part.2 in absurd (cc)
sized_lost terms at_loss to bytes rest event tally part lost = absurd part

part_lost : (layout : Shape) (terms : Terms) (at to : At) (bytes rest : List ℕ) (event : Event) (tally : Tally) → IsPart layout terms at bytes event to rest → to ≡ at_loss → at ≢ at_loss
    → 0 < (counted_event tally event).unread
part_lost (shape.Lines lines) terms at to bytes rest (ended e) tally part lost not = absurd (not (part.0 ∙ lost))
part_lost (shape.Lines lines) terms at to bytes rest (behind some) tally part lost not = absurd part
part_lost (shape.Lines lines) terms at to bytes rest (passed_over some) tally part lost not = absurd part
part_lost shape.Frames terms at to bytes rest (ended e) tally part lost not = absurd (not (part.0 ∙ lost))
part_lost shape.Frames terms at to bytes rest (behind some) tally part lost not = absurd part
part_lost shape.Frames terms at to bytes rest (passed_over some) tally part lost not = absurd part
part_lost shape.Sized terms at to bytes rest event tally part lost not = sized_lost terms at to bytes rest event tally part lost

pub records_lost : (layout : Shape) (terms : Terms) (at to : At) (bytes rest : List ℕ) (events : List Event) (tally : Tally) → AreRecords layout terms at bytes events to rest → to ≡ at_loss → at ≢ at_loss
    → 0 < (all_counted tally events).unread
records_lost layout terms at to bytes rest [] tally are lost not = absurd (not (are.0 ∙ lost))
records_lost layout terms at to bytes rest (e ∷ es) tally (at_line, left, part, are) lost not =
    records_lost layout terms at_line to left rest es (counted_event tally e) are lost (λ same. absurd (cc))
records_lost layout terms at to bytes rest (e ∷ es) tally (at_line_end passed, left, part, are) lost not =
    records_lost layout terms (at_line_end passed) to left rest es (counted_event tally e) are lost (λ same. absurd (cc))
records_lost layout terms at to bytes rest (e ∷ es) tally (at_loss, left, part, are) lost not =
    unread_kept (counted_event tally e) es (part_lost layout terms at at_loss bytes left e tally part refl not)

pub status_unread : (tally : Tally) → 0 < tally.unread → status_of tally ≡ 3
status_unread tally some = ap (λ b. if b then 3 else (if nat_lt 0 tally.refused then 1 else 0)) (lt-ltb 0 tally.unread some)
