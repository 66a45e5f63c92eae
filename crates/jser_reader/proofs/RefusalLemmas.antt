-- What is right of bytes, by what is right of their front; and the first fault that a refusal names.
use Rattle.std.specs.Prelude.{IfErr}
use Rattle.std.proofs.Common.{◌≡◌, ◌≢◌, ℕ, ◌+◌, List, [], ◌∷◌, ◌++◌, length, take, drop, Result, Ok, Err, inl, inr, refl, sym, ◌∙◌, ap, subst, arith, length-append, take-append-drop}
use Rattle.jser_grammar.specs.Parts.{IsBytes}
use Rattle.jser_verdict.specs.Reasons.{Reason as ToldReason}
use Rattle.jser_verdict.specs.Reasons.{bytes_exceeded, bad_header, bad_tag, exception_tag, reset_inside, bad_text, negative_length, bad_type_code, field_order, bad_flags, null_class, no_such_handle, wrong_kind, open_descriptor, bad_array_name, wrong_class, external_raw, not_serializable, class_rejected, class_unmatched, depth_exceeded, refs_exceeded, array_exceeded, truncated, handle_space}
use Rattle.jser_verdict.specs.Gates.{Gate}
use Rattle.jser_verdict.specs.FirstFault.{IsFirstFault}
use Rattle.jser_verdict.proofs.ByteLists.{bytes_right}
use Rattle.jser_reader.specs.declared.refusal.Reason.TheVariants as reason
use Rattle.jser_reader.specs.declared.refusal.Refusal.{Refusal}
use Rattle.jser_reader.specs.declared.refusal.Stop.{Stop}
use Rattle.jser_reader.specs.declared.refusal.Stop.TheVariants as stop
use Rattle.jser_reader.specs.declared.item.Totals.{Totals}
use Rattle.jser_reader.specs.Reasons.{named}
use Rattle.jser_reader.specs.Streams.{AreRefused}
use Rattle.jser_reader.specs.Answers.{FrontRefused, IsRightOf, CarriesFirst, IfRefused, Tells}

-- ---- Truncated

only_truncated : (r : ToldReason) → named r ≡ reason.Truncated → r ≡ truncated
only_truncated bytes_exceeded e = absurd (cc)
only_truncated bad_header e = absurd (cc)
only_truncated bad_tag e = absurd (cc)
only_truncated exception_tag e = absurd (cc)
only_truncated reset_inside e = absurd (cc)
only_truncated bad_text e = absurd (cc)
only_truncated negative_length e = absurd (cc)
only_truncated bad_type_code e = absurd (cc)
only_truncated field_order e = absurd (cc)
only_truncated bad_flags e = absurd (cc)
only_truncated null_class e = absurd (cc)
only_truncated no_such_handle e = absurd (cc)
only_truncated wrong_kind e = absurd (cc)
only_truncated open_descriptor e = absurd (cc)
only_truncated bad_array_name e = absurd (cc)
only_truncated wrong_class e = absurd (cc)
only_truncated external_raw e = absurd (cc)
only_truncated not_serializable e = absurd (cc)
only_truncated class_rejected e = absurd (cc)
only_truncated class_unmatched e = absurd (cc)
only_truncated depth_exceeded e = absurd (cc)
only_truncated refs_exceeded e = absurd (cc)
only_truncated array_exceeded e = absurd (cc)
only_truncated truncated e = refl
only_truncated handle_space e = absurd (cc)

pub refused_whole : (gate : Gate) (bytes : List ℕ) (refusal : Refusal) → AreRefused gate bytes refusal → refusal.reason ≢ reason.Truncated
refused_whole gate bytes refusal r = λ e. r.not_truncated (only_truncated r.reason (sym r.is_named ∙ e))

-- ---- the front of bytes

take_front : (xs ys : List ℕ) → take (length xs) (xs ++ ys) ≡ xs
take_front [] ys = refl
take_front (x ∷ xs) ys = ap (λ zs. x ∷ zs) (take_front xs ys)

pub front_refused : (gate : Gate) (front rest bytes : List ℕ) (refusal : Refusal) → bytes ≡ front ++ rest → AreRefused gate front refusal
    → FrontRefused gate bytes refusal
front_refused gate front rest bytes refusal split r =
    let n : length bytes ≡ length front + length rest = ap length split ∙ length-append front rest in
    let all = r.all in
    let e : take refusal.to_byte bytes ≡ front = ap (λ k. take k bytes) all ∙ ap (take (length front)) split ∙ take_front front rest in
    record { within = omega arith; refused = subst (λ xs. AreRefused gate xs refusal) (sym e) r }

-- ---- the first fault

pub right_first : (gate : Gate) (bytes : List ℕ) (refusal : Refusal) → IsBytes bytes → IsRightOf gate bytes refusal → CarriesFirst gate bytes refusal
right_first gate bytes refusal h (inl f) =
    let e = take-append-drop refusal.to_byte bytes in
    let after : IsBytes (drop refusal.to_byte bytes) =
    bytes_right (take refusal.to_byte bytes) (drop refusal.to_byte bytes) (subst IsBytes (sym e) h) in
    record {
      reason = f.refused.reason;
      is_named = f.refused.is_named;
      is_first =
          subst (λ xs. IsFirstFault gate xs refusal.from_byte refusal.to_byte f.refused.reason) e
          (f.refused.is_first (drop refusal.to_byte bytes) after);
    }
right_first gate bytes refusal h (inr t) = record { reason = truncated; is_named = t.is_named; is_first = t.is_first }

pub tells_first : (gate : Gate) (bytes : List ℕ) (result : Result Totals Stop) → IsBytes bytes → Tells gate bytes result
    → IfErr result (IfRefused (CarriesFirst gate bytes))
tells_first gate bytes (Ok totals) h t = tt
tells_first gate bytes (Err (stop.Refused refusal)) h t = right_first gate bytes refusal h t
tells_first gate bytes (Err stop.OutOfMemory) h t = tt
tells_first gate bytes (Err stop.Spent) h t = t
