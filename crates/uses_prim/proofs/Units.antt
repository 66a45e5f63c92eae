-- The units of a text, collected byte by byte.
use Rattle.std.proofs.Common.{◌≡◌, ◌∙◌, sym, subst, ap, ◌<◌, ◌≤◌, ◌+◌, ℕ, List, [], ◌∷◌, ◌++◌, length, take, slice_index_or, Some, None, arith}
use Rattle.std.specs.declared.option.Option.{Option}
use Rattle.std.specs.Option.{option_to_list}
use Rattle.std.proofs.lemmas.List.{take_more, length-take-le, take_all, append-nil}
use Rattle.jser_prim.specs.Texts.{Scan, HasAccepted}

-- no unit was ended
pub told_none : (len : ℕ) (bytes units : List ℕ) (unit : Option ℕ) (scan : Scan) → unit ≡ None
    → HasAccepted len bytes (units ++ option_to_list unit) scan → HasAccepted len bytes units scan
told_none len bytes units unit scan is accepted =
    subst (λ us. HasAccepted len bytes us scan) (ap (λ u. units ++ option_to_list u) is ∙ append-nil units) accepted

-- this one was, and was added
pub told_some : (len : ℕ) (bytes units new : List ℕ) (unit : Option ℕ) (u : ℕ) (scan : Scan) → unit ≡ Some u → new ≡ units ++ u ∷ []
    → HasAccepted len bytes (units ++ option_to_list unit) scan → HasAccepted len bytes new scan
told_some len bytes units new unit u scan is added accepted =
    subst (λ us. HasAccepted len bytes us scan) (ap (λ x. units ++ option_to_list x) is ∙ sym added) accepted

-- so far no byte and no unit
pub starts : (len : ℕ) (bytes units : List ℕ) (scan : Scan) → units ≡ [] → HasAccepted len [] [] scan → HasAccepted len (take 0 bytes) units scan
starts len bytes units scan none accepted = subst (λ us. HasAccepted len [] us scan) (sym none) accepted

-- before the last byte there is room for one
pub has_room : (bytes units : List ℕ) (scan : Scan) (i : ℕ) → i < length bytes → HasAccepted (length bytes) (take i bytes) units scan → 0 < scan.left
has_room bytes units scan i inside accepted =
    let counted = accepted.counted in
    let taken : length (take i bytes) ≡ i = length-take-le i bytes (omega arith) in
    omega arith

-- one byte more
pub goes_on : (bytes units : List ℕ) (scan : Scan) (i d : ℕ) → i < length bytes
    → HasAccepted (length bytes) (take i bytes ++ slice_index_or bytes i d ∷ []) units scan → HasAccepted (length bytes) (take (i + 1) bytes) units scan
goes_on bytes units scan i d inside accepted = subst (λ bs. HasAccepted (length bytes) bs units scan) (sym (take_more bytes i d inside)) accepted

-- all of them
pub whole : (bytes spelled : List ℕ) (i : ℕ) → length bytes ≤ i → take i bytes ≡ spelled → bytes ≡ spelled
whole bytes spelled i all is = sym (take_all i bytes all) ∙ is
