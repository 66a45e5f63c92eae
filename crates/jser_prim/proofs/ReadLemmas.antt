-- The units of a text, collected byte by byte.
use Rattle.std.proofs.Common.{◌≡◌, ◌↔◌, ◌∙◌, refl, sym, subst, ap, ◌<◌, ◌≤◌, ◌+◌, ℕ, List, [], ◌∷◌, ◌++◌, length, take, drop, slice_index_or, Option, Some, None, Result, Err, IsOk, arith, true≢false}
use Rattle.std.specs.Option.{option_to_list}
use Rattle.std.proofs.lemmas.List.{take_more, length-take-le, take_all, append-nil, take-append-drop}
use Rattle.jser_prim.specs.Texts.{Scan, HasAccepted, BeginsText}
use Rattle.jser_prim.specs.ModifiedUtf8.{modified_utf8, IsUnits}
use Rattle.jser_prim.proofs.ScanLemmas.{accepts_text}
use Rattle.jser_prim.proofs.TextLemmas.{begins_front}

-- no unit was ended
pub told_none : (len : ℕ) (bytes units : List ℕ) (unit : Option ℕ) (scan : Scan) → unit ≡ None
    → HasAccepted len bytes (units ++ option_to_list unit) scan → HasAccepted len bytes units scan
told_none len bytes units unit scan is accepted =
    subst (λ us. HasAccepted len bytes us scan) (ap (λ u. units ++ option_to_list u) is ∙ append-nil units) accepted

-- this one was, and was added
pub told_some : (len : ℕ) (bytes units new : List ℕ) (unit : Option ℕ) (u : ℕ) (scan : Scan) → unit ≡ Some u → new ≡ units ++ u ∷ []
    → HasAccepted len bytes (units ++ option_to_list unit) scan → HasAccepted len bytes new scan
told_some len bytes units new unit u scan is added accepted =
    subst (λ us. HasAccepted len bytes us scan) (ap (λ x. units ++ option_to_list x) is ∙ sym added) accepted

-- a scan that refuses
pub refuses : {X E : Type 0} → (r : Result X E) (e : E) (B : Type 0) → r ≡ Err e → (IsOk r ↔ B) → B → ⊥
refuses {X} {E} r e B is same b =
    let wrong : IsOk {T = X} {E = E} (Err e) = subst (λ (x : Result X E). IsOk x) is (same.1 b) in
    absurd (true≢false (sym wrong))

-- so far no byte and no unit
pub none_read : (len : ℕ) (bytes units : List ℕ) (scan : Scan) → units ≡ [] → HasAccepted len [] [] scan → HasAccepted len (take 0 bytes) units scan
none_read len bytes units scan none accepted = subst (λ us. HasAccepted len [] us scan) (sym none) accepted

-- before the last byte there is room for one
pub has_room : (bytes units : List ℕ) (scan : Scan) (i : ℕ) → i < length bytes → HasAccepted (length bytes) (take i bytes) units scan → 0 < scan.left
has_room bytes units scan i inside accepted =
    let counted = accepted.counted in
    let taken : length (take i bytes) ≡ i = length-take-le i bytes (omega arith) in
    omega arith

-- one byte more
pub one_more_read : (bytes units : List ℕ) (scan : Scan) (i d : ℕ) → i < length bytes
    → HasAccepted (length bytes) (take i bytes ++ slice_index_or bytes i d ∷ []) units scan → HasAccepted (length bytes) (take (i + 1) bytes) units scan
one_more_read bytes units scan i d inside accepted = subst (λ bs. HasAccepted (length bytes) bs units scan) (sym (take_more bytes i d inside)) accepted

-- all of them
pub all_read : (bytes units : List ℕ) (scan : Scan) (i : ℕ) → length bytes ≤ i → HasAccepted (length bytes) (take i bytes) units scan
    → modified_utf8 units ≡ bytes
all_read bytes units scan i all accepted =
    let whole = take_all i bytes all in
    sym (accepts_text (length bytes) bytes units scan (subst (λ bs. HasAccepted (length bytes) bs units scan) whole accepted) refl)

-- where no text goes on with a byte, all the bytes are none
pub no_text : (bytes : List ℕ) (i d : ℕ) → i < length bytes → (BeginsText (length bytes) (take i bytes ++ slice_index_or bytes i d ∷ []) → ⊥)
    → (told : List ℕ) → IsUnits told → modified_utf8 told ≡ bytes → ⊥
no_text bytes i d inside n told u e =
    n (subst (λ bs. BeginsText (length bytes) bs) (take_more bytes i d inside)
    (begins_front (length bytes) (take (i + 1) bytes) (drop (i + 1) bytes)
    (record { units = told; rest = []; are_units = u; spelled = e ∙ sym (take-append-drop (i + 1) bytes) ∙ sym (append-nil (take (i + 1) bytes ++ drop (i + 1) bytes)); has_length = ap length e })))
