-- Bytes that are as many as the token needs, and for which no reason is told, are a token that the format takes.
use Rattle.std.proofs.Common.{◌≡◌, ℕ, zero, suc, ◌+◌, ◌-◌, ◌*◌, ◌^◌, ◌<◌, ◌≤◌, Bool, true, false, ◌&&◌, ◌||◌, not, if◌then◌else◌, List, [], ◌∷◌, ◌++◌, length, refl, sym, ◌∙◌, ap, ap₂, subst, arith, Option, Some, None, IsTrue, nat_lt, nat_le, nat_eq, take, drop, length-append, leb-true, le-leb, ltb-false, append-nil, slice_get, is_some, true≢false}
use Rattle.std.proofs.lemmas.Bool.Decides.{nat_tests}
use Rattle.jser_reading.proofs.Vocabulary.{big_bytes, modified_utf8, is_serializable, is_externalizable, has_block_data, is_enum, all_serial, TableEntry, text_entry, other_entry, pending_entry, closed_entry, is_text, is_pending, is_closed, chain_of, does_fit, NameKind, plain_name, array_name, malformed_name, name_kind, Layer, prim_code_of, is_object_code, Entries, IsText, text_bound, is_malformed, IsHandle, Owner, object_owner, array_owner, enum_owner, class_owner, ChainOwner, Role, own_class, superclass, FitsOwner, FitsRole, NameFits, FlagsFit, Moment, StreamToken, header_token, handle_token, suid_token, flags_token, field_count_token, interface_count_token, array_length_token, code_token, text_token, block_length_token, prims_token, bytes_token, Position, nowhere, header_at, top_at, annotation_at, value_at, text_place_at, class_place_at, superclass_place_at, back_handle_at, text_handle_at, class_handle_at, superclass_handle_at, string_at, class_name_at, field_name_at, interface_name_at, suid_at, field_count_at, interface_count_at, array_length_at, flags_at, type_code_at, block_length_at, raw_at, bytes_at, Label, AcceptsAt, Accepts}
use Rattle.jser_table.specs.declared.layer.Fit.{Fit}
use Rattle.jser_table.specs.declared.layer.Fit.TheVariants as fit
use Rattle.jser_grammar.specs.Spelling.{utf, long_utf}
use Rattle.jser_reading.specs.TokenBytes.{bytes_of}
use Rattle.jser_grammar.proofs.Bools.{and_left, and_right, and_both}
use Rattle.jser_verdict.specs.Reasons.{Reason, bad_header, bad_text, negative_length, bad_type_code, field_order, bad_flags, no_such_handle, wrong_kind, open_descriptor, bad_array_name, wrong_class, external_raw, not_serializable, array_exceeded, handle_space}
use Rattle.jser_verdict.specs.Gates.{Gate}
use Rattle.jser_verdict.specs.BytesSoFar.{differs}
use Rattle.jser_verdict.specs.TextsSoFar.{is_whole_text, text_units, text_bytes, text_length, has_head, has_wrong_byte, unit_start, all_stand}
use Rattle.jser_verdict.specs.HandleRows.{is_no_handle, entry_named, is_no_text, is_no_descriptor}
use Rattle.jser_verdict.specs.ClassRows.{is_wrong, is_raw, is_unserial, fit_of_owner, fit_at, is_unserial_superclass, is_wrong_name, has_wrong_flags, has_raw_flags, has_unserial_flags}
use Rattle.jser_verdict.specs.Verdicts.{told_if, on_byte, on_number, on_text, is_full, content_reason, inner_reason, class_tag_reason, other_tag_reason, text_handle_reason, class_handle_reason, superclass_handle_reason, checked_reason, class_name_reason, interface_reason, string_reason, count_reason, array_reason, flags_reason, code_reason, reason_at}
use Rattle.jser_verdict.specs.TokenLaws.{IsRead}
use Rattle.std.specs.List.{list_all}
use Rattle.std.specs.Int.{byte_at}
use Rattle.std.proofs.lemmas.Bool.{leb-false}
use Rattle.jser_reading.proofs.Vocabulary.{PrimCode, byte_code, char_code, double_code, float_code, int_code, long_code, short_code, boolean_code, size_of, ArePrimsOf, IsBytes}
use Rattle.jser_grammar.specs.Spelling.{prims_spelling}
use Rattle.jser_verdict.proofs.Fronts.{same_equal}
use Rattle.jser_verdict.proofs.Ends.{here, whole_short, units_short}
use Rattle.std.proofs.lemmas.List.{take-append-drop, length-take-le}
use Rattle.jser_verdict.proofs.Fronts.{text_front_short}
use Rattle.jser_verdict.proofs.Completes.{IsToken, passed, top_byte, annotation_byte, value_byte, text_place_byte, object_byte, class_byte, array_byte, enum_byte, superclass_byte}
use Rattle.jser_verdict.proofs.Texts.{text_back}
use Rattle.jser_reading.specs.TokensFromBytes.{number_of, head_size, text_size, size_in, prims_in}

-- ---- numbers

bytes_head : (b : ℕ) (p : List ℕ) → IsBytes (b ∷ p) → b < 256
bytes_head b p h = leb-true (suc b) 256 (and_left (nat_lt b 256) (list_all (λ b. nat_lt b 256) p) h)

bytes_tail : (b : ℕ) (p : List ℕ) → IsBytes (b ∷ p) → IsBytes p
bytes_tail b p h = and_right (nat_lt b 256) (list_all (λ b. nat_lt b 256) p) h

bytes_take : (k : ℕ) (p : List ℕ) → IsBytes p → IsBytes (take k p)
bytes_take zero p h = refl
bytes_take (suc k) [] h = refl
bytes_take (suc k) (b ∷ p) h = and_both (nat_lt b 256) (list_all (λ b. nat_lt b 256) (take k p)) (and_left (nat_lt b 256) (list_all (λ b. nat_lt b 256) p) h) (bytes_take k p (bytes_tail b p h))

bytes_drop : (k : ℕ) (p : List ℕ) → IsBytes p → IsBytes (drop k p)
bytes_drop zero p h = h
bytes_drop (suc k) [] h = refl
bytes_drop (suc k) (b ∷ p) h = bytes_drop k p (bytes_tail b p h)

abbrev Numbered : ℕ → List ℕ → Type 0
Numbered k p = (big_bytes k (number_of p) ≡ p) × (number_of p < 256 ^ k)

numbered_1 : (p : List ℕ) → length p ≡ 1 → IsBytes p → Numbered 1 p
numbered_1 [] l h = absurd (omega arith)
numbered_1 (b0 ∷ []) l h =
    let f0 : b0 < 256 = bytes_head b0 [] h in
    let n : ℕ = number_of (b0 ∷ []) in
    let e0 : byte_at 0 n ≡ b0 = omega arith in
    ((ap₂ (λ x xs. x ∷ xs) e0 refl), omega arith)
numbered_1 (b0 ∷ c ∷ p) l h = absurd (omega arith)

numbered_2 : (p : List ℕ) → length p ≡ 2 → IsBytes p → Numbered 2 p
numbered_2 [] l h = absurd (omega arith)
numbered_2 (b0 ∷ []) l h = absurd (omega arith)
numbered_2 (b0 ∷ b1 ∷ []) l h =
    let f0 : b0 < 256 = bytes_head b0 (b1 ∷ []) h in
    let h0 : IsBytes (b1 ∷ []) = bytes_tail b0 (b1 ∷ []) h in
    let f1 : b1 < 256 = bytes_head b1 [] h0 in
    let n : ℕ = number_of (b0 ∷ b1 ∷ []) in
    let e0 : byte_at 1 n ≡ b0 = omega arith in
    let e1 : byte_at 0 n ≡ b1 = omega arith in
    ((ap₂ (λ x xs. x ∷ xs) e0 (ap₂ (λ x xs. x ∷ xs) e1 refl)), omega arith)
numbered_2 (b0 ∷ b1 ∷ c ∷ p) l h = absurd (omega arith)

numbered_4 : (p : List ℕ) → length p ≡ 4 → IsBytes p → Numbered 4 p
numbered_4 [] l h = absurd (omega arith)
numbered_4 (b0 ∷ []) l h = absurd (omega arith)
numbered_4 (b0 ∷ b1 ∷ []) l h = absurd (omega arith)
numbered_4 (b0 ∷ b1 ∷ b2 ∷ []) l h = absurd (omega arith)
numbered_4 (b0 ∷ b1 ∷ b2 ∷ b3 ∷ []) l h =
    let f0 : b0 < 256 = bytes_head b0 (b1 ∷ b2 ∷ b3 ∷ []) h in
    let h0 : IsBytes (b1 ∷ b2 ∷ b3 ∷ []) = bytes_tail b0 (b1 ∷ b2 ∷ b3 ∷ []) h in
    let f1 : b1 < 256 = bytes_head b1 (b2 ∷ b3 ∷ []) h0 in
    let h1 : IsBytes (b2 ∷ b3 ∷ []) = bytes_tail b1 (b2 ∷ b3 ∷ []) h0 in
    let f2 : b2 < 256 = bytes_head b2 (b3 ∷ []) h1 in
    let h2 : IsBytes (b3 ∷ []) = bytes_tail b2 (b3 ∷ []) h1 in
    let f3 : b3 < 256 = bytes_head b3 [] h2 in
    let n : ℕ = number_of (b0 ∷ b1 ∷ b2 ∷ b3 ∷ []) in
    let e0 : byte_at 3 n ≡ b0 = omega arith in
    let e1 : byte_at 2 n ≡ b1 = omega arith in
    let e2 : byte_at 1 n ≡ b2 = omega arith in
    let e3 : byte_at 0 n ≡ b3 = omega arith in
    ((ap₂ (λ x xs. x ∷ xs) e0 (ap₂ (λ x xs. x ∷ xs) e1 (ap₂ (λ x xs. x ∷ xs) e2 (ap₂ (λ x xs. x ∷ xs) e3 refl)))), omega arith)
numbered_4 (b0 ∷ b1 ∷ b2 ∷ b3 ∷ c ∷ p) l h = absurd (omega arith)

numbered_8 : (p : List ℕ) → length p ≡ 8 → IsBytes p → Numbered 8 p
numbered_8 [] l h = absurd (omega arith)
numbered_8 (b0 ∷ []) l h = absurd (omega arith)
numbered_8 (b0 ∷ b1 ∷ []) l h = absurd (omega arith)
numbered_8 (b0 ∷ b1 ∷ b2 ∷ []) l h = absurd (omega arith)
numbered_8 (b0 ∷ b1 ∷ b2 ∷ b3 ∷ []) l h = absurd (omega arith)
numbered_8 (b0 ∷ b1 ∷ b2 ∷ b3 ∷ b4 ∷ []) l h = absurd (omega arith)
numbered_8 (b0 ∷ b1 ∷ b2 ∷ b3 ∷ b4 ∷ b5 ∷ []) l h = absurd (omega arith)
numbered_8 (b0 ∷ b1 ∷ b2 ∷ b3 ∷ b4 ∷ b5 ∷ b6 ∷ []) l h = absurd (omega arith)
numbered_8 (b0 ∷ b1 ∷ b2 ∷ b3 ∷ b4 ∷ b5 ∷ b6 ∷ b7 ∷ []) l h =
    let f0 : b0 < 256 = bytes_head b0 (b1 ∷ b2 ∷ b3 ∷ b4 ∷ b5 ∷ b6 ∷ b7 ∷ []) h in
    let h0 : IsBytes (b1 ∷ b2 ∷ b3 ∷ b4 ∷ b5 ∷ b6 ∷ b7 ∷ []) = bytes_tail b0 (b1 ∷ b2 ∷ b3 ∷ b4 ∷ b5 ∷ b6 ∷ b7 ∷ []) h in
    let f1 : b1 < 256 = bytes_head b1 (b2 ∷ b3 ∷ b4 ∷ b5 ∷ b6 ∷ b7 ∷ []) h0 in
    let h1 : IsBytes (b2 ∷ b3 ∷ b4 ∷ b5 ∷ b6 ∷ b7 ∷ []) = bytes_tail b1 (b2 ∷ b3 ∷ b4 ∷ b5 ∷ b6 ∷ b7 ∷ []) h0 in
    let f2 : b2 < 256 = bytes_head b2 (b3 ∷ b4 ∷ b5 ∷ b6 ∷ b7 ∷ []) h1 in
    let h2 : IsBytes (b3 ∷ b4 ∷ b5 ∷ b6 ∷ b7 ∷ []) = bytes_tail b2 (b3 ∷ b4 ∷ b5 ∷ b6 ∷ b7 ∷ []) h1 in
    let f3 : b3 < 256 = bytes_head b3 (b4 ∷ b5 ∷ b6 ∷ b7 ∷ []) h2 in
    let h3 : IsBytes (b4 ∷ b5 ∷ b6 ∷ b7 ∷ []) = bytes_tail b3 (b4 ∷ b5 ∷ b6 ∷ b7 ∷ []) h2 in
    let f4 : b4 < 256 = bytes_head b4 (b5 ∷ b6 ∷ b7 ∷ []) h3 in
    let h4 : IsBytes (b5 ∷ b6 ∷ b7 ∷ []) = bytes_tail b4 (b5 ∷ b6 ∷ b7 ∷ []) h3 in
    let f5 : b5 < 256 = bytes_head b5 (b6 ∷ b7 ∷ []) h4 in
    let h5 : IsBytes (b6 ∷ b7 ∷ []) = bytes_tail b5 (b6 ∷ b7 ∷ []) h4 in
    let f6 : b6 < 256 = bytes_head b6 (b7 ∷ []) h5 in
    let h6 : IsBytes (b7 ∷ []) = bytes_tail b6 (b7 ∷ []) h5 in
    let f7 : b7 < 256 = bytes_head b7 [] h6 in
    let n : ℕ = number_of (b0 ∷ b1 ∷ b2 ∷ b3 ∷ b4 ∷ b5 ∷ b6 ∷ b7 ∷ []) in
    let e0 : byte_at 7 n ≡ b0 = omega arith in
    let e1 : byte_at 6 n ≡ b1 = omega arith in
    let e2 : byte_at 5 n ≡ b2 = omega arith in
    let e3 : byte_at 4 n ≡ b3 = omega arith in
    let e4 : byte_at 3 n ≡ b4 = omega arith in
    let e5 : byte_at 2 n ≡ b5 = omega arith in
    let e6 : byte_at 1 n ≡ b6 = omega arith in
    let e7 : byte_at 0 n ≡ b7 = omega arith in
    ((ap₂ (λ x xs. x ∷ xs) e0 (ap₂ (λ x xs. x ∷ xs) e1 (ap₂ (λ x xs. x ∷ xs) e2 (ap₂ (λ x xs. x ∷ xs) e3 (ap₂ (λ x xs. x ∷ xs) e4 (ap₂ (λ x xs. x ∷ xs) e5 (ap₂ (λ x xs. x ∷ xs) e6 (ap₂ (λ x xs. x ∷ xs) e7 refl)))))))), omega arith)
numbered_8 (b0 ∷ b1 ∷ b2 ∷ b3 ∷ b4 ∷ b5 ∷ b6 ∷ b7 ∷ c ∷ p) l h = absurd (omega arith)

numbered_prim : (c : PrimCode) (p : List ℕ) → length p ≡ size_of c → IsBytes p → Numbered (size_of c) p
numbered_prim byte_code p l h = numbered_1 p l h
numbered_prim char_code p l h = numbered_2 p l h
numbered_prim double_code p l h = numbered_8 p l h
numbered_prim float_code p l h = numbered_4 p l h
numbered_prim int_code p l h = numbered_4 p l h
numbered_prim long_code p l h = numbered_8 p l h
numbered_prim short_code p l h = numbered_2 p l h
numbered_prim boolean_code p l h = numbered_1 p l h

prims_of : (c : PrimCode) (n : ℕ) (p : List ℕ) → length p ≡ n * size_of c → IsBytes p
    → (prims_spelling (prims_in c n p) ≡ p) × ArePrimsOf c (prims_in c n p) × (length (prims_in c n p) ≡ n)
unfolding prims_in
prims_of c zero [] l h = (refl, tt, refl)
prims_of c zero (b ∷ p) l h = absurd (omega arith)
prims_of c (suc n) p l h =
    let s : ℕ = size_of c in
    let le : size_of c ≤ length p = omega arith in
    let lt : length (take (size_of c) p) ≡ size_of c = length-take-le (size_of c) p le in
    let split : take (size_of c) p ++ drop (size_of c) p ≡ p = take-append-drop (size_of c) p in
    let ld : length (drop (size_of c) p) ≡ n * size_of c =
    omega (arith, ap length split, length-append (take (size_of c) p) (drop (size_of c) p)) in
    let x = numbered_prim c (take (size_of c) p) lt (bytes_take (size_of c) p h) in
    let y = prims_of c n (drop (size_of c) p) ld (bytes_drop (size_of c) p h) in (
      ap₂ (λ a b. a ++ b) x.0 y.0 ∙ split,
      ((refl, x.1), y.1),
      ap (λ k. suc k) y.2,
    )

-- ---- texts

no_longer : (x y : Bool) → x ≡ true → (x && not y) ≡ false → y ≡ true
no_longer true true e h = refl
no_longer true false e h = absurd (true≢false h)
no_longer false y e h = absurd (true≢false (sym e))

not_negative : (x : Bool) (a b : ℕ) → x ≡ true → (x && nat_le a b) ≡ false → b < a
not_negative true a b e h = leb-false a b h
not_negative false a b e h = absurd (true≢false (sym e))

-- the parts of a text that is as long as it says
abbrev Parts : Bool → List ℕ → Type 0
Parts long p =
    (length p ≡ head_size long + text_length long p) × (has_head long p ≡ true)
    × (big_bytes (head_size long) (text_length long p) ≡ take (head_size long) p) × (text_length long p < 256 ^ head_size long)

numbered_head : (long : Bool) (p : List ℕ) → length p ≡ head_size long → IsBytes p → Numbered (head_size long) p
numbered_head true p l h = numbered_8 p l h
numbered_head false p l h = numbered_2 p l h

parts_of : (long : Bool) (p : List ℕ) → IsBytes p → length p ≡ text_size long p → Parts long p
parts_of long p h l = go (nat_lt (length p) (head_size long)) refl
  where
    go : (x : Bool) → nat_lt (length p) (head_size long) ≡ x → Parts long p
    go true e =
        let a : length p < head_size long = leb-true (suc (length p)) (head_size long) e in
        let b : length p ≡ head_size long = rw e at l in
        absurd (omega arith)
    go false e =
        let le : head_size long ≤ length p = ltb-false (length p) (head_size long) e in
        let b : length p ≡ head_size long + text_length long p = rw e at l in
        let x = numbered_head long (take (head_size long) p) (length-take-le (head_size long) p le) (bytes_take (head_size long) p h) in
        (b, le-leb (head_size long) (length p) le, x.0, x.1)

text_of : (long : Bool) (p : List ℕ) → IsBytes p → length p ≡ text_size long p → has_wrong_byte long p ≡ false
    → (text_length long p < text_bound long) → (u : List ℕ) × IsText long u × (p ≡ big_bytes (head_size long) (length (modified_utf8 u)) ++ modified_utf8 u)
text_of long p h l w n =
    let x = parts_of long p h l in
    let st : all_stand (text_length long p) unit_start (text_bytes long p) ≡ true =
    no_longer (has_head long p) (all_stand (text_length long p) unit_start (text_bytes long p)) x.1 w in
    let split : take (head_size long) p ++ drop (head_size long) p ≡ p = take-append-drop (head_size long) p in
    let le : head_size long ≤ length p = leb-true (head_size long) (length p) x.1 in
    let lb : length (drop (head_size long) p) ≡ text_length long p =
    omega (arith, ap length split, length-append (take (head_size long) p) (drop (head_size long) p), length-take-le (head_size long) p le, x.0) in
    let y = text_back (drop (head_size long) p) (rw lb st) in
    let lu : length (modified_utf8 y.0) ≡ text_length long p = ap length y.2 ∙ lb in
    (y.0, (y.1, rw lu n), sym split ∙ ap₂ (λ a b. a ++ b) (sym x.2 ∙ ap (λ k. big_bytes (head_size long) k) (sym lu)) (sym y.2))

short_text : (p : List ℕ) → IsBytes p → length p ≡ text_size false p → has_wrong_byte false p ≡ false → (u : List ℕ) × IsText false u × (p ≡ utf u)
short_text p h l w = text_of false p h l w (parts_of false p h l).3

long_text : (p : List ℕ) → IsBytes p → length p ≡ text_size true p → string_reason true p ≡ None → (u : List ℕ) × IsText true u × (p ≡ long_utf u)
long_text p h l e =
    let a = passed (has_wrong_byte true p) bad_text (told_if (has_head true p && nat_le (2 ^ 63) (text_length true p)) negative_length None) e in
    let b = passed (has_head true p && nat_le (2 ^ 63) (text_length true p)) negative_length None a.1 in
    text_of true p h l a.0 (not_negative (has_head true p) (2 ^ 63) (text_length true p) (parts_of true p h l).1 b.0)

text_told : (u : List ℕ) (tell : List ℕ → Option Reason) → IsText false u → on_text (utf u) tell ≡ tell u
text_told u tell h = rw ((text_front_short u (utf u) [] h (sym (append-nil (utf u)))).0, whole_short u h, units_short u h) refl

-- a text in which no reason is told, and what is told of its units
named_text : (p : List ℕ) (tell : List ℕ → Option Reason) → IsBytes p → length p ≡ text_size false p → on_text p tell ≡ None
    → (u : List ℕ) × IsText false u × (p ≡ utf u) × (tell u ≡ None)
named_text p tell h l e =
    let a = passed (has_wrong_byte false p) bad_text (if is_whole_text false p then tell (text_units false p) else None) e in
    let x = short_text p h l a.0 in
    (x.0, x.1, x.2, sym (text_told x.0 tell x.1) ∙ ap (λ q. on_text q tell) (sym x.2) ∙ e)

name_fits : (role : Role) (kind : NameKind) → is_malformed kind ≡ false → is_wrong_name role kind ≡ false → NameFits role kind
name_fits (own_class (Some object_owner)) plain_name k h = tt
name_fits (own_class (Some object_owner)) (array_name elements) k h = absurd (true≢false h)
name_fits (own_class (Some object_owner)) malformed_name k h = absurd (true≢false k)
name_fits (own_class (Some array_owner)) plain_name k h = absurd (true≢false h)
name_fits (own_class (Some array_owner)) (array_name elements) k h = tt
name_fits (own_class (Some array_owner)) malformed_name k h = absurd (true≢false k)
name_fits (own_class (Some enum_owner)) kind k h = tt
name_fits (own_class (Some class_owner)) kind k h = tt
name_fits (own_class None) kind k h = tt
name_fits (superclass owner strict) kind k h = tt

-- ---- handles

entry_of : (T : Entries) (n : ℕ) → is_no_handle T n ≡ false → (0x7E0000 ≤ n) × (n < 0x7E0000 + length T)
entry_of T n h =
    (ltb-false n 0x7E0000 (or_left (nat_lt n 0x7E0000) (nat_le (0x7E0000 + length T) n) h), leb-false (0x7E0000 + length T) n (or_right (nat_lt n 0x7E0000) (nat_le (0x7E0000 + length T) n) h))
  where
    or_left : (a b : Bool) → (a || b) ≡ false → a ≡ false
    or_left false b h = refl
    or_left true b h = absurd (true≢false h)

    or_right : (a b : Bool) → (a || b) ≡ false → b ≡ false
    or_right false b h = h
    or_right true b h = absurd (true≢false h)

found : (T : Entries) (n : ℕ) → n < length T → slice_get T n ≡ None → ⊥
found [] n h e = omega arith
found (t ∷ T) zero h e = absurd (cc)
found (t ∷ T) (suc n) h e = found T n (omega arith) e

handle_of : (p : List ℕ) (T : Entries) → length p ≡ 4 → IsBytes p → is_no_handle T (number_of p) ≡ false
    → (n : ℕ) × (entry_named T (number_of p) ≡ slice_get T n) × (p ≡ bytes_of (handle_token n)) × (n < length T) × IsHandle n
handle_of p T l h k =
    let x = numbered_4 p l h in
    let y = entry_of T (number_of p) k in
    let lo = y.0 in
    let hi = y.1 in
    let top = x.1 in
    let e : 0x7E0000 + (number_of p - 0x7E0000) ≡ number_of p = omega arith in
    let named : entry_named T (number_of p) ≡ slice_get T (number_of p - 0x7E0000) = rw (le-leb 0x7E0000 (number_of p) lo) refl in
    (number_of p - 0x7E0000, named, sym x.0 ∙ ap (λ z. big_bytes 4 z) (sym e), omega arith, omega arith)

number_told : (k : ℕ) (p : List ℕ) (tell : ℕ → Option Reason) → length p ≡ k → on_number k p tell ≡ None → tell (number_of p) ≡ None
number_told k p tell l h = rw (same_equal (length p) k l) at h

text_entry_of : (entry : Option TableEntry) → (entry ≡ None → ⊥) → is_no_text entry ≡ false → IsTrue (is_text entry)
text_entry_of None f h = absurd (f refl)
text_entry_of (Some text_entry) f h = refl
text_entry_of (Some other_entry) f h = absurd (true≢false h)
text_entry_of (Some pending_entry) f h = absurd (true≢false h)
text_entry_of (Some (closed_entry chain)) f h = absurd (true≢false h)

class_entry_of : (entry : Option TableEntry) → (entry ≡ None → ⊥) → is_no_descriptor entry ≡ false → is_pending entry ≡ false
    → IsTrue (is_closed entry)
class_entry_of None f h k = absurd (f refl)
class_entry_of (Some text_entry) f h k = absurd (true≢false h)
class_entry_of (Some other_entry) f h k = absurd (true≢false h)
class_entry_of (Some pending_entry) f h k = absurd (true≢false k)
class_entry_of (Some (closed_entry chain)) f h k = refl

all_fits : (x : Fit) → is_wrong x ≡ false → is_raw x ≡ false → is_unserial x ≡ false → does_fit x ≡ true
all_fits fit.Fits a b c = refl
all_fits fit.WrongClass a b c = absurd (true≢false a)
all_fits fit.ExternalRaw a b c = absurd (true≢false b)
all_fits fit.NotSerializable a b c = absurd (true≢false c)

owner_fits : (owner : Owner) (chain : List Layer) → does_fit (fit_of_owner owner chain) ≡ true → FitsOwner owner chain
owner_fits object_owner chain h = h
owner_fits array_owner chain h = h
owner_fits enum_owner chain h = h
owner_fits class_owner chain h = tt

with_true : (x y : Bool) → x ≡ true → (x && y) ≡ false → y ≡ false
with_true true y e h = h
with_true false y e h = absurd (true≢false (sym e))

-- of an entry with the handle in these bytes
there : (T : Entries) (n : ℕ) (entry : Option TableEntry) → entry ≡ slice_get T n → n < length T → entry ≡ None → ⊥
there T n entry e h z = found T n h (sym e ∙ z)

text_handle_of : (l : Label) (p : List ℕ) → length p ≡ 4 → IsBytes p → text_handle_reason l (number_of p) ≡ None
    → IsToken text_handle_at l.moment p
text_handle_of l p k h e =
    let T : Entries = l.moment.table in
    let entry : Option TableEntry = entry_named T (number_of p) in
    let a = passed (is_no_handle T (number_of p)) no_such_handle (told_if (is_no_text entry) wrong_kind None) e in
    let b = passed (is_no_text entry) wrong_kind None a.1 in
    let x = handle_of p T k h a.0 in
    let t : IsTrue (is_text entry) = text_entry_of entry (there T x.0 entry x.1 x.3) b.0 in
    (handle_token x.0, x.2, (subst (λ o. IsTrue (is_text o)) x.1 t, x.4))

class_handle_of : (g : Gate) (l : Label) (owner : Owner) (p : List ℕ) → length p ≡ 4 → IsBytes p
    → class_handle_reason g l owner (number_of p) ≡ None → IsToken (class_handle_at owner) l.moment p
class_handle_of g l owner p k h e =
    let T : Entries = l.moment.table in
    let entry : Option TableEntry = entry_named T (number_of p) in
    let o7 = told_if (is_full g l) handle_space None in
    let o6 = told_if (fit_at owner entry is_unserial) not_serializable o7 in
    let o5 = told_if (fit_at owner entry is_raw) external_raw o6 in
    let o4 = told_if (fit_at owner entry is_wrong) wrong_class o5 in
    let o3 = told_if (is_pending entry) open_descriptor o4 in
    let o2 = told_if (is_no_descriptor entry) wrong_kind o3 in
    let a = passed (is_no_handle T (number_of p)) no_such_handle o2 e in
    let b = passed (is_no_descriptor entry) wrong_kind o3 a.1 in
    let c = passed (is_pending entry) open_descriptor o4 b.1 in
    let d = passed (fit_at owner entry is_wrong) wrong_class o5 c.1 in
    let f = passed (fit_at owner entry is_raw) external_raw o6 d.1 in
    let u = passed (fit_at owner entry is_unserial) not_serializable o7 f.1 in
    let x = handle_of p T k h a.0 in
    let cl : IsTrue (is_closed entry) = class_entry_of entry (there T x.0 entry x.1 x.3) b.0 c.0 in
    let q = fit_of_owner owner (chain_of entry) in
    let ft = all_fits q (with_true (is_closed entry) (is_wrong q) cl d.0) (with_true (is_closed entry) (is_raw q) cl f.0)
    (with_true (is_closed entry) (is_unserial q) cl u.0) in
    let fits : IsTrue (is_closed (slice_get T x.0)) × FitsOwner owner (chain_of (slice_get T x.0)) =
    subst (λ o. IsTrue (is_closed o) × FitsOwner owner (chain_of o)) x.1 (cl, owner_fits owner (chain_of entry) ft) in
    (handle_token x.0, x.2, ((fits.0, x.4), fits.1))

superclass_handle_of : (g : Gate) (l : Label) (owner : ChainOwner) (strict : Bool) (p : List ℕ) → length p ≡ 4 → IsBytes p
    → superclass_handle_reason g l owner strict (number_of p) ≡ None → IsToken (superclass_handle_at owner strict) l.moment p
superclass_handle_of g l owner strict p k h e =
    let T : Entries = l.moment.table in
    let entry : Option TableEntry = entry_named T (number_of p) in
    let o5 = told_if (is_some owner && is_full g l) handle_space None in
    let o4 = told_if (is_unserial_superclass strict entry) not_serializable o5 in
    let o3 = told_if (is_pending entry) open_descriptor o4 in
    let o2 = told_if (is_no_descriptor entry) wrong_kind o3 in
    let a = passed (is_no_handle T (number_of p)) no_such_handle o2 e in
    let b = passed (is_no_descriptor entry) wrong_kind o3 a.1 in
    let c = passed (is_pending entry) open_descriptor o4 b.1 in
    let d = passed (is_unserial_superclass strict entry) not_serializable o5 c.1 in
    let x = handle_of p T k h a.0 in
    let cl : IsTrue (is_closed entry) = class_entry_of entry (there T x.0 entry x.1 x.3) b.0 c.0 in
    let fits : IsTrue (is_closed (slice_get T x.0)) × FitsRole (superclass owner strict) (chain_of (slice_get T x.0)) =
    subst (λ o. IsTrue (is_closed o) × FitsRole (superclass owner strict) (chain_of o)) x.1 (cl, serial strict entry d.0 cl) in
    (handle_token x.0, x.2, ((fits.0, x.4), fits.1))
  where
    serial : (strict : Bool) (entry : Option TableEntry) → is_unserial_superclass strict entry ≡ false → IsTrue (is_closed entry)
        → FitsRole (superclass owner strict) (chain_of entry)
    serial false entry u cl = tt
    serial true entry u cl = no_longer (is_closed entry) (all_serial (chain_of entry)) cl u

-- ---- flags, type codes

not_true : (b : Bool) → not b ≡ false → b ≡ true
not_true true h = refl
not_true false h = absurd (true≢false h)

either_false : (a b : Bool) → (a || b) ≡ false → (a ≡ false) × (b ≡ false)
either_false false b h = (refl, h)
either_false true b h = absurd (true≢false h)

flags_fit : (role : Role) (n : ℕ) → has_wrong_flags role n ≡ false → has_raw_flags role n ≡ false → has_unserial_flags role n ≡ false
    → FlagsFit role n
flags_fit (own_class None) n a b c = tt
flags_fit (own_class (Some object_owner)) n a b c = go (is_externalizable n) b c
  where
    go : (x : Bool) → (x && not (has_block_data n)) ≡ false → (not x && not (is_serializable n)) ≡ false
        → IsTrue (if x then has_block_data n else is_serializable n)
    go true b c = not_true (has_block_data n) b
    go false b c = not_true (is_serializable n) c
flags_fit (own_class (Some array_owner)) n a b c = tt
flags_fit (own_class (Some enum_owner)) n a b c = not_true (is_enum n) a
flags_fit (own_class (Some class_owner)) n a b c = tt
flags_fit (superclass owner false) n a b c = tt
flags_fit (superclass owner true) n a b c = not_true (is_serializable n) c

flags_of : (m : Moment) (role : Role) (n : ℕ) → flags_reason role n ≡ None → IsToken (flags_at role) m (n ∷ [])
flags_of m role n e =
    let o4 = told_if (has_unserial_flags role n) not_serializable None in
    let o3 = told_if (has_raw_flags role n) external_raw o4 in
    let o2 = told_if (has_wrong_flags role n) wrong_class o3 in
    let a = passed (nat_le 32 n || (is_serializable n && is_externalizable n)) bad_flags o2 e in
    let b = passed (has_wrong_flags role n) wrong_class o3 a.1 in
    let c = passed (has_raw_flags role n) external_raw o4 b.1 in
    let d = passed (has_unserial_flags role n) not_serializable None c.1 in
    let f = either_false (nat_le 32 n) (is_serializable n && is_externalizable n) a.0 in
    (flags_token n, refl, ((leb-false 32 n f.0, f.1), flags_fit role n b.0 c.0 d.0))

code_of : (m : Moment) (seen : Bool) (n : ℕ) → code_reason seen n ≡ None → IsToken (type_code_at seen) m (n ∷ [])
code_of m seen n e =
    let a = passed (not (is_some (prim_code_of n) || is_object_code n)) bad_type_code (told_if (seen && is_some (prim_code_of n)) field_order None) e in
    let b = passed (seen && is_some (prim_code_of n)) field_order None a.1 in
    (code_token n, refl, follows (is_object_code n) (is_some (prim_code_of n)) seen a.0 b.0)
  where
    follows : (x y seen : Bool) → not (y || x) ≡ false → (seen && y) ≡ false → IsTrue (if x then true else (y && not seen))
    follows true y seen h k = refl
    follows false true false h k = refl
    follows false true true h k = absurd (true≢false k)
    follows false false seen h k = absurd (true≢false h)

-- ---- the header

no_difference : (x b : ℕ) (xs p : List ℕ) → differs (x ∷ xs) (b ∷ p) ≡ false → (b ≡ x) × (differs xs p ≡ false)
no_difference x b xs p h =
    let e = either_false (not (nat_eq b x)) (differs xs p) h in (is_equal b x (not_true (nat_eq b x) e.0), e.1)
  where
    is_equal : (a b : ℕ) → nat_eq a b ≡ true → a ≡ b
    is_equal a b h = grind (arith, nat_tests)

same_bytes : (xs p : List ℕ) → length p ≡ length xs → differs xs p ≡ false → p ≡ xs
same_bytes [] [] l h = refl
same_bytes [] (b ∷ p) l h = absurd (omega arith)
same_bytes (x ∷ xs) [] l h = absurd (omega arith)
same_bytes (x ∷ xs) (b ∷ p) l h =
    let e = no_difference x b xs p h in ap₂ (λ y ys. y ∷ ys) e.0 (same_bytes xs p (omega arith) e.1)

-- ---- all

one_byte : (p : List ℕ) (tell : ℕ → Option Reason) (P : List ℕ → Type 0) → length p ≡ 1 → on_byte p tell ≡ None
    → ((b : ℕ) → tell b ≡ None → P (b ∷ [])) → P p
one_byte [] tell P l h f = absurd (omega arith)
one_byte (b ∷ []) tell P l h f = f b h
one_byte (b ∷ c ∷ p) tell P l h f = absurd (omega arith)

number_token : (k : ℕ) (w : Position) (m : Moment) (make : ℕ → StreamToken) (p : List ℕ) → Numbered k p
    → bytes_of (make (number_of p)) ≡ big_bytes k (number_of p) → AcceptsAt w m (make (number_of p)) → IsToken w m p
number_token k w m make p x e a = (make (number_of p), sym x.0 ∙ sym e, a)

counted : (bound : ℕ) (n : ℕ) (o : Option Reason) → told_if (nat_le bound n) negative_length o ≡ None → n < bound
counted bound n o e = leb-false bound n (passed (nat_le bound n) negative_length o e).0

complete : (g : Gate) (w : Position) (d : ℕ) (m : Moment) (p : List ℕ) → IsRead w → IsBytes p → length p ≡ size_in w p
    → reason_at g (here w d m) w p ≡ None → IsToken w m p
complete g nowhere d m p r h l e = absurd r
complete g header_at d m p r h l e =
    (header_token, same_bytes (0xAC ∷ 0xED ∷ 0x00 ∷ 0x05 ∷ []) p l (passed (differs (0xAC ∷ 0xED ∷ 0x00 ∷ 0x05 ∷ []) p) bad_header None e).0, tt)
complete g top_at d m p r h l e = one_byte p (content_reason g (here top_at d m)) (IsToken top_at m) l e (top_byte g d m)
complete g annotation_at d m p r h l e = one_byte p (inner_reason g (here annotation_at d m)) (IsToken annotation_at m) l e (annotation_byte g d m)
complete g value_at d m p r h l e = one_byte p (inner_reason g (here value_at d m)) (IsToken value_at m) l e (value_byte g d m)
complete g text_place_at d m p r h l e = one_byte p (other_tag_reason g (here text_place_at d m)) (IsToken text_place_at m) l e (text_place_byte g d m)
complete g (class_place_at object_owner) d m p r h l e =
    one_byte p (class_tag_reason g (here (class_place_at object_owner) d m) object_owner) (IsToken (class_place_at object_owner) m) l e (object_byte g d m)
complete g (class_place_at array_owner) d m p r h l e =
    one_byte p (class_tag_reason g (here (class_place_at array_owner) d m) array_owner) (IsToken (class_place_at array_owner) m) l e (array_byte g d m)
complete g (class_place_at enum_owner) d m p r h l e =
    one_byte p (class_tag_reason g (here (class_place_at enum_owner) d m) enum_owner) (IsToken (class_place_at enum_owner) m) l e (enum_byte g d m)
complete g (class_place_at class_owner) d m p r h l e =
    one_byte p (class_tag_reason g (here (class_place_at class_owner) d m) class_owner) (IsToken (class_place_at class_owner) m) l e (class_byte g d m)
complete g (superclass_place_at owner strict) d m p r h l e =
    one_byte p (other_tag_reason g (here (superclass_place_at owner strict) d m)) (IsToken (superclass_place_at owner strict) m) l e
    (superclass_byte g d m owner strict)
complete g back_handle_at d m p r h l e =
    let a = passed (is_no_handle m.table (number_of p)) no_such_handle None (number_told 4 p (λ n. told_if (is_no_handle m.table n) no_such_handle None) l e) in
    let x = handle_of p m.table l h a.0 in
    (handle_token x.0, x.2, (x.3, x.4))
complete g text_handle_at d m p r h l e =
    text_handle_of (here text_handle_at d m) p l h (number_told 4 p (text_handle_reason (here text_handle_at d m)) l e)
complete g (class_handle_at owner) d m p r h l e =
    class_handle_of g (here (class_handle_at owner) d m) owner p l h (number_told 4 p (class_handle_reason g (here (class_handle_at owner) d m) owner) l e)
complete g (superclass_handle_at owner strict) d m p r h l e =
    superclass_handle_of g (here (superclass_handle_at owner strict) d m) owner strict p l h
    (number_told 4 p (superclass_handle_reason g (here (superclass_handle_at owner strict) d m) owner strict) l e)
complete g (string_at true) d m p r h l e = let x = long_text p h l e in (text_token true x.0, x.2, x.1)
complete g (string_at false) d m p r h l e =
    let x = short_text p h l (passed (has_wrong_byte false p) bad_text None e).0 in (text_token false x.0, x.2, x.1)
complete g (class_name_at role) d m p r h l e =
    let x = named_text p (class_name_reason g role) h l e in
    let a = passed (is_malformed (name_kind x.0)) bad_array_name (told_if (is_wrong_name role (name_kind x.0)) wrong_class (checked_reason g x.0)) x.3 in
    let b = passed (is_wrong_name role (name_kind x.0)) wrong_class (checked_reason g x.0) a.1 in
    (text_token false x.0, x.2, ((x.1, a.0), name_fits role (name_kind x.0) a.0 b.0))
complete g field_name_at d m p r h l e =
    let x = named_text p (λ name. None) h l e in (text_token false x.0, x.2, x.1)
complete g interface_name_at d m p r h l e =
    let x = named_text p (interface_reason g) h l e in
    let a = passed (is_malformed (name_kind x.0)) bad_array_name (checked_reason g x.0) x.3 in
    (text_token false x.0, x.2, (x.1, a.0))
complete g suid_at d m p r h l e = let x = numbered_8 p l h in number_token 8 suid_at m suid_token p x refl (omega (arith, x.1))
complete g field_count_at d m p r h l e =
    number_token 2 field_count_at m field_count_token p (numbered_2 p l h) refl
    (counted (2 ^ 15) (number_of p) None (number_told 2 p (count_reason (2 ^ 15)) l e))
complete g interface_count_at d m p r h l e =
    number_token 4 interface_count_at m interface_count_token p (numbered_4 p l h) refl
    (counted (2 ^ 31) (number_of p) None (number_told 4 p (count_reason (2 ^ 31)) l e))
complete g array_length_at d m p r h l e =
    number_token 4 array_length_at m array_length_token p (numbered_4 p l h) refl
    (counted (2 ^ 31) (number_of p) (told_if (nat_lt g.array (number_of p)) array_exceeded None) (number_told 4 p (array_reason g) l e))
complete g (flags_at role) d m p r h l e = one_byte p (flags_reason role) (IsToken (flags_at role) m) l e (flags_of m role)
complete g (type_code_at seen) d m p r h l e = one_byte p (code_reason seen) (IsToken (type_code_at seen) m) l e (code_of m seen)
complete g (block_length_at true) d m p r h l e =
    number_token 4 (block_length_at true) m (block_length_token true) p (numbered_4 p l h) refl
    (counted (2 ^ 31) (number_of p) None (number_told 4 p (count_reason (2 ^ 31)) l e))
complete g (block_length_at false) d m p r h l e =
    let x = numbered_1 p l h in number_token 1 (block_length_at false) m (block_length_token false) p x refl (omega (arith, x.1))
complete g (raw_at c zero) d m p r h l e = absurd r
complete g (raw_at c (suc n)) d m p r h l e =
    let x = prims_of c (suc n) p l h in (prims_token (prims_in c (suc n) p), sym x.0, (x.2, x.1))
complete g (bytes_at zero) d m p r h l e = absurd r
complete g (bytes_at (suc n)) d m p r h l e = (bytes_token p, refl, (h, l))

pub complete_at : (g : Gate) (l : Label) (p : List ℕ) → IsRead l.position → IsBytes p → length p ≡ size_in l.position p
    → reason_at g l l.position p ≡ None → (f : StreamToken) × (p ≡ bytes_of f) × Accepts l f
complete_at g l p r h k e = complete g l.position l.depth l.moment p r h k e
