-- Where a token is a text.
use Rattle.std.proofs.Common.{◌≡◌, ℕ, Bool, true, false, List, sym, ap, subst}
use Rattle.jser_grammar.specs.Parts.{IsText}
use Rattle.jser_reading.specs.Moments.{Moment}
use Rattle.jser_reading.specs.Labels.{StreamToken, text_token, Position, nowhere, header_at, top_at, annotation_at, value_at, text_place_at, class_place_at, superclass_place_at, back_handle_at, text_handle_at, class_handle_at, superclass_handle_at, string_at, class_name_at, field_name_at, interface_name_at, suid_at, field_count_at, interface_count_at, array_length_at, flags_at, type_code_at, block_length_at, raw_at, bytes_at}
use Rattle.jser_reading.specs.Accepts.{AcceptsAt}
use Rattle.jser_reader.specs.Items.{Items, text_items, items_at}

-- the token is a text of this form, which obeys the format
abbrev pub IsTextToken : Bool → StreamToken → Type 0
IsTextToken long told = (units : List ℕ) × IsText long units × (told ≡ text_token long units)

abbrev IsTexts : Items → Type 0
IsTexts (text_items long) = Unit {0}
IsTexts _ = ⊥

abbrev long_in : Items → Bool
long_in (text_items long) = long
long_in _ = false

text_of : (at long : Bool) (units : List ℕ) → text_items at ≡ text_items long → IsText at units → IsTextToken long (text_token at units)
text_of at long units e t =
    let same = ap long_in e in
    (units, subst (λ l. IsText l units) same t, ap (λ l. text_token l units) same)

pub text_told : (p : Position) (m : Moment) (told : StreamToken) (long : Bool) → AcceptsAt p m told → items_at p ≡ text_items long → IsTextToken long told
text_told (string_at false) m (text_token false units) long a e = text_of false long units e a
text_told (string_at true) m (text_token true units) long a e = text_of true long units e a
text_told (class_name_at role) m (text_token false units) long a e = text_of false long units e a.0.0
text_told field_name_at m (text_token false units) long a e = text_of false long units e a
text_told interface_name_at m (text_token false units) long a e = text_of false long units e a.0
text_told nowhere m told long a e = absurd (subst IsTexts (sym e) tt)
text_told header_at m told long a e = absurd (subst IsTexts (sym e) tt)
text_told top_at m told long a e = absurd (subst IsTexts (sym e) tt)
text_told annotation_at m told long a e = absurd (subst IsTexts (sym e) tt)
text_told value_at m told long a e = absurd (subst IsTexts (sym e) tt)
text_told text_place_at m told long a e = absurd (subst IsTexts (sym e) tt)
text_told (class_place_at owner) m told long a e = absurd (subst IsTexts (sym e) tt)
text_told (superclass_place_at owner strict) m told long a e = absurd (subst IsTexts (sym e) tt)
text_told back_handle_at m told long a e = absurd (subst IsTexts (sym e) tt)
text_told text_handle_at m told long a e = absurd (subst IsTexts (sym e) tt)
text_told (class_handle_at owner) m told long a e = absurd (subst IsTexts (sym e) tt)
text_told (superclass_handle_at owner strict) m told long a e = absurd (subst IsTexts (sym e) tt)
text_told suid_at m told long a e = absurd (subst IsTexts (sym e) tt)
text_told field_count_at m told long a e = absurd (subst IsTexts (sym e) tt)
text_told interface_count_at m told long a e = absurd (subst IsTexts (sym e) tt)
text_told array_length_at m told long a e = absurd (subst IsTexts (sym e) tt)
text_told (flags_at role) m told long a e = absurd (subst IsTexts (sym e) tt)
text_told (type_code_at seen) m told long a e = absurd (subst IsTexts (sym e) tt)
text_told (block_length_at false) m told long a e = absurd (subst IsTexts (sym e) tt)
text_told (block_length_at true) m told long a e = absurd (subst IsTexts (sym e) tt)
text_told (raw_at c n) m told long a e = absurd (subst IsTexts (sym e) tt)
text_told (bytes_at n) m told long a e = absurd (subst IsTexts (sym e) tt)
text_told _ m told long a e = absurd a
