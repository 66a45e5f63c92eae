-- The line before the bytes of a record.
use Rattle.std.proofs.Common.{◌≡◌, ◌⊎◌, ℕ, ◌+◌, ◌-◌, ◌*◌, ◌^◌, ◌≤◌, ◌<◌, Bool, true, false, if◌then◌else◌, List, [], ◌∷◌, ◌++◌, All, length, take, drop, get_or, refl, sym, ap, subst, ◌∙◌, arith, append_assoc}
use Rattle.std.proofs.lemmas.List.{append_cancel_right, drop_more, take-append-le}
use Rattle.std.proofs.lemmas.Grind.{pow_more}
use Rattle.std.proofs.Math.Nat.{pow-le-pow_right}
use Rattle.jser_records.specs.declared.header.Header.{Header}
use Rattle.jser_records.specs.declared.header.Header.TheVariants as header
use Rattle.jser_records.specs.Headers.{EndsIn, EndsKey, IsDigit, IsHead, IsHeader, NullKey, SaysHeader, SaysNone, is_error, is_reply, number_from}
use Rattle.jser_records.specs.LineEnds.{has_line_end}

-- ---- -1

pub null_key : (front digits before : List ℕ) (key : ℕ) → front ≡ before ++ (0x2D ∷ []) → digits ≡ 0x31 ∷ [] → key ≤ length before → EndsKey before (take key before) → NullKey front digits key
null_key front digits before key minus one within is = record { before = before; minus = minus; one = one; within = within; key_is = is }

pub no_null_key : (front before other key : List ℕ) → front ≡ before ++ (0x2D ∷ []) → ((key : List ℕ) → EndsKey before key → ⊥) → front ≡ other ++ (0x2D ∷ []) → EndsKey other key → ⊥
no_null_key front before other key minus none same is =
    none key (subst (λ xs. EndsKey xs key) (append_cancel_right other before (0x2D ∷ []) (sym same ∙ minus)) is)

take_front : (line front digits : List ℕ) (key : ℕ) → line ≡ front ++ digits → key ≤ length front → take key line ≡ take key front
take_front line front digits key split within = ap (λ xs. take key xs) split ∙ take-append-le key front digits within

pub says_null : (line front digits : List ℕ) (key : ℕ) → EndsIn line front digits → NullKey front digits key → SaysHeader line (header.Null key)
says_null line front digits key ends n =
    let split : line ≡ n.before ++ (0x2D ∷ 0x31 ∷ []) =
    ends.split ∙ ap (λ xs. front ++ xs) n.one ∙ ap (λ xs. xs ++ (0x31 ∷ [])) n.minus ∙ append_assoc n.before (0x2D ∷ []) (0x31 ∷ []) in
    record { front = n.before; split = split; key_is = subst (λ xs. EndsKey n.before xs) (sym (take_front line n.before (0x2D ∷ 0x31 ∷ []) key split n.within)) n.key_is }

-- ---- no length

none_if : (b : Bool) (line : List ℕ) → is_reply line ≡ b → SaysNone line → SaysHeader line (if b then header.Other else header.NoLength)
none_if true line is none = (none, is)
none_if false line is none = (none, is)

pub says_none : (line front digits : List ℕ) (result : Header) → result ≡ (if is_reply line then header.Other else header.NoLength) → EndsIn line front digits
    → (length digits ≡ 0) ⊎ ((18 < length digits) ⊎ ((key : List ℕ) → EndsKey front key → ⊥))
    → ((before key : List ℕ) → front ≡ before ++ (0x2D ∷ []) → digits ≡ 0x31 ∷ [] → EndsKey before key → ⊥) → SaysHeader line result
says_none line front digits result is ends no_length no_null =
    subst (λ h. SaysHeader line h) (sym is) (none_if (is_reply line) line refl (record { front = front; digits = digits; ends = ends; no_length = no_length; no_null = no_null }))

-- ---- the number

-- as many digits as are read fit
pub small_enough : (i n d : ℕ) → i < 18 → n < 10 ^ i → d ≤ 9 → (n * 10 + d < 10 ^ (i + 1)) × (n * 10 + d < 2 ^ 64)
small_enough i n d less small one =
    let low : i ≤ 17 = omega (arith, less) in
    let most : 10 ^ i ≤ 10 ^ 17 = pow-le-pow_right (omega arith) low in
    let more : 10 ^ (i + 1) ≡ 10 ^ i * 10 = pow_more 10 i in
    (omega (arith, small, more, one), omega (arith, small, most, one))

pub number_step : (digits : List ℕ) (i n m : ℕ) → i < length digits → m ≡ n * 10 + (get_or digits i 0 - 0x30) → number_from m (drop (i + 1) digits) ≡ number_from n (drop i digits)
number_step digits i n m inside is = ap (λ k. number_from k (drop (i + 1) digits)) is ∙ sym (ap (λ xs. number_from n xs) (drop_more digits i 0 inside))

pub digit_value : (digits : List ℕ) (i : ℕ) → All IsDigit digits → i < length digits → get_or digits i 0 - 0x30 ≤ 9
digit_value digits i all inside = let d = all i 0 inside in let low = d.0 in let high = d.1 in omega (arith, low, high)

-- ---- what a line is besides

-- it is no error, and no reader of lines may end one in it
pub is_header : (line : List ℕ) (result : Header) → has_line_end line ≡ false → is_error line ≡ false → SaysHeader line result → IsHeader line result
is_header line header.Other whole no_error says = (record { whole = whole; no_error = no_error }, says)
is_header line header.LineEnd whole no_error says = absurd says
is_header line header.Error whole no_error says = absurd says
is_header line (header.Bytes key count) whole no_error says = (record { whole = whole; no_error = no_error }, says)
is_header line (header.Null key) whole no_error says = (record { whole = whole; no_error = no_error }, says)
is_header line header.NoLength whole no_error says = (record { whole = whole; no_error = no_error }, says)
