-- The units of a text that grows.
use denote.Bor.{Bor}
use Rattle.std.specs.Prelude.{string_bytes, String, IsAscii}
use Rattle.std.specs.List.{flat_map, list_all}
use Rattle.std.specs.Char.Escape.{encode_utf16}
use Rattle.std.proofs.Common.{◌≡◌, true, ltb-true, ℕ, zero, suc, ◌+◌, ◌-◌, ◌/◌, ◌%◌, ◌^◌, ◌<◌, List, [], ◌∷◌, ◌++◌, map, codes, decimal, refl, sym, ap, ◌∙◌, arith, append_assoc, lt-ltb, slice_index, cond, nat_lt, chars}
use Rattle.std.proofs.lemmas.Str.{IsUtf8-string_bytes, chars-nil, chars-append, chars-IsAscii}
use Rattle.std.proofs.lemmas.Fmt.{IsAscii-decimal}
use Rattle.jser_prim.specs.ModifiedUtf8.{utf16_units}
use Rattle.jser_suggest.specs.Suggested.{names_text, suggested_text}
use Rattle.jser_suggest.proofs.PieceLemmas.{and_first, and_rest}

units_both : (xs ys : List ℕ) → flat_map encode_utf16 (xs ++ ys) ≡ flat_map encode_utf16 xs ++ flat_map encode_utf16 ys
units_both [] ys = refl
units_both (x ∷ xs) ys = ap (λ us. encode_utf16 x ++ us) (units_both xs ys) ∙ sym (append_assoc (encode_utf16 x) (flat_map encode_utf16 xs) (flat_map encode_utf16 ys))

pub units_append : {Y : Type 0} (text : String Y) (more : List ℕ) → utf16_units (string_bytes text ++ more) ≡ utf16_units (string_bytes text) ++ utf16_units more
units_append text more =
    ap (flat_map encode_utf16) (chars-append (string_bytes text) more (IsUtf8-string_bytes text)) ∙ units_both (chars (string_bytes text)) (chars more)

one_unit : (c : ℕ) → c < 128 → encode_utf16 c ≡ c ∷ []
one_unit c h = ap (λ t. cond t (c ∷ []) ((0xD800 + (c - 0x1_0000) / 0x400) ∷ (0xDC00 + (c - 0x1_0000) % 0x400) ∷ [])) (lt-ltb c 0x10000 (omega (arith, h)))

ascii_each : (xs : List ℕ) → IsAscii xs → flat_map encode_utf16 xs ≡ xs
ascii_each [] h = refl
ascii_each (x ∷ xs) h = ap (λ us. us ++ flat_map encode_utf16 xs) (one_unit x (h 0)) ∙ ap (λ us. x ∷ us) (ascii_each xs (λ i. h (suc i)))

pub ascii_units : (xs : List ℕ) → IsAscii xs → utf16_units xs ≡ xs
ascii_units xs h = ap (flat_map encode_utf16) (chars-IsAscii xs h) ∙ ascii_each xs h

pub decimal_units : (n : ℕ) → n < 2 ^ 64 → utf16_units (decimal n) ≡ decimal n
decimal_units n h = ascii_units (decimal n) (IsAscii-decimal n h)

-- words and a number
pub limit_pushed : {Y : Type 0} (old mid new : String Y) (words : List ℕ) (value : ℕ) → string_bytes mid ≡ string_bytes old ++ words → string_bytes new ≡ string_bytes mid ++ decimal value
    → value < 2 ^ 64 → utf16_units (string_bytes new) ≡ (utf16_units (string_bytes old) ++ utf16_units words) ++ decimal value
limit_pushed old mid new words value e f h =
    ap utf16_units f ∙ units_append mid (decimal value)
    ∙ ap (λ us. us ++ utf16_units (decimal value)) (ap utf16_units e ∙ units_append old words)
    ∙ ap (λ ds. (utf16_units (string_bytes old) ++ utf16_units words) ++ ds) (decimal_units value h)

-- a semicolon and a name, where others are to come
pub name_pushed : {Y : Type 0} (now mid new name : String Y) (words : List ℕ) (start : List ℕ) (left : List (List ℕ)) → string_bytes mid ≡ string_bytes now ++ words → utf16_units words ≡ 0x3B ∷ []
    → string_bytes new ≡ string_bytes mid ++ string_bytes name → utf16_units (string_bytes now) ++ names_text (utf16_units (string_bytes name) ∷ left) ≡ start
    → utf16_units (string_bytes new) ++ names_text left ≡ start
name_pushed now mid new name words start left e w f s =
    let units : utf16_units (string_bytes new) ≡ (utf16_units (string_bytes now) ++ 0x3B ∷ []) ++ utf16_units (string_bytes name) =
    ap utf16_units f ∙ units_append mid (string_bytes name)
    ∙ ap (λ us. us ++ utf16_units (string_bytes name)) (ap utf16_units e ∙ units_append now words ∙ ap (λ us. utf16_units (string_bytes now) ++ us) w) in
    ap (λ us. us ++ names_text left) units
    ∙ append_assoc (utf16_units (string_bytes now) ++ 0x3B ∷ []) (utf16_units (string_bytes name)) (names_text left)
    ∙ append_assoc (utf16_units (string_bytes now)) (0x3B ∷ []) (utf16_units (string_bytes name) ++ names_text left) ∙ s

-- ---- words that are ASCII

ascii_index : (xs : List ℕ) → list_all (λ b. nat_lt b 128) xs ≡ true → (i : ℕ) → slice_index xs i < 128
ascii_index [] all i = omega arith
ascii_index (x ∷ xs) all zero = ltb-true x 128 (and_first (nat_lt x 128) (list_all (λ b. nat_lt b 128) xs) all)
ascii_index (x ∷ xs) all (suc i) = ascii_index xs (and_rest (nat_lt x 128) (list_all (λ b. nat_lt b 128) xs) all) i

pub word_units : (xs : List ℕ) → list_all (λ b. nat_lt b 128) xs ≡ true → utf16_units xs ≡ xs
word_units xs all = ascii_units xs (ascii_index xs all)

limit_units : {Y : Type 0} (old new : String Y) (before words : List ℕ) (value : ℕ) → utf16_units (string_bytes old) ≡ before → utf16_units words ≡ words
    → utf16_units (string_bytes new) ≡ (utf16_units (string_bytes old) ++ utf16_units words) ++ decimal value → utf16_units (string_bytes new) ≡ (before ++ words) ++ decimal value
limit_units old new before words value e w f = f ∙ ap (λ us. us ++ decimal value) (ap (λ us. us ++ utf16_units words) e ∙ ap (λ us. before ++ us) w)

pub text_units : {Y : Type 0} (none one two three four five six : String Y) (bytes refs depth array : ℕ) (names : List (List ℕ)) → string_bytes none ≡ []
    → utf16_units (string_bytes one) ≡ (utf16_units (string_bytes none) ++ utf16_units (codes "maxbytes=")) ++ decimal bytes
    → utf16_units (string_bytes two) ≡ (utf16_units (string_bytes one) ++ utf16_units (codes ";maxrefs=")) ++ decimal refs
    → utf16_units (string_bytes three) ≡ (utf16_units (string_bytes two) ++ utf16_units (codes ";maxdepth=")) ++ decimal depth
    → utf16_units (string_bytes four) ≡ (utf16_units (string_bytes three) ++ utf16_units (codes ";maxarray=")) ++ decimal array
    → utf16_units (string_bytes five) ≡ utf16_units (string_bytes four) ++ names_text names → string_bytes six ≡ string_bytes five ++ codes ";!*"
    → utf16_units (string_bytes six) ≡ suggested_text (record { bytes = bytes; refs = refs; depth = depth; array = array; names = names })
text_units none one two three four five six bytes refs depth array names z a b c d e f =
    let start : utf16_units (string_bytes none) ≡ [] = ap utf16_units z ∙ ap (flat_map encode_utf16) chars-nil in
    let a' = limit_units none one [] (codes "maxbytes=") bytes start (word_units (codes "maxbytes=") refl) a in
    let b' = limit_units one two (codes "maxbytes=" ++ decimal bytes) (codes ";maxrefs=") refs a' (word_units (codes ";maxrefs=") refl) b in
    let c' = limit_units two three ((codes "maxbytes=" ++ decimal bytes) ++ codes ";maxrefs=" ++ decimal refs) (codes ";maxdepth=") depth b' (word_units (codes ";maxdepth=") refl) c in
    let d' =
    limit_units three four (((codes "maxbytes=" ++ decimal bytes) ++ codes ";maxrefs=" ++ decimal refs) ++ codes ";maxdepth=" ++ decimal depth) (codes ";maxarray=") array c'
    (word_units (codes ";maxarray=") refl) d in
    ap utf16_units f ∙ units_append five (codes ";!*") ∙ ap (λ us. us ++ utf16_units (codes ";!*")) (e ∙ ap (λ us. us ++ names_text names) d')
    ∙ ap (λ us. (codes "maxbytes=" ++ decimal bytes ++ codes ";maxrefs=" ++ decimal refs ++ codes ";maxdepth=" ++ decimal depth ++ codes ";maxarray=" ++ decimal array ++ names_text names) ++ us) (word_units (codes ";!*") refl)

-- the first of the names that are left is written
pub name_pushed_on : {Y : Type 0} (now mid new : String Y) (name : Bor (String Y)) (lent : Bor (List ℕ)) (words : List ℕ) (start : List ℕ) (left after : List (String Y))
    → string_bytes mid ≡ string_bytes now ++ words → utf16_units words ≡ 0x3B ∷ [] → string_bytes new ≡ string_bytes mid ++ lent.now → lent.now ≡ string_bytes name.now
    → left ≡ name.now ∷ after → utf16_units (string_bytes now) ++ names_text (map (λ text. utf16_units (string_bytes text)) left) ≡ start
    → utf16_units (string_bytes new) ++ names_text (map (λ text. utf16_units (string_bytes text)) after) ≡ start
name_pushed_on now mid new name lent words start left after e w f l first s =
    name_pushed now mid new name.now words start (map (λ text. utf16_units (string_bytes text)) after) e w (f ∙ ap (λ bs. string_bytes mid ++ bs) l)
    (ap (λ ts. utf16_units (string_bytes now) ++ names_text (map (λ text. utf16_units (string_bytes text)) ts)) (sym first) ∙ s)
