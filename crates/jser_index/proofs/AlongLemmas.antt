-- From the item that a reader shows to the token that it ends.
use denote.Bor.{Bor}
use Rattle.std.proofs.Common.{◌≡◌, inl, inr, ℕ, suc, ◌+◌, ◌<◌, ◌^◌, Bool, true, false, List, [], ◌∷◌, ◌++◌, length, refl, sym, ◌∙◌, ap, subst, arith, append-nil, length-append}
use Rattle.jser_prim.specs.Bytes.{big_bytes}
use Rattle.jser_prim.specs.ModifiedUtf8.{modified_utf8}
use Rattle.jser_prim.proofs.TextLemmas.{one_text}
use Rattle.jser_grammar.specs.Parts.{IsText}
use Rattle.jser_grammar.specs.Spelling.{prims_spelling}
use Rattle.jser_reading.specs.Moments.{Moment}
use Rattle.jser_reading.specs.Labels.{StreamToken, header_token, tag_token, block_tag_token, end_tag_token, reset_tag_token, handle_token, suid_token, flags_token, field_count_token, interface_count_token, array_length_token, code_token, text_token, block_length_token, prims_token, bytes_token, Position, nowhere, header_at, top_at, annotation_at, value_at, text_place_at, class_place_at, superclass_place_at, back_handle_at, text_handle_at, class_handle_at, superclass_handle_at, string_at, class_name_at, field_name_at, interface_name_at, suid_at, field_count_at, interface_count_at, array_length_at, flags_at, type_code_at, block_length_at, raw_at, bytes_at, Label, Piece}
use Rattle.jser_reading.specs.TokenBytes.{tag_byte, bytes_of}
use Rattle.jser_reading.specs.TokensFromBytes.{number_of, head_size}
use Rattle.jser_reading.specs.Accepts.{AcceptsAt, Accepts}
use Rattle.jser_reading.specs.ComesNext.{ComesNext}
use Rattle.jser_reading.proofs.Next.{next_law}
use Rattle.jser_reading.proofs.Decoding.{number_1, number_2, number_4, number_8, length-big_bytes}
use Rattle.jser_reader.specs.declared.Item.{Item}
use Rattle.jser_reader.specs.declared.Item.TheVariants as item
use Rattle.jser_reader.specs.Items.{text_items, items_at, IsOfText, IsRawPart, IsLent}
use Rattle.jser_reader.proofs.TextTokens.{IsTextToken, text_told}
use Rattle.jser_index.specs.Along.{Ends, Between}

-- ---- a token that one item is, from its beginning

one_byte : (b : ℕ) → number_of (b ∷ []) ≡ b
one_byte b = omega arith

tag_is : (told : StreamToken) (b : ℕ) (lent : Item) → lent ≡ item.Tag (number_of (b ∷ [])) → Ends (item.Tag b) told → Ends lent told
tag_is told b lent e h = subst (λ i. Ends i told) (ap item.Tag (sym (one_byte b)) ∙ sym e) h

handle_is : (n : ℕ) (lent : Item) → 0x7E0000 + n < 2 ^ 32 → lent ≡ item.Handle (number_of (big_bytes 4 (0x7E0000 + n))) → Ends lent (handle_token n)
handle_is n lent fits e = subst (λ i. Ends i (handle_token n)) (ap item.Handle (sym (number_4 (0x7E0000 + n) fits)) ∙ sym e) refl

-- a text of no bytes
no_bytes : (long : Bool) (units : List ℕ) (lent : Item) → IsText long units → (bytes : List ℕ)
    → bytes ≡ big_bytes (head_size long) (length (modified_utf8 units)) ++ modified_utf8 units → IsOfText long [] bytes lent → Ends lent (text_token long units)
no_bytes long units (item.TextLength n) t bytes is h =
    let a = ap length is in
    let b = length-append (big_bytes (head_size long) (length (modified_utf8 units))) (modified_utf8 units) in
    let c = length-big_bytes (head_size long) (length (modified_utf8 units)) in
    let d = h.0 in
    let none : modified_utf8 units ≡ [] = empty (modified_utf8 units) (omega arith) in
    let number : number_of bytes ≡ 0 = ap number_of (is ∙ ap (λ m. big_bytes (head_size long) (length m) ++ m) none) ∙ zero_number long in
    (h.1 ∙ number, one_text units [] t.0 refl none)
  where
    empty : {A : Type 0} (xs : List A) → length xs ≡ 0 → xs ≡ []
    empty [] e = refl
    empty (x ∷ xs) e = absurd (omega arith)

    zero_number : (long : Bool) → number_of (big_bytes (head_size long) 0 ++ []) ≡ 0
    zero_number false = ap number_of (append-nil (big_bytes 2 0)) ∙ number_2 0 (omega arith)
    zero_number true = ap number_of (append-nil (big_bytes 8 0)) ∙ number_8 0 (omega arith)
no_bytes true units (item.TextPart part) t bytes is h = let a = h.0 in absurd (omega arith)
no_bytes false units (item.TextPart part) t bytes is h = let a = h.0 in absurd (omega arith)
no_bytes long units _ t bytes is h = absurd h

raw_is : (told : StreamToken) (bytes : List ℕ) (lent : Item) → ((part : Bor (List ℕ)) → part.now ≡ bytes → Ends (item.RawPart part) told)
    → IsRawPart bytes lent → Ends lent told
raw_is told bytes (item.RawPart part) f h = f part h
raw_is told bytes _ f h = absurd h

whole_token : (p : Position) (m : Moment) (told : StreamToken) (lent : Item) → AcceptsAt p m told → IsLent (items_at p) [] (bytes_of told) lent → Ends lent told
whole_token header_at m header_token lent a h = subst (λ i. Ends i header_token) (sym h.1) tt
whole_token top_at m (tag_token tag) lent a h = tag_is (tag_token tag) (tag_byte tag) lent h.1 refl
whole_token top_at m (block_tag_token false) lent a h = tag_is (block_tag_token false) 0x77 lent h.1 refl
whole_token top_at m (block_tag_token true) lent a h = tag_is (block_tag_token true) 0x7A lent h.1 refl
whole_token top_at m reset_tag_token lent a h = tag_is reset_tag_token 0x79 lent h.1 refl
whole_token annotation_at m (tag_token tag) lent a h = tag_is (tag_token tag) (tag_byte tag) lent h.1 refl
whole_token annotation_at m (block_tag_token false) lent a h = tag_is (block_tag_token false) 0x77 lent h.1 refl
whole_token annotation_at m (block_tag_token true) lent a h = tag_is (block_tag_token true) 0x7A lent h.1 refl
whole_token annotation_at m end_tag_token lent a h = tag_is end_tag_token 0x78 lent h.1 refl
whole_token value_at m (tag_token tag) lent a h = tag_is (tag_token tag) (tag_byte tag) lent h.1 refl
whole_token (class_place_at owner) m (tag_token tag) lent a h = tag_is (tag_token tag) (tag_byte tag) lent h.1 refl
whole_token (superclass_place_at owner strict) m (tag_token tag) lent a h = tag_is (tag_token tag) (tag_byte tag) lent h.1 refl
whole_token text_place_at m (tag_token tag) lent a h = tag_is (tag_token tag) (tag_byte tag) lent h.1 refl
whole_token back_handle_at m (handle_token n) lent a h = handle_is n lent a.1 h.1
whole_token text_handle_at m (handle_token n) lent a h = handle_is n lent a.1 h.1
whole_token (class_handle_at owner) m (handle_token n) lent a h = handle_is n lent a.0.1 h.1
whole_token (superclass_handle_at owner strict) m (handle_token n) lent a h = handle_is n lent a.0.1 h.1
whole_token (string_at false) m (text_token false units) lent a h = no_bytes false units lent a (bytes_of (text_token false units)) refl h
whole_token (string_at true) m (text_token true units) lent a h = no_bytes true units lent a (bytes_of (text_token true units)) refl h
whole_token (class_name_at role) m (text_token false units) lent a h = no_bytes false units lent a.0.0 (bytes_of (text_token false units)) refl h
whole_token field_name_at m (text_token false units) lent a h = no_bytes false units lent a (bytes_of (text_token false units)) refl h
whole_token interface_name_at m (text_token false units) lent a h = no_bytes false units lent a.0 (bytes_of (text_token false units)) refl h
whole_token suid_at m (suid_token n) lent a h = subst (λ i. Ends i (suid_token n)) (ap item.Suid (sym (number_8 n a)) ∙ sym h.1) refl
whole_token (flags_at role) m (flags_token n) lent a h = subst (λ i. Ends i (flags_token n)) (ap item.Flags (sym (one_byte n)) ∙ sym h.1) refl
whole_token field_count_at m (field_count_token n) lent a h =
    subst (λ i. Ends i (field_count_token n)) (ap item.FieldCount (sym (number_2 n (omega arith))) ∙ sym h.1) refl
whole_token interface_count_at m (interface_count_token n) lent a h =
    subst (λ i. Ends i (interface_count_token n)) (ap item.InterfaceCount (sym (number_4 n (omega arith))) ∙ sym h.1) refl
whole_token array_length_at m (array_length_token n) lent a h =
    subst (λ i. Ends i (array_length_token n)) (ap item.ArrayLength (sym (number_4 n (omega arith))) ∙ sym h.1) refl
whole_token (type_code_at seen) m (code_token n) lent a h = subst (λ i. Ends i (code_token n)) (ap item.TypeCode (sym (one_byte n)) ∙ sym h.1) refl
whole_token (block_length_at false) m (block_length_token false n) lent a h =
    subst (λ i. Ends i (block_length_token false n)) (ap item.BlockLength (sym (number_1 n (omega arith))) ∙ sym h.1) refl
whole_token (block_length_at true) m (block_length_token true n) lent a h =
    subst (λ i. Ends i (block_length_token true n)) (ap item.BlockLength (sym (number_4 n (omega arith))) ∙ sym h.1) refl
whole_token (raw_at c (suc n)) m (prims_token ps) lent a h = raw_is (prims_token ps) (prims_spelling ps) lent (λ part e. e) h
whole_token (bytes_at (suc n)) m (bytes_token bytes) lent a h = raw_is (bytes_token bytes) bytes lent (λ part e. e) h
whole_token _ m told lent a h = absurd a

-- ---- the bytes of a text, after its length

pub same_rest : (xs zs ys ws : List ℕ) → xs ++ ys ≡ zs ++ ws → length xs ≡ length zs → ys ≡ ws
same_rest [] [] ys ws e n = e
same_rest [] (z ∷ zs) ys ws e n = absurd (omega arith)
same_rest (x ∷ xs) [] ys ws e n = absurd (omega arith)
same_rest (x ∷ xs) (z ∷ zs) ys ws e n = same_rest xs zs ys ws (tails e) (omega arith)
  where
    tails : {x y : ℕ} {xs ys : List ℕ} → x ∷ xs ≡ y ∷ ys → xs ≡ ys
    tails e = cc

pub text_bytes : (told : StreamToken) (long : Bool) → IsTextToken long told
    → (units : List ℕ) × IsText long units × (told ≡ text_token long units)
    × (bytes_of told ≡ big_bytes (head_size long) (length (modified_utf8 units)) ++ modified_utf8 units)
text_bytes told false t = (t.0, t.1, t.2, ap bytes_of t.2)
text_bytes told true t = (t.0, t.1, t.2, ap bytes_of t.2)

text_part : (long : Bool) (cut taken : List ℕ) (lent : Item) (told : StreamToken) → IsTextToken long told → length cut ≡ head_size long → 0 < length taken
    → bytes_of told ≡ cut ++ taken → IsOfText long cut taken lent → Ends lent told
text_part long cut taken (item.TextPart part) told t size some b h =
    let x = text_bytes told long t in
    let rest : modified_utf8 x.0 ≡ taken =
    same_rest (big_bytes (head_size long) (length (modified_utf8 x.0))) cut (modified_utf8 x.0) taken (sym x.3 ∙ b)
    (length-big_bytes (head_size long) (length (modified_utf8 x.0)) ∙ sym size) in
    subst (λ f. Ends (item.TextPart part) f) (sym x.2) (x.1.0, rest ∙ sym h.1)
text_part long cut taken (item.TextLength n) told t size some b h =
    let a = h.0 in
    let c = length-append cut taken in
    absurd (omega arith)
text_part long cut taken _ told t size some b h = absurd h

-- ---- what one item does

same_label : (front : List Piece) (a b : Label) → ComesNext front a → ComesNext front b → a ≡ b
same_label front a b h i = ((next_law front a).0 h).1 ∙ sym ((next_law front b).0 i).1

pub token_ends : (front : List Piece) (cut taken : List ℕ) (lent : Item) (label : Label) (told : StreamToken) → Between front cut → ComesNext front label
    → Accepts label told → bytes_of told ≡ cut ++ taken → 0 < length taken → IsLent (items_at label.position) cut taken lent → Ends lent told
token_ends front cut taken lent label told (inl none) comes a b some h =
    whole_token label.position label.moment told lent a
    (subst (λ t. IsLent (items_at label.position) [] t lent) (sym (b ∙ ap (λ c. c ++ taken) none)) (subst (λ c. IsLent (items_at label.position) c taken lent) none h))
token_ends front cut taken lent label told (inr t) comes a b some h =
    let same : items_at label.position ≡ text_items t.long = ap (λ l. items_at l.position) (same_label front label t.label comes t.comes) ∙ t.is_text in
    text_part t.long cut taken lent told (text_told label.position label.moment told t.long a same) t.size some b
    (subst (λ i. IsLent i cut taken lent) same h)

-- the length of a text

abbrev IsNoText : Item → Type 0
IsNoText (item.TextLength n) = ⊥
IsNoText _ = Unit {0}

pub text_at : (p : Position) (cut taken : List ℕ) (n : ℕ) → IsLent (items_at p) cut taken (item.TextLength n)
    → (long : Bool) × (items_at p ≡ text_items long) × (length (cut ++ taken) ≡ head_size long)
text_at (string_at long) cut taken n h = (long, refl, h.0)
text_at (class_name_at role) cut taken n h = (false, refl, h.0)
text_at field_name_at cut taken n h = (false, refl, h.0)
text_at interface_name_at cut taken n h = (false, refl, h.0)
text_at nowhere cut taken n h = absurd h
text_at (raw_at c m) cut taken n h = absurd h
text_at (bytes_at m) cut taken n h = absurd h
text_at header_at cut taken n h = absurd (subst IsNoText (sym h.1) tt)
text_at top_at cut taken n h = absurd (subst IsNoText (sym h.1) tt)
text_at annotation_at cut taken n h = absurd (subst IsNoText (sym h.1) tt)
text_at value_at cut taken n h = absurd (subst IsNoText (sym h.1) tt)
text_at text_place_at cut taken n h = absurd (subst IsNoText (sym h.1) tt)
text_at (class_place_at owner) cut taken n h = absurd (subst IsNoText (sym h.1) tt)
text_at (superclass_place_at owner strict) cut taken n h = absurd (subst IsNoText (sym h.1) tt)
text_at back_handle_at cut taken n h = absurd (subst IsNoText (sym h.1) tt)
text_at text_handle_at cut taken n h = absurd (subst IsNoText (sym h.1) tt)
text_at (class_handle_at owner) cut taken n h = absurd (subst IsNoText (sym h.1) tt)
text_at (superclass_handle_at owner strict) cut taken n h = absurd (subst IsNoText (sym h.1) tt)
text_at suid_at cut taken n h = absurd (subst IsNoText (sym h.1) tt)
text_at field_count_at cut taken n h = absurd (subst IsNoText (sym h.1) tt)
text_at interface_count_at cut taken n h = absurd (subst IsNoText (sym h.1) tt)
text_at array_length_at cut taken n h = absurd (subst IsNoText (sym h.1) tt)
text_at (flags_at role) cut taken n h = absurd (subst IsNoText (sym h.1) tt)
text_at (type_code_at seen) cut taken n h = absurd (subst IsNoText (sym h.1) tt)
text_at (block_length_at false) cut taken n h = absurd (subst IsNoText (sym h.1) tt)
text_at (block_length_at true) cut taken n h = absurd (subst IsNoText (sym h.1) tt)
