-- Where a token may come next some token is read, and one byte more than a cut token has is no more than it needs.
use Rattle.std.proofs.Common.{◌≡◌, ℕ, zero, suc, ◌+◌, ◌<◌, ◌≤◌, Bool, true, false, List, [], ◌∷◌, ◌++◌, length, refl, sym, arith, nat_lt, take, length-append, leb-true, ltb-false, inl, inr}
use Rattle.std.proofs.lemmas.List.{take-append-le}
use Rattle.jser_reading.proofs.Vocabulary.{Moment, reference_tag, StreamToken, tag_token, Position, nowhere, header_at, top_at, annotation_at, value_at, text_place_at, class_place_at, superclass_place_at, back_handle_at, text_handle_at, class_handle_at, superclass_handle_at, string_at, class_name_at, field_name_at, interface_name_at, suid_at, field_count_at, interface_count_at, array_length_at, flags_at, type_code_at, block_length_at, raw_at, bytes_at, Label, Piece, piece, AcceptsAt, Accepts, begin_state}
use Rattle.jser_reading.specs.ComesNext.{handle_position, ComesNext}
use Rattle.jser_reading.proofs.Exact.{exact_law}
use Rattle.jser_reading.proofs.Fronts.{reads_split}
use Rattle.jser_verdict.specs.TokenLaws.{IsRead}
use Rattle.jser_reading.specs.TokensFromBytes.{number_of, head_size, text_size, size_in}

-- where a token is read

accepts_read : (w : Position) (m : Moment) (f : StreamToken) → AcceptsAt w m f → IsRead w
accepts_read nowhere m f h = absurd h
accepts_read (raw_at c zero) m f h = absurd h
accepts_read (raw_at c (suc n)) m f h = tt
accepts_read (bytes_at zero) m f h = absurd h
accepts_read (bytes_at (suc n)) m f h = tt
accepts_read header_at m f h = tt
accepts_read top_at m f h = tt
accepts_read annotation_at m f h = tt
accepts_read value_at m f h = tt
accepts_read text_place_at m f h = tt
accepts_read (class_place_at owner) m f h = tt
accepts_read (superclass_place_at owner strict) m f h = tt
accepts_read back_handle_at m f h = tt
accepts_read text_handle_at m f h = tt
accepts_read (class_handle_at owner) m f h = tt
accepts_read (superclass_handle_at owner strict) m f h = tt
accepts_read (string_at true) m f h = tt
accepts_read (string_at false) m f h = tt
accepts_read (class_name_at role) m f h = tt
accepts_read field_name_at m f h = tt
accepts_read interface_name_at m f h = tt
accepts_read suid_at m f h = tt
accepts_read field_count_at m f h = tt
accepts_read interface_count_at m f h = tt
accepts_read array_length_at m f h = tt
accepts_read (flags_at role) m f h = tt
accepts_read (type_code_at seen) m f h = tt
accepts_read (block_length_at true) m f h = tt
accepts_read (block_length_at false) m f h = tt

handle_read : (w : Position) (m : Moment) → AcceptsAt w m (tag_token reference_tag) → IsRead (handle_position w)
handle_read header_at m h = absurd h
handle_read top_at m h = tt
handle_read annotation_at m h = tt
handle_read value_at m h = tt
handle_read text_place_at m h = tt
handle_read (class_place_at owner) m h = tt
handle_read (superclass_place_at owner strict) m h = tt
handle_read back_handle_at m h = absurd h
handle_read text_handle_at m h = absurd h
handle_read (class_handle_at owner) m h = absurd h
handle_read (superclass_handle_at owner strict) m h = absurd h
handle_read (string_at true) m h = absurd h
handle_read (string_at false) m h = absurd h
handle_read (class_name_at role) m h = absurd h
handle_read field_name_at m h = absurd h
handle_read interface_name_at m h = absurd h
handle_read suid_at m h = absurd h
handle_read field_count_at m h = absurd h
handle_read interface_count_at m h = absurd h
handle_read array_length_at m h = absurd h
handle_read (flags_at role) m h = absurd h
handle_read (type_code_at seen) m h = absurd h
handle_read (block_length_at true) m h = absurd h
handle_read (block_length_at false) m h = absurd h
handle_read (raw_at c zero) m h = absurd h
handle_read (raw_at c (suc n)) m h = absurd h
handle_read (bytes_at zero) m h = absurd h
handle_read (bytes_at (suc n)) m h = absurd h
handle_read nowhere m h = absurd h

pub read_next : (front : List Piece) (l : Label) → ComesNext front l → IsRead l.position
read_next front l (inl (list, f, rest, w, e)) =
    let x = (reads_split front (piece l f ∷ rest) begin_state ((exact_law (front ++ (piece l f ∷ rest))).1 (list, w, sym e))).1 in
    let a : Accepts l f = rw x.0 x.1 in
    accepts_read l.position l.moment f a
read_next front l (inr (before, t, b, a, ef, el)) = rw el (handle_read t.position t.moment a)

-- one byte more is no more than the token needs

text_next : (long : Bool) (p : List ℕ) (b : ℕ) → length p < text_size long p → length (p ++ (b ∷ [])) ≤ text_size long (p ++ (b ∷ []))
text_next long p b h = go (nat_lt (length (p ++ (b ∷ []))) (head_size long)) (nat_lt (length p) (head_size long)) refl refl
  where
    l : length (p ++ (b ∷ [])) ≡ suc (length p)
    l = omega (arith, length-append p (b ∷ []))

    go : (x y : Bool) → nat_lt (length (p ++ (b ∷ []))) (head_size long) ≡ x → nat_lt (length p) (head_size long) ≡ y
        → length (p ++ (b ∷ [])) ≤ text_size long (p ++ (b ∷ []))
    go true y ex ey =
        let k : length (p ++ (b ∷ [])) < head_size long = leb-true (suc (length (p ++ (b ∷ [])))) (head_size long) ex in
        rw ex (omega arith)
    go false true ex ey =
        let k : length p < head_size long = leb-true (suc (length p)) (head_size long) ey in
        rw ex (omega (arith, l))
    go false false ex ey =
        let k : head_size long ≤ length p = ltb-false (length p) (head_size long) ey in
        let t : take (head_size long) (p ++ (b ∷ [])) ≡ take (head_size long) p = take-append-le (head_size long) p (b ∷ []) k in
        let h' : length p < head_size long + number_of (take (head_size long) p) = rw ey at h in
        rw (ex, t) (omega (arith, l))

pub size_next : (w : Position) (p : List ℕ) (b : ℕ) → length p < size_in w p → length (p ++ (b ∷ [])) ≤ size_in w (p ++ (b ∷ []))
size_next header_at p b h = omega (arith, length-append p (b ∷ []))
size_next top_at p b h = omega (arith, length-append p (b ∷ []))
size_next annotation_at p b h = omega (arith, length-append p (b ∷ []))
size_next value_at p b h = omega (arith, length-append p (b ∷ []))
size_next text_place_at p b h = omega (arith, length-append p (b ∷ []))
size_next (class_place_at owner) p b h = omega (arith, length-append p (b ∷ []))
size_next (superclass_place_at owner strict) p b h = omega (arith, length-append p (b ∷ []))
size_next back_handle_at p b h = omega (arith, length-append p (b ∷ []))
size_next text_handle_at p b h = omega (arith, length-append p (b ∷ []))
size_next (class_handle_at owner) p b h = omega (arith, length-append p (b ∷ []))
size_next (superclass_handle_at owner strict) p b h = omega (arith, length-append p (b ∷ []))
size_next (string_at true) p b h = text_next true p b h
size_next (string_at false) p b h = text_next false p b h
size_next (class_name_at role) p b h = text_next false p b h
size_next field_name_at p b h = text_next false p b h
size_next interface_name_at p b h = text_next false p b h
size_next suid_at p b h = omega (arith, length-append p (b ∷ []))
size_next field_count_at p b h = omega (arith, length-append p (b ∷ []))
size_next interface_count_at p b h = omega (arith, length-append p (b ∷ []))
size_next array_length_at p b h = omega (arith, length-append p (b ∷ []))
size_next (flags_at role) p b h = omega (arith, length-append p (b ∷ []))
size_next (type_code_at seen) p b h = omega (arith, length-append p (b ∷ []))
size_next (block_length_at true) p b h = omega (arith, length-append p (b ∷ []))
size_next (block_length_at false) p b h = omega (arith, length-append p (b ∷ []))
size_next (raw_at c zero) p b h = omega (arith, length-append p (b ∷ []))
size_next (raw_at c (suc n)) p b h = omega (arith, length-append p (b ∷ []))
size_next (bytes_at zero) p b h = omega (arith, length-append p (b ∷ []))
size_next (bytes_at (suc n)) p b h = omega (arith, length-append p (b ∷ []))
size_next nowhere p b h = omega (arith, length-append p (b ∷ []))
