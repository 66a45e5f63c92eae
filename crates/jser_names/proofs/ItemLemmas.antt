-- One item further along a stream in pieces, with the names collected.
use Rattle.std.proofs.Common.{◌≡◌, ℕ, zero, suc, ◌-◌, ◌<◌, max, Bool, true, false, List, [], ◌∷◌, ◌++◌, length, refl, sym, ◌∙◌, ap, subst, arith}
use Rattle.jser_prim.specs.Bytes.{big_bytes}
use Rattle.jser_prim.specs.ModifiedUtf8.{modified_utf8}
use Rattle.jser_reading.specs.Moments.{Moment}
use Rattle.jser_reading.specs.Labels.{Tag, null_tag, reference_tag, class_desc_tag, object_tag, string_tag, array_tag, class_tag, long_string_tag, proxy_desc_tag, enum_tag, StreamToken, header_token, tag_token, block_tag_token, end_tag_token, reset_tag_token, handle_token, suid_token, flags_token, field_count_token, interface_count_token, array_length_token, code_token, text_token, block_length_token, prims_token, bytes_token, Position, nowhere, header_at, top_at, annotation_at, value_at, text_place_at, class_place_at, superclass_place_at, back_handle_at, text_handle_at, class_handle_at, superclass_handle_at, string_at, class_name_at, field_name_at, interface_name_at, suid_at, field_count_at, interface_count_at, array_length_at, flags_at, type_code_at, block_length_at, raw_at, bytes_at, Label, Piece, piece}
use Rattle.jser_reading.specs.TokenBytes.{tag_byte, bytes_of}
use Rattle.jser_reading.specs.TokensFromBytes.{number_of, head_size}
use Rattle.jser_reading.specs.Accepts.{AcceptsAt}
use Rattle.jser_reading.specs.ComesNext.{ComesNext}
use Rattle.jser_reading.proofs.Next.{next_law}
use Rattle.jser_reading.proofs.Decoding.{number_4, length-big_bytes}
use Rattle.jser_reader.specs.declared.Item.{Item}
use Rattle.jser_reader.specs.declared.Item.TheVariants as item
use Rattle.jser_reader.specs.Items.{text_items, items_at, IsOfText, IsRawPart, IsLent}
use Rattle.jser_shown.specs.Counting.{tally_one}
use Rattle.jser_names.specs.Collecting.{Collected, collect, collect_text, collected, measure, measured}
use Rattle.jser_names.specs.Standing.{left_behind, longest_behind}

-- ---- tokens, and what is collected along them

pub collected_one : (x : Collected) (front : List Piece) (label : Label) (told : StreamToken) → collected x (front ++ (piece label told ∷ [])) ≡ collect told (collected x front)
collected_one x [] label told = refl
collected_one x (piece l f ∷ front) label told = collected_one (collect f x) front label told

pub measured_one : (n : ℕ) (front : List Piece) (label : Label) (told : StreamToken) → measured n (front ++ (piece label told ∷ [])) ≡ measure told (measured n front)
measured_one n [] label told = refl
measured_one n (piece l f ∷ front) label told = measured_one (measure f n) front label told

pub same_label : (front : List Piece) (a b : Label) → ComesNext front a → ComesNext front b → a ≡ b
same_label front a b h i = ((next_law front a).0 h).1 ∙ sym ((next_law front b).0 i).1

pub text_none : (units : List ℕ) (x : Collected) → x.left ≡ 0 → collect_text units x.left x ≡ x
text_none units x none = ap (λ n. collect_text units n x) none

pub less_one : (units : List ℕ) (x : Collected) (n : ℕ) → 0 < n → collect_text units n x ≡ record { names = tally_one units x.names; left = n - 1 }
less_one units x zero some = absurd (omega arith)
less_one units x (suc n) some =
    let same : n ≡ suc n - 1 = omega arith in ap (λ k. record { names = tally_one units x.names; left = k }) same

-- ---- which items a token has

same_rest : (xs zs ys ws : List ℕ) → xs ++ ys ≡ zs ++ ws → length xs ≡ length zs → ys ≡ ws
same_rest [] [] ys ws e n = e
same_rest [] (z ∷ zs) ys ws e n = absurd (omega arith)
same_rest (x ∷ xs) [] ys ws e n = absurd (omega arith)
same_rest (x ∷ xs) (z ∷ zs) ys ws e n = same_rest xs zs ys ws (tails e) (omega arith)
  where
    tails : {x y : ℕ} {xs ys : List ℕ} → x ∷ xs ≡ y ∷ ys → xs ≡ ys
    tails e = cc

text_bytes : (long : Bool) (units : List ℕ) → bytes_of (text_token long units) ≡ big_bytes (head_size long) (length (modified_utf8 units)) ++ modified_utf8 units
text_bytes false units = refl
text_bytes true units = refl

-- the bytes of a text behind its head
pub behind_head : (long : Bool) (units head text : List ℕ) (told : StreamToken) → told ≡ text_token long units → length head ≡ head_size long
    → bytes_of told ≡ head ++ text → modified_utf8 units ≡ text
behind_head long units head text told is size spelled =
    same_rest (big_bytes (head_size long) (length (modified_utf8 units))) head (modified_utf8 units) text
    (sym (ap bytes_of is ∙ text_bytes long units) ∙ spelled) (length-big_bytes (head_size long) (length (modified_utf8 units)) ∙ sym size)

-- an item of a text
abbrev pub IsTextItem : Item → Type 0
IsTextItem (item.TextLength n) = Unit {0}
IsTextItem (item.TextPart part) = Unit {0}
IsTextItem _ = ⊥

raw_no_text : (taken : List ℕ) (lent : Item) → IsTextItem lent → IsRawPart taken lent → ⊥
raw_no_text taken (item.TextLength n) t h = h
raw_no_text taken (item.TextPart part) t h = h
raw_no_text taken _ t h = t

pub text_at : (p : Position) (cut taken : List ℕ) (lent : Item) → IsTextItem lent → IsLent (items_at p) cut taken lent
    → (long : Bool) × (items_at p ≡ text_items long)
text_at (string_at long) cut taken lent t h = (long, refl)
text_at (class_name_at role) cut taken lent t h = (false, refl)
text_at field_name_at cut taken lent t h = (false, refl)
text_at interface_name_at cut taken lent t h = (false, refl)
text_at nowhere cut taken lent t h = absurd h
text_at (raw_at c m) cut taken lent t h = absurd (raw_no_text taken lent t h)
text_at (bytes_at m) cut taken lent t h = absurd (raw_no_text taken lent t h)
text_at header_at cut taken lent t h = absurd (subst IsTextItem h.1 t)
text_at top_at cut taken lent t h = absurd (subst IsTextItem h.1 t)
text_at annotation_at cut taken lent t h = absurd (subst IsTextItem h.1 t)
text_at value_at cut taken lent t h = absurd (subst IsTextItem h.1 t)
text_at text_place_at cut taken lent t h = absurd (subst IsTextItem h.1 t)
text_at (class_place_at owner) cut taken lent t h = absurd (subst IsTextItem h.1 t)
text_at (superclass_place_at owner strict) cut taken lent t h = absurd (subst IsTextItem h.1 t)
text_at back_handle_at cut taken lent t h = absurd (subst IsTextItem h.1 t)
text_at text_handle_at cut taken lent t h = absurd (subst IsTextItem h.1 t)
text_at (class_handle_at owner) cut taken lent t h = absurd (subst IsTextItem h.1 t)
text_at (superclass_handle_at owner strict) cut taken lent t h = absurd (subst IsTextItem h.1 t)
text_at suid_at cut taken lent t h = absurd (subst IsTextItem h.1 t)
text_at field_count_at cut taken lent t h = absurd (subst IsTextItem h.1 t)
text_at interface_count_at cut taken lent t h = absurd (subst IsTextItem h.1 t)
text_at array_length_at cut taken lent t h = absurd (subst IsTextItem h.1 t)
text_at (flags_at role) cut taken lent t h = absurd (subst IsTextItem h.1 t)
text_at (type_code_at seen) cut taken lent t h = absurd (subst IsTextItem h.1 t)
text_at (block_length_at false) cut taken lent t h = absurd (subst IsTextItem h.1 t)
text_at (block_length_at true) cut taken lent t h = absurd (subst IsTextItem h.1 t)

-- ---- what an item does to what is collected, where it ends a token

one_byte : (b : ℕ) → number_of (b ∷ []) ≡ b
one_byte b = omega arith

-- of a tag
tagged : (told : StreamToken) (b left : ℕ) (lent : Item) (x : Collected) → lent ≡ item.Tag (number_of (b ∷ [])) → collect told x ≡ record x { left = left }
    → left_behind (item.Tag b) x.left ≡ left → collect told x ≡ record x { left = left_behind lent x.left }
tagged told b left lent x e c l =
    c ∙ ap (λ n. record x { left = n }) (sym l ∙ ap (λ n. left_behind (item.Tag n) x.left) (sym (one_byte b)) ∙ ap (λ i. left_behind i x.left) (sym e))

-- of a token with no names in it, whose item is this one
plainly : (told : StreamToken) (lent other : Item) (x : Collected) → lent ≡ other → collect told x ≡ x → left_behind other x.left ≡ x.left
    → collect told x ≡ record x { left = left_behind lent x.left }
plainly told lent other x e c l = c ∙ ap (λ n. record x { left = n }) (sym l ∙ ap (λ i. left_behind i x.left) (sym e))

of_tag : (tag : Tag) (lent : Item) (x : Collected) → lent ≡ item.Tag (number_of (tag_byte tag ∷ [])) → collect (tag_token tag) x ≡ record x { left = left_behind lent x.left }
of_tag null_tag lent x e = tagged (tag_token null_tag) 0x70 0 lent x e refl refl
of_tag reference_tag lent x e = tagged (tag_token reference_tag) 0x71 0 lent x e refl refl
of_tag class_desc_tag lent x e = tagged (tag_token class_desc_tag) 0x72 1 lent x e refl refl
of_tag object_tag lent x e = tagged (tag_token object_tag) 0x73 0 lent x e refl refl
of_tag string_tag lent x e = tagged (tag_token string_tag) 0x74 0 lent x e refl refl
of_tag array_tag lent x e = tagged (tag_token array_tag) 0x75 0 lent x e refl refl
of_tag class_tag lent x e = tagged (tag_token class_tag) 0x76 0 lent x e refl refl
of_tag long_string_tag lent x e = tagged (tag_token long_string_tag) 0x7C 0 lent x e refl refl
of_tag proxy_desc_tag lent x e = tagged (tag_token proxy_desc_tag) 0x7D 0 lent x e refl refl
of_tag enum_tag lent x e = tagged (tag_token enum_tag) 0x7E 0 lent x e refl refl

of_block_tag : (long : Bool) (lent : Item) (x : Collected) → lent ≡ item.Tag (number_of (bytes_of (block_tag_token long)))
    → collect (block_tag_token long) x ≡ record x { left = left_behind lent x.left }
of_block_tag false lent x e = tagged (block_tag_token false) 0x77 0 lent x e refl refl
of_block_tag true lent x e = tagged (block_tag_token true) 0x7A 0 lent x e refl refl

raw_left : (taken : List ℕ) (lent : Item) (x : Collected) → IsRawPart taken lent → x ≡ record x { left = left_behind lent x.left }
raw_left taken (item.RawPart part) x h = refl
raw_left taken _ x h = absurd h

no_text_item : (long : Bool) (cut taken : List ℕ) (lent : Item) → (IsTextItem lent → ⊥) → IsOfText long cut taken lent → ⊥
no_text_item long cut taken (item.TextLength n) plain h = plain tt
no_text_item long cut taken (item.TextPart part) plain h = plain tt
no_text_item long cut taken _ plain h = h

-- the item is lent of all bytes of a token
pub ends_plain : (p : Position) (m : Moment) (told : StreamToken) (cut taken : List ℕ) (lent : Item) (x : Collected) → AcceptsAt p m told → (IsTextItem lent → ⊥)
    → bytes_of told ≡ cut ++ taken → IsLent (items_at p) cut taken lent → collect told x ≡ record x { left = left_behind lent x.left }
ends_plain header_at m header_token cut taken lent x a plain b h = plainly header_token lent item.Header x h.1 refl refl
ends_plain top_at m (tag_token tag) cut taken lent x a plain b h = of_tag tag lent x (h.1 ∙ ap (λ bs. item.Tag (number_of bs)) (sym b))
ends_plain top_at m (block_tag_token long) cut taken lent x a plain b h = of_block_tag long lent x (h.1 ∙ ap (λ bs. item.Tag (number_of bs)) (sym b))
ends_plain top_at m reset_tag_token cut taken lent x a plain b h =
    tagged reset_tag_token 0x79 0 lent x (h.1 ∙ ap (λ bs. item.Tag (number_of bs)) (sym b)) refl refl
ends_plain annotation_at m (tag_token tag) cut taken lent x a plain b h = of_tag tag lent x (h.1 ∙ ap (λ bs. item.Tag (number_of bs)) (sym b))
ends_plain annotation_at m (block_tag_token long) cut taken lent x a plain b h = of_block_tag long lent x (h.1 ∙ ap (λ bs. item.Tag (number_of bs)) (sym b))
ends_plain annotation_at m end_tag_token cut taken lent x a plain b h =
    tagged end_tag_token 0x78 0 lent x (h.1 ∙ ap (λ bs. item.Tag (number_of bs)) (sym b)) refl refl
ends_plain value_at m (tag_token tag) cut taken lent x a plain b h = of_tag tag lent x (h.1 ∙ ap (λ bs. item.Tag (number_of bs)) (sym b))
ends_plain text_place_at m (tag_token tag) cut taken lent x a plain b h = of_tag tag lent x (h.1 ∙ ap (λ bs. item.Tag (number_of bs)) (sym b))
ends_plain (class_place_at owner) m (tag_token tag) cut taken lent x a plain b h = of_tag tag lent x (h.1 ∙ ap (λ bs. item.Tag (number_of bs)) (sym b))
ends_plain (superclass_place_at owner strict) m (tag_token tag) cut taken lent x a plain b h =
    of_tag tag lent x (h.1 ∙ ap (λ bs. item.Tag (number_of bs)) (sym b))
ends_plain back_handle_at m (handle_token n) cut taken lent x a plain b h = plainly (handle_token n) lent (item.Handle (number_of (cut ++ taken))) x h.1 refl refl
ends_plain text_handle_at m (handle_token n) cut taken lent x a plain b h = plainly (handle_token n) lent (item.Handle (number_of (cut ++ taken))) x h.1 refl refl
ends_plain (class_handle_at owner) m (handle_token n) cut taken lent x a plain b h =
    plainly (handle_token n) lent (item.Handle (number_of (cut ++ taken))) x h.1 refl refl
ends_plain (superclass_handle_at owner strict) m (handle_token n) cut taken lent x a plain b h =
    plainly (handle_token n) lent (item.Handle (number_of (cut ++ taken))) x h.1 refl refl
ends_plain suid_at m (suid_token n) cut taken lent x a plain b h = plainly (suid_token n) lent (item.Suid (number_of (cut ++ taken))) x h.1 refl refl
ends_plain (flags_at role) m (flags_token n) cut taken lent x a plain b h = plainly (flags_token n) lent (item.Flags (number_of (cut ++ taken))) x h.1 refl refl
ends_plain field_count_at m (field_count_token n) cut taken lent x a plain b h =
    plainly (field_count_token n) lent (item.FieldCount (number_of (cut ++ taken))) x h.1 refl refl
ends_plain interface_count_at m (interface_count_token n) cut taken lent x a plain b h =
    let count : number_of (cut ++ taken) ≡ n = ap number_of (sym b) ∙ number_4 n (omega arith) in
    ap (λ k. record x { left = k }) (sym (ap (λ i. left_behind i x.left) (h.1 ∙ ap item.InterfaceCount count)))
ends_plain array_length_at m (array_length_token n) cut taken lent x a plain b h =
    plainly (array_length_token n) lent (item.ArrayLength (number_of (cut ++ taken))) x h.1 refl refl
ends_plain (type_code_at seen) m (code_token n) cut taken lent x a plain b h = plainly (code_token n) lent (item.TypeCode (number_of (cut ++ taken))) x h.1 refl refl
ends_plain (block_length_at false) m (block_length_token false n) cut taken lent x a plain b h =
    plainly (block_length_token false n) lent (item.BlockLength (number_of (cut ++ taken))) x h.1 refl refl
ends_plain (block_length_at true) m (block_length_token true n) cut taken lent x a plain b h =
    plainly (block_length_token true n) lent (item.BlockLength (number_of (cut ++ taken))) x h.1 refl refl
ends_plain (raw_at c (suc n)) m (prims_token ps) cut taken lent x a plain b h = raw_left taken lent x h
ends_plain (bytes_at (suc n)) m (bytes_token bytes) cut taken lent x a plain b h = raw_left taken lent x h
ends_plain (string_at long) m told cut taken lent x a plain b h = absurd (no_text_item long cut taken lent plain h)
ends_plain (class_name_at role) m told cut taken lent x a plain b h = absurd (no_text_item false cut taken lent plain h)
ends_plain field_name_at m told cut taken lent x a plain b h = absurd (no_text_item false cut taken lent plain h)
ends_plain interface_name_at m told cut taken lent x a plain b h = absurd (no_text_item false cut taken lent plain h)
ends_plain _ m told cut taken lent x a plain b h = absurd a

-- ---- what it does to the longest array

no_length : (told : StreamToken) (lent other : Item) (n : ℕ) → lent ≡ other → measure told n ≡ n → longest_behind other n ≡ n → measure told n ≡ longest_behind lent n
no_length told lent other n e m l = m ∙ sym l ∙ ap (λ i. longest_behind i n) (sym e)

raw_length : (taken : List ℕ) (lent : Item) (n : ℕ) → IsRawPart taken lent → n ≡ longest_behind lent n
raw_length taken (item.RawPart part) n h = refl
raw_length taken _ n h = absurd h

-- the item is lent of all bytes of a token
pub ends_measured : (p : Position) (m : Moment) (told : StreamToken) (cut taken : List ℕ) (lent : Item) (n : ℕ) → AcceptsAt p m told → (IsTextItem lent → ⊥)
    → bytes_of told ≡ cut ++ taken → IsLent (items_at p) cut taken lent → measure told n ≡ longest_behind lent n
ends_measured header_at m header_token cut taken lent n a plain b h = no_length header_token lent item.Header n h.1 refl refl
ends_measured top_at m (tag_token tag) cut taken lent n a plain b h = no_length (tag_token tag) lent (item.Tag (number_of (cut ++ taken))) n h.1 refl refl
ends_measured top_at m (block_tag_token long) cut taken lent n a plain b h = no_length (block_tag_token long) lent (item.Tag (number_of (cut ++ taken))) n h.1 refl refl
ends_measured top_at m reset_tag_token cut taken lent n a plain b h = no_length reset_tag_token lent (item.Tag (number_of (cut ++ taken))) n h.1 refl refl
ends_measured annotation_at m (tag_token tag) cut taken lent n a plain b h = no_length (tag_token tag) lent (item.Tag (number_of (cut ++ taken))) n h.1 refl refl
ends_measured annotation_at m (block_tag_token long) cut taken lent n a plain b h = no_length (block_tag_token long) lent (item.Tag (number_of (cut ++ taken))) n h.1 refl refl
ends_measured annotation_at m end_tag_token cut taken lent n a plain b h = no_length end_tag_token lent (item.Tag (number_of (cut ++ taken))) n h.1 refl refl
ends_measured value_at m (tag_token tag) cut taken lent n a plain b h = no_length (tag_token tag) lent (item.Tag (number_of (cut ++ taken))) n h.1 refl refl
ends_measured text_place_at m (tag_token tag) cut taken lent n a plain b h = no_length (tag_token tag) lent (item.Tag (number_of (cut ++ taken))) n h.1 refl refl
ends_measured (class_place_at owner) m (tag_token tag) cut taken lent n a plain b h = no_length (tag_token tag) lent (item.Tag (number_of (cut ++ taken))) n h.1 refl refl
ends_measured (superclass_place_at owner strict) m (tag_token tag) cut taken lent n a plain b h = no_length (tag_token tag) lent (item.Tag (number_of (cut ++ taken))) n h.1 refl refl
ends_measured back_handle_at m (handle_token j) cut taken lent n a plain b h = no_length (handle_token j) lent (item.Handle (number_of (cut ++ taken))) n h.1 refl refl
ends_measured text_handle_at m (handle_token j) cut taken lent n a plain b h = no_length (handle_token j) lent (item.Handle (number_of (cut ++ taken))) n h.1 refl refl
ends_measured (class_handle_at owner) m (handle_token j) cut taken lent n a plain b h = no_length (handle_token j) lent (item.Handle (number_of (cut ++ taken))) n h.1 refl refl
ends_measured (superclass_handle_at owner strict) m (handle_token j) cut taken lent n a plain b h = no_length (handle_token j) lent (item.Handle (number_of (cut ++ taken))) n h.1 refl refl
ends_measured suid_at m (suid_token j) cut taken lent n a plain b h = no_length (suid_token j) lent (item.Suid (number_of (cut ++ taken))) n h.1 refl refl
ends_measured (flags_at role) m (flags_token j) cut taken lent n a plain b h = no_length (flags_token j) lent (item.Flags (number_of (cut ++ taken))) n h.1 refl refl
ends_measured field_count_at m (field_count_token j) cut taken lent n a plain b h = no_length (field_count_token j) lent (item.FieldCount (number_of (cut ++ taken))) n h.1 refl refl
ends_measured interface_count_at m (interface_count_token j) cut taken lent n a plain b h = no_length (interface_count_token j) lent (item.InterfaceCount (number_of (cut ++ taken))) n h.1 refl refl
ends_measured array_length_at m (array_length_token j) cut taken lent n a plain b h = let count : number_of (cut ++ taken) ≡ j = ap number_of (sym b) ∙ number_4 j (omega arith) in ap (max n) (sym count) ∙ ap (λ i. longest_behind i n) (sym h.1)
ends_measured (type_code_at seen) m (code_token j) cut taken lent n a plain b h = no_length (code_token j) lent (item.TypeCode (number_of (cut ++ taken))) n h.1 refl refl
ends_measured (block_length_at false) m (block_length_token false j) cut taken lent n a plain b h = no_length (block_length_token false j) lent (item.BlockLength (number_of (cut ++ taken))) n h.1 refl refl
ends_measured (block_length_at true) m (block_length_token true j) cut taken lent n a plain b h = no_length (block_length_token true j) lent (item.BlockLength (number_of (cut ++ taken))) n h.1 refl refl
ends_measured (raw_at c (suc k)) m (prims_token ps) cut taken lent n a plain b h = raw_length taken lent n h
ends_measured (bytes_at (suc k)) m (bytes_token bytes) cut taken lent n a plain b h = raw_length taken lent n h
ends_measured (string_at long) m told cut taken lent n a plain b h = absurd (no_text_item long cut taken lent plain h)
ends_measured (class_name_at role) m told cut taken lent n a plain b h = absurd (no_text_item false cut taken lent plain h)
ends_measured field_name_at m told cut taken lent n a plain b h = absurd (no_text_item false cut taken lent plain h)
ends_measured interface_name_at m told cut taken lent n a plain b h = absurd (no_text_item false cut taken lent plain h)
ends_measured _ m told cut taken lent n a plain b h = absurd a
