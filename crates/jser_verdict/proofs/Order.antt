-- The verdict tells the first reason, in the order of ties, whose row holds.
use Rattle.std.proofs.Common.{◌≡◌, ℕ, Bool, true, false, List, [], ◌∷◌, length, refl, Some, None, nat_eq}
use Rattle.jser_reading.specs.Labels.{Position, nowhere, header_at, top_at, annotation_at, value_at, text_place_at, class_place_at, superclass_place_at, back_handle_at, text_handle_at, class_handle_at, superclass_handle_at, string_at, class_name_at, field_name_at, interface_name_at, suid_at, field_count_at, interface_count_at, array_length_at, flags_at, type_code_at, block_length_at, raw_at, bytes_at, Label}
use Rattle.jser_reading.specs.Moments.{Moment}
use Rattle.jser_verdict.specs.Reasons.{in_order, first_that}
use Rattle.jser_verdict.specs.Gates.{Gate}
use Rattle.jser_verdict.specs.TextsSoFar.{is_whole_text, has_wrong_byte}
use Rattle.jser_verdict.specs.Rows.{row}
use Rattle.jser_verdict.specs.Verdicts.{reason_at}

abbrev here : Position → ℕ → Moment → Label
here w d m = record { position = w; depth = d; moment = m }

abbrev Tells : Gate → Position → ℕ → Moment → List ℕ → Type 0
Tells g w d m p = reason_at g (here w d m) w p ≡ first_that (λ r. row r g (here w d m) p) in_order

tells_number : (g : Gate) (w : Position) (d : ℕ) (m : Moment) (p : List ℕ) (k : ℕ) → (nat_eq (length p) k ≡ true → Tells g w d m p)
    → (nat_eq (length p) k ≡ false → Tells g w d m p) → Tells g w d m p
tells_number g w d m p k a b = go (nat_eq (length p) k) refl
  where
    go : (x : Bool) → nat_eq (length p) k ≡ x → Tells g w d m p
    go true e = a e
    go false e = b e

tells_text : (g : Gate) (w : Position) (d : ℕ) (m : Moment) (p : List ℕ)
    → ((x y : Bool) → has_wrong_byte false p ≡ x → is_whole_text false p ≡ y → Tells g w d m p) → Tells g w d m p
tells_text g w d m p a = a (has_wrong_byte false p) (is_whole_text false p) refl refl

tells : (g : Gate) (w : Position) (d : ℕ) (m : Moment) (p : List ℕ) → Tells g w d m p
tells g nowhere d m p = refl
tells g header_at d m p = refl
tells g top_at d m [] = refl
tells g top_at d m (b ∷ []) = refl
tells g top_at d m (b ∷ c ∷ p) = refl
tells g annotation_at d m [] = refl
tells g annotation_at d m (b ∷ []) = refl
tells g annotation_at d m (b ∷ c ∷ p) = refl
tells g value_at d m [] = refl
tells g value_at d m (b ∷ []) = refl
tells g value_at d m (b ∷ c ∷ p) = refl
tells g text_place_at d m [] = refl
tells g text_place_at d m (b ∷ []) = refl
tells g text_place_at d m (b ∷ c ∷ p) = refl
tells g (class_place_at owner) d m [] = refl
tells g (class_place_at owner) d m (b ∷ []) = refl
tells g (class_place_at owner) d m (b ∷ c ∷ p) = refl
tells g (superclass_place_at owner strict) d m [] = refl
tells g (superclass_place_at owner strict) d m (b ∷ []) = refl
tells g (superclass_place_at owner strict) d m (b ∷ c ∷ p) = refl
tells g back_handle_at d m p = tells_number g back_handle_at d m p 4 (λ e. rw e refl) (λ e. rw e refl)
tells g text_handle_at d m p = tells_number g text_handle_at d m p 4 (λ e. rw e refl) (λ e. rw e refl)
tells g (class_handle_at owner) d m p = tells_number g (class_handle_at owner) d m p 4 (λ e. rw e refl) (λ e. rw e refl)
tells g (superclass_handle_at None strict) d m p =
    tells_number g (superclass_handle_at None strict) d m p 4 (λ e. rw e refl) (λ e. rw e refl)
tells g (superclass_handle_at (Some owner) strict) d m p =
    tells_number g (superclass_handle_at (Some owner) strict) d m p 4 (λ e. rw e refl) (λ e. rw e refl)
tells g (string_at true) d m p = refl
tells g (string_at false) d m p = refl
tells g (class_name_at role) d m p = tells_text g (class_name_at role) d m p go
  where
    go : (x y : Bool) → has_wrong_byte false p ≡ x → is_whole_text false p ≡ y → Tells g (class_name_at role) d m p
    go true y ex ey = rw ex refl
    go false true ex ey = rw (ex, ey) refl
    go false false ex ey = rw (ex, ey) refl
tells g field_name_at d m p = tells_text g field_name_at d m p go
  where
    go : (x y : Bool) → has_wrong_byte false p ≡ x → is_whole_text false p ≡ y → Tells g field_name_at d m p
    go true y ex ey = rw ex refl
    go false true ex ey = rw (ex, ey) refl
    go false false ex ey = rw (ex, ey) refl
tells g interface_name_at d m p = tells_text g interface_name_at d m p go
  where
    go : (x y : Bool) → has_wrong_byte false p ≡ x → is_whole_text false p ≡ y → Tells g interface_name_at d m p
    go true y ex ey = rw ex refl
    go false true ex ey = rw (ex, ey) refl
    go false false ex ey = rw (ex, ey) refl
tells g suid_at d m p = tells_number g suid_at d m p 8 (λ e. rw e refl) (λ e. rw e refl)
tells g field_count_at d m p = tells_number g field_count_at d m p 2 (λ e. rw e refl) (λ e. rw e refl)
tells g interface_count_at d m p = tells_number g interface_count_at d m p 4 (λ e. rw e refl) (λ e. rw e refl)
tells g array_length_at d m p = tells_number g array_length_at d m p 4 (λ e. rw e refl) (λ e. rw e refl)
tells g (flags_at role) d m [] = refl
tells g (flags_at role) d m (b ∷ []) = refl
tells g (flags_at role) d m (b ∷ c ∷ p) = refl
tells g (type_code_at seen) d m [] = refl
tells g (type_code_at seen) d m (b ∷ []) = refl
tells g (type_code_at seen) d m (b ∷ c ∷ p) = refl
tells g (block_length_at true) d m p = tells_number g (block_length_at true) d m p 4 (λ e. rw e refl) (λ e. rw e refl)
tells g (block_length_at false) d m p = refl
tells g (raw_at c n) d m p = refl
tells g (bytes_at n) d m p = refl

pub in_turn : (g : Gate) (l : Label) (p : List ℕ) → reason_at g l l.position p ≡ first_that (λ r. row r g l p) in_order
in_turn g l p = tells g l.position l.depth l.moment p
