-- Bytes that are as many as the token needs, and for which no reason is told, are a token that the format takes.
use Rattle.std.proofs.Common.{◌≡◌, ℕ, ◌≤◌, Bool, true, false, ◌&&◌, List, [], ◌∷◌, refl, arith, Option, Some, None, nat_le, leb-true, inl, inr}
use Rattle.std.proofs.lemmas.Bool.{cases_eq}
use Rattle.std.proofs.lemmas.Bool.Decides.{nat_tests}
use Rattle.jser_reading.proofs.Vocabulary.{object_owner, array_owner, enum_owner, class_owner, ChainOwner, Moment, null_tag, reference_tag, class_desc_tag, object_tag, string_tag, array_tag, class_tag, long_string_tag, proxy_desc_tag, enum_tag, StreamToken, tag_token, block_tag_token, end_tag_token, reset_tag_token, Position, top_at, annotation_at, value_at, text_place_at, class_place_at, superclass_place_at, AcceptsAt}
use Rattle.jser_reading.specs.TokenBytes.{bytes_of}
use Rattle.jser_grammar.proofs.Bools.{and_left, and_right}
use Rattle.jser_verdict.specs.Reasons.{Reason, bad_tag, exception_tag, reset_inside, null_class, wrong_class}
use Rattle.jser_verdict.specs.Gates.{Gate}
use Rattle.jser_verdict.specs.TagRows.{is_known_tag}
use Rattle.jser_verdict.specs.Verdicts.{told_if, content_reason, inner_reason, class_tag_reason, other_tag_reason}
use Rattle.jser_verdict.proofs.Ends.{here}

abbrev pub IsToken : Position → Moment → List ℕ → Type 0
IsToken w m p = (f : StreamToken) × (p ≡ bytes_of f) × AcceptsAt w m f

pub is_told : {A : Type 0} (r : Reason) → Some r ≡ None → A
is_told r e = absurd (cc)

-- a test that tells no reason fails
pub passed : (t : Bool) (r : Reason) (o : Option Reason) → told_if t r o ≡ None → (t ≡ false) × (o ≡ None)
passed true r o e = is_told r e
passed false r o e = (refl, e)

-- ---- tags

by_byte : (P : ℕ → Type 0)
    → P 0x70
    → P 0x71
    → P 0x72
    → P 0x73
    → P 0x74
    → P 0x75
    → P 0x76
    → P 0x77
    → P 0x78
    → P 0x79
    → P 0x7A
    → P 0x7B
    → P 0x7C
    → P 0x7D
    → P 0x7E
    → ((b : ℕ) → (nat_le 0x70 b && nat_le b 0x7E) ≡ false → P b) → (b : ℕ) → P b
by_byte P h70 h71 h72 h73 h74 h75 h76 h77 h78 h79 h7A h7B h7C h7D h7E out b = go (nat_le 0x70 b && nat_le b 0x7E) refl
  where
    go : (x : Bool) → (nat_le 0x70 b && nat_le b 0x7E) ≡ x → P b
    go false e = out b e
    go true e =
        let lo : 0x70 ≤ b = leb-true 0x70 b (and_left (nat_le 0x70 b) (nat_le b 0x7E) e) in
        let hi : b ≤ 0x7E = leb-true b 0x7E (and_right (nat_le 0x70 b) (nat_le b 0x7E) e) in
        elim (cases_eq b 0x70) [
          | inl e70 ↦ rw e70 h70
          | inr n70 ↦
              elim (cases_eq b 0x71) [
                | inl e71 ↦ rw e71 h71
                | inr n71 ↦
                    elim (cases_eq b 0x72) [
                      | inl e72 ↦ rw e72 h72
                      | inr n72 ↦
                          elim (cases_eq b 0x73) [
                            | inl e73 ↦ rw e73 h73
                            | inr n73 ↦
                                elim (cases_eq b 0x74) [
                                  | inl e74 ↦ rw e74 h74
                                  | inr n74 ↦
                                      elim (cases_eq b 0x75) [
                                        | inl e75 ↦ rw e75 h75
                                        | inr n75 ↦
                                            elim (cases_eq b 0x76) [
                                              | inl e76 ↦ rw e76 h76
                                              | inr n76 ↦
                                                  elim (cases_eq b 0x77) [
                                                    | inl e77 ↦ rw e77 h77
                                                    | inr n77 ↦
                                                        elim (cases_eq b 0x78) [
                                                          | inl e78 ↦ rw e78 h78
                                                          | inr n78 ↦
                                                              elim (cases_eq b 0x79) [
                                                                | inl e79 ↦ rw e79 h79
                                                                | inr n79 ↦
                                                                    elim (cases_eq b 0x7A) [
                                                                      | inl e7A ↦ rw e7A h7A
                                                                      | inr n7A ↦
                                                                          elim (cases_eq b 0x7B) [
                                                                            | inl e7B ↦ rw e7B h7B
                                                                            | inr n7B ↦
                                                                                elim (cases_eq b 0x7C) [
                                                                                  | inl e7C ↦ rw e7C h7C
                                                                                  | inr n7C ↦
                                                                                      elim (cases_eq b 0x7D) [
                                                                                        | inl e7D ↦ rw e7D h7D
                                                                                        | inr n7D ↦
                                                                                            elim (cases_eq b 0x7E) [
                                                                                              | inl e7E ↦ rw e7E h7E
                                                                                              | inr n7E ↦
                                                                                                  absurd (omega (arith, n70, n71, n72, n73, n74, n75, n76, n77, n78, n79, n7A, n7B, n7C, n7D, n7E))
                                                                                            ]
                                                                                      ]
                                                                                ]
                                                                          ]
                                                                    ]
                                                              ]
                                                        ]
                                                  ]
                                            ]
                                      ]
                                ]
                          ]
                    ]
              ]
        ]

pub top_byte : (g : Gate) (d : ℕ) (m : Moment) (b : ℕ) → let l = here top_at d m in content_reason g l b ≡ None → IsToken top_at m (b ∷ [])
top_byte g d m = by_byte (λ b. content_reason g (here top_at d m) b ≡ None → IsToken top_at m (b ∷ []))
    (λ h. (tag_token null_tag, refl, tt))
    (λ h. (tag_token reference_tag, refl, tt))
    (λ h. (tag_token class_desc_tag, refl, tt))
    (λ h. (tag_token object_tag, refl, tt))
    (λ h. (tag_token string_tag, refl, tt))
    (λ h. (tag_token array_tag, refl, tt))
    (λ h. (tag_token class_tag, refl, tt))
    (λ h. (block_tag_token false, refl, tt))
    (λ h. is_told bad_tag h)
    (λ h. (reset_tag_token, refl, tt))
    (λ h. (block_tag_token true, refl, tt))
    (λ h. is_told exception_tag h)
    (λ h. (tag_token long_string_tag, refl, tt))
    (λ h. (tag_token proxy_desc_tag, refl, tt))
    (λ h. (tag_token enum_tag, refl, tt))
    (λ b e h. let r : is_known_tag top_at b ≡ false = grind (arith, nat_tests) in is_told bad_tag (rw r at h))

pub annotation_byte : (g : Gate) (d : ℕ) (m : Moment) (b : ℕ) → let l = here annotation_at d m in inner_reason g l b ≡ None → IsToken annotation_at m (b ∷ [])
annotation_byte g d m = by_byte (λ b. inner_reason g (here annotation_at d m) b ≡ None → IsToken annotation_at m (b ∷ []))
    (λ h. (tag_token null_tag, refl, tt))
    (λ h. (tag_token reference_tag, refl, tt))
    (λ h. (tag_token class_desc_tag, refl, tt))
    (λ h. (tag_token object_tag, refl, tt))
    (λ h. (tag_token string_tag, refl, tt))
    (λ h. (tag_token array_tag, refl, tt))
    (λ h. (tag_token class_tag, refl, tt))
    (λ h. (block_tag_token false, refl, tt))
    (λ h. (end_tag_token, refl, tt))
    (λ h. is_told reset_inside h)
    (λ h. (block_tag_token true, refl, tt))
    (λ h. is_told exception_tag h)
    (λ h. (tag_token long_string_tag, refl, tt))
    (λ h. (tag_token proxy_desc_tag, refl, tt))
    (λ h. (tag_token enum_tag, refl, tt))
    (λ b e h. let r : is_known_tag annotation_at b ≡ false = grind (arith, nat_tests) in is_told bad_tag (rw r at h))

pub value_byte : (g : Gate) (d : ℕ) (m : Moment) (b : ℕ) → let l = here value_at d m in inner_reason g l b ≡ None → IsToken value_at m (b ∷ [])
value_byte g d m = by_byte (λ b. inner_reason g (here value_at d m) b ≡ None → IsToken value_at m (b ∷ []))
    (λ h. (tag_token null_tag, refl, tt))
    (λ h. (tag_token reference_tag, refl, tt))
    (λ h. (tag_token class_desc_tag, refl, tt))
    (λ h. (tag_token object_tag, refl, tt))
    (λ h. (tag_token string_tag, refl, tt))
    (λ h. (tag_token array_tag, refl, tt))
    (λ h. (tag_token class_tag, refl, tt))
    (λ h. is_told bad_tag h)
    (λ h. is_told bad_tag h)
    (λ h. is_told reset_inside h)
    (λ h. is_told bad_tag h)
    (λ h. is_told exception_tag h)
    (λ h. (tag_token long_string_tag, refl, tt))
    (λ h. (tag_token proxy_desc_tag, refl, tt))
    (λ h. (tag_token enum_tag, refl, tt))
    (λ b e h. let r : is_known_tag value_at b ≡ false = grind (arith, nat_tests) in is_told bad_tag (rw r at h))

pub text_place_byte : (g : Gate) (d : ℕ) (m : Moment) (b : ℕ) → let l = here text_place_at d m in other_tag_reason g l b ≡ None → IsToken text_place_at m (b ∷ [])
text_place_byte g d m = by_byte (λ b. other_tag_reason g (here text_place_at d m) b ≡ None → IsToken text_place_at m (b ∷ []))
    (λ h. is_told bad_tag h)
    (λ h. (tag_token reference_tag, refl, tt))
    (λ h. is_told bad_tag h)
    (λ h. is_told bad_tag h)
    (λ h. (tag_token string_tag, refl, tt))
    (λ h. is_told bad_tag h)
    (λ h. is_told bad_tag h)
    (λ h. is_told bad_tag h)
    (λ h. is_told bad_tag h)
    (λ h. is_told bad_tag h)
    (λ h. is_told bad_tag h)
    (λ h. is_told bad_tag h)
    (λ h. (tag_token long_string_tag, refl, tt))
    (λ h. is_told bad_tag h)
    (λ h. is_told bad_tag h)
    (λ b e h. let r : is_known_tag text_place_at b ≡ false = grind (arith, nat_tests) in is_told bad_tag (rw r at h))

pub object_byte : (g : Gate) (d : ℕ) (m : Moment) (b : ℕ) → let l = here (class_place_at object_owner) d m in class_tag_reason g l object_owner b ≡ None → IsToken (class_place_at object_owner) m (b ∷ [])
object_byte g d m = by_byte (λ b. class_tag_reason g (here (class_place_at object_owner) d m) object_owner b ≡ None → IsToken (class_place_at object_owner) m (b ∷ []))
    (λ h. is_told null_class h)
    (λ h. (tag_token reference_tag, refl, tt))
    (λ h. (tag_token class_desc_tag, refl, tt))
    (λ h. is_told bad_tag h)
    (λ h. is_told bad_tag h)
    (λ h. is_told bad_tag h)
    (λ h. is_told bad_tag h)
    (λ h. is_told bad_tag h)
    (λ h. is_told bad_tag h)
    (λ h. is_told bad_tag h)
    (λ h. is_told bad_tag h)
    (λ h. is_told bad_tag h)
    (λ h. is_told bad_tag h)
    (λ h. (tag_token proxy_desc_tag, refl, tt))
    (λ h. is_told bad_tag h)
    (λ b e h. let r : is_known_tag (class_place_at object_owner) b ≡ false = grind (arith, nat_tests) in is_told bad_tag (rw r at h))

pub class_byte : (g : Gate) (d : ℕ) (m : Moment) (b : ℕ) → let l = here (class_place_at class_owner) d m in class_tag_reason g l class_owner b ≡ None → IsToken (class_place_at class_owner) m (b ∷ [])
class_byte g d m = by_byte (λ b. class_tag_reason g (here (class_place_at class_owner) d m) class_owner b ≡ None → IsToken (class_place_at class_owner) m (b ∷ []))
    (λ h. is_told null_class h)
    (λ h. (tag_token reference_tag, refl, tt))
    (λ h. (tag_token class_desc_tag, refl, tt))
    (λ h. is_told bad_tag h)
    (λ h. is_told bad_tag h)
    (λ h. is_told bad_tag h)
    (λ h. is_told bad_tag h)
    (λ h. is_told bad_tag h)
    (λ h. is_told bad_tag h)
    (λ h. is_told bad_tag h)
    (λ h. is_told bad_tag h)
    (λ h. is_told bad_tag h)
    (λ h. is_told bad_tag h)
    (λ h. (tag_token proxy_desc_tag, refl, tt))
    (λ h. is_told bad_tag h)
    (λ b e h. let r : is_known_tag (class_place_at class_owner) b ≡ false = grind (arith, nat_tests) in is_told bad_tag (rw r at h))

pub array_byte : (g : Gate) (d : ℕ) (m : Moment) (b : ℕ) → let l = here (class_place_at array_owner) d m in class_tag_reason g l array_owner b ≡ None → IsToken (class_place_at array_owner) m (b ∷ [])
array_byte g d m = by_byte (λ b. class_tag_reason g (here (class_place_at array_owner) d m) array_owner b ≡ None → IsToken (class_place_at array_owner) m (b ∷ []))
    (λ h. is_told null_class h)
    (λ h. (tag_token reference_tag, refl, tt))
    (λ h. (tag_token class_desc_tag, refl, tt))
    (λ h. is_told bad_tag h)
    (λ h. is_told bad_tag h)
    (λ h. is_told bad_tag h)
    (λ h. is_told bad_tag h)
    (λ h. is_told bad_tag h)
    (λ h. is_told bad_tag h)
    (λ h. is_told bad_tag h)
    (λ h. is_told bad_tag h)
    (λ h. is_told bad_tag h)
    (λ h. is_told bad_tag h)
    (λ h. is_told wrong_class h)
    (λ h. is_told bad_tag h)
    (λ b e h. let r : is_known_tag (class_place_at array_owner) b ≡ false = grind (arith, nat_tests) in is_told bad_tag (rw r at h))

pub enum_byte : (g : Gate) (d : ℕ) (m : Moment) (b : ℕ) → let l = here (class_place_at enum_owner) d m in class_tag_reason g l enum_owner b ≡ None → IsToken (class_place_at enum_owner) m (b ∷ [])
enum_byte g d m = by_byte (λ b. class_tag_reason g (here (class_place_at enum_owner) d m) enum_owner b ≡ None → IsToken (class_place_at enum_owner) m (b ∷ []))
    (λ h. is_told null_class h)
    (λ h. (tag_token reference_tag, refl, tt))
    (λ h. (tag_token class_desc_tag, refl, tt))
    (λ h. is_told bad_tag h)
    (λ h. is_told bad_tag h)
    (λ h. is_told bad_tag h)
    (λ h. is_told bad_tag h)
    (λ h. is_told bad_tag h)
    (λ h. is_told bad_tag h)
    (λ h. is_told bad_tag h)
    (λ h. is_told bad_tag h)
    (λ h. is_told bad_tag h)
    (λ h. is_told bad_tag h)
    (λ h. is_told wrong_class h)
    (λ h. is_told bad_tag h)
    (λ b e h. let r : is_known_tag (class_place_at enum_owner) b ≡ false = grind (arith, nat_tests) in is_told bad_tag (rw r at h))

pub superclass_byte : (g : Gate) (d : ℕ) (m : Moment) (owner : ChainOwner) (strict : Bool) (b : ℕ) → let l = here (superclass_place_at owner strict) d m in other_tag_reason g l b ≡ None → IsToken (superclass_place_at owner strict) m (b ∷ [])
superclass_byte g d m owner strict = by_byte (λ b. other_tag_reason g (here (superclass_place_at owner strict) d m) b ≡ None → IsToken (superclass_place_at owner strict) m (b ∷ []))
    (λ h. (tag_token null_tag, refl, tt))
    (λ h. (tag_token reference_tag, refl, tt))
    (λ h. (tag_token class_desc_tag, refl, tt))
    (λ h. is_told bad_tag h)
    (λ h. is_told bad_tag h)
    (λ h. is_told bad_tag h)
    (λ h. is_told bad_tag h)
    (λ h. is_told bad_tag h)
    (λ h. is_told bad_tag h)
    (λ h. is_told bad_tag h)
    (λ h. is_told bad_tag h)
    (λ h. is_told bad_tag h)
    (λ h. is_told bad_tag h)
    (λ h. (tag_token proxy_desc_tag, refl, tt))
    (λ h. is_told bad_tag h)
    (λ b e h. let r : is_known_tag (superclass_place_at owner strict) b ≡ false = grind (arith, nat_tests) in is_told bad_tag (rw r at h))
