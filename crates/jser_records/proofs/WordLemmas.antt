-- What is said of a record.
use Rattle.std.proofs.Common.{◌≡◌, ℕ, ◌+◌, ◌≤◌, ◌<◌, Bool, true, false, List, [], ◌∷◌, ◌++◌, length, drop, get_or, codes, sym, ap, subst, ◌∙◌, if◌then◌else◌, append_assoc, append-nil}
use Rattle.std.proofs.lemmas.List.{drop_all, drop_more}
use Rattle.std.specs.List.{flat_map}
use Rattle.hex.specs.Hex.{encode_lower}
use Rattle.jser_prim.specs.Outgoing.{Outgoing, SinkState}
use Rattle.jser_shown.specs.Words.{quoted_unit}
use Rattle.jser_printer.specs.Says.{Says, Saying}
use Rattle.jser_printer.proofs.SaysLemmas.{says_both, says_on, says_same, says_three}
use Rattle.jser_scan.specs.Answers.{count_words}
use Rattle.jser_records.specs.declared.answer.Answer.{Answer}
use Rattle.jser_records.specs.declared.answer.Answer.TheVariants as answer
use Rattle.jser_records.specs.declared.key.Key.{Key}
use Rattle.jser_records.specs.declared.sign.Sign.{Sign}
use Rattle.jser_records.specs.declared.sign.Sign.TheVariants as sign
use Rattle.jser_records.specs.Signs.{has_byte, sign_words, signs_words}
use Rattle.jser_records.specs.Words.{hex_member, key_member, words_of}

pub says_longer : (a b c : Outgoing) (d e f : SinkState) (result : Answer) (most : ℕ) → result ≡ answer.Longer most
    → Says a b d e (λ k. count_words (codes "longer than ") most k) → Says b c e f (λ k. codes " bytes" ++ k) → Says a c d f (λ k. words_of result k)
says_longer a b c d e f result most is x y =
    subst (λ r. Says a c d f (λ k. words_of r k)) (sym is)
    (says_both a b c d e f (λ k. count_words (codes "longer than ") most k) (λ k. codes " bytes" ++ k) x y)

pub says_cut : (a b c g : Outgoing) (d e f h : SinkState) (result : Answer) (at total : ℕ) → result ≡ answer.Cut at total
    → Says a b d e (λ k. count_words (codes "cut at ") at k) → Says b c e f (λ k. count_words (codes " of ") total k)
    → Says c g f h (λ k. codes " bytes" ++ k) → Says a g d h (λ k. words_of result k)
says_cut a b c g d e f h result at total is x y z =
    subst (λ r. Says a g d h (λ k. words_of r k)) (sym is)
    (says_three a b c g d e f h (λ k. count_words (codes "cut at ") at k) (λ k. count_words (codes " of ") total k) (λ k. codes " bytes" ++ k) x y z)

pub says_key : (a b c g : Outgoing) (d e f h : SinkState) (key : Key) (signs : List Sign) → key.is_there ≡ true
    → Says a b d e (λ k. codes ",\"key\":" ++ k) → Says b c e f (λ k. signs_words true signs k) → Says c g f h (λ k. hex_member key.bytes.items signs k) → Says a g d h (λ k. key_member key signs k)
says_key a b c g d e f h key signs there x y z =
    says_same a g d h (λ k. codes ",\"key\":" ++ signs_words true signs (hex_member key.bytes.items signs k)) (λ k. key_member key signs k)
    (λ k. ap (λ b. if b then codes ",\"key\":" ++ signs_words true signs (hex_member key.bytes.items signs k) else k) there)
    (says_three a b c g d e f h (λ k. codes ",\"key\":" ++ k) (λ k. signs_words true signs k) (λ k. hex_member key.bytes.items signs k) x y z)

pub says_hex : (a b c g : Outgoing) (d e f h : SinkState) (bytes : List ℕ) (signs : List Sign) → has_byte signs ≡ true
    → Says a b d e (λ k. codes ",\"key_hex\":\"" ++ k) → Says b c e f (λ k. encode_lower bytes ++ k) → Says c g f h (λ k. 0x22 ∷ k) → Says a g d h (λ k. hex_member bytes signs k)
says_hex a b c g d e f h bytes signs there x y z =
    says_same a g d h (λ k. codes ",\"key_hex\":\"" ++ (encode_lower bytes ++ (0x22 ∷ k))) (λ k. hex_member bytes signs k)
    (λ k. ap (λ b. if b then codes ",\"key_hex\":\"" ++ (encode_lower bytes ++ (0x22 ∷ k)) else k) there)
    (says_three a b c g d e f h (λ k. codes ",\"key_hex\":\"" ++ k) (λ k. encode_lower bytes ++ k) (λ k. 0x22 ∷ k) x y z)

pub says_no_hex : (a b : Outgoing) (d e : SinkState) (bytes : List ℕ) (signs : List Sign) → has_byte signs ≡ false → Says a b d e (λ k. [] ++ k) → Says a b d e (λ k. hex_member bytes signs k)
says_no_hex a b d e bytes signs off x =
    says_same a b d e (λ k. k) (λ k. hex_member bytes signs k) (λ k. ap (λ b. if b then codes ",\"key_hex\":\"" ++ (encode_lower bytes ++ (0x22 ∷ k)) else k) off) x

-- ---- signs

pub says_unit : (a b : Outgoing) (d e : SinkState) (json : Bool) (s : Sign) (unit : ℕ) → s ≡ sign.Unit unit → Says a b d e (λ k. flat_map quoted_unit (unit ∷ []) ++ k)
    → Says a b d e (λ k. sign_words json s ++ k)
says_unit a b d e json s unit is x =
    subst (λ z. Says a b d e (λ k. sign_words json z ++ k)) (sym is)
    (says_same a b d e (λ k. flat_map quoted_unit (unit ∷ []) ++ k) (λ k. quoted_unit unit ++ k) (λ k. ap (λ xs. xs ++ k) (sym (append-nil (quoted_unit unit)))) x)

pub says_lost : (a b : Outgoing) (d e : SinkState) (json : Bool) (s : Sign) (byte : ℕ) → s ≡ sign.Byte byte → json ≡ true → Says a b d e (λ k. flat_map quoted_unit (0xFFFD ∷ []) ++ k)
    → Says a b d e (λ k. sign_words json s ++ k)
says_lost a b d e json s byte is on x =
    subst (λ z. Says a b d e (λ k. sign_words json z ++ k)) (sym is)
    (says_same a b d e (λ k. flat_map quoted_unit (0xFFFD ∷ []) ++ k) (λ k. sign_words json (sign.Byte byte) ++ k)
    (λ k. ap (λ j. sign_words j (sign.Byte byte) ++ k) on ∙ ap (λ xs. xs ++ k) (sym (append-nil (quoted_unit 0xFFFD)))) x)

pub says_byte : (a b c : Outgoing) (d e f : SinkState) (json : Bool) (s : Sign) (byte : ℕ) → s ≡ sign.Byte byte → json ≡ false → Says a b d e (λ k. 0x5C ∷ 0x78 ∷ k)
    → Says b c e f (λ k. encode_lower (byte ∷ []) ++ k) → Says a c d f (λ k. sign_words json s ++ k)
says_byte a b c d e f json s byte is off x y =
    subst (λ z. Says a c d f (λ k. sign_words json z ++ k)) (sym is)
    (says_same a c d f (λ k. 0x5C ∷ 0x78 ∷ (encode_lower (byte ∷ []) ++ k)) (λ k. sign_words json (sign.Byte byte) ++ k) (λ k. ap (λ j. sign_words j (sign.Byte byte) ++ k) off)
    (says_both a b c d e f (λ k. 0x5C ∷ 0x78 ∷ k) (λ k. encode_lower (byte ∷ []) ++ k) x y))

-- the next of them was said
pub says_sign : (a b c : Outgoing) (d e f : SinkState) (json : Bool) (signs : List Sign) (i : ℕ) (s : Sign) → i < length signs → s ≡ get_or signs i s
    → Saying a b d e (λ k. flat_map (sign_words json) signs ++ k) (λ k. flat_map (sign_words json) (drop i signs) ++ k) → Says b c e f (λ k. sign_words json s ++ k)
    → Saying a c d f (λ k. flat_map (sign_words json) signs ++ k) (λ k. flat_map (sign_words json) (drop (i + 1) signs) ++ k)
says_sign a b c d e f json signs i s inside is so_far x =
    let next : drop i signs ≡ s ∷ drop (i + 1) signs = drop_more signs i s inside ∙ ap (λ z. z ∷ drop (i + 1) signs) (sym is) in
    says_on a b c d e f (λ k. flat_map (sign_words json) signs ++ k) (λ k. flat_map (sign_words json) (drop i signs) ++ k) (λ k. flat_map (sign_words json) (drop (i + 1) signs) ++ k) so_far
    (record {
      bytes = x.bytes;
      puts = x.puts;
      is =
          λ k.
          ap (λ xs. flat_map (sign_words json) xs ++ k) next ∙ append_assoc (sign_words json s) (flat_map (sign_words json) (drop (i + 1) signs)) k
          ∙ x.is (flat_map (sign_words json) (drop (i + 1) signs) ++ k);
    })

-- all were said
pub says_signs : (a b : Outgoing) (d e : SinkState) (json : Bool) (signs : List Sign) (i : ℕ) → length signs ≤ i
    → Saying a b d e (λ k. flat_map (sign_words json) signs ++ k) (λ k. flat_map (sign_words json) (drop i signs) ++ k) → Says a b d e (λ k. flat_map (sign_words json) signs ++ k)
says_signs a b d e json signs i all so_far =
    subst (λ xs. Saying a b d e (λ k. flat_map (sign_words json) signs ++ k) (λ k. flat_map (sign_words json) xs ++ k)) (drop_all i signs all) so_far
