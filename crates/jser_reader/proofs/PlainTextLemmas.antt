-- The texts of a run: units of one byte each.
use Rattle.std.proofs.Common.{◌≡◌, ℕ, suc, ◌+◌, ◌^◌, ◌<◌, ◌≤◌, List, [], ◌∷◌, ◌++◌, length, get_or, take, drop, refl, sym, ◌∙◌, ap, ap₂, subst, arith}
use Rattle.std.specs.Prelude.{slice_index}
use Rattle.std.proofs.Common.{get_or-take, get_or-drop}
use Rattle.std.proofs.lemmas.List.{length-drop, length-take-le, take-append-drop}
use Rattle.jser_prim.specs.Bytes.{big_bytes}
use Rattle.jser_prim.specs.ModifiedUtf8.{IsUnits, modified_utf8}
use Rattle.jser_prim.specs.WholeUnits.{IsAsciiBetween}
use Rattle.jser_prim.proofs.TextLemmas.{units_cons}
use Rattle.jser_prim.proofs.Units.{spelling_one}
use Rattle.jser_reader.specs.Wholes.{HasText}
use Rattle.jser_reader.proofs.PassLemmas.{joined_takes}

-- such bytes are units, and spell themselves
pub plain_units : (bytes : List ℕ) → ((k : ℕ) → k < length bytes → (1 ≤ get_or bytes k 0) × (get_or bytes k 0 < 0x80))
    → IsUnits bytes × (modified_utf8 bytes ≡ bytes)
plain_units [] plain = (refl, refl)
plain_units (b ∷ bytes) plain =
    let first = plain 0 (omega arith) in
    let rest = plain_units bytes (λ k inside. plain (suc k) (omega arith)) in
    (units_cons b bytes (omega (arith, first.0, first.1)) rest.0, ap₂ (λ x y. x ++ y) (spelling_one b first.0 first.1) rest.1)

-- where a text comes after a tag
pub plain_text : (len : ℕ) (piece rest number : List ℕ) → 3 ≤ length piece → rest ≡ drop 1 piece → number ≡ take 2 rest → big_bytes 2 len ≡ number → len < 2 ^ 16
    → IsAsciiBetween piece 3 (len + 3) → len + 3 ≤ length piece → HasText piece len
plain_text len piece rest number enough er en eb small plain within =
    let after : List ℕ = drop 2 rest in
    let text : List ℕ = take len after in
    let n = length-drop 1 piece in
    let nr : length rest ≡ length (drop 1 piece) = ap length er in
    let nd = length-drop 2 rest in
    let size : length text ≡ len = length-take-le len after (omega arith) in
    let at : (k : ℕ) → k < len → get_or text k 0 ≡ slice_index piece (3 + k) =
    λ k inside. get_or-take len after k 0 inside ∙ get_or-drop 2 rest k 0 ∙ ap (λ xs. get_or xs (2 + k) 0) er ∙ get_or-drop 1 piece (2 + k) 0
    ∙ ap (λ i. get_or piece i 0) (let e : 1 + (2 + k) ≡ 3 + k = omega arith in e) in
    let units = plain_units text (λ k inside.
    let before : k < len = omega (arith, inside, size) in
    subst (λ b. (1 ≤ b) × (b < 0x80)) (sym (at k before)) (plain (3 + k) (omega arith) (omega (arith, before)))) in
    let long : length (modified_utf8 text) ≡ len = ap length units.1 ∙ size in
    record {
      units = text;
      are_text = (units.0, omega arith);
      within = omega arith;
      spelled =
          ap₂ (λ k bytes. big_bytes 2 k ++ bytes) long units.1 ∙ ap (λ a. a ++ text) (eb ∙ en)
          ∙ joined_takes rest after 2 len (omega arith) (sym (take-append-drop 2 rest))
          ∙ ap (take (2 + len)) er;
    }
