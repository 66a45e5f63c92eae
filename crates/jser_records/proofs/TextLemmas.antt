-- The text of a value.
use Rattle.std.proofs.Common.{◌≡◌, ℕ, suc, ◌+◌, ◌^◌, ◌<◌, ◌≤◌, ◌==◌, ◌&&◌, length, map, set, take, drop, get_or, Bool, true, false, if◌then◌else◌, List, [], ◌∷◌, ◌++◌, Option, Some, None, refl, sym, ap, ◌∙◌, arith}
use Rattle.std.proofs.lemmas.Bool.{ne_eqb, eq-eqb}
use Rattle.std.proofs.lemmas.List.{take-append-drop, length-append, length-drop, length-map}
use Rattle.std.proofs.lemmas.Grind.{get_or_default_zero}
use Rattle.std.proofs.lemmas.List.Edits.{map_over_more}
use Rattle.std.specs.Option.{is_some}
use Rattle.std.specs.Prelude.{slice_index}
use Rattle.memchr.specs.Find.{IsFirstByte, is_byte}
use Rattle.jser_inputs.specs.Spaces.{is_space}
use Rattle.jser_records.specs.Texts.{blanked, characters_in, without_space}

-- a text without a backslash
plain : (text : List ℕ) → ((k : ℕ) → k < length text → slice_index text k ≡ 0x5C → ⊥) → blanked text ≡ text
plain [] none = refl
plain (c ∷ []) none = refl
plain (c ∷ d ∷ text) none =
    ap (λ b. if b && d == 0x6E then 0x20 ∷ 0x20 ∷ blanked text else c ∷ blanked (d ∷ text)) (ne_eqb c 0x5C (none 0 (omega arith)))
    ∙ ap (λ xs. c ∷ xs) (plain (d ∷ text) (λ k less is. none (suc k) (omega (arith, less)) is))

pub unmarked : (text : List ℕ) (at : Option ℕ) → IsFirstByte (is_byte 0x5C) text at → is_some at ≡ false → text ≡ blanked text
unmarked text None first none = sym (plain text (λ k less is. first k (omega arith) less (eq-eqb (slice_index text k) 0x5C is)))
unmarked text (Some at) first none = absurd (cc)

-- one character is no mark
short : (text : List ℕ) → length text ≤ 1 → blanked text ≡ text
short [] few = refl
short (c ∷ []) few = refl
short (c ∷ d ∷ text) few = absurd (omega (arith, few))

pub marked_all : (text : List ℕ) (at : ℕ) → length text ≤ at + 1 → take at text ++ blanked (drop at text) ≡ text
marked_all text at few =
    ap (λ xs. take at text ++ xs) (short (drop at text) (let rest = length-drop at text in omega (arith, few, rest))) ∙ take-append-drop at text

size_if : (b : Bool) (c d : ℕ) (text : List ℕ) → length (blanked text) ≡ length text → length (blanked (d ∷ text)) ≡ suc (length text)
    → length (if b then 0x20 ∷ 0x20 ∷ blanked text else c ∷ blanked (d ∷ text)) ≡ suc (suc (length text))
size_if true c d text short long = ap (λ n. suc (suc n)) short
size_if false c d text short long = ap (λ n. suc n) long

blanked_size : (text : List ℕ) → length (blanked text) ≡ length text
blanked_size [] = refl
blanked_size (c ∷ []) = refl
blanked_size (c ∷ d ∷ text) = size_if (c == 0x5C && d == 0x6E) c d text (blanked_size text) (blanked_size (d ∷ text))

pub characters_size : (copy : Bool) (text : List ℕ) → length (characters_in copy text) ≡ length text
characters_size true text = blanked_size (map without_space text) ∙ length-map text without_space
characters_size false text = length-map text without_space

pub few_marked : (copy : Bool) (before text marked : List ℕ) → marked ≡ characters_in copy text → length (before ++ text) < 2 ^ 63 → length (before ++ marked) < 2 ^ 63
few_marked copy before text marked is few =
    let same : length marked ≡ length text = ap length is ∙ characters_size copy text in
    let one : length (before ++ text) ≡ length before + length text = length-append before text in
    let two : length (before ++ marked) ≡ length before + length marked = length-append before marked in
    omega (arith, same, one, two, few)

-- ---- one character after another becomes a NUL where it is white space

pub spaceless_on : (old text : List ℕ) (i y : ℕ) → i < length old → i < length text → text ≡ map without_space (take i old) ++ drop i old → y ≡ without_space (get_or text i 0)
    → set text i y ≡ map without_space (take (i + 1) old) ++ drop (i + 1) old
spaceless_on old text i y inside within so_far made =
    ap (λ z. set text i z) made
    ∙ map_over_more without_space old text i (get_or text i 0) inside so_far (sym (get_or_default_zero text i (get_or text i 0) within))

-- a character that becomes none, or stays, is not another one
stays : (b : Bool) (c d : ℕ) → 0 < d → (if b then 0x00 else c) ≡ d → c ≡ d
stays true c d some is = absurd (omega (arith, some, is))
stays false c d some is = is

space_stays : (c d : ℕ) → 0 < d → without_space c ≡ d → c ≡ d
space_stays c d some is = stays (is_space c) c d some is

pub record EndsSo (text : List ℕ) (byte : ℕ) : Type 0 where
  pub front : List ℕ
  pub is : text ≡ front ++ (byte ∷ [])

pub ends_so : (text front : List ℕ) (d : ℕ) → 0 < d → map without_space text ≡ front ++ (d ∷ []) → EndsSo text d
ends_so [] front d some is = let size = length-append front (d ∷ []) in let none = ap length is in absurd (omega (arith, size, none))
ends_so (c ∷ []) [] d some is = record { front = []; is = ap (λ b. b ∷ []) (space_stays c d some (ap (λ xs. get_or xs 0 0) is)) }
ends_so (c ∷ []) (e ∷ front) d some is = let size = length-append front (d ∷ []) in let one = ap length is in absurd (omega (arith, size, one))
ends_so (c ∷ e ∷ text) [] d some is = let two = ap length is in absurd (omega (arith, two))
ends_so (c ∷ e ∷ text) (f ∷ front) d some is = let x = ends_so (e ∷ text) front d some (ap (λ xs. drop 1 xs) is) in record { front = c ∷ x.front; is = ap (λ xs. c ∷ xs) x.is }

pub begins_so : (text rest : List ℕ) (d : ℕ) → 0 < d → map without_space text ≡ d ∷ rest → (more : List ℕ) × (text ≡ d ∷ more)
begins_so [] rest d some is = let none = ap length is in absurd (omega (arith, none))
begins_so (c ∷ text) rest d some is = (text, ap (λ b. b ∷ text) (space_stays c d some (ap (λ xs. get_or xs 0 0) is)))
