-- Going along a row of names.
use Rattle.std.proofs.Common.{◌≡◌, ℕ, suc, ◌+◌, ◌-◌, ◌<◌, ◌≤◌, ◌∙◌, ap, sym, subst, Bool, true, false, if◌then◌else◌, Option, Some, None, List, length, drop, refl, arith}
use Rattle.std.specs.Option.{option_map}
use Rattle.std.proofs.Common.{length-drop}
use Rattle.jser_anywhere.specs.Search.{text_of, text_end, names_hidden, row_hidden, row_next, TellsText}
use Rattle.jser_anywhere.specs.Names.{core}

-- so many names of a row were read, which all pass, and the rest stands after so many bytes
pub record Ahead (passes : List ℕ → Bool) (most : ℕ) (bytes : List ℕ) (turn gone : ℕ) (rest : List ℕ) : Type 0 where
  pub left : ℕ
  pub counted : turn + left ≡ most
  pub tells : row_hidden passes most bytes ≡ option_map (λ more. gone + more) (row_hidden passes left rest)
  pub room : gone + length rest ≡ length bytes

map_zero : (o : Option ℕ) → o ≡ option_map (λ more. 0 + more) o
map_zero None = refl
map_zero (Some n) = ap Some (omega arith)

map_twice : (a b : ℕ) (o : Option ℕ) → option_map (λ more. a + more) (option_map (λ more. b + more) o) ≡ option_map (λ more. a + b + more) o
map_twice a b None = refl
map_twice a b (Some n) = ap Some (omega arith)

pub ahead_first : (passes : List ℕ → Bool) (most : ℕ) (bytes : List ℕ) → Ahead passes most bytes 0 0 bytes
ahead_first passes most bytes = record { left = most; counted = omega arith; tells = map_zero (row_hidden passes most bytes); room = omega arith }

pub ahead_done : (passes : List ℕ → Bool) (most : ℕ) (bytes : List ℕ) (turn gone : ℕ) (rest : List ℕ) → Ahead passes most bytes turn gone rest
    → most ≤ turn → None ≡ row_hidden passes most bytes
ahead_done passes most bytes turn gone rest a end =
    let e : a.left ≡ 0 = omega (arith, a.counted) in
    sym (a.tells ∙ ap (λ (n : ℕ). option_map (λ more. gone + more) (row_hidden passes n rest)) e)

one_less : (turn left most : ℕ) → turn + left ≡ most → turn < most → left ≡ suc (left - 1)
one_less turn left most e less = omega arith

turned : (passes : List ℕ → Bool) (most : ℕ) (bytes : List ℕ) (turn gone : ℕ) (rest : List ℕ) → (a : Ahead passes most bytes turn gone rest) → turn < most
    → row_hidden passes most bytes ≡ option_map (λ more. gone + more) (row_next passes (text_end rest) (row_hidden passes (a.left - 1) (drop (text_end rest) rest)) (text_of rest))
turned passes most bytes turn gone rest a less =
    a.tells ∙ ap (λ (n : ℕ). option_map (λ more. gone + more) (row_hidden passes n rest)) (one_less turn a.left most a.counted less)

pub ahead_none : (passes : List ℕ → Bool) (most : ℕ) (bytes : List ℕ) (turn gone : ℕ) (rest : List ℕ) → Ahead passes most bytes turn gone rest
    → turn < most → text_of rest ≡ None → None ≡ row_hidden passes most bytes
ahead_none passes most bytes turn gone rest a less e =
    sym (turned passes most bytes turn gone rest a less
    ∙ ap (λ o. option_map (λ more. gone + more) (row_next passes (text_end rest) (row_hidden passes (a.left - 1) (drop (text_end rest) rest)) o)) e)

pub ahead_found : (passes : List ℕ → Bool) (most : ℕ) (bytes : List ℕ) (turn gone : ℕ) (rest units : List ℕ) (end : ℕ) → Ahead passes most bytes turn gone rest
    → turn < most → TellsText rest (Some end) units → names_hidden passes (core units) ≡ true → Some (gone + end) ≡ row_hidden passes most bytes
ahead_found passes most bytes turn gone rest units end a less told fails =
    sym (turned passes most bytes turn gone rest a less
    ∙ ap (λ o. option_map (λ more. gone + more) (row_next passes (text_end rest) (row_hidden passes (a.left - 1) (drop (text_end rest) rest)) o)) (told.0)
    ∙ ap (λ b. option_map (λ more. gone + more) (if b then Some (text_end rest) else option_map (λ more. text_end rest + more) (row_hidden passes (a.left - 1) (drop (text_end rest) rest)))) fails
    ∙ ap (λ (n : ℕ). Some (gone + n)) (sym (told.1)))

pub ahead_more : (passes : List ℕ → Bool) (most : ℕ) (bytes : List ℕ) (turn gone : ℕ) (rest units after : List ℕ) (end : ℕ) → Ahead passes most bytes turn gone rest
    → turn < most → TellsText rest (Some end) units → names_hidden passes (core units) ≡ false → after ≡ drop end rest → Ahead passes most bytes (turn + 1) (gone + end) after
ahead_more passes most bytes turn gone rest units after end a less told good e = record {
  left = a.left - 1;
  counted = omega (arith, a.counted);
  tells = turned passes most bytes turn gone rest a less
      ∙ ap (λ o. option_map (λ more. gone + more) (row_next passes (text_end rest) (row_hidden passes (a.left - 1) (drop (text_end rest) rest)) o)) (told.0)
      ∙ ap (λ b. option_map (λ more. gone + more) (if b then Some (text_end rest) else option_map (λ more. text_end rest + more) (row_hidden passes (a.left - 1) (drop (text_end rest) rest)))) good
      ∙ map_twice gone (text_end rest) (row_hidden passes (a.left - 1) (drop (text_end rest) rest))
      ∙ ap (λ (n : ℕ). option_map (λ more. gone + n + more) (row_hidden passes (a.left - 1) (drop n rest))) (sym (told.1))
      ∙ ap (λ (xs : List ℕ). option_map (λ more. gone + end + more) (row_hidden passes (a.left - 1) xs)) (sym e);
  room = omega (arith, a.room, told.2, ap length e, length-drop end rest);
}

-- no text is told, of what one text's search answered
pub told_none : (rest units : List ℕ) (found : Option ℕ) → TellsText rest found units → found ≡ None → text_of rest ≡ None
told_none rest units found told e = subst (λ (o : Option ℕ). TellsText rest o units) e told

pub told_some : (rest units : List ℕ) (end : ℕ) (found : Option ℕ) → TellsText rest found units → found ≡ Some end → TellsText rest (Some end) units
told_some rest units end found told e = subst (λ (o : Option ℕ). TellsText rest o units) e told
