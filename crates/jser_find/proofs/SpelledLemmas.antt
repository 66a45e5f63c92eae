-- A text that is read character by character.
use Rattle.std.proofs.Common.{◌≡◌, ℕ, suc, ◌+◌, ◌<◌, ◌≤◌, List, [], ◌∷◌, length, drop, get_or, Some, None, refl, sym, ap, ◌∙◌, arith, drop-cons, drop_of_length-le}
use Rattle.jser_find.specs.declared.spot.Spot.{Spot}
use Rattle.jser_find.specs.declared.spot.Step.{Step}
use Rattle.jser_find.specs.declared.spot.Step.TheVariants as step
use Rattle.jser_find.specs.declared.spelled.Reading.{Reading}
use Rattle.jser_find.specs.Spots.{Fits, step_of}
use Rattle.jser_find.specs.Spelled.{GivesNext, IsIn, bytes_from, counted, follows, place_until, spelled, until}

-- from there on the text spells what all of it does, with its bytes in the same places
pub record HasRead (text : List ℕ) (from : Reading) (at : ℕ) (spot : Spot) : Type 0 where
  pub high : at ≤ length text
  pub fits : Fits spot.next
  pub same : bytes_from text from ≡ spelled spot (drop at text)
  pub places : (n : ℕ) → place_until text from (suc n) ≡ at + until spot (drop at text) (suc n)

spelled_by : (spot : Spot) (c : ℕ) (text : List ℕ) (result : Step) → step_of spot c ≡ result → spelled spot (c ∷ text) ≡ follows result (λ next. spelled next text)
unfolding spelled
spelled_by spot c text result is = ap (λ r. follows r (λ next. spelled next text)) is

-- the character there, and what is behind it
drop_next : (text : List ℕ) (at : ℕ) → at < length text → drop at text ≡ get_or text at 0 ∷ drop (at + 1) text
drop_next text at inside =
    let e : suc at ≡ at + 1 = omega arith in
    drop-cons {A = ℕ} text at 0 inside ∙ ap (λ n. get_or text at 0 ∷ drop n text) e

one_more : (a n : ℕ) → a + suc n ≡ (a + 1) + n
one_more a n = omega arith

spelled_at : (text : List ℕ) (at : ℕ) (spot : Spot) (result : Step) → at < length text → step_of spot (get_or text at 0) ≡ result
    → spelled spot (drop at text) ≡ follows result (λ next. spelled next (drop (at + 1) text))
spelled_at text at spot result inside is =
    ap (spelled spot) (drop_next text at inside) ∙ spelled_by spot (get_or text at 0) (drop (at + 1) text) result is

until_by : (spot : Spot) (c : ℕ) (text : List ℕ) (n : ℕ) (result : Step) → step_of spot c ≡ result
    → until spot (c ∷ text) (suc n) ≡ counted result (λ next. until next text (suc n)) (λ next. until next text n)
unfolding until
until_by spot c text n result is = ap (λ r. counted r (λ next. until next text (suc n)) (λ next. until next text n)) is

until_at : (text : List ℕ) (at : ℕ) (spot : Spot) (n : ℕ) (result : Step) → at < length text → step_of spot (get_or text at 0) ≡ result
    → until spot (drop at text) (suc n) ≡ counted result (λ next. until next (drop (at + 1) text) (suc n)) (λ next. until next (drop (at + 1) text) n)
until_at text at spot n result inside is =
    ap (λ xs. until spot xs (suc n)) (drop_next text at inside) ∙ until_by spot (get_or text at 0) (drop (at + 1) text) n result is

pub begun : (text : List ℕ) (from : Reading) → IsIn text from → HasRead text from from.at from.spot
begun text from is = record { high = is.inside; fits = is.fits; same = refl; places = λ n. refl }

pub goes_on : (text : List ℕ) (from : Reading) (at : ℕ) (spot next : Spot) → at < length text → step.Goes next ≡ step_of spot (get_or text at 0) → Fits next.next
    → HasRead text from at spot → HasRead text from (at + 1) next
goes_on text from at spot next inside is fits h = record {
  high = omega arith;
  fits = fits;
  same = h.same ∙ spelled_at text at spot (step.Goes next) inside (sym is);
  places = λ n. h.places n ∙ ap (λ m. at + m) (until_at text at spot n (step.Goes next) inside (sym is)) ∙ one_more at (until next (drop (at + 1) text) (suc n));
}

pub gives : (text : List ℕ) (from : Reading) (at : ℕ) (spot next : Spot) (byte : ℕ) → at < length text → step.Gives byte next ≡ step_of spot (get_or text at 0)
    → Fits next.next → HasRead text from at spot → GivesNext text from (Some (record { byte = byte; then = record { at = at + 1; spot = next } }))
gives text from at spot next byte inside is fits h = record {
  bytes = h.same ∙ spelled_at text at spot (step.Gives byte next) inside (sym is);
  in_text = record { inside = omega arith; fits = fits };
  places = λ n. h.places n ∙ ap (λ m. at + m) (until_at text at spot n (step.Gives byte next) inside (sym is)) ∙ one_more at (until next (drop (at + 1) text) n);
}

pub ends : (text : List ℕ) (from : Reading) (at : ℕ) (spot : Spot) → at < length text → step.Ends ≡ step_of spot (get_or text at 0) → HasRead text from at spot
    → GivesNext text from None
ends text from at spot inside is h = h.same ∙ spelled_at text at spot step.Ends inside (sym is)

spelled_none : (spot : Spot) → spelled spot [] ≡ []
unfolding spelled
spelled_none spot = refl

pub no_text : (text : List ℕ) (from : Reading) (at : ℕ) (spot : Spot) → length text ≤ at → HasRead text from at spot → GivesNext text from None
no_text text from at spot over h = h.same ∙ ap (spelled spot) (drop_of_length-le text over) ∙ spelled_none spot
