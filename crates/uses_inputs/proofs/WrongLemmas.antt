-- Where a text goes wrong, as a fault tells it.
use Rattle.std.proofs.Common.{◌≡◌, ℕ, ◌+◌, Bool, true, false, List, [], ◌∷◌, Option, Some, None, IfSome, option_map, if◌then◌else◌, refl, ap, ◌∙◌, subst, arith}
use Rattle.jser_inputs.specs.declared.Form.{Form}
use Rattle.jser_inputs.specs.declared.Form.TheVariants as form
use Rattle.jser_inputs.specs.declared.place.Place.{Place}
use Rattle.jser_inputs.specs.declared.place.Place.TheVariants as place
use Rattle.jser_inputs.specs.declared.spot.Spot.{Spot}
use Rattle.jser_inputs.specs.declared.spot.Move.TheVariants as move
use Rattle.jser_inputs.specs.declared.InputFault.TheVariants as fault
use Rattle.jser_inputs.specs.Decoding.{Decoding, KeepsNumber, fault_in, misspelled, right_in}
use Rattle.jser_inputs.specs.Spaces.{is_space}
use Rattle.jser_inputs.specs.Places.{first_spot, is_wrong}
use Rattle.jser_inputs.specs.Spelled.{counted, right_until}

step_wrong : (b : Bool) → (if b then move.Wrong else move.Wrong) ≡ move.Wrong
step_wrong true = refl
step_wrong false = refl

abbrev at : Place → ℕ → Spot
at place spare = record { place = place; spare = spare }

none_right : (s : ℕ) (text : List ℕ) → right_until (at place.Wrong s) text ≡ 0
unfolding right_until
none_right s [] = refl
none_right s (c ∷ text) = ap (λ m. counted m (λ next. right_until next text)) (step_wrong (is_space c))

told_here : (p : Place) (s : ℕ) (f : Form) (n told : ℕ) (rest text : Option (List ℕ)) → f ≡ form.Hex
    → KeepsNumber (option_map (right_until (first_spot form.Hex)) text) (option_map (λ xs. n + right_until (at p s) xs) rest)
    → (if is_wrong p then misspelled f n else fault.Failed) ≡ fault.NotHexadecimal told → IfSome text (λ xs. told ≡ right_until (first_spot form.Hex) xs)
told_here p s f n told rest None e kept is = tt
told_here p s f n told None (Some xs) e kept is = absurd kept
told_here place.Wrong s form.Hex n told (Some ys) (Some xs) e kept is =
    let same : n ≡ told = cc is in
    let none : right_until (at place.Wrong s) ys ≡ 0 = none_right s ys in
    omega (arith, same, none, kept)
told_here place.Wrong s form.Binary n told (Some ys) (Some xs) e kept is = absurd (cc)
told_here place.Wrong s form.Base64 n told (Some ys) (Some xs) e kept is = absurd (cc)
told_here place.Wrong s form.Base64Url n told (Some ys) (Some xs) e kept is = absurd (cc)
told_here place.Bytes s f n told (Some ys) (Some xs) e kept is = absurd (cc)
told_here place.High s f n told (Some ys) (Some xs) e kept is = absurd (cc)
told_here (place.Low high) s f n told (Some ys) (Some xs) e kept is = absurd (cc)
told_here (place.First a) s f n told (Some ys) (Some xs) e kept is = absurd (cc)
told_here (place.Second a bits) s f n told (Some ys) (Some xs) e kept is = absurd (cc)
told_here (place.Third a bits) s f n told (Some ys) (Some xs) e kept is = absurd (cc)
told_here (place.Fourth a bits) s f n told (Some ys) (Some xs) e kept is = absurd (cc)
told_here place.Padding s f n told (Some ys) (Some xs) e kept is = absurd (cc)
told_here place.Padded s f n told (Some ys) (Some xs) e kept is = absurd (cc)

pub told_place : (old new : Decoding) (text : Option (List ℕ)) (told : ℕ) → old.form ≡ form.Hex → right_in old ≡ option_map (right_until (first_spot form.Hex)) text → new.form ≡ old.form
    → KeepsNumber (right_in old) (right_in new) → fault_in new ≡ fault.NotHexadecimal told → IfSome text (λ xs. told ≡ right_until (first_spot form.Hex) xs)
told_place old new text told hex begins same kept is =
    told_here new.spot.place new.spot.spare new.form new.at told new.text text (same ∙ hex) (subst (λ x. KeepsNumber x (right_in new)) begins kept) is
