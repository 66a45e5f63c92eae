-- Where a text goes wrong.
use Rattle.std.proofs.Common.{◌≡◌, ℕ, ◌+◌, min, Bool, true, false, if◌then◌else◌, List, [], ◌∷◌, ◌++◌, Option, Some, None, refl, sym, ap, subst, ◌∙◌, arith, append-nil}
use Rattle.std.specs.Prelude.{IfSome}
use Rattle.jser_inputs.specs.declared.Form.{Form}
use Rattle.jser_inputs.specs.declared.InputFault.{InputFault}
use Rattle.jser_inputs.specs.declared.place.Place.{Place}
use Rattle.jser_inputs.specs.declared.place.Place.TheVariants as place
use Rattle.jser_inputs.specs.declared.place.Step.TheVariants as step
use Rattle.jser_inputs.specs.declared.spot.Spot.{Spot}
use Rattle.jser_inputs.specs.declared.spot.Move.TheVariants as move
use Rattle.jser_inputs.specs.Decoding.{TextRead, misspelled, text_fault}
use Rattle.jser_inputs.specs.Spaces.{is_space}
use Rattle.jser_inputs.specs.Places.{first_spot, is_whole, is_wrong, move_of, moved}
use Rattle.jser_inputs.specs.Spelled.{Reads, counted, follows, no_byte, right_until, spelled}
use Rattle.jser_scan.specs.declared.Found.{Found}
use Rattle.jser_scan.specs.declared.Found.TheVariants as found
use Rattle.jser_records.specs.declared.answer.Answer.{Answer}
use Rattle.jser_records.specs.declared.answer.Answer.TheVariants as answer
use Rattle.jser_records.specs.declared.reading.Reading.{Reading}
use Rattle.jser_records.specs.Judged.{IsRead, Judging}
use Rattle.jser_records.specs.Readings.{GoesWrong, HasSpelled, IsOfBytes, IsPlaced, IsPlacedIn, IsWrongIn, Spells, most_place}

-- ---- nothing goes on behind a wrong place

same_if : (b : Bool) (spare : ℕ) → (if b then move.Wrong else moved spare step.Wrong) ≡ move.Wrong
same_if true spare = refl
same_if false spare = refl

wrong_move : (spare c : ℕ) → move_of (record { place = place.Wrong; spare = spare }) c ≡ move.Wrong
wrong_move spare c = same_if (is_space c) spare

wrong_place : (p : Place) → is_wrong p ≡ true → p ≡ place.Wrong
wrong_place place.Bytes is = absurd (cc)
wrong_place place.High is = absurd (cc)
wrong_place (place.Low high) is = absurd (cc)
wrong_place (place.First letters) is = absurd (cc)
wrong_place (place.Second letters bits) is = absurd (cc)
wrong_place (place.Third letters bits) is = absurd (cc)
wrong_place (place.Fourth letters bits) is = absurd (cc)
wrong_place place.Padding is = absurd (cc)
wrong_place place.Padded is = absurd (cc)
wrong_place place.Wrong is = refl

none_spelled : (spare : ℕ) (more : List ℕ) → spelled (record { place = place.Wrong; spare = spare }) more ≡ no_byte ∷ []
unfolding spelled
none_spelled spare [] = refl
none_spelled spare (c ∷ more) = ap (λ m. follows m (λ next. spelled next more)) (wrong_move spare c)

none_right : (spare : ℕ) (more : List ℕ) → right_until (record { place = place.Wrong; spare = spare }) more ≡ 0
unfolding right_until
none_right spare [] = refl
none_right spare (c ∷ more) = ap (λ m. counted m (λ next. right_until next more)) (wrong_move spare c)

wrong_spelled : (at : Spot) (more : List ℕ) → is_wrong at.place ≡ true → spelled at more ≡ no_byte ∷ []
wrong_spelled at more is = ap (λ p. spelled (record { place = p; spare = at.spare }) more) (wrong_place at.place is) ∙ none_spelled at.spare more

wrong_right : (at : Spot) (more : List ℕ) → is_wrong at.place ≡ true → right_until at more ≡ 0
wrong_right at more is = ap (λ p. right_until (record { place = p; spare = at.spare }) more) (wrong_place at.place is) ∙ none_right at.spare more

ends_wrong : (at : Spot) → is_whole at.place ≡ false → spelled at [] ≡ no_byte ∷ []
unfolding spelled
ends_wrong at is = ap (λ b. if b then [] else no_byte ∷ []) is

ends_right : (at : Spot) → right_until at [] ≡ 0
unfolding right_until
ends_right at = refl

-- ---- what is answered

wrong_if : (b : Bool) (d : TextRead) (why : InputFault) → (if b then Some (misspelled d.form d.at) else None) ≡ Some why
    → (answer.Checked (found.NotRead why) ≡ answer.Checked (found.NotRead (misspelled d.form d.at))) × (b ≡ true)
wrong_if true d why is = let same : misspelled d.form d.at ≡ why = cc in (ap (λ w. answer.Checked (found.NotRead w)) (sym same), refl)
wrong_if false d why is = absurd (cc)

pub wrong_in : (d : TextRead) (why : InputFault) → text_fault d ≡ Some why → IsWrongIn d (answer.Checked (found.NotRead why))
wrong_in d why is = wrong_if (is_wrong d.spot.place) d why is

read_placed : (form : Form) (mark : ℕ) (text : List ℕ) (result : Found) → IsRead result → IsPlacedIn form mark text result
read_placed form mark text (found.Accepted totals) is = tt
read_placed form mark text (found.Refused refusal class) is = tt
read_placed form mark text (found.Hidden from to class) is = tt
read_placed form mark text found.NotOpened is = tt
read_placed form mark text (found.NotRead why) is = absurd is
read_placed form mark text found.OutOfMemory is = tt

pub checked_placed : (form : Form) (mark : ℕ) (text : List ℕ) (result : Found) → IsRead result → IsPlaced form mark text (answer.Checked result)
checked_placed form mark text result is = read_placed form mark text result is

bytes_placed : (form : Form) (mark : ℕ) (text : List ℕ) (a : Answer) → IsOfBytes a → IsPlaced form mark text a
bytes_placed form mark text (answer.Checked result) is = read_placed form mark text result is
bytes_placed form mark text answer.Null is = tt
bytes_placed form mark text (answer.Longer most) is = tt
bytes_placed form mark text answer.LongKey is = tt
bytes_placed form mark text (answer.Cut at total) is = tt
bytes_placed form mark text answer.NoLength is = tt
bytes_placed form mark text answer.LineEndInKey is = tt
bytes_placed form mark text answer.ErrorReply is = tt

same_place : (d : TextRead) (form : Form) (mark count n : ℕ) → d.form ≡ form → d.at ≡ min (mark + count) most_place → n ≡ count → misspelled d.form d.at ≡ misspelled form (min (mark + n) most_place)
same_place d form mark count n is at all =
    ap (λ f. misspelled f d.at) is ∙ ap (λ k. misspelled form k) at ∙ ap (λ k. misspelled form (min (mark + k) most_place)) (sym all)

-- a text was read to a wrong place
goes_wrong : (d : TextRead) (form : Form) (mark : ℕ) (all out more : List ℕ) (count : ℕ) → Reads (first_spot form) d.spot all [] out count → d.form ≡ form → d.at ≡ min (mark + count) most_place
    → is_wrong d.spot.place ≡ true → GoesWrong form mark (all ++ more) (misspelled d.form d.at)
goes_wrong d form mark all out more count reads is at wrong = record {
  place =
      let one = reads.right more in
      let none = wrong_right d.spot more wrong in
      same_place d form mark count (right_until (first_spot form) (all ++ more)) is at (omega (arith, one, none));
  front = out;
  wrong = reads.spells more ∙ ap (λ xs. out ++ xs) (wrong_spelled d.spot more wrong);
}

placed_if : (new : Option Answer) (d : TextRead) (form : Form) (mark : ℕ) (all out : List ℕ) (count : ℕ) → IfSome new (λ a. IsWrongIn d a) → Reads (first_spot form) d.spot all [] out count
    → d.form ≡ form → d.at ≡ min (mark + count) most_place → IfSome new (λ a. (more : List ℕ) → IsPlaced form mark (all ++ more) a)
placed_if None d form mark all out count wrong reads is at = tt
placed_if (Some a) d form mark all out count wrong reads is at = λ more.
    subst (λ b. IsPlaced form mark (all ++ more) b) (sym wrong.0) (goes_wrong d form mark all out more count reads is at wrong.1)

pub placed_now : (mid new : Option Answer) (d : TextRead) (form : Form) (mark : ℕ) (all out : List ℕ) (count : ℕ) → IfSome mid IsOfBytes → IfSome mid (λ a. new ≡ Some a)
    → (mid ≡ None → IfSome new (λ a. IsWrongIn d a)) → Reads (first_spot form) d.spot all [] out count → d.form ≡ form → d.at ≡ min (mark + count) most_place
    → IfSome new (λ a. (more : List ℕ) → IsPlaced form mark (all ++ more) a)
placed_now None new d form mark all out count is_of kept wrong reads is at = placed_if new d form mark all out count (wrong refl) reads is at
placed_now (Some a) new d form mark all out count is_of kept wrong reads is at =
    subst (λ o. IfSome o (λ b. (more : List ℕ) → IsPlaced form mark (all ++ more) b)) (sym kept) (λ more. bytes_placed form mark (all ++ more) a is_of)

-- ---- a mark before the text

pub spells_behind : (old new : Reading) (form : Form) (count : ℕ) → new ≡ record old { decoder = new.decoder } → new.decoder ≡ record old.decoder { at = min (old.decoder.at + count) most_place }
    → old.answer ≡ None → HasSpelled old form 0 [] → HasSpelled new form count []
spells_behind old new form count is moved none had =
    let d = record old.decoder { at = min (old.decoder.at + count) most_place } in
    let made : Spells old.judge old.most old.room old.answer d form count [] =
    record {
      bytes = had.bytes;
      stands = had.stands;
      begins = had.begins;
      count = had.count;
      reads = had.reads;
      right = had.right;
      form_is = had.form_is;
      at = λ so. let at = had.at so in omega (arith, at);
      placed = subst (λ o. IfSome o (λ a. (more : List ℕ) → IsPlaced form count more a)) (sym none) tt;
    } in
    subst (λ r. HasSpelled r form count []) (sym is) (subst (λ e. Spells old.judge old.most old.room old.answer e form count []) (sym moved) made)

-- ---- the end of a text

ended_placed : (b : Bool) (judge : Judging) (most room : ℕ) (d e : TextRead) (form : Form) (mark : ℕ) (text : List ℕ) (result : Answer) → Spells judge most room None d form mark text → is_whole d.spot.place ≡ b
    → e ≡ (if b then d else record d { spot = record d.spot { place = place.Wrong } }) → IsWrongIn e result → IsPlaced form mark text result
ended_placed true judge most room d e form mark text result had whole is wrong =
    let not : is_wrong d.spot.place ≡ false = had.right refl in
    let so : is_wrong d.spot.place ≡ true = sym (ap (λ (x : TextRead). is_wrong x.spot.place) is) ∙ wrong.1 in
    absurd (cc)
ended_placed false judge most room d e form mark text result had whole is wrong =
    let reads = had.reads refl in
    let one : right_until (first_spot form) (text ++ []) ≡ had.count + right_until d.spot [] = reads.right [] in
    let same : text ++ [] ≡ text = append-nil text in
    let right : right_until (first_spot form) text ≡ had.count = ap (λ xs. right_until (first_spot form) xs) (sym same) ∙ one ∙ ap (λ k. had.count + k) (ends_right d.spot) ∙ omega arith in
    subst (λ a. IsPlaced form mark text a) (sym (wrong.0 ∙ ap (λ (x : TextRead). answer.Checked (found.NotRead (misspelled x.form x.at))) is))
    (record {
      place = same_place d form mark had.count (right_until (first_spot form) text) (had.form_is refl) (had.at refl) right;
      front = had.bytes;
      wrong = ap (λ xs. spelled (first_spot form) xs) (sym same) ∙ reads.spells [] ∙ ap (λ xs. had.bytes ++ xs) (ends_wrong d.spot whole);
    })

pub finish_placed : (o : Option Answer) (judge : Judging) (most room : ℕ) (new : Option Answer) (d e : TextRead) (form : Form) (mark : ℕ) (text : List ℕ) (result : Answer)
    → Spells judge most room o d form mark text → new ≡ Some result → IfSome o (λ a. new ≡ Some a) → (o ≡ None → IfSome new (λ a. IsWrongIn e a))
    → e ≡ (if is_whole d.spot.place then d else record d { spot = record d.spot { place = place.Wrong } }) → IsPlaced form mark text result
finish_placed None judge most room new d e form mark text result had is kept wrong ended =
    ended_placed (is_whole d.spot.place) judge most room d e form mark text result had refl ended (subst (λ o. IfSome o (λ a. IsWrongIn e a)) is (wrong refl))
finish_placed (Some a) judge most room new d e form mark text result had is kept wrong ended =
    let same : Some a ≡ Some result = sym kept ∙ is in
    subst (λ xs. IsPlaced form mark xs result) (append-nil text) (subst (λ o. IfSome o (λ b. (more : List ℕ) → IsPlaced form mark (text ++ more) b)) same had.placed [])
