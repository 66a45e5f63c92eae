-- What was found of the bytes of a record, and of the text that spells them.
use Rattle.std.proofs.Common.{◌≡◌, ℕ, ◌+◌, ◌-◌, min, ◌≤◌, ◌<◌, ◌^◌, Bool, true, false, if◌then◌else◌, List, [], ◌∷◌, ◌++◌, length, take, drop, Option, Some, None, inl, inr, refl, sym, ap, subst, ◌∙◌, arith, append_assoc, append-nil, take-append-drop, length-append}
use Rattle.std.specs.Option.{is_some}
use Rattle.std.specs.Prelude.{IfSome}
use Rattle.jser_inputs.specs.declared.Form.{Form}
use Rattle.jser_inputs.specs.declared.Form.TheVariants as form
use Rattle.jser_inputs.specs.declared.InputFault.{InputFault}
use Rattle.jser_inputs.specs.declared.place.Place.TheVariants as place
use Rattle.jser_inputs.specs.declared.spot.Spot.{Spot}
use Rattle.jser_inputs.specs.Decoding.{TextRead}
use Rattle.jser_inputs.specs.Places.{first_place, first_spot, is_whole, is_wrong}
use Rattle.jser_inputs.specs.Spelled.{Reads, right_until, spelled, spelling_of}
use Rattle.jser_inputs.proofs.ReadLemmas.{reads_none}
use Rattle.jser_scan.specs.declared.Found.{Found}
use Rattle.jser_scan.specs.declared.Found.TheVariants as found
use Rattle.jser_scan.specs.declared.Rules.{Rules}
use Rattle.jser_scan.specs.Founds.{IsFoundIf}
use Rattle.jser_scan.specs.Lines.{is_accepted}
use Rattle.jser_records.specs.declared.answer.Answer.{Answer}
use Rattle.jser_records.specs.declared.answer.Answer.TheVariants as answer
use Rattle.jser_records.specs.Judged.{HasJudged, IsDecided, IsSound, Judging}
use Rattle.jser_records.specs.declared.reading.Reading.{Reading}
use Rattle.jser_records.specs.Readings.{Came, HasCome, HasRead, HasSpelled, IsFor, IsOf, IsOfBytes, IsOfDigits, IsPlaced, IsRight, IsWrongIn, Spells, Stands, Value, none, plain, text_of, cut_at, unknown, parted, failed}
use Rattle.jser_records.proofs.PlaceLemmas.{placed_now}
use Rattle.jser_records.proofs.SpareLemmas.{IsDigitPlace, spare_within}

-- ---- answers

unread_if : (b : Bool) (rules : Rules) (bytes : List ℕ) (why : InputFault) → IsFoundIf b rules bytes (found.NotRead why)
unread_if false rules bytes why = tt
unread_if true rules bytes why = tt

pub unread_right : (rules : Rules) (most : ℕ) (bytes : List ℕ) (why : InputFault) → IsRight rules most bytes (answer.Checked (found.NotRead why))
unread_right rules most bytes why = (
  record {
    found = unread_if rules.anywhere rules bytes why;
    name = record { first = bytes; rest = []; split = sym (append-nil bytes); stands = λ few. tt };
  },
  λ yes. absurd (cc),
)

undecided_if : (b : Bool) (rules : Rules) (bytes : List ℕ) → IsFoundIf b rules bytes found.OutOfMemory
undecided_if false rules bytes = tt
undecided_if true rules bytes = tt

pub undecided_right : (rules : Rules) (most : ℕ) (bytes : List ℕ) → IsRight rules most bytes (answer.Checked found.OutOfMemory)
undecided_right rules most bytes = (
  record {
    found = undecided_if rules.anywhere rules bytes;
    name = record { first = bytes; rest = []; split = sym (append-nil bytes); stands = λ few. tt };
  },
  λ yes. absurd (cc),
)

pub answers : (judge : Judging) (most room : ℕ) (result : Answer) (bytes : List ℕ) → ((more : List ℕ) → IsRight judge.rules most (bytes ++ more) result)
    → Stands judge most room (Some result) bytes
answers judge most room result bytes right = record { going = λ none. absurd (cc); answered = right }

-- ---- bytes

pub begins : (judge : Judging) (most : ℕ) → HasJudged judge [] → Stands judge most most None []
begins judge most judged = record { going = λ none. record { judged = judged; counted = omega arith }; answered = tt }

joined : (taken front rest piece more : List ℕ) → piece ≡ front ++ rest → (taken ++ front) ++ (rest ++ more) ≡ (taken ++ piece) ++ more
joined taken front rest piece more split =
    sym (append_assoc (taken ++ front) rest more) ∙ ap (λ xs. xs ++ more) (append_assoc taken front rest ∙ ap (λ xs. taken ++ xs) (sym split))

pub took_found : (new : Judging) (most room : ℕ) (taken front rest piece : List ℕ) (result : Found) → piece ≡ front ++ rest → IsDecided new.rules (taken ++ front) result
    → Stands new most room (Some (answer.Checked result)) (taken ++ piece)
took_found new most room taken front rest piece result split d = record {
  going = λ none. absurd (cc);
  answered = λ more. (subst (λ xs. IsSound new.rules xs result) (joined taken front rest piece more split) (d.sound (rest ++ more)), λ yes. let no : is_accepted result ≡ false = d.refuses in absurd (cc));
}

-- a record that is answered takes no more
pub took_none : (judge : Judging) (most room : ℕ) (result : Option Answer) (taken piece : List ℕ) → is_some result ≡ true → Stands judge most room result taken
    → Stands judge most room result (taken ++ piece)
took_none judge most room None taken piece is had = absurd (cc)
took_none judge most room (Some a) taken piece is had = record {
  going = λ none. absurd (cc);
  answered = λ more. subst (λ xs. IsRight judge.rules most xs a) (sym (append_assoc taken piece more)) (had.answered (piece ++ more));
}

-- ---- texts

reads_both : (a b c : Spot) (xs ys out more : List ℕ) (n m : ℕ) → Reads a b xs [] out n → Reads b c ys [] more m → Reads a c (xs ++ ys) [] (out ++ more) (n + m)
reads_both a b c xs ys out more n m f g = record {
  spells =
      λ z. ap (λ w. spelled a w) (append_assoc xs ys z) ∙ f.spells (ys ++ z) ∙ ap (λ w. out ++ w) (g.spells z) ∙ sym (append_assoc out more (spelled c z));
  right =
      λ z.
      let one : right_until a ((xs ++ ys) ++ z) ≡ n + right_until b (ys ++ z) = ap (λ w. right_until a w) (append_assoc xs ys z) ∙ f.right (ys ++ z) in
      let two : right_until b (ys ++ z) ≡ m + right_until c z = g.right z in
      omega (arith, one, two);
}

first_right : (form : Form) → is_wrong (first_place form) ≡ false
first_right form.Binary = refl
first_right form.Hex = refl
first_right form.Base64 = refl
first_right form.Base64Url = refl

pub spells_none : (judge : Judging) (most : ℕ) (form : Form) → HasJudged judge [] → Spells judge most most None (record { form = form; spot = first_spot form; at = 0 }) form 0 []
spells_none judge most form judged = record {
  bytes = [];
  stands = begins judge most judged;
  begins = λ more. (spelled (first_spot form) more, refl);
  count = 0;
  reads = λ none. reads_none (first_spot form) [];
  right = λ none. first_right form;
  form_is = λ none. refl;
  at = λ none. omega arith;
  placed = tt;
}

pub spells_stopped : (judge : Judging) (most room : ℕ) (result : Option Answer) (d next : TextRead) (form : Form) (mark : ℕ) (text piece : List ℕ) → is_some result ≡ true
    → Spells judge most room result d form mark text → Spells judge most room result next form mark (text ++ piece)
spells_stopped judge most room None d next form mark text piece is had = absurd (cc)
spells_stopped judge most room (Some a) d next form mark text piece is had = record {
  bytes = had.bytes;
  stands = record { going = λ none. absurd (cc); answered = had.stands.answered };
  begins =
      λ more.
      let x = had.begins (piece ++ more) in
      (x.0, ap (λ w. spelled (first_spot form) w) (append_assoc text piece more) ∙ x.1);
  count = had.count;
  reads = λ none. absurd (cc);
  right = λ none. absurd (cc);
  form_is = λ none. absurd (cc);
  at = λ none. absurd (cc);
  placed = λ more. subst (λ xs. IsPlaced form mark xs a) (sym (append_assoc text piece more)) (had.placed (piece ++ more));
}

-- there was no memory
pub spells_answered : (judge : Judging) (most room : ℕ) (old : Option Answer) (d : TextRead) (form : Form) (mark : ℕ) (text piece : List ℕ)
    → Spells judge most room old d form mark text → Spells judge most room (Some (answer.Checked found.OutOfMemory)) d form mark (text ++ piece)
spells_answered judge most room old d form mark text piece had = record {
  bytes = had.bytes;
  stands = record { going = λ none. absurd (cc); answered = λ more. undecided_right judge.rules most (had.bytes ++ more) };
  begins =
      λ more.
      let x = had.begins (piece ++ more) in
      (x.0, ap (λ w. spelled (first_spot form) w) (append_assoc text piece more) ∙ x.1);
  count = had.count;
  reads = λ none. absurd (cc);
  right = λ none. absurd (cc);
  form_is = λ none. absurd (cc);
  at = λ none. absurd (cc);
  placed = λ more. tt;
}

pub spells_on : (judge new : Judging) (limit most room left : ℕ) (mid result : Option Answer) (d next : TextRead) (form : Form) (mark : ℕ) (text piece out : List ℕ) (taken : ℕ)
    → (had : Spells judge limit room None d form mark text) → Reads d.spot next.spot piece [] out taken → next.form ≡ d.form → next.at ≡ min (d.at + taken) (2 ^ 64 - 1)
    → Stands new most left result (had.bytes ++ out) → (result ≡ None → is_wrong next.spot.place ≡ false) → IfSome mid IsOfBytes → IfSome mid (λ a. result ≡ Some a)
    → (mid ≡ None → IfSome result (λ a. IsWrongIn next a)) → Spells new most left result next form mark (text ++ piece)
spells_on judge new limit most room left mid result d next form mark text piece out taken had reads same moved stands right is_of kept wrong =
    let all : Reads (first_spot form) next.spot (text ++ piece) [] (had.bytes ++ out) (had.count + taken) =
    reads_both (first_spot form) d.spot next.spot text piece had.bytes out had.count taken (had.reads refl) reads in
    let is : next.form ≡ form = same ∙ had.form_is refl in
    let at : next.at ≡ min (mark + (had.count + taken)) (2 ^ 64 - 1) = let before = had.at refl in omega (arith, before, moved) in
    record {
      bytes = had.bytes ++ out;
      stands = stands;
      begins = λ more. (spelled next.spot more, all.spells more);
      count = had.count + taken;
      reads = λ none. all;
      right = right;
      form_is = λ none. is;
      at = λ none. at;
      placed = placed_now mid result next form mark (text ++ piece) (had.bytes ++ out) (had.count + taken) is_of kept wrong all is at;
    }

digit_place : (form : Form) → IsOfDigits form → IsDigitPlace (first_place form)
digit_place form.Binary digits = absurd digits
digit_place form.Hex digits = tt
digit_place form.Base64 digits = tt
digit_place form.Base64Url digits = tt

-- white space is counted as far as that goes, unless the text has some 2^63 characters
pub spare_room : (judge : Judging) (most room : ℕ) (d : TextRead) (form : Form) (mark : ℕ) (text piece : List ℕ) → IsOfDigits form → length (text ++ piece) < 2 ^ 63
    → Spells judge most room None d form mark text → d.spot.spare + length piece < 2 ^ 64
spare_room judge most room d form mark text piece digits few had =
    let spare : d.spot.spare ≤ 1048576 + length text =
    spare_within (first_spot form) d.spot text had.bytes had.count (digit_place form digits) (had.reads refl) (had.right refl) in
    let size : length (text ++ piece) ≡ length text + length piece = length-append text piece in
    omega (arith, spare, size, few)

pub none_of : (result : Option Answer) → is_some result ≡ false → result ≡ None
none_of None is = refl
none_of (Some a) is = absurd (cc)

pub parts_join : (n : ℕ) (bytes first rest : List ℕ) → first ≡ take n bytes → rest ≡ drop n bytes → bytes ≡ first ++ rest
parts_join n bytes first rest f r = sym (take-append-drop n bytes) ∙ ap (λ xs. xs ++ drop n bytes) (sym f) ∙ ap (λ xs. first ++ xs) (sym r)

-- ---- ends

ends_whole : (spot : Spot) → is_whole spot.place ≡ true → spelled spot [] ≡ []
unfolding spelled
ends_whole spot is = ap (λ b. if b then [] else 256 ∷ []) is

-- a text that ends where it may spells what came
pub spelled_all : (judge : Judging) (most room : ℕ) (d : TextRead) (form : Form) (mark : ℕ) (text : List ℕ) (had : Spells judge most room None d form mark text) → is_whole d.spot.place ≡ true
    → spelling_of form text ≡ had.bytes
spelled_all judge most room d form mark text had whole =
    ap (λ w. spelled (first_spot form) w) (sym (append-nil text)) ∙ (had.reads refl).spells [] ∙ ap (λ w. had.bytes ++ w) (ends_whole d.spot whole) ∙ append-nil had.bytes

pub answered_right : (judge : Judging) (most room : ℕ) (result : Answer) (bytes : List ℕ) → Stands judge most room (Some result) bytes → IsRight judge.rules most bytes result
answered_right judge most room result bytes had = subst (λ xs. IsRight judge.rules most xs result) (append-nil bytes) (had.answered [])

pub answered_spelled : (judge : Judging) (most room : ℕ) (result : Answer) (d : TextRead) (form : Form) (mark : ℕ) (text : List ℕ) → Spells judge most room (Some result) d form mark text
    → IsRight judge.rules most (spelling_of form text) result
answered_spelled judge most room result d form mark text had =
    let x = had.begins [] in
    subst (λ xs. IsRight judge.rules most xs result) (sym (ap (λ w. spelled (first_spot form) w) (sym (append-nil text)) ∙ x.1)) (had.stands.answered x.0)

pub found_right : (judge : Judging) (most room : ℕ) (bytes : List ℕ) (result : Found) → Stands judge most room None bytes
    → ((taken : List ℕ) → HasJudged judge taken → IsSound judge.rules taken result) → IsRight judge.rules most bytes (answer.Checked result)
found_right judge most room bytes result had finds =
    let g = had.going refl in
    let count : length bytes + room ≡ most = g.counted in
    (finds bytes g.judged, λ yes. omega (arith, count))

-- what is answered is right of the text: it was answered before, or the text went wrong
pub answer_spelled : (judge : Judging) (most room : ℕ) (old new : Option Answer) (result : Answer) (d : TextRead) (form : Form) (mark : ℕ) (text : List ℕ)
    → Spells judge most room old d form mark text → new ≡ Some result → IfSome old (λ a. new ≡ Some a)
    → (old ≡ None → (rules : Rules) (most : ℕ) (bytes : List ℕ) → IfSome new (λ a. IsRight rules most bytes a)) → IsRight judge.rules most (spelling_of form text) result
answer_spelled judge most room None new result d form mark text had is kept unread =
    subst (λ o. IfSome o (λ a. IsRight judge.rules most (spelling_of form text) a)) is (unread refl judge.rules most (spelling_of form text))
answer_spelled judge most room (Some a) new result d form mark text had is kept unread =
    let same : Some a ≡ Some result = sym kept ∙ is in
    answered_spelled judge most room result d form mark text (subst (λ o. Spells judge most room o d form mark text) same had)

whole_if : (b : Bool) (d new : TextRead) → new ≡ (if b then d else record d { spot = record d.spot { place = place.Wrong } }) → is_wrong new.spot.place ≡ false → b ≡ true
whole_if true d new is right = refl
whole_if false d new is right = let wrong : is_wrong new.spot.place ≡ true = ap (λ t. is_wrong t.spot.place) is in absurd (cc)

pub found_spelled : (judge : Judging) (most room : ℕ) (d new : TextRead) (form : Form) (mark : ℕ) (text : List ℕ) (result : Found) → Spells judge most room None d form mark text
    → new ≡ (if is_whole d.spot.place then d else record d { spot = record d.spot { place = place.Wrong } }) → is_wrong new.spot.place ≡ false
    → ((taken : List ℕ) → HasJudged judge taken → IsSound judge.rules taken result) → IsRight judge.rules most (spelling_of form text) (answer.Checked result)
found_spelled judge most room d new form mark text result had is right finds =
    subst (λ xs. IsRight judge.rules most xs (answer.Checked result)) (sym (spelled_all judge most room d form mark text had (whole_if (is_whole d.spot.place) d new is right)))
    (found_right judge most room had.bytes result had.stands finds)

-- ---- values

finish_of : (r : Reading) (result : Answer) (value : Value) → ((bytes : List ℕ) → HasRead r bytes → IsRight r.judge.rules r.most bytes result)
    → ((form : Form) (mark : ℕ) (text : List ℕ) → HasSpelled r form mark text → IsRight r.judge.rules r.most (spelling_of form text) result × IsPlaced form mark text result)
    → (r.decoder.spot.place ≡ place.Bytes → IfSome r.answer IsOfBytes → IsOfBytes result) → IfSome r.answer (λ a. result ≡ a) → HasCome r value
    → IsOf r.judge.rules r.most value result
finish_of r result none right spelled is_of kept came = subst (λ o. IfSome o (λ b. result ≡ b)) came kept
finish_of r result (plain bytes) right spelled is_of kept came = (right bytes came.read, is_of came.place came.is_of)
finish_of r result (text_of form mark text) right spelled is_of kept came = spelled form mark text came
finish_of r result (cut_at at total) right spelled is_of kept came = subst (λ o. IfSome o (λ b. result ≡ b)) came kept
finish_of r result unknown right spelled is_of kept came = subst (λ o. IfSome o (λ b. result ≡ b)) came kept
finish_of r result parted right spelled is_of kept came = subst (λ o. IfSome o (λ b. result ≡ b)) came kept
finish_of r result failed right spelled is_of kept came = subst (λ o. IfSome o (λ b. result ≡ b)) came kept

pub finish_for : (r : Reading) (is_lost : Bool) (result : Answer) (value : Value) → ((bytes : List ℕ) → HasRead r bytes → IsRight r.judge.rules r.most bytes result)
    → ((form : Form) (mark : ℕ) (text : List ℕ) → HasSpelled r form mark text → IsRight r.judge.rules r.most (spelling_of form text) result × IsPlaced form mark text result)
    → (r.decoder.spot.place ≡ place.Bytes → IfSome r.answer IsOfBytes → IsOfBytes result) → IfSome r.answer (λ a. result ≡ a) → is_lost ≡ r.key.is_lost → Came r value
    → IsFor r.judge.rules r.most is_lost value result
finish_for r is_lost result value right spelled is_of kept same (inl came) = inl (finish_of r result value right spelled is_of kept came)
finish_for r is_lost result value right spelled is_of kept same (inr (inl out)) = inr (inl (subst (λ o. IfSome o (λ b. result ≡ b)) out kept))
finish_for r is_lost result value right spelled is_of kept same (inr (inr long)) = inr (inr (subst (λ o. IfSome o (λ b. result ≡ b)) long.0 kept, same ∙ long.1))

pub undecided_for : (rules : Rules) (most : ℕ) (is_lost : Bool) (value : Value) → IsFor rules most is_lost value (answer.Checked found.OutOfMemory)
undecided_for rules most is_lost value = inr (inl refl)
