-- A text that is read character by character.
use Rattle.std.proofs.Common.{◌≡◌, ℕ, suc, ◌+◌, ◌<◌, ◌≤◌, length, take, drop, get_or, set, Bool, true, false, if◌then◌else◌, List, [], ◌∷◌, ◌++◌, refl, sym, ap, subst, ◌∙◌, arith, append_assoc}
use Rattle.std.proofs.lemmas.List.{length-take-le, get_or-take, get_or-drop, drop_more, drop-drop, drop-set-lt, take_more_set}
use Rattle.jser_inputs.specs.declared.place.Place.TheVariants as place
use Rattle.jser_inputs.specs.declared.spot.Spot.{Spot}
use Rattle.jser_inputs.specs.declared.spot.Move.{Move}
use Rattle.jser_inputs.specs.declared.spot.Move.TheVariants as move
use Rattle.jser_inputs.specs.Spaces.{is_space}
use Rattle.jser_inputs.specs.Places.{move_of}
use Rattle.jser_inputs.specs.Spelled.{Reads, spelled, right_until, follows, counted, no_byte}

-- behind a wrong character no text spells anything

either : (b : Bool) (s : Move) → (if b then s else s) ≡ s
either true s = refl
either false s = refl

abbrev pub wrong : ℕ → Spot
wrong spare = record { place = place.Wrong; spare = spare }

wrong_move : (spare c : ℕ) → move_of (wrong spare) c ≡ move.Wrong
wrong_move spare c = either (is_space c) move.Wrong

pub spelled_wrong : (spare : ℕ) (text : List ℕ) → spelled (wrong spare) text ≡ no_byte ∷ []
unfolding spelled
spelled_wrong spare [] = refl
spelled_wrong spare (c ∷ text) = ap (λ s. follows s (λ next. spelled next text)) (wrong_move spare c)

pub right_wrong : (spare : ℕ) (text : List ℕ) → right_until (wrong spare) text ≡ 0
unfolding right_until
right_wrong spare [] = refl
right_wrong spare (c ∷ text) = ap (λ s. counted s (λ next. right_until next text)) (wrong_move spare c)

-- bytes as they are spell themselves

abbrev pub plain : ℕ → Spot
plain spare = record { place = place.Bytes; spare = spare }

bytes_step : (spare c : ℕ) → move_of (plain spare) c ≡ move.Gives c (plain spare)
bytes_step spare c = either (is_space c) (move.Gives c (plain spare))

bytes_spelled : (spare : ℕ) (text more : List ℕ) → spelled (plain spare) (text ++ more) ≡ text ++ spelled (plain spare) more
unfolding spelled
bytes_spelled spare [] more = refl
bytes_spelled spare (c ∷ text) more =
    ap (λ s. follows s (λ next. spelled next (text ++ more))) (bytes_step spare c) ∙ ap (λ xs. c ∷ xs) (bytes_spelled spare text more)

bytes_right : (spare : ℕ) (text more : List ℕ) → right_until (plain spare) (text ++ more) ≡ length text + right_until (plain spare) more
unfolding right_until
bytes_right spare [] more = omega arith
bytes_right spare (c ∷ text) more =
    ap (λ s. counted s (λ next. right_until next (text ++ more))) (bytes_step spare c) ∙ ap suc (bytes_right spare text more) ∙ omega arith

all_plain : (spare : ℕ) (buf : List ℕ) (count : ℕ) → count ≤ length buf → Reads (plain spare) (plain spare) (take count buf) [] (take count buf) count
all_plain spare buf count inside = record {
  spells = λ more. bytes_spelled spare (take count buf) more;
  right = λ more. bytes_right spare (take count buf) more ∙ ap (λ n. n + right_until (plain spare) more) (length-take-le count buf inside);
}

pub as_they_are : (start : Spot) (buf : List ℕ) (count : ℕ) → start.place ≡ place.Bytes → count ≤ length buf → Reads start start (take count buf) [] (take count buf) count
as_they_are start buf count is inside =
    subst (λ p. Reads (record { place = p; spare = start.spare }) (record { place = p; spare = start.spare }) (take count buf) [] (take count buf) count) (sym is) (all_plain start.spare buf count inside)

-- nothing was read
pub reads_none : (start : Spot) (text : List ℕ) → Reads start start text text [] 0
reads_none start text = record { spells = λ more. refl; right = λ more. omega arith }

-- one character more, which completes no byte
pub reads_goes : (start now next : Spot) (text rest out : List ℕ) (c taken : ℕ) → Reads start now text (c ∷ rest) out taken
    → move.Goes next ≡ move_of now c → Reads start next text rest out (taken + 1)
unfolding spelled right_until
reads_goes start now next text rest out c taken r is = record {
  spells = λ more. r.spells more ∙ ap (λ s. out ++ follows s (λ p. spelled p (rest ++ more))) (sym is);
  right = λ more. r.right more ∙ ap (λ s. taken + counted s (λ p. right_until p (rest ++ more))) (sym is) ∙ omega arith;
}

-- one that completes a byte
pub reads_gives : (start now next : Spot) (text rest out : List ℕ) (c byte taken : ℕ) → Reads start now text (c ∷ rest) out taken
    → move.Gives byte next ≡ move_of now c → Reads start next text rest (out ++ byte ∷ []) (taken + 1)
unfolding spelled right_until
reads_gives start now next text rest out c byte taken r is = record {
  spells = λ more. r.spells more ∙ ap (λ s. out ++ follows s (λ p. spelled p (rest ++ more))) (sym is) ∙ sym (append_assoc out (byte ∷ []) (spelled next (rest ++ more)));
  right = λ more. r.right more ∙ ap (λ s. taken + counted s (λ p. right_until p (rest ++ more))) (sym is) ∙ omega arith;
}

-- one that may not come there
pub reads_wrong : (start now : Spot) (spare : ℕ) (text rest out : List ℕ) (c taken : ℕ) → Reads start now text (c ∷ rest) out taken
    → move.Wrong ≡ move_of now c → Reads start (wrong spare) text [] out taken
unfolding spelled right_until
reads_wrong start now spare text rest out c taken r is = record {
  spells = λ more. r.spells more ∙ ap (λ s. out ++ follows s (λ p. spelled p (rest ++ more))) (sym is) ∙ ap (λ xs. out ++ xs) (sym (spelled_wrong spare more));
  right = λ more. r.right more ∙ ap (λ s. taken + counted s (λ p. right_until p (rest ++ more))) (sym is) ∙ ap (λ n. taken + n) (sym (right_wrong spare more));
}

-- the character that is read next, where those that are left are as they were
pub next_character : (old buf : List ℕ) (count taken d : ℕ) → taken < count → count ≤ length old → drop taken buf ≡ drop taken old
    → drop taken (take count old) ≡ get_or buf taken d ∷ drop (taken + 1) (take count old)
next_character old buf count taken d inside within left =
    let size : length (take count old) ≡ count = length-take-le count old within in
    let here : get_or (take count old) taken d ≡ get_or buf taken d =
    get_or-take count old taken d inside
    ∙ ap (λ k. get_or old k d) (omega arith) ∙ sym (get_or-drop taken old 0 d) ∙ ap (λ xs. get_or xs 0 d) (sym left)
    ∙ get_or-drop taken buf 0 d ∙ ap (λ k. get_or buf k d) (omega arith) in
    drop_more (take count old) taken d (omega (arith, size, inside)) ∙ ap (λ c. c ∷ drop (taken + 1) (take count old)) here

-- those behind it are as they were too
pub passed_over : (old buf : List ℕ) (taken : ℕ) → drop taken buf ≡ drop taken old → drop (taken + 1) buf ≡ drop (taken + 1) old
passed_over old buf taken left = sym (drop_after buf taken) ∙ ap (drop 1) left ∙ drop_after old taken
  where
    drop_after : (xs : List ℕ) (n : ℕ) → drop 1 (drop n xs) ≡ drop (n + 1) xs
    drop_after xs n = drop-drop 1 n xs

pub written_over : (old buf : List ℕ) (given taken byte : ℕ) → given ≤ taken → drop taken buf ≡ drop taken old
    → drop (taken + 1) (set buf given byte) ≡ drop (taken + 1) old
written_over old buf given taken byte few left = drop-set-lt (taken + 1) buf given byte (omega arith) ∙ passed_over old buf taken left

-- ---- a turn of the loop

pub goes_on : (start now next after : Spot) (old buf wrote : List ℕ) (count taken given gave d : ℕ) → taken < count → count ≤ length old
    → drop taken buf ≡ drop taken old → Reads start now (take count old) (drop taken (take count old)) (take given buf) taken
    → move.Goes next ≡ move_of now (get_or buf taken d) → after ≡ next → wrote ≡ buf → gave ≡ given
    → Reads start after (take count old) (drop (taken + 1) (take count old)) (take gave wrote) (taken + 1)
goes_on start now next after old buf wrote count taken given gave d inside within left r is e1 e2 e3 =
    let text = take count old in
    let r1 : Reads start now text (get_or buf taken d ∷ drop (taken + 1) text) (take given buf) taken =
    subst (λ rest. Reads start now text rest (take given buf) taken) (next_character old buf count taken d inside within left) r in
    let r2 = reads_goes start now next text (drop (taken + 1) text) (take given buf) (get_or buf taken d) taken r1 is in
    subst (λ p. Reads start p text (drop (taken + 1) text) (take gave wrote) (taken + 1)) (sym e1)
    (subst (λ xs. Reads start next text (drop (taken + 1) text) (take gave xs) (taken + 1)) (sym e2)
    (subst (λ n. Reads start next text (drop (taken + 1) text) (take n buf) (taken + 1)) (sym e3) r2))

pub gives_on : (start now next after : Spot) (old buf wrote : List ℕ) (count taken given gave byte d : ℕ) → taken < count → count ≤ length old
    → drop taken buf ≡ drop taken old → given ≤ taken → length buf ≡ length old
    → Reads start now (take count old) (drop taken (take count old)) (take given buf) taken
    → move.Gives byte next ≡ move_of now (get_or buf taken d) → after ≡ next → wrote ≡ set buf given byte → gave ≡ given + 1
    → Reads start after (take count old) (drop (taken + 1) (take count old)) (take gave wrote) (taken + 1)
gives_on start now next after old buf wrote count taken given gave byte d inside within left few size r is e1 e2 e3 =
    let text = take count old in
    let r1 : Reads start now text (get_or buf taken d ∷ drop (taken + 1) text) (take given buf) taken =
    subst (λ rest. Reads start now text rest (take given buf) taken) (next_character old buf count taken d inside within left) r in
    let r2 = reads_gives start now next text (drop (taken + 1) text) (take given buf) (get_or buf taken d) byte taken r1 is in
    let out : take given buf ++ byte ∷ [] ≡ take (given + 1) (set buf given byte) = sym (take_more_set buf given byte (omega (arith, few, inside, within, size))) in
    subst (λ p. Reads start p text (drop (taken + 1) text) (take gave wrote) (taken + 1)) (sym e1)
    (subst (λ xs. Reads start next text (drop (taken + 1) text) (take gave xs) (taken + 1)) (sym e2)
    (subst (λ n. Reads start next text (drop (taken + 1) text) (take n (set buf given byte)) (taken + 1)) (sym e3)
    (subst (λ xs. Reads start next text (drop (taken + 1) text) xs (taken + 1)) out r2)))
