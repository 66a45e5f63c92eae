-- The KEY of a record.
use Rattle.std.proofs.Common.{◌≡◌, ◌⊎◌, ℕ, ◌+◌, ◌-◌, ◌≤◌, ◌<◌, ◌==◌, Bool, true, false, if◌then◌else◌, List, [], ◌∷◌, ◌++◌, length, take, drop, Option, Some, None, inl, inr, refl, sym, ap, subst, ◌∙◌, arith, append-nil, length-append}
use Rattle.std.proofs.lemmas.Bool.{eq-eqb, ne_eqb}
use Rattle.std.proofs.lemmas.List.{drop-drop, take-take}
use Rattle.jser_records.specs.declared.key.Key.{Key}
use Rattle.jser_records.specs.declared.parts.Parts.{Parts}
use Rattle.jser_records.specs.declared.reading.Reading.{Reading}
use Rattle.jser_records.specs.Fields.{AreWithin, key_behind, key_of}
use Rattle.jser_records.specs.Keys.{HasAdded, HasLostKey, HasNoKey, HasNoRoom, IsKeyOf, KeepsKey, key_if, longer_key, most_key}
use Rattle.jser_records.specs.Readings.{AddsKey}
use Rattle.jser_records.specs.Told.{Entry, KeyTold}

-- ---- as it grows

pub no_key_of : (key : Key) → HasNoKey key → IsKeyOf key None
no_key_of key none = inl (none, omega arith)

lost_now : (old new : Key) (bytes : List ℕ) → HasNoRoom old new bytes → HasLostKey new
lost_now old new bytes full = record { lost = full.lost; none = full.none }

key_grown : (old new : Key) (has : Option (List ℕ)) (bytes : List ℕ) → IsKeyOf old has → HasAdded old new bytes ⊎ HasNoRoom old new bytes → IsKeyOf new (longer_key has bytes)
key_grown old new None bytes (inl known) (inl added) =
    let is : new.bytes.items ≡ bytes = added.both ∙ ap (λ xs. xs ++ bytes) known.0.bytes in
    let none = ap length known.0.bytes in
    inl ((added.there, is, added.on), subst (λ xs. length xs ≤ most_key) is (added.few (omega (arith, none))))
key_grown old new (Some key) bytes (inl known) (inl added) =
    let is : new.bytes.items ≡ key ++ bytes = added.both ∙ ap (λ xs. xs ++ bytes) known.0.1 in
    let size = ap length known.0.1 in
    let short = known.1 in
    inl ((added.there, is, added.on), subst (λ xs. length xs ≤ most_key) is (added.few (omega (arith, size, short))))
key_grown old new None bytes (inl known) (inr full) =
    inr (
      lost_now old new bytes full,
      elim full.long [
        | inl lost ↦ let on = known.0.kept in absurd (cc)
        | inr more ↦ let none = ap length known.0.bytes in omega (arith, more, none)
      ],
    )
key_grown old new (Some key) bytes (inl known) (inr full) =
    inr (
      lost_now old new bytes full,
      elim full.long [
        | inl lost ↦ let on = known.0.2 in absurd (cc)
        | inr more ↦ let is = ap length known.0.1 in let size = length-append key bytes in omega (arith, more, is, size)
      ],
    )
key_grown old new has bytes (inr lost) (inl added) = let on = added.kept in let off = lost.0.lost in absurd (cc)
key_grown old new None bytes (inr lost) (inr full) = let long = lost.1 in absurd (omega (arith, long))
key_grown old new (Some key) bytes (inr lost) (inr full) =
    inr (lost_now old new bytes full, let long = lost.1 in let size = length-append key bytes in omega (arith, long, size))

pub key_longer : (old new : Reading) (has : Option (List ℕ)) (bytes : List ℕ) → AddsKey old new bytes → IsKeyOf old.key has → IsKeyOf new.key (longer_key has bytes)
key_longer old new has bytes (inl adds) is = key_grown old.key new.key has bytes is (inl adds.1)
key_longer old new has bytes (inr full) is = key_grown old.key new.key has bytes is (inr full.1)

-- ---- of a record behind its length

some_if : (bytes : List ℕ) → 0 < length bytes → Some bytes ≡ key_if bytes
some_if [] some = absurd (omega (arith, some))
some_if (c ∷ bytes) some = refl

pub key_kept_some : (old new : Reading) (bytes : List ℕ) → 0 < length bytes → HasNoKey old.key → AddsKey old new bytes → IsKeyOf new.key (key_if bytes)
key_kept_some old new bytes some none adds = subst (λ o. IsKeyOf new.key o) (some_if bytes some) (key_longer old new None bytes adds (no_key_of old.key none))

pub key_kept_none : (key : Key) (bytes : List ℕ) → length bytes ≡ 0 → HasNoKey key → IsKeyOf key (key_if bytes)
key_kept_none key [] empty none = no_key_of key none
key_kept_none key (c ∷ bytes) empty none = absurd (omega (arith, empty))

-- ---- of a line

-- what is before a value was added, or nothing is there
pub key_before : (from : ℕ) (old new : Reading) (bytes : List ℕ) → 0 < from → AddsKey old new bytes → HasNoKey old.key → IsKeyOf new.key (if from == 0 then None else Some bytes)
key_before from old new bytes some adds none =
    subst (λ b. IsKeyOf new.key (if b then None else Some bytes)) (sym (ne_eqb from 0 (λ is. absurd (omega (arith, some, is)))))
    (key_longer old new None bytes adds (no_key_of old.key none))

pub key_first : (from : ℕ) (key : Key) (bytes : List ℕ) → from ≤ 0 → HasNoKey key → IsKeyOf key (if from == 0 then None else Some bytes)
key_first from key bytes first none =
    subst (λ b. IsKeyOf key (if b then None else Some bytes)) (sym (eq-eqb from 0 (omega (arith, first)))) (no_key_of key none)

-- what is behind it was added, without the TAB there if nothing is before it
pub key_behind_first : (is_first : Bool) (old new : Reading) (has : Option (List ℕ)) (tab : ℕ) (behind rest : List ℕ) → is_first ≡ true → behind ≡ tab ∷ rest → AddsKey old new rest → IsKeyOf old.key has
    → IsKeyOf new.key (longer_key has (drop (if is_first then 1 else 0) behind))
key_behind_first is_first old new has tab behind rest first is adds known =
    subst (λ b. IsKeyOf new.key (longer_key has (drop (if b then 1 else 0) behind))) (sym first)
    (subst (λ xs. IsKeyOf new.key (longer_key has (drop 1 xs))) (sym is) (key_longer old new has rest adds known))

pub key_behind_more : (is_first : Bool) (old new : Reading) (has : Option (List ℕ)) (behind : List ℕ) → is_first ≡ false → AddsKey old new behind → IsKeyOf old.key has
    → IsKeyOf new.key (longer_key has (drop (if is_first then 1 else 0) behind))
key_behind_more is_first old new has behind later adds known =
    subst (λ b. IsKeyOf new.key (longer_key has (drop (if b then 1 else 0) behind))) (sym later) (key_longer old new has behind adds known)

alone_if : (b : Bool) (front rest : List ℕ) → rest ≡ [] → (if b then None else Some front) ≡ (if b then key_behind rest else Some (front ++ rest))
alone_if true front rest none = sym (ap key_behind none)
alone_if false front rest none = ap (λ xs. Some xs) (sym (append-nil front) ∙ ap (λ xs. front ++ xs) (sym none))

joined_if : (b : Bool) (front rest : List ℕ) → 0 < length rest → longer_key (if b then None else Some front) (drop (if b then 1 else 0) rest) ≡ (if b then key_behind rest else Some (front ++ rest))
joined_if true front [] some = absurd (omega (arith, some))
joined_if true front (c ∷ rest) some = refl
joined_if false front rest some = refl

front_is : (line before : List ℕ) (parts : Parts) → AreWithin (length line) parts → before ≡ take parts.from line → take parts.front before ≡ take parts.front line
front_is line before parts w is = ap (λ xs. take parts.front xs) is ∙ take-take parts.front parts.from line w.front

pub behind_is : (line rest behind : List ℕ) (parts : Parts) → AreWithin (length line) parts → rest ≡ drop parts.from line → behind ≡ drop (parts.to - parts.from) rest → behind ≡ drop parts.to line
behind_is line rest behind parts w is_rest is =
    let there : parts.from + (parts.to - parts.from) ≡ parts.to = let less = w.ordered in omega (arith, less) in
    is ∙ ap (λ xs. drop (parts.to - parts.from) xs) is_rest ∙ drop-drop (parts.to - parts.from) parts.from line ∙ ap (λ n. drop n line) there

pub none_left : (xs : List ℕ) → length xs < 1 → xs ≡ []
none_left [] few = refl
none_left (c ∷ xs) few = absurd (omega (arith, few))

-- the KEY of a line whose value is at its end
pub key_alone : (line before behind : List ℕ) (parts : Parts) (key : Key) → AreWithin (length line) parts → before ≡ take parts.from line → behind ≡ drop parts.to line → behind ≡ []
    → IsKeyOf key (if parts.from == 0 then None else Some (take parts.front before)) → IsKeyOf key (key_of line parts)
key_alone line before behind parts key w is is_behind none known =
    subst (λ o. IsKeyOf key o)
    (ap (λ xs. if parts.from == 0 then None else Some xs) (front_is line before parts w is) ∙ alone_if (parts.from == 0) (take parts.front line) (drop parts.to line) (sym is_behind ∙ none)) known

-- the KEY of a line in which more is behind the value
pub key_joined : (line before behind : List ℕ) (parts : Parts) (mid new : Key) → AreWithin (length line) parts → before ≡ take parts.from line → behind ≡ drop parts.to line → 0 < length behind
    → IsKeyOf mid (if parts.from == 0 then None else Some (take parts.front before))
    → ((has : Option (List ℕ)) → IsKeyOf mid has → IsKeyOf new (longer_key has (drop (if parts.from == 0 then 1 else 0) behind))) → IsKeyOf new (key_of line parts)
key_joined line before behind parts mid new w is is_behind some known adds =
    let b = parts.from == 0 in
    let front = take parts.front line in
    let named : IsKeyOf mid (if b then None else Some front) =
    subst (λ xs. IsKeyOf mid (if parts.from == 0 then None else Some xs)) (front_is line before parts w is) known in
    subst (λ o. IsKeyOf new o) (joined_if b front (drop parts.to line) (subst (λ xs. 0 < length xs) is_behind some))
    (subst (λ xs. IsKeyOf new (longer_key (if b then None else Some front) (drop (if b then 1 else 0) xs))) is_behind (adds (if b then None else Some front) named))

-- ---- as it is told

pub told_key : (old : Key) (entry : Entry) (has : Option (List ℕ)) → IsKeyOf old has → KeepsKey old entry.key entry.answer → KeyTold entry has
told_key old entry has is (inl same) = inl (subst (λ k. IsKeyOf k has) (sym same) is)
told_key old entry has is (inr out) = inr out
