-- The fields of a line.
use Rattle.std.proofs.Common.{◌≡◌, ◌≢◌, ◌⊎◌, ℕ, ◌+◌, ◌-◌, ◌<◌, ◌==◌, false, if◌then◌else◌, List, [], ◌∷◌, ◌++◌, length, take, drop, Option, Some, None, inl, inr, refl, sym, ap, subst, ◌∙◌, arith, append_assoc, append-nil}
use Rattle.std.proofs.lemmas.Bool.{eqb-true, eq-eqb, ne_eqb}
use Rattle.std.proofs.lemmas.List.{drop-drop, drop_all, drop_at, get_or-drop, get_or_default, length-append, length-drop, length-take-le, take-append-drop, take_all, take_at, take_more}
use Rattle.std.proofs.lemmas.List.Elements.{All-head, All-tail}
use Rattle.std.specs.Prelude.{slice_index}
use Rattle.memchr.specs.Find.{IsFirstByte, IsLastByte, is_byte}
use Rattle.jser_records.specs.declared.parts.Parts.{Parts}
use Rattle.jser_records.specs.Arriving.{HasNone, IsBefore}
use Rattle.jser_records.specs.Fields.{AreParts, IsValue, KeyBeside, StartsAt, key_behind, key_of, part_of, tabs_in}
use Rattle.jser_records.specs.Keys.{key_if}
use Rattle.jser_records.proofs.RoomLemmas.{found_first, found_none}

pub none_in : (byte : ℕ) → HasNone byte []
none_in byte = λ k d less. absurd (omega (arith, less))

pub first_tab : (rest : List ℕ) (at : ℕ) → IsFirstByte (is_byte 0x09) rest (Some at) → IsBefore 0x09 rest at
first_tab rest at h =
    let same : 0 + at ≡ at = omega arith in
    subst (λ n. IsBefore 0x09 rest n) same (found_first rest rest 0x09 0 at refl (omega arith) (none_in 0x09) h)

pub no_tab : (rest : List ℕ) → IsFirstByte (is_byte 0x09) rest None → HasNone 0x09 rest
no_tab rest h = found_none rest rest 0x09 0 refl (omega arith) (none_in 0x09) h

-- nothing is behind the end
no_more : (line : List ℕ) → drop (length line) line ≡ []
no_more line = drop_all (length line) line (omega arith)

-- ---- the last field

pub last_all : (line : List ℕ) → IsLastByte (is_byte 0x09) line None → AreParts None line (record { front = 0; from = 0; to = length line })
last_all line h =
    let none : HasNone 0x09 line = λ k d inside same. h k (omega arith) inside (eq-eqb (slice_index line k) 0x09 (get_or_default line k 0 d inside ∙ same)) in
    let all : take (length line - 0) line ≡ line = take_all (length line - 0) line (omega arith) in
    let split : line ≡ take (length line - 0) line ++ drop (length line) line =
    sym (append-nil line) ∙ ap (λ xs. xs ++ []) (sym all) ∙ ap (λ xs. take (length line - 0) line ++ xs) (sym (no_more line)) in
    inl (record {
      is_field =
          record { split = split; none = subst (λ xs. HasNone 0x09 xs) (sym all) none; begins = inl refl; ends = inl (no_more line) };
      is_asked = no_more line;
      is_key = inr (inr (refl, no_more line, ap key_behind (no_more line)));
    })

pub last_behind : (line : List ℕ) (at : ℕ) → IsLastByte (is_byte 0x09) line (Some at) → AreParts None line (record { front = at; from = at + 1; to = length line })
last_behind line at h =
    let high : at < length line = h.0.high in
    let rest : List ℕ = drop (at + 1) line in
    let size : length rest ≡ length line - (at + 1) = length-drop (at + 1) line in
    let all : take (length line - (at + 1)) rest ≡ rest = take_all (length line - (at + 1)) rest (omega (arith, size)) in
    let tab : slice_index line at ≡ 0x09 = eqb-true (slice_index line at) 0x09 h.1 in
    let before : take (at + 1) line ≡ take at line ++ (0x09 ∷ []) = take_more line at 0 high ∙ ap (λ b. take at line ++ (b ∷ [])) tab in
    let none : HasNone 0x09 rest =
    λ k d inside same.
    let below : at + 1 + k < length line = omega (arith, inside, size) in
    h.0.after (at + 1 + k) (omega arith) below
    (eq-eqb (slice_index line (at + 1 + k)) 0x09 (sym (get_or-drop (at + 1) line k 0) ∙ get_or_default rest k 0 d inside ∙ same)) in
    let split : line ≡ take (at + 1) line ++ (take (length line - (at + 1)) rest ++ drop (length line) line) =
    sym (take-append-drop (at + 1) line) ∙ ap (λ xs. take (at + 1) line ++ xs) (sym (append-nil rest) ∙ ap (λ xs. xs ++ []) (sym all))
    ∙ ap (λ xs. take (at + 1) line ++ (take (length line - (at + 1)) rest ++ xs)) (sym (no_more line)) in
    let later : ((at + 1) == 0) ≡ false = ne_eqb (at + 1) 0 (λ is. absurd (omega (arith, is))) in
    inl (record {
      is_field =
          record { split = split; none = subst (λ xs. HasNone 0x09 xs) (sym all) none; begins = inr (take at line, before); ends = inl (no_more line) };
      is_asked = no_more line;
      is_key =
          inl (
            take at line,
            before,
            ap (λ b. if b then key_behind (drop (length line) line) else Some (take at line ++ drop (length line) line)) later,
          );
    })

-- ---- a field by its number

pub tabs_both : (xs ys : List ℕ) → tabs_in (xs ++ ys) ≡ tabs_in xs + tabs_in ys
tabs_both [] ys = omega arith
tabs_both (c ∷ xs) ys = let more = tabs_both xs ys in omega (arith, more)

tabs_none : (xs : List ℕ) → HasNone 0x09 xs → tabs_in xs ≡ 0
tabs_none [] none = refl
tabs_none (c ∷ xs) none =
    ap (λ b. (if b then 1 else 0) + tabs_in xs) (ne_eqb c 0x09 (All-head (λ b. b ≢ 0x09) c xs none)) ∙ ap (λ n. 0 + n) (tabs_none xs (All-tail (λ b. b ≢ 0x09) c xs none))

pub starts_none : (line : List ℕ) → StartsAt line 0 0
starts_none line = record { within = omega arith; tabs = refl; begins = inl refl }

-- one field more is before it
pub starts_next : (line : List ℕ) (from at count : ℕ) → StartsAt line from count → IsBefore 0x09 (drop from line) at → StartsAt line (from + (at + 1)) (count + 1)
starts_next line from at count s b =
    let rest : List ℕ = drop from line in
    let few : length (take at rest) ≡ at = let i = b.inside in length-take-le at rest (omega (arith, i)) in
    let size : length (take from line) ≡ from = length-take-le from line s.within in
    let fields : List ℕ = take from line ++ take at rest in
    let long : length fields ≡ from + at = length-append (take from line) (take at rest) ∙ omega (arith, size, few) in
    let all : line ≡ fields ++ (0x09 ∷ b.rest) =
    sym (take-append-drop from line) ∙ ap (λ ys. take from line ++ ys) b.split ∙ sym (append_assoc (take from line) (take at rest) (0x09 ∷ b.rest)) in
    let behind : line ≡ (fields ++ (0x09 ∷ [])) ++ b.rest = all ∙ sym (append_assoc fields (0x09 ∷ []) b.rest) in
    let longer : length (fields ++ (0x09 ∷ [])) ≡ from + (at + 1) = length-append fields (0x09 ∷ []) ∙ omega (arith, long) in
    let taken : take (from + (at + 1)) line ≡ fields ++ (0x09 ∷ []) =
    ap (λ xs. take (from + (at + 1)) xs) behind ∙ take_at (fields ++ (0x09 ∷ [])) b.rest (from + (at + 1)) longer in
    let front : take (from + (at + 1) - 1) line ≡ fields =
    ap (λ xs. take (from + (at + 1) - 1) xs) all ∙ take_at fields (0x09 ∷ b.rest) (from + (at + 1) - 1) (omega (arith, long)) in
    record {
      within = let i = b.inside in let left = length-drop from line in omega (arith, i, left);
      tabs =
          ap tabs_in taken ∙ tabs_both fields (0x09 ∷ [])
          ∙ (let both = tabs_both (take from line) (take at rest) in let none = tabs_none (take at rest) b.none in let had = s.tabs in omega (arith, both, none, had));
      begins = inr (omega arith, taken ∙ ap (λ xs. xs ++ (0x09 ∷ [])) (sym front));
    }

begins_at : (line : List ℕ) (from : ℕ) → (from ≡ 0) ⊎ ((0 < from) × (take from line ≡ take (from - 1) line ++ (0x09 ∷ [])))
    → (take from line ≡ []) ⊎ ((front : List ℕ) × (take from line ≡ front ++ (0x09 ∷ [])))
begins_at line from (inl first) = inl (ap (λ n. take n line) first)
begins_at line from (inr later) = inr (take (from - 1) line, later.1)

beside : (line : List ℕ) (from front to : ℕ) → (from ≡ 0) ⊎ ((0 < from) × (take from line ≡ take (from - 1) line ++ (0x09 ∷ []))) → front ≡ from - 1
    → (drop to line ≡ []) ⊎ ((rest : List ℕ) × (drop to line ≡ 0x09 ∷ rest))
    → KeyBeside (take from line) (drop to line) (if from == 0 then key_behind (drop to line) else Some (take front line ++ drop to line))
beside line from front to (inl first) is (inl none) =
    inr (inr (ap (λ n. take n line) first, none, ap (λ b. if b then key_behind (drop to line) else Some (take front line ++ drop to line)) (eq-eqb from 0 first) ∙ ap key_behind none))
beside line from front to (inl first) is (inr more) =
    inr (inl (
      more.0,
      ap (λ n. take n line) first,
      more.1,
      ap (λ b. if b then key_behind (drop to line) else Some (take front line ++ drop to line)) (eq-eqb from 0 first) ∙ ap key_behind more.1,
    ))
beside line from front to (inr later) is ends =
    let not : (from == 0) ≡ false = ne_eqb from 0 (λ none. let some = later.0 in absurd (omega (arith, some, none))) in
    inl (
      take (from - 1) line,
      later.1,
      ap (λ b. if b then key_behind (drop to line) else Some (take front line ++ drop to line)) not ∙ ap (λ n. Some (take n line ++ drop to line)) is,
    )

-- the field that begins there and ends here
numbered : (line : List ℕ) (number front from to : ℕ) → StartsAt line from (number - 1) → line ≡ take from line ++ (take (to - from) (drop from line) ++ drop to line)
    → HasNone 0x09 (take (to - from) (drop from line)) → (drop to line ≡ []) ⊎ ((rest : List ℕ) × (drop to line ≡ 0x09 ∷ rest)) → front ≡ from - 1
    → AreParts (Some number) line (record { front = front; from = from; to = to })
numbered line number front from to s split none ends is =
    inl (record {
      is_field = record { split = split; none = none; begins = begins_at line from s.begins; ends = ends };
      is_asked = s.tabs;
      is_key = beside line from front to s.begins is ends;
    })

pub numbered_before : (line : List ℕ) (number front from at : ℕ) → StartsAt line from (number - 1) → IsBefore 0x09 (drop from line) at → front ≡ from - 1
    → AreParts (Some number) line (record { front = front; from = from; to = from + at })
numbered_before line number front from at s b is =
    let rest : List ℕ = drop from line in
    let few : length (take at rest) ≡ at = let i = b.inside in length-take-le at rest (omega (arith, i)) in
    let behind : drop (from + at) line ≡ 0x09 ∷ b.rest =
    sym (drop-drop at from line) ∙ ap (λ xs. drop at xs) b.split ∙ drop_at (take at rest) (0x09 ∷ b.rest) at few in
    let same : at ≡ from + at - from = omega arith in
    numbered line number front from (from + at) s
    (sym (take-append-drop from line) ∙ ap (λ ys. take from line ++ ys) (b.split ∙ ap (λ n. take n rest ++ (0x09 ∷ b.rest)) same ∙ ap (λ xs. take (from + at - from) rest ++ xs) (sym behind)))
    (subst (λ n. HasNone 0x09 (take n rest)) same b.none) (inr (b.rest, behind)) is

pub numbered_last : (line : List ℕ) (number front from : ℕ) → StartsAt line from (number - 1) → HasNone 0x09 (drop from line) → front ≡ from - 1
    → AreParts (Some number) line (record { front = front; from = from; to = length line })
numbered_last line number front from s none is =
    let rest : List ℕ = drop from line in
    let size = length-drop from line in
    let all : take (length line - from) rest ≡ rest = take_all (length line - from) rest (omega (arith, size)) in
    numbered line number front from (length line) s
    (sym (take-append-drop from line)
    ∙ ap (λ ys. take from line ++ ys) (sym (append-nil rest) ∙ ap (λ xs. xs ++ []) (sym all) ∙ ap (λ xs. take (length line - from) rest ++ xs) (sym (no_more line))))
    (subst (λ xs. HasNone 0x09 xs) (sym all) none) (inl (no_more line)) is

all_key : (line : List ℕ) → (if length line == 0 then key_behind (drop (length line) line) else Some (take (length line) line ++ drop (length line) line)) ≡ key_if line
all_key [] = refl
all_key (c ∷ line) =
    let all : List ℕ = c ∷ line in
    ap (λ b. if b then key_behind (drop (length all) all) else Some (take (length all) all ++ drop (length all) all)) (ne_eqb (length all) 0 (λ is. absurd (omega (arith, is))))
    ∙ ap (λ xs. Some xs) (take-append-drop (length all) all)

-- so many fields are left before it, and there are no more
pub numbered_missing : (line : List ℕ) (number from count left : ℕ) → StartsAt line from count → count + left ≡ number - 1 → 0 < left → HasNone 0x09 (drop from line)
    → AreParts (Some number) line (record { front = length line; from = length line; to = length line })
numbered_missing line number from count left s sum some none =
    let zeroth : length line - length line ≡ 0 = omega arith in
    let few : tabs_in line ≡ count =
    ap tabs_in (sym (take-append-drop from line)) ∙ tabs_both (take from line) (drop from line)
    ∙ (let had = s.tabs in let no = tabs_none (drop from line) none in omega (arith, had, no)) in
    inr (omega (arith, few, sum, some), ap (λ n. take n (drop (length line) line)) zeroth, all_key line, no_more line)

-- the parts of a line are its value and its KEY
pub parts_value : (asked : Option ℕ) (line : List ℕ) (parts : Parts) → AreParts asked line parts → IsValue asked line (part_of line parts) (key_of line parts)
parts_value asked line parts (inl there) = inl (take parts.from line, drop parts.to line, there)
parts_value asked line parts (inr missing) = inr (missing.0, missing.1, missing.2)
