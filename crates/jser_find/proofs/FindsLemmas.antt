-- A search that goes on behind each stream that it found.
use Rattle.std.proofs.Common.{◌≡◌, ℕ, ◌+◌, ◌-◌, ◌≤◌, max, List, [], ◌∷◌, ◌++◌, length, take, drop, get_or, Option, Some, None, refl, sym, ap, subst, ◌∙◌, arith, add_assoc, length-drop, length-take, get_or-drop}
use Rattle.memchr.specs.Find.{Nowhere}
use Rattle.jser_reader.specs.Gates.{open_gate}
use Rattle.jser_reader.specs.WholeContents.{IsWhole}
use Rattle.jser_find.specs.declared.finder.Find.{Find}
use Rattle.jser_find.specs.declared.next.Next.TheVariants as next
use Rattle.jser_find.specs.Finds.{FindsNext, HasFound, HasHeaderAt, HasNoHeaderFrom, IsFindFrom, IsFirstHeader, LeadTo, Searching, place_behind}

-- ---- places in what is left are places in all bytes

header_in : (bytes : List ℕ) (at k : ℕ) → HasHeaderAt (drop at bytes) k → HasHeaderAt bytes (at + k)
header_in bytes at k h =
    let f = h.fits in
    let l = length-drop at bytes in
    record {
      fits = omega arith;
      reads = λ j less. ap (λ n. get_or bytes n 0) (add_assoc at k j) ∙ sym (get_or-drop at bytes (k + j) 0) ∙ h.reads j less;
    }

header_left : (bytes : List ℕ) (at k : ℕ) → HasHeaderAt bytes (at + k) → HasHeaderAt (drop at bytes) k
header_left bytes at k h =
    let f = h.fits in
    let l = length-drop at bytes in
    record {
      fits = omega arith;
      reads = λ j less. get_or-drop at bytes (k + j) 0 ∙ sym (ap (λ n. get_or bytes n 0) (add_assoc at k j)) ∙ h.reads j less;
    }

nowhere_in : (bytes : List ℕ) (at end : ℕ) → Nowhere (HasHeaderAt (drop at bytes)) 0 end → Nowhere (HasHeaderAt bytes) at (at + end)
nowhere_in bytes at end none = λ k low high is.
    let same : k ≡ at + (k - at) = omega arith in
    none (k - at) (omega arith) (omega arith) (header_left bytes at (k - at) (subst (HasHeaderAt bytes) same is))

pub none_in : (bytes : List ℕ) (at : ℕ) → at ≤ length bytes → HasNoHeaderFrom (drop at bytes) 0 → HasNoHeaderFrom bytes at
none_in bytes at fits none =
    let l = length-drop at bytes in
    let same : at + (length (drop at bytes) + 1) ≡ length bytes + 1 = omega arith in
    subst (Nowhere (HasHeaderAt bytes) at) same (nowhere_in bytes at (length (drop at bytes) + 1) none)

header_moves : (bytes : List ℕ) (place : ℕ) (found : Option ℕ) (at : ℕ) → place ≤ length bytes → found ≡ Some at → IsFirstHeader (drop place bytes) 0 found
    → IsFirstHeader bytes place (Some (place + at))
header_moves bytes place found at fits same first =
    let is : IsFirstHeader (drop place bytes) 0 (Some at) = subst (IsFirstHeader (drop place bytes) 0) same first in
    let l = length-drop place bytes in
    let high = is.0.high in
    (record { low = omega arith; high = omega arith; before = nowhere_in bytes place at is.0.before }, header_in bytes place at is.1)

-- what a search sees of its bytes from its place on
pub header_here : (search : Searching) (bytes rest : List ℕ) (place at : ℕ) (found : Option ℕ) → bytes ≡ search.bytes → place ≡ search.place → place ≤ length bytes
    → rest ≡ drop place bytes → found ≡ Some at → IsFirstHeader rest 0 found → IsFirstHeader search.bytes search.place (Some (place + at))
header_here search bytes rest place at found same here fits is one first =
    subst (λ n. IsFirstHeader search.bytes n (Some (place + at))) here
    (subst (λ xs. IsFirstHeader xs place (Some (place + at))) same (header_moves bytes place found at fits one (subst (λ xs. IsFirstHeader xs 0 found) is first)))

pub no_header_here : (search : Searching) (bytes rest : List ℕ) (place : ℕ) (found : Option ℕ) → bytes ≡ search.bytes → place ≡ search.place → place ≤ length bytes
    → rest ≡ drop place bytes → found ≡ None → IsFirstHeader rest 0 found → IsFirstHeader search.bytes search.place None
no_header_here search bytes rest place found same here fits is none first =
    subst (λ n. IsFirstHeader search.bytes n None) here
    (subst (λ xs. IsFirstHeader xs place None) same
    (none_in bytes place fits (subst (IsFirstHeader (drop place bytes) 0) none (subst (λ xs. IsFirstHeader xs 0 found) is first))))

-- ---- a find lies in the bytes

pub find_lies : (most : ℕ) (bytes : List ℕ) (from len : ℕ) → from + 4 ≤ length bytes → IsWhole open_gate (take most (drop from bytes)) len
    → from + max len 1 ≤ length bytes
find_lies most bytes from len fits is =
    let w = is.within in
    let t = length-take most (drop from bytes) in
    let d = length-drop from bytes in
    omega arith

-- ---- one find after another

lead_more : (most : ℕ) (bytes : List ℕ) (from : ℕ) (finds : List Find) (place : ℕ) (find : Find) → LeadTo most bytes from finds place
    → IsFindFrom most bytes place find → LeadTo most bytes from (finds ++ (find ∷ [])) (place_behind find)
lead_more most bytes from [] place find e is = (subst (λ n. IsFindFrom most bytes n find) (sym e) is, refl)
lead_more most bytes from (first ∷ finds) place find h is = (h.0, lead_more most bytes (place_behind first) finds place find h.1 is)

pub found_one : (search new : Searching) (find : Find) (finds : List Find) → IsFirstHeader search.bytes search.place (Some find.from)
    → IsWhole open_gate (take search.most (drop find.from search.bytes)) find.len → new ≡ record search { place = place_behind find }
    → HasFound search finds → FindsNext search new finds (next.Found find)
found_one search new find finds first is goes have =
    subst (λ other. HasFound other (finds ++ (find ∷ []))) (sym goes)
    (lead_more search.most search.bytes 0 finds search.place find have (record { first = first.0; header = first.1; longest = is }))

pub found_all : (search new : Searching) (finds : List Find) → IsFirstHeader search.bytes search.place None → HasFound search finds → FindsNext search new finds next.End
found_all search new finds none have = record { end = search.place; lead = have; none_behind = none }
