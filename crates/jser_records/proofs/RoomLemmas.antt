-- The room in which bytes wait.
use Rattle.std.proofs.Common.{◌≡◌, ℕ, ◌+◌, ◌-◌, ◌≤◌, ◌<◌, Bool, true, false, List, [], ◌∷◌, ◌++◌, length, take, drop, get_or, Option, Some, None, inl, inr, refl, sym, ap, subst, ◌∙◌, arith}
use Rattle.std.proofs.lemmas.Bool.{cases_lt, eqb-true, eq-eqb}
use Rattle.std.proofs.lemmas.List.{take-append-drop, append_assoc, append-nil, take_at, drop-take, drop-append-le, take-append-le, length-append, length-take-le, length-drop, drop_all, drop_more, take_all, get_or-drop, get_or-take, get_or_default}
use Rattle.std.specs.List.{copy_within}
use Rattle.std.specs.Prelude.{slice_index, option_map}
use Rattle.memchr.specs.Find.{IsFirstByte, is_byte}
use Rattle.std.specs.Io.KnownBytes.{Consumes, IsAtEnd}
use Rattle.jser_records.specs.Arriving.{Arriving, ComesMore, HasEnded, Holds, IsOver, Took, ahead, view_of, Fits, HasNone, IsBefore, part_from, room_size}

part_is : (room : List ℕ) (s e : ℕ) → s ≤ e → part_from room s e ≡ take (e - s) (drop s room)
part_is room s e le = let n : s + (e - s) ≡ e = omega (arith, le) in ap (λ k. drop s (take k room)) (sym n) ∙ drop-take s (e - s) room

-- the part stands at the front of the room
pub moved : (room new : List ℕ) (s e : ℕ) → new ≡ copy_within room s e 0 → s ≤ e → e ≤ length room → part_from new 0 (e - s) ≡ part_from room s e
moved room new s e is le in_room =
    let long : length (take (e - s) (drop s room)) ≡ e - s = length-take-le (e - s) (drop s room) (subst (λ k. e - s ≤ k) (sym (length-drop s room)) (omega (arith, le, in_room))) in
    ap (λ r. take (e - s) r) is ∙ take_at (take (e - s) (drop s room)) (drop (0 + (e - s)) room) (e - s) long ∙ sym (part_is room s e le)

pub moved_fits : (room new : List ℕ) (s e sought searched : ℕ) → new ≡ copy_within room s e 0 → length new ≡ length room → Fits room s e sought searched
    → Fits new 0 (e - s) sought searched
moved_fits room new s e sought searched is same fits = record {
  size = same ∙ fits.size;
  ordered = omega arith;
  inside = let a = fits.inside in let b = fits.ordered in omega (arith, a, b, same);
  known = let a = fits.known in omega (arith, a);
  none = subst (λ xs. HasNone sought (take searched xs)) (sym (moved room new s e is fits.ordered fits.inside)) fits.none;
}

-- so many bytes were written behind the part
filled : (room new : List ℕ) (s e n : ℕ) → take e new ≡ take e room → e ≤ length room → length new ≡ length room → s ≤ e → n ≤ length (drop e new)
    → part_from new s (e + n) ≡ part_from room s e ++ take n (drop e new)
filled room new s e n front in_room same le few =
    let long : length (take e new) ≡ e = length-take-le e new (omega (arith, in_room, same)) in
    let within : take (e + n) new ≡ take e new ++ take n (drop e new) =
    ap (λ xs. take (e + n) xs) (sym (take-append-drop e new) ∙ ap (λ f. take e new ++ f) (sym (take-append-drop n (drop e new)))
    ∙ sym (append_assoc (take e new) (take n (drop e new)) (drop n (drop e new))))
    ∙ take_at (take e new ++ take n (drop e new)) (drop n (drop e new)) (e + n)
    (length-append (take e new) (take n (drop e new)) ∙ ap (λ k. length (take e new) + k) (length-take-le n (drop e new) few) ∙ ap (λ k. k + n) long) in
    ap (λ xs. drop s xs) within ∙ drop-append-le s (take e new) (take n (drop e new)) (subst (λ k. s ≤ k) (sym long) le) ∙ ap (λ xs. drop s xs ++ take n (drop e new)) front

pub same_part : (room new : List ℕ) (s e : ℕ) → take e new ≡ take e room → part_from new s e ≡ part_from room s e
same_part room new s e front = ap (λ xs. drop s xs) front

pub same_fits : (room new : List ℕ) (s e sought searched : ℕ) → take e new ≡ take e room → length new ≡ length room → Fits room s e sought searched → Fits new s e sought searched
same_fits room new s e sought searched front same fits = record {
  size = same ∙ fits.size;
  ordered = fits.ordered;
  inside = subst (λ k. e ≤ k) (sym same) fits.inside;
  known = fits.known;
  none = subst (λ xs. HasNone sought (take searched xs)) (sym (same_part room new s e front)) fits.none;
}

searched_more : (xs ys : List ℕ) (n sought : ℕ) → n ≤ length xs → HasNone sought (take n xs) → HasNone sought (take n (xs ++ ys))
searched_more xs ys n sought le none = subst (λ zs. HasNone sought zs) (sym (take-append-le n xs ys le)) none

part_size : (room : List ℕ) (s e : ℕ) → e ≤ length room → length (part_from room s e) ≡ e - s
part_size room s e in_room = length-drop s (take e room) ∙ ap (λ k. k - s) (length-take-le e room in_room)

pub filled_fits : (room new : List ℕ) (s e n sought searched : ℕ) → take e new ≡ take e room → length new ≡ length room → n ≤ length (drop e new)
    → Fits room s e sought searched → Fits new s (e + n) sought searched
filled_fits room new s e n sought searched front same few fits = record {
  size = same ∙ fits.size;
  ordered = let a = fits.ordered in omega (arith, a);
  inside = let a = fits.inside in let rest = length-drop e new in omega (arith, a, same, rest, few);
  known = let a = fits.known in omega (arith, a);
  none =
      subst (λ xs. HasNone sought (take searched xs)) (sym (filled room new s e n front fits.inside same fits.ordered few))
      (searched_more (part_from room s e) (take n (drop e new)) searched sought (subst (λ k. searched ≤ k) (sym (part_size room s e fits.inside)) fits.known) fits.none);
}

pub filled_comes : (room new : List ℕ) (had has : Option (List ℕ)) (s e n sought searched : ℕ) (over over_now : Bool) → take e new ≡ take e room → length new ≡ length room
    → n ≤ length (drop e new) → Consumes had has (take n (drop e new)) → Fits room s e sought searched
    → ComesMore (view_of had room s e sought over) (view_of has new s (e + n) sought over_now)
filled_comes room new had has s e n sought searched over over_now front same few off fits = record {
  bytes = take n (drop e new);
  waits = filled room new s e n front fits.inside same fits.ordered few;
  off = off;
  sought = refl;
}

pub room_empty : (to_come : Option (List ℕ)) (room : List ℕ) (sought : ℕ) → length room ≡ room_size → Holds to_come room 0 0 sought 0 false
room_empty to_come room sought size = record {
  fits = record { size = size; ordered = omega arith; inside = omega arith; known = omega arith; none = λ k d less. absurd (omega (arith, less)) };
  over = λ on. absurd (cc);
}

pub filled_holds : (room new : List ℕ) (has : Option (List ℕ)) (s e n sought searched : ℕ) (over : Bool) → take e new ≡ take e room → length new ≡ length room
    → n ≤ length (drop e new) → Fits room s e sought searched → (over ≡ true → IsAtEnd has) → Holds has new s (e + n) sought searched over
filled_holds room new has s e n sought searched over front same few fits ends = record { fits = filled_fits room new s e n sought searched front same few fits; over = ends }

-- nothing was read
pub failed_holds : (room new : List ℕ) (had has : Option (List ℕ)) (s e sought searched : ℕ) (over : Bool) → take e new ≡ take e room → length new ≡ length room
    → over ≡ false → Holds had room s e sought searched over → Holds has new s e sought searched over
failed_holds room new had has s e sought searched over front same going h =
    record { fits = same_fits room new s e sought searched front same h.fits; over = λ on. absurd (cc) }

-- ---- the search

-- none so far, and none in the rest up to some place
none_both : (xs : List ℕ) (sought searched n : ℕ) → searched ≤ length xs → searched + n ≤ length xs → HasNone sought (take searched xs)
    → ((k : ℕ) → k < n → is_byte sought (slice_index (drop searched xs) k) ≡ true → ⊥) → HasNone sought (take (searched + n) xs)
none_both xs sought searched n le in_xs front rest = λ k d inside same.
    let size : length (take (searched + n) xs) ≡ searched + n = length-take-le (searched + n) xs in_xs in
    let below : k < searched + n = subst (λ m. k < m) size inside in
    let is : get_or xs k d ≡ sought = sym (get_or-take (searched + n) xs k d below) ∙ same in
    elim (cases_lt k searched) [
      | inl less ↦ front k d (subst (λ m. k < m) (sym (length-take-le searched xs le)) less) (get_or-take searched xs k d less ∙ is)
      | inr more ↦
          let there : searched + (k - searched) ≡ k = omega (arith, more) in
          rest (k - searched) (omega (arith, more, below))
          (eq-eqb (slice_index (drop searched xs) (k - searched)) sought
          (get_or-drop searched xs (k - searched) 0 ∙ ap (λ m. get_or xs m 0) there ∙ get_or_default xs k 0 d (omega (arith, below, in_xs)) ∙ is))
    ]

pub found_first : (xs rest : List ℕ) (sought searched at : ℕ) → rest ≡ drop searched xs → searched ≤ length xs → HasNone sought (take searched xs)
    → IsFirstByte (is_byte sought) rest (Some at) → IsBefore sought xs (searched + at)
found_first xs rest sought searched at is le front h =
    let long : length rest ≡ length xs - searched = ap length is ∙ length-drop searched xs in
    let high : at < length rest = h.0.high in
    let inside : searched + at < length xs = omega (arith, long, high, le) in
    let there : get_or xs (searched + at) 0 ≡ sought =
    sym (get_or-drop searched xs at 0) ∙ ap (λ r. get_or r at 0) (sym is) ∙ eqb-true (slice_index rest at) sought h.1 in
    record {
      rest = drop (searched + at + 1) xs;
      split = sym (take-append-drop (searched + at) xs) ∙ ap (λ ys. take (searched + at) xs ++ ys) (drop_more xs (searched + at) 0 inside ∙ ap (λ b. b ∷ drop (searched + at + 1) xs) there);
      none =
          none_both xs sought searched at le (omega (arith, inside)) front
          (λ k less passes. h.0.before k (omega arith) less (subst (λ r. is_byte sought (slice_index r k) ≡ true) (sym is) passes));
      inside = inside;
    }

pub found_none : (xs rest : List ℕ) (sought searched : ℕ) → rest ≡ drop searched xs → searched ≤ length xs → HasNone sought (take searched xs)
    → IsFirstByte (is_byte sought) rest None → HasNone sought xs
found_none xs rest sought searched is le front h =
    let long : length rest ≡ length xs - searched = ap length is ∙ length-drop searched xs in
    let all : searched + length rest ≡ length xs = omega (arith, long, le) in
    subst (λ zs. HasNone sought zs) (ap (λ n. take n xs) all ∙ take_all (length xs) xs (omega arith))
    (none_both xs sought searched (length rest) le (omega (arith, all)) front
    (λ k less passes. h k (omega arith) less (subst (λ r. is_byte sought (slice_index r k) ≡ true) (sym is) passes)))

-- ---- what was taken

consumes_none : (xs : Option (List ℕ)) → Consumes xs xs []
consumes_none None = tt
consumes_none (Some xs) = refl

consumes_both : (a b c : Option (List ℕ)) (xs ys : List ℕ) → Consumes a b xs → Consumes b c ys → Consumes a c (xs ++ ys)
consumes_both None b c xs ys f g = tt
consumes_both (Some x) None c xs ys f g = absurd f
consumes_both (Some x) (Some y) None xs ys f g = absurd g
consumes_both (Some x) (Some y) (Some z) xs ys f g = f ∙ ap (λ w. xs ++ w) g ∙ sym (append_assoc xs ys z)

pub comes_none : (a : Arriving) → ComesMore a a
comes_none a = record { bytes = []; waits = sym (append-nil a.waiting); off = consumes_none a.to_come; sought = refl }

pub took_none : (a : Arriving) → Took a a []
took_none a = record { came = []; split = append-nil a.waiting; off = consumes_none a.to_come }

pub took_first : (old new : Arriving) (count : ℕ) → new ≡ record old { waiting = drop count old.waiting } → Took old new (take count old.waiting)
took_first old new count is = record {
  came = [];
  split = append-nil old.waiting ∙ sym (take-append-drop count old.waiting) ∙ ap (λ (a : Arriving). take count old.waiting ++ a.waiting) (sym is);
  off = subst (λ (a : Arriving). Consumes old.to_come a.to_come []) (sym is) (consumes_none old.to_come);
}

pub took_more : (old new : Arriving) → ComesMore old new → Took old new []
took_more old new comes = record { came = comes.bytes; split = sym comes.waits; off = comes.off }

pub took_both : (a b c : Arriving) (xs ys : List ℕ) → Took a b xs → Took b c ys → Took a c (xs ++ ys)
took_both a b c xs ys f g = record {
  came = f.came ++ g.came;
  split =
      sym (append_assoc a.waiting f.came g.came) ∙ ap (λ w. w ++ g.came) f.split ∙ append_assoc xs b.waiting g.came ∙ ap (λ w. xs ++ w) g.split
      ∙ sym (append_assoc xs ys c.waiting);
  off = consumes_both a.to_come b.to_come c.to_come f.came g.came f.off g.off;
}

-- the bytes that were taken were ahead, and the rest of these still is
ahead_known : (waiting left came bytes : List ℕ) (had has : Option (List ℕ)) (all : List ℕ) → waiting ++ came ≡ bytes ++ left → Consumes had has came
    → option_map (λ xs. waiting ++ xs) had ≡ Some all → (rest : List ℕ) × (option_map (λ xs. left ++ xs) has ≡ Some rest) × (all ≡ bytes ++ rest)
ahead_known waiting left came bytes None has all split off is = absurd (cc)
ahead_known waiting left came bytes (Some xs) None all split off is = absurd off
ahead_known waiting left came bytes (Some xs) (Some ys) all split off is =
    let same : waiting ++ xs ≡ all = cc in
    (left ++ ys, refl, sym same ∙ ap (λ w. waiting ++ w) off ∙ sym (append_assoc waiting came ys) ∙ ap (λ w. w ++ ys) split ∙ append_assoc bytes left ys)

pub ahead_took : (old new : Arriving) (bytes all : List ℕ) → Took old new bytes → ahead old ≡ Some all → (rest : List ℕ) × (ahead new ≡ Some rest) × (all ≡ bytes ++ rest)
ahead_took old new bytes all took is = ahead_known old.waiting new.waiting took.came bytes old.to_come new.to_come all took.split took.off is

over_none : (waiting : List ℕ) (has : Option (List ℕ)) (rest : List ℕ) → waiting ≡ [] → IsAtEnd has → option_map (λ xs. waiting ++ xs) has ≡ Some rest → rest ≡ []
over_none waiting None rest none ends is = absurd (cc)
over_none waiting (Some xs) rest none ends is = let same : waiting ++ xs ≡ rest = cc in sym same ∙ ap (λ w. w ++ xs) none ∙ ends

-- where nothing waits and nothing is to come, nothing is ahead
pub ahead_over : (a : Arriving) (rest : List ℕ) → IsOver a → ahead a ≡ Some rest → rest ≡ []
ahead_over a rest over is = over_none a.waiting a.to_come rest over.none over.ends is

pub ended_over : (old new : Arriving) → HasEnded old new → old.waiting ≡ [] → IsOver new
ended_over old new has none = record { none = has.waits ∙ none; ends = has.ends }

-- all that waited was passed
pub all_passed : (old new : Arriving) (count : ℕ) → new ≡ record old { waiting = drop count old.waiting } → length old.waiting ≤ count → IsAtEnd old.to_come → IsOver new
all_passed old new count is all ends = record {
  none = ap (λ (a : Arriving). a.waiting) is ∙ drop_all count old.waiting all;
  ends = subst (λ (a : Arriving). IsAtEnd a.to_come) (sym is) ends;
}
