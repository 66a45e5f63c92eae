-- Past letters of the descriptor's name that is being read.
use Rattle.std.proofs.Common.{◌≡◌, ℕ, zero, suc, ◌+◌, ◌-◌, ◌*◌, ◌<◌, ◌≤◌, ◌∙◌, ap, sym, subst, Bool, true, false, ◌&&◌, ◌||◌, ◌==◌, ◌⊎◌, inl, inr, if◌then◌else◌, Option, Some, None, List, [], ◌∷◌, ◌++◌, length, take, drop, refl, arith, length-append, append_assoc, get_or, map, not, ◌%◌, ◌^◌, Fits, w8}
use Rattle.std.specs.Prelude.{nat_le, min, IfSome}
use Rattle.std.specs.Option.{is_some, option_map}
use Rattle.std.specs.List.{prefix_len}
use lib.Lanes.{chunk, mask_l, top}
use Rattle.std.proofs.lemmas.Bool.{agree_below, agree_below_at}
use Rattle.std.proofs.lemmas.Simd.{first_set_mask_l, length-chunk, map-map, mask_l-mod, run_in_chunk_fails, run_in_chunk_le}
use Rattle.std.proofs.lemmas.Bool.{cases_lt}
use Rattle.std.proofs.lemmas.Bool.Decides.{nat_tests}
use Rattle.std.proofs.lemmas.List.{append-nil, get_or-drop, length-drop, length-map, length-reverse, length-take-le, take_all, take_more}
use Rattle.jser_anywhere.specs.declared.text.Place.{Place}
use Rattle.jser_anywhere.specs.declared.text.Place.TheVariants as place
use Rattle.jser_anywhere.specs.declared.text.Taken.TheVariants as taken
use Rattle.jser_anywhere.specs.declared.open.Name.{Name}
use Rattle.jser_anywhere.specs.declared.open.Row.{Row}
use Rattle.jser_anywhere.specs.declared.recent.Recent.{Recent}
use Rattle.jser_anywhere.specs.Texts.{is_first, take_byte}
use Rattle.jser_anywhere.specs.Names.{core}
use Rattle.jser_anywhere.specs.Stages.{in_name}
use Rattle.jser_anywhere.specs.Slots.{hidden_of, is_even, is_odd, lower}
use Rattle.jser_anywhere.specs.Steps.{Scanning, first_set, may_begin, is_letter, IsText, recent_in, with_byte, left_of, begun, name_left, row_left, as_name, text_with, name_with, name_after, name_past, or_taken, kept_with, noted, noted_hidden, gone_on, row_or, row_begins, scan_hidden, scan_after, read_past}
use Rattle.jser_anywhere.specs.Scans.{HasScanned, TakesBytes, Hurries, SkipFits, name_group, most_taken}
use Rattle.jser_anywhere.proofs.QuietLemmas.{recent_same, same_recent}
use Rattle.jser_anywhere.proofs.TakeLemmas.{byte_by}

-- ---- the bytes

pub text_none : (piece : List ℕ) (from : ℕ) → from ≤ length piece → IsText piece from from
text_none piece from within = record {
  ordered = omega arith;
  within = within;
  letters = λ at lower upper. absurd (omega (arith, lower, upper));
  bytes = λ at lower upper. absurd (omega (arith, lower, upper));
}

before_or_at : (at to : ℕ) → at < to + 1 → (at < to) ⊎ (at ≡ to)
before_or_at at to less = elim (cases_lt at to) [ inl l ↦ inl l | inr not ↦ inr (omega arith) ]

letter_is : (byte : ℕ) → (byte < 0x24 → ⊥) → (0x7F < byte → ⊥) → is_letter byte ≡ true
letter_is byte low high = grind (arith, nat_tests, low, high)

pub text_more : (piece : List ℕ) (from to byte : ℕ) → IsText piece from to → to < length piece → byte ≡ get_or piece to 0 → (byte < 0x24 → ⊥) → (0x7F < byte → ⊥) → get_or piece to 0 < 256
    → IsText piece from (to + 1)
text_more piece from to byte t less is low high small = record {
  ordered = omega (arith, t.ordered);
  within = omega arith;
  letters = λ at lower upper. elim (before_or_at at to upper) [
    | inl l ↦ t.letters at lower l
    | inr e ↦ subst (λ (n : ℕ). is_letter (get_or piece n 0) ≡ true) (sym e) (subst (λ (n : ℕ). is_letter n ≡ true) is (letter_is byte low high))
  ];
  bytes = λ at lower upper. elim (before_or_at at to upper) [
    | inl l ↦ t.bytes at lower l
    | inr e ↦ subst (λ (n : ℕ). get_or piece n 0 < 256) (sym e) small
  ];
}

-- a run, and one behind it
pub text_joined : (piece : List ℕ) (from mid to : ℕ) → IsText piece from mid → IsText piece mid to → IsText piece from to
text_joined piece from mid to first second = record {
  ordered = omega (arith, first.ordered, second.ordered);
  within = second.within;
  letters = λ at lower upper. elim (cases_lt at mid) [
    | inl l ↦ first.letters at lower l
    | inr not ↦ second.letters at (omega arith) upper
  ];
  bytes = λ at lower upper. elim (cases_lt at mid) [
    | inl l ↦ first.bytes at lower l
    | inr not ↦ second.bytes at (omega arith) upper
  ];
}

-- the front of one
pub text_front : (piece : List ℕ) (from mid to far : ℕ) → IsText piece from mid → IsText piece mid far → mid ≤ to → to ≤ far → IsText piece from to
text_front piece from mid to far first second low high = record {
  ordered = omega (arith, first.ordered);
  within = omega (arith, second.within);
  letters = λ at lower upper. (text_joined piece from mid far first second).letters at lower (omega arith);
  bytes = λ at lower upper. (text_joined piece from mid far first second).bytes at lower (omega arith);
}

-- ---- sixteen bytes together

module _ (bytes : List ℕ) (at run : ℕ) (mask : List ℕ) (room : at + 16 ≤ length bytes) (fits : (k : ℕ) → Fits w8 (get_or bytes k 0))
    (found : run ≡ first_set (mask_l (map (top 7) mask) % 2 ^ 64) 16) (f : ℕ → ℕ) (lane : mask ≡ map f (chunk at 16 bytes)) where
  -- the test whether a lane stops
  abbrev stops : ℕ → Bool
  stops b = top 7 (f b)

  counted : run ≡ prefix_len (λ b. not (stops b)) (chunk at 16 bytes)
  counted =
      let v = chunk at 16 bytes in
      let long = length-chunk at 16 bytes room in
      let bits = ap (λ l. mask_l l % 2 ^ 64) (ap (map (top 7)) lane ∙ map-map (top 7) f v) ∙ mask_l-mod (map stops v) 64 (omega (arith, length-map v stops, long)) in
      found ∙ ap (λ m. first_set m 16) bits ∙ first_set_mask_l stops v 16 long (omega arith)

  pub letters_within : run ≤ 16
  letters_within = run_in_chunk_le stops bytes at 16 run 0 room counted

  -- the bytes of the run, where each byte at which no lane stops is a letter
  pub run_of_letters : agree_below (λ b. stops b || is_letter b) (λ _. true) 256 ≡ true → IsText bytes at (at + run)
  run_of_letters all = record {
    ordered = omega arith;
    within = omega (arith, letters_within);
    letters = λ k from to.
        let goes = run_in_chunk_fails stops bytes at 16 run 0 room counted k from to in
        sym (ap (λ b. b || is_letter (get_or bytes k 0)) goes) ∙ agree_below_at (λ b. stops b || is_letter b) (λ _. true) 256 (get_or bytes k 0) all (fits k).fits;
    bytes = λ k from to. (fits k).fits;
  }

-- letters that were kept
pub pushed_none : (kept bytes : List ℕ) → length kept + length bytes ≤ 9217 → kept ≡ kept ++ take 0 bytes
pushed_none kept bytes room = sym (append-nil kept)

pub pushed_more : (kept now new bytes : List ℕ) (i : ℕ) → now ≡ kept ++ take i bytes → i < length bytes → new ≡ now ++ get_or bytes i 0 ∷ [] → new ≡ kept ++ take (i + 1) bytes
pushed_more kept now new bytes i is less e =
    e ∙ ap (λ (xs : List ℕ). xs ++ get_or bytes i 0 ∷ []) is ∙ append_assoc kept (take i bytes) (get_or bytes i 0 ∷ []) ∙ ap (λ (xs : List ℕ). kept ++ xs) (sym (take_more bytes i 0 less))

pub pushed_all : (kept now bytes : List ℕ) (i : ℕ) → now ≡ kept ++ take i bytes → length bytes ≤ i → now ≡ kept ++ bytes
pushed_all kept now bytes i is all = is ∙ ap (λ (xs : List ℕ). kept ++ xs) (take_all i bytes all)

-- ---- no name begins

none_if : (a b : Bool) (x : ℕ) → b ≡ false → (if a && b then Some x else None) ≡ None
none_if true b x e = ap (λ c. if c then Some x else None) e
none_if false b x e = refl

left_out : (high low : ℕ) → nat_le high 0x23 ≡ false → left_of high low ≡ None
left_out high low e =
    let far : nat_le (high * 256 + low) 9215 ≡ false = grind (arith, nat_tests, e) in
    none_if (nat_le 1 (high * 256 + low)) (nat_le (high * 256 + low) 9215) (high * 256 + low - 1) far

name_none : (low tag other : Bool) (o : Option ℕ) → (low ≡ false → o ≡ None) → (low && (tag || other)) ≡ false → (if tag then o else None) ≡ None
name_none false true other o f e = f refl
name_none false false other o f e = refl
name_none true true other o f e = absurd cc
name_none true false other o f e = refl

nothing_begun : (a b : Bool) (more : ℕ) → (if a then (if b then begun more None else None) else None) ≡ None
nothing_begun true true more = refl
nothing_begun true false more = refl
nothing_begun false b more = refl

row_none : (low tag other rest some : Bool) (more : ℕ) (o : Option ℕ) → (low ≡ false → o ≡ None) → (low && (other || tag)) ≡ false
    → (if tag && rest then (if some then begun more o else None) else None) ≡ None
row_none false tag other rest some more o f e = ap (λ x. if tag && rest then (if some then begun more x else None) else None) (f refl) ∙ nothing_begun (tag && rest) some more
row_none true false other rest some more o f e = refl
row_none true true true rest some more o f e = absurd cc
row_none true true false rest some more o f e = absurd cc

no_name_left : (r : Recent) (byte : ℕ) → (nat_le r.last 0x23 && (r.second == 0x72 || r.sixth == 0x7D)) ≡ false → name_left r byte ≡ None
no_name_left r byte e = name_none (nat_le r.last 0x23) (r.second == 0x72) (r.sixth == 0x7D) (left_of r.last byte) (left_out r.last byte) e

no_row_left : (r : Recent) (byte : ℕ) → (nat_le r.last 0x23 && (r.second == 0x72 || r.sixth == 0x7D)) ≡ false → row_left r byte ≡ None
no_row_left r byte e =
    row_none (nat_le r.last 0x23) (r.sixth == 0x7D) (r.second == 0x72) (r.fifth == 0 && r.fourth == 0) (nat_le 1 (r.third * 256 + r.second)) (r.third * 256 + r.second - 1) (left_of r.last byte)
    (left_out r.last byte) e

-- ---- one byte

-- a name whose next group has not begun, and which may be one
abbrev the_name : (at left skip : ℕ) → Name
the_name at left skip = record { place = at; text = record { left = left; group = place.First; skip = Some skip } }

abbrev the_scan : ℕ → Recent → List ℕ → Name → Scanning
the_scan count recent kept n = record { count = count; recent = recent; kept = kept; name = Some n; even = None; odd = None }

same_scan : (c d : ℕ) (r s : Recent) (k l : List ℕ) (n m : Option Name) (v w x y : Option Row) → c ≡ d → r ≡ s → k ≡ l → n ≡ m → v ≡ w → x ≡ y
    → (let a : Scanning = record { count = c; recent = r; kept = k; name = n; even = v; odd = x } in let b : Scanning = record { count = d; recent = s; kept = l; name = m; even = w; odd = y } in a ≡ b)
same_scan c d r s k l n m v w x y p q t u o z = cc

letter_in : (byte : ℕ) → is_letter byte ≡ true → in_name byte ≡ true
letter_in byte e = grind (arith, nat_tests, e)

letter_taken : (byte : ℕ) → is_letter byte ≡ true → take_byte place.First byte ≡ taken.Unit byte
letter_taken byte e = grind (arith, nat_tests, e)

letter_low : (byte : ℕ) → is_letter byte ≡ true → nat_le byte 0x23 ≡ false
letter_low byte e = grind (arith, nat_tests, e)

-- what it leads to, and the name with it
took_letter : (byte left skip : ℕ) → is_letter byte ≡ true → as_name (record { left = left; group = place.First; skip = Some skip }) byte ≡ taken.Unit byte
took_letter byte left skip e = ap (λ b. if b then take_byte place.First byte else taken.Refused) (letter_in byte e) ∙ letter_taken byte e

name_letter : (at left skip byte : ℕ) → is_letter byte ≡ true → name_with (Some (the_name at left skip)) byte ≡ Some (the_name at left skip)
name_letter at left skip byte e =
    let i = letter_in byte e in
    ap (λ b. option_map (λ t. record { place = at; text = t }) (if b then text_with (record { left = left; group = place.First; skip = Some skip }) byte (take_byte place.First byte) else None)) i
    ∙ ap (λ x. option_map (λ t. record { place = at; text = t }) (text_with (record { left = left; group = place.First; skip = Some skip }) byte x)) (letter_taken byte e)
    ∙ ap (λ b. Some (record { place = at; text = record { left = left; group = place.First; skip = if b then Some skip else None } })) i

noted_letter : (count : ℕ) (recent : Recent) (kept : List ℕ) (at left skip byte : ℕ) → is_letter byte ≡ true
    → noted (the_scan count recent kept (the_name at left skip)) byte ≡ the_scan count recent (kept ++ byte ∷ []) (the_name at left skip)
noted_letter count recent kept at left skip byte e =
    same_scan _ _ _ _ _ _ _ _ _ _ _ _ refl refl (ap (λ x. kept_with kept (or_taken x taken.Refused)) (took_letter byte left skip e)) (name_letter at left skip byte e) refl refl

hidden_none : (passes : List ℕ → Bool) (count : ℕ) (recent : Recent) (kept : List ℕ) (at left skip : ℕ) → (left == 0) ≡ false
    → noted_hidden passes (the_scan count recent kept (the_name at left skip)) ≡ None
hidden_none passes count recent kept at left skip e = ap (λ b. lower (hidden_of passes at (if b then core (drop skip kept) else None)) None) e

none_hidden : (passes : List ℕ → Bool) (count : ℕ) (recent : Recent) (kept : List ℕ) (at left skip byte : ℕ) → (left == 0) ≡ false → is_letter byte ≡ true
    → scan_hidden passes (the_scan count recent kept (the_name at left skip)) byte ≡ None
none_hidden passes count recent kept at left skip byte some e =
    ap (λ (s : Scanning). noted_hidden passes s) (noted_letter count recent kept at left skip byte e) ∙ hidden_none passes count recent (kept ++ byte ∷ []) at left skip some

after_is : (count : ℕ) (recent : Recent) (kept : List ℕ) (at left skip byte : ℕ) → (left == 0) ≡ false → is_letter byte ≡ true
    → (nat_le recent.last 0x23 && (recent.second == 0x72 || recent.sixth == 0x7D)) ≡ false
    → scan_after (the_scan count recent kept (the_name at left skip)) byte ≡ the_scan (min (count + 1) most_taken) (with_byte recent byte) (kept ++ byte ∷ []) (the_name at (left - 1) skip)
after_is count recent kept at left skip byte some e quiet =
    let here = the_name at left skip in
    let long = length (kept ++ byte ∷ []) in
    let more = ap (λ o. name_after count long o (Some here)) (no_name_left recent byte quiet) ∙ ap (λ b. if b then None else Some (the_name at (left - 1) skip)) some in
    let none_even = ap (λ o. row_or (row_begins (is_even (count - 6)) (count - 6) long o) None) (no_row_left recent byte quiet) in
    let none_odd = ap (λ o. row_or (row_begins (is_odd (count - 6)) (count - 6) long o) None) (no_row_left recent byte quiet) in
    ap (λ (s : Scanning). gone_on s byte) (noted_letter count recent kept at left skip byte e)
    ∙ same_scan _ _ _ _ _ _ _ _ _ _ _ _ refl refl refl more none_even none_odd

-- ---- some bytes

no_begin : (piece : List ℕ) (at k : ℕ) → may_begin piece at ≡ false → ((n : ℕ) → at ≤ n → n < at + k → is_letter (get_or piece n 0) ≡ true) → may_begin piece (at + k) ≡ false
no_begin piece at zero here letters = subst (λ (n : ℕ). may_begin piece n ≡ false) (omega arith) here
no_begin piece at (suc k) here letters =
    let before : nat_le (get_or piece (at + suc k - 1) 0) 0x23 ≡ false = letter_low (get_or piece (at + suc k - 1) 0) (letters (at + suc k - 1) (omega arith) (omega arith)) in
    ap (λ b. b && (get_or piece (at + suc k - 2) 0 == 0x72 || get_or piece (at + suc k - 6) 0 == 0x7D)) before

some_left : (left k : ℕ) → suc k ≤ left → (left - k == 0) ≡ false
some_left left k le = grind (arith, nat_tests)

recent_more : (piece : List ℕ) (to more : ℕ) → more ≡ to + 1 → 6 ≤ to → with_byte (recent_in piece to) (get_or piece to 0) ≡ recent_in piece more
recent_more piece to more e six =
    let at : (a b : ℕ) → a ≡ b → get_or piece a 0 ≡ get_or piece b 0 = λ a b is. ap (λ (n : ℕ). get_or piece n 0) is in
    same_recent _ _ _ _ _ _ _ _ _ _ _ _ (at to (more - 1) (omega arith)) (at (to - 1) (more - 2) (omega arith)) (at (to - 2) (more - 3) (omega arith)) (at (to - 3) (more - 4) (omega arith))
    (at (to - 4) (more - 5) (omega arith)) (at (to - 5) (more - 6) (omega arith))

kept_more : (kept piece : List ℕ) (from to more : ℕ) → more ≡ to + 1 → from ≤ to → to < length piece
    → (kept ++ take (to - from) (drop from piece)) ++ get_or piece to 0 ∷ [] ≡ kept ++ take (more - from) (drop from piece)
kept_more kept piece from to more e ordered less =
    let long = length-drop from piece in
    let inside : to - from < length (drop from piece) = omega (arith, long) in
    let there : from + (to - from) ≡ to = omega arith in
    let next : to - from + 1 ≡ more - from = omega arith in
    let byte : get_or (drop from piece) (to - from) 0 ≡ get_or piece to 0 = get_or-drop from piece (to - from) 0 ∙ ap (λ (n : ℕ). get_or piece n 0) there in
    append_assoc kept (take (to - from) (drop from piece)) (get_or piece to 0 ∷ [])
    ∙ ap (λ (xs : List ℕ). kept ++ xs) (ap (λ (b : ℕ). take (to - from) (drop from piece) ++ b ∷ []) (sym byte) ∙ sym (take_more (drop from piece) (to - from) 0 inside) ∙ ap (λ (n : ℕ). take n (drop from piece)) next)

no_some : (from : ℕ) → None ≡ Some from → ⊥
no_some from e = absurd cc

-- where the scan has a name of this form, and no row
record Reads (old : Scanning) (n : Name) (skip : ℕ) : Type 0 where
  pub name : old.name ≡ Some n
  pub even : old.even ≡ None
  pub odd : old.odd ≡ None
  pub group : n.text.group ≡ place.First
  pub skip_is : n.text.skip ≡ Some skip

same_name : (n : Name) (count skip : ℕ) → n.text.skip ≡ Some skip → name_past n count ≡ the_name n.place (n.text.left - count) skip
same_name n count skip e = ap (λ s. record { place = n.place; text = record { left = n.text.left - count; group = place.First; skip = s } }) e

whole_name : (n : Name) (skip : ℕ) → n.text.group ≡ place.First → n.text.skip ≡ Some skip → n ≡ the_name n.place n.text.left skip
whole_name n skip g e =
    ap (λ x. record { place = n.place; text = record { left = n.text.left; group = x; skip = n.text.skip } }) g
    ∙ ap (λ s. record { place = n.place; text = record { left = n.text.left; group = place.First; skip = s } }) e

read_run : (passes : List ℕ → Bool) (taken piece : List ℕ) (old : Scanning) (n : Name) (skip at k : ℕ) → 6 ≤ at → at + k ≤ length piece → k ≤ n.text.left → may_begin piece at ≡ false
    → ((m : ℕ) → at ≤ m → m < at + k → is_letter (get_or piece m 0) ≡ true) → ((m : ℕ) → at ≤ m → m < at + k → get_or piece m 0 < 256) → Reads old n skip
    → length taken + (at + k) ≤ most_taken → HasScanned passes (taken ++ take at piece) old
    → HasScanned passes (taken ++ take (at + k) piece) (read_past old n piece at (at + k))
read_run passes taken piece old n skip at zero six within few quiet letters small r fits s =
    let none : at + 0 ≡ at = omega arith in
    let long = length-take-le at piece (omega arith) in
    let count : old.count ≡ min (old.count + (at - at)) most_taken =
    omega (arith, s.follows.count, fits, long, length-reverse (taken ++ take at piece), length-append taken (take at piece)) in
    let left : n.text.left ≡ n.text.left - (at - at) = omega arith in
    let size : at - at ≡ 0 = omega arith in
    let kept : old.kept ≡ old.kept ++ take (at - at) (drop at piece) = sym (ap (λ (m : ℕ). old.kept ++ take m (drop at piece)) size ∙ append-nil old.kept) in
    let named : old.name ≡ Some (name_past n (at - at)) =
    r.name ∙ ap (λ x. Some x) (whole_name n skip r.group r.skip_is ∙ ap (λ (l : ℕ). the_name n.place l skip) left ∙ sym (same_name n (at - at) skip r.skip_is)) in
    let same : old ≡ read_past old n piece at at =
    same_scan old.count _ old.recent _ old.kept _ old.name _ old.even _ old.odd _ count (s.follows.recent ∙ sym (recent_same taken piece at (omega arith) six)) kept named r.even r.odd in
    subst (λ (m : ℕ). HasScanned passes (taken ++ take m piece) (read_past old n piece at m)) (sym none)
    (subst (λ (x : Scanning). HasScanned passes (taken ++ take at piece) x) same s)
read_run passes taken piece old n skip at (suc k) six within few quiet letters small r fits s =
    let to : ℕ = at + k in
    let byte : ℕ = get_or piece to 0 in
    let now : Scanning = read_past old n piece at to in
    let before : List ℕ = taken ++ take to piece in
    let long = length-take-le to piece (omega arith) in
    let past = read_run passes taken piece old n skip at k six (omega arith) (omega arith) quiet (λ m lower upper. letters m lower (omega arith)) (λ m lower upper. small m lower (omega arith)) r (omega arith) s in
    let rest_left : ℕ = n.text.left - (to - at) in
    let left : (rest_left == 0) ≡ false = some_left n.text.left (to - at) (omega arith) in
    let begins : may_begin piece to ≡ false = no_begin piece at k quiet (λ m lower upper. letters m lower (omega arith)) in
    let letter : is_letter byte ≡ true = letters to (omega arith) (omega arith) in
    let form : now ≡ the_scan now.count now.recent now.kept (the_name n.place rest_left skip) =
    ap (λ (x : Name). the_scan now.count now.recent now.kept x) (same_name n (to - at) skip r.skip_is) in
    let hidden : scan_hidden passes now byte ≡ None = ap (λ (x : Scanning). scan_hidden passes x byte) form ∙ none_hidden passes now.count now.recent now.kept n.place rest_left skip byte left letter in
    let made = byte_by passes now (scan_after now byte) byte None before (small to (omega arith) (omega arith)) (omega (arith, fits, long, length-append taken (take to piece))) past
    (sym hidden) (λ e. refl) None (λ e. refl) (λ from e. absurd (no_some from e)) in
    let more : at + suc k ≡ to + 1 = omega arith in
    let after = ap (λ (x : Scanning). scan_after x byte) form ∙ after_is now.count now.recent now.kept n.place rest_left skip byte left letter begins in
    let count : min (min (old.count + (to - at)) most_taken + 1) most_taken ≡ min (old.count + (at + suc k - at)) most_taken = omega arith in
    let rest : rest_left - 1 ≡ n.text.left - (at + suc k - at) = omega arith in
    let same = after ∙ same_scan _ _ _ _ _ _ _ _ _ _ _ _ count (recent_more piece to (at + suc k) more (omega arith)) (kept_more old.kept piece at to (at + suc k) more (omega arith) (omega arith))
    (ap (λ (l : ℕ). Some (the_name n.place l skip)) rest ∙ ap (λ x. Some x) (sym (same_name n (at + suc k - at) skip r.skip_is))) refl refl in
    let list : before ++ byte ∷ [] ≡ taken ++ take (at + suc k) piece =
    append_assoc taken (take to piece) (byte ∷ []) ∙ ap (λ (xs : List ℕ). taken ++ xs) (sym (take_more piece to 0 (omega arith))) ∙ ap (λ (m : ℕ). taken ++ take m piece) (sym more) in
    subst (λ (xs : List ℕ). HasScanned passes xs (read_past old n piece at (at + suc k))) list
    (subst (λ (x : Scanning). HasScanned passes (before ++ byte ∷ []) x) same made)

-- ---- what a call tells

read_scanned : (passes : List ℕ → Bool) (taken piece : List ℕ) (old : Scanning) (n : Name) (skip at to : ℕ) → 6 ≤ at → to - at ≤ n.text.left → may_begin piece at ≡ false → IsText piece at to
    → Reads old n skip → length taken + to ≤ most_taken → HasScanned passes (taken ++ take at piece) old
    → HasScanned passes (taken ++ take to piece) (read_past old n piece at to)
read_scanned passes taken piece old n skip at to six few quiet t r fits s =
    let ordered = t.ordered in
    let within = t.within in
    let e : at + (to - at) ≡ to = omega arith in
    subst (λ (m : ℕ). HasScanned passes (taken ++ take m piece) (read_past old n piece at m)) e
    (read_run passes taken piece old n skip at (to - at) six (omega arith) few quiet (λ m lower upper. t.letters m lower (omega arith)) (λ m lower upper. t.bytes m lower (omega arith)) r (omega arith) s)

-- there is room for what was kept
roomy_by : (o : Option Name) (n : Name) (skip : ℕ) (kept : List ℕ) → o ≡ Some n → n.text.skip ≡ Some skip → SkipFits (name_group o) kept → length kept + n.text.left < 9216
roomy_by o n skip kept e f s =
    let here = subst (λ x. SkipFits (name_group x) kept) e s in
    (subst (λ x. IfSome x (λ k. (k ≤ length kept) × (length kept + n.text.left < 9216))) f here).1

takes_read : (old new : Scanning) (n : Name) (skip : ℕ) (piece : List ℕ) (at to : ℕ) → 6 ≤ at → to - at ≤ n.text.left → may_begin piece at ≡ false → IsText piece at to → Reads old n skip
    → (length old.kept + (to - at) ≤ 9217 → new ≡ read_past old n piece at to)
    → (passes : List ℕ → Bool) (start : Scanning) → TakesBytes passes start old (take at piece) None → TakesBytes passes start new (take to piece) None
unfolding TakesBytes
takes_read old new n skip piece at to six few quiet t r is passes start took = λ taken fits s.
    let ordered = t.ordered in
    let within = t.within in
    let long_at = length-take-le at piece (omega arith) in
    let long_to = length-take-le to piece within in
    let before = took taken (omega arith) s in
    let room = roomy_by old.name n skip old.kept r.name r.skip_is before.follows.name_skip in
    subst (λ (x : Scanning). HasScanned passes (taken ++ take to piece) x) (sym (is (omega arith)))
    (read_scanned passes taken piece old n skip at to six few quiet t r (omega arith) before)

record HasSkip (skip : Option ℕ) : Type 0 where
  pub at : ℕ
  pub is : skip ≡ Some at

has_skip : (skip : Option ℕ) → is_some skip ≡ true → HasSkip skip
has_skip None e = absurd cc
has_skip (Some k) e = record { at = k; is = refl }

is_first_group : (g : Place) → is_first g ≡ true → g ≡ place.First
is_first_group place.First e = refl
is_first_group (place.Middle high) e = absurd cc
is_first_group (place.Last high) e = absurd cc

pub hurried_inside : (old new : Scanning) (n : Name) (piece : List ℕ) (at to : ℕ) → 6 ≤ at → to - at ≤ n.text.left → may_begin piece at ≡ false → is_first n.text.group ≡ true → is_some n.text.skip ≡ true
    → IsText piece at to → old.name ≡ Some n → old.even ≡ None → old.odd ≡ None → (length old.kept + (to - at) ≤ 9217 → new ≡ read_past old n piece at to) → Hurries old new piece at to
hurried_inside old new n piece at to six few quiet first some t en ee eo is =
    let h = has_skip n.text.skip some in
    record {
      ordered = t.ordered;
      within = t.within;
      takes = λ passes start took. takes_read old new n h.at piece at to six few quiet t
          (record { name = en; even = ee; odd = eo; group = is_first_group n.text.group first; skip_is = h.is }) is passes start took;
    }
