-- What the scan tells of bytes more.
use Rattle.std.proofs.Common.{◌≡◌, ℕ, ◌+◌, ◌<◌, ◌≤◌, ◌∙◌, ap, sym, subst, Bool, Option, Some, None, List, [], ◌∷◌, ◌++◌, length, take, drop, reverse, refl, arith, length-append, append_assoc, get_or}
use Rattle.std.specs.Prelude.{min}
use Rattle.std.proofs.lemmas.List.{length-reverse, reverse-append, append-nil, take_more, take_all, take-append-drop}
use Rattle.jser_anywhere.specs.Standing.{AllPass, IsFirstHidden}
use Rattle.jser_anywhere.specs.Steps.{Scanning, HasRoom, no_bytes, scan_hidden, scan_after}
use Rattle.jser_anywhere.specs.Scans.{AreBytes, Follows, HasScanned, Tells, TakesBytes, most_taken}
use Rattle.jser_anywhere.specs.declared.hidden.Hidden.{Hidden}
use Rattle.jser_anywhere.proofs.FirstLemmas.{begins_long}
use Rattle.jser_anywhere.proofs.ScanLemmas.{hidden_within, TellsByte, tells_byte, all_pass_more, first_of_byte, first_longer}
use Rattle.jser_anywhere.proofs.FollowLemmas.{has_room, hidden_follows, follows_byte}

none_in_nothing : (passes : List ℕ → Bool) → AllPass passes []
none_in_nothing passes = λ from to hidden.
    let s = hidden.stands in
    absurd (omega (arith, hidden_within passes [] from to hidden, s.ends, begins_long (drop from []) s.end hidden.units s.begins))

pub scanned_none : (passes : List ℕ → Bool) → HasScanned passes [] no_bytes
scanned_none passes = record {
  bytes = tt;
  follows = record {
    count = refl;
    recent = refl;
    name = record { stage_is = refl; place_is = tt };
    even = record { stage_is = refl; place_is = tt };
    odd = record { stage_is = refl; place_is = tt };
    name_skip = tt;
    even_skip = tt;
    odd_skip = tt;
    name_even = tt;
    name_odd = tt;
    even_odd = tt;
    last = λ e. refl;
    few = omega arith;
    name_fits = tt;
    even_fits = tt;
    odd_fits = tt;
  };
  pass = none_in_nothing passes;
}

-- ---- one byte

pub back_more : (taken : List ℕ) (byte : ℕ) → byte ∷ reverse taken ≡ reverse (taken ++ byte ∷ [])
back_more taken byte = sym (reverse-append taken (byte ∷ []))

pub byte_by : (passes : List ℕ → Bool) (old new : Scanning) (byte : ℕ) (place : Option ℕ) (taken : List ℕ) → byte < 256 → length taken + 1 ≤ most_taken → HasScanned passes taken old
    → place ≡ scan_hidden passes old byte → (place ≡ None → new ≡ scan_after old byte)
    → (told : Option Hidden) → (place ≡ None → told ≡ None) → ((from : ℕ) → place ≡ Some from → told ≡ Some (record { from = from; to = min (old.count + 1) most_taken }))
    → Tells passes taken (byte ∷ []) told new
byte_by passes old new byte None taken small fits s is onward told none some =
    let tells : TellsByte passes taken byte None =
    subst (λ o. TellsByte passes taken byte o) (sym (is ∙ hidden_follows passes (reverse taken) old byte s.follows)) (tells_byte passes taken byte) in
    subst (λ o. Tells passes taken (byte ∷ []) o new) (sym (none refl)) (record {
      bytes = subst (λ (bs : List ℕ). AreBytes bs) (back_more taken byte) (small, s.bytes);
      follows = subst (λ (bs : List ℕ). Follows bs new) (back_more taken byte)
          (subst (λ (x : Scanning). Follows (byte ∷ reverse taken) x) (sym (onward refl))
          (follows_byte (reverse taken) old byte s.follows small (omega (arith, fits, length-reverse taken))));
      pass = all_pass_more passes taken byte s.pass tells;
    })
byte_by passes old new byte (Some place) taken small fits s is onward told none some =
    let tells : TellsByte passes taken byte (Some place) =
    subst (λ o. TellsByte passes taken byte o) (sym (is ∙ hidden_follows passes (reverse taken) old byte s.follows)) (tells_byte passes taken byte) in
    let at : min (old.count + 1) most_taken ≡ length taken + 1 = omega (arith, fits, s.follows.count, length-reverse taken) in
    subst (λ o. Tells passes taken (byte ∷ []) o new) (sym (some place refl)) (record {
      first = subst (λ (n : ℕ). IsFirstHidden passes (taken ++ byte ∷ []) place n) (sym at) (first_of_byte passes taken byte place s.pass tells);
      later = omega (arith, at);
    })

different : (o : Option ℕ) (x : ℕ) → o ≡ None → o ≡ Some x → ⊥
different o x e f = let g : None ≡ Some x = sym e ∙ f in absurd cc

same_place : (o : Option ℕ) (x y : ℕ) → o ≡ Some x → o ≡ Some y → x ≡ y
same_place o x y e f = let g : Some x ≡ Some y = sym e ∙ f in cc

pub room_of : (passes : List ℕ → Bool) (taken : List ℕ) (old : Scanning) → HasScanned passes taken old → HasRoom old
room_of passes taken old s = has_room (reverse taken) old s.follows

pub byte_none : (passes : List ℕ → Bool) (old new : Scanning) (byte : ℕ) (place : Option ℕ) → byte < 256
    → (HasRoom old → place ≡ scan_hidden passes old byte) → (HasRoom old → place ≡ None → new ≡ scan_after old byte) → place ≡ None
    → TakesBytes passes old new (byte ∷ []) None
unfolding TakesBytes
byte_none passes old new byte place small is onward none = λ taken fits s.
    let room = room_of passes taken old s in
    byte_by passes old new byte place taken small fits s (is room) (onward room) None (λ e. refl) (λ from e. absurd (different place from none e))

pub byte_some : (passes : List ℕ → Bool) (old new : Scanning) (byte from : ℕ) (place : Option ℕ) → byte < 256
    → (HasRoom old → place ≡ scan_hidden passes old byte) → (HasRoom old → place ≡ None → new ≡ scan_after old byte) → place ≡ Some from
    → TakesBytes passes old new (byte ∷ []) (Some (record { from = from; to = min (old.count + 1) most_taken }))
unfolding TakesBytes
byte_some passes old new byte from place small is onward some = λ taken fits s.
    let room = room_of passes taken old s in
    byte_by passes old new byte place taken small fits s (is room) (onward room) (Some (record { from = from; to = min (old.count + 1) most_taken }))
    (λ e. absurd (different place from e some)) (λ other e. ap (λ (n : ℕ). Some (record { from = n; to = min (old.count + 1) most_taken })) (same_place place from other some e))

-- ---- bytes after bytes

pub takes_none : (passes : List ℕ → Bool) (scan : Scanning) → TakesBytes passes scan scan [] None
unfolding TakesBytes
takes_none passes scan = λ taken fits s. subst (λ (bs : List ℕ). HasScanned passes bs scan) (sym (append-nil taken)) s

tells_more : (passes : List ℕ → Bool) (taken front bytes : List ℕ) (told : Option Hidden) (new : Scanning) → Tells passes (taken ++ front) bytes told new → Tells passes taken (front ++ bytes) told new
tells_more passes taken front bytes None new t = subst (λ (bs : List ℕ). HasScanned passes bs new) (append_assoc taken front bytes) t
tells_more passes taken front bytes (Some hidden) new t = record {
  first = subst (λ (bs : List ℕ). IsFirstHidden passes bs hidden.from hidden.to) (append_assoc taken front bytes) t.first;
  later = omega (arith, t.later, length-append taken front);
}

pub takes_more : (passes : List ℕ → Bool) (old between new : Scanning) (front bytes : List ℕ) (told : Option Hidden) → TakesBytes passes old between front None
    → TakesBytes passes between new bytes told → TakesBytes passes old new (front ++ bytes) told
unfolding TakesBytes
takes_more passes old between new front bytes told first second = λ taken fits s.
    tells_more passes taken front bytes told new
    (second (taken ++ front) (omega (arith, fits, length-append taken front, length-append front bytes)) (first taken (omega (arith, fits, length-append front bytes)) s))

-- the first hidden name is the first of more bytes
pub takes_longer : (passes : List ℕ → Bool) (old new last : Scanning) (bytes more : List ℕ) (hidden : Hidden) → TakesBytes passes old new bytes (Some hidden) → TakesBytes passes old last (bytes ++ more) (Some hidden)
unfolding TakesBytes
takes_longer passes old new last bytes more hidden t = λ taken fits s.
    let e = t taken (omega (arith, fits, length-append bytes more)) s in
    record {
      first = subst (λ (bs : List ℕ). IsFirstHidden passes bs hidden.from hidden.to) (append_assoc taken bytes more) (first_longer passes (taken ++ bytes) more hidden.from hidden.to e.first);
      later = e.later;
    }

-- ---- a piece, byte after byte

pub fed_more : (passes : List ℕ → Bool) (old between new : Scanning) (piece : List ℕ) (index : ℕ) → TakesBytes passes old between (take index piece) None → index < length piece
    → TakesBytes passes between new (get_or piece index 0 ∷ []) None → TakesBytes passes old new (take (index + 1) piece) None
fed_more passes old between new piece index first less second =
    subst (λ (bs : List ℕ). TakesBytes passes old new bs None) (sym (take_more piece index 0 less))
    (takes_more passes old between new (take index piece) (get_or piece index 0 ∷ []) None first second)

pub fed_some : (passes : List ℕ → Bool) (old between new : Scanning) (piece : List ℕ) (index : ℕ) (hidden : Hidden) → TakesBytes passes old between (take index piece) None → index < length piece
    → TakesBytes passes between new (get_or piece index 0 ∷ []) (Some hidden) → TakesBytes passes old new piece (Some hidden)
fed_some passes old between new piece index hidden first less second =
    subst (λ (bs : List ℕ). TakesBytes passes old new bs (Some hidden)) (take-append-drop (index + 1) piece)
    (takes_longer passes old new new (take (index + 1) piece) (drop (index + 1) piece) hidden
    (subst (λ (bs : List ℕ). TakesBytes passes old new bs (Some hidden)) (sym (take_more piece index 0 less))
    (takes_more passes old between new (take index piece) (get_or piece index 0 ∷ []) (Some hidden) first second)))

pub fed_all : (passes : List ℕ → Bool) (old new : Scanning) (piece : List ℕ) (index : ℕ) → TakesBytes passes old new (take index piece) None → length piece ≤ index
    → TakesBytes passes old new piece None
fed_all passes old new piece index t all = subst (λ (bs : List ℕ). TakesBytes passes old new bs None) (take_all index piece all) t
