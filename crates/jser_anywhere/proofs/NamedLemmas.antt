-- The names that are told are those that stand.
use Rattle.std.proofs.Common.{◌≡◌, ℕ, zero, suc, ◌+◌, ◌*◌, ap, sym, subst, refl, Bool, true, false, ◌&&◌, ◌==◌, inl, inr, if◌then◌else◌, Option, Some, None, List, [], ◌∷◌, ◌++◌, drop, arith, eqb-true}
use Rattle.std.specs.Prelude.{◌⊎◌}
use Rattle.jser_anywhere.specs.Search.{text_of, text_end}
use Rattle.jser_anywhere.specs.Texts.{row_units}
use Rattle.jser_anywhere.specs.Names.{core}
use Rattle.jser_anywhere.specs.Standing.{BeginsText, BeginsName, BeginsRow, Begins}
use Rattle.jser_anywhere.specs.NamesIn.{Named, IsNamed, NamesStand, AllAreNamed, named_or, named_then, row_names, no_row, interface_row, row_of, names_at, names_in}
use Rattle.jser_anywhere.proofs.PlaceLemmas.{text_stands, text_tells, as_text, as_name}
use Rattle.jser_anywhere.proofs.FirstLemmas.{begins_none}

-- ---- a row

record RowNamed (from most at : ℕ) (bytes : List ℕ) (f to : ℕ) (units : List ℕ) : Type 0 where
  pub place : f ≡ from
  pub end : ℕ
  pub row : BeginsRow most bytes end units
  pub ends : to ≡ at + end

row_later : (from most at f to : ℕ) (bytes units text : List ℕ) → BeginsText row_units bytes (text_end bytes) text
    → RowNamed from most (at + text_end bytes) (drop (text_end bytes) bytes) f to units → RowNamed from (suc most) at bytes f to units
row_later from most at f to bytes units text t r = record {
  place = r.place;
  end = text_end bytes + r.end;
  row = inr (record { first = text_end bytes; others = text; name = t; more = r.end; later = r.row; ends = refl });
  ends = omega (arith, r.ends);
}

row_or : (from most at f to : ℕ) (bytes units text : List ℕ) (name : Option (List ℕ)) → BeginsText row_units bytes (text_end bytes) text → core text ≡ name
    → (IsNamed f to units (row_names from most (at + text_end bytes) (drop (text_end bytes) bytes)) → RowNamed from most (at + text_end bytes) (drop (text_end bytes) bytes) f to units)
    → IsNamed f to units (named_or from at (at + text_end bytes) (row_names from most (at + text_end bytes) (drop (text_end bytes) bytes)) text name)
    → RowNamed from (suc most) at bytes f to units
row_or from most at f to bytes units text None t c later is = row_later from most at f to bytes units text t (later is)
row_or from most at f to bytes units text (Some others) t c later (inl here) = record {
  place = sym here.0;
  end = text_end bytes;
  row = inl (subst (λ (u : List ℕ). BeginsName bytes (text_end bytes) u) here.2 (as_name bytes (text_end bytes) text others t c));
  ends = sym here.1;
}
row_or from most at f to bytes units text (Some others) t c later (inr more) = row_later from most at f to bytes units text t (later more)

row_then : (from most at f to : ℕ) (bytes units : List ℕ) (text : Option (List ℕ)) → text_of bytes ≡ text
    → (IsNamed f to units (row_names from most (at + text_end bytes) (drop (text_end bytes) bytes)) → RowNamed from most (at + text_end bytes) (drop (text_end bytes) bytes) f to units)
    → IsNamed f to units (named_then from at (at + text_end bytes) (row_names from most (at + text_end bytes) (drop (text_end bytes) bytes)) text)
    → RowNamed from (suc most) at bytes f to units
row_then from most at f to bytes units None t later is = absurd is
row_then from most at f to bytes units (Some text) t later is = row_or from most at f to bytes units text (core text) (text_stands bytes text t) refl later is

row_stands : (from most at f to : ℕ) (bytes units : List ℕ) → IsNamed f to units (row_names from most at bytes) → RowNamed from most at bytes f to units
row_stands from zero at f to bytes units is = absurd is
row_stands from (suc most) at f to bytes units is =
    row_then from most at f to bytes units (text_of bytes) refl (row_stands from most (at + text_end bytes) f to (drop (text_end bytes) bytes) units) is

named_behind : (from at end f to : ℕ) (units text : List ℕ) (later : List Named) (name : Option (List ℕ)) → IsNamed f to units later → IsNamed f to units (named_or from at end later text name)
named_behind from at end f to units text later None is = is
named_behind from at end f to units text later (Some others) is = inr is

row_tells : (from most at : ℕ) (bytes units : List ℕ) (end : ℕ) → BeginsRow most bytes end units → IsNamed from (at + end) units (row_names from most at bytes)
row_tells from zero at bytes units end row = row
row_tells from (suc most) at bytes units end (inl name) =
    let t = as_text bytes end units name in
    let is = text_tells bytes end t.text_units t.text in
    let later = row_names from most (at + text_end bytes) (drop (text_end bytes) bytes) in
    subst (λ o. IsNamed from (at + end) units (named_then from at (at + text_end bytes) later o)) (sym is.tells)
    (subst (λ o. IsNamed from (at + end) units (named_or from at (at + text_end bytes) later t.text_units o)) (sym t.named)
    (inl (refl, ap (λ (n : ℕ). at + n) is.ends, refl)))
row_tells from (suc most) at bytes units end (inr later) =
    let is = text_tells bytes later.first later.others later.name in
    let rest = row_tells from most (at + later.first) (drop later.first bytes) units later.more later.later in
    let e : at + later.first + later.more ≡ at + end = omega (arith, later.ends) in
    let there = subst (λ (n : ℕ). IsNamed from n units (row_names from most (at + later.first) (drop later.first bytes))) e rest in
    let here = subst (λ (n : ℕ). IsNamed from (at + end) units (row_names from most (at + n) (drop n bytes))) (sym is.ends) there in
    subst (λ o. IsNamed from (at + end) units (named_then from at (at + text_end bytes) (row_names from most (at + text_end bytes) (drop (text_end bytes) bytes)) o)) (sym is.tells)
    (named_behind from at (at + text_end bytes) from (at + end) units later.others (row_names from most (at + text_end bytes) (drop (text_end bytes) bytes)) (core later.others) here)

-- ---- a place

record HereNamed (place : ℕ) (bytes : List ℕ) (f to : ℕ) (units : List ℕ) : Type 0 where
  pub place_is : f ≡ place
  pub end : ℕ
  pub begins : Begins bytes end units
  pub ends : to ≡ place + end

one_row : (rest : List ℕ) (end : ℕ) (units : List ℕ) → BeginsRow 1 rest end units → BeginsName rest end units
one_row rest end units (inl name) = name
one_row rest end units (inr later) = absurd later.later

descriptor_stands : (place mark f to : ℕ) (rest units : List ℕ) → mark ≡ 0x72 → IsNamed f to units (row_names place 1 (place + 1) rest) → HereNamed place (mark ∷ rest) f to units
descriptor_stands place mark f to rest units is named =
    let r = row_stands place 1 (place + 1) f to rest units named in
    record {
      place_is = r.place;
      end = 1 + r.end;
      begins = inl (record { rest = rest; split = ap (λ (n : ℕ). n ∷ rest) is; name_end = r.end; name = one_row rest r.end units r.row; ends = refl });
      ends = omega (arith, r.ends);
    }

interfaces_stand : (place first second high low f to : ℕ) (rest units : List ℕ) (is_first is_second : Bool) → (first == 0) ≡ is_first → (second == 0) ≡ is_second
    → IsNamed f to units (names_at place (if is_first && is_second then record { head = 5; most = high * 256 + low } else no_row) (0x7D ∷ first ∷ second ∷ high ∷ low ∷ rest))
    → HereNamed place (0x7D ∷ first ∷ second ∷ high ∷ low ∷ rest) f to units
interfaces_stand place first second high low f to rest units false is_second e g is = absurd is
interfaces_stand place first second high low f to rest units true false e g is = absurd is
interfaces_stand place first second high low f to rest units true true e g is =
    let r = row_stands place (high * 256 + low) (place + 5) f to rest units is in
    let one : first ≡ 0 = eqb-true first 0 e in
    let two : second ≡ 0 = eqb-true second 0 g in
    record {
      place_is = r.place;
      end = 5 + r.end;
      begins = inr (record { low = low; high = high; rest = rest; split = cc; row_end = r.end; row = r.row; ends = refl });
      ends = omega (arith, r.ends);
    }

row_place : (place f to : ℕ) (rest units : List ℕ) → IsNamed f to units (names_at place (interface_row rest) (0x7D ∷ rest)) → HereNamed place (0x7D ∷ rest) f to units
row_place place f to [] units is = absurd is
row_place place f to (a ∷ []) units is = absurd is
row_place place f to (a ∷ b ∷ []) units is = absurd is
row_place place f to (a ∷ b ∷ c ∷ []) units is = absurd is
row_place place f to (a ∷ b ∷ c ∷ d ∷ rest) units is = interfaces_stand place a b c d f to rest units (a == 0) (b == 0) refl refl is

mark_stands : (place mark f to : ℕ) (rest units : List ℕ) (is_descriptor is_row : Bool) → (mark == 0x72) ≡ is_descriptor → (mark == 0x7D) ≡ is_row
    → IsNamed f to units (names_at place (if is_descriptor then record { head = 1; most = 1 } else (if is_row then interface_row rest else no_row)) (mark ∷ rest))
    → HereNamed place (mark ∷ rest) f to units
mark_stands place mark f to rest units true is_row d r is = descriptor_stands place mark f to rest units (eqb-true mark 0x72 d) is
mark_stands place mark f to rest units false false d r is = absurd is
mark_stands place mark f to rest units false true d r is =
    let e = eqb-true mark 0x7D r in
    subst (λ (n : ℕ). HereNamed place (n ∷ rest) f to units) (sym e)
    (row_place place f to rest units (subst (λ (n : ℕ). IsNamed f to units (names_at place (interface_row rest) (n ∷ rest))) e is))

here_stands : (place f to : ℕ) (bytes units : List ℕ) → IsNamed f to units (names_at place (row_of bytes) bytes) → HereNamed place bytes f to units
unfolding row_of
here_stands place f to [] units is = absurd is
here_stands place f to (mark ∷ rest) units is = mark_stands place mark f to rest units (mark == 0x72) (mark == 0x7D) refl refl is

descriptor_row : (rest : List ℕ) → row_of (0x72 ∷ rest) ≡ record { head = 1; most = 1 }
unfolding row_of
descriptor_row rest = refl

interfaces_row : (high low : ℕ) (rest : List ℕ) → row_of (0x7D ∷ 0 ∷ 0 ∷ high ∷ low ∷ rest) ≡ record { head = 5; most = high * 256 + low }
unfolding row_of
interfaces_row high low rest = refl

here_tells : (place end : ℕ) (bytes units : List ℕ) → Begins bytes end units → IsNamed place (place + end) units (names_at place (row_of bytes) bytes)
here_tells place end bytes units (inl d) =
    let e : place + 1 + d.name_end ≡ place + end = omega (arith, d.ends) in
    let named = subst (λ (n : ℕ). IsNamed place n units (row_names place 1 (place + 1) d.rest)) e (row_tells place 1 (place + 1) d.rest units d.name_end (inl d.name)) in
    subst (λ (xs : List ℕ). IsNamed place (place + end) units (names_at place (row_of xs) xs)) (sym d.split)
    (subst (λ row. IsNamed place (place + end) units (names_at place row (0x72 ∷ d.rest))) (sym (descriptor_row d.rest)) named)
here_tells place end bytes units (inr i) =
    let e : place + 5 + i.row_end ≡ place + end = omega (arith, i.ends) in
    let named = subst (λ (n : ℕ). IsNamed place n units (row_names place (i.high * 256 + i.low) (place + 5) i.rest)) e
    (row_tells place (i.high * 256 + i.low) (place + 5) i.rest units i.row_end i.row) in
    subst (λ (xs : List ℕ). IsNamed place (place + end) units (names_at place (row_of xs) xs)) (sym i.split)
    (subst (λ row. IsNamed place (place + end) units (names_at place row (0x7D ∷ 0 ∷ 0 ∷ i.high ∷ i.low ∷ i.rest))) (sym (interfaces_row i.high i.low i.rest)) named)

-- ---- all places

either_named : (f to : ℕ) (units : List ℕ) (xs ys : List Named) → IsNamed f to units (xs ++ ys) → IsNamed f to units xs ⊎ IsNamed f to units ys
either_named f to units [] ys is = inr is
either_named f to units (x ∷ xs) ys (inl here) = inl (inl here)
either_named f to units (x ∷ xs) ys (inr later) = elim (either_named f to units xs ys later) [ inl l ↦ inl (inr l) | inr r ↦ inr r ]

left_named : (f to : ℕ) (units : List ℕ) (xs ys : List Named) → IsNamed f to units xs → IsNamed f to units (xs ++ ys)
left_named f to units [] ys is = absurd is
left_named f to units (x ∷ xs) ys (inl here) = inl here
left_named f to units (x ∷ xs) ys (inr later) = inr (left_named f to units xs ys later)

right_named : (f to : ℕ) (units : List ℕ) (xs ys : List Named) → IsNamed f to units ys → IsNamed f to units (xs ++ ys)
right_named f to units [] ys is = is
right_named f to units (x ∷ xs) ys is = inr (right_named f to units xs ys is)

record NamedPast (place f to : ℕ) (bytes units : List ℕ) : Type 0 where
  pub at : ℕ
  pub place_is : f ≡ place + at
  pub end : ℕ
  pub begins : Begins (drop at bytes) end units
  pub ends : to ≡ f + end

all_stand : (place f to : ℕ) (bytes units : List ℕ) → IsNamed f to units (names_in place bytes) → NamedPast place f to bytes units
unfolding names_in
all_stand place f to [] units is = absurd is
all_stand place f to (b ∷ bytes) units is = elim (either_named f to units (names_at place (row_of (b ∷ bytes)) (b ∷ bytes)) (names_in (place + 1) bytes) is) [
  | inl here ↦ let h = here_stands place f to (b ∷ bytes) units here in
      record { at = 0; place_is = omega (arith, h.place_is); end = h.end; begins = h.begins; ends = omega (arith, h.place_is, h.ends) }
  | inr later ↦ let l = all_stand (place + 1) f to bytes units later in
      record { at = suc l.at; place_is = omega (arith, l.place_is); end = l.end; begins = l.begins; ends = l.ends }
]

place_tells : (place end : ℕ) (b : ℕ) (bytes units : List ℕ) → Begins (b ∷ bytes) end units → IsNamed (place + 0) (place + 0 + end) units (names_in place (b ∷ bytes))
unfolding names_in
place_tells place end b bytes units begins =
    let named = left_named place (place + end) units (names_at place (row_of (b ∷ bytes)) (b ∷ bytes)) (names_in (place + 1) bytes) (here_tells place end (b ∷ bytes) units begins) in
    subst (λ (n : ℕ). IsNamed n (n + end) units (names_in place (b ∷ bytes))) (omega arith) named

later_tells : (place at end : ℕ) (b : ℕ) (bytes units : List ℕ) → IsNamed (place + 1 + at) (place + 1 + at + end) units (names_in (place + 1) bytes)
    → IsNamed (place + suc at) (place + suc at + end) units (names_in place (b ∷ bytes))
unfolding names_in
later_tells place at end b bytes units named =
    subst (λ (n : ℕ). IsNamed n (n + end) units (names_in place (b ∷ bytes))) (omega arith)
    (right_named (place + 1 + at) (place + 1 + at + end) units (names_at place (row_of (b ∷ bytes)) (b ∷ bytes)) (names_in (place + 1) bytes) named)

all_tell : (place at end : ℕ) (bytes units : List ℕ) → Begins (drop at bytes) end units → IsNamed (place + at) (place + at + end) units (names_in place bytes)
all_tell place zero end [] units begins = absurd (begins_none end units begins)
all_tell place zero end (b ∷ bytes) units begins = place_tells place end b bytes units begins
all_tell place (suc at) end [] units begins = absurd (begins_none end units begins)
all_tell place (suc at) end (b ∷ bytes) units begins = later_tells place at end b bytes units (all_tell (place + 1) at end bytes units begins)

pub names_stand : NamesStand
names_stand bytes from to units is =
    let n = all_stand 0 from to bytes units is in
    let e : n.at ≡ from = omega (arith, n.place_is) in
    record { end = n.end; begins = subst (λ (k : ℕ). Begins (drop k bytes) n.end units) e n.begins; ends = n.ends }

pub all_are_named : AllAreNamed
all_are_named bytes from to units stands =
    let named = all_tell 0 from stands.end bytes units stands.begins in
    let f : 0 + from ≡ from = omega arith in
    let t : 0 + from + stands.end ≡ to = omega (arith, stands.ends) in
    subst (λ (k : ℕ). IsNamed from k units (names_in 0 bytes)) t (subst (λ (k : ℕ). IsNamed k (0 + from + stands.end) units (names_in 0 bytes)) f named)
