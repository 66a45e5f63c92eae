-- The search at one place finds the first name that stands there and does not pass, and none that passes.
use Rattle.std.proofs.Common.{◌≡◌, ℕ, zero, suc, ◌+◌, ◌*◌, ◌≤◌, ◌∙◌, ap, sym, subst, Bool, true, false, ◌&&◌, ◌==◌, inl, inr, if◌then◌else◌, Option, Some, None, List, [], ◌∷◌, ◌++◌, length, take, drop, refl, arith}
use Rattle.std.specs.Prelude.{nat_le}
use Rattle.std.specs.Option.{option_map}
use Rattle.std.proofs.lemmas.Bool.Decides.{nat_tests}
use Rattle.std.proofs.lemmas.List.{take-append-drop, length-take-le}
use Rattle.std.proofs.Math.Seq.{take-append_seam}
use Rattle.std.proofs.Common.{length-append, eqb-true}
use Rattle.jser_anywhere.specs.Texts.{row_units}
use Rattle.jser_anywhere.specs.Names.{core, core_in, name_units}
use Rattle.jser_anywhere.specs.Search.{text_of, text_end, names_hidden, row_hidden, row_next, interfaces_hidden, hidden_here}
use Rattle.jser_anywhere.specs.Standing.{most_bytes, BeginsText, BeginsName, BeginsRow, Begins}

-- a test that answered something
if_some : {A : Type 0} → (b : Bool) (o : Option A) (a : A) → (if b then o else None) ≡ Some a → (b ≡ true) × (o ≡ Some a)
if_some true o a e = (refl, e)
if_some false o a e = absurd cc

if_true : {A : Type 0} → (b : Bool) (o : Option A) → b ≡ true → (if b then o else None) ≡ o
if_true b o e = ap (λ t. if t then o else None) e

record IsLength (len cap room : ℕ) : Type 0 where
  pub some : 1 ≤ len
  pub capped : len ≤ cap
  pub inside : len ≤ room

is_length : (len room : ℕ) → (nat_le 1 len && nat_le len most_bytes && nat_le len room) ≡ true → IsLength len most_bytes room
is_length len room e = record { some = grind (arith, nat_tests); capped = grind (arith, nat_tests); inside = grind (arith, nat_tests) }

length_is : (len room : ℕ) → IsLength len most_bytes room → (nat_le 1 len && nat_le len most_bytes && nat_le len room) ≡ true
length_is len room is = grind (arith, nat_tests, is.some, is.capped, is.inside)

pub text_stands : (bytes units : List ℕ) → text_of bytes ≡ Some units → BeginsText row_units bytes (text_end bytes) units
unfolding text_of
text_stands [] units e = absurd cc
text_stands (high ∷ []) units e = absurd cc
text_stands (high ∷ low ∷ rest) units e =
    let both = if_some _ _ _ e in
    let fits = is_length (high * 256 + low) (length rest) both.0 in
    let long = length-take-le (high * 256 + low) rest fits.inside in
    record {
      high = high;
      low = low;
      text = take (high * 256 + low) rest;
      after = drop (high * 256 + low) rest;
      split = ap (λ (xs : List ℕ). high ∷ low ∷ xs) (sym (take-append-drop (high * 256 + low) rest));
      counted = long;
      least = omega (arith, long, fits.some);
      most = omega (arith, long, fits.capped);
      named = both.1;
      ends = omega (arith, long);
    }

pub record IsText (bytes : List ℕ) (end : ℕ) (units : List ℕ) : Type 0 where
  pub tells : text_of bytes ≡ Some units
  pub ends : text_end bytes ≡ end

text_whole : (high low : ℕ) (text after units : List ℕ) → length text ≡ high * 256 + low → 1 ≤ length text → length text ≤ most_bytes → row_units text ≡ Some units
    → text_of (high ∷ low ∷ (text ++ after)) ≡ Some units
unfolding text_of
text_whole high low text after units counted least most named =
    if_true _ _ (length_is (high * 256 + low) (length (text ++ after)) (record { some = omega arith; capped = omega arith; inside = omega (arith, length-append text after) }))
    ∙ ap (λ (n : ℕ). row_units (take n (text ++ after))) (sym counted) ∙ ap row_units (take-append_seam text after) ∙ named

-- and all that does
pub text_tells : (bytes : List ℕ) (end : ℕ) (units : List ℕ) → BeginsText row_units bytes end units → IsText bytes end units
text_tells bytes end units name = record {
  tells = ap text_of name.split ∙ text_whole name.high name.low name.text name.after units name.counted name.least name.most name.named;
  ends = ap text_end name.split ∙ ap (λ (n : ℕ). 2 + n) (sym name.counted) ∙ sym name.ends;
}

-- ---- a name is such a text, and its units have a core

pub record AsText (bytes : List ℕ) (end : ℕ) (units : List ℕ) : Type 0 where
  pub text_units : List ℕ
  pub text : BeginsText row_units bytes end text_units
  pub named : core text_units ≡ Some units

pub record HasUnits (o : Option (List ℕ)) (units : List ℕ) : Type 0 where
  pub text_units : List ℕ
  pub is : o ≡ Some text_units
  pub named : core text_units ≡ Some units

has_units : (o : Option (List ℕ)) (units : List ℕ) → core_in o ≡ Some units → HasUnits o units
has_units None units e = absurd cc
has_units (Some text_units) units e = record { text_units = text_units; is = refl; named = e }

pub units_of_name : (text units : List ℕ) → name_units text ≡ Some units → HasUnits (row_units text) units
unfolding name_units
units_of_name text units e = has_units (row_units text) units e

pub name_of_units : (text text_units units : List ℕ) → row_units text ≡ Some text_units → core text_units ≡ Some units → name_units text ≡ Some units
unfolding name_units
name_of_units text text_units units e named = ap core_in e ∙ named

with_reader : (one two : List ℕ → Option (List ℕ)) (bytes : List ℕ) (end : ℕ) (units others : List ℕ) → (t : BeginsText one bytes end units) → two t.text ≡ Some others → BeginsText two bytes end others
with_reader one two bytes end units others t named = record {
  high = t.high;
  low = t.low;
  text = t.text;
  after = t.after;
  split = t.split;
  counted = t.counted;
  least = t.least;
  most = t.most;
  named = named;
  ends = t.ends;
}

pub as_text : (bytes : List ℕ) (end : ℕ) (units : List ℕ) → BeginsName bytes end units → AsText bytes end units
as_text bytes end units name =
    let h = units_of_name name.text units name.named in
    record { text_units = h.text_units; text = with_reader name_units row_units bytes end units h.text_units name h.is; named = h.named }

pub as_name : (bytes : List ℕ) (end : ℕ) (text_units units : List ℕ) → BeginsText row_units bytes end text_units → core text_units ≡ Some units → BeginsName bytes end units
as_name bytes end text_units units t named = with_reader row_units name_units bytes end text_units units t (name_of_units t.text text_units units t.named named)

-- ---- rows

pub record RowFinds (passes : List ℕ → Bool) (most : ℕ) (bytes : List ℕ) (end : ℕ) : Type 0 where
  pub units : List ℕ
  pub row : BeginsRow most bytes end units
  pub fails : passes units ≡ false

record Mapped (by end : ℕ) (o : Option ℕ) : Type 0 where
  pub more : ℕ
  pub is : o ≡ Some more
  pub ends : end ≡ by + more

mapped : (by end : ℕ) (o : Option ℕ) → option_map (λ more. by + more) o ≡ Some end → Mapped by end o
mapped by end None e = absurd cc
mapped by end (Some more) e = let h : by + more ≡ end = cc in record { more = more; is = refl; ends = sym h }

record Fails (passes : List ℕ → Bool) (o : Option (List ℕ)) : Type 0 where
  pub units : List ℕ
  pub named : o ≡ Some units
  pub fails : passes units ≡ false

fails_by : (passes : List ℕ → Bool) (units : List ℕ) (good : Bool) → passes units ≡ good → (if good then false else true) ≡ true → Fails passes (Some units)
fails_by passes units true p e = absurd cc
fails_by passes units false p e = record { units = units; named = refl; fails = p }

fails_of : (passes : List ℕ → Bool) (o : Option (List ℕ)) → names_hidden passes o ≡ true → Fails passes o
fails_of passes None e = absurd cc
fails_of passes (Some units) e = fails_by passes units (passes units) refl e

found_by : (passes : List ℕ → Bool) (most : ℕ) (bytes units : List ℕ) (end : ℕ) (hidden : Bool) → names_hidden passes (core units) ≡ hidden → BeginsText row_units bytes (text_end bytes) units
    → ((more : ℕ) → row_hidden passes most (drop (text_end bytes) bytes) ≡ Some more → RowFinds passes most (drop (text_end bytes) bytes) more)
    → (if hidden then Some (text_end bytes) else option_map (λ more. text_end bytes + more) (row_hidden passes most (drop (text_end bytes) bytes))) ≡ Some end
    → RowFinds passes (suc most) bytes end
found_by passes most bytes units end false p text later e =
    let m = mapped (text_end bytes) end (row_hidden passes most (drop (text_end bytes) bytes)) e in
    let r = later m.more m.is in
    record { units = r.units; row = inr (record { first = text_end bytes; others = units; name = text; more = m.more; later = r.row; ends = m.ends }); fails = r.fails }
found_by passes most bytes units end true p text later e =
    let h : text_end bytes ≡ end = cc in
    let f = fails_of passes (core units) p in
    record { units = f.units; row = inl (subst (λ (n : ℕ). BeginsName bytes n f.units) h (as_name bytes (text_end bytes) units f.units text f.named)); fails = f.fails }

found_of : (passes : List ℕ → Bool) (most : ℕ) (bytes : List ℕ) (end : ℕ) (text : Option (List ℕ)) → text_of bytes ≡ text
    → ((more : ℕ) → row_hidden passes most (drop (text_end bytes) bytes) ≡ Some more → RowFinds passes most (drop (text_end bytes) bytes) more)
    → row_next passes (text_end bytes) (row_hidden passes most (drop (text_end bytes) bytes)) text ≡ Some end
    → RowFinds passes (suc most) bytes end
found_of passes most bytes end None t later e = absurd cc
found_of passes most bytes end (Some units) t later e = found_by passes most bytes units end (names_hidden passes (core units)) refl (text_stands bytes units t) later e

pub row_finds : (passes : List ℕ → Bool) (most : ℕ) (bytes : List ℕ) (end : ℕ) → row_hidden passes most bytes ≡ Some end → RowFinds passes most bytes end
row_finds passes zero bytes end e = absurd cc
row_finds passes (suc most) bytes end e =
    found_of passes most bytes end (text_of bytes) refl (λ more. row_finds passes most (drop (text_end bytes) bytes) more) e

-- an end that was found is not after another
abbrev pub NotBefore : Option ℕ → ℕ → Type 0
NotBefore None other = ⊥
NotBefore (Some end) other = end ≤ other

not_before_more : (by other more : ℕ) (o : Option ℕ) → NotBefore o more → other ≡ by + more → NotBefore (option_map (λ m. by + m) o) other
not_before_more by other more None n e = n
not_before_more by other more (Some end) n e = omega arith

not_before_or : (by other more : ℕ) (o : Option ℕ) (hidden : Bool) → NotBefore o more → other ≡ by + more → NotBefore (if hidden then Some by else option_map (λ m. by + m) o) other
not_before_or by other more o false n e = not_before_more by other more o n e
not_before_or by other more o true n e = omega arith

is_hidden : (passes : List ℕ → Bool) (o : Option (List ℕ)) (units : List ℕ) → o ≡ Some units → passes units ≡ false → names_hidden passes o ≡ true
is_hidden passes o units e fails = ap (names_hidden passes) e ∙ ap (λ b. if b then false else true) fails

pub row_least : (passes : List ℕ → Bool) (most : ℕ) (bytes : List ℕ) (end : ℕ) (units : List ℕ) → BeginsRow most bytes end units → passes units ≡ false
    → NotBefore (row_hidden passes most bytes) end
row_least passes zero bytes end units row fails = row
row_least passes (suc most) bytes end units (inl name) fails =
    let t = as_text bytes end units name in
    let is = text_tells bytes end t.text_units t.text in
    let e : row_hidden passes (suc most) bytes ≡ Some end =
    ap (λ o. row_next passes (text_end bytes) (row_hidden passes most (drop (text_end bytes) bytes)) o) is.tells
    ∙ ap (λ b. if b then Some (text_end bytes) else option_map (λ m. text_end bytes + m) (row_hidden passes most (drop (text_end bytes) bytes))) (is_hidden passes (core t.text_units) units t.named fails)
    ∙ ap (λ (n : ℕ). Some n) is.ends in
    subst (λ o. NotBefore o end) (sym e) (omega arith)
row_least passes (suc most) bytes end units (inr later) fails =
    let is = text_tells bytes later.first later.others later.name in
    let rest = row_least passes most (drop later.first bytes) later.more units later.later fails in
    let here : NotBefore (row_hidden passes most (drop (text_end bytes) bytes)) later.more = subst (λ (n : ℕ). NotBefore (row_hidden passes most (drop n bytes)) later.more) (sym is.ends) rest in
    let e : row_hidden passes (suc most) bytes ≡ (if names_hidden passes (core later.others) then Some (text_end bytes) else option_map (λ m. text_end bytes + m) (row_hidden passes most (drop (text_end bytes) bytes))) =
    ap (λ o. row_next passes (text_end bytes) (row_hidden passes most (drop (text_end bytes) bytes)) o) is.tells in
    subst (λ o. NotBefore o end) (sym e) (not_before_or (text_end bytes) end later.more (row_hidden passes most (drop (text_end bytes) bytes)) (names_hidden passes (core later.others)) here (omega (arith, later.ends, is.ends)))

-- ---- one place

pub record HereFinds (passes : List ℕ → Bool) (bytes : List ℕ) (end : ℕ) : Type 0 where
  pub units : List ℕ
  pub begins : Begins bytes end units
  pub fails : passes units ≡ false

one_row : (rest : List ℕ) (end : ℕ) (units : List ℕ) → BeginsRow 1 rest end units → BeginsName rest end units
one_row rest end units (inl name) = name
one_row rest end units (inr later) = absurd later.later

descriptor_finds : (passes : List ℕ → Bool) (mark : ℕ) (rest : List ℕ) (end : ℕ) → mark ≡ 0x72 → option_map (λ more. 1 + more) (row_hidden passes 1 rest) ≡ Some end → HereFinds passes (mark ∷ rest) end
descriptor_finds passes mark rest end is e =
    let m = mapped 1 end (row_hidden passes 1 rest) e in
    let r = row_finds passes 1 rest m.more m.is in
    record { units = r.units; begins = inl (record { rest = rest; split = ap (λ (n : ℕ). n ∷ rest) is; name_end = m.more; name = one_row rest m.more r.units r.row; ends = m.ends }); fails = r.fails }

row_here : (passes : List ℕ → Bool) (first second high low : ℕ) (rest : List ℕ) (end : ℕ) (is_first is_second : Bool) → (first == 0) ≡ is_first → (second == 0) ≡ is_second
    → (if is_first && is_second then option_map (λ more. 5 + more) (row_hidden passes (high * 256 + low) rest) else None) ≡ Some end
    → HereFinds passes (0x7D ∷ first ∷ second ∷ high ∷ low ∷ rest) end
row_here passes first second high low rest end false is_second f s e = absurd cc
row_here passes first second high low rest end true false f s e = absurd cc
row_here passes first second high low rest end true true f s e =
    let m = mapped 5 end (row_hidden passes (high * 256 + low) rest) e in
    let r = row_finds passes (high * 256 + low) rest m.more m.is in
    let one : first ≡ 0 = eqb-true first 0 f in
    let two : second ≡ 0 = eqb-true second 0 s in
    record { units = r.units; begins = inr (record { low = low; high = high; rest = rest; split = cc; row_end = m.more; row = r.row; ends = m.ends }); fails = r.fails }

interfaces_find : (passes : List ℕ → Bool) (rest : List ℕ) (end : ℕ) → interfaces_hidden passes rest ≡ Some end → HereFinds passes (0x7D ∷ rest) end
interfaces_find passes [] end e = absurd cc
interfaces_find passes (a ∷ []) end e = absurd cc
interfaces_find passes (a ∷ b ∷ []) end e = absurd cc
interfaces_find passes (a ∷ b ∷ c ∷ []) end e = absurd cc
interfaces_find passes (a ∷ b ∷ c ∷ d ∷ rest) end e = row_here passes a b c d rest end (a == 0) (b == 0) refl refl e

mark_finds : (passes : List ℕ → Bool) (mark : ℕ) (rest : List ℕ) (end : ℕ) (is_descriptor is_row : Bool) → (mark == 0x72) ≡ is_descriptor → (mark == 0x7D) ≡ is_row
    → (if is_descriptor then option_map (λ more. 1 + more) (row_hidden passes 1 rest) else (if is_row then interfaces_hidden passes rest else None)) ≡ Some end
    → HereFinds passes (mark ∷ rest) end
mark_finds passes mark rest end true is_row d r e = descriptor_finds passes mark rest end (eqb-true mark 0x72 d) e
mark_finds passes mark rest end false false d r e = absurd cc
mark_finds passes mark rest end false true d r e =
    subst (λ (n : ℕ). HereFinds passes (n ∷ rest) end) (sym (eqb-true mark 0x7D r)) (interfaces_find passes rest end e)

pub here_finds : (passes : List ℕ → Bool) (bytes : List ℕ) (end : ℕ) → hidden_here passes bytes ≡ Some end → HereFinds passes bytes end
unfolding hidden_here
here_finds passes [] end e = absurd cc
here_finds passes (mark ∷ rest) end e = mark_finds passes mark rest end (mark == 0x72) (mark == 0x7D) refl refl e

here_descriptor : (passes : List ℕ → Bool) (rest : List ℕ) → hidden_here passes (0x72 ∷ rest) ≡ option_map (λ more. 1 + more) (row_hidden passes 1 rest)
unfolding hidden_here
here_descriptor passes rest = refl

here_row : (passes : List ℕ → Bool) (high low : ℕ) (rest : List ℕ) → hidden_here passes (0x7D ∷ 0 ∷ 0 ∷ high ∷ low ∷ rest) ≡ option_map (λ more. 5 + more) (row_hidden passes (high * 256 + low) rest)
unfolding hidden_here
here_row passes high low rest = refl

pub here_least : (passes : List ℕ → Bool) (bytes : List ℕ) (end : ℕ) (units : List ℕ) → Begins bytes end units → passes units ≡ false → NotBefore (hidden_here passes bytes) end
here_least passes bytes end units (inl d) fails =
    let n = row_least passes 1 d.rest d.name_end units (inl d.name) fails in
    let m = not_before_more 1 end d.name_end (row_hidden passes 1 d.rest) n d.ends in
    subst (λ o. NotBefore o end) (sym (ap (λ (xs : List ℕ). hidden_here passes xs) d.split ∙ here_descriptor passes d.rest)) m
here_least passes bytes end units (inr i) fails =
    let n = row_least passes (i.high * 256 + i.low) i.rest i.row_end units i.row fails in
    let m = not_before_more 5 end i.row_end (row_hidden passes (i.high * 256 + i.low) i.rest) n i.ends in
    subst (λ o. NotBefore o end) (sym (ap (λ (xs : List ℕ). hidden_here passes xs) i.split ∙ here_row passes i.high i.low i.rest)) m
