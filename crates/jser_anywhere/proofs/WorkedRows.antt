-- The worked rows.
use Rattle.std.proofs.Common.{◌≡◌, ℕ, zero, suc, Bool, true, false, ◌+◌, ◌*◌, ◌≤◌, ap, sym, inl, inr, Option, Some, None, List, [], ◌∷◌, ◌++◌, length, drop, refl, subst, arith, append-nil}
use Rattle.std.proofs.lemmas.List.{length-replicate}
use Rattle.jser_anywhere.specs.Texts.{row_from, row_units}
use Rattle.jser_anywhere.specs.Names.{core, plain_from, name_units}
use Rattle.jser_anywhere.specs.Search.{text_of, text_end, hidden_here}
use Rattle.jser_anywhere.specs.Standing.{most_bytes, BeginsText, BeginsName, BeginsRow, Begins, StandsAt}
use Rattle.jser_anywhere.specs.Worked.{letters, cut_row, is_a, a_B, bracketed, bracketed_twice, bracketed_class, bracketed_class_twice, bracketed_row, WorkedRows}
use Rattle.jser_anywhere.specs.declared.text.Place.TheVariants as place
use Rattle.jser_anywhere.proofs.LoadableLemmas.{is_plain_name, reads_loadable}
use Rattle.jser_anywhere.proofs.PlaceLemmas.{here_least, text_stands, as_name, NotBefore}

none_stands : (bytes : List ℕ) (from to : ℕ) (units : List ℕ) → hidden_here (λ _. false) (drop from bytes) ≡ None → StandsAt bytes from to units → ⊥
none_stands bytes from to units e stands =
    subst (λ o. NotBefore o stands.end) e (here_least (λ _. false) (drop from bytes) stands.end units stands.begins refl)

too_long : hidden_here (λ _. false) (0x72 ∷ 0x24 ∷ 0 ∷ letters 9216) ≡ None
unfolding hidden_here text_of
too_long = refl

-- ---- names of letters

letters_read : (n : ℕ) → row_from (letters n) place.First ≡ Some (letters n)
letters_read zero = refl
letters_read (suc n) = ap (λ o. letter_before o) (letters_read n)
  where
    letter_before : Option (List ℕ) → Option (List ℕ)
    letter_before None = None
    letter_before (Some units) = Some (0x61 ∷ units)

letters_units : (n : ℕ) → row_units (letters n) ≡ Some (letters n)
unfolding row_units
letters_units n = letters_read n

letters_plain : (n : ℕ) → plain_from false (letters n) ≡ true
letters_plain zero = refl
letters_plain (suc n) = letters_plain n

letters_core : (n : ℕ) → core (letters (suc n)) ≡ Some (letters (suc n))
letters_core n = reads_loadable.all (letters (suc n)) (letters (suc n)) (record { plain = is_plain_name (letters (suc n)) (letters_plain n); wraps = []; wrapped = refl })

letters_begin : (n high low : ℕ) → high * 256 + low ≡ suc n → suc n ≤ most_bytes → (after : List ℕ) → BeginsName (high ∷ low ∷ (letters (suc n) ++ after)) (2 + suc n) (letters (suc n))
letters_begin n high low e most after =
    let long : length (letters (suc n)) ≡ suc n = length-replicate (suc n) 0x61 in
    as_name (high ∷ low ∷ (letters (suc n) ++ after)) (2 + suc n) (letters (suc n)) (letters (suc n)) (record {
      high = high;
      low = low;
      text = letters (suc n);
      after = after;
      split = refl;
      counted = omega (arith, long, e);
      least = omega (arith, long);
      most = omega (arith, long, most);
      named = letters_units (suc n);
      ends = omega (arith, long);
    }) (letters_core n)

whole_letters : (n high low : ℕ) → high * 256 + low ≡ suc n → suc n ≤ most_bytes → BeginsName (high ∷ low ∷ letters (suc n)) (2 + suc n) (letters (suc n))
whole_letters n high low e most =
    subst (λ (xs : List ℕ). BeginsName (high ∷ low ∷ xs) (2 + suc n) (letters (suc n))) (append-nil (letters (suc n))) (letters_begin n high low e most [])

longest : StandsAt (0x72 ∷ 0x23 ∷ 0xFF ∷ letters 9215) 0 9218 (letters 9215)
longest = record {
  end = 9218;
  begins = inl (record { rest = 0x23 ∷ 0xFF ∷ letters 9215; split = refl; name_end = 9217; name = whole_letters 9214 0x23 0xFF refl (omega arith); ends = refl });
  ends = refl;
}

-- ---- short names

one_name : (rest units : List ℕ) (end : ℕ) → BeginsName rest end units → Begins (0x72 ∷ rest) (1 + end) units
one_name rest units end name = inl (record { rest = rest; split = refl; name_end = end; name = name; ends = refl })

row_text : (bytes units : List ℕ) (end : ℕ) → text_of bytes ≡ Some units → text_end bytes ≡ end → BeginsText row_units bytes end units
row_text bytes units end e at = subst (λ (n : ℕ). BeginsText row_units bytes n units) at (text_stands bytes units e)

name_text : (bytes units name : List ℕ) (end : ℕ) → text_of bytes ≡ Some units → text_end bytes ≡ end → core units ≡ Some name → BeginsName bytes end name
name_text bytes units name end e at named = as_name bytes end units name (row_text bytes units end e at) named

-- of one letter
letter_row : (letter : ℕ) (rest : List ℕ) → text_of (0 ∷ 1 ∷ letter ∷ rest) ≡ Some (letter ∷ []) → BeginsText row_units (0 ∷ 1 ∷ letter ∷ rest) 3 (letter ∷ [])
letter_row letter rest e = row_text (0 ∷ 1 ∷ letter ∷ rest) (letter ∷ []) 3 e refl

letter_name : (letter : ℕ) (rest : List ℕ) → text_of (0 ∷ 1 ∷ letter ∷ rest) ≡ Some (letter ∷ []) → core (letter ∷ []) ≡ Some (letter ∷ []) → BeginsName (0 ∷ 1 ∷ letter ∷ rest) 3 (letter ∷ [])
letter_name letter rest e named = name_text (0 ∷ 1 ∷ letter ∷ rest) (letter ∷ []) (letter ∷ []) 3 e refl named

one_letter : (letter : ℕ) → text_of (0 ∷ 1 ∷ letter ∷ []) ≡ Some (letter ∷ []) → core (letter ∷ []) ≡ Some (letter ∷ []) → Begins (0x72 ∷ 0 ∷ 1 ∷ letter ∷ []) 4 (letter ∷ [])
one_letter letter e named = one_name (0 ∷ 1 ∷ letter ∷ []) (letter ∷ []) 3 (letter_name letter [] e named)

only_a : hidden_here is_a cut_row ≡ None
unfolding hidden_here text_of row_units core
only_a = refl

all_a : (to : ℕ) (units : List ℕ) (is : Bool) → is_a units ≡ is → StandsAt cut_row 0 to units → is ≡ true
all_a to units true e stands = refl
all_a to units false e stands = absurd (subst (λ o. NotBefore o stands.end) only_a (here_least is_a cut_row stands.end units stands.begins e))

-- the third of three, behind two others
row_of_three : (second : ℕ) → text_of (0 ∷ 1 ∷ 0x61 ∷ 0 ∷ 1 ∷ second ∷ 0 ∷ 1 ∷ 0x63 ∷ []) ≡ Some (0x61 ∷ []) → text_of (0 ∷ 1 ∷ second ∷ 0 ∷ 1 ∷ 0x63 ∷ []) ≡ Some (second ∷ [])
    → text_of (0 ∷ 1 ∷ 0x63 ∷ []) ≡ Some (0x63 ∷ []) → core (0x63 ∷ []) ≡ Some (0x63 ∷ [])
    → StandsAt (0x7D ∷ 0 ∷ 0 ∷ 0 ∷ 3 ∷ 0 ∷ 1 ∷ 0x61 ∷ 0 ∷ 1 ∷ second ∷ 0 ∷ 1 ∷ 0x63 ∷ []) 0 14 (0x63 ∷ [])
row_of_three second a b c named = record {
  end = 14;
  begins = inr (record {
    low = 3;
    high = 0;
    rest = 0 ∷ 1 ∷ 0x61 ∷ 0 ∷ 1 ∷ second ∷ 0 ∷ 1 ∷ 0x63 ∷ [];
    split = refl;
    row_end = 9;
    row = inr (record {
      first = 3;
      others = 0x61 ∷ [];
      name = letter_row 0x61 (0 ∷ 1 ∷ second ∷ 0 ∷ 1 ∷ 0x63 ∷ []) a;
      more = 6;
      later = inr (record {
        first = 3;
        others = second ∷ [];
        name = letter_row second (0 ∷ 1 ∷ 0x63 ∷ []) b;
        more = 3;
        later = inl (letter_name 0x63 [] c named);
        ends = refl;
      });
      ends = refl;
    });
    ends = refl;
  });
  ends = refl;
}

-- a text of so many bytes, and a name of one letter behind it
row_of_two : (count_high count_low low : ℕ) (letter end : ℕ) (text : List ℕ) → (rest : List ℕ) → rest ≡ 0 ∷ low ∷ (text ++ (0 ∷ 1 ∷ letter ∷ []))
    → text_of rest ≡ Some text → text_end rest ≡ end → drop end rest ≡ 0 ∷ 1 ∷ letter ∷ [] → text_of (0 ∷ 1 ∷ letter ∷ []) ≡ Some (letter ∷ []) → core (letter ∷ []) ≡ Some (letter ∷ [])
    → (more : ℕ) → count_high * 256 + count_low ≡ suc (suc more) → StandsAt (0x7D ∷ 0 ∷ 0 ∷ count_high ∷ count_low ∷ rest) 0 (8 + end) (letter ∷ [])
row_of_two count_high count_low low letter end text rest same e at later f named more count = record {
  end = 5 + (end + 3);
  begins = inr (record {
    low = count_low;
    high = count_high;
    rest = rest;
    split = refl;
    row_end = end + 3;
    row = subst (λ (n : ℕ). BeginsRow n rest (end + 3) (letter ∷ [])) (sym count) (inr (record {
      first = end;
      others = text;
      name = row_text rest text end e at;
      more = 3;
      later = inl (subst (λ (xs : List ℕ). BeginsName xs 3 (letter ∷ [])) (sym later) (letter_name letter [] f named));
      ends = refl;
    }));
    ends = refl;
  });
  ends = omega arith;
}

-- ---- names with `[` before them

named_alone : (low end : ℕ) (text : List ℕ) → text_of (0 ∷ low ∷ text) ≡ Some text → text_end (0 ∷ low ∷ text) ≡ end → core text ≡ Some a_B → StandsAt (0x72 ∷ 0 ∷ low ∷ text) 0 (1 + end) a_B
named_alone low end text e at named = record { end = 1 + end; begins = one_name (0 ∷ low ∷ text) a_B end (name_text (0 ∷ low ∷ text) text a_B end e at named); ends = omega arith }

-- the name at the head of a row, and one behind the text there
first_of_row : (more : ℕ) (text bytes units : List ℕ) (end : ℕ) → text_of bytes ≡ Some text → text_end bytes ≡ end → core text ≡ Some units → BeginsRow (suc more) bytes end units
first_of_row more text bytes units end e at named = inl (name_text bytes text units end e at named)

next_of_row : (more end others : ℕ) (text bytes units : List ℕ) → text_of bytes ≡ Some text → text_end bytes ≡ end → BeginsRow more (drop end bytes) others units → BeginsRow (suc more) bytes (end + others) units
next_of_row more end others text bytes units e at later =
    inr (record { first = end; others = text; name = row_text bytes text end e at; more = others; later = later; ends = refl })

behind_class_twice : BeginsRow 1 (drop 39 bracketed_row) 3 (0x63 ∷ [])
unfolding text_of row_units core
behind_class_twice = first_of_row 0 (0x63 ∷ []) (drop 39 bracketed_row) (0x63 ∷ []) 3 refl refl refl

from_class_twice : (others : ℕ) (units : List ℕ) → BeginsRow 1 (drop 39 bracketed_row) others units → BeginsRow 2 (drop 28 bracketed_row) (11 + others) units
unfolding text_of row_units
from_class_twice others units later = next_of_row 1 11 others bracketed_class_twice (drop 28 bracketed_row) units refl refl later

from_class : (others : ℕ) (units : List ℕ) → BeginsRow 2 (drop 28 bracketed_row) others units → BeginsRow 3 (drop 19 bracketed_row) (9 + others) units
unfolding text_of row_units
from_class others units later = next_of_row 2 9 others bracketed_class (drop 19 bracketed_row) units refl refl later

from_twice : (others : ℕ) (units : List ℕ) → BeginsRow 3 (drop 19 bracketed_row) others units → BeginsRow 4 (drop 11 bracketed_row) (8 + others) units
unfolding text_of row_units
from_twice others units later = next_of_row 3 8 others bracketed_twice (drop 11 bracketed_row) units refl refl later

from_first : (others : ℕ) (units : List ℕ) → BeginsRow 4 (drop 11 bracketed_row) others units → BeginsRow 5 (drop 5 bracketed_row) (6 + others) units
unfolding text_of row_units
from_first others units later = next_of_row 4 6 others bracketed (drop 5 bracketed_row) units refl refl later

in_bracketed_row : (row_end : ℕ) (units : List ℕ) → BeginsRow 5 (drop 5 bracketed_row) row_end units → StandsAt bracketed_row 0 (5 + row_end) units
in_bracketed_row row_end units row = record {
  end = 5 + row_end;
  begins = inr (record { low = 5; high = 0; rest = drop 5 bracketed_row; split = refl; row_end = row_end; row = row; ends = refl });
  ends = omega arith;
}

-- ---- two that overlap

overlapping_name : BeginsName (0 ∷ 0x41 ∷ (letters 65 ++ letters 190)) 67 (letters 65)
overlapping_name = letters_begin 64 0 0x41 refl (omega arith) (letters 190)

big_text : text_of (1 ∷ 0 ∷ 0x41 ∷ letters 255) ≡ Some (0x41 ∷ letters 255)
unfolding text_of row_units
big_text = refl

big_core : core (0x41 ∷ letters 255) ≡ Some (0x41 ∷ letters 255)
big_core = reads_loadable.all (0x41 ∷ letters 255) (0x41 ∷ letters 255)
    (record { plain = is_plain_name (0x41 ∷ letters 255) (letters_plain 255); wraps = []; wrapped = refl })

pub worked : WorkedRows
unfolding name_units text_of row_units core
worked = record {
  overlong_of_two = refl;
  overlong_of_three = refl;
  array = refl;
  brackets_behind = refl;
  brackets_inside = refl;
  class_open = refl;
  class_of_no_name = refl;
  no_class = refl;
  no_code = refl;
  primitive_array = refl;
  primitive_arrays = refl;
  primitive_and_brackets = refl;
  primitive_inside = refl;
  class_of_a_letter = refl;
  only_brackets = refl;
  digit = refl;
  two_dots = refl;
  semicolon = refl;
  blank = refl;
  control = refl;
  longest = longest;
  too_long = λ to units stands. none_stands (0x72 ∷ 0x24 ∷ 0 ∷ letters 9216) 0 to units too_long stands;
  third = row_of_three 0x62 refl refl refl refl;
  before_cut = record {
    end = 8;
    begins = inr (record {
      low = 3;
      high = 0;
      rest = 0 ∷ 1 ∷ 0x61 ∷ 0 ∷ 1 ∷ 0x1F ∷ 0 ∷ 1 ∷ 0x63 ∷ [];
      split = refl;
      row_end = 3;
      row = inl (letter_name 0x61 (0 ∷ 1 ∷ 0x1F ∷ 0 ∷ 1 ∷ 0x63 ∷ []) refl refl);
      ends = refl;
    });
    ends = refl;
  };
  after_cut = λ to units stands. all_a to units (is_a units) refl stands;
  behind_no_name = row_of_three 0x3B refl refl refl refl;
  bracketed_alone = named_alone 4 6 bracketed refl refl refl;
  bracketed_twice_alone = named_alone 6 8 bracketed_twice refl refl refl;
  bracketed_class_alone = named_alone 7 9 bracketed_class refl refl refl;
  bracketed_class_twice_alone = named_alone 9 11 bracketed_class_twice refl refl refl;
  bracketed_in_row = in_bracketed_row 6 a_B (first_of_row 4 bracketed (drop 5 bracketed_row) a_B 6 refl refl refl);
  bracketed_twice_in_row = in_bracketed_row 14 a_B (from_first 8 a_B (first_of_row 3 bracketed_twice (drop 11 bracketed_row) a_B 8 refl refl refl));
  bracketed_class_in_row = in_bracketed_row 23 a_B (from_first 17 a_B (from_twice 9 a_B (first_of_row 2 bracketed_class (drop 19 bracketed_row) a_B 9 refl refl refl)));
  bracketed_class_twice_in_row = in_bracketed_row 34 a_B
      (from_first 28 a_B (from_twice 20 a_B (from_class 11 a_B (first_of_row 1 bracketed_class_twice (drop 28 bracketed_row) a_B 11 refl refl refl))));
  behind_bracketed = in_bracketed_row 37 (0x63 ∷ []) (from_first 31 (0x63 ∷ []) (from_twice 23 (0x63 ∷ []) (from_class 14 (0x63 ∷ []) (from_class_twice 3 (0x63 ∷ []) behind_class_twice))));
  after_primitives = row_of_two 0 2 2 0x61 4 (0x5B ∷ 0x49 ∷ []) (0 ∷ 2 ∷ 0x5B ∷ 0x49 ∷ 0 ∷ 1 ∷ 0x61 ∷ []) refl refl refl refl refl refl 0 refl;
  chained_first = record { end = 4; begins = one_name (0 ∷ 1 ∷ 0x72 ∷ 0 ∷ 1 ∷ 0x61 ∷ []) (0x72 ∷ []) 3 (letter_name 0x72 (0 ∷ 1 ∷ 0x61 ∷ []) refl refl); ends = refl };
  chained_second = record { end = 4; begins = one_letter 0x61 refl refl; ends = refl };
  overlapping_row = record {
    end = 72;
    begins = inr (record { low = 1; high = 0x72; rest = 0 ∷ 0x41 ∷ letters 255; split = refl; row_end = 67; row = inl overlapping_name; ends = refl });
    ends = refl;
  };
  overlapping_descriptor = record {
    end = 259;
    begins = one_name (1 ∷ 0 ∷ 0x41 ∷ letters 255) (0x41 ∷ letters 255) 258 (name_text (1 ∷ 0 ∷ 0x41 ∷ letters 255) (0x41 ∷ letters 255) (0x41 ∷ letters 255) 258 big_text refl big_core);
    ends = refl;
  };
  behind_a_length = row_of_two 0x7D 0 3 0x62 5 (0x20 ∷ 0x20 ∷ 0x20 ∷ []) (0 ∷ 3 ∷ 0x20 ∷ 0x20 ∷ 0x20 ∷ 0 ∷ 1 ∷ 0x62 ∷ []) refl refl refl refl refl refl 31998 refl;
}
