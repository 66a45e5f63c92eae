-- Hidden names, and the places that were noted.
use Rattle.std.proofs.Common.{◌≡◌, ℕ, suc, ◌+◌, ◌<◌, Bool, true, false, cond, if◌then◌else◌, ◌==◌, List, [], ◌∷◌, ◌++◌, length, get_or, set, Option, Some, None, refl, sym, ap, subst, ◌∙◌, arith, eqb-true}
use Rattle.std.specs.Prelude.{codes, not}
use Rattle.std.specs.Option.{is_some, option_map}
use Rattle.std.proofs.lemmas.Cmp.{nat_list_eq_equiv}
use Rattle.std.proofs.lemmas.Bool.Decides.{nat_tests}
use Rattle.std.proofs.lemmas.List.{get_or-set_same, get_or-set_other, length-set}
use Rattle.jser_anywhere.specs.NamesIn.{Named, names_in}
use Rattle.std.specs.Str.{bytes_eq}
use Rattle.std.specs.Prelude.{IfSome}
use Rattle.std.specs.Io.KnownBytes.{Appends}
use Rattle.std.proofs.lemmas.Slice.Eq.{bytes_eq-Decides}
use Rattle.jser_grammar.specs.CheckedNames.{checked_names}
use Rattle.jser_table.specs.Names.{element_of}
use Rattle.jser_filter.specs.Filters.{FilterView}
use Rattle.jser_names.specs.Named.{IsNamed}
use Rattle.jser_names.specs.declared.NamedStream.{NamedStream}
use Rattle.jser_shown.specs.Counting.{NameTally, name_tally, tally_one, tally_all, tally_lines}
use Rattle.jser_shown.specs.Laws.{Counted}
use Rattle.jser_shown.specs.Listed.{has_name}
use Rattle.jser_commands.specs.Lines.{AppendsSome, KeptOrCut, KeptOrSaidSome, SaysListedAnywhere, SaysRefusal, hidden_lines, marked_words, words_on}
use Rattle.jser_commands.proofs.Lines.{yes_cut}
use Rattle.jser_commands.specs.Hidden.{has_place, hidden_in, hidden_of, is_class, is_hidden, is_unchecked, once_each}
use Rattle.jser_commands.specs.Places.{KeepsPlaces, NotesPlace, lines_of_both}
use Rattle.jser_names.specs.Counts.{names_counted, number_in}

-- a name that has a number is among those counted
found_is : (name : List ℕ) (tallies : List NameTally) → is_some (number_in name tallies) ≡ has_name name (names_counted tallies)
found_is name [] = refl
found_is name (t ∷ ts) = by (bytes_eq t.name name) (bytes_eq name t.name) (nat_list_eq_equiv.symm t.name name) (found_is name ts)
  where
    later : (o : Option ℕ) → is_some (option_map suc o) ≡ is_some o
    later None = refl
    later (Some n) = refl

    by : (b c : Bool) → b ≡ c → is_some (number_in name ts) ≡ has_name name (names_counted ts)
        → is_some (cond b (Some 0) (option_map suc (number_in name ts))) ≡ (if c then true else has_name name (names_counted ts))
    by true true same h = refl
    by false false same h = later (number_in name ts) ∙ h
    by true false same h = absurd (let no : true ≡ false = same in cc)
    by false true same h = absurd (let no : false ≡ true = same in cc)

pub counted_is : (name : List ℕ) (tallies : List NameTally) → is_some (number_in name tallies) ≡ true → false ≡ is_unchecked (names_counted tallies) name
counted_is name tallies e = sym (ap (λ b. if b then false else is_class (element_of name)) (sym (found_is name tallies) ∙ e))

pub uncounted_is : (name : List ℕ) (tallies : List NameTally) → is_some (number_in name tallies) ≡ false
    → is_class (element_of name) ≡ is_unchecked (names_counted tallies) name
uncounted_is name tallies e = sym (ap (λ b. if b then false else is_class (element_of name)) (sym (found_is name tallies) ∙ e))

pub text_counted : (text class : List ℕ) (tallies : List NameTally) → is_some (number_in text tallies) ≡ true
    → false ≡ is_hidden (names_counted tallies) text class
text_counted text class tallies e =
    sym (ap (λ b. if b then false else is_unchecked (names_counted tallies) class) (sym (found_is text tallies) ∙ e))

pub text_uncounted : (text class : List ℕ) (tallies : List NameTally) → is_some (number_in text tallies) ≡ false
    → is_unchecked (names_counted tallies) class ≡ is_hidden (names_counted tallies) text class
text_uncounted text class tallies e =
    sym (ap (λ b. if b then false else is_unchecked (names_counted tallies) class) (sym (found_is text tallies) ∙ e))

-- ---- one name after another

-- These names were gathered, and what is left leads to all of them.
pub record Gathers (checked : List (List ℕ)) (all left : List Named) (noted : List Bool) (hidden : List NameTally) : Type 0 where
  pub seen : List ℕ
  pub keeps : KeepsPlaces noted seen
  pub so : tally_all hidden (hidden_of checked (once_each seen left)) ≡ tally_all [] (hidden_of checked (once_each [] all))

pub gathers_none : (checked : List (List ℕ)) (hidden : List NameTally) (all left : List Named) (noted : List Bool) → left ≡ all → hidden ≡ [] → KeepsPlaces noted []
    → Gathers checked all left noted hidden
gathers_none checked hidden all left noted is none keeps = record {
  seen = [];
  keeps = keeps;
  so = ap (λ ts. tally_all ts (hidden_of checked (once_each [] left))) none ∙ ap (λ names. tally_all [] (hidden_of checked (once_each [] names))) is;
}

differs : (m n : ℕ) → (m == n) ≡ false → m ≡ n → ⊥
differs m n e same = grind (arith, nat_tests, e, same)

-- the places that were noted, with one more
noted_here : (noted : List Bool) (at other : ℕ) (b : Bool) → (other == at) ≡ b → at < length noted → other < length noted
    → get_or (set noted at true) other false ≡ (if b then true else get_or noted other false)
noted_here noted at other true e inside there =
    ap (λ n. get_or (set noted at true) n false) (eqb-true other at e) ∙ get_or-set_same noted at true false inside
noted_here noted at other false e inside there = get_or-set_other noted at other true false (λ same. differs other at e same)

keeps_more : (noted : List Bool) (seen : List ℕ) (at : ℕ) → at < length noted → KeepsPlaces noted seen → KeepsPlaces (set noted at true) (at ∷ seen)
keeps_more noted seen at inside keeps = record {
  keeps = λ other there.
      let there : other < length noted = omega (arith, there, length-set noted at true) in
      noted_here noted at other (other == at) refl inside there ∙ ap (λ b. if other == at then true else b) (keeps.keeps other there);
}

-- one whose place was not
new_step : (checked : List (List ℕ)) (all left rest : List Named) (name : Named) (noted new : List Bool) (hidden : List NameTally) (is_new : Bool)
    → (g : Gathers checked all left noted hidden) → left ≡ name ∷ rest → name.at < length noted → NotesPlace name.at noted new is_new → is_new ≡ true
    → tally_all hidden (hidden_of checked (name ∷ once_each (name.at ∷ g.seen) rest)) ≡ tally_all [] (hidden_of checked (once_each [] all))
new_step checked all left rest name noted new hidden is_new g next inside notes is =
    let none : has_place name.at g.seen ≡ false = sym (g.keeps.keeps name.at inside) ∙ not_true (get_or noted name.at false) (sym notes.is ∙ is) in
    ap (λ b. tally_all hidden (hidden_of checked (if b then once_each g.seen rest else name ∷ once_each (name.at ∷ g.seen) rest))) (sym none)
    ∙ sym (ap (λ names. tally_all hidden (hidden_of checked (once_each g.seen names))) next) ∙ g.so
  where
    not_true : (b : Bool) → not b ≡ true → b ≡ false
    not_true false e = refl
    not_true true e = absurd (let no : false ≡ true = e in cc)

pub gathers_more : (checked : List (List ℕ)) (all left rest : List Named) (name : Named) (noted new : List Bool) (hidden more : List NameTally) (is_new : Bool)
    → Gathers checked all left noted hidden → left ≡ name ∷ rest → name.at < length noted → NotesPlace name.at noted new is_new → is_new ≡ true
    → (text asked put : List ℕ) → text ≡ name.text → asked ≡ name.units → put ≡ name.units → is_hidden checked text asked ≡ true → more ≡ tally_one put hidden → Gathers checked all rest new more
gathers_more checked all left rest name noted new hidden more is_new g next inside notes is text asked put its_text its_units its_copy hides pushed = record {
  seen = name.at ∷ g.seen;
  keeps = subst (λ n. KeepsPlaces n (name.at ∷ g.seen)) (sym notes.noted) (keeps_more noted g.seen name.at inside g.keeps);
  so = ap (λ ts. tally_all ts (hidden_of checked (once_each (name.at ∷ g.seen) rest))) (pushed ∙ ap (λ units. tally_one units hidden) its_copy)
      ∙ ap (λ b. tally_all hidden (if b then name.units ∷ hidden_of checked (once_each (name.at ∷ g.seen) rest) else hidden_of checked (once_each (name.at ∷ g.seen) rest))) (sym (sym (ap (λ (x : List ℕ). is_hidden checked x asked) its_text ∙ ap (λ (x : List ℕ). is_hidden checked name.text x) its_units) ∙ hides))
      ∙ new_step checked all left rest name noted new hidden is_new g next inside notes is;
}

-- ---- the names that were counted

or_none : (b : Bool) → (if b then true else false) ≡ b
or_none true = refl
or_none false = refl

or_same : (b c : Bool) → c ≡ false → b ≡ (if b then true else c)
or_same true c e = refl
or_same false c e = sym e

other_name : (m n o : List ℕ) → bytes_eq n o ≡ true → bytes_eq m n ≡ false → bytes_eq m o ≡ false
other_name m n o same e = subst (λ (x : List ℕ). bytes_eq m x ≡ false) ((bytes_eq-Decides n o).0 same) e

counted_one : (m n : List ℕ) (tallies : List NameTally)
    → has_name m (names_counted (tally_one n tallies)) ≡ (if has_name m (names_counted tallies) then true else bytes_eq m n)
counted_one m n [] = or_none (bytes_eq m n)
counted_one m n (t ∷ ts) = by (bytes_eq t.name n) refl (bytes_eq m t.name) refl (counted_one m n ts)
  where
    by : (same : Bool) → bytes_eq t.name n ≡ same → (here : Bool) → bytes_eq m t.name ≡ here
        → has_name m (names_counted (tally_one n ts)) ≡ (if has_name m (names_counted ts) then true else bytes_eq m n)
        → has_name m (names_counted (if same then name_tally t.name (suc t.times) ∷ ts else t ∷ tally_one n ts))
        ≡ (if (if here then true else has_name m (names_counted ts)) then true else bytes_eq m n)
    by true e true f h = ap (λ b. if b then true else has_name m (names_counted ts)) f
    by true e false f h =
        ap (λ b. if b then true else has_name m (names_counted ts)) f
        ∙ or_same (has_name m (names_counted ts)) (bytes_eq m n) (other_name m t.name n e f)
    by false e true f h = ap (λ b. if b then true else has_name m (names_counted (tally_one n ts))) f
    by false e false f h = ap (λ b. if b then true else has_name m (names_counted (tally_one n ts))) f ∙ h

or_more : (a b c : Bool) → (if (if a then true else b) then true else c) ≡ (if a then true else (if b then true else c))
or_more true b c = refl
or_more false b c = refl

counted_all : (m : List ℕ) (tallies : List NameTally) (names : List (List ℕ))
    → has_name m (names_counted (tally_all tallies names)) ≡ (if has_name m (names_counted tallies) then true else has_name m names)
counted_all m tallies [] = sym (or_none (has_name m (names_counted tallies)))
counted_all m tallies (n ∷ ns) =
    counted_all m (tally_one n tallies) ns
    ∙ ap (λ b. if b then true else has_name m ns) (counted_one m n tallies)
    ∙ or_more (has_name m (names_counted tallies)) (bytes_eq m n) (has_name m ns)

same_hidden : (names : List (List ℕ)) (hidden : List Named) → hidden_of (names_counted (tally_all [] names)) hidden ≡ hidden_of names hidden
same_hidden names [] = refl
same_hidden names (n ∷ ns) =
    let tallied = names_counted (tally_all [] names) in
    ap (λ b. if (if b then false else is_unchecked tallied n.units) then n.units ∷ hidden_of tallied ns else hidden_of tallied ns) (counted_all n.text [] names)
    ∙ ap (λ b. if (if has_name n.text names then false else (if b then false else is_class (element_of n.units))) then n.units ∷ hidden_of tallied ns else hidden_of tallied ns) (counted_all n.units [] names)
    ∙ ap (λ xs. if is_hidden names n.text n.units then n.units ∷ xs else xs) (same_hidden names ns)

-- the lines of both, by what was counted
pub both_lines : (filter : FilterView) (names hidden : List NameTally) (bytes lent : List ℕ) → lent ≡ bytes
    → hidden ≡ tally_all [] (hidden_of (names_counted names) (once_each [] (names_in 0 lent)))
    → tally_lines (words_on filter) names ++ tally_lines (marked_words (codes "hidden ") filter) hidden
    ≡ tally_lines (words_on filter) names ++ hidden_lines filter (hidden_in (names_counted names) bytes)
both_lines filter names hidden bytes lent same is =
    ap (λ ts. tally_lines (words_on filter) names ++ tally_lines (marked_words (codes "hidden ") filter) ts) is
    ∙ ap (λ xs. tally_lines (words_on filter) names ++ hidden_lines filter (hidden_of (names_counted names) (once_each [] (names_in 0 xs)))) same

-- the text of the list that has these names
pub says_anywhere : Counted → (told : Option (List ℕ)) (filter : FilterView) (whole : NamedStream) (Went : List ℕ → Type 0)
    → IfSome told (λ bytes. IsNamed bytes whole) → Went (lines_of_both filter whole)
    → IfSome told (λ bytes. SaysListedAnywhere filter bytes Went)
says_anywhere law None filter whole Went has wrote = tt
says_anywhere law (Some bytes) filter whole Went has wrote = record {
  list = has.1.list;
  passes = has.1.passes;
  printed = subst Went
      (ap (λ b. tally_lines (words_on filter) whole.names ++ hidden_lines filter (hidden_in (names_counted whole.names) b)) has.0
      ∙ ap (λ ts. tally_lines (words_on filter) ts ++ hidden_lines filter (hidden_in (names_counted ts) bytes)) has.1.names_are
      ∙ ap (λ xs. tally_lines (words_on filter) (tally_all [] (checked_names has.1.list)) ++ hidden_lines filter xs)
      (same_hidden (checked_names has.1.list) (once_each [] (names_in 0 bytes)))
      ∙ ap (λ xs. xs ++ hidden_lines filter (hidden_in (checked_names has.1.list) bytes)) (sym (law (words_on filter) has.1.list)))
      wrote;
}

pub anywhere_all : Counted → (told : Option (List ℕ)) (filter : FilterView) (whole : NamedStream) (old new : Option (List ℕ))
    → IfSome told (λ bytes. IsNamed bytes whole) → Appends old new (lines_of_both filter whole)
    → IfSome told (λ bytes. SaysListedAnywhere filter bytes (Appends old new))
anywhere_all law told filter whole old new = says_anywhere law told filter whole (Appends old new)

-- its first bytes, where the output failed
pub anywhere_cut : Counted → (told : Option (List ℕ)) (filter : FilterView) (whole : NamedStream) (failed : Bool) (old new : Option (List ℕ))
    → IfSome told (λ bytes. IsNamed bytes whole) → KeptOrCut failed old new (lines_of_both filter whole)
    → KeptOrSaidSome failed old new told (SaysListedAnywhere filter) SaysRefusal
anywhere_cut law told filter whole failed old new has =
    yes_cut failed old new told (lines_of_both filter whole) (SaysListedAnywhere filter) SaysRefusal (λ some. says_anywhere law told filter whole (AppendsSome old new) has some)
