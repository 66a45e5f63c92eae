-- A pattern matches a name exactly where one of its finders says so: as an exact name, by its package, or as a word.
use Rattle.std.proofs.Common.{◌≡◌, ℕ, ◌+◌, Bool, true, false, not, ◌&&◌, ◌||◌, ◌==◌, nat_eq, cond, List, [], ◌∷◌, ◌++◌, length, drop, is_some, Option, Some, None, refl, ap, sym, ◌∙◌, arith}
use Rattle.std.specs.List.{starts_with}
use Rattle.std.specs.Str.{bytes_eq}
use Rattle.std.proofs.lemmas.Bool.{ne_eqb, eq-eqb, eqb-true, eqb-false, and_from, and_parts}
use Rattle.std.proofs.lemmas.Cmp.{nat_eq_equiv}
use Rattle.jser_filter.specs.declared.pattern.NamePattern.{NamePattern as Kept}
use Rattle.jser_filter.specs.declared.pattern.NamePattern.TheVariants as kept
use Rattle.jser_filter.specs.Cuts.{before_last, front_with}
use Rattle.jser_filter.specs.Patterns.{has_dot, matches_name, package_of, view_name}
use Rattle.jser_filter.specs.Filters.{is_in_module}
use Rattle.jser_filter.specs.Trie.{begins}
use Rattle.jser_filter.specs.Words.{letter, letters, in_module, name_word, word_of, of_module, of_name, of_end, of_package}
use Rattle.jser_filter.proofs.PackageLemmas.{dotted}
use Rattle.jser_filter.specs.Index.{exact_name, package_front, is_these, is_begun_by, name_in, package_in}

-- booleans

or_false : (b : Bool) → (b || false) ≡ b
or_false true = refl
or_false false = refl

and_false : (b : Bool) → (b && false) ≡ false
and_false true = refl
and_false false = refl

and_both : (a b c : Bool) → (a && (b && c)) ≡ ((a && b) && c)
and_both true b c = refl
and_both false b c = refl

-- letters

same_letter : (one other : ℕ) (test : Bool) → nat_eq one other ≡ test → (letter one == letter other) ≡ test
same_letter one other true is = eq-eqb (letter one) (letter other) (ap letter (eqb-true one other is))
same_letter one other false apart = ne_eqb (letter one) (letter other) (λ e. eqb-false one other apart (omega (arith, e)))

unit_or_mark : (unit mark half : ℕ) → mark ≡ half + half + 1 → (letter unit == mark) ≡ false
unit_or_mark unit mark half odd = ne_eqb (letter unit) mark (λ e. omega (arith, e, odd))

mark_or_unit : (mark unit half : ℕ) → mark ≡ half + half + 1 → (mark == letter unit) ≡ false
mark_or_unit mark unit half odd = ne_eqb mark (letter unit) (λ e. omega (arith, e, odd))

-- an odd letter behind the units, or none
begins_letters : (front name rest : List ℕ) (mark half : ℕ) → mark ≡ half + half + 1 → begins (letters front) (letters name ++ mark ∷ rest) ≡ starts_with nat_eq name front
begins_letters [] name rest mark half odd = refl
begins_letters (unit ∷ front) [] rest mark half odd = ap (λ b. b && begins (letters front) rest) (unit_or_mark unit mark half odd)
begins_letters (unit ∷ front) (other ∷ name) rest mark half odd =
    ap (λ b. b && begins (letters front) (letters name ++ mark ∷ rest)) (same_letter unit other (nat_eq unit other) refl)
    ∙ ap (λ b. nat_eq unit other && b) (begins_letters front name rest mark half odd)

begins_name : (front name : List ℕ) → begins (letters front) (letters name) ≡ starts_with nat_eq name front
begins_name [] name = refl
begins_name (unit ∷ front) [] = refl
begins_name (unit ∷ front) (other ∷ name) =
    ap (λ b. b && begins (letters front) (letters name)) (same_letter unit other (nat_eq unit other) refl)
    ∙ ap (λ b. nat_eq unit other && b) (begins_name front name)

-- whole units and an odd letter
begins_ended : (whole name : List ℕ) (one other half half' : ℕ) → one ≡ half + half + 1 → other ≡ half' + half' + 1
    → begins (letters whole ++ one ∷ []) (letters name ++ other ∷ []) ≡ (bytes_eq name whole && (one == other))
begins_ended [] [] one other half half' odd odd' = and_true (one == other)
  where
    and_true : (b : Bool) → (b && true) ≡ b
    and_true true = refl
    and_true false = refl
begins_ended [] (unit ∷ name) one other half half' odd odd' = ap (λ b. b && true) (mark_or_unit one unit half odd)
begins_ended (unit ∷ whole) [] one other half half' odd odd' = ap (λ b. b && begins (letters whole ++ one ∷ []) []) (unit_or_mark unit other half' odd')
begins_ended (unit ∷ whole) (other_unit ∷ name) one other half half' odd odd' =
    ap (λ b. b && begins (letters whole ++ one ∷ []) (letters name ++ other ∷ [])) (same_letter unit other_unit (nat_eq unit other_unit) refl)
    ∙ ap (λ b. nat_eq unit other_unit && b) (begins_ended whole name one other half half' odd odd')
    ∙ ap (λ b. b && (bytes_eq name whole && (one == other))) (nat_eq_equiv.symm unit other_unit)
    ∙ and_both (nat_eq other_unit unit) (bytes_eq name whole) (one == other)

-- words in modules
begins_scoped : (wanted found word back : List ℕ) → begins (letters wanted ++ of_name ∷ word) (letters found ++ of_name ∷ back) ≡ (bytes_eq found wanted && begins word back)
begins_scoped [] [] word back = refl
begins_scoped [] (unit ∷ found) word back = ap (λ b. b && begins word (letters found ++ of_name ∷ back)) (mark_or_unit of_name unit 1 refl)
begins_scoped (unit ∷ wanted) [] word back = ap (λ b. b && begins (letters wanted ++ of_name ∷ word) back) (unit_or_mark unit of_name 1 refl)
begins_scoped (unit ∷ wanted) (other ∷ found) word back =
    ap (λ b. b && begins (letters wanted ++ of_name ∷ word) (letters found ++ of_name ∷ back)) (same_letter unit other (nat_eq unit other) refl)
    ∙ ap (λ b. nat_eq unit other && b) (begins_scoped wanted found word back)
    ∙ ap (λ b. b && (bytes_eq found wanted && begins word back)) (nat_eq_equiv.symm unit other)
    ∙ and_both (nat_eq other unit) (bytes_eq found wanted) (begins word back)

begins_in : (wanted found word back : List ℕ) → begins (in_module wanted word) (in_module found back) ≡ (bytes_eq found wanted && begins word back)
begins_in wanted found word back = begins_scoped wanted found word back

in_module_or_name : (wanted word name : List ℕ) → begins (in_module wanted word) (letters name) ≡ false
in_module_or_name wanted word [] = refl
in_module_or_name wanted word (unit ∷ name) = ap (λ b. b && begins (letters wanted ++ of_name ∷ word) (letters name)) (mark_or_unit of_module unit 0 refl)

-- the front of a name begins no word of a module, unless it is empty
front_or_module : (unit : ℕ) (front found word : List ℕ) → begins (letters (unit ∷ front)) (in_module found word) ≡ false
front_or_module unit front found word = ap (λ b. b && begins (letters front) (letters found ++ of_name ∷ word)) (unit_or_mark unit of_module 0 refl)

-- packages

abbrev is_of : Option (List ℕ) → List ℕ → Bool
is_of None wanted = false
is_of (Some package_name) wanted = bytes_eq wanted package_name

-- what stands before a unit that is the `.`
abbrev alone : Bool → Option (List ℕ)
alone test = cond test (Some []) None

dot_found : (test rest : Bool) (unit : ℕ) (later : Option (List ℕ)) → (unit == 0x2E) ≡ test → rest ≡ is_some later → ((unit == 0x2E) || rest) ≡ is_some (front_with 0x2E unit later)
dot_found true rest unit None is same = ap (λ b. b || rest) is ∙ ap (λ b. is_some (alone b)) (sym is)
dot_found false rest unit None is same = ap (λ b. b || rest) is ∙ same ∙ ap (λ b. is_some (alone b)) (sym is)
dot_found true rest unit (Some later) is same = ap (λ b. b || rest) is
dot_found false rest unit (Some later) is same = ap (λ b. b || rest) is ∙ same

has_dot_before : (name : List ℕ) → has_dot name ≡ is_some (before_last 0x2E name)
has_dot_before [] = refl
has_dot_before (unit ∷ name) = dot_found (unit == 0x2E) (has_dot name) unit (before_last 0x2E name) refl (has_dot_before name)

-- the last unit may be the `.`
dot_here : (unit : ℕ) (name : List ℕ) (later : Option (List ℕ)) (test : Bool) → (unit == 0x2E) ≡ test → has_dot name ≡ is_some later
    → ((nat_eq 0x2E unit && true) && not (has_dot name)) ≡ is_of (front_with 0x2E unit later) []
dot_here unit name (Some later) test is given = ap (λ b. (nat_eq 0x2E unit && true) && not b) given ∙ and_false (nat_eq 0x2E unit && true)
dot_here unit name None true is given =
    ap (λ b. (b && true) && not (has_dot name)) (nat_eq_equiv.symm 0x2E unit ∙ is) ∙ ap not given ∙ ap (λ b. is_of (alone b) []) (sym is)
dot_here unit name None false is given =
    ap (λ b. (b && true) && not (has_dot name)) (nat_eq_equiv.symm 0x2E unit ∙ is) ∙ ap (λ b. is_of (alone b) []) (sym is)

-- or it stands further on
dot_later : (unit wanted : ℕ) (package_name : List ℕ) (starts rest : Bool) (later : Option (List ℕ)) (test : Bool) → (unit == 0x2E) ≡ test → (starts && rest) ≡ is_of later package_name
    → ((nat_eq wanted unit && starts) && rest) ≡ is_of (front_with 0x2E unit later) (wanted ∷ package_name)
dot_later unit wanted package_name starts rest (Some later) test is same = sym (and_both (nat_eq wanted unit) starts rest) ∙ ap (λ b. nat_eq wanted unit && b) same
dot_later unit wanted package_name starts rest None true is same =
    sym (and_both (nat_eq wanted unit) starts rest) ∙ ap (λ b. nat_eq wanted unit && b) same ∙ and_false (nat_eq wanted unit) ∙ ap (λ b. is_of (alone b) (wanted ∷ package_name)) (sym is)
dot_later unit wanted package_name starts rest None false is same =
    sym (and_both (nat_eq wanted unit) starts rest) ∙ ap (λ b. nat_eq wanted unit && b) same ∙ and_false (nat_eq wanted unit) ∙ ap (λ b. is_of (alone b) (wanted ∷ package_name)) (sym is)

-- a name begins with `P.` and holds no `.` after that exactly where its package is P
in_its_package : (package_name name : List ℕ) → (starts_with nat_eq name (package_name ++ 0x2E ∷ []) && not (has_dot (drop (length (package_name ++ 0x2E ∷ [])) name))) ≡ is_of (package_of name) package_name
in_its_package [] [] = refl
in_its_package [] (unit ∷ name) = dot_here unit name (before_last 0x2E name) (unit == 0x2E) refl (has_dot_before name)
in_its_package (wanted ∷ package_name) [] = refl
in_its_package (wanted ∷ package_name) (unit ∷ name) =
    dot_later unit wanted package_name (starts_with nat_eq name (package_name ++ 0x2E ∷ [])) (not (has_dot (drop (length (package_name ++ 0x2E ∷ [])) name))) (before_last 0x2E name) (unit == 0x2E) refl (in_its_package package_name name)

-- what a package and its `.` begin with, its names begin with
starts_more : (front name rest : List ℕ) → starts_with nat_eq name front ≡ true → starts_with nat_eq (name ++ rest) front ≡ true
starts_more [] name rest starts = refl
starts_more (unit ∷ front) [] rest starts = absurd cc
starts_more (unit ∷ front) (other ∷ name) rest starts =
    let both = and_parts (nat_eq unit other) (starts_with nat_eq name front) starts in
    and_from (nat_eq unit other) (starts_with nat_eq (name ++ rest) front) both.0 (starts_more front name rest both.1)

pub record Cut (name package_name : List ℕ) : Type 0 where
  pub rest : List ℕ
  pub joined : name ≡ (package_name ++ 0x2E ∷ []) ++ rest

cut_here : (unit : ℕ) (name package_name : List ℕ) (later : Option (List ℕ)) (test : Bool) → (unit == 0x2E) ≡ test
    → ((before : List ℕ) → later ≡ Some before → Cut name before) → front_with 0x2E unit later ≡ Some package_name → Cut (unit ∷ name) package_name
cut_here unit name package_name (Some before) test is deeper told =
    let same : unit ∷ before ≡ package_name = same_list told in
    let inner = deeper before refl in
    record { rest = inner.rest; joined = ap (λ n. unit ∷ n) inner.joined ∙ ap (λ p. (p ++ 0x2E ∷ []) ++ inner.rest) same }
  where
    same_list : {x y : List ℕ} → Some x ≡ Some y → x ≡ y
    same_list e = cc
cut_here unit name package_name None true is deeper told =
    let empty : [] ≡ package_name = same_list (ap alone (sym is) ∙ told) in
    record { rest = name; joined = ap (λ u. u ∷ name) (eqb-true unit 0x2E is) ∙ ap (λ p. (p ++ 0x2E ∷ []) ++ name) empty }
  where
    same_list : {x y : List ℕ} → Some x ≡ Some y → x ≡ y
    same_list e = cc
cut_here unit name package_name None false is deeper told = absurd (no_list (ap alone (sym is) ∙ told))
  where
    no_list : {x : List ℕ} → None ≡ Some x → ⊥
    no_list e = cc

pub cut_name : (name package_name : List ℕ) → before_last 0x2E name ≡ Some package_name → Cut name package_name
cut_name [] package_name told = absurd (no_list told)
  where
    no_list : {x : List ℕ} → None ≡ Some x → ⊥
    no_list e = cc
cut_name (unit ∷ name) package_name told = cut_here unit name package_name (before_last 0x2E name) (unit == 0x2E) refl (λ before e. cut_name name before e) told

-- the finders of a pattern

-- by its package, in no module
abbrev pub inside_of : Option (List ℕ) → Option (List ℕ) → Bool
inside_of None front = false
inside_of (Some package_name) front = is_these (package_name ++ 0x2E ∷ []) front

-- by its word, in the module that was found
abbrev pub package_word : List ℕ → Option (List ℕ) → Option (List ℕ) → Bool
package_word module_name None word = false
package_word module_name (Some package_name) word = is_begun_by (package_in module_name package_name) word

abbrev pub word_in : Option (List ℕ) → Option (List ℕ) → List ℕ → Option (List ℕ) → Bool
word_in None package_found name word = false
word_in (Some module_name) package_found name word = package_word module_name package_found word || is_begun_by (name_in module_name name) word

none_inside : (package_found : Option (List ℕ)) → inside_of package_found None ≡ false
none_inside None = refl
none_inside (Some package_name) = refl

none_in : (found package_found : Option (List ℕ)) (name : List ℕ) → word_in found package_found name None ≡ false
none_in None package_found name = refl
none_in (Some module_name) None name = refl
none_in (Some module_name) (Some package_name) name = refl

inside_is_of : (package_found : Option (List ℕ)) (package_name : List ℕ) → inside_of package_found (Some (package_name ++ 0x2E ∷ [])) ≡ is_of package_found package_name
inside_is_of None package_name = refl
inside_is_of (Some given) package_name = sym (dotted package_name given)

front_in_none : (found package_found : Option (List ℕ)) (name : List ℕ) (unit : ℕ) (front : List ℕ) → word_in found package_found name (Some (letters (unit ∷ front))) ≡ false
front_in_none None package_found name unit front = refl
front_in_none (Some module_name) None name unit front = front_or_module unit front module_name (letters name ++ of_end ∷ [])
front_in_none (Some module_name) (Some package_name) name unit front =
    ap (λ b. b || begins (letters (unit ∷ front)) (name_in module_name name)) (front_or_module unit front module_name (letters (package_name ++ 0x2E ∷ []) ++ of_package ∷ []))
    ∙ front_or_module unit front module_name (letters name ++ of_end ∷ [])

-- in no module

plain_front : (found package_found : Option (List ℕ)) (name front : List ℕ)
    → starts_with nat_eq name front ≡ (inside_of package_found None || (begins (letters front) (letters name) || word_in found package_found name (Some (letters front))))
plain_front found package_found name [] = ap (λ b. b || true) (sym (none_inside package_found))
plain_front found package_found name (unit ∷ front) =
    sym (begins_name (unit ∷ front) name)
    ∙ sym (or_false (begins (letters (unit ∷ front)) (letters name)))
    ∙ ap (λ b. begins (letters (unit ∷ front)) (letters name) || b) (sym (front_in_none found package_found name unit front))
    ∙ ap (λ b. b || (begins (letters (unit ∷ front)) (letters name) || word_in found package_found name (Some (letters (unit ∷ front))))) (sym (none_inside package_found))

plain : (found package_found : Option (List ℕ)) (name : List ℕ) (pattern : Kept) → package_found ≡ package_of name
    → matches_name (view_name pattern) name
    ≡ ((is_these name (exact_name None (view_name pattern)) || inside_of package_found (package_front None (view_name pattern)))
    || (is_begun_by (letters name) (word_of None (view_name pattern)) || word_in found package_found name (word_of None (view_name pattern))))
plain found package_found name (kept.BelowPackage front) is = plain_front found package_found name front
plain found package_found name (kept.Prefix front) is = plain_front found package_found name front
plain found package_found name (kept.InPackage package_name) is =
    in_its_package package_name name
    ∙ ap (λ p. is_of p package_name) (sym is)
    ∙ sym (inside_is_of package_found package_name)
    ∙ sym (or_false (inside_of package_found (Some (package_name ++ 0x2E ∷ []))))
    ∙ ap (λ b. inside_of package_found (Some (package_name ++ 0x2E ∷ [])) || b) (sym (none_in found package_found name))
plain found package_found name (kept.Exact units) is =
    sym (or_false (bytes_eq name units))
    ∙ ap (λ b. bytes_eq name units || b) (sym (none_inside package_found))
    ∙ sym (or_false (bytes_eq name units || inside_of package_found None))
    ∙ ap (λ b. (bytes_eq name units || inside_of package_found None) || b) (sym (none_in found package_found name))

-- in a module

abbrev package_begins : Option (List ℕ) → List ℕ → Bool
package_begins None word = false
package_begins (Some package_name) word = begins word (letters (package_name ++ 0x2E ∷ []) ++ of_package ∷ [])

-- what a package begins with adds nothing to what the name begins with
less_or : (less more : Bool) → (less ≡ true → more ≡ true) → (less || more) ≡ more
less_or true more implies = sym (implies refl)
less_or false more implies = refl

front_begins : (package_found : Option (List ℕ)) (name front : List ℕ) → package_found ≡ package_of name
    → (package_begins package_found (letters front) || begins (letters front) (letters name ++ of_end ∷ [])) ≡ starts_with nat_eq name front
front_begins None name front is = begins_letters front name [] of_end 2 refl
front_begins (Some package_name) name front is =
    let cut = cut_name name package_name (sym is) in
    ap (λ b. b || begins (letters front) (letters name ++ of_end ∷ [])) (begins_letters front (package_name ++ 0x2E ∷ []) [] of_package 3 refl)
    ∙ ap (λ b. starts_with nat_eq (package_name ++ 0x2E ∷ []) front || b) (begins_letters front name [] of_end 2 refl)
    ∙ less_or (starts_with nat_eq (package_name ++ 0x2E ∷ []) front) (starts_with nat_eq name front)
    (λ starts. ap (λ n. starts_with nat_eq n front) cut.joined ∙ starts_more front (package_name ++ 0x2E ∷ []) cut.rest starts)

and_true : (b : Bool) → (b && true) ≡ b
and_true true = refl
and_true false = refl

inside_begins : (package_found : Option (List ℕ)) (wanted : List ℕ) → package_begins package_found (letters (wanted ++ 0x2E ∷ []) ++ of_package ∷ []) ≡ is_of package_found wanted
inside_begins None wanted = refl
inside_begins (Some package_name) wanted =
    begins_ended (wanted ++ 0x2E ∷ []) (package_name ++ 0x2E ∷ []) of_package of_package 3 3 refl refl
    ∙ and_true (bytes_eq (package_name ++ 0x2E ∷ []) (wanted ++ 0x2E ∷ []))
    ∙ sym (dotted wanted package_name)

whole_no_package : (package_found : Option (List ℕ)) (units : List ℕ) → package_begins package_found (letters units ++ of_end ∷ []) ≡ false
whole_no_package None units = refl
whole_no_package (Some package_name) units =
    begins_ended units (package_name ++ 0x2E ∷ []) of_end of_package 2 3 refl refl ∙ and_false (bytes_eq (package_name ++ 0x2E ∷ []) units)

named : (package_found : Option (List ℕ)) (name : List ℕ) (pattern : Kept) → package_found ≡ package_of name
    → (package_begins package_found (name_word (view_name pattern)) || begins (name_word (view_name pattern)) (letters name ++ of_end ∷ [])) ≡ matches_name (view_name pattern) name
named package_found name (kept.BelowPackage front) is = front_begins package_found name front is
named package_found name (kept.Prefix front) is = front_begins package_found name front is
named package_found name (kept.InPackage package_name) is =
    ap (λ b. package_begins package_found (letters (package_name ++ 0x2E ∷ []) ++ of_package ∷ []) || b)
    (begins_ended (package_name ++ 0x2E ∷ []) name of_package of_end 3 2 refl refl ∙ and_false (bytes_eq name (package_name ++ 0x2E ∷ [])))
    ∙ or_false (package_begins package_found (letters (package_name ++ 0x2E ∷ []) ++ of_package ∷ []))
    ∙ inside_begins package_found package_name
    ∙ ap (λ p. is_of p package_name) is
    ∙ sym (in_its_package package_name name)
named package_found name (kept.Exact units) is =
    ap (λ b. b || begins (letters units ++ of_end ∷ []) (letters name ++ of_end ∷ [])) (whole_no_package package_found units)
    ∙ begins_ended units name of_end of_end 2 2 refl refl
    ∙ and_true (bytes_eq name units)

both_in : (b p n : Bool) → ((b && p) || (b && n)) ≡ (b && (p || n))
both_in true p n = refl
both_in false p n = refl

in_found : (package_found : Option (List ℕ)) (wanted module_name name word : List ℕ)
    → word_in (Some module_name) package_found name (Some (in_module wanted word)) ≡ (bytes_eq module_name wanted && (package_begins package_found word || begins word (letters name ++ of_end ∷ [])))
in_found None wanted module_name name word = begins_in wanted module_name word (letters name ++ of_end ∷ [])
in_found (Some package_name) wanted module_name name word =
    ap (λ b. b || begins (in_module wanted word) (name_in module_name name)) (begins_in wanted module_name word (letters (package_name ++ 0x2E ∷ []) ++ of_package ∷ []))
    ∙ ap (λ b. (bytes_eq module_name wanted && begins word (letters (package_name ++ 0x2E ∷ []) ++ of_package ∷ [])) || b) (begins_in wanted module_name word (letters name ++ of_end ∷ []))
    ∙ both_in (bytes_eq module_name wanted) (begins word (letters (package_name ++ 0x2E ∷ []) ++ of_package ∷ [])) (begins word (letters name ++ of_end ∷ []))

-- a pattern matches exactly where one of its finders says so
pub agrees : (found package_found : Option (List ℕ)) (name : List ℕ) (wanted : Option (List ℕ)) (pattern : Kept) → package_found ≡ package_of name
    → (is_in_module found wanted && matches_name (view_name pattern) name)
    ≡ ((is_these name (exact_name wanted (view_name pattern)) || inside_of package_found (package_front wanted (view_name pattern)))
    || (is_begun_by (letters name) (word_of wanted (view_name pattern)) || word_in found package_found name (word_of wanted (view_name pattern))))
agrees found package_found name None pattern is = plain found package_found name pattern is
agrees None package_found name (Some wanted) pattern is =
    sym (or_false false)
    ∙ ap (λ b. b || false) (sym (none_inside package_found))
    ∙ ap (λ b. inside_of package_found None || (b || false)) (sym (in_module_or_name wanted (name_word (view_name pattern)) name))
agrees (Some module_name) package_found name (Some wanted) pattern is =
    ap (λ b. bytes_eq module_name wanted && b) (sym (named package_found name pattern is))
    ∙ sym (in_found package_found wanted module_name name (name_word (view_name pattern)))
    ∙ ap (λ b. b || word_in (Some module_name) package_found name (Some (in_module wanted (name_word (view_name pattern))))) (sym (none_inside package_found))
    ∙ ap (λ b. inside_of package_found None || (b || word_in (Some module_name) package_found name (Some (in_module wanted (name_word (view_name pattern)))))) (sym (in_module_or_name wanted (name_word (view_name pattern)) name))
