-- No piece of a filter's text allows a name alone that is not writable.
use Rattle.std.proofs.Common.{◌≡◌, ℕ, Bool, true, false, cond, not, ◌||◌, ◌==◌, List, [], ◌∷◌, map, codes, nat_eq, Option, Some, None, inl, inr, refl, sym, ap, subst, ◌∙◌}
use Rattle.std.specs.List.{ends_with, onto_first}
use Rattle.jser_table.specs.Names.{ends_in}
use Rattle.jser_filter.specs.declared.fault.FilterCause.TheVariants as cause
use Rattle.jser_filter.specs.declared.limit.Limit.{Limit}
use Rattle.jser_filter.specs.Limits.{limit_named, limit_value}
use Rattle.jser_filter.specs.Cuts.{cut, split_at_each}
use Rattle.jser_filter.specs.Patterns.{NamePattern, below_package, in_package, prefix, exact, name_pattern, without_last}
use Rattle.jser_filter.specs.Pieces.{Pattern, pattern_piece, faulty_piece, limit_or_fault, lacks_package, read_name, read_in_module, read_named, read_cut, read_piece}
use Rattle.jser_suggest.specs.Suggested.{only, has, begins, is_empty, is_writable}
use Rattle.jser_suggest.specs.Samples.{Some_of}
use Rattle.jser_suggest.specs.Laws.{OnlyWritable}
use Rattle.jser_suggest.proofs.PieceLemmas.{none_left, ending}

-- ---- what a piece has that is the pattern of a name alone

-- a limit is no pattern
limit_is_none : (l : Option Limit) (v : Option ℕ) (name : List ℕ) → limit_or_fault l v ≡ only name → ⊥
limit_is_none None v name e = cc
limit_is_none (Some l) None name e = cc
limit_is_none (Some l) (Some v) name e = cc

-- the name of an exact pattern does not end in a star
abbrev pattern_by : List ℕ → Bool → Bool → Bool → NamePattern
pattern_by units below in_it front =
    cond below (below_package (without_last 2 units)) (cond in_it (in_package (without_last 1 units)) (cond front (prefix (without_last 1 units)) (exact units)))

-- what an exact pattern is
record IsExact (units name : List ℕ) : Type 0 where
  same : units ≡ name
  no_star : ends_in 0x2A units ≡ false

exact_by : (units name : List ℕ) (below in_it front : Bool) → ends_with nat_eq units (codes "*") ≡ front → pattern_by units below in_it front ≡ exact name → (units ≡ name) × (front ≡ false)
exact_by units name true in_it front is e = absurd (cc)
exact_by units name false true front is e = absurd (cc)
exact_by units name false false true is e = absurd (cc)
exact_by units name false false false is e = (cc, refl)

star_by : (units : List ℕ) (t : Bool) → ends_in 0x2A units ≡ t → ends_with nat_eq units (codes "*") ≡ false → t ≡ false
star_by units true is e = absurd (cc (sym (ending units is) ∙ e))
star_by units false is e = refl

is_exact : (units name : List ℕ) → name_pattern units ≡ exact name → IsExact units name
is_exact units name e =
    let x = exact_by units name (ends_with nat_eq units (codes ".**")) (ends_with nat_eq units (codes ".*")) (ends_with nat_eq units (codes "*")) refl e in
    record { same = x.0; no_star = star_by units (ends_in 0x2A units) refl x.1 }

-- a name in no module, that is not empty
record IsNamed (units name : List ℕ) : Type 0 where
  some : is_empty units ≡ false
  exactly : IsExact units name

only_pattern : (p : Pattern) (name : List ℕ) → pattern_piece p ≡ only name → (p.rejects ≡ false) × (p.in_module ≡ None) × (p.name ≡ exact name)
only_pattern p name e = (ap (λ q. q.rejects) same, ap (λ q. q.in_module) same, ap (λ q. q.name) same)
  where
    same : p ≡ record { rejects = false; in_module = None; name = exact name }
    same = cc

named_by : (r : Bool) (m : Option (List ℕ)) (unit : ℕ) (units name : List ℕ) (t : Bool)
    → cond t (faulty_piece cause.PackageMissing) (pattern_piece record { rejects = r; in_module = m; name = name_pattern (unit ∷ units) }) ≡ only name
    → (r ≡ false) × (m ≡ None) × IsNamed (unit ∷ units) name
named_by r m unit units name true e = absurd (cc)
named_by r m unit units name false e =
    let x = only_pattern (record { rejects = r; in_module = m; name = name_pattern (unit ∷ units) }) name e in
    (x.0, x.1, record { some = refl; exactly = is_exact (unit ∷ units) name x.2 })

named : (r : Bool) (m : Option (List ℕ)) (units name : List ℕ) → read_name r m units ≡ only name → (r ≡ false) × (m ≡ None) × IsNamed units name
named r m [] name e = absurd (cc)
named r m (unit ∷ units) name e = named_by r m unit units name (lacks_package (unit ∷ units)) e

in_no_module : (r : Bool) (units name : List ℕ) (o : Option (List ℕ × List ℕ)) → cut 0x2F units ≡ o → read_in_module r units o ≡ only name
    → (r ≡ false) × (has 0x2F units ≡ false) × IsNamed units name
in_no_module r units name None is e = let x = named r None units name e in (x.0, none_left 0x2F units is, x.2)
in_no_module r units name (Some ([], rest)) is e = absurd (cc)
in_no_module r units name (Some (u ∷ us, rest)) is e = let x = named r (Some (u ∷ us)) rest name e in absurd (cc x.1)

-- all that a writable name is
abbrev Lacks : List ℕ → List ℕ → Type 0
Lacks units name = (units ≡ name) × (is_empty units ≡ false) × (begins 0x21 units ≡ false) × (has 0x2F units ≡ false) × (ends_in 0x2A units ≡ false)

marked_by : (unit : ℕ) (units name : List ℕ) (t : Bool) → (unit == 0x21) ≡ t → cond t (read_named true units) (read_named false (unit ∷ units)) ≡ only name → Lacks (unit ∷ units) name
marked_by unit units name true is e = let x = in_no_module true units name (cut 0x2F units) refl e in absurd (cc x.0)
marked_by unit units name false is e =
    let x = in_no_module false (unit ∷ units) name (cut 0x2F (unit ∷ units)) refl e in (x.2.exactly.same, x.2.some, is, x.1, x.2.exactly.no_star)

cut_by : (unit : ℕ) (units name : List ℕ) (o : Option (List ℕ × List ℕ)) → cut 0x3D (unit ∷ units) ≡ o → read_cut (unit ∷ units) o ≡ only name
    → Lacks (unit ∷ units) name × (has 0x3D (unit ∷ units) ≡ false)
cut_by unit units name None is e = (marked_by unit units name (unit == 0x21) refl e, none_left 0x3D (unit ∷ units) is)
cut_by unit units name (Some parts) is e = absurd (limit_is_none (limit_named parts.0) (limit_value parts.1) name e)

or_false : (a b : Bool) → a ≡ false → b ≡ false → (a || b) ≡ false
or_false true b e f = absurd (cc)
or_false false b e f = f

written : (part name : List ℕ) → has 0x3B part ≡ false → read_piece part ≡ only name → is_writable name ≡ true
written [] name one e = absurd (cc)
written (unit ∷ units) name one e =
    let part = unit ∷ units in
    let x = cut_by unit units name (cut 0x3D part) refl e in
    let l = x.0 in
    subst (λ n. is_writable n ≡ true) l.0
    (ap not (or_false (is_empty part) _ l.1 (or_false (begins 0x21 part) _ l.2 (or_false (has 0x3B part) _ one (or_false (has 0x3D part) _ x.1 (or_false (has 0x2F part) _ l.3 l.4))))))

-- ---- the parts of a text have no semicolon

abbrev AllLack : List (List ℕ) → Type 0
AllLack [] = Unit {0}
AllLack (part ∷ parts) = (has 0x3B part ≡ false) × AllLack parts

onto : (x : ℕ) (parts : List (List ℕ)) → (x == 0x3B) ≡ false → AllLack parts → AllLack (onto_first x parts)
onto x [] e a = (or_false (x == 0x3B) false e refl, tt)
onto x (part ∷ parts) e a = (or_false (x == 0x3B) (has 0x3B part) e a.0, a.1)

split_by : (x : ℕ) (xs : List ℕ) (t : Bool) → (x == 0x3B) ≡ t → AllLack (split_at_each 0x3B xs) → AllLack (cond t ([] ∷ split_at_each 0x3B xs) (onto_first x (split_at_each 0x3B xs)))
split_by x xs true is a = (refl, a)
split_by x xs false is a = onto x (split_at_each 0x3B xs) is a

all_lack : (text : List ℕ) → AllLack (split_at_each 0x3B text)
all_lack [] = (refl, tt)
all_lack (x ∷ xs) = split_by x xs (x == 0x3B) refl (all_lack xs)

part_of : (parts : List (List ℕ)) (name : List ℕ) → AllLack parts → Some_of (λ piece. piece ≡ only name) (map read_piece parts) → is_writable name ≡ true
part_of [] name a s = absurd s
part_of (part ∷ parts) name a (inl e) = written part name a.0 e
part_of (part ∷ parts) name a (inr s) = part_of parts name a.1 s

pub only_writable : OnlyWritable
only_writable text name s = part_of (split_at_each 0x3B text) name (all_lack text) s
