-- The laws of filter texts: texts without a `/`, and texts that are appended.
use Rattle.std.proofs.Common.{◌≡◌, ℕ, zero, suc, ◌+◌, ◌<◌, Bool, true, false, ◌==◌, ◌||◌, not, cond, ltb, List, [], ◌∷◌, ◌++◌, length, map, slice_get, position, Option, Some, None, refl, ap, ◌∙◌, arith, length-append}
use Rattle.std.specs.List.{list_any, prefix_len, onto_first}
use Rattle.std.proofs.lemmas.Bool.{lt-ltb, le-ltb, ltb-true, eq-eqb}
use Rattle.std.proofs.lemmas.List.{map-append}
use Rattle.std.proofs.lemmas.List.Splits.{length-slice_split}
use Rattle.jser_table.specs.Names.{ElementOf, element, primitive_element, malformed_element, element_of}
use Rattle.jser_filter.specs.declared.limit.Limit.{Limit}
use Rattle.jser_filter.specs.declared.verdict.Verdict.TheVariants as verdict
use Rattle.jser_filter.specs.Cuts.{cut, split_at_each}
use Rattle.jser_filter.specs.Limits.{limit_named, limit_value}
use Rattle.jser_filter.specs.Tables.{ModuleTable, module_of_class}
use Rattle.jser_filter.specs.Pieces.{Piece, empty_piece, limit_piece, pattern_piece, faulty_piece, limit_or_fault, lacks_package, read_name, read_named, read_pattern, read_cut, read_piece, pieces_of}
use Rattle.jser_filter.specs.Filters.{matches_piece, rejects, verdict_at, verdict_by, verdict_of}
use Rattle.jser_filter.specs.Laws.{NeedsNoTable, KeepsDecided}

-- appended pieces

some_parts : (at : ℕ) (units : List ℕ) → 0 < length (split_at_each at units)
some_parts at units = omega (arith, length-slice_split (λ u. u == at) units)

onto_first-append : (unit : ℕ) (front back : List (List ℕ)) → 0 < length front → onto_first unit (front ++ back) ≡ onto_first unit front ++ back
onto_first-append unit [] back some = absurd (omega arith)
onto_first-append unit (part ∷ front) back some = refl

cond-append : (test : Bool) (x y back : List (List ℕ)) → cond test (x ++ back) (y ++ back) ≡ cond test x y ++ back
cond-append true x y back = refl
cond-append false x y back = refl

parts-append : (at : ℕ) (units more : List ℕ) → split_at_each at (units ++ at ∷ more) ≡ split_at_each at units ++ split_at_each at more
parts-append at [] more = rw (eq-eqb at at refl) refl
parts-append at (unit ∷ units) more =
    let rest = parts-append at units more in
    ap (λ ps. cond (unit == at) ([] ∷ ps) (onto_first unit ps)) rest
    ∙ ap (λ ps. cond (unit == at) ([] ∷ (split_at_each at units ++ split_at_each at more)) ps) (onto_first-append unit (split_at_each at units) (split_at_each at more) (some_parts at units))
    ∙ cond-append (unit == at) ([] ∷ split_at_each at units) (onto_first unit (split_at_each at units)) (split_at_each at more)

pieces_of-append : (text more : List ℕ) → pieces_of (text ++ 0x3B ∷ more) ≡ pieces_of text ++ pieces_of more
pieces_of-append text more = ap (map read_piece) (parts-append 0x3B text more) ∙ map-append read_piece (split_at_each 0x3B text) (split_at_each 0x3B more)

prefix_len-append : (test : Piece → Bool) (front back : List Piece) → prefix_len test front < length front → prefix_len test (front ++ back) ≡ prefix_len test front
prefix_len-append test [] back less = absurd (omega arith)
prefix_len-append test (piece ∷ front) back less = prefix_step (test piece) (prefix_len test front) (prefix_len test (front ++ back)) (length front) less (prefix_len-append test front back)
  where
    prefix_step : (passes : Bool) (n m long : ℕ) → cond passes (1 + n) 0 < suc long → (n < long → m ≡ n) → cond passes (1 + m) 0 ≡ cond passes (1 + n) 0
    prefix_step true n m long less same = ap (λ k. 1 + k) (same (omega arith))
    prefix_step false n m long less same = refl

slice_get-append : (front back : List Piece) (i : ℕ) → i < length front → slice_get (front ++ back) i ≡ slice_get front i
slice_get-append [] back i less = absurd (omega arith)
slice_get-append (piece ∷ front) back zero less = refl
slice_get-append (piece ∷ front) back (suc i) less = slice_get-append front back i (omega arith)

decided_append : (test : Piece → Bool) (front back : List Piece) (found : Bool) → ltb (prefix_len (λ p. not (test p)) front) (length front) ≡ found → (verdict_at front (cond found (Some (prefix_len (λ p. not (test p)) front)) None) ≡ verdict.Undecided → ⊥) → verdict_at (front ++ back) (position test (front ++ back)) ≡ verdict_at front (cond found (Some (prefix_len (λ p. not (test p)) front)) None)
decided_append test front back false is decided = absurd (decided refl)
decided_append test front back true is decided =
    let place : ℕ = prefix_len (λ p. not (test p)) front in
    let inside : place < length front = ltb-true place (length front) is in
    let same : prefix_len (λ p. not (test p)) (front ++ back) ≡ place = prefix_len-append (λ p. not (test p)) front back inside in
    let found : position test (front ++ back) ≡ Some place =
    rw (same, lt-ltb place (length (front ++ back)) (omega (arith, length-append front back))) refl
    in
    ap (verdict_at (front ++ back)) found
    ∙ ap (λ o. cond (rejects o) (verdict.Rejected place) (verdict.Allowed place)) (slice_get-append front back place inside)

keeps_element : (front back : List Piece) (modules : ModuleTable) (told : ElementOf) → (verdict_by record { pieces = front; modules = modules } told ≡ verdict.Undecided → ⊥) → verdict_by record { pieces = front ++ back; modules = modules } told ≡ verdict_by record { pieces = front; modules = modules } told
keeps_element front back modules (element name) decided =
    let test : Piece → Bool = matches_piece (module_of_class modules name) name in
    decided_append test front back (ltb (prefix_len (λ p. not (test p)) front) (length front)) refl decided
keeps_element front back modules primitive_element decided = refl
keeps_element front back modules malformed_element decided = refl

pub keeps_decided : KeepsDecided
keeps_decided text more modules name decided =
    ap (λ pieces. verdict_of record { pieces = pieces; modules = modules } name) (pieces_of-append text more)
    ∙ keeps_element (pieces_of text) (pieces_of more) modules (element_of name) decided

-- texts without a `/`

or_false : (a b : Bool) → (a || b) ≡ false → (a ≡ false) × (b ≡ false)
or_false true b is = cc
or_false false b is = (refl, is)

abbrev has_slash : List ℕ → Bool
has_slash units = list_any (λ unit. unit == 0x2F) units

abbrev NoneHas : List (List ℕ) → Type 0
NoneHas [] = Unit {0}
NoneHas (part ∷ parts) = (has_slash part ≡ false) × NoneHas parts

onto_first_none : (unit : ℕ) (parts : List (List ℕ)) → (unit == 0x2F) ≡ false → NoneHas parts → NoneHas (onto_first unit parts)
onto_first_none unit [] other none = (rw other refl, tt)
onto_first_none unit (part ∷ parts) other none = (rw (other, none.0) refl, none.1)

either_none : (test : Bool) (x y : List (List ℕ)) → NoneHas x → NoneHas y → NoneHas (cond test x y)
either_none true x y first second = first
either_none false x y first second = second

parts_none : (units : List ℕ) → has_slash units ≡ false → NoneHas (split_at_each 0x3B units)
parts_none [] none = (refl, tt)
parts_none (unit ∷ units) none =
    let both = or_false (unit == 0x2F) (has_slash units) none in
    let others = parts_none units both.1 in
    either_none (unit == 0x3B) ([] ∷ split_at_each 0x3B units) (onto_first unit (split_at_each 0x3B units)) (refl, others) (onto_first_none unit (split_at_each 0x3B units) both.0 others)

prefix_len-none : (units : List ℕ) → has_slash units ≡ false → prefix_len (λ unit. not (unit == 0x2F)) units ≡ length units
prefix_len-none [] none = refl
prefix_len-none (unit ∷ units) none =
    let both = or_false (unit == 0x2F) (has_slash units) none in
    rw (both.0, prefix_len-none units both.1) (omega arith)

cut_none : (units : List ℕ) → has_slash units ≡ false → cut 0x2F units ≡ None
cut_none units none = rw (prefix_len-none units none, le-ltb (length units) (length units) (omega arith)) refl

-- a piece that asks for no module
abbrev IsPlain : Piece → Type 0
IsPlain empty_piece = Unit {0}
IsPlain (limit_piece limit value) = Unit {0}
IsPlain (pattern_piece pattern) = pattern.in_module ≡ None
IsPlain (faulty_piece cause) = Unit {0}

either_plain : (test : Bool) (x y : Piece) → IsPlain x → IsPlain y → IsPlain (cond test x y)
either_plain true x y first second = first
either_plain false x y first second = second

read_name_plain : (rejects : Bool) (units : List ℕ) → IsPlain (read_name rejects None units)
read_name_plain rejects [] = tt
read_name_plain rejects (unit ∷ units) = either_plain (lacks_package (unit ∷ units)) _ _ tt refl

read_named_plain : (rejects : Bool) (units : List ℕ) → has_slash units ≡ false → IsPlain (read_named rejects units)
read_named_plain rejects units none = rw (cut_none units none) (read_name_plain rejects units)

read_pattern_plain : (units : List ℕ) → has_slash units ≡ false → IsPlain (read_pattern units)
read_pattern_plain [] none = read_named_plain false [] none
read_pattern_plain (unit ∷ units) none =
    let both = or_false (unit == 0x2F) (has_slash units) none in
    either_plain (unit == 0x21) _ _ (read_named_plain true units both.1) (read_named_plain false (unit ∷ units) none)

limit_of_plain : (limit : Option Limit) (value : Option ℕ) → IsPlain (limit_or_fault limit value)
limit_of_plain None value = tt
limit_of_plain (Some limit) None = tt
limit_of_plain (Some limit) (Some value) = tt

read_cut_plain : (units : List ℕ) (sides : Option (List ℕ × List ℕ)) → has_slash units ≡ false → IsPlain (read_cut units sides)
read_cut_plain units None none = read_pattern_plain units none
read_cut_plain units (Some (name, value)) none = limit_of_plain (limit_named name) (limit_value value)

read_piece_plain : (units : List ℕ) → has_slash units ≡ false → IsPlain (read_piece units)
read_piece_plain [] none = tt
read_piece_plain (unit ∷ units) none = read_cut_plain (unit ∷ units) (cut 0x3D (unit ∷ units)) none

abbrev ArePlain : List Piece → Type 0
ArePlain [] = Unit {0}
ArePlain (piece ∷ pieces) = IsPlain piece × ArePlain pieces

pieces_plain : (parts : List (List ℕ)) → NoneHas parts → ArePlain (map read_piece parts)
pieces_plain [] none = tt
pieces_plain (part ∷ parts) none = (read_piece_plain part none.0, pieces_plain parts none.1)

matches_alike : (one other : Option (List ℕ)) (name : List ℕ) (piece : Piece) → IsPlain piece → matches_piece one name piece ≡ matches_piece other name piece
matches_alike one other name empty_piece plain = refl
matches_alike one other name (limit_piece limit value) plain = refl
matches_alike one other name (pattern_piece pattern) plain = rw plain refl
matches_alike one other name (faulty_piece cause) plain = refl

prefix_alike : (one other : Option (List ℕ)) (name : List ℕ) (pieces : List Piece) → ArePlain pieces → prefix_len (λ p. not (matches_piece one name p)) pieces ≡ prefix_len (λ p. not (matches_piece other name p)) pieces
prefix_alike one other name [] plain = refl
prefix_alike one other name (piece ∷ pieces) plain =
    let first = matches_alike one other name piece plain.0 in
    let others = prefix_alike one other name pieces plain.1 in
    ap (λ b. cond (not b) (1 + prefix_len (λ p. not (matches_piece one name p)) pieces) 0) first
    ∙ ap (λ n. cond (not (matches_piece other name piece)) (1 + n) 0) others

element_alike : (pieces : List Piece) (one other : ModuleTable) (told : ElementOf) → ArePlain pieces → verdict_by record { pieces = pieces; modules = one } told ≡ verdict_by record { pieces = pieces; modules = other } told
element_alike pieces one other (element name) plain =
    ap (λ n. verdict_at pieces (cond (ltb n (length pieces)) (Some n) None)) (prefix_alike (module_of_class one name) (module_of_class other name) name pieces plain)
element_alike pieces one other primitive_element plain = refl
element_alike pieces one other malformed_element plain = refl

pub needs_no_table : NeedsNoTable
needs_no_table text one other name none =
    element_alike (pieces_of text) one other (element_of name) (pieces_plain (split_at_each 0x3B text) (parts_none text none))
