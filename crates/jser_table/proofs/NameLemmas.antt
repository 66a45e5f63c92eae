-- Names: the last unit of a name, and that the kind of a layer goes with the element of its name.
use Rattle.std.proofs.Common.{◌≡◌, ℕ, Bool, true, false, ◌==◌, cond, List, [], ◌∷◌, ◌++◌, length, Option, Some, None, refl, ap, sym, ◌∙◌, ne_eqb}
use Rattle.jser_table.specs.declared.layer.BodyKind.TheVariants.{Prim, Values}
use Rattle.jser_table.specs.declared.layer.LayerKind.{LayerKind}
use Rattle.jser_table.specs.declared.layer.LayerKind.TheVariants as kind
use Rattle.jser_table.specs.declared.name.Element.{Element}
use Rattle.jser_table.specs.declared.name.Element.TheVariants.{Name, Primitive, Malformed}
use Rattle.jser_table.specs.Names.{view_element, is_primitive_code, ends_in, all_but_last, NameKind, plain_name, array_name, malformed_name, primitive_array, array_of_arrays, array_kind, ElementOf, element, primitive_element, malformed_element, primitive_array_element, class_element, array_element, is_primitive_name, plain_element, name_kind, element_of, view_kind}
use Rattle.jser_table.specs.Laws.{MalformedAlike}

ends_in-push : (last : ℕ) (units : List ℕ) (x : ℕ) → ends_in last (units ++ x ∷ []) ≡ (x == last)
ends_in-push last [] x = refl
ends_in-push last (c ∷ []) x = refl
ends_in-push last (c ∷ d ∷ units) x = ends_in-push last (d ∷ units) x

all_but_last-push : (units : List ℕ) (x : ℕ) → all_but_last (units ++ x ∷ []) ≡ units
all_but_last-push [] x = refl
all_but_last-push (c ∷ []) x = refl
all_but_last-push (c ∷ d ∷ units) x = ap (λ rest. c ∷ rest) (all_but_last-push (d ∷ units) x)

class_element-push : (units : List ℕ) (x : ℕ) → class_element (units ++ x ∷ []) ≡ cond (x == 0x3B) (element units) malformed_element
class_element-push units x = rw (ends_in-push 0x3B units x, all_but_last-push units x) refl

-- a `;` ends the name of a class
pub class_element_ended : (units class : List ℕ) (last : ℕ) → units ≡ class ++ last ∷ [] → last ≡ 0x3B → element class ≡ class_element units
class_element_ended units class last is end = rw (is, class_element-push class last, end) refl

-- and nothing else does
pub class_element_open : (units class : List ℕ) (last : ℕ) → units ≡ class ++ last ∷ [] → (last ≡ 0x3B → ⊥) → malformed_element ≡ class_element units
class_element_open units class last is open_end = rw (is, class_element-push class last, ne_eqb last 0x3B open_end) refl

-- two choices by one test agree under f and g where each of their sides does
by_cond : {A B C : Type 0} (f : A → C) (g : B → C) (test : Bool) (x y : A) (u v : B) → f x ≡ g u → f y ≡ g v → f (cond test x y) ≡ g (cond test u v)
by_cond f g true x y u v first second = first
by_cond f g false x y u v first second = second

-- the kind of an array whose elements are no primitives
abbrev pub values_kind : ElementOf → Option LayerKind
values_kind (element units) = Some (kind.Array Values)
values_kind primitive_element = Some (kind.Array Values)
values_kind malformed_element = None

arrays_twice : (name : NameKind) → array_of_arrays (array_of_arrays name) ≡ array_of_arrays name
arrays_twice plain_name = refl
arrays_twice (array_name body) = refl
arrays_twice malformed_name = refl

primitive_arrays : (c : ℕ) (units : List ℕ) → view_kind (array_of_arrays (primitive_array c units)) ≡ values_kind (primitive_array_element c units)
primitive_arrays c [] = by_cond (λ n. view_kind (array_of_arrays n)) values_kind (is_primitive_code c) _ _ _ _ refl refl
primitive_arrays c (d ∷ units) = refl

arrays_of_arrays : (units : List ℕ) → view_kind (array_of_arrays (array_kind units)) ≡ values_kind (array_element units)
arrays_of_arrays [] = refl
arrays_of_arrays (c ∷ units) =
    let inner : NameKind → Option LayerKind = λ n. view_kind (array_of_arrays n) in
    by_cond inner values_kind (c == 0x5B) _ _ _ _
    (ap view_kind (arrays_twice (array_kind units)) ∙ arrays_of_arrays units)
    (by_cond inner values_kind (c == 0x4C) _ _ _ _
    (by_cond inner values_kind (ends_in 0x3B units) _ _ _ _ refl refl)
    (primitive_arrays c units))

-- an array name of two units and more behind its first `[` has values
long_array : (c d : ℕ) (units : List ℕ) → view_kind (array_kind (c ∷ d ∷ units)) ≡ values_kind (array_element (c ∷ d ∷ units))
long_array c d units =
    by_cond view_kind values_kind (c == 0x5B) _ _ _ _
    (arrays_of_arrays (d ∷ units))
    (by_cond view_kind values_kind (c == 0x4C) _ _ _ _
    (by_cond view_kind values_kind (ends_in 0x3B (d ∷ units)) _ _ _ _ refl refl)
    refl)

long_kind : (units : List ℕ) → (length units ≡ 1 → ⊥) → view_kind (array_kind units) ≡ values_kind (array_element units)
long_kind [] long = refl
long_kind (c ∷ []) long = absurd (long refl)
long_kind (c ∷ d ∷ units) long = long_array c d units

pub long_malformed : (units : List ℕ) (told : Element) → (length units ≡ 1 → ⊥) → view_element told ≡ array_element units → told ≡ Malformed → None ≡ view_kind (array_kind units)
long_malformed units told long answer is = sym (long_kind units long ∙ ap values_kind (sym answer) ∙ ap (λ e. values_kind (view_element e)) is)

pub long_values : (units : List ℕ) (told : Element) → (length units ≡ 1 → ⊥) → view_element told ≡ array_element units → (told ≡ Malformed → ⊥) → Some (kind.Array Values) ≡ view_kind (array_kind units)
long_values units (Name class) long answer other = sym (long_kind units long ∙ ap values_kind (sym answer))
long_values units Primitive long answer other = sym (long_kind units long ∙ ap values_kind (sym answer))
long_values units Malformed long answer other = absurd (other refl)

-- a name is malformed for its kind exactly where it is malformed for its element

abbrev is_malformed_kind : NameKind → Bool
is_malformed_kind plain_name = false
is_malformed_kind (array_name body) = false
is_malformed_kind malformed_name = true

abbrev is_malformed_element : ElementOf → Bool
is_malformed_element (element units) = false
is_malformed_element primitive_element = false
is_malformed_element malformed_element = true

-- what stands behind a `[` is never plain
abbrev IsArrayKind : NameKind → Type 0
IsArrayKind plain_name = ⊥
IsArrayKind (array_name body) = Unit {0}
IsArrayKind malformed_name = Unit {0}

of_either : (b : Bool) (x y : NameKind) → IsArrayKind x → IsArrayKind y → IsArrayKind (cond b x y)
of_either true x y first second = first
of_either false x y first second = second

primitive_is_array : (c : ℕ) (units : List ℕ) → IsArrayKind (primitive_array c units)
primitive_is_array c [] = of_either (is_primitive_code c) _ _ tt tt
primitive_is_array c (d ∷ units) = tt

arrays_is_array : (name : NameKind) → IsArrayKind (array_of_arrays name)
arrays_is_array plain_name = tt
arrays_is_array (array_name body) = tt
arrays_is_array malformed_name = tt

array_kind_is_array : (units : List ℕ) → IsArrayKind (array_kind units)
array_kind_is_array [] = tt
array_kind_is_array (c ∷ units) =
    of_either (c == 0x5B) _ _ (arrays_is_array (array_kind units))
    (of_either (c == 0x4C) _ _ (of_either (ends_in 0x3B units) _ _ tt tt) (primitive_is_array c units))

arrays_malformed : (name : NameKind) → IsArrayKind name → is_malformed_kind (array_of_arrays name) ≡ is_malformed_kind name
arrays_malformed plain_name is = absurd is
arrays_malformed (array_name body) is = refl
arrays_malformed malformed_name is = refl

primitive_malformed : (c : ℕ) (units : List ℕ) → is_malformed_kind (primitive_array c units) ≡ is_malformed_element (primitive_array_element c units)
primitive_malformed c [] = by_cond is_malformed_kind is_malformed_element (is_primitive_code c) _ _ _ _ refl refl
primitive_malformed c (d ∷ units) = refl

array_malformed : (units : List ℕ) → is_malformed_kind (array_kind units) ≡ is_malformed_element (array_element units)
array_malformed [] = refl
array_malformed (c ∷ units) =
    by_cond is_malformed_kind is_malformed_element (c == 0x5B) _ _ _ _
    (arrays_malformed (array_kind units) (array_kind_is_array units) ∙ array_malformed units)
    (by_cond is_malformed_kind is_malformed_element (c == 0x4C) _ _ _ _
    (by_cond is_malformed_kind is_malformed_element (ends_in 0x3B units) _ _ _ _ refl refl)
    (primitive_malformed c units))

never_malformed : (test : Bool) (units : List ℕ) → false ≡ is_malformed_element (cond test primitive_element (element units))
never_malformed true units = refl
never_malformed false units = refl

plain_malformed : (name : List ℕ) → false ≡ is_malformed_element (plain_element name)
plain_malformed name = never_malformed (is_primitive_name name) name

malformed_alike : (name : List ℕ) → is_malformed_kind (name_kind name) ≡ is_malformed_element (element_of name)
malformed_alike [] = refl
malformed_alike (c ∷ units) =
    by_cond is_malformed_kind is_malformed_element (c == 0x5B) _ _ _ _ (array_malformed units) (plain_malformed (c ∷ units))

is_malformed_name : (name : NameKind) → is_malformed_kind name ≡ true → name ≡ malformed_name
is_malformed_name plain_name is = cc
is_malformed_name (array_name body) is = cc
is_malformed_name malformed_name is = refl

is_malformed_of : (told : ElementOf) → is_malformed_element told ≡ true → told ≡ malformed_element
is_malformed_of (element units) is = cc
is_malformed_of primitive_element is = cc
is_malformed_of malformed_element is = refl

pub malformed_element_of_kind : (name : List ℕ) → name_kind name ≡ malformed_name → element_of name ≡ malformed_element
malformed_element_of_kind name is = is_malformed_of (element_of name) (sym (malformed_alike name) ∙ ap is_malformed_kind is)

pub malformed_kind_of_element : (name : List ℕ) → element_of name ≡ malformed_element → name_kind name ≡ malformed_name
malformed_kind_of_element name is = is_malformed_name (name_kind name) (malformed_alike name ∙ ap is_malformed_element is)

-- no layer is made
none_of_kind : (kind : NameKind) → view_kind kind ≡ None → kind ≡ malformed_name
none_of_kind plain_name none = absurd (cc)
none_of_kind (array_name body) none = absurd (cc)
none_of_kind malformed_name none = refl

pub malformed_both : MalformedAlike
malformed_both name =
    (λ none. malformed_element_of_kind name (none_of_kind (name_kind name) none), λ is. ap view_kind (malformed_kind_of_element name is))
