-- A chain fits its role exactly where its own layer's name and flags do, or its proxy, and the chain of its
-- superclasses fits the role above. So a condition on the whole chain is told at the token where it shows.
use Rattle.std.proofs.Common.{◌≡◌, ℕ, Bool, true, false, not, cond, ◌&&◌, if◌then◌else◌, List, [], ◌∷◌, ◌++◌, refl, sym, ◌∙◌, ap, Some, None, IsTrue, IsFalse, true≢false}
use Rattle.jser_reading.proofs.Vocabulary.{is_serializable, is_externalizable, has_block_data, is_enum, is_proxy_kind, is_array_kind, own_layer, is_serial_kind, all_serial, does_fit, fits, NameKind, plain_name, array_name, malformed_name, layer_kind, Layer, proxy_layer, is_malformed, object_owner, array_owner, enum_owner, class_owner, ChainOwner, Role, own_class, superclass, owner_of, is_strict_above, FitsRole, NameFits, FlagsFit, ProxyFits}
use Rattle.jser_table.specs.declared.layer.Purpose.TheVariants as purpose
use Rattle.jser_table.specs.declared.layer.Fit.TheVariants as fit
use Rattle.jser_table.specs.Fits.{fit_of_own}
use Rattle.jser_grammar.proofs.Bools.{and_left, and_right, and_both, and-assoc, and-true, untrue}

-- a plain layer, by what its name says
abbrev pub layer_of : NameKind → ℕ → List ℕ → Layer
layer_of kind flags codes = record { kind = layer_kind kind; flags = flags; codes = codes }

pub own_layer-snoc : (c : List Layer) (l : Layer) → own_layer (c ++ (l ∷ [])) ≡ Some l
own_layer-snoc [] l = refl
own_layer-snoc (x ∷ []) l = refl
own_layer-snoc (x ∷ y ∷ c) l = own_layer-snoc (y ∷ c) l

pub all_serial-snoc : (c : List Layer) (l : Layer) → all_serial (c ++ (l ∷ [])) ≡ (all_serial c && is_serial_kind l.kind l.flags)
all_serial-snoc [] l = and-true (is_serial_kind l.kind l.flags)
all_serial-snoc (x ∷ c) l =
    ap (λ b. is_serial_kind x.kind x.flags
    && b) (all_serial-snoc c l) ∙ and-assoc (is_serial_kind x.kind x.flags) (all_serial c) (is_serial_kind l.kind l.flags)

-- what an object asks of a chain that ends with this layer
abbrev object_test : Layer → Bool → Bool
object_test l s = not (is_array_kind l.kind) && cond (is_externalizable l.flags) (has_block_data l.flags) s

object_fit : (a e b s : Bool)
    → does_fit (if a then fit.WrongClass else
    (if e then (if b then fit.Fits else fit.ExternalRaw) else (if s then fit.Fits else fit.NotSerializable)))
    ≡ (not a && cond e b s)
object_fit true e b s = refl
object_fit false true true s = refl
object_fit false true false s = refl
object_fit false false b true = refl
object_fit false false b false = refl

one_fit : (a : Bool) → does_fit (if a then fit.Fits else fit.WrongClass) ≡ a
one_fit true = refl
one_fit false = refl

object_fits-snoc : (c : List Layer) (l : Layer)
    → fits purpose.Object (c ++ (l ∷ [])) ≡ object_test l (all_serial c && is_serial_kind l.kind l.flags)
object_fits-snoc c l =
    ap (λ o. does_fit (fit_of_own purpose.Object o (c ++ (l ∷ [])))) (own_layer-snoc c l)
    ∙ object_fit (is_array_kind l.kind) (is_externalizable l.flags) (has_block_data l.flags) (all_serial (c ++ (l ∷ [])))
    ∙ ap (λ b. object_test l b) (all_serial-snoc c l)

array_fits-snoc : (c : List Layer) (l : Layer) → fits purpose.Array (c ++ (l ∷ [])) ≡ is_array_kind l.kind
array_fits-snoc c l =
    ap (λ o. does_fit (fit_of_own purpose.Array o (c ++ (l ∷ [])))) (own_layer-snoc c l) ∙ one_fit (is_array_kind l.kind)

enum_fits-snoc : (c : List Layer) (l : Layer)
    → fits purpose.EnumConst (c ++ (l ∷ [])) ≡ (not (is_proxy_kind l.kind) && is_enum l.flags)
enum_fits-snoc c l =
    ap (λ o. does_fit (fit_of_own purpose.EnumConst o (c
    ++ (l ∷ [])))) (own_layer-snoc c l) ∙ one_fit (not (is_proxy_kind l.kind) && is_enum l.flags)

-- plain descriptors

is_serial_kind-plain : (kind : NameKind) (f : ℕ) → is_serial_kind (layer_kind kind) f ≡ is_serializable f
is_serial_kind-plain malformed_name f = refl
is_serial_kind-plain plain_name f = refl
is_serial_kind-plain (array_name b) f = refl

is_proxy_kind-plain : (kind : NameKind) → is_proxy_kind (layer_kind kind) ≡ false
is_proxy_kind-plain malformed_name = refl
is_proxy_kind-plain plain_name = refl
is_proxy_kind-plain (array_name b) = refl

object_choice : (c : List Layer) (kind : NameKind) (f : ℕ) (codes : List ℕ)
    → IsTrue (fits purpose.Object (c ++ (layer_of kind f codes ∷ [])))
    → IsTrue (cond (is_externalizable f) (has_block_data f) (all_serial c && is_serializable f))
object_choice c kind f codes h =
    let l = layer_of kind f codes in
    rw (← is_serial_kind-plain kind f)
    (and_right (not (is_array_kind l.kind)) (cond (is_externalizable f) (has_block_data f) (all_serial c
    && is_serial_kind l.kind f)) (sym (object_fits-snoc c l) ∙ h))

own_choice : (e b s a : Bool) → IsTrue (cond e b (a && s)) → IsTrue (cond e b s)
own_choice true b s a h = h
own_choice false b s a h = and_right a s h

above_choice : (owner : ChainOwner) (e b s : Bool) (c : List Layer) → IsTrue (cond e b (all_serial c && s))
    → FitsRole (superclass owner (not e)) c
above_choice owner true b s c h = tt
above_choice owner false b s c h = and_left (all_serial c) s h

both_choices : (owner : ChainOwner) (e b s : Bool) (c : List Layer) → IsTrue (cond e b s)
    → FitsRole (superclass owner (not e)) c → IsTrue (cond e b (all_serial c && s))
both_choices owner true b s c h k = h
both_choices owner false b s c h k = and_both (all_serial c) s k h

pub name_fits_of : (role : Role) (c : List Layer) (kind : NameKind) (f : ℕ) (codes : List ℕ) → IsFalse (is_malformed kind)
    → FitsRole role (c ++ (layer_of kind f codes ∷ [])) → NameFits role kind
name_fits_of role c malformed_name f codes n h = absurd (true≢false n)
name_fits_of (own_class None) c kind f codes n h = tt
name_fits_of (own_class (Some object_owner)) c plain_name f codes n h = tt
name_fits_of (own_class (Some object_owner)) c (array_name b) f codes n h =
    untrue (sym (object_fits-snoc c (layer_of (array_name b) f codes)) ∙ h)
name_fits_of (own_class (Some array_owner)) c plain_name f codes n h =
    untrue (sym (array_fits-snoc c (layer_of plain_name f codes)) ∙ h)
name_fits_of (own_class (Some array_owner)) c (array_name b) f codes n h = tt
name_fits_of (own_class (Some enum_owner)) c kind f codes n h = tt
name_fits_of (own_class (Some class_owner)) c kind f codes n h = tt
name_fits_of (superclass owner strict) c kind f codes n h = tt

pub flags_fit_of : (role : Role) (c : List Layer) (kind : NameKind) (f : ℕ) (codes : List ℕ)
    → FitsRole role (c ++ (layer_of kind f codes ∷ [])) → FlagsFit role f
flags_fit_of (own_class None) c kind f codes h = tt
flags_fit_of (own_class (Some object_owner)) c kind f codes h =
    own_choice (is_externalizable f) (has_block_data f) (is_serializable f) (all_serial c) (object_choice c kind f codes h)
flags_fit_of (own_class (Some array_owner)) c kind f codes h = tt
flags_fit_of (own_class (Some enum_owner)) c kind f codes h =
    and_right (not (is_proxy_kind (layer_kind kind))) (is_enum f) (sym (enum_fits-snoc c (layer_of kind f codes)) ∙ h)
flags_fit_of (own_class (Some class_owner)) c kind f codes h = tt
flags_fit_of (superclass owner false) c kind f codes h = tt
flags_fit_of (superclass owner true) c kind f codes h =
    rw (← is_serial_kind-plain kind f)
    (and_right (all_serial c) (is_serial_kind (layer_kind kind) f) (sym (all_serial-snoc c (layer_of kind f codes)) ∙ h))

pub above_fits_of : (role : Role) (c : List Layer) (kind : NameKind) (f : ℕ) (codes : List ℕ)
    → FitsRole role (c ++ (layer_of kind f codes ∷ []))
    → FitsRole (superclass (owner_of role) (is_strict_above role f)) c
above_fits_of (own_class None) c kind f codes h = tt
above_fits_of (own_class (Some object_owner)) c kind f codes h =
    above_choice (Some object_owner) (is_externalizable f) (has_block_data f) (is_serializable f) c
    (object_choice c kind f codes h)
above_fits_of (own_class (Some array_owner)) c kind f codes h = tt
above_fits_of (own_class (Some enum_owner)) c kind f codes h = tt
above_fits_of (own_class (Some class_owner)) c kind f codes h = tt
above_fits_of (superclass owner false) c kind f codes h = tt
above_fits_of (superclass owner true) c kind f codes h =
    and_left (all_serial c) (is_serial_kind (layer_kind kind) f) (sym (all_serial-snoc c (layer_of kind f codes)) ∙ h)

pub plain_fits : (role : Role) (c : List Layer) (kind : NameKind) (f : ℕ) (codes : List ℕ) → NameFits role kind → FlagsFit role f
    → FitsRole (superclass (owner_of role) (is_strict_above role f)) c → FitsRole role (c ++ (layer_of kind f codes ∷ []))
plain_fits (own_class None) c kind f codes n h k = tt
plain_fits (own_class (Some object_owner)) c malformed_name f codes n h k = absurd n
plain_fits (own_class (Some object_owner)) c plain_name f codes n h k =
    object_fits-snoc c (layer_of plain_name f codes) ∙ both_choices (Some object_owner) (is_externalizable f) (has_block_data f)
    (is_serializable f) c h k
plain_fits (own_class (Some object_owner)) c (array_name b) f codes n h k = absurd n
plain_fits (own_class (Some array_owner)) c malformed_name f codes n h k = absurd n
plain_fits (own_class (Some array_owner)) c plain_name f codes n h k = absurd n
plain_fits (own_class (Some array_owner)) c (array_name b) f codes n h k = array_fits-snoc c (layer_of (array_name b) f codes)
plain_fits (own_class (Some enum_owner)) c kind f codes n h k =
    enum_fits-snoc c (layer_of kind f codes) ∙ and_both (not (is_proxy_kind (layer_kind kind))) (is_enum f)
    (ap not (is_proxy_kind-plain kind)) h
plain_fits (own_class (Some class_owner)) c kind f codes n h k = tt
plain_fits (superclass owner false) c kind f codes n h k = tt
plain_fits (superclass owner true) c kind f codes n h k =
    all_serial-snoc c (layer_of kind f codes) ∙ and_both (all_serial c) (is_serial_kind (layer_kind kind) f) k
    (is_serial_kind-plain kind f ∙ h)

-- proxy descriptors

pub proxy_fits_of : (role : Role) (c : List Layer) → FitsRole role (c ++ (proxy_layer ∷ [])) → ProxyFits role
proxy_fits_of (own_class None) c h = tt
proxy_fits_of (own_class (Some object_owner)) c h = tt
proxy_fits_of (own_class (Some array_owner)) c h = untrue (sym (array_fits-snoc c proxy_layer) ∙ h)
proxy_fits_of (own_class (Some enum_owner)) c h = untrue (sym (enum_fits-snoc c proxy_layer) ∙ h)
proxy_fits_of (own_class (Some class_owner)) c h = tt
proxy_fits_of (superclass owner strict) c h = tt

pub above_proxy_fits_of : (role : Role) (c : List Layer) → FitsRole role (c ++ (proxy_layer ∷ []))
    → FitsRole (superclass (owner_of role) (is_strict_above role 0)) c
above_proxy_fits_of (own_class None) c h = tt
above_proxy_fits_of (own_class (Some object_owner)) c h = and_left (all_serial c) true (sym (object_fits-snoc c proxy_layer) ∙ h)
above_proxy_fits_of (own_class (Some array_owner)) c h = tt
above_proxy_fits_of (own_class (Some enum_owner)) c h = tt
above_proxy_fits_of (own_class (Some class_owner)) c h = tt
above_proxy_fits_of (superclass owner false) c h = tt
above_proxy_fits_of (superclass owner true) c h = and_left (all_serial c) true (sym (all_serial-snoc c proxy_layer) ∙ h)

pub proxy_fits : (role : Role) (c : List Layer) → ProxyFits role
    → FitsRole (superclass (owner_of role) (is_strict_above role 0)) c → FitsRole role (c ++ (proxy_layer ∷ []))
proxy_fits (own_class None) c h k = tt
proxy_fits (own_class (Some object_owner)) c h k = object_fits-snoc c proxy_layer ∙ and_both (all_serial c) true k refl
proxy_fits (own_class (Some array_owner)) c h k = absurd h
proxy_fits (own_class (Some enum_owner)) c h k = absurd h
proxy_fits (own_class (Some class_owner)) c h k = tt
proxy_fits (superclass owner false) c h k = tt
proxy_fits (superclass owner true) c h k = all_serial-snoc c proxy_layer ∙ and_both (all_serial c) true k refl
