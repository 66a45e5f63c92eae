-- The rules of `Parts` as tests, which the check of a list computes. That each says the same as its rule is
-- proved beside the check; only private calls cite them.
use Rattle.std.specs.Prelude.{ℕ, ◌+◌, ◌^◌, ◌==◌, Bool, true, false, not, ◌&&◌, ◌||◌, nat_lt, if◌then◌else◌, List, [], ◌∷◌, length, slice_get, Option, Some, None, is_some}
use Rattle.std.specs.List.{list_all}
use Rattle.jser_prim.specs.ModifiedUtf8.{modified_utf8}
use Rattle.jser_table.specs.Chains.{is_serializable, is_externalizable}
use Rattle.jser_table.specs.Entries.{is_text, is_closed}
use Rattle.jser_table.specs.Names.{name_kind}
use Rattle.jser_grammar.specs.Codes.{size_of, letter_of, prim_code_of, is_object_code}
use Rattle.jser_grammar.specs.Trees.{TextPlaceTree, new_text, back_text, FieldTree, PrimTree}
use Rattle.jser_grammar.specs.TableAfter.{Entries, after_type}
use Rattle.jser_grammar.specs.Parts.{text_bound, is_malformed, block_bound}
use Rattle.jser_grammar.specs.Wire.{BASE_WIRE_HANDLE}

-- these numbers are below a bound
abbrev pub all_below : ℕ → List ℕ → Bool
all_below bound numbers = list_all (λ n. nat_lt n bound) numbers

abbrev pub obeys_text : Bool → List ℕ → Bool
obeys_text long units = all_below 0x10000 units && nat_lt (length (modified_utf8 units)) (text_bound long)

abbrev pub obeys_class_name : List ℕ → Bool
obeys_class_name name = obeys_text false name && not (is_malformed (name_kind name))

abbrev pub obeys_class_names : List (List ℕ) → Bool
obeys_class_names [] = true
obeys_class_names (name ∷ names) = obeys_class_name name && obeys_class_names names

abbrev pub obeys_flags : ℕ → Bool
obeys_flags flags = nat_lt flags 32 && not (is_serializable flags && is_externalizable flags)

abbrev pub is_handle : ℕ → Bool
is_handle n = nat_lt (BASE_WIRE_HANDLE + n) (2 ^ 32)

abbrev pub obeys_back : Entries → ℕ → Bool
obeys_back T n = nat_lt n (length T) && is_handle n

abbrev pub obeys_back_to_text : Entries → ℕ → Bool
obeys_back_to_text T n = is_text (slice_get T n) && is_handle n

abbrev pub obeys_back_to_class : Entries → ℕ → Bool
obeys_back_to_class T n = is_closed (slice_get T n) && is_handle n

abbrev pub obeys_text_place : Entries → TextPlaceTree → Bool
obeys_text_place T (new_text t) = obeys_text t.long t.units
obeys_text_place T (back_text n) = obeys_back_to_text T n

abbrev pub obeys_type : Entries → Bool → ℕ → Option TextPlaceTree → Bool
obeys_type T seen code None = is_some (prim_code_of code) && not seen
obeys_type T seen code (Some t) = is_object_code code && obeys_text_place T t

abbrev pub obeys_fields : Entries → Bool → List FieldTree → Bool
obeys_fields T seen [] = true
obeys_fields T seen (f ∷ fs) =
    obeys_text false f.name && (obeys_type T seen f.code f.text && obeys_fields (after_type T f.text) (seen || is_object_code f.code) fs)

-- a raw value of the type with this code
abbrev pub is_prim_of : ℕ → PrimTree → Bool
is_prim_of code p = letter_of p.code == code && nat_lt p.bits (256 ^ size_of p.code)

-- the raw values of a class with these type codes
abbrev pub obeys_prims : List ℕ → List PrimTree → Bool
obeys_prims [] [] = true
obeys_prims [] (p ∷ ps) = false
obeys_prims (code ∷ codes) [] = not (is_some (prim_code_of code)) && obeys_prims codes []
obeys_prims (code ∷ codes) (p ∷ ps) =
    if is_some (prim_code_of code) then is_prim_of code p && obeys_prims codes ps else obeys_prims codes (p ∷ ps)

abbrev pub obeys_block : Bool → List ℕ → Bool
obeys_block long bytes = all_below 0x100 bytes && nat_lt (length bytes) (block_bound long)
