-- What is shared by the lemmas on trees: which cues come where, and how many names an object's section has.
use Rattle.std.proofs.Common.{◌≡◌, ℕ, suc, if◌then◌else◌, List, [], ◌∷◌, length, refl, ap, Option, Some, None, is_some}
use Rattle.jser_reading.proofs.Vocabulary.{DescTree, plain, proxy, PrimCode, prim_code_of, one_more_value, object_count, Owner, object_owner, array_owner, enum_owner, class_owner}
use Rattle.jser_shown.specs.Known.{NamedField, NamedLayer, known_pending, Known, with_entry, object_names, is_external_chain, elements_of_chain}
use Rattle.jser_shown.specs.Words.{Epoch}
use Rattle.jser_shown.specs.Owners.{OwnerNode}
use Rattle.jser_shown.specs.Cues.{Cue, name_cue, length_cue, parts_cue, class_name_cue, interface_count_cue, Teller, teller, object_parts}
use Rattle.jser_shown.proofs.KnownLemmas.{codes_in}

-- the cues after a class place
abbrev pub owner_cues : Owner → ℕ → List NamedLayer → List Cue → List Cue
owner_cues object_owner L chain gs = parts_cue L (object_parts (is_external_chain chain) chain) ∷ gs
owner_cues array_owner L chain gs = length_cue L (elements_of_chain chain) ∷ gs
owner_cues enum_owner L chain gs = name_cue L ∷ gs
owner_cues class_owner L chain gs = gs

-- the teller after the tag of a descriptor
abbrev pub desc_begin : Epoch → ℕ → Known → List OwnerNode → DescTree → List Cue → Teller
desc_begin e L T os (plain name suid flags fields notes parent) gs = teller e T os (class_name_cue (suc L) ∷ gs)
desc_begin e L T os (proxy interfaces notes parent) gs = teller e (with_entry T known_pending) os (interface_count_cue (suc L) (length T) ∷ gs)

-- values and names

one_name : (o : Option PrimCode) (name : List ℕ) (names : List (List ℕ)) (n : ℕ) → n ≡ length names → one_more_value o n ≡ length (if is_some o then names else name ∷ names)
one_name None name names n e = ap (λ n. suc n) e
one_name (Some c) name names n e = e

pub object_names_count : (fs : List NamedField) → object_count (codes_in fs) ≡ length (object_names fs)
object_names_count [] = refl
object_names_count (f ∷ fs) = one_name (prim_code_of f.code) f.name (object_names fs) (object_count (codes_in fs)) (object_names_count fs)
