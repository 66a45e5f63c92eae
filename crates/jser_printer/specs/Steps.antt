-- A teller settles step by step. A step does what the first cue asks where no token belongs to it, and `due` tells
-- what that is and what is said.
use Rattle.std.specs.Prelude.{ℕ, zero, suc, true, false, List, [], ◌∷◌, ◌++◌, slice_set, codes, Option, Some, None}
use Rattle.jser_reading.specs.Roles.{Owner, object_owner, array_owner, enum_owner, class_owner}
use Rattle.jser_shown.specs.Known.{NamedLayer, class_layer, proxy_layer, known_other, known_class, Known, classes_at, with_entry, is_external_chain, elements_of_chain}
use Rattle.jser_shown.specs.Words.{Epoch, end_line, begin_line, quoted}
use Rattle.jser_shown.specs.Owners.{OwnerNode}
use Rattle.jser_shown.specs.Cues.{SectionPart, data_part, external_part, raw_part, value_part, note_part, Cue, text_place_cue, note_cue, name_cue, length_cue, elements_cue, parts_cue, made_cue, close_cue, fields_cue, type_cue, interfaces_cue, Teller, teller, object_parts, fields_done, rest_of_desc}

-- What the first cue asks where no token belongs to it: the first line of a section, with the name of its class (none:
-- a proxy); the word before the type of a field, or the end of the line where there is no type; the handle of an
-- object, array, enum constant or class object; or nothing that is said or kept.
pub data Due : Type 0 where
  section_due external_due : (L : ℕ) → (name : Option (List ℕ)) → Due
  type_word_due line_end_due : Due
  made_due : Owner → Due
  quiet_due : Due

abbrev pub layer_name : NamedLayer → Option (List ℕ)
layer_name (class_layer name flags fields) = Some name
layer_name proxy_layer = None

abbrev pub due_part : ℕ → List SectionPart → Option Due
due_part L [] = Some quiet_due
due_part L (data_part l ∷ parts) = Some (section_due L (layer_name l))
due_part L (external_part l ∷ parts) = Some (external_due L (layer_name l))
due_part L (raw_part f ∷ parts) = None
due_part L (value_part name ∷ parts) = None
due_part L (note_part ∷ parts) = Some quiet_due

-- where nothing is left
abbrev pub due_end : (left : ℕ) → Option Due
due_end zero = Some quiet_due
due_end (suc n) = None

abbrev pub due_at : Cue → Option Due
due_at (parts_cue L parts) = due_part L parts
due_at (elements_cue L c i left) = due_end left
due_at (made_cue owner L number) = Some (made_due owner)
due_at (close_cue number parent layer) = Some quiet_due
due_at (type_cue true) = Some type_word_due
due_at (type_cue false) = Some line_end_due
due_at (fields_cue L number name flags done left) = due_end left
due_at (interfaces_cue L number left) = due_end left
due_at cue = None

abbrev pub due_in : List Cue → Option Due
due_in [] = None
due_in (cue ∷ cues) = due_at cue

-- what is due at the first cue, if anything is; nothing is where the teller has settled
abbrev pub due : Teller → Option Due
due s = due_in s.cues

-- where the step leads

abbrev pub pass_part : ℕ → List SectionPart → Epoch → Known → List OwnerNode → List Cue → Teller
pass_part L [] e T os cues = teller e T os cues
pass_part L (data_part l ∷ parts) e T os cues = teller e T os (parts_cue L parts ∷ cues)
pass_part L (external_part l ∷ parts) e T os cues = teller e T os (parts_cue L parts ∷ cues)
pass_part L (raw_part f ∷ parts) e T os cues = teller e T os (parts_cue L (raw_part f ∷ parts) ∷ cues)
pass_part L (value_part name ∷ parts) e T os cues = teller e T os (parts_cue L (value_part name ∷ parts) ∷ cues)
pass_part L (note_part ∷ parts) e T os cues = teller e T os (note_cue (suc L) ∷ parts_cue L parts ∷ cues)

abbrev pub pass_made : Owner → ℕ → ℕ → Epoch → Known → List OwnerNode → List Cue → Teller
pass_made object_owner L number e T os cues =
    let chain = classes_at T number in
    teller e (with_entry T known_other) os (parts_cue L (object_parts (is_external_chain chain) chain) ∷ cues)
pass_made array_owner L number e T os cues =
    teller e (with_entry T known_other) os (length_cue L (elements_of_chain (classes_at T number)) ∷ cues)
pass_made enum_owner L number e T os cues = teller e (with_entry T known_other) os (name_cue L ∷ cues)
pass_made class_owner L number e T os cues = teller e (with_entry T known_other) os cues

abbrev pub pass_end : (left : ℕ) → (here after : Teller) → Teller
pass_end zero here after = after
pass_end (suc n) here after = here

abbrev pub pass_at : Cue → Epoch → Known → List OwnerNode → List Cue → Teller
pass_at (parts_cue L parts) e T os cues = pass_part L parts e T os cues
pass_at (elements_cue L c i left) e T os cues =
    pass_end left (teller e T os (elements_cue L c i left ∷ cues)) (teller e T os cues)
pass_at (made_cue owner L number) e T os cues = pass_made owner L number e T os cues
pass_at (close_cue number parent layer) e T os cues =
    teller e (slice_set T number (known_class (classes_at T parent ++ (layer ∷ [])))) os cues
pass_at (type_cue true) e T os cues = teller e T os (text_place_cue ∷ cues)
pass_at (type_cue false) e T os cues = teller e T os cues
pass_at (fields_cue L number name flags done left) e T os cues =
    pass_end left (teller e T os (fields_cue L number name flags done left ∷ cues))
    (teller e T os (rest_of_desc L number (class_layer name flags (fields_done done [])) cues))
pass_at (interfaces_cue L number left) e T os cues =
    pass_end left (teller e T os (interfaces_cue L number left ∷ cues))
    (teller e T os (rest_of_desc L number proxy_layer cues))
pass_at cue e T os cues = teller e T os (cue ∷ cues)

abbrev pub pass_in : List Cue → Epoch → Known → List OwnerNode → Teller
pass_in [] e T os = teller e T os []
pass_in (cue ∷ cues) e T os = pass_at cue e T os cues

-- one step; a teller that has settled stays as it is
abbrev pub pass : Teller → Teller
pass s = pass_in s.cues s.epoch s.known s.owners

-- What a step says before `k`, what follows.

abbrev pub section_line : (word : List ℕ) → (name : Option (List ℕ)) → List ℕ → List ℕ
section_line word None k = word ++ (codes "proxy" ++ end_line k)
section_line word (Some name) k = word ++ quoted name (end_line k)

abbrev pub due_says : Option Due → List ℕ → List ℕ
due_says None k = k
due_says (Some (section_due L name)) k = begin_line L (section_line (codes "data ") name k)
due_says (Some (external_due L name)) k = begin_line L (section_line (codes "external ") name k)
due_says (Some type_word_due) k = codes " type " ++ k
due_says (Some line_end_due) k = end_line k
due_says (Some (made_due owner)) k = k
due_says (Some quiet_due) k = k

-- how many steps a teller takes until it has settled

abbrev pub part_steps : List SectionPart → (after : ℕ) → ℕ
part_steps [] after = suc after
part_steps (data_part l ∷ parts) after = suc (part_steps parts after)
part_steps (external_part l ∷ parts) after = suc (part_steps parts after)
part_steps (raw_part f ∷ parts) after = 0
part_steps (value_part name ∷ parts) after = 0
part_steps (note_part ∷ parts) after = 1

abbrev pub end_steps : (left after : ℕ) → ℕ
end_steps zero after = suc after
end_steps (suc n) after = 0

abbrev pub steps_in : Known → List Cue → ℕ
steps_in T [] = 0
steps_in T (parts_cue L parts ∷ cues) = part_steps parts (steps_in T cues)
steps_in T (elements_cue L c i left ∷ cues) = end_steps left (steps_in T cues)
steps_in T (made_cue object_owner L number ∷ cues) =
    let chain = classes_at T number in
    suc (part_steps (object_parts (is_external_chain chain) chain) (steps_in (with_entry T known_other) cues))
steps_in T (made_cue array_owner L number ∷ cues) = 1
steps_in T (made_cue enum_owner L number ∷ cues) = 1
steps_in T (made_cue class_owner L number ∷ cues) = suc (steps_in (with_entry T known_other) cues)
steps_in T (close_cue number parent layer ∷ cues) =
    suc (steps_in (slice_set T number (known_class (classes_at T parent ++ (layer ∷ [])))) cues)
steps_in T (type_cue true ∷ cues) = 1
steps_in T (type_cue false ∷ cues) = suc (steps_in T cues)
steps_in T (fields_cue L number name flags done left ∷ cues) = end_steps left 0
steps_in T (interfaces_cue L number left ∷ cues) = end_steps left 0
steps_in T (cue ∷ cues) = 0

abbrev pub steps_left : Teller → ℕ
steps_left s = steps_in s.known s.cues
