-- What comes before the frames of a printer.
use Rattle.std.specs.Prelude.{ℕ, ◌≡◌, true, false, List, ◌∷◌, reverse}
use Rattle.jser_shown.specs.Known.{Known, NamedField as ToldField}
use Rattle.jser_shown.specs.Words.{Epoch}
use Rattle.jser_shown.specs.Owners.{OwnerNode as ToldNode}
use Rattle.jser_shown.specs.Cues.{Cue, header_cue, handle_cue, string_cue, text_place_cue, block_length_cue, block_cue, name_cue, length_cue, class_cue, class_handle_cue, class_name_cue, suid_cue, flags_cue, field_count_cue, fields_cue, field_name_cue, type_cue, interface_count_cue, interfaces_cue, Teller, teller}
use Rattle.jser_shown.specs.Telling.{SeenToken, goes_in}
use Rattle.jser_printer.specs.declared.phase.Over.{Over}
use Rattle.jser_printer.specs.declared.phase.Over.TheVariants as over
use Rattle.jser_printer.specs.declared.phase.Phase.{Phase}
use Rattle.jser_printer.specs.declared.phase.Phase.TheVariants as phase
use Rattle.jser_printer.specs.declared.layer.NamedField.{NamedField}
use Rattle.jser_printer.specs.Given.{view_owner}
use Rattle.jser_printer.specs.Layers.{view_fields}
use Rattle.jser_printer.specs.Primitives.{view_elements}

abbrev pub over_fields : Over → List Cue → List Cue
over_fields over.Nothing cues = cues
over_fields over.LineEnd cues = type_cue false ∷ cues
over_fields over.TypeWord cues = type_cue true ∷ cues
over_fields over.Place cues = text_place_cue ∷ cues
over_fields over.Text cues = string_cue ∷ cues
over_fields over.Handle cues = handle_cue ∷ cues

-- the cues of a phase before those of the frames; `name` and `done` are the name and the fields so far of the
-- descriptor, the last field first
abbrev pub phase_cues : Phase → (name : List ℕ) → (done : List ToldField) → List Cue → List Cue
phase_cues phase.Frames name done cues = cues
phase_cues phase.Header name done cues = header_cue ∷ cues
phase_cues phase.Handle name done cues = handle_cue ∷ cues
phase_cues phase.Text name done cues = string_cue ∷ cues
phase_cues phase.BlockLength name done cues = block_length_cue ∷ cues
phase_cues phase.Block name done cues = block_cue ∷ cues
phase_cues (phase.ArrayLength level elements) name done cues = length_cue level (view_elements elements) ∷ cues
phase_cues (phase.EnumName level) name done cues = name_cue level ∷ cues
phase_cues (phase.Class owner level) name done cues = class_cue (view_owner owner) level ∷ cues
phase_cues (phase.ClassHandle owner level) name done cues = class_handle_cue (view_owner owner) level ∷ cues
phase_cues (phase.ClassName level) name done cues = class_name_cue level ∷ cues
phase_cues (phase.Suid level) name done cues = suid_cue level name ∷ cues
phase_cues (phase.Flags head) name done cues = flags_cue head.level head.number name ∷ cues
phase_cues (phase.FieldCount head flags) name done cues = field_count_cue head.level head.number name flags ∷ cues
phase_cues (phase.Fields head flags left over) name done cues =
    over_fields over (fields_cue head.level head.number name flags done left ∷ cues)
phase_cues (phase.FieldName head flags code left) name done cues =
    field_name_cue head.level head.number name flags done code left ∷ cues
phase_cues (phase.InterfaceCount head) name done cues = interface_count_cue head.level head.number ∷ cues
phase_cues (phase.Interfaces head left) name done cues = interfaces_cue head.level head.number left ∷ cues

-- the teller with the cues of a phase before its own
abbrev pub in_phase : Phase → (name : List ℕ) → (done : List ToldField) → Teller → Teller
in_phase phase name done s = teller s.epoch s.known s.owners (phase_cues phase name done s.cues)

-- whatever the name and the fields are
abbrev pub StandsIn : Phase → (now whole : Teller) → Type 0
StandsIn phase now whole = (name : List ℕ) (done : List ToldField) → whole ≡ in_phase phase name done now

-- From one phase a token leads to another, whatever is known and comes behind; it changes nothing else.
abbrev pub Leads : (from to : Phase) → SeenToken → Type 0
Leads from to token =
    (e : Epoch) (known : Known) (os : List ToldNode) (cues : List Cue) (name : List ℕ) (done : List ToldField)
    → teller e known os (phase_cues to name done cues) ≡ goes_in e known os (phase_cues from name done cues) token

-- the fields of a descriptor, the last one first
abbrev pub done_of : List NamedField → List ToldField
done_of fields = reverse (view_fields fields)

-- what is kept of the descriptor that is going by: its name and its fields so far, the last field first
pub record DraftView : Type 0 where
  pub name : List ℕ
  pub done : List ToldField
