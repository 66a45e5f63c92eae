-- Superclass places: their tags, and the handles of superclasses that have been read.
use Rattle.std.specs.Prelude.{ℕ, suc, Bool, false, List, [], ◌∷◌, length, Option, Some, None}
use Rattle.jser_reading.specs.Labels.{StreamToken, tag_token, null_tag, reference_tag, class_desc_tag, proxy_desc_tag, superclass_place_at, superclass_handle_at}
use Rattle.jser_reading.specs.Roles.{is_strict_above}
use Rattle.jser_reading.specs.Goals.{State}
use Rattle.jser_table.specs.declared.layer.Layer.{Layer}
use Rattle.jser_verdict.specs.Reasons.{Reason}
use Rattle.jser_verdict.specs.Verdicts.{other_tag_reason, superclass_handle_reason}
use Rattle.jser_reader.specs.declared.frame.Frame.{Frame}
use Rattle.jser_reader.specs.declared.frame.Frame.TheVariants as frame
use Rattle.jser_reader.specs.declared.frame.Role.TheVariants as role
use Rattle.jser_reader.specs.Frames.{head_layer, goal_role, chain_owner}
use Rattle.jser_reader.specs.Readers.{Seen, moment_of, superclass_handle_goals}
use Rattle.jser_reader.specs.Handlers.{counted, plain_gate, label_at, opens_class, opens_proxy}
use Rattle.jser_reader.specs.Closing.{closed_state}

-- whether the superclass of the descriptor on top must be a proxy or serializable
abbrev pub strict_in : List Layer → List Frame → Bool
strict_in L [] = false
strict_in L (frame.Descriptor number w ∷ fs) = is_strict_above (goal_role (chain_owner fs) w) (head_layer L).flags
strict_in L (frame.Elements left ∷ fs) = false
strict_in L (frame.Fields last section pos prims values ∷ fs) = false
strict_in L (frame.Notes last section ∷ fs) = false
strict_in L (frame.ExternalNotes ∷ fs) = false

abbrev pub super_reason : Seen → ℕ → Option Reason
super_reason r b =
    other_tag_reason (plain_gate r) (label_at (superclass_place_at (chain_owner r.frames) (strict_in r.layers r.frames)) (suc (length r.frames)) r) b

abbrev pub super_handle_reason : Seen → ℕ → Option Reason
super_handle_reason r n =
    superclass_handle_reason (plain_gate r) (label_at (superclass_handle_at (chain_owner r.frames) (strict_in r.layers r.frames)) (suc (length r.frames)) r)
    (chain_owner r.frames) (strict_in r.layers r.frames) n

abbrev pub after_super_tag : Seen → Option StreamToken → State
after_super_tag r (Some (tag_token null_tag)) = closed_state (counted r) None
after_super_tag r (Some (tag_token reference_tag)) = (moment_of (counted r), superclass_handle_goals r.table.chains r.layers r.frames)
after_super_tag r (Some (tag_token class_desc_tag)) = opens_class (counted r) (role.Superclass (strict_in r.layers r.frames))
after_super_tag r (Some (tag_token proxy_desc_tag)) = opens_proxy (counted r) (role.Superclass (strict_in r.layers r.frames))
after_super_tag r _ = (moment_of r, [])
