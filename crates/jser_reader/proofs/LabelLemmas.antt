-- What is known of a machine before a token tells of the token's label: where it stands, how deep, and at which moment.
use Rattle.std.proofs.Common.{◌≡◌, ℕ, zero, suc, ◌<◌, ◌&&◌, Bool, true, false, List, [], ◌∷◌, ◌++◌, length, get_or, Some, refl, sym, ◌∙◌, ap, subst, arith}
use Rattle.jser_table.specs.declared.layer.Layer.{Layer}
use Rattle.jser_reading.specs.Roles.{ChainOwner, is_strict_above}
use Rattle.jser_reading.specs.Roles.{Role as GoalRole}
use Rattle.jser_reading.specs.Labels.{StreamToken, tag_token, Position, top_at, annotation_at, value_at, superclass_place_at}
use Rattle.jser_reading.specs.TokenBytes.{bytes_of}
use Rattle.jser_reading.specs.TokensFromBytes.{tag_from, size_in, token_in}
use Rattle.jser_reading.specs.Moments.{Moment}
use Rattle.jser_reading.specs.Goals.{Goal, interfaces_goal, State}
use Rattle.jser_reading.specs.Accepts.{label_of, Accepts}
use Rattle.jser_reading.specs.GateLimits.{begins_place}
use Rattle.jser_reading.specs.Totals.{begins_content, number_if}
use Rattle.jser_reading.proofs.PlainVerdict.{whole}
use Rattle.jser_verdict.specs.Gates.{Gate}
use Rattle.jser_reader.specs.declared.frame.Frame.{Frame}
use Rattle.jser_reader.specs.declared.frame.Frame.TheVariants as frame
use Rattle.jser_reader.specs.declared.phase.Phase.{Phase}
use Rattle.jser_reader.specs.declared.phase.Phase.TheVariants as phase
use Rattle.jser_reader.specs.declared.phase.TextFor.{TextFor}
use Rattle.jser_reader.specs.declared.phase.TextFor.TheVariants as text
use Rattle.jser_reader.specs.Fitting.{HasDescriptor}
use Rattle.jser_reader.specs.Frames.{owner_in, chain_owner, goal_role, head_layer, frame_goals}
use Rattle.jser_reader.specs.Readers.{Seen, moment_of, top_role, top_number, fields_goals, text_goal, text_rest, HasNotes, HasPart, value_goals, superclass_goals, superclass_handle_goals, ReadyAt}
use Rattle.jser_reader.specs.Walks.{size_of_phase, StandsAt, Stands}
use Rattle.jser_reader.specs.Tallies.{is_top, may_count}

-- ---- the moment

ready_moment : (p : Phase) (r : Seen) (s : State) → ReadyAt p r s → s.0 ≡ moment_of r
ready_moment phase.Header r s h = ap (λ s. s.0) h.1
ready_moment phase.Top r s h = ap (λ s. s.0) h.1
ready_moment phase.Note r s h = ap (λ s. s.0) h.1
ready_moment phase.Value r s h = ap (λ s. s.0) h.1
ready_moment phase.ClassTag r s h = ap (λ s. s.0) h
ready_moment phase.SuperTag r s h = ap (λ s. s.0) h.1
ready_moment phase.TextTag r s h = ap (λ s. s.0) h.2
ready_moment phase.BackHandle r s h = ap (λ s. s.0) h
ready_moment phase.ClassHandle r s h = ap (λ s. s.0) h
ready_moment phase.SuperHandle r s h = ap (λ s. s.0) h.1
ready_moment phase.TextHandle r s h = ap (λ s. s.0) h.2
ready_moment phase.Length2 r s h = ap (λ s. s.0) h.1
ready_moment phase.Length8 r s h = ap (λ s. s.0) h.2
ready_moment phase.Text r s h = absurd h
ready_moment phase.Suid r s h = ap (λ s. s.0) h
ready_moment phase.Flags r s h = ap (λ s. s.0) h.1
ready_moment phase.FieldCount r s h = ap (λ s. s.0) h.1
ready_moment phase.TypeCode r s h = ap (λ s. s.0) h.2
ready_moment phase.InterfaceCount r s h = ap (λ s. s.0) h.1
ready_moment phase.ArrayLength r s h = ap (λ s. s.0) h.is
ready_moment phase.BlockLength1 r s h = ap (λ s. s.0) h
ready_moment phase.BlockLength4 r s h = ap (λ s. s.0) h
ready_moment phase.Prims r s h = ap (λ s. s.0) h.is
ready_moment phase.Bytes r s h = ap (λ s. s.0) h.is
ready_moment phase.Cut r s h = absurd h
ready_moment phase.Stopped r s h = absurd h

stands_moment : (p : Phase) (r : Seen) (s : State) (cut : List ℕ) → StandsAt p r s cut → s.0 ≡ moment_of r
stands_moment phase.Text r s cut h = ap (λ s. s.0) h.is
stands_moment phase.Prims r s cut h = ap (λ s. s.0) h.is
stands_moment phase.Bytes r s cut h = ap (λ s. s.0) h.is
stands_moment phase.Cut r s cut h = ready_moment r.meter.cut_phase r s h.ready
stands_moment phase.Stopped r s cut h = absurd h
stands_moment p r s cut h = ready_moment p r s h.0

pub moment_is : (gate : Gate) (r : Seen) (s : State) (cut : List ℕ) → Stands gate r s cut → s.0 ≡ moment_of r
moment_is gate r s cut st = stands_moment r.phase r s cut st.stands

-- ---- the position and the depth

-- a tag comes there, of one byte
pub record IsTagPlace (w : Position) : Type 0 where
  pub size : (bytes : List ℕ) → size_in w bytes ≡ 1
  pub found : (b : ℕ) → token_in w (b ∷ []) ≡ tag_from b

-- the tag of a value
abbrev pub is_tag : StreamToken → Bool
is_tag (tag_token tag) = true
is_tag _ = false

-- whether a content begins there with this token, and a place, and how deep that is
abbrev AreTold : (w : Position) (depth : ℕ) (at_top counts : Bool) (deep : ℕ) → StreamToken → Type 0
AreTold w depth at_top counts deep token =
    (begins_content w token ≡ at_top) × (number_if (begins_place w token) depth ≡ number_if (begins_place w token) deep)
    × (begins_place w token ≡ (counts && is_tag token))

record Tells (s : State) (at_top counts : Bool) (depth : ℕ) : Type 0 where
  told : (token : StreamToken) → AreTold (label_of s).position (label_of s).depth at_top counts depth token
  tag : counts ≡ true → IsTagPlace (label_of s).position

of_state : (s t : State) (at_top counts : Bool) (depth : ℕ) → s ≡ t → Tells t at_top counts depth → Tells s at_top counts depth
of_state s t at_top counts depth e h = subst (λ s. Tells s at_top counts depth) (sym e) h

-- neither a content nor a place begins there
quiet : (s : State) (depth : ℕ) → ((token : StreamToken) → (begins_content (label_of s).position token ≡ false) × (begins_place (label_of s).position token ≡ false)) → Tells s false false depth
quiet s depth h = record {
  told = λ token. let none = (h token).1 in ((h token).0, ap (λ b. number_if b (label_of s).depth) none ∙ sym (ap (λ b. number_if b depth) none), none);
  tag = λ e. absurd (cc);
}

top_place : (f : StreamToken) → begins_place top_at f ≡ is_tag f
top_place (tag_token tag) = refl
top_place _ = refl

note_place : (f : StreamToken) → begins_place annotation_at f ≡ is_tag f
note_place (tag_token tag) = refl
note_place _ = refl

value_place : (f : StreamToken) → begins_place value_at f ≡ is_tag f
value_place (tag_token tag) = refl
value_place _ = refl

super_place : (owner : ChainOwner) (strict : Bool) (f : StreamToken) → begins_place (superclass_place_at owner strict) f ≡ is_tag f
super_place owner strict (tag_token tag) = refl
super_place owner strict _ = refl

tells_note : (C : List (List Layer)) (L : List Layer) (m : Moment) (fs : List Frame) → HasNotes fs → Tells (m, frame_goals C L fs) false true (suc (length fs))
tells_note C L m (frame.Notes last section ∷ fs) h = record { told = λ token. (refl, refl, note_place token); tag = λ _. record { size = λ bytes. refl; found = λ b. refl } }
tells_note C L m (frame.ExternalNotes ∷ fs) h = record { told = λ token. (refl, refl, note_place token); tag = λ _. record { size = λ bytes. refl; found = λ b. refl } }
tells_note C L m (frame.Descriptor number role ∷ fs) h = record { told = λ token. (refl, refl, note_place token); tag = λ _. record { size = λ bytes. refl; found = λ b. refl } }
tells_note C L m (frame.Elements left ∷ fs) h = absurd h
tells_note C L m (frame.Fields last section pos prims values ∷ fs) h = absurd h
tells_note C L m [] h = absurd h

tells_value : (C : List (List Layer)) (L : List Layer) (m : Moment) (fs : List Frame) → HasPart fs → Tells (m, value_goals C L fs) false true (suc (length fs))
tells_value C L m (frame.Elements left ∷ fs) h = record { told = λ token. (refl, refl, value_place token); tag = λ _. record { size = λ bytes. refl; found = λ b. refl } }
tells_value C L m (frame.Fields last section pos prims values ∷ fs) h = record { told = λ token. (refl, refl, value_place token); tag = λ _. record { size = λ bytes. refl; found = λ b. refl } }
tells_value C L m (frame.Notes last section ∷ fs) h = absurd h
tells_value C L m (frame.ExternalNotes ∷ fs) h = absurd h
tells_value C L m (frame.Descriptor number role ∷ fs) h = absurd h
tells_value C L m [] h = absurd h

tells_super : (C : List (List Layer)) (L : List Layer) (m : Moment) (fs : List Frame) → HasDescriptor fs
    → Tells (m, superclass_goals C L fs) false true (suc (length fs)) × Tells (m, superclass_handle_goals C L fs) false false (suc (length fs))
tells_super C L m (frame.Descriptor number role ∷ fs) h = (
  record { told = λ token. (refl, refl, super_place (owner_in (chain_owner fs) role) (is_strict_above (goal_role (chain_owner fs) role) (head_layer L).flags) token); tag = λ _. record { size = λ bytes. refl; found = λ b. refl } },
  quiet _ (suc (suc (length fs))) (λ token. (refl, refl)),
)
tells_super C L m (frame.Elements left ∷ fs) h = absurd h
tells_super C L m (frame.Fields last section pos prims values ∷ fs) h = absurd h
tells_super C L m (frame.Notes last section ∷ fs) h = absurd h
tells_super C L m (frame.ExternalNotes ∷ fs) h = absurd h
tells_super C L m [] h = absurd h

tells_interfaces : (m : Moment) (goals : List Goal) (role : GoalRole) (d number count depth : ℕ)
    → Tells (m, interfaces_goal role d number count ∷ goals) false false depth
tells_interfaces m goals role d number zero depth = quiet _ depth (λ token. (refl, refl))
tells_interfaces m goals role d number (suc n) depth = quiet _ depth (λ token. (refl, refl))

tells_fields : (r : Seen) (count depth : ℕ) → Tells (moment_of r, fields_goals r count) false false depth
tells_fields r zero depth = quiet _ depth (λ token. (refl, refl))
tells_fields r (suc n) depth = quiet _ depth (λ token. (refl, refl))

tells_text : (r : Seen) (t : TextFor) (long : Bool) (goals : List Goal) (depth : ℕ) → Tells (moment_of r, text_goal r t long ∷ goals) false false depth
tells_text r text.Value long goals depth = quiet _ depth (λ token. (refl, refl))
tells_text r text.FieldType long goals depth = quiet _ depth (λ token. (refl, refl))
tells_text r (text.FieldName is_object) long goals depth = quiet _ depth (λ token. (refl, refl))
tells_text r text.ClassName long goals depth = quiet _ depth (λ token. (refl, refl))
tells_text r text.InterfaceName long goals depth = tells_interfaces (moment_of r) goals (top_role r.frames) (length r.frames) (top_number r.frames) r.header.interfaces depth

ready_tells : (p : Phase) (r : Seen) (s : State) → ReadyAt p r s → Tells s (is_top p) (may_count p) (suc (length r.frames))
ready_tells phase.Header r s h = of_state s _ false false _ h.1 (quiet _ _ (λ token. (refl, refl)))
ready_tells phase.Top r s h = of_state s _ true true (suc (length r.frames)) h.1 (record { told = λ token. (refl, ap (λ fs. number_if (begins_place top_at token) (suc (length fs))) (sym h.0), top_place token); tag = λ _. record { size = λ bytes. refl; found = λ b. refl } })
ready_tells phase.Note r s h = of_state s _ false true _ h.1 (tells_note r.table.chains r.layers (moment_of r) r.frames h.0)
ready_tells phase.Value r s h = of_state s _ false true _ h.1 (tells_value r.table.chains r.layers (moment_of r) r.frames h.0)
ready_tells phase.ClassTag r s h = of_state s _ false false _ h (quiet _ _ (λ token. (refl, refl)))
ready_tells phase.SuperTag r s h = of_state s _ false true _ h.1 (tells_super r.table.chains r.layers (moment_of r) r.frames h.0).0
ready_tells phase.TextTag r s h = of_state s _ false false _ h.2 (quiet _ _ (λ token. (refl, refl)))
ready_tells phase.BackHandle r s h = of_state s _ false false _ h (quiet _ _ (λ token. (refl, refl)))
ready_tells phase.ClassHandle r s h = of_state s _ false false _ h (quiet _ _ (λ token. (refl, refl)))
ready_tells phase.SuperHandle r s h = of_state s _ false false _ h.1 (tells_super r.table.chains r.layers (moment_of r) r.frames h.0).1
ready_tells phase.TextHandle r s h = of_state s _ false false _ h.2 (quiet _ _ (λ token. (refl, refl)))
ready_tells phase.Length2 r s h = of_state s _ false false _ h.1 (tells_text r r.text false (text_rest r r.text) (suc (length r.frames)))
ready_tells phase.Length8 r s h = of_state s _ false false _ h.2 (tells_text r r.text true (text_rest r r.text) (suc (length r.frames)))
ready_tells phase.Text r s h = absurd h
ready_tells phase.Suid r s h = of_state s _ false false _ h (quiet _ _ (λ token. (refl, refl)))
ready_tells phase.Flags r s h = of_state s _ false false _ h.1 (quiet _ _ (λ token. (refl, refl)))
ready_tells phase.FieldCount r s h = of_state s _ false false _ h.1 (quiet _ _ (λ token. (refl, refl)))
ready_tells phase.TypeCode r s h = of_state s _ false false _ h.2 (tells_fields r r.header.fields (suc (length r.frames)))
ready_tells phase.InterfaceCount r s h = of_state s _ false false _ h.1 (quiet _ _ (λ token. (refl, refl)))
ready_tells phase.ArrayLength r s h = of_state s _ false false _ h.is (quiet _ _ (λ token. (refl, refl)))
ready_tells phase.BlockLength1 r s h = of_state s _ false false _ h (quiet _ _ (λ token. (refl, refl)))
ready_tells phase.BlockLength4 r s h = of_state s _ false false _ h (quiet _ _ (λ token. (refl, refl)))
ready_tells phase.Prims r s h = of_state s _ false false _ h.is (quiet _ _ (λ token. (refl, refl)))
ready_tells phase.Bytes r s h = of_state s _ false false _ h.is (quiet _ _ (λ token. (refl, refl)))
ready_tells phase.Cut r s h = absurd h
ready_tells phase.Stopped r s h = absurd h

-- the tags with which counts change have one byte, so that none of them is cut
cut_inside : (p : Phase) → 1 < size_of_phase p → (is_top p ≡ false) × (may_count p ≡ false)
cut_inside phase.Top h = absurd (omega arith)
cut_inside phase.Note h = absurd (omega arith)
cut_inside phase.Value h = absurd (omega arith)
cut_inside phase.SuperTag h = absurd (omega arith)
cut_inside phase.Stopped h = absurd (omega arith)
cut_inside _ h = (refl, refl)

stands_tells : (p : Phase) (r : Seen) (s : State) (cut : List ℕ) → StandsAt p r s cut → Tells s (is_top p) (may_count p) (suc (length r.frames))
stands_tells phase.Text r s cut h = of_state s _ false false _ h.is (tells_text r r.text h.long (text_rest r r.text) (suc (length r.frames)))
stands_tells phase.Prims r s cut h = of_state s _ false false _ h.is (quiet _ _ (λ token. (refl, refl)))
stands_tells phase.Bytes r s cut h = of_state s _ false false _ h.is (quiet _ _ (λ token. (refl, refl)))
stands_tells phase.Cut r s cut h =
    let some = h.some in
    let short = h.short in
    let e = cut_inside r.meter.cut_phase (omega arith) in
    subst (λ b. Tells s b false (suc (length r.frames))) e.0
    (subst (λ b. Tells s (is_top r.meter.cut_phase) b (suc (length r.frames))) e.1 (ready_tells r.meter.cut_phase r s h.ready))
stands_tells phase.Stopped r s cut h = absurd h
stands_tells p r s cut h = ready_tells p r s h.0

pub tells_is : (gate : Gate) (r : Seen) (s : State) (cut : List ℕ) (token : StreamToken) → Stands gate r s cut
    → AreTold (label_of s).position (label_of s).depth (is_top r.phase) (may_count r.phase) (suc (length r.frames)) token
tells_is gate r s cut token st = (stands_tells r.phase r s cut st.stands).told token

-- a tag with which counts may change, whole
whole_tag : (p : Phase) (r : Seen) (s : State) (cut : List ℕ) → may_count p ≡ true → StandsAt p r s cut → cut ≡ []
whole_tag phase.Top r s cut e h = h.1
whole_tag phase.Note r s cut e h = h.1
whole_tag phase.Value r s cut e h = h.1
whole_tag phase.SuperTag r s cut e h = h.1
whole_tag phase.Stopped r s cut e h = absurd h
whole_tag _ r s cut e h = absurd (cc)

one_byte : (xs : List ℕ) → length xs ≡ 1 → xs ≡ get_or xs 0 0 ∷ []
one_byte [] e = absurd (omega arith)
one_byte (x ∷ []) e = refl
one_byte (x ∷ y ∷ xs) e = absurd (omega arith)

-- the byte that was taken is the token
pub tag_is : (gate : Gate) (r : Seen) (s : State) (cut taken : List ℕ) (token : StreamToken) → Stands gate r s cut → may_count r.phase ≡ true
    → Accepts (label_of s) token → cut ++ taken ≡ bytes_of token → size_in (label_of s).position (cut ++ taken) ≡ length (cut ++ taken)
    → tag_from (get_or taken 0 0) ≡ Some token
tag_is gate r s cut taken token st e a spelled size =
    let x = (stands_tells r.phase r s cut st.stands).tag e in
    let none : cut ≡ [] = whole_tag r.phase r s cut e st.stands in
    let is : cut ++ taken ≡ taken = ap (λ c. c ++ taken) none in
    let one : length taken ≡ 1 = sym (ap length is) ∙ sym size ∙ x.size (cut ++ taken) in
    let b : bytes_of token ≡ get_or taken 0 0 ∷ [] = sym spelled ∙ is ∙ one_byte taken one in
    sym (x.found (get_or taken 0 0)) ∙ ap (token_in (label_of s).position) (sym b) ∙ (whole (label_of s).position (label_of s).moment token a).found
