-- The flags, the fields and the interfaces of a descriptor, and what comes after the last one.
use Rattle.std.proofs.Common.{◌≡◌, ℕ, zero, suc, ◌-◌, ◌^◌, ◌<◌, ◌≤◌, Bool, true, false, ◌&&◌, ◌||◌, nat_le, List, [], ◌∷◌, ◌++◌, length, reverse, Option, Some, None, option_map, refl, sym, ◌∙◌, ap, subst, arith, append_assoc, append-nil}
use Rattle.std.proofs.lemmas.Bool.Decides.{nat_tests}
use Rattle.std.proofs.lemmas.List.{reverse-append, reverse-reverse}
use Rattle.jser_table.specs.declared.layer.Layer.{Layer}
use Rattle.jser_table.specs.declared.layer.LayerKind.{LayerKind}
use Rattle.jser_table.specs.Chains.{is_serializable, is_externalizable}
use Rattle.jser_table.specs.Codes.{is_object_code}
use Rattle.jser_table.specs.Names.{layer_kind}
use Rattle.jser_grammar.specs.TableAfter.{proxy_layer}
use Rattle.jser_reading.specs.Goals.{State, Goal, field_count_goal, in_order, read_layer, settle, ending}
use Rattle.jser_verdict.specs.Reasons.{Reason, bad_flags, negative_length}
use Rattle.jser_verdict.specs.Rows.{are_bad_flags}
use Rattle.jser_verdict.specs.Verdicts.{told_if, flags_reason, count_reason, code_reason}
use Rattle.jser_reader.specs.declared.machine.flow.Flow.{Flow}
use Rattle.jser_reader.specs.declared.machine.flow.Flow.TheVariants as flow
use Rattle.jser_reader.specs.declared.frame.Frame.{Frame}
use Rattle.jser_reader.specs.declared.frame.Frame.TheVariants as frame
use Rattle.jser_reader.specs.declared.frame.Role.TheVariants as role
use Rattle.jser_reader.specs.declared.phase.Phase.TheVariants as phase
use Rattle.jser_reader.specs.declared.phase.TextFor.TheVariants as text
use Rattle.jser_reader.specs.declared.refusal.Stop.TheVariants as stop
use Rattle.jser_reader.specs.declared.refusal.Reason.{Reason as NamedReason}
use Rattle.jser_reader.specs.Fitting.{HasDescriptor}
use Rattle.jser_reader.specs.Reasons.{named}
use Rattle.jser_reader.specs.Frames.{head_layer, tail_layers, closed_goals}
use Rattle.jser_reader.specs.Readers.{Seen, HasNotes, Ready, moment_of, goals_of, top_role, top_number, name_kind_of, opened_goals, fields_goals, interfaces_goals, field_count_state}
use Rattle.jser_reader.specs.Handlers.{StopsWith, refusal, moved, Comes, Tells, TellsSurely, IsNext}
use Rattle.jser_reader.specs.Descriptors.{SetsLayer, GoesOnFields, GoesOnInterfaces, role_reason, after_field_count, after_code, after_interfaces}
use Rattle.jser_reader.proofs.EndLemmas.{next_is, tells_next, tells_refusal, tells_from}
use Rattle.jser_reader.proofs.StandLemmas.{tells_surely}

-- what comes after a descriptor does not depend on its own layer

opened_below : (C : List (List Layer)) (L M : List Layer) (fs : List Frame) → tail_layers L ≡ tail_layers M → opened_goals C L fs ≡ opened_goals C M fs
opened_below C L M [] e = refl
opened_below C L M (frame.Descriptor number role ∷ fs) e = ap (λ ls. closed_goals C ls fs role number) e
opened_below C L M (frame.Elements left ∷ fs) e = refl
opened_below C L M (frame.Fields last section pos prims values ∷ fs) e = refl
opened_below C L M (frame.Notes last section ∷ fs) e = refl
opened_below C L M (frame.ExternalNotes ∷ fs) e = refl

-- the reason that the code found is the one that is told

pub told_refusal : (reason : NamedReason) (told : Option Reason) (s : State) (b : Flow) (old new : Seen) → StopsWith (refusal old.meter reason) old new → b ≡ flow.Stopped
    → Some reason ≡ option_map named told → Tells told s b old new
told_refusal reason None s b old new h e et = absurd (cc)
told_refusal reason (Some k) s b old new h e et =
    let same : reason ≡ named k = cc in
    tells_refusal k (Some k) s b old new (record { phase = h.phase; stop = h.stop ∙ ap (refusal old.meter) same }) e refl

not_told : (told : Option Reason) → None ≡ option_map named told → told ≡ None
not_told None e = refl
not_told (Some k) e = absurd (cc)

-- flags

pub high_flags : (flags : ℕ) (b : Flow) (old new : Seen) → StopsWith (refusal old.meter (named bad_flags)) old new → b ≡ flow.Stopped → 32 ≤ flags
    → HasDescriptor old.frames → Tells (flags_reason (top_role old.frames) flags) (field_count_state old flags) b old new
high_flags flags b old new h e le d =
    let bad : nat_le 32 flags ≡ true = grind (arith, nat_tests) in
    tells_refusal bad_flags (flags_reason (top_role old.frames) flags) (field_count_state old flags) b old new h e
    (ap (λ k. told_if (k || (is_serializable flags && is_externalizable flags)) bad_flags (role_reason (top_role old.frames) flags)) bad)

pub both_flags : (flags : ℕ) (b : Flow) (old mid new : Seen) → StopsWith (refusal mid.meter (named bad_flags)) mid new → b ≡ flow.Stopped → mid.meter ≡ old.meter
    → (is_serializable flags && is_externalizable flags) ≡ true
    → HasDescriptor old.frames → Tells (flags_reason (top_role old.frames) flags) (field_count_state old flags) b old new
both_flags flags b old mid new h e em both d =
    let stops : StopsWith (refusal old.meter (named bad_flags)) old new = record { phase = h.phase; stop = h.stop ∙ ap (λ m. refusal m (named bad_flags)) em } in
    tells_refusal bad_flags (flags_reason (top_role old.frames) flags) (field_count_state old flags) b old new stops e (go (nat_le 32 flags))
  where
    go : (k : Bool) → told_if (k || (is_serializable flags && is_externalizable flags)) bad_flags (role_reason (top_role old.frames) flags) ≡ Some bad_flags
    go true = refl
    go false = ap (λ k. told_if k bad_flags (role_reason (top_role old.frames) flags)) both

-- the flags are sound but for the role
sound_flags : (flags : ℕ) (others : Option Reason) → (32 ≤ flags → ⊥) → (is_serializable flags && is_externalizable flags) ≡ false
    → told_if (are_bad_flags flags) bad_flags others ≡ others
sound_flags flags others low both =
    let few : nat_le 32 flags ≡ false = grind (arith, nat_tests) in
    ap (λ k. told_if (k || (is_serializable flags && is_externalizable flags)) bad_flags others) few ∙ ap (λ k. told_if k bad_flags others) both

pub flags_fault : (flags : ℕ) (reason : NamedReason) (b : Flow) (old mid new : Seen) → StopsWith (refusal mid.meter reason) mid new → b ≡ flow.Stopped
    → Some reason ≡ option_map named (role_reason (top_role mid.frames) (head_layer mid.layers).flags)
    → mid.meter ≡ old.meter → mid.frames ≡ old.frames → (head_layer mid.layers).flags ≡ flags
    → (32 ≤ flags → ⊥) → (is_serializable flags && is_externalizable flags) ≡ false
    → HasDescriptor old.frames → Tells (flags_reason (top_role old.frames) flags) (field_count_state old flags) b old new
flags_fault flags reason b old mid new h e told em ef el low both d =
    let here : role_reason (top_role mid.frames) (head_layer mid.layers).flags ≡ role_reason (top_role old.frames) flags =
    ap (λ fs. role_reason (top_role fs) (head_layer mid.layers).flags) ef ∙ ap (role_reason (top_role old.frames)) el in
    let stops : StopsWith (refusal old.meter reason) old new = record { phase = h.phase; stop = h.stop ∙ ap (λ m. refusal m reason) em } in
    told_refusal reason (flags_reason (top_role old.frames) flags) (field_count_state old flags) b old new stops e
    (told ∙ ap (option_map named) (here ∙ sym (sound_flags flags (role_reason (top_role old.frames) flags) low both)))

pub flags_go : (flags : ℕ) (b : Flow) (old mid new : Seen) → IsNext phase.FieldCount mid.owner mid.elements mid.header mid.text mid new → b ≡ flow.On
    → None ≡ option_map named (role_reason (top_role mid.frames) (head_layer mid.layers).flags)
    → mid.meter ≡ old.meter → mid.frames ≡ old.frames → mid.table ≡ old.table → mid.refs ≡ old.refs → mid.header ≡ old.header
    → (head_layer mid.layers).flags ≡ flags → tail_layers mid.layers ≡ tail_layers old.layers
    → (32 ≤ flags → ⊥) → (is_serializable flags && is_externalizable flags) ≡ false
    → HasDescriptor old.frames → Tells (flags_reason (top_role old.frames) flags) (field_count_state old flags) b old new
unfolding Ready
flags_go flags b old mid new n e told em ef et er eh el ey low both d =
    let here : role_reason (top_role mid.frames) (head_layer mid.layers).flags ≡ role_reason (top_role old.frames) flags =
    ap (λ fs. role_reason (top_role fs) (head_layer mid.layers).flags) ef ∙ ap (role_reason (top_role old.frames)) el in
    let goals : opened_goals old.table.chains old.layers old.frames ≡ opened_goals old.table.chains mid.layers old.frames =
    opened_below old.table.chains old.layers mid.layers old.frames (sym ey) in
    let ready : Ready new (field_count_state old flags) =
    rw (next_is phase.FieldCount mid.owner mid.elements mid.header mid.text mid new n) (rw ef (rw et (rw er (rw eh (d, rw el (ap (state_of) goals)))))) in
    tells_next (flags_reason (top_role old.frames) flags) (field_count_state old flags) b old new
    (record { ready = ready; meter = n.meter ∙ ap moved em; max = ap (λ t. t.max) (n.table ∙ et) }) e
    (sound_flags flags (role_reason (top_role old.frames) flags) low both ∙ not_told (role_reason (top_role old.frames) flags) (told ∙ ap (option_map named) here))
  where
    state_of : List Goal → State
    state_of goals = (
      moment_of old,
      field_count_goal (top_role old.frames) (length old.frames) (top_number old.frames) (name_kind_of old.header.kind) flags ∷ goals,
    )

-- the layer of a plain descriptor

order_is : (cs codes : List ℕ) → in_order cs codes ≡ reverse cs ++ codes
order_is [] codes = refl
order_is (c ∷ cs) codes =
    order_is cs (c ∷ codes) ∙ sym (ap (λ l. l ++ codes) (reverse-append (c ∷ []) cs) ∙ append_assoc (reverse cs) (c ∷ []) codes)

codes_in_order : (codes : List ℕ) → in_order (reverse codes) [] ≡ codes
codes_in_order codes = order_is (reverse codes) [] ∙ append-nil (reverse (reverse codes)) ∙ reverse-reverse codes

pub sets_layer : (old new : Seen) (kind : LayerKind) (codes : List ℕ) (flags : ℕ) → kind ≡ layer_kind (name_kind_of old.header.kind) → codes ≡ old.header.codes
    → flags ≡ (head_layer old.layers).flags → new.layers ≡ record { kind = kind; flags = flags; codes = codes } ∷ tail_layers old.layers
    → new.frames ≡ old.frames → new.table ≡ old.table → new.refs ≡ old.refs → new.meter ≡ old.meter
    → SetsLayer (read_layer (name_kind_of old.header.kind) (head_layer old.layers).flags (reverse old.header.codes)) old new
sets_layer old new kind codes flags ek ec ef el fr et er em =
    record {
      layers = el ∙ rw ek (rw ec (rw ef (ap (λ cs. record { kind = layer_kind (name_kind_of old.header.kind); flags = (head_layer old.layers).flags; codes = cs } ∷ tail_layers old.layers) (sym (codes_in_order old.header.codes)))));
      frames = fr;
      table = et;
      refs = er;
      meter = em;
    }

-- the annotation of a descriptor is what its frame stands for

goals_ending : (r : Seen) (fs : List Frame) (layer : Layer) → HasDescriptor fs → r.frames ≡ fs → r.layers ≡ layer ∷ tail_layers r.layers
    → ending (top_role r.frames) (length r.frames) (top_number r.frames) layer.flags layer (opened_goals r.table.chains r.layers r.frames) ≡ goals_of r
goals_ending r [] layer d e el = absurd d
goals_ending r (frame.Descriptor number role.Value ∷ fs) layer d e el = rw e (rw el refl)
goals_ending r (frame.Descriptor number (role.ClassOf o) ∷ fs) layer d e el = rw e (rw el refl)
goals_ending r (frame.Descriptor number (role.Superclass strict) ∷ fs) layer d e el = rw e (rw el refl)
goals_ending r (frame.Elements left ∷ fs) layer d e el = absurd d
goals_ending r (frame.Fields last section pos prims values ∷ fs) layer d e el = absurd d
goals_ending r (frame.Notes last section ∷ fs) layer d e el = absurd d
goals_ending r (frame.ExternalNotes ∷ fs) layer d e el = absurd d

notes_of : (fs : List Frame) → HasDescriptor fs → HasNotes fs
notes_of [] d = absurd d
notes_of (frame.Descriptor number role ∷ fs) d = tt
notes_of (frame.Elements left ∷ fs) d = absurd d
notes_of (frame.Fields last section pos prims values ∷ fs) d = absurd d
notes_of (frame.Notes last section ∷ fs) d = tt
notes_of (frame.ExternalNotes ∷ fs) d = tt

surely : (s : State) (b : Flow) (old new : Seen) → Comes old new s → b ≡ flow.On → TellsSurely None s b old new
unfolding TellsSurely
surely s b old new h e = rw e h

-- the layer is whole: the annotation comes next
ending_comes : (layer : Layer) (old mid new : Seen) → IsNext phase.Note mid.owner mid.elements mid.header mid.text mid new → SetsLayer layer old mid
    → HasDescriptor old.frames
    → Comes old new (moment_of old, ending (top_role old.frames) (length old.frames) (top_number old.frames) layer.flags layer (opened_goals old.table.chains old.layers old.frames))
unfolding Ready
ending_comes layer old mid new n h d =
    let el : mid.layers ≡ layer ∷ tail_layers mid.layers = h.layers ∙ ap (λ ls. layer ∷ ls) (sym (ap tail_layers h.layers)) in
    let dm : HasDescriptor mid.frames = subst HasDescriptor (sym h.frames) d in
    let goals : ending (top_role mid.frames) (length mid.frames) (top_number mid.frames) layer.flags layer (opened_goals mid.table.chains mid.layers mid.frames) ≡ goals_of mid =
    goals_ending mid mid.frames layer dm refl el in
    let below : opened_goals old.table.chains old.layers old.frames ≡ opened_goals old.table.chains mid.layers old.frames =
    opened_below old.table.chains old.layers mid.layers old.frames (sym (ap tail_layers h.layers)) in
    let same : (moment_of old, ending (top_role old.frames) (length old.frames) (top_number old.frames) layer.flags layer (opened_goals old.table.chains old.layers old.frames)) ≡ (moment_of mid, goals_of mid) =
    ap (λ gs. (moment_of old, ending (top_role old.frames) (length old.frames) (top_number old.frames) layer.flags layer gs)) below
    ∙ rw (← h.frames) (rw (← h.table) (rw (← h.refs) (ap (λ gs. (moment_of mid, gs)) goals))) in
    record {
      ready = rw (next_is phase.Note mid.owner mid.elements mid.header mid.text mid new n) (notes_of mid.frames dm, same);
      meter = n.meter ∙ ap moved h.meter;
      max = ap (λ t. t.max) (n.table ∙ h.table);
    }

-- fields

pub next_field : (b : Flow) (old new : Seen) → IsNext phase.TypeCode old.owner old.elements old.header old.text old new → b ≡ flow.On → 0 < old.header.fields
    → GoesOnFields b old new
unfolding Ready GoesOnFields
next_field b old new n e some = λ d.
    surely (settle (moment_of old) (fields_goals old old.header.fields)) b old new
    (record {
      ready = rw (next_is phase.TypeCode old.owner old.elements old.header old.text old new n) (d, some, go old.header.fields some);
      meter = n.meter;
      max = ap (λ t. t.max) n.table;
    }) e
  where
    go : (k : ℕ) → 0 < k → settle (moment_of old) (fields_goals old k) ≡ (moment_of old, fields_goals old k)
    go zero h = absurd (omega arith)
    go (suc k) h = refl

pub fields_end : (b : Flow) (old mid new : Seen) → IsNext phase.Note mid.owner mid.elements mid.header mid.text mid new → b ≡ flow.On
    → SetsLayer (read_layer (name_kind_of old.header.kind) (head_layer old.layers).flags (reverse old.header.codes)) old mid → old.header.fields ≡ 0
    → GoesOnFields b old new
unfolding GoesOnFields
fields_end b old mid new n e h none = λ d.
    let l = read_layer (name_kind_of old.header.kind) (head_layer old.layers).flags (reverse old.header.codes) in
    surely (settle (moment_of old) (fields_goals old old.header.fields)) b old new (subst (λ k. Comes old new (settle (moment_of old) (fields_goals old k))) (sym none) (ending_comes l old mid new n h d)) e

pub negative_count : (n : ℕ) (b : Flow) (old new : Seen) → StopsWith (refusal old.meter (named negative_length)) old new → b ≡ flow.Stopped → 0x8000 ≤ n
    → HasDescriptor old.frames → Tells (count_reason (2 ^ 15) n) (after_field_count old n) b old new
negative_count n b old new h e le d =
    let many : nat_le (2 ^ 15) n ≡ true = grind (arith, nat_tests) in
    tells_refusal negative_length (count_reason (2 ^ 15) n) (after_field_count old n) b old new h e (ap (λ k. told_if k negative_length None) many)

pub fields_begin : (n : ℕ) (b : Flow) (old mid new : Seen)
    → GoesOnFields b mid new
    → mid.meter ≡ old.meter → mid.frames ≡ old.frames → mid.layers ≡ old.layers → mid.table ≡ old.table → mid.refs ≡ old.refs
    → mid.header.kind ≡ old.header.kind → mid.header.seen ≡ false → mid.header.codes ≡ [] → mid.header.fields ≡ n → (0x8000 ≤ n → ⊥)
    → HasDescriptor old.frames → Tells (count_reason (2 ^ 15) n) (after_field_count old n) b old new
unfolding after_field_count GoesOnFields
fields_begin n b old mid new h em ef ey et er ek es ec en low d =
    let few : nat_le (2 ^ 15) n ≡ false = grind (arith, nat_tests) in
    let next = settle (moment_of mid) (fields_goals mid mid.header.fields) in
    let same : next ≡ after_field_count old n = rw ef (rw ey (rw et (rw er (rw ek (rw es (rw ec (rw en refl))))))) in
    subst (λ t. Tells t (after_field_count old n) b old new) (sym (ap (λ k. told_if k negative_length None) few))
    (tells_from None next (after_field_count old n) b old mid new (tells_surely None next b mid new (h (subst HasDescriptor (sym ef) d))) em (ap (λ t. t.max) et) same)

pub begins_field : (code : ℕ) (is_object : Bool) (b : Flow) (old mid new : Seen) → IsNext phase.Length2 mid.owner mid.elements mid.header (text.FieldName is_object) mid new → b ≡ flow.On
    → is_object ≡ is_object_code code → mid.meter ≡ old.meter → mid.frames ≡ old.frames → mid.layers ≡ old.layers → mid.table ≡ old.table → mid.refs ≡ old.refs
    → mid.header.kind ≡ old.header.kind
    → (0 < old.header.fields → (mid.header.codes ≡ old.header.codes ++ (code ∷ [])) × (mid.header.fields ≡ old.header.fields - 1) × (mid.header.seen ≡ (old.header.seen || is_object)))
    → HasDescriptor old.frames → 0 < old.header.fields → Tells None (after_code old code) b old new
unfolding after_code Ready
begins_field code is_object b old mid new n e eo em ef ey et er ek h d some =
    let last : reverse mid.header.codes ≡ code ∷ reverse old.header.codes = ap reverse (h some).0 ∙ reverse-append old.header.codes (code ∷ []) in
    let ready : Ready new (after_code old code) =
    rw (next_is phase.Length2 mid.owner mid.elements mid.header (text.FieldName is_object) mid new n)
    (rw ef (rw ey (rw et (rw er (rw ek (rw last (rw (h some).1 (rw (h some).2 (rw eo (d, refl)))))))))) in
    tells_next None (after_code old code) b old new (record { ready = ready; meter = n.meter ∙ ap moved em; max = ap (λ t. t.max) (n.table ∙ et) }) e refl

pub no_field : (code : ℕ) (b : Flow) (old mid new : Seen) → StopsWith stop.OutOfMemory mid new → b ≡ flow.Stopped
    → HasDescriptor old.frames → 0 < old.header.fields → Tells None (after_code old code) b old new
unfolding Tells
no_field code b old mid new h e d some = rw e (record { phase = h.phase; stop = h.stop })

pub wrong_code : (code : ℕ) (reason : NamedReason) (b : Flow) (old new : Seen) → StopsWith (refusal old.meter reason) old new → b ≡ flow.Stopped
    → Some reason ≡ option_map named (code_reason old.header.seen code)
    → HasDescriptor old.frames → 0 < old.header.fields → Tells (code_reason old.header.seen code) (after_code old code) b old new
wrong_code code reason b old new h e told d some =
    told_refusal reason (code_reason old.header.seen code) (after_code old code) b old new h e told

pub right_code : (code : ℕ) (b : Flow) (old new : Seen) → (HasDescriptor old.frames → 0 < old.header.fields → Tells None (after_code old code) b old new)
    → None ≡ option_map named (code_reason old.header.seen code)
    → HasDescriptor old.frames → 0 < old.header.fields → Tells (code_reason old.header.seen code) (after_code old code) b old new
right_code code b old new h told d some =
    subst (λ t. Tells t (after_code old code) b old new) (sym (not_told (code_reason old.header.seen code) told)) (h d some)

-- interfaces

pub next_interface : (b : Flow) (old new : Seen) → IsNext phase.Length2 old.owner old.elements old.header text.InterfaceName old new → b ≡ flow.On → 0 < old.header.interfaces
    → GoesOnInterfaces b old new
unfolding Ready GoesOnInterfaces
next_interface b old new n e some = λ d.
    surely (settle (moment_of old) (interfaces_goals old old.header.interfaces)) b old new
    (record {
      ready = rw (next_is phase.Length2 old.owner old.elements old.header text.InterfaceName old new n) (d, go old.header.interfaces some);
      meter = n.meter;
      max = ap (λ t. t.max) n.table;
    }) e
  where
    go : (k : ℕ) → 0 < k → settle (moment_of old) (interfaces_goals old k) ≡ (moment_of old, interfaces_goals old k)
    go zero h = absurd (omega arith)
    go (suc k) h = refl

pub interfaces_end : (b : Flow) (old mid new : Seen) → IsNext phase.Note mid.owner mid.elements mid.header mid.text mid new → b ≡ flow.On
    → mid.layers ≡ proxy_layer ∷ tail_layers old.layers → mid.frames ≡ old.frames → mid.table ≡ old.table → mid.refs ≡ old.refs → mid.meter ≡ old.meter
    → old.header.interfaces ≡ 0
    → GoesOnInterfaces b old new
unfolding GoesOnInterfaces
interfaces_end b old mid new n e el ef et er em none = λ d.
    surely (settle (moment_of old) (interfaces_goals old old.header.interfaces)) b old new
    (subst (λ k. Comes old new (settle (moment_of old) (interfaces_goals old k))) (sym none)
    (ending_comes proxy_layer old mid new n (record { layers = el; frames = ef; table = et; refs = er; meter = em }) d)) e

pub negative_interfaces : (n : ℕ) (b : Flow) (old new : Seen) → StopsWith (refusal old.meter (named negative_length)) old new → b ≡ flow.Stopped → 0x80000000 ≤ n
    → HasDescriptor old.frames → Tells (count_reason (2 ^ 31) n) (after_interfaces old n) b old new
negative_interfaces n b old new h e le d =
    let many : nat_le (2 ^ 31) n ≡ true = grind (arith, nat_tests) in
    tells_refusal negative_length (count_reason (2 ^ 31) n) (after_interfaces old n) b old new h e (ap (λ k. told_if k negative_length None) many)

pub interfaces_begin : (n : ℕ) (b : Flow) (old mid new : Seen)
    → GoesOnInterfaces b mid new
    → mid.meter ≡ old.meter → mid.frames ≡ old.frames → mid.layers ≡ old.layers → mid.table ≡ old.table → mid.refs ≡ old.refs
    → mid.header.interfaces ≡ n → (0x80000000 ≤ n → ⊥)
    → HasDescriptor old.frames → Tells (count_reason (2 ^ 31) n) (after_interfaces old n) b old new
unfolding after_interfaces GoesOnInterfaces
interfaces_begin n b old mid new h em ef ey et er en low d =
    let few : nat_le (2 ^ 31) n ≡ false = grind (arith, nat_tests) in
    let next = settle (moment_of mid) (interfaces_goals mid mid.header.interfaces) in
    let same : next ≡ after_interfaces old n = rw ef (rw ey (rw et (rw er (rw en refl)))) in
    subst (λ t. Tells t (after_interfaces old n) b old new) (sym (ap (λ k. told_if k negative_length None) few))
    (tells_from None next (after_interfaces old n) b old mid new (tells_surely None next b mid new (h (subst HasDescriptor (sym ef) d))) em (ap (λ t. t.max) et) same)
