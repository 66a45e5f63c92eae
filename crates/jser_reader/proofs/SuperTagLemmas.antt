-- The tag of a superclass place.
use Rattle.std.proofs.Common.{◌≡◌, ℕ, suc, ◌-◌, Bool, true, false, not, ◌&&◌, List, [], ◌∷◌, length, slice_get, Option, Some, None, option_map, is_some, IsTrue, refl, sym, ◌∙◌, ap, subst, arith}
use Rattle.std.proofs.lemmas.Bool.Decides.{nat_tests}
use Rattle.std.specs.Option.{ForSome}
use Rattle.jser_table.specs.Chains.{all_serial, chain_in}
use Rattle.jser_table.specs.Entries.{TableEntry, closed_entry, is_closed, chain_at, chain_of}
use Rattle.jser_table.specs.Tables.{TableView}
use Rattle.jser_reading.specs.Labels.{superclass_place_at}
use Rattle.jser_reading.specs.TokensFromBytes.{tag_from}
use Rattle.jser_reading.specs.Roles.{ChainOwner}
use Rattle.jser_reading.specs.Goals.{State}
use Rattle.jser_verdict.specs.Reasons.{Reason, bad_tag, not_serializable, handle_space}
use Rattle.jser_verdict.specs.TagRows.{is_known_tag}
use Rattle.jser_verdict.specs.HandleRows.{entry_named}
use Rattle.jser_verdict.specs.ClassRows.{is_unserial_superclass}
use Rattle.jser_verdict.specs.Verdicts.{told_if, other_tag_reason}
use Rattle.jser_reader.specs.declared.machine.flow.Flow.{Flow}
use Rattle.jser_reader.specs.declared.machine.flow.Flow.TheVariants as flow
use Rattle.jser_reader.specs.declared.phase.Phase.TheVariants as phase
use Rattle.jser_reader.specs.declared.refusal.Reason.{Reason as CodeReason}
use Rattle.jser_reader.specs.Reasons.{named}
use Rattle.jser_reader.specs.Readers.{Seen, Ready}
use Rattle.jser_reader.specs.Handlers.{StopsWith, refusal, Tells, IsNext, counted, is_full, plain_gate, label_at, opens_class, opens_proxy, CountsPlace}
use Rattle.jser_reader.specs.Closing.{closed_state, closing_reason}
use Rattle.jser_reader.proofs.EndLemmas.{next_is, tells_next, tells_refusal}
use Rattle.jser_reader.proofs.RuleLemmas.{closed_first, is_closed_at, is_named, tells_first}
use Rattle.jser_reader.proofs.PlaceLemmas.{not_counted, after_count, is_counted}
use Rattle.jser_table.specs.declared.layer.Layer.{Layer}
use Rattle.jser_table.specs.Chains.{is_externalizable}
use Rattle.jser_reader.specs.declared.frame.Frame.{Frame}
use Rattle.jser_reader.specs.declared.frame.Frame.TheVariants as frame
use Rattle.jser_reader.specs.declared.frame.Owner.TheVariants as owner
use Rattle.jser_reader.specs.declared.frame.Role.TheVariants as role
use Rattle.jser_reader.specs.Stacks.{tail_of}
use Rattle.jser_reader.specs.Fitting.{IsDescriptor, HasDescriptor}
use Rattle.jser_reader.specs.Frames.{head_layer, chain_owner}
use Rattle.jser_reader.specs.Superclasses.{strict_in, super_reason, super_handle_reason, after_super_tag}
use Rattle.jser_reader.specs.Rules.{with_closed, with_limits, IsClosed}

pub strict_none : (L : List Layer) (frames : List Frame) → frames ≡ [] → false ≡ strict_in L frames
strict_none L frames e = sym (ap (strict_in L) e)

pub strict_other : (L : List Layer) (frames : List Frame) (f : Frame) → frames ≡ f ∷ tail_of frames → (IsDescriptor f → ⊥) → false ≡ strict_in L frames
strict_other L frames f e none = sym (ap (strict_in L) e ∙ go f none)
  where
    go : (f : Frame) → (IsDescriptor f → ⊥) → strict_in L (f ∷ tail_of frames) ≡ false
    go (frame.Descriptor number w) none = absurd (none tt)
    go (frame.Elements left) none = refl
    go (frame.Fields last section pos prims values) none = refl
    go (frame.Notes last section) none = refl
    go frame.ExternalNotes none = refl

pub strict_value : (L : List Layer) (frames : List Frame) (number : ℕ) → frames ≡ frame.Descriptor number role.Value ∷ tail_of frames → false ≡ strict_in L frames
strict_value L frames number e = sym (ap (strict_in L) e)

pub strict_object : (L : List Layer) (frames : List Frame) (number : ℕ) → frames ≡ frame.Descriptor number (role.ClassOf owner.Object) ∷ tail_of frames → not (is_externalizable (head_layer L).flags) ≡ strict_in L frames
strict_object L frames number e = sym (ap (strict_in L) e)

pub strict_array : (L : List Layer) (frames : List Frame) (number : ℕ) → frames ≡ frame.Descriptor number (role.ClassOf owner.Array) ∷ tail_of frames → false ≡ strict_in L frames
strict_array L frames number e = sym (ap (strict_in L) e)

pub strict_enum : (L : List Layer) (frames : List Frame) (number : ℕ) → frames ≡ frame.Descriptor number (role.ClassOf owner.EnumConst) ∷ tail_of frames → false ≡ strict_in L frames
strict_enum L frames number e = sym (ap (strict_in L) e)

pub strict_class : (L : List Layer) (frames : List Frame) (number : ℕ) → frames ≡ frame.Descriptor number (role.ClassOf owner.ClassObject) ∷ tail_of frames → false ≡ strict_in L frames
strict_class L frames number e = sym (ap (strict_in L) e)

pub strict_super : (L : List Layer) (frames : List Frame) (number : ℕ) (strict : Bool) → frames ≡ frame.Descriptor number (role.Superclass strict) ∷ tail_of frames → strict ≡ strict_in L frames
strict_super L frames number strict e = sym (ap (strict_in L) e)

-- reasons at the tags that may stand there

none_reason : (r : Seen) → super_reason r 0x70 ≡ with_limits r (closing_reason r)
unfolding tag_from
none_reason r = go (chain_owner r.frames)
  where
    go : (o : ChainOwner) → other_tag_reason (plain_gate r) (label_at (superclass_place_at o (strict_in r.layers r.frames)) (suc (length r.frames)) r) 0x70
        ≡ with_limits r (told_if (is_some o && is_full r) handle_space None)
    go None = refl
    go (Some w) = refl

back_reason : (r : Seen) → super_reason r 0x71 ≡ with_limits r None
unfolding tag_from
back_reason r = go (chain_owner r.frames)
  where
    go : (o : ChainOwner) → other_tag_reason (plain_gate r) (label_at (superclass_place_at o (strict_in r.layers r.frames)) (suc (length r.frames)) r) 0x71 ≡ with_limits r None
    go None = refl
    go (Some w) = refl

plain_reason : (r : Seen) → super_reason r 0x72 ≡ with_limits r None
unfolding tag_from
plain_reason r = go (chain_owner r.frames)
  where
    go : (o : ChainOwner) → other_tag_reason (plain_gate r) (label_at (superclass_place_at o (strict_in r.layers r.frames)) (suc (length r.frames)) r) 0x72 ≡ with_limits r None
    go None = refl
    go (Some w) = refl

proxy_reason : (r : Seen) → super_reason r 0x7D ≡ with_limits r (told_if (is_full r) handle_space None)
unfolding tag_from
proxy_reason r = go (chain_owner r.frames)
  where
    go : (o : ChainOwner) → other_tag_reason (plain_gate r) (label_at (superclass_place_at o (strict_in r.layers r.frames)) (suc (length r.frames)) r) 0x7D
        ≡ with_limits r (told_if (is_full r) handle_space None)
    go None = refl
    go (Some w) = refl

fails : (r : Reason) (k : Option Reason) (told : Option Reason) (b found : Flow) (s : State) (old new : Seen) → told ≡ with_limits old k → CountsPlace b old new → b ≡ flow.Stopped → found ≡ flow.Stopped → Tells told s found old new
fails r k told b found s old new e h eb ef = subst (λ t. Tells t s found old new) (sym e) (not_counted b found k s old new h eb ef)

pub null_fails : (b found : Flow) (s : State) (old new : Seen) → CountsPlace b old new → b ≡ flow.Stopped → found ≡ flow.Stopped → Tells (super_reason old 0x70) s found old new
null_fails b found s old new h eb ef = fails handle_space (closing_reason old) (super_reason old 0x70) b found s old new (none_reason old) h eb ef

pub back_fails : (b found : Flow) (s : State) (old new : Seen) → CountsPlace b old new → b ≡ flow.Stopped → found ≡ flow.Stopped → Tells (super_reason old 0x71) s found old new
back_fails b found s old new h eb ef = fails handle_space None (super_reason old 0x71) b found s old new (back_reason old) h eb ef

pub plain_fails : (b found : Flow) (s : State) (old new : Seen) → CountsPlace b old new → b ≡ flow.Stopped → found ≡ flow.Stopped → Tells (super_reason old 0x72) s found old new
plain_fails b found s old new h eb ef = fails handle_space None (super_reason old 0x72) b found s old new (plain_reason old) h eb ef

pub proxy_fails : (b found : Flow) (s : State) (old new : Seen) → CountsPlace b old new → b ≡ flow.Stopped → found ≡ flow.Stopped → Tells (super_reason old 0x7D) s found old new
proxy_fails b found s old new h eb ef = fails handle_space (told_if (is_full old) handle_space None) (super_reason old 0x7D) b found s old new (proxy_reason old) h eb ef

pub null_closes : (b found : Flow) (old mid new : Seen) → CountsPlace b old mid → b ≡ flow.On → (HasDescriptor mid.frames → Tells (closing_reason mid) (closed_state mid None) found mid new)
    → HasDescriptor old.frames → Tells (super_reason old 0x70) (after_super_tag old (tag_from 0x70)) found old new
unfolding tag_from
null_closes b found old mid new h eb k d =
    let c = is_counted b old mid h eb in
    let told : Tells (closing_reason mid) (closed_state mid None) found mid new = k (subst (λ r. HasDescriptor r.frames) (sym c) d) in
    let here : Tells (closing_reason old) (closed_state (counted old) None) found mid new = subst (λ r. Tells (closing_reason r) (closed_state r None) found mid new) c told in
    subst (λ t. Tells t (closed_state (counted old) None) found old new) (sym (none_reason old)) (after_count b found (closing_reason old) (closed_state (counted old) None) old mid new h eb here)

pub back_goes : (b found : Flow) (old mid new : Seen) → CountsPlace b old mid → b ≡ flow.On → IsNext phase.SuperHandle mid.owner mid.elements mid.header mid.text mid new → found ≡ flow.On
    → HasDescriptor old.frames → Tells (super_reason old 0x71) (after_super_tag old (tag_from 0x71)) found old new
unfolding tag_from Ready
back_goes b found old mid new h eb n ef d =
    let c = is_counted b old mid h eb in
    let ready : Ready new (after_super_tag old (tag_from 0x71)) = rw (next_is phase.SuperHandle mid.owner mid.elements mid.header mid.text mid new n) (rw c (d, refl)) in
    let here = tells_next None (after_super_tag old (tag_from 0x71)) found mid new (record { ready = ready; meter = n.meter; max = ap (λ t. t.max) n.table }) ef refl in
    subst (λ t. Tells t (after_super_tag old (tag_from 0x71)) found old new) (sym (back_reason old)) (after_count b found None (after_super_tag old (tag_from 0x71)) old mid new h eb here)

pub plain_goes : (b found : Flow) (strict : Bool) (old mid new : Seen) → CountsPlace b old mid → b ≡ flow.On → Tells None (opens_class mid (role.Superclass strict)) found mid new → strict ≡ strict_in mid.layers mid.frames
    → Tells (super_reason old 0x72) (after_super_tag old (tag_from 0x72)) found old new
unfolding tag_from
plain_goes b found strict old mid new h eb k es =
    let c = is_counted b old mid h eb in
    let here : Tells None (opens_class (counted old) (role.Superclass (strict_in old.layers old.frames))) found mid new =
    subst (λ r. Tells None (opens_class r (role.Superclass (strict_in r.layers r.frames))) found mid new) c (subst (λ w. Tells None (opens_class mid (role.Superclass w)) found mid new) es k) in
    subst (λ t. Tells t (after_super_tag old (tag_from 0x72)) found old new) (sym (plain_reason old)) (after_count b found None (after_super_tag old (tag_from 0x72)) old mid new h eb here)

pub proxy_goes : (b found : Flow) (strict : Bool) (old mid new : Seen) → CountsPlace b old mid → b ≡ flow.On → Tells (told_if (is_full mid) handle_space None) (opens_proxy mid (role.Superclass strict)) found mid new
    → strict ≡ strict_in mid.layers mid.frames → Tells (super_reason old 0x7D) (after_super_tag old (tag_from 0x7D)) found old new
unfolding tag_from
proxy_goes b found strict old mid new h eb k es =
    let c = is_counted b old mid h eb in
    let here : Tells (told_if (is_full old) handle_space None) (opens_proxy (counted old) (role.Superclass (strict_in old.layers old.frames))) found mid new =
    subst (λ r. Tells (told_if (is_full r) handle_space None) (opens_proxy r (role.Superclass (strict_in r.layers r.frames))) found mid new) c
    (subst (λ w. Tells (told_if (is_full mid) handle_space None) (opens_proxy mid (role.Superclass w)) found mid new) es k) in
    subst (λ t. Tells t (after_super_tag old (tag_from 0x7D)) found old new) (sym (proxy_reason old)) (after_count b found (told_if (is_full old) handle_space None) (after_super_tag old (tag_from 0x7D)) old mid new h eb here)

-- tags that are refused

not_known : (b : ℕ) (o : ChainOwner) (s : Bool) → (b ≡ 0x70 → ⊥) → (b ≡ 0x71 → ⊥) → (b ≡ 0x72 → ⊥) → (b ≡ 0x7D → ⊥) → is_known_tag (superclass_place_at o s) b ≡ false
not_known b o s null reference class proxy = grind (arith, nat_tests)

pub no_super_tag : (b : ℕ) (s : State) (found : Flow) (old new : Seen) → (b ≡ 0x70 → ⊥) → (b ≡ 0x71 → ⊥) → (b ≡ 0x72 → ⊥) → (b ≡ 0x7D → ⊥)
    → StopsWith (refusal old.meter (named bad_tag)) old new → found ≡ flow.Stopped → Tells (super_reason old b) s found old new
no_super_tag b s found old new null reference class proxy h ef =
    let k = not_known b (chain_owner old.frames) (strict_in old.layers old.frames) null reference class proxy in
    tells_refusal bad_tag (super_reason old b) s found old new h ef (rw k refl)

-- handles

-- the reasons of a closed class
abbrev rest_reason : Seen → Option TableEntry → Option Reason
rest_reason r e = told_if (is_unserial_superclass (strict_in r.layers r.frames) e) not_serializable (closing_reason r)

at_closed : (r : Seen) (n chain : ℕ) → IsClosed r.table n chain → super_handle_reason r n ≡ rest_reason r (Some (closed_entry (chain_in r.table.chains chain)))
at_closed r n chain c =
    is_closed_at r.table n chain (rest_reason r (entry_named r.table.entries n)) c
    ∙ ap (rest_reason r) (is_named r.table.entries n (closed_entry (chain_in r.table.chains chain)) c.low c.is_class.0).1

pub wrong_super : (n : ℕ) (why : CodeReason) (s : State) (found : Flow) (old new : Seen) → Some why ≡ option_map named (with_closed old.table n None)
    → StopsWith (refusal old.meter why) old new → found ≡ flow.Stopped → Tells (super_handle_reason old n) s found old new
wrong_super n why s found old new e h ef =
    tells_first (with_closed old.table n None) (super_handle_reason old n) why s found old new e (closed_first old.table n (rest_reason old (entry_named old.table.entries n))) h ef

by_strict : (r : Seen) (chain : List Layer) → strict_in r.layers r.frames ≡ true → all_serial chain ≡ false → rest_reason r (Some (closed_entry chain)) ≡ Some not_serializable
by_strict r chain strict unserial = rw strict (rw unserial refl)

by_loose : (r : Seen) (chain : List Layer) (strict serial : Bool) → strict_in r.layers r.frames ≡ strict → all_serial chain ≡ serial → (strict && not serial) ≡ false → rest_reason r (Some (closed_entry chain)) ≡ closing_reason r
by_loose r chain false serial es ea e = rw es refl
by_loose r chain true true es ea e = rw es (rw ea refl)
by_loose r chain true false es ea e = absurd (cc)

pub unserial_super : (n chain : ℕ) (s : State) (found : Flow) (old new : Seen) → StopsWith (refusal old.meter (named not_serializable)) old new → found ≡ flow.Stopped
    → IsClosed old.table n chain
    → strict_in old.layers old.frames ≡ true → all_serial (chain_at old.table.entries (n - 0x7E0000)) ≡ false → Tells (super_handle_reason old n) s found old new
unserial_super n chain s found old new h ef c strict unserial =
    let e = at_closed old n chain c in
    let chain_is : all_serial (chain_in old.table.chains chain) ≡ false = sym (ap (λ x. all_serial (chain_of x)) c.is_class.0) ∙ unserial in
    tells_refusal not_serializable (super_handle_reason old n) s found old new h ef (e ∙ by_strict old (chain_in old.table.chains chain) strict chain_is)

pub right_super : (n chain : ℕ) (found : Flow) (old new : Seen) → (HasDescriptor old.frames → Tells (closing_reason old) (closed_state old (Some (n - 0x7E0000))) found old new)
    → IsClosed old.table n chain
    → (strict_in old.layers old.frames && not (all_serial (chain_at old.table.entries (n - 0x7E0000)))) ≡ false
    → HasDescriptor old.frames → Tells (super_handle_reason old n) (closed_state old (Some (n - 0x7E0000))) found old new
right_super n chain found old new h c e d =
    let ch = chain_in old.table.chains chain in
    let at = at_closed old n chain c in
    let same : chain_at old.table.entries (n - 0x7E0000) ≡ ch = ap chain_of c.is_class.0 in
    let loose : (strict_in old.layers old.frames && not (all_serial ch)) ≡ false = sym (ap (λ c. strict_in old.layers old.frames && not (all_serial c)) same) ∙ e in
    subst (λ k. Tells k (closed_state old (Some (n - 0x7E0000))) found old new)
    (sym (at ∙ by_loose old ch (strict_in old.layers old.frames) (all_serial ch) refl refl loose)) (h d)

pub is_read : (t : TableView) (n chain : ℕ) → IsClosed t n chain → ForSome (Some (n - 0x7E0000)) (λ p. IsTrue (is_closed (slice_get t.entries p)))
is_read t n chain c = λ k e. subst (λ p. IsTrue (is_closed (slice_get t.entries p))) (let same : n - 0x7E0000 ≡ k = cc in same) (ap is_closed c.is_class.0)
