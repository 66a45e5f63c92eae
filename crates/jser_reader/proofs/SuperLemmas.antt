-- The end of a descriptor, and of those round it.
use Rattle.std.proofs.Common.{◌≡◌, ℕ, zero, suc, ◌<◌, inl, inr, Bool, ◌&&◌, nat_le, List, [], ◌∷◌, ◌++◌, length, slice_get, slice_set, Option, Some, None, is_some, IsTrue, refl, sym, ◌∙◌, ap, ap₂, subst, arith}
use Rattle.std.specs.Option.{ForSome}
use Rattle.jser_table.specs.declared.layer.Layer.{Layer}
use Rattle.jser_table.specs.declared.class.Class.TheVariants as class
use Rattle.jser_table.specs.Chains.{chain_in}
use Rattle.jser_table.specs.Entries.{TableEntry, text_entry, other_entry, pending_entry, is_closed, is_pending, chain_at, chain_of, closed_entry}
use Rattle.jser_table.specs.Tables.{IsClass, parent_chain, closed_under}
use Rattle.jser_reading.specs.Moments.{closing}
use Rattle.jser_reading.specs.Goals.{settle, made_goal}
use Rattle.jser_verdict.specs.Reasons.{handle_space}
use Rattle.jser_verdict.specs.Verdicts.{told_if}
use Rattle.jser_reader.specs.declared.machine.flow.Flow.{Flow}
use Rattle.jser_reader.specs.declared.machine.flow.Flow.TheVariants as flow
use Rattle.jser_reader.specs.declared.frame.Frame.{Frame}
use Rattle.jser_reader.specs.declared.frame.Frame.TheVariants as frame
use Rattle.jser_reader.specs.declared.frame.Owner.{Owner}
use Rattle.jser_reader.specs.declared.frame.Owner.TheVariants as owner
use Rattle.jser_reader.specs.declared.frame.Role.{Role}
use Rattle.jser_reader.specs.declared.frame.Role.TheVariants as role
use Rattle.jser_reader.specs.Stacks.{tail_of}
use Rattle.jser_reader.specs.Fitting.{FramesFit, AllFit}
use Rattle.jser_reader.specs.Frames.{goal_owner, owner_in, head_layer, tail_layers, chain_owner, after_class, stack_goals, frame_goals, closed_goals}
use Rattle.jser_reader.specs.Readers.{Seen, moment_of, depth_of, goals_of, top_number}
use Rattle.jser_reader.specs.Steps.{after_value}
use Rattle.jser_reader.specs.Handlers.{Comes, Tells, is_full, object_state, owner_state, owner_state_at}
use Rattle.jser_reader.specs.Closing.{rest_layers, closed_at, closed_state, closing_reason, Closes, made_state, new_chain, ClosesTop, ClosesOne, PopsLayer, ClosingOn}
use Rattle.jser_reader.specs.declared.machine.supers.Closing.TheVariants as closing_is
use Rattle.jser_reader.proofs.EndLemmas.{tells_next, tells_from}
use Rattle.jser_reader.proofs.OwnerLemmas.{same_owner_state}
use Rattle.jser_reader.proofs.CloseLemmas.{goals_of_rest, goals_grow, closes}

-- a class that was closed
pub owner_found : (chain number : ℕ) (o : Owner) (b : Flow) (old mid new : Seen) → Tells (told_if (is_full mid) handle_space None) (owner_state mid (chain_in mid.table.chains chain)) b mid new
    → IsClass mid.table.chains (slice_get mid.table.entries number) (class.Closed chain)
    → mid.owner ≡ o → mid.frames ≡ old.frames → mid.layers ≡ old.layers → mid.table ≡ old.table → mid.refs ≡ old.refs → mid.meter ≡ old.meter
    → Tells (told_if (is_full old) handle_space None) (made_state old o (chain_at old.table.entries number)) b old new
unfolding owner_state made_state
owner_found chain number o b old mid new h t eo ef ey et er em =
    let ch = chain_in mid.table.chains chain in
    let same_chain : ch ≡ chain_at old.table.entries number = sym (ap chain_of t.0) ∙ ap (λ T. chain_at T.entries number) et in
    let same : owner_state mid ch ≡ owner_state_at o old (chain_at old.table.entries number) =
    ap (λ w. owner_state_at w mid ch) eo ∙ same_owner_state o ch old mid ef ey et er ∙ ap (owner_state_at o old) same_chain in
    let room : told_if (is_full mid) handle_space None ≡ told_if (is_full old) handle_space None =
    ap (λ T. told_if (nat_le T.max (length T.entries)) handle_space None) et in
    subst (λ k. Tells k (owner_state_at o old (chain_at old.table.entries number)) b old new) room
    (tells_from (told_if (is_full mid) handle_space None) (owner_state mid ch) (owner_state_at o old (chain_at old.table.entries number)) b old mid new h em (ap (λ T. T.max) et) same)

-- a closed entry is a class
closed_is : (T : List TableEntry) (n : ℕ) → IsTrue (is_closed (slice_get T n)) → (chain : List Layer) × (slice_get T n ≡ Some (closed_entry chain))
closed_is T n h = go (slice_get T n) h
  where
    go : (e : Option TableEntry) → IsTrue (is_closed e) → (chain : List Layer) × (e ≡ Some (closed_entry chain))
    go None h = absurd (cc)
    go (Some text_entry) h = absurd (cc)
    go (Some other_entry) h = absurd (cc)
    go (Some pending_entry) h = absurd (cc)
    go (Some (closed_entry chain)) h = (chain, refl)

pub not_there : (T : List TableEntry) (C : List (List Layer)) (n : ℕ) → IsTrue (is_closed (slice_get T n)) → IsClass C (slice_get T n) class.NotThere → ⊥
not_there T C n h t = let x = closed_is T n h in let e = x.1 in cc

pub not_class : (T : List TableEntry) (C : List (List Layer)) (n : ℕ) → IsTrue (is_closed (slice_get T n)) → IsClass C (slice_get T n) class.NoClass → ⊥
not_class T C n h (inl t) = let x = closed_is T n h in let e = x.1 in cc
not_class T C n h (inr t) = let x = closed_is T n h in let e = x.1 in cc

pub not_open : (T : List TableEntry) (C : List (List Layer)) (n : ℕ) → IsTrue (is_closed (slice_get T n)) → IsClass C (slice_get T n) class.Open → ⊥
not_open T C n h t = let x = closed_is T n h in let e = x.1 in cc

-- the descriptor on top has been closed: its entry, and what waited for it

get_set : (T : List TableEntry) (k : ℕ) (x : TableEntry) → k < length T → slice_get (slice_set T k x) k ≡ Some x
get_set [] k x h = absurd (omega arith)
get_set (e ∷ T) zero x h = refl
get_set (e ∷ T) (suc k) x h = get_set T k x (omega arith)

closed_by : (r : Seen) (parent : Option ℕ) (number : ℕ) (w : Role) → r.frames ≡ frame.Descriptor number w ∷ tail_of r.frames
    → closed_state r parent ≡ settle (closing (moment_of r) number (new_chain r parent)) (closed_goals r.table.chains (tail_layers r.layers) (tail_of r.frames) w number)
unfolding closed_state
closed_by r parent number w e = ap (closed_at r parent) e

-- the stack below, as it stands for goals after the closing
below : (old new : Seen) (parent : Option ℕ) (number : ℕ) (w : Role) → Closes parent old new → old.frames ≡ frame.Descriptor number w ∷ tail_of old.frames
    → FramesFit old.table.entries old.table.chains number (tail_of old.frames)
    → stack_goals new.table.chains new.layers new.frames ≡ stack_goals old.table.chains (tail_layers old.layers) (tail_of old.frames)
below old new parent number w c e fit =
    ap (λ C. stack_goals C new.layers new.frames) c.chains
    ∙ ap (λ ls. stack_goals (old.table.chains ++ (new_chain old parent ∷ [])) ls new.frames) c.layers
    ∙ ap (λ fs. stack_goals (old.table.chains ++ (new_chain old parent ∷ [])) (rest_layers old.layers) fs) c.frames
    ∙ goals_of_rest (old.table.chains ++ (new_chain old parent ∷ [])) old.layers (tail_of old.frames)
    ∙ goals_grow old.table.entries old.table.chains (new_chain old parent ∷ []) (tail_layers old.layers) number (tail_of old.frames) fit

moment_closed : (old new : Seen) (parent : Option ℕ) (number : ℕ) (w : Role) → Closes parent old new → old.frames ≡ frame.Descriptor number w ∷ tail_of old.frames
    → moment_of new ≡ closing (moment_of old) number (new_chain old parent)
moment_closed old new parent number w c e =
    let n : top_number old.frames ≡ number = ap top_number e in
    ap (λ T. record { table = T; places = new.refs }) (c.entries ∙ ap (λ k. slice_set old.table.entries k (closed_entry (new_chain old parent))) n)
    ∙ ap (λ k. record { table = slice_set old.table.entries number (closed_entry (new_chain old parent)); places = k }) c.refs

length_set : (T : List TableEntry) (n : ℕ) (x : TableEntry) → length (slice_set T n x) ≡ length T
length_set [] n x = refl
length_set (e ∷ T) zero x = refl
length_set (e ∷ T) (suc n) x = ap (λ n. suc n) (length_set T n x)

pending_within : (T : List TableEntry) (k : ℕ) → IsTrue (is_pending (slice_get T k)) → k < length T
pending_within [] k h = absurd (cc)
pending_within (e ∷ T) zero h = omega arith
pending_within (e ∷ T) (suc k) h = let l = pending_within T k h in omega arith

pub closes_top : (old new : Seen) (parent : Option ℕ) (number : ℕ) (w : Role) → Closes parent old new → old.frames ≡ frame.Descriptor number w ∷ tail_of old.frames
    → AllFit old.table.entries old.table.chains old.frames → ClosesTop number w parent old new
closes_top old new parent number w c e fit =
    let all : FramesFit old.table.entries old.table.chains (length old.table.entries) (frame.Descriptor number w ∷ tail_of old.frames) =
    subst (FramesFit old.table.entries old.table.chains (length old.table.entries)) e fit.all in
    let n : top_number old.frames ≡ number = ap top_number e in
    let entries : new.table.entries ≡ slice_set old.table.entries number (closed_entry (new_chain old parent)) =
    c.entries ∙ ap (λ k. slice_set old.table.entries k (closed_entry (new_chain old parent))) n in
    record {
      goals = below old new parent number w c e all.2;
      moment = moment_closed old new parent number w c e;
      entry = ap (λ T. slice_get T number) entries ∙ get_set old.table.entries number (closed_entry (new_chain old parent)) (pending_within old.table.entries number all.0);
      size = ap length entries ∙ length_set old.table.entries number (closed_entry (new_chain old parent));
      max = c.max;
      frames = c.frames;
      meter = c.meter;
    }

-- what follows, by the role

goes_by : (old mid : Seen) (parent : Option ℕ) (number : ℕ) (w : Role) → ClosesTop number w parent old mid → old.frames ≡ frame.Descriptor number w ∷ tail_of old.frames
    → closed_state old parent ≡ settle (moment_of mid) (closed_goals mid.table.chains mid.layers mid.frames w number)
goes_by old mid parent number w c e =
    closed_by old parent number w e
    ∙ ap (λ m. settle m (closed_goals old.table.chains (tail_layers old.layers) (tail_of old.frames) w number)) (sym c.moment)
    ∙ ap (λ fs. settle (moment_of mid) (after_class w (suc (length fs)) number (stack_goals old.table.chains (tail_layers old.layers) (tail_of old.frames)).inside (stack_goals old.table.chains (tail_layers old.layers) (tail_of old.frames)).above)) (sym c.frames)
    ∙ ap (λ g. settle (moment_of mid) (after_class w (suc (length mid.frames)) number g.inside g.above)) (sym c.goals)

same_room : (old mid : Seen) → length mid.table.entries ≡ length old.table.entries → mid.table.max ≡ old.table.max → is_full mid ≡ is_full old
same_room old mid e m = ap₂ nat_le m e

reason_by : (old : Seen) (number : ℕ) (w : Role) → old.frames ≡ frame.Descriptor number w ∷ tail_of old.frames
    → closing_reason old ≡ told_if (is_some (owner_in (chain_owner (tail_of old.frames)) w) && is_full old) handle_space None
reason_by old number w e = ap (λ fs. told_if (is_some (chain_owner fs) && is_full old) handle_space None) e

pub value_closed : (old mid new : Seen) (parent : Option ℕ) (number : ℕ) (b : Flow) → ClosesTop number role.Value parent old mid → old.frames ≡ frame.Descriptor number role.Value ∷ tail_of old.frames
    → Comes mid new (after_value mid) → b ≡ flow.On → ClosesOne (closing_is.Ended b) parent old new
unfolding ClosesOne after_value
value_closed old mid new parent number b c e h eb =
    let r : closing_reason old ≡ None = reason_by old number role.Value e in
    let k : Tells None (after_value mid) b mid new = tells_next None (after_value mid) b mid new h eb refl in
    subst (λ t. Tells t (closed_state old parent) b old new) (sym r)
    (tells_from None (after_value mid) (closed_state old parent) b old mid new k c.meter c.max (sym (goes_by old mid parent number role.Value c e)))

made_settles : (o : Owner) (r : Seen) (number : ℕ) → settle (moment_of r) (made_goal (goal_owner o) (depth_of r) number ∷ goals_of r) ≡ made_state r o (chain_at r.table.entries number)
unfolding made_state object_state
made_settles owner.Object r number = refl
made_settles owner.Array r number = refl
made_settles owner.EnumConst r number = refl
made_settles owner.ClassObject r number = refl

pub owner_closed : (old mid new : Seen) (parent : Option ℕ) (number : ℕ) (o : Owner) (b : Flow) → ClosesTop number (role.ClassOf o) parent old mid → old.frames ≡ frame.Descriptor number (role.ClassOf o) ∷ tail_of old.frames
    → Tells (told_if (is_full mid) handle_space None) (made_state mid o (chain_at mid.table.entries number)) b mid new → ClosesOne (closing_is.Ended b) parent old new
unfolding ClosesOne
owner_closed old mid new parent number o b c e h =
    let r : told_if (is_full mid) handle_space None ≡ closing_reason old =
    ap (λ f. told_if f handle_space None) (same_room old mid c.size c.max) ∙ sym (reason_by old number (role.ClassOf o) e) in
    let s : made_state mid o (chain_at mid.table.entries number) ≡ closed_state old parent =
    sym (made_settles o mid number) ∙ sym (goes_by old mid parent number (role.ClassOf o) c e) in
    subst (λ t. Tells t (closed_state old parent) b old new) r (tells_from (told_if (is_full mid) handle_space None) (made_state mid o (chain_at mid.table.entries number)) (closed_state old parent) b old mid new h c.meter c.max s)

above_settles : (r : Seen) (number : ℕ) → settle (moment_of r) ((stack_goals r.table.chains r.layers r.frames).above number) ≡ closed_state r (Some number)
unfolding closed_state after_value
above_settles r number = go r.frames refl
  where
    go : (fs : List Frame) → r.frames ≡ fs → settle (moment_of r) ((stack_goals r.table.chains r.layers fs).above number) ≡ closed_at r (Some number) fs
    go [] e = sym (ap (λ gs. settle (moment_of r) (frame_goals r.table.chains r.layers gs)) e)
    go (frame.Descriptor n w ∷ fs) e = refl
    go (frame.Elements left ∷ fs) e = sym (ap (λ gs. settle (moment_of r) (frame_goals r.table.chains r.layers gs)) e)
    go (frame.Fields last section pos prims values ∷ fs) e = sym (ap (λ gs. settle (moment_of r) (frame_goals r.table.chains r.layers gs)) e)
    go (frame.Notes last section ∷ fs) e = sym (ap (λ gs. settle (moment_of r) (frame_goals r.table.chains r.layers gs)) e)
    go (frame.ExternalNotes ∷ fs) e = sym (ap (λ gs. settle (moment_of r) (frame_goals r.table.chains r.layers gs)) e)

pub super_closed : (old mid : Seen) (parent : Option ℕ) (number : ℕ) (strict : Bool) → ClosesTop number (role.Superclass strict) parent old mid
    → old.frames ≡ frame.Descriptor number (role.Superclass strict) ∷ tail_of old.frames → ClosesOne (closing_is.Superclass number) parent old mid
unfolding ClosesOne
super_closed old mid parent number strict c e =
    let s : closed_state mid (Some number) ≡ closed_state old parent =
    sym (goes_by old mid parent number (role.Superclass strict) c e ∙ above_settles mid number) in
    let r : closing_reason mid ≡ closing_reason old =
    ap₂ (λ fs f. told_if (is_some (chain_owner fs) && f) handle_space None) c.frames (same_room old mid c.size c.max)
    ∙ sym (reason_by old number (role.Superclass strict) e) in
    let fewer : length mid.frames < length old.frames =
    let a : length old.frames ≡ suc (length (tail_of old.frames)) = ap length e in
    let b : length mid.frames ≡ length (tail_of old.frames) = ap length c.frames in omega arith in
    (s, r, c.meter, ap is_closed c.entry, fewer, c.max)

pub entry_closed : (old mid : Seen) (parent : Option ℕ) (number : ℕ) (w : Role) → ClosesTop number w parent old mid → IsTrue (is_closed (slice_get mid.table.entries number))
entry_closed old mid parent number w c = ap is_closed c.entry

pub closes_at : (old mid new : Seen) (parent : Option ℕ) (number : ℕ) (w : Role) → PopsLayer old mid → AllFit mid.table.entries mid.table.chains mid.frames → old.frames ≡ frame.Descriptor number w ∷ tail_of old.frames
    → new.table.entries ≡ slice_set mid.table.entries number (closed_under mid.table.entries parent (head_layer old.layers))
    → new.table.chains ≡ mid.table.chains ++ ((parent_chain mid.table.entries parent ++ (head_layer old.layers ∷ [])) ∷ [])
    → new.table.max ≡ mid.table.max → new.frames ≡ tail_of mid.frames → new.layers ≡ mid.layers → new.refs ≡ mid.refs → new.meter ≡ mid.meter
    → ClosesTop number w parent old new
closes_at old mid new parent number w p fit top ee ec ex ef ey er em =
    let old_fit : AllFit old.table.entries old.table.chains old.frames =
    subst (λ fs. AllFit old.table.entries old.table.chains fs) p.frames (subst (λ T. AllFit T.entries T.chains mid.frames) p.table fit) in
    closes_top old new parent number w (closes old mid new parent number w p top ee ec ex ef ey er em) top old_fit

-- the loop over the stack

pub closing_starts : (start : Seen) (parent : Option ℕ) → ForSome parent (λ p. IsTrue (is_closed (slice_get start.table.entries p))) → ClosingOn start parent start parent
closing_starts start parent h = record { state = refl; reason = refl; meter = refl; max = refl; is_read = h }

pub closes_last : (start old new : Seen) (parent above : Option ℕ) (b : Flow) → ClosesOne (closing_is.Ended b) above old new → ClosingOn start parent old above
    → Tells (closing_reason start) (closed_state start parent) b start new
unfolding ClosesOne
closes_last start old new parent above b h on =
    subst (λ t. Tells t (closed_state start parent) b start new) on.reason
    (tells_from (closing_reason old) (closed_state old above) (closed_state start parent) b start old new h on.meter on.max on.state)

pub closes_more : (start old new : Seen) (parent above : Option ℕ) (n : ℕ) → ClosesOne (closing_is.Superclass n) above old new → ClosingOn start parent old above
    → ClosingOn start parent new (Some n)
unfolding ClosesOne
closes_more start old new parent above n h on = record {
  state = h.0 ∙ on.state;
  reason = h.1 ∙ on.reason;
  meter = h.2 ∙ on.meter;
  max = h.5 ∙ on.max;
  is_read = λ k e. subst (λ p. IsTrue (is_closed (slice_get new.table.entries p))) (let same : n ≡ k = cc in same) h.3;
}

pub closes_shorter : (old new : Seen) (above : Option ℕ) (n : ℕ) → ClosesOne (closing_is.Superclass n) above old new → length new.frames < length old.frames
unfolding ClosesOne
closes_shorter old new above n h = h.4

pub closes_open : (start old : Seen) (parent above : Option ℕ) → ClosingOn start parent old above → ForSome above (λ p. IsTrue (is_closed (slice_get old.table.entries p)))
closes_open start old parent above on = on.is_read

-- where no descriptor is on top, nothing is left to close

ended_there : (start old new : Seen) (parent above : Option ℕ) (b : Flow) → ClosingOn start parent old above → Comes old new (after_value old) → b ≡ flow.On
    → closing_reason old ≡ None → closed_state old above ≡ after_value old → Tells (closing_reason start) (closed_state start parent) b start new
ended_there start old new parent above b on h e none same =
    subst (λ t. Tells t (closed_state start parent) b start new) on.reason
    (tells_from (closing_reason old) (closed_state old above) (closed_state start parent) b start old new
    (tells_next (closing_reason old) (closed_state old above) b old new (subst (Comes old new) (sym same) h) e none) on.meter on.max on.state)

pub none_open : (start old new : Seen) (parent above : Option ℕ) (b : Flow) → ClosingOn start parent old above → old.frames ≡ [] → Comes old new (after_value old) → b ≡ flow.On
    → Tells (closing_reason start) (closed_state start parent) b start new
unfolding closed_state
none_open start old new parent above b on none h e =
    ended_there start old new parent above b on h e (ap (λ fs. told_if (is_some (chain_owner fs) && is_full old) handle_space None) none) (ap (closed_at old above) none)

other_closed : (r : Seen) (above : Option ℕ) (f : Frame) (fs : List Frame) → ((n : ℕ) (w : Role) → f ≡ frame.Descriptor n w → ⊥) → (closed_at r above (f ∷ fs) ≡ after_value r) × (chain_owner (f ∷ fs) ≡ None)
other_closed r above (frame.Descriptor n w) fs d = absurd (d n w refl)
other_closed r above (frame.Elements left) fs d = (refl, refl)
other_closed r above (frame.Fields last section pos prims values) fs d = (refl, refl)
other_closed r above (frame.Notes last section) fs d = (refl, refl)
other_closed r above frame.ExternalNotes fs d = (refl, refl)

pub other_open : (start old new : Seen) (f : Frame) (parent above : Option ℕ) (b : Flow) → ClosingOn start parent old above → old.frames ≡ f ∷ tail_of old.frames → ((n : ℕ) (w : Role) → f ≡ frame.Descriptor n w → ⊥)
    → Comes old new (after_value old) → b ≡ flow.On → Tells (closing_reason start) (closed_state start parent) b start new
unfolding closed_state
other_open start old new f parent above b on top d h e =
    let k = other_closed old above f (tail_of old.frames) d in
    ended_there start old new parent above b on h e
    (ap (λ fs. told_if (is_some (chain_owner fs) && is_full old) handle_space None) top ∙ ap (λ o. told_if (is_some o && is_full old) handle_space None) k.1)
    (ap (closed_at old above) top ∙ k.0)
