-- Nodes as they are kept: one node more, the units of one more string.
use Rattle.std.proofs.Common.{◌≡◌, ℕ, suc, List, [], ◌∷◌, ◌++◌, length, map, Option, Some, None, Result, Ok, Err, OnOk, OnErr, refl, sym, ◌∙◌, ap, ap₂, subst}
use Rattle.std.specs.List.{All}
use Rattle.std.proofs.lemmas.List.{map_push}
use Rattle.std.proofs.lemmas.List.Elements.{All-weaker, All-push, All-head, All-tail}
use Rattle.std.specs.declared.alloc.AllocError.{AllocError}
use Rattle.jser_reading.specs.Labels.{StreamToken}
use Rattle.jser_shown.specs.Nodes.{text_node}
use Rattle.jser_shown.specs.Nodes.{NodeKind as ToldKind}
use Rattle.jser_shown.specs.Nodes.{Node as ToldNode}
use Rattle.jser_shown.specs.Finding.{units_made}
use Rattle.jser_index.specs.Listed.{Listed, with_last}
use Rattle.jser_index.specs.declared.node.NodeKind.{NodeKind}
use Rattle.jser_index.specs.declared.node.NodeKind.TheVariants as kind
use Rattle.jser_index.specs.declared.node.StoredNode.{StoredNode}
use Rattle.jser_index.specs.declared.spot.Spot.{Spot}
use Rattle.jser_index.specs.Keeping.{Kept, Extends, HasTextAt, units_at}
use Rattle.jser_index.specs.StoredNodes.{view_kind, units_in, view_node, spot_in, HasUnits, IsAmong, IsStored, AddsNode}
use Rattle.jser_index.proofs.KeptLemmas.{stays, stays_in}

-- the units of one more string

still_has : (old new : Kept) (spot : Option Spot) → Extends old new → HasUnits old spot → HasUnits new spot
still_has old new None more h = tt
still_has old new (Some spot) more h = stays_in old new spot more h

pub among_extended : (old new : Kept) (nodes : List StoredNode) → Extends old new → All (IsAmong old) nodes → All (IsAmong new) nodes
among_extended old new nodes more h = All-weaker (IsAmong old) (IsAmong new) (λ x i. still_has old new (spot_in x) more i) nodes h

pub all_among_extended : (old new : Kept) (ended : List (List StoredNode)) → Extends old new → All (All (IsAmong old)) ended → All (All (IsAmong new)) ended
all_among_extended old new ended more h = All-weaker (All (IsAmong old)) (All (IsAmong new)) (λ xs i. among_extended old new xs more i) ended h

same_units : (old new : Kept) (spot : Option Spot) → Extends old new → HasUnits old spot → units_in new spot ≡ units_in old spot
same_units old new None more h = refl
same_units old new (Some spot) more h = ap (λ us. Some us) (stays old new spot more h)

same_node : (old new : Kept) (node : StoredNode) → Extends old new → IsAmong old node → view_node new node ≡ view_node old node
same_node old new node more h = ap (λ u. record (view_node old node) { units = u }) (same_units old new (spot_in node) more h)

same_nodes : (old new : Kept) (nodes : List StoredNode) → Extends old new → All (IsAmong old) nodes → map (view_node new) nodes ≡ map (view_node old) nodes
same_nodes old new [] more h = refl
same_nodes old new (x ∷ nodes) more h =
    ap₂ (λ y ys. y ∷ ys) (same_node old new x more (All-head (IsAmong old) x nodes h)) (same_nodes old new nodes more (All-tail (IsAmong old) x nodes h))

same_ended : (old new : Kept) (ended : List (List StoredNode)) → Extends old new → All (All (IsAmong old)) ended
    → map (map (view_node new)) ended ≡ map (map (view_node old)) ended
same_ended old new [] more h = refl
same_ended old new (x ∷ ended) more h =
    ap₂ (λ y ys. y ∷ ys) (same_nodes old new x more (All-head (All (IsAmong old)) x ended h)) (same_ended old new ended more (All-tail (All (IsAmong old)) x ended h))

-- a node that was made

node_with : ToldKind → ℕ → Option (List ℕ) → ToldNode
node_with kind place units = record { kind = kind; place = place; units = units }

stored_told : (kept : Kept) (stored : StoredNode) (kind : ToldKind) (place : ℕ) (spot : Option Spot) → IsStored stored kind place spot
    → view_node kept stored ≡ record { kind = kind; place = place; units = units_in kept spot }
unfolding node_with
stored_told kept stored kind place spot is =
    ap (λ k. node_with k stored_place (units_in kept (spot_in stored))) is.kind_is
    ∙ ap (λ p. node_with kind p (units_in kept (spot_in stored))) is.place_is
    ∙ ap (λ s. node_with kind place (units_in kept s)) is.spot_is
  where
    stored_place : ℕ
    stored_place = (view_node kept stored).place

stored_among : (kept : Kept) (stored : StoredNode) (kind : ToldKind) (place : ℕ) (spot : Option Spot) → IsStored stored kind place spot
    → HasUnits kept spot → IsAmong kept stored
stored_among kept stored kind place spot is h = subst (HasUnits kept) (sym is.spot_is) h

-- it is added, or memory ran out

pub node_pushed : (r : Result (Unit {0}) AllocError) (old_kept kept : Kept) (stored : StoredNode) (kind : ToldKind) (place : ℕ) (spot : Option Spot) (old pushed : Listed StoredNode)
    → Extends old_kept kept → IsStored stored kind place spot → HasUnits kept spot → OnOk r (pushed.last ≡ old.last ++ (stored ∷ []))
    → OnOk r (pushed.ended ≡ old.ended) → OnErr r (pushed ≡ old) → All (IsAmong old_kept) old.last × All (All (IsAmong old_kept)) old.ended
    → All (IsAmong kept) pushed.last × All (All (IsAmong kept)) pushed.ended
node_pushed (Ok u) old_kept kept stored kind place spot old pushed more is has last ended err h = (
  subst (All (IsAmong kept)) (sym last)
      (All-push (IsAmong kept) old.last stored (among_extended old_kept kept old.last more h.0) (stored_among kept stored kind place spot is has)),
  subst (All (All (IsAmong kept))) (sym ended) (all_among_extended old_kept kept old.ended more h.1),
)
node_pushed (Err e) old_kept kept stored kind place spot old pushed more is has last ended err h = (
  subst (λ l. All (IsAmong kept) l.last) (sym err) (among_extended old_kept kept old.last more h.0),
  subst (λ l. All (All (IsAmong kept)) l.ended) (sym err) (all_among_extended old_kept kept old.ended more h.1),
)

pub node_told : (r : Result (Unit {0}) AllocError) (now : Listed ToldNode) (old_kept kept : Kept) (stored : StoredNode) (kind : ToldKind) (place : ℕ) (spot : Option Spot)
    (old pushed : Listed StoredNode) → now ≡ record { ended = map (map (view_node old_kept)) old.ended; last = map (view_node old_kept) old.last }
    → Extends old_kept kept → IsStored stored kind place spot → OnOk r (pushed.last ≡ old.last ++ (stored ∷ [])) → OnOk r (pushed.ended ≡ old.ended)
    → All (IsAmong old_kept) old.last × All (All (IsAmong old_kept)) old.ended
    → OnOk r (record { ended = map (map (view_node kept)) pushed.ended; last = map (view_node kept) pushed.last }
    ≡ with_last now (record { kind = kind; place = place; units = units_in kept spot }))
node_told (Ok u) now old_kept kept stored kind place spot old pushed v more is last ended h =
    let told : ToldNode = record { kind = kind; place = place; units = units_in kept spot } in
    let nodes : map (view_node kept) pushed.last ≡ map (view_node old_kept) old.last ++ (told ∷ []) =
    ap (map (view_node kept)) last ∙ map_push (view_node kept) old.last stored
    ∙ ap₂ (λ xs y. xs ++ (y ∷ [])) (same_nodes old_kept kept old.last more h.0) (stored_told kept stored kind place spot is) in
    let lists : map (map (view_node kept)) pushed.ended ≡ map (map (view_node old_kept)) old.ended =
    ap (map (map (view_node kept))) ended ∙ same_ended old_kept kept old.ended more h.1 in
    ap₂ (λ xs ys. record { ended = xs; last = ys }) lists nodes ∙ ap (λ x. with_last x told) (sym v)
node_told (Err e) now old_kept kept stored kind place spot old pushed v more is last ended h = tt

pub units_told : (r : Result (Unit {0}) AllocError) (now : Listed ToldNode) (old_kept kept : Kept) (stored : StoredNode) (place : ℕ) (spot : Spot) (units : List ℕ)
    (old pushed : Listed StoredNode) → now ≡ record { ended = map (map (view_node old_kept)) old.ended; last = map (view_node old_kept) old.last }
    → Extends old_kept kept → IsStored stored text_node place (Some spot) → units_at kept spot ≡ units → OnOk r (pushed.last ≡ old.last ++ (stored ∷ []))
    → OnOk r (pushed.ended ≡ old.ended) → All (IsAmong old_kept) old.last × All (All (IsAmong old_kept)) old.ended
    → OnOk r (record { ended = map (map (view_node kept)) pushed.ended; last = map (view_node kept) pushed.last }
    ≡ with_last now (record { kind = text_node; place = place; units = Some units }))
units_told r now old_kept kept stored place spot units old pushed v more is at last ended h =
    subst (λ us. OnOk r (record { ended = map (map (view_node kept)) pushed.ended; last = map (view_node kept) pushed.last }
    ≡ with_last now (record { kind = text_node; place = place; units = Some us })))
    at (node_told r now old_kept kept stored text_node place (Some spot) old pushed v more is last ended h)

pub adds_node : (text : List ℕ) (place : ℕ) (kept : Kept) (spot : Spot) (old new : Listed ToldNode) → HasTextAt kept spot text
    → new ≡ with_last old (record { kind = text_node; place = place; units = Some (units_at kept spot) }) → AddsNode text place old new
adds_node text place kept spot old new has is = record { units = units_at kept spot; spelled = has.spelled; is = is }

-- an epoch ends

pub among_end : (kept : Kept) (ended : List (List StoredNode)) (nodes : List StoredNode) → All (All (IsAmong kept)) ended → All (IsAmong kept) nodes
    → All (All (IsAmong kept)) (ended ++ (nodes ∷ []))
among_end kept ended nodes h i = All-push (All (IsAmong kept)) ended nodes h i

-- what was kept is told

pub length_told : (kept : Kept) (nodes : List StoredNode) → length (map (view_node kept) nodes) ≡ length nodes
length_told kept [] = refl
length_told kept (node ∷ nodes) = ap (λ n. suc n) (length_told kept nodes)

pub view_end : (kept : Kept) (ended : List (List StoredNode)) (nodes : List StoredNode)
    → map (map (view_node kept)) (ended ++ (nodes ∷ [])) ≡ map (map (view_node kept)) ended ++ (map (view_node kept) nodes ∷ [])
view_end kept ended nodes = map_push (map (view_node kept)) ended nodes

-- a node that is no string has no units
pub no_units : (k : NodeKind) (told : StreamToken) → (k ≡ kind.Text → ⊥) → units_made (view_kind k) told ≡ None
no_units kind.Text told other = absurd (other refl)
no_units kind.PlainDesc told other = refl
no_units kind.ProxyDesc told other = refl
no_units kind.ClassObject told other = refl
no_units kind.Array told other = refl
no_units kind.EnumConst told other = refl
no_units kind.Object told other = refl
