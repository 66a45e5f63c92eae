-- What the machine asks next is exactly what may come next.
use Rattle.std.proofs.Common.{◌≡◌, List, [], ◌∷◌, ◌++◌, refl, sym, ◌∙◌, ap, append_assoc, append-nil, ◌⊎◌, inl, inr}
use Rattle.jser_reading.proofs.Vocabulary.{reference_tag, StreamToken, tag_token, Label, Piece, piece, State, settled, label_of, Accepts, advance, begin_state, Runs, left}
use Rattle.jser_reading.specs.ComesNext.{BeginsSome, handle_label, ComesNext}
use Rattle.jser_reading.specs.Laws.{NextIsTold}
use Rattle.jser_reading.proofs.Exact.{exact_law}
use Rattle.jser_reading.proofs.Completion.{Open, complete, complete_more}
use Rattle.jser_reading.proofs.Fronts.{Waits, open_settle, settled_waits, moved_of, waited_of, handle_next_of, left-append, Runs-append, Reads-append, reads_split}

-- where the machine stands: it can go on to a whole list, or before the last tag it could
abbrev Sound : List Piece → State → Type 0
Sound front s = Open s.1
    ⊎ ((before : List Piece) × (l : Label) × (front ≡ before ++ (piece l (tag_token reference_tag) ∷ []))
    × Runs begin_state before
    × (l ≡ label_of (settled (left begin_state before))) × Accepts l (tag_token reference_tag) × Open (left begin_state before).1
    × Waits s.1 × (label_of s ≡ handle_label l))

from_open : (f : StreamToken) (front : List Piece) (t : State) → Open t.1 → Accepts (label_of t) f
    → Runs begin_state front → (label_of t ≡ label_of (settled (left begin_state front))) → Open (left begin_state front).1
    → Sound (front ++ (piece (label_of t) f ∷ [])) (advance t f)
from_open f front t o a r e b =
    elim (moved_of t f o) [
      | inl o' ↦ inl o'
      | inr h ↦ inr (front, label_of t, rw h.0 refl, r, e, rw (← h.0) a, b, h.1, h.2)
    ]

sound_step : (f : StreamToken) (front : List Piece) → Runs begin_state front → Sound front (left begin_state front)
    → Accepts (label_of (settled (left begin_state front))) f
    → Sound (front ++ (piece (label_of (settled (left begin_state front))) f ∷ [])) (advance (settled (left begin_state front)) f)
sound_step f front r (inl o) a =
    let s : State = left begin_state front in
    from_open f front (settled s) (open_settle s.1 s.0 o) a r refl o
sound_step f front r (inr (before, l, ef, rb, el, al, ob, w, e)) a =
    let s : State = left begin_state front in
    let z : settled s ≡ s = settled_waits s w in
    inl (rw z (waited_of f s w (rw z at a)))

sound : (fs front : List Piece) → Runs begin_state front → Sound front (left begin_state front) → Runs (left begin_state front) fs
    → Sound (front ++ fs) (left begin_state (front ++ fs))
sound [] front r h k = rw append-nil h
sound (piece l f ∷ fs) front r h (el, a, k) =
    let s : State = left begin_state front in
    let p : List Piece = piece l f ∷ [] in
    let e : left begin_state (front ++ p) ≡ advance (settled s) f = left-append front p begin_state in
    let one : Sound (front ++ p) (left begin_state (front ++ p)) = rw (e, el) (sound_step f front r h a) in
    rw (← append_assoc front p fs) (sound fs (front ++ p) (Runs-append front p begin_state r (el, a, tt)) one (rw e k))

begins_open : (front : List Piece) → Runs begin_state front → Open (left begin_state front).1
    → BeginsSome front (label_of (settled (left begin_state front)))
begins_open front r o =
    let s : State = left begin_state front in
    let x = complete s.1 o s.0 in
    let y = complete_more s x.0 x.1 in
    let z =
    (exact_law (front ++ (piece (label_of (settled s)) y.0 ∷ y.1))).0
    (Reads-append front (piece (label_of (settled s)) y.0 ∷ y.1) begin_state r y.2) in
    (z.0, y.0, y.1, z.1, sym z.2)

told : (front : List Piece) (l : Label) → BeginsSome front l → Runs begin_state front
    × (l ≡ label_of (settled (left begin_state front)))
told front l (list, f, rest, w, e) =
    let x = reads_split front (piece l f ∷ rest) begin_state ((exact_law (front ++ (piece l f ∷ rest))).1 (list, w, sym e)) in
    (x.0, x.1.0)

next_told : (front : List Piece) (l : Label) → ComesNext front l → Runs begin_state front
    × (l ≡ label_of (settled (left begin_state front)))
next_told front l (inl b) = told front l b
next_told front l (inr (before, l', b, a, ef, el)) =
    let x = told before l' b in
    let s : State = settled (left begin_state before) in
    let a' : Accepts (label_of s) (tag_token reference_tag) = rw (← x.1) a in
    let p : List Piece = piece l' (tag_token reference_tag) ∷ [] in
    let e : left begin_state (before ++ p) ≡ advance s (tag_token reference_tag) = left-append before p begin_state in (
      rw ef (Runs-append before p begin_state x.0 (x.1, a', tt)),
      rw (ef, e) (el ∙ ap handle_label x.1 ∙ sym (handle_next_of s a')),
    )

next_of : (front : List Piece) (l : Label) → Runs begin_state front → (l ≡ label_of (settled (left begin_state front)))
    → Sound front (left begin_state front) → ComesNext front l
next_of front l r e (inl o) = inl (rw e (begins_open front r o))
next_of front l r e (inr (before, l', ef, rb, el, al, ob, w, eh)) =
    inr (before, l', rw el (begins_open before rb ob), al, ef, e ∙ ap label_of (settled_waits (left begin_state front) w) ∙ eh)

pub next_law : NextIsTold
next_law front l = (next_told front l, λ (r, e). next_of front l r e (sound front [] tt (inl refl) r))
