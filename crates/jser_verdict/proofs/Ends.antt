-- At the end of a token that the format takes, a reason is told exactly where the gate stops it; and none before.
use Rattle.std.proofs.Common.{◌≡◌, ℕ, zero, suc, ◌+◌, ◌-◌, ◌^◌, ◌<◌, Bool, true, false, ◌&&◌, ◌||◌, not, if◌then◌else◌, List, [], ◌∷◌, ◌++◌, length, refl, sym, ◌∙◌, ap, ap₂, arith, Option, Some, None, IsTrue, nat_lt, nat_le, take, length-append, le-leb, append-nil, slice_get, is_some, true≢false, inl, inr}
use Rattle.std.proofs.lemmas.List.{take_at}
use Rattle.std.proofs.lemmas.Bool.{cases_eq}
use Rattle.std.proofs.lemmas.Bool.Decides.{nat_tests}
use Rattle.jser_reading.proofs.Vocabulary.{big_bytes, modified_utf8, is_serializable, is_externalizable, has_block_data, TableEntry, text_entry, other_entry, pending_entry, closed_entry, is_text, is_closed, chain_at, does_fit, NameKind, plain_name, array_name, malformed_name, name_kind, Layer, prim_code_of, is_object_code, Entries, IsText, is_malformed, IsClassName, IsFlags, IsHandle, IsBackToClass, Owner, object_owner, array_owner, enum_owner, class_owner, ChainOwner, Role, own_class, superclass, FitsOwner, FitsRole, NameFits, FlagsFit, Moment, null_tag, reference_tag, class_desc_tag, object_tag, string_tag, array_tag, class_tag, long_string_tag, proxy_desc_tag, enum_tag, StreamToken, header_token, tag_token, block_tag_token, end_tag_token, reset_tag_token, handle_token, suid_token, flags_token, field_count_token, interface_count_token, array_length_token, code_token, text_token, block_length_token, prims_token, bytes_token, Position, nowhere, header_at, top_at, annotation_at, value_at, text_place_at, class_place_at, superclass_place_at, back_handle_at, text_handle_at, class_handle_at, superclass_handle_at, string_at, class_name_at, field_name_at, interface_name_at, suid_at, field_count_at, interface_count_at, array_length_at, flags_at, type_code_at, block_length_at, raw_at, bytes_at, Label, AcceptsAt, Accepts, may_follow}
use Rattle.jser_table.specs.declared.layer.Fit.{Fit}
use Rattle.jser_table.specs.declared.layer.Fit.TheVariants as fit
use Rattle.jser_grammar.specs.Spelling.{utf, long_utf}
use Rattle.jser_reading.specs.TokenBytes.{bytes_of}
use Rattle.jser_reading.specs.GateLimits.{gate_of, begins_place, assigns_handle}
use Rattle.jser_reading.proofs.Decoding.{number_2, number_4, length-big_bytes, tag_back, block_tag_back, end_tag_back, reset_tag_back}
use Rattle.jser_reading.proofs.PlainVerdict.{whole, text_parts}
use Rattle.jser_verdict.specs.Reasons.{Reason, bad_type_code, field_order, no_such_handle, class_rejected, class_unmatched, depth_exceeded, refs_exceeded, array_exceeded, handle_space}
use Rattle.jser_verdict.specs.Gates.{Gate, Answer, pass, rejected, unmatched, is_pass, limits_of}
use Rattle.jser_verdict.specs.TextsSoFar.{is_whole_text, text_units}
use Rattle.jser_verdict.specs.HandleRows.{is_no_handle, entry_named}
use Rattle.jser_verdict.specs.ClassRows.{is_wrong, is_raw, is_unserial, fit_of_owner, is_unserial_superclass, is_wrong_name, has_wrong_flags, has_raw_flags, has_unserial_flags}
use Rattle.jser_verdict.specs.Verdicts.{told_if, on_text, is_full, limit_reason, content_reason, inner_reason, class_tag_reason, other_tag_reason, text_handle_reason, class_handle_reason, superclass_handle_reason, checked_reason, class_name_reason, interface_reason, string_reason, count_reason, array_reason, flags_reason, code_reason, reason_at}
use Rattle.jser_verdict.proofs.Fronts.{byte_front, number_front, differs_front, FrontIsRight, text_front_short, text_front_long, not_whole, same_equal, not_le}
use Rattle.jser_reading.specs.TokensFromBytes.{number_of, tag_from, size_in}

abbrev pub here : Position → ℕ → Moment → Label
here w d m = record { position = w; depth = d; moment = m }

-- ---- before the end

quiet_text : (a : List ℕ) (tell : List ℕ → Option Reason) → FrontIsRight false a → is_whole_text false a ≡ false → on_text a tell ≡ None
quiet_text a tell r w = rw (r.0, w) refl

quiet_string : (long : Bool) (a : List ℕ) → FrontIsRight long a → string_reason long a ≡ None
quiet_string false a r = rw r.0 refl
quiet_string true a r = rw (r.0, r.1) refl

quiet : (g : Gate) (l : Label) (w : Position) (m : Moment) (f : StreamToken) → AcceptsAt w m f → (a : List ℕ) (c : ℕ) (b : List ℕ)
    → bytes_of f ≡ a ++ (c ∷ b) → length a < size_in w a → reason_at g l w a ≡ None
quiet nowhere_g l nowhere m f h a c b e k = refl
quiet g l header_at m header_token h a c b e k = rw (differs_front (0xAC ∷ 0xED ∷ 0x00 ∷ 0x05 ∷ []) a (c ∷ b) e) refl
quiet g l top_at m f h a c b e k = byte_front a (content_reason g l) k
quiet g l annotation_at m f h a c b e k = byte_front a (inner_reason g l) k
quiet g l value_at m f h a c b e k = byte_front a (inner_reason g l) k
quiet g l text_place_at m f h a c b e k = byte_front a (other_tag_reason g l) k
quiet g l (class_place_at owner) m f h a c b e k = byte_front a (class_tag_reason g l owner) k
quiet g l (superclass_place_at owner strict) m f h a c b e k = byte_front a (other_tag_reason g l) k
quiet g l back_handle_at m f h a c b e k = number_front 4 a (λ n. told_if (is_no_handle l.moment.table n) no_such_handle None) k
quiet g l text_handle_at m f h a c b e k = number_front 4 a (text_handle_reason l) k
quiet g l (class_handle_at owner) m f h a c b e k = number_front 4 a (class_handle_reason g l owner) k
quiet g l (superclass_handle_at owner strict) m f h a c b e k = number_front 4 a (superclass_handle_reason g l owner strict) k
quiet g l (string_at true) m (text_token true u) h a c b e k = quiet_string true a (text_front_long u a (c ∷ b) h e)
quiet g l (string_at false) m (text_token false u) h a c b e k = quiet_string false a (text_front_short u a (c ∷ b) h e)
quiet g l (class_name_at role) m (text_token false u) h a c b e k =
    quiet_text a (class_name_reason g role) (text_front_short u a (c ∷ b) h.0.0 e) (not_whole false a k)
quiet g l field_name_at m (text_token false u) h a c b e k =
    quiet_text a (λ name. None) (text_front_short u a (c ∷ b) h e) (not_whole false a k)
quiet g l interface_name_at m (text_token false u) h a c b e k =
    quiet_text a (interface_reason g) (text_front_short u a (c ∷ b) h.0 e) (not_whole false a k)
quiet g l suid_at m f h a c b e k = number_front 8 a (λ n. told_if (is_full g l) handle_space None) k
quiet g l field_count_at m f h a c b e k = number_front 2 a (count_reason (2 ^ 15)) k
quiet g l interface_count_at m f h a c b e k = number_front 4 a (count_reason (2 ^ 31)) k
quiet g l array_length_at m f h a c b e k = number_front 4 a (array_reason g) k
quiet g l (flags_at role) m f h a c b e k = byte_front a (flags_reason role) k
quiet g l (type_code_at seen) m f h a c b e k = byte_front a (code_reason seen) k
quiet g l (block_length_at true) m f h a c b e k = number_front 4 a (count_reason (2 ^ 31)) k
quiet g l (block_length_at false) m f h a c b e k = refl
quiet g l (raw_at p n) m f h a c b e k = refl
quiet g l (bytes_at n) m f h a c b e k = refl
quiet g l (string_at true) m _ h a c b e k = absurd h
quiet g l (string_at false) m _ h a c b e k = absurd h
quiet g l _ m _ h a c b e k = absurd h

pub quiet_before : (g : Gate) (l : Label) (f : StreamToken) → Accepts l f → (a : List ℕ) (c : ℕ) (b : List ℕ)
    → bytes_of f ≡ a ++ (c ∷ b) → reason_at g l l.position a ≡ None
quiet_before g l f h a c b e =
    let w = whole l.position l.moment f h in
    quiet g l l.position l.moment f h a c b e (w.fronts a c b e)

-- ---- at the end

-- a gate's test of a token, and what is told of it
abbrev pub Agrees : Bool → Option Reason → Type 0
Agrees true told = told ≡ None
Agrees false told = (reason : Reason) × (told ≡ Some reason)

agrees_limits : (place assigns x y z x' y' z' : Bool) → x' ≡ not x → y' ≡ not y → z' ≡ not z
    → Agrees ((not place || (x && y)) && true && (not assigns || z) && true)
    (told_if (place && x') depth_exceeded (told_if (place && y') refs_exceeded (told_if (assigns && z') handle_space None)))
agrees_limits true true true true true x' y' z' ex ey ez = rw (ex, ey, ez) refl
agrees_limits true true true true false x' y' z' ex ey ez = (handle_space, rw (ex, ey, ez) refl)
agrees_limits true true true false true x' y' z' ex ey ez = (refs_exceeded, rw (ex, ey) refl)
agrees_limits true true true false false x' y' z' ex ey ez = (refs_exceeded, rw (ex, ey) refl)
agrees_limits true true false true true x' y' z' ex ey ez = (depth_exceeded, rw ex refl)
agrees_limits true true false true false x' y' z' ex ey ez = (depth_exceeded, rw ex refl)
agrees_limits true true false false true x' y' z' ex ey ez = (depth_exceeded, rw ex refl)
agrees_limits true true false false false x' y' z' ex ey ez = (depth_exceeded, rw ex refl)
agrees_limits true false true true true x' y' z' ex ey ez = rw (ex, ey) refl
agrees_limits true false true true false x' y' z' ex ey ez = rw (ex, ey) refl
agrees_limits true false true false true x' y' z' ex ey ez = (refs_exceeded, rw (ex, ey) refl)
agrees_limits true false true false false x' y' z' ex ey ez = (refs_exceeded, rw (ex, ey) refl)
agrees_limits true false false true true x' y' z' ex ey ez = (depth_exceeded, rw ex refl)
agrees_limits true false false true false x' y' z' ex ey ez = (depth_exceeded, rw ex refl)
agrees_limits true false false false true x' y' z' ex ey ez = (depth_exceeded, rw ex refl)
agrees_limits true false false false false x' y' z' ex ey ez = (depth_exceeded, rw ex refl)
agrees_limits false true true true true x' y' z' ex ey ez = rw ez refl
agrees_limits false true true true false x' y' z' ex ey ez = (handle_space, rw ez refl)
agrees_limits false true true false true x' y' z' ex ey ez = rw ez refl
agrees_limits false true true false false x' y' z' ex ey ez = (handle_space, rw ez refl)
agrees_limits false true false true true x' y' z' ex ey ez = rw ez refl
agrees_limits false true false true false x' y' z' ex ey ez = (handle_space, rw ez refl)
agrees_limits false true false false true x' y' z' ex ey ez = rw ez refl
agrees_limits false true false false false x' y' z' ex ey ez = (handle_space, rw ez refl)
agrees_limits false false true true true x' y' z' ex ey ez = refl
agrees_limits false false true true false x' y' z' ex ey ez = refl
agrees_limits false false true false true x' y' z' ex ey ez = refl
agrees_limits false false true false false x' y' z' ex ey ez = refl
agrees_limits false false false true true x' y' z' ex ey ez = refl
agrees_limits false false false true false x' y' z' ex ey ez = refl
agrees_limits false false false false true x' y' z' ex ey ez = refl
agrees_limits false false false false false x' y' z' ex ey ez = refl

not_nat_le : (a b : ℕ) → nat_lt b a ≡ not (nat_le a b)
not_nat_le a b = grind (arith, nat_tests)

not_nat_lt : (a b : ℕ) → nat_le b a ≡ not (nat_lt a b)
not_nat_lt a b = grind (arith, nat_tests)

-- the limits at a tag
tag_agrees : (g : Gate) (w : Position) (d : ℕ) (m : Moment) (f : StreamToken) (b : ℕ) → tag_from b ≡ Some f
    → Agrees ((not (begins_place w f) || (nat_le d g.depth && nat_lt m.places g.refs)) && true
    && (not (assigns_handle w f) || nat_lt (length m.table) g.handles) && true) (limit_reason g (here w d m) b)
tag_agrees g w d m f b e =
    rw e (agrees_limits (begins_place w f) (assigns_handle w f) (nat_le d g.depth) (nat_lt m.places g.refs)
    (nat_lt (length m.table) g.handles) (nat_lt g.depth d) (nat_le g.refs m.places) (nat_le g.handles (length m.table))
    (not_nat_le d g.depth) (not_nat_lt m.places g.refs) (not_nat_lt (length m.table) g.handles))

abbrev AgreesAt : Gate → Position → ℕ → Moment → StreamToken → Type 0
AgreesAt g w d m f = Agrees (gate_of (limits_of g) (here w d m) f) (reason_at g (here w d m) w (bytes_of f))

-- ---- by kind of token

known_handle : (T : Entries) (n : ℕ) → n < length T → is_no_handle T (0x7E0000 + n) ≡ false
known_handle T n h = grind (arith, nat_tests)

-- an entry that is there has a number below the length
within_text : (T : Entries) (n : ℕ) → is_text (slice_get T n) ≡ true → n < length T
within_text [] n h = absurd (true≢false (sym h))
within_text (t ∷ T) zero h = omega arith
within_text (t ∷ T) (suc n) h = let x = within_text T n h in omega arith

within_closed : (T : Entries) (n : ℕ) → is_closed (slice_get T n) ≡ true → n < length T
within_closed [] n h = absurd (true≢false (sym h))
within_closed (t ∷ T) zero h = omega arith
within_closed (t ∷ T) (suc n) h = let x = within_closed T n h in omega arith

-- the entry with the handle of the n-th entry
names : (T : Entries) (n : ℕ) → entry_named T (0x7E0000 + n) ≡ slice_get T n
names T n =
    let lo : nat_le 0x7E0000 (0x7E0000 + n) ≡ true = le-leb 0x7E0000 (0x7E0000 + n) (omega arith) in
    let back : 0x7E0000 + n - 0x7E0000 ≡ n = omega arith in
    rw (lo, back) refl

text_handle_ends : (g : Gate) (d : ℕ) (m : Moment) (n : ℕ) (entry : Option TableEntry) → slice_get m.table n ≡ entry
    → IsTrue (is_text (slice_get m.table n)) × IsHandle n → AgreesAt g text_handle_at d m (handle_token n)
text_handle_ends g d m n entry e h = go entry e (rw e at h.0)
  where
    go : (entry : Option TableEntry) → slice_get m.table n ≡ entry → IsTrue (is_text entry) → AgreesAt g text_handle_at d m (handle_token n)
    go (Some text_entry) e t =
        rw (number_4 (0x7E0000 + n) h.1, known_handle m.table n (within_text m.table n h.0), names m.table n, e) refl
    go None e t = absurd (true≢false (sym t))
    go (Some other_entry) e t = absurd (true≢false (sym t))
    go (Some pending_entry) e t = absurd (true≢false (sym t))
    go (Some (closed_entry chain)) e t = absurd (true≢false (sym t))

-- the limit of handles alone
full_agrees : (x y : Bool) → y ≡ not x → Agrees (x && true) (told_if y handle_space None)
full_agrees true y e = rw e refl
full_agrees false y e = (handle_space, rw e refl)

fits_told : (x : Fit) → does_fit x ≡ true → (is_wrong x ≡ false) × (is_raw x ≡ false) × (is_unserial x ≡ false)
fits_told fit.Fits h = (refl, refl, refl)
fits_told fit.WrongClass h = absurd (true≢false (sym h))
fits_told fit.ExternalRaw h = absurd (true≢false (sym h))
fits_told fit.NotSerializable h = absurd (true≢false (sym h))

owner_told : (owner : Owner) (chain : List Layer) → FitsOwner owner chain → does_fit (fit_of_owner owner chain) ≡ true
owner_told object_owner chain h = h
owner_told array_owner chain h = h
owner_told enum_owner chain h = h
owner_told class_owner chain h = refl

class_handle_ends : (g : Gate) (d : ℕ) (m : Moment) (owner : Owner) (n : ℕ) (entry : Option TableEntry) → slice_get m.table n ≡ entry
    → IsBackToClass m.table n × FitsOwner owner (chain_at m.table n) → AgreesAt g (class_handle_at owner) d m (handle_token n)
class_handle_ends g d m owner n entry e h = go entry e (rw e at h.0.0) (owner_told owner (chain_at m.table n) h.1)
  where
    go : (entry : Option TableEntry) → slice_get m.table n ≡ entry → IsTrue (is_closed entry)
        → does_fit (fit_of_owner owner (chain_at m.table n)) ≡ true → AgreesAt g (class_handle_at owner) d m (handle_token n)
    go (Some (closed_entry chain)) e t k =
        let x = fits_told (fit_of_owner owner chain) (rw e at k) in
        rw (number_4 (0x7E0000 + n) h.0.1, known_handle m.table n (within_closed m.table n h.0.0), names m.table n, e, x.0, x.1, x.2)
        (full_agrees (nat_lt (length m.table) g.handles) (nat_le g.handles (length m.table)) (not_nat_lt (length m.table) g.handles))
    go None e t k = absurd (true≢false (sym t))
    go (Some text_entry) e t k = absurd (true≢false (sym t))
    go (Some other_entry) e t k = absurd (true≢false (sym t))
    go (Some pending_entry) e t k = absurd (true≢false (sym t))

serial_told : (strict : Bool) (owner : ChainOwner) (chain : List Layer) → FitsRole (superclass owner strict) chain
    → is_unserial_superclass strict (Some (closed_entry chain)) ≡ false
serial_told false owner chain h = refl
serial_told true owner chain h = rw h refl

superclass_handle_ends : (g : Gate) (d : ℕ) (m : Moment) (owner : ChainOwner) (strict : Bool) (n : ℕ) (entry : Option TableEntry)
    → slice_get m.table n ≡ entry → IsBackToClass m.table n × FitsRole (superclass owner strict) (chain_at m.table n)
    → AgreesAt g (superclass_handle_at owner strict) d m (handle_token n)
superclass_handle_ends g d m owner strict n entry e h = go owner entry e (rw e at h.0.0) h.1
  where
    go : (owner : ChainOwner) (entry : Option TableEntry) → slice_get m.table n ≡ entry → IsTrue (is_closed entry)
        → FitsRole (superclass owner strict) (chain_at m.table n) → AgreesAt g (superclass_handle_at owner strict) d m (handle_token n)
    go None (Some (closed_entry chain)) e t k =
        let x = serial_told strict None chain (rw e at k) in
        rw (number_4 (0x7E0000 + n) h.0.1, known_handle m.table n (within_closed m.table n h.0.0), names m.table n, e, x) refl
    go (Some o) (Some (closed_entry chain)) e t k =
        let x = serial_told strict (Some o) chain (rw e at k) in
        rw (number_4 (0x7E0000 + n) h.0.1, known_handle m.table n (within_closed m.table n h.0.0), names m.table n, e, x)
        (full_agrees (nat_lt (length m.table) g.handles) (nat_le g.handles (length m.table)) (not_nat_lt (length m.table) g.handles))
    go o None e t k = absurd (true≢false (sym t))
    go o (Some text_entry) e t k = absurd (true≢false (sym t))
    go o (Some other_entry) e t k = absurd (true≢false (sym t))
    go o (Some pending_entry) e t k = absurd (true≢false (sym t))

pub whole_short : (u : List ℕ) → IsText false u → is_whole_text false (utf u) ≡ true
whole_short u h =
    let n : ℕ = length (modified_utf8 u) in
    let l : length (utf u) ≡ 2 + n = omega (arith, length-append (big_bytes 2 n) (modified_utf8 u), length-big_bytes 2 n) in
    let t : number_of (take 2 (utf u)) ≡ n = ap number_of (take_at (big_bytes 2 n) (modified_utf8 u) 2 (length-big_bytes 2 n)) ∙ number_2 n h.1 in
    rw (t, l) (ap₂ (λ x y. x && y) (le-leb 2 (2 + n) (omega arith)) (same_equal (2 + n) (2 + n) refl))

pub units_short : (u : List ℕ) → IsText false u → text_units false (utf u) ≡ u
units_short u h = (text_parts 2 u h.0 (number_2 (length (modified_utf8 u)) h.1)).0

checked_agrees : (g : Gate) (u : List ℕ) → Agrees (is_pass (g.answer u)) (checked_reason g u)
checked_agrees g u = go (g.answer u) refl
  where
    go : (x : Answer) → g.answer u ≡ x → Agrees (is_pass (g.answer u)) (checked_reason g u)
    go pass e = rw e refl
    go rejected e = rw e (class_rejected, refl)
    go unmatched e = rw e (class_unmatched, refl)

name_told : (role : Role) (kind : NameKind) → NameFits role kind → is_malformed kind ≡ false → is_wrong_name role kind ≡ false
name_told (own_class (Some object_owner)) plain_name h k = refl
name_told (own_class (Some object_owner)) (array_name elements) h k = absurd h
name_told (own_class (Some object_owner)) malformed_name h k = absurd h
name_told (own_class (Some array_owner)) plain_name h k = absurd h
name_told (own_class (Some array_owner)) (array_name elements) h k = refl
name_told (own_class (Some array_owner)) malformed_name h k = absurd h
name_told (own_class (Some enum_owner)) kind h k = refl
name_told (own_class (Some class_owner)) kind h k = refl
name_told (own_class None) kind h k = refl
name_told (superclass owner strict) kind h k = refl

name_ends : (g : Gate) (d : ℕ) (m : Moment) (role : Role) (u : List ℕ) → IsClassName u × NameFits role (name_kind u)
    → AgreesAt g (class_name_at role) d m (text_token false u)
name_ends g d m role u h =
    let r = (text_front_short u (utf u) [] h.0.0 (sym (append-nil (utf u)))).0 in
    let t = name_told role (name_kind u) h.1 h.0.1 in
    rw (r, whole_short u h.0.0, units_short u h.0.0, h.0.1, t) (checked_agrees g u)

interface_ends : (g : Gate) (d : ℕ) (m : Moment) (u : List ℕ) → IsClassName u → AgreesAt g interface_name_at d m (text_token false u)
interface_ends g d m u h =
    let r = (text_front_short u (utf u) [] h.0 (sym (append-nil (utf u)))).0 in
    rw (r, whole_short u h.0, units_short u h.0, h.1) (checked_agrees g u)

suid_ends : (g : Gate) (d : ℕ) (m : Moment) (n : ℕ) → AgreesAt g suid_at d m (suid_token n)
suid_ends g d m n =
    full_agrees (nat_lt (length m.table) g.handles) (nat_le g.handles (length m.table)) (not_nat_lt (length m.table) g.handles)

array_agrees : (x y : Bool) → y ≡ not x → Agrees (x && true && true) (told_if y array_exceeded None)
array_agrees true y e = rw e refl
array_agrees false y e = (array_exceeded, rw e refl)

array_ends : (g : Gate) (d : ℕ) (m : Moment) (n : ℕ) → n < 2 ^ 31 → AgreesAt g array_length_at d m (array_length_token n)
array_ends g d m n h =
    rw (number_4 n (omega arith), not_le (2 ^ 31) n h)
    (array_agrees (nat_le n g.array) (nat_lt g.array n) (not_nat_le n g.array))

flags_told : (role : Role) (n : ℕ) → FlagsFit role n → (has_wrong_flags role n ≡ false) × (has_raw_flags role n ≡ false)
    × (has_unserial_flags role n ≡ false)
flags_told (own_class None) n h = (refl, refl, refl)
flags_told (own_class (Some object_owner)) n h = go (is_externalizable n) h
  where
    go : (x : Bool) → IsTrue (if x then has_block_data n else is_serializable n)
        → (false ≡ false) × ((x && not (has_block_data n)) ≡ false) × ((not x && not (is_serializable n)) ≡ false)
    go true k = (refl, ap not k, refl)
    go false k = (refl, refl, ap not k)
flags_told (own_class (Some array_owner)) n h = (refl, refl, refl)
flags_told (own_class (Some enum_owner)) n h = (ap not h, refl, refl)
flags_told (own_class (Some class_owner)) n h = (refl, refl, refl)
flags_told (superclass owner false) n h = (refl, refl, refl)
flags_told (superclass owner true) n h = (refl, refl, ap not h)

flags_end : (g : Gate) (d : ℕ) (m : Moment) (role : Role) (n : ℕ) → IsFlags n → FlagsFit role n → AgreesAt g (flags_at role) d m (flags_token n)
flags_end g d m role n h k =
    let x = flags_told role n k in
    rw (not_le 32 n h.0, h.1, x.0, x.1, x.2) refl

-- no code is both
pub both_codes : (n : ℕ) → is_object_code n ≡ true → is_some (prim_code_of n) ≡ true → ⊥
both_codes n h k = elim (cases_eq n 0x5B) [
  | inl e ↦ absurd (true≢false (sym (rw e at k)))
  | inr ne ↦ elim (cases_eq n 0x4C) [
    | inl e ↦ absurd (true≢false (sym (rw e at k)))
    | inr nf ↦ absurd (grind (arith, nat_tests))
  ]
]

code_ends : (g : Gate) (d : ℕ) (m : Moment) (seen : Bool) (n : ℕ) → IsTrue (may_follow seen n) → AgreesAt g (type_code_at seen) d m (code_token n)
code_ends g d m seen n h = go (is_object_code n) (is_some (prim_code_of n)) seen refl refl h
  where
    go : (x y seen : Bool) → is_object_code n ≡ x → is_some (prim_code_of n) ≡ y → IsTrue (if x then true else (y && not seen))
        → told_if (not (is_some (prim_code_of n) || is_object_code n)) bad_type_code (told_if (seen && is_some (prim_code_of n)) field_order None) ≡ None
    go true false seen ex ey k = rw (ex, ey) (two seen)
      where
        two : (s : Bool) → told_if (s && false) field_order None ≡ None
        two true = refl
        two false = refl
    go true true false ex ey k = rw (ex, ey) refl
    go true true true ex ey k = absurd (both_codes n ex ey)
    go false true false ex ey k = rw (ex, ey) refl
    go false true true ex ey k = absurd (true≢false (sym k))
    go false false seen ex ey k = absurd (true≢false (sym k))

ends : (g : Gate) (w : Position) (d : ℕ) (m : Moment) (f : StreamToken) → AcceptsAt w m f → AgreesAt g w d m f
ends g header_at d m header_token h = refl
ends g top_at d m (tag_token null_tag) h = tag_agrees g top_at d m (tag_token null_tag) 0x70 (tag_back null_tag)
ends g top_at d m (tag_token reference_tag) h = tag_agrees g top_at d m (tag_token reference_tag) 0x71 (tag_back reference_tag)
ends g top_at d m (tag_token class_desc_tag) h = tag_agrees g top_at d m (tag_token class_desc_tag) 0x72 (tag_back class_desc_tag)
ends g top_at d m (tag_token object_tag) h = tag_agrees g top_at d m (tag_token object_tag) 0x73 (tag_back object_tag)
ends g top_at d m (tag_token string_tag) h = tag_agrees g top_at d m (tag_token string_tag) 0x74 (tag_back string_tag)
ends g top_at d m (tag_token array_tag) h = tag_agrees g top_at d m (tag_token array_tag) 0x75 (tag_back array_tag)
ends g top_at d m (tag_token class_tag) h = tag_agrees g top_at d m (tag_token class_tag) 0x76 (tag_back class_tag)
ends g top_at d m (tag_token long_string_tag) h = tag_agrees g top_at d m (tag_token long_string_tag) 0x7C (tag_back long_string_tag)
ends g top_at d m (tag_token proxy_desc_tag) h = tag_agrees g top_at d m (tag_token proxy_desc_tag) 0x7D (tag_back proxy_desc_tag)
ends g top_at d m (tag_token enum_tag) h = tag_agrees g top_at d m (tag_token enum_tag) 0x7E (tag_back enum_tag)
ends g top_at d m (block_tag_token true) h = tag_agrees g top_at d m (block_tag_token true) 0x7A (block_tag_back true)
ends g top_at d m (block_tag_token false) h = tag_agrees g top_at d m (block_tag_token false) 0x77 (block_tag_back false)
ends g top_at d m reset_tag_token h = tag_agrees g top_at d m reset_tag_token 0x79 reset_tag_back
ends g annotation_at d m (tag_token null_tag) h = tag_agrees g annotation_at d m (tag_token null_tag) 0x70 (tag_back null_tag)
ends g annotation_at d m (tag_token reference_tag) h = tag_agrees g annotation_at d m (tag_token reference_tag) 0x71 (tag_back reference_tag)
ends g annotation_at d m (tag_token class_desc_tag) h = tag_agrees g annotation_at d m (tag_token class_desc_tag) 0x72 (tag_back class_desc_tag)
ends g annotation_at d m (tag_token object_tag) h = tag_agrees g annotation_at d m (tag_token object_tag) 0x73 (tag_back object_tag)
ends g annotation_at d m (tag_token string_tag) h = tag_agrees g annotation_at d m (tag_token string_tag) 0x74 (tag_back string_tag)
ends g annotation_at d m (tag_token array_tag) h = tag_agrees g annotation_at d m (tag_token array_tag) 0x75 (tag_back array_tag)
ends g annotation_at d m (tag_token class_tag) h = tag_agrees g annotation_at d m (tag_token class_tag) 0x76 (tag_back class_tag)
ends g annotation_at d m (tag_token long_string_tag) h = tag_agrees g annotation_at d m (tag_token long_string_tag) 0x7C (tag_back long_string_tag)
ends g annotation_at d m (tag_token proxy_desc_tag) h = tag_agrees g annotation_at d m (tag_token proxy_desc_tag) 0x7D (tag_back proxy_desc_tag)
ends g annotation_at d m (tag_token enum_tag) h = tag_agrees g annotation_at d m (tag_token enum_tag) 0x7E (tag_back enum_tag)
ends g annotation_at d m (block_tag_token true) h = tag_agrees g annotation_at d m (block_tag_token true) 0x7A (block_tag_back true)
ends g annotation_at d m (block_tag_token false) h = tag_agrees g annotation_at d m (block_tag_token false) 0x77 (block_tag_back false)
ends g annotation_at d m end_tag_token h = tag_agrees g annotation_at d m end_tag_token 0x78 end_tag_back
ends g value_at d m (tag_token null_tag) h = tag_agrees g value_at d m (tag_token null_tag) 0x70 (tag_back null_tag)
ends g value_at d m (tag_token reference_tag) h = tag_agrees g value_at d m (tag_token reference_tag) 0x71 (tag_back reference_tag)
ends g value_at d m (tag_token class_desc_tag) h = tag_agrees g value_at d m (tag_token class_desc_tag) 0x72 (tag_back class_desc_tag)
ends g value_at d m (tag_token object_tag) h = tag_agrees g value_at d m (tag_token object_tag) 0x73 (tag_back object_tag)
ends g value_at d m (tag_token string_tag) h = tag_agrees g value_at d m (tag_token string_tag) 0x74 (tag_back string_tag)
ends g value_at d m (tag_token array_tag) h = tag_agrees g value_at d m (tag_token array_tag) 0x75 (tag_back array_tag)
ends g value_at d m (tag_token class_tag) h = tag_agrees g value_at d m (tag_token class_tag) 0x76 (tag_back class_tag)
ends g value_at d m (tag_token long_string_tag) h = tag_agrees g value_at d m (tag_token long_string_tag) 0x7C (tag_back long_string_tag)
ends g value_at d m (tag_token proxy_desc_tag) h = tag_agrees g value_at d m (tag_token proxy_desc_tag) 0x7D (tag_back proxy_desc_tag)
ends g value_at d m (tag_token enum_tag) h = tag_agrees g value_at d m (tag_token enum_tag) 0x7E (tag_back enum_tag)
ends g text_place_at d m (tag_token reference_tag) h = tag_agrees g text_place_at d m (tag_token reference_tag) 0x71 (tag_back reference_tag)
ends g text_place_at d m (tag_token string_tag) h = tag_agrees g text_place_at d m (tag_token string_tag) 0x74 (tag_back string_tag)
ends g text_place_at d m (tag_token long_string_tag) h = tag_agrees g text_place_at d m (tag_token long_string_tag) 0x7C (tag_back long_string_tag)
ends g (class_place_at object_owner) d m (tag_token reference_tag) h = tag_agrees g (class_place_at object_owner) d m (tag_token reference_tag) 0x71 (tag_back reference_tag)
ends g (class_place_at array_owner) d m (tag_token reference_tag) h = tag_agrees g (class_place_at array_owner) d m (tag_token reference_tag) 0x71 (tag_back reference_tag)
ends g (class_place_at enum_owner) d m (tag_token reference_tag) h = tag_agrees g (class_place_at enum_owner) d m (tag_token reference_tag) 0x71 (tag_back reference_tag)
ends g (class_place_at class_owner) d m (tag_token reference_tag) h = tag_agrees g (class_place_at class_owner) d m (tag_token reference_tag) 0x71 (tag_back reference_tag)
ends g (class_place_at object_owner) d m (tag_token class_desc_tag) h = tag_agrees g (class_place_at object_owner) d m (tag_token class_desc_tag) 0x72 (tag_back class_desc_tag)
ends g (class_place_at array_owner) d m (tag_token class_desc_tag) h = tag_agrees g (class_place_at array_owner) d m (tag_token class_desc_tag) 0x72 (tag_back class_desc_tag)
ends g (class_place_at enum_owner) d m (tag_token class_desc_tag) h = tag_agrees g (class_place_at enum_owner) d m (tag_token class_desc_tag) 0x72 (tag_back class_desc_tag)
ends g (class_place_at class_owner) d m (tag_token class_desc_tag) h = tag_agrees g (class_place_at class_owner) d m (tag_token class_desc_tag) 0x72 (tag_back class_desc_tag)
ends g (class_place_at object_owner) d m (tag_token proxy_desc_tag) h = tag_agrees g (class_place_at object_owner) d m (tag_token proxy_desc_tag) 0x7D (tag_back proxy_desc_tag)
ends g (class_place_at class_owner) d m (tag_token proxy_desc_tag) h = tag_agrees g (class_place_at class_owner) d m (tag_token proxy_desc_tag) 0x7D (tag_back proxy_desc_tag)
ends g (class_place_at array_owner) d m (tag_token proxy_desc_tag) h = absurd h
ends g (class_place_at enum_owner) d m (tag_token proxy_desc_tag) h = absurd h
ends g (superclass_place_at None strict) d m (tag_token null_tag) h = tag_agrees g (superclass_place_at None strict) d m (tag_token null_tag) 0x70 (tag_back null_tag)
ends g (superclass_place_at None strict) d m (tag_token reference_tag) h = tag_agrees g (superclass_place_at None strict) d m (tag_token reference_tag) 0x71 (tag_back reference_tag)
ends g (superclass_place_at None strict) d m (tag_token class_desc_tag) h = tag_agrees g (superclass_place_at None strict) d m (tag_token class_desc_tag) 0x72 (tag_back class_desc_tag)
ends g (superclass_place_at None strict) d m (tag_token proxy_desc_tag) h = tag_agrees g (superclass_place_at None strict) d m (tag_token proxy_desc_tag) 0x7D (tag_back proxy_desc_tag)
ends g (superclass_place_at (Some owner) strict) d m (tag_token null_tag) h = tag_agrees g (superclass_place_at (Some owner) strict) d m (tag_token null_tag) 0x70 (tag_back null_tag)
ends g (superclass_place_at (Some owner) strict) d m (tag_token reference_tag) h = tag_agrees g (superclass_place_at (Some owner) strict) d m (tag_token reference_tag) 0x71 (tag_back reference_tag)
ends g (superclass_place_at (Some owner) strict) d m (tag_token class_desc_tag) h = tag_agrees g (superclass_place_at (Some owner) strict) d m (tag_token class_desc_tag) 0x72 (tag_back class_desc_tag)
ends g (superclass_place_at (Some owner) strict) d m (tag_token proxy_desc_tag) h = tag_agrees g (superclass_place_at (Some owner) strict) d m (tag_token proxy_desc_tag) 0x7D (tag_back proxy_desc_tag)
ends g back_handle_at d m (handle_token n) h = rw (number_4 (0x7E0000 + n) h.1, known_handle m.table n h.0) refl
ends g text_handle_at d m (handle_token n) h = text_handle_ends g d m n (slice_get m.table n) refl h
ends g (class_handle_at owner) d m (handle_token n) h = class_handle_ends g d m owner n (slice_get m.table n) refl h
ends g (superclass_handle_at owner strict) d m (handle_token n) h = superclass_handle_ends g d m owner strict n (slice_get m.table n) refl h
ends g (string_at true) d m (text_token true u) h = quiet_string true (long_utf u) (text_front_long u (long_utf u) [] h (sym (append-nil (long_utf u))))
ends g (string_at false) d m (text_token false u) h = quiet_string false (utf u) (text_front_short u (utf u) [] h (sym (append-nil (utf u))))
ends g (class_name_at role) d m (text_token false u) h = name_ends g d m role u h
ends g field_name_at d m (text_token false u) h =
    rw ((text_front_short u (utf u) [] h (sym (append-nil (utf u)))).0, whole_short u h) refl
ends g interface_name_at d m (text_token false u) h = interface_ends g d m u h
ends g suid_at d m (suid_token n) h = suid_ends g d m n
ends g field_count_at d m (field_count_token n) h =
    rw (number_2 n (omega arith), not_le (2 ^ 15) n h) refl
ends g interface_count_at d m (interface_count_token n) h =
    rw (number_4 n (omega arith), not_le (2 ^ 31) n h) refl
ends g array_length_at d m (array_length_token n) h = array_ends g d m n h
ends g (flags_at role) d m (flags_token n) h = flags_end g d m role n h.0 h.1
ends g (type_code_at seen) d m (code_token n) h = code_ends g d m seen n h
ends g (block_length_at true) d m (block_length_token true n) h =
    rw (number_4 n (omega arith), not_le (2 ^ 31) n h) refl
ends g (block_length_at false) d m (block_length_token false n) h = refl
ends g (raw_at c (suc n)) d m (prims_token ps) h = refl
ends g (bytes_at (suc n)) d m (bytes_token bytes) h = refl
ends g (string_at true) d m _ h = absurd h
ends g (string_at false) d m _ h = absurd h
ends g (block_length_at true) d m _ h = absurd h
ends g (block_length_at false) d m _ h = absurd h
ends g (raw_at c zero) d m f h = absurd h
ends g (raw_at c (suc n)) d m _ h = absurd h
ends g (bytes_at zero) d m f h = absurd h
ends g (bytes_at (suc n)) d m _ h = absurd h
ends g _ d m _ h = absurd h

pub ends_agree : (g : Gate) (l : Label) (f : StreamToken) → Accepts l f
    → Agrees (gate_of (limits_of g) l f) (reason_at g l l.position (bytes_of f))
ends_agree g l f h = ends g l.position l.depth l.moment f h
