-- Contents on the way to being tested, one after the other.
use Rattle.std.proofs.Common.{◌≡◌, ◌<◌, ◌≤◌, ◌+◌, ℕ, suc, Bool, true, false, Err, subst, ◌&&◌, List, [], length, length-append, get_or, drop, refl, sym, ap, ◌∙◌, add-one, arith}
use Rattle.jser_grammar.specs.Spelling.{annotation_spelling, content_spelling, contents_spelling}
use Rattle.jser_grammar.specs.TableAfter.{Entries, after_value, after_contents}
use Rattle.jser_grammar.specs.Trees.{ContentTree, block, reset, content, ContentTrees, content_and}
use Rattle.jser_value.proofs.CheckLemmas.{Awaits, item_at}
use Rattle.jser_value.specs.PartTests.{obeys_block}
use Rattle.jser_value.specs.Rooms.{HasRoom, Spends}
use Rattle.jser_value.specs.Tests.{Judges, obeys_value, obeys_notes, obeys_contents}
use Rattle.jser_value.specs.View.{view_content, view_contents}
use Rattle.jser_value.specs.declared.check.fault.Fault.{Fault}
use Rattle.jser_value.specs.declared.check.fault.Fault.TheVariants as fault
use Rattle.jser_value.specs.declared.tree.Content.{Content}
use Rattle.std.specs.declared.result.Result.{Result}

-- what an annotation may hold at its next place, and the table behind it
abbrev pub obeys_note : Entries → ContentTree → Bool
obeys_note T (block long bytes) = obeys_block long bytes
obeys_note T reset = false
obeys_note T (content v) = obeys_value T v

abbrev pub after_note : Entries → ContentTree → Entries
after_note T (block long bytes) = T
after_note T reset = T
after_note T (content v) = after_value T v

notes_and : (T : Entries) (c : ContentTree) (cs : ContentTrees) → obeys_notes T (content_and c cs) ≡ (obeys_note T c && obeys_notes (after_note T c) cs)
notes_and T (block long bytes) cs = refl
notes_and T reset cs = refl
notes_and T (content v) cs = refl

after_and : (T : Entries) (c : ContentTree) (cs : ContentTrees) → after_contents T (content_and c cs) ≡ after_contents (after_note T c) cs
after_and T (block long bytes) cs = refl
after_and T reset cs = refl
after_and T (content v) cs = refl

-- the contents from one on, by the first of them
contents_next : (list : List Content) (k : ℕ) (x : Content) (c : ContentTree) → k < length list → x ≡ get_or list k x → view_content x ≡ c
    → view_contents (drop k list) ≡ content_and c (view_contents (drop (suc k) list))
contents_next list k x c h e is =
    ap (λ (xs : List Content). view_contents xs) (item_at list k x h e) ∙ ap (λ (d : ContentTree). content_and d (view_contents (drop (suc k) list))) is

pub notes_failed : (T A : Entries) (k : ℕ) (list : List Content) (x : Content) (c : ContentTree) (whole : Bool)
    → Awaits (obeys_notes T (view_contents (drop k list))) whole (after_contents T (view_contents (drop k list))) A → k < length list
    → x ≡ get_or list k x → view_content x ≡ c → obeys_note T c ≡ false → whole ≡ false
notes_failed T A k list x c whole awaits h e is fails =
    let left = view_contents (drop (suc k) list) in
    sym awaits.passes
    ∙ ap (obeys_notes T) (contents_next list k x c h e is)
    ∙ notes_and T c left
    ∙ ap (λ b. b && obeys_notes (after_note T c) left) fails

pub notes_next : (T U A : Entries) (k : ℕ) (list : List Content) (x : Content) (c : ContentTree) (whole : Bool)
    → Awaits (obeys_notes T (view_contents (drop k list))) whole (after_contents T (view_contents (drop k list))) A → k < length list
    → x ≡ get_or list k x → view_content x ≡ c → obeys_note T c ≡ true → U ≡ after_note T c
    → Awaits (obeys_notes U (view_contents (drop (k + 1) list))) whole (after_contents U (view_contents (drop (k + 1) list))) A
notes_next T U A k list x c whole awaits h e is passes after =
    let left = view_contents (drop (suc k) list) in
    let next = contents_next list k x c h e is in
    let test : obeys_notes U left ≡ whole =
    ap (λ (V : Entries). obeys_notes V left) after
    ∙ sym (ap (λ b. b && obeys_notes (after_note T c) left) passes)
    ∙ sym (notes_and T c left)
    ∙ sym (ap (obeys_notes T) next)
    ∙ awaits.passes in
    let ends : after_contents U left ≡ A =
    ap (λ (V : Entries). after_contents V left) after ∙ sym (after_and T c left) ∙ sym (ap (after_contents T) next) ∙ awaits.after in
    record { passes = rw add-one test; after = rw add-one ends }

-- a part that fails its test
pub judged_wrong : {X : Type 0} → (r : Result X Fault) (whole : Bool) (A U : Entries) → r ≡ Err fault.NotRight → whole ≡ false → Judges r whole A U
judged_wrong {X} r whole A U e h = subst (λ (q : Result X Fault). Judges q whole A U) (sym e) h

-- ---- handles and bytes

bytes_next : (list : List Content) (k : ℕ) (x : Content) (c : ContentTree) → k < length list → x ≡ get_or list k x → view_content x ≡ c
    → length (annotation_spelling (view_contents (drop k list)))
    ≡ length (content_spelling c) + length (annotation_spelling (view_contents (drop (suc k) list)))
bytes_next list k x c h e is =
    ap (λ (cs : ContentTrees). length (annotation_spelling cs)) (contents_next list k x c h e is)
    ∙ length-append (content_spelling c) (annotation_spelling (view_contents (drop (suc k) list)))

pub notes_room : (T U : Entries) (k : ℕ) (list : List Content) (x : Content) (c : ContentTree) → HasRoom T (annotation_spelling (view_contents list))
    → Spends T (annotation_spelling (view_contents list)) U (annotation_spelling (view_contents (drop k list))) → k < length list
    → x ≡ get_or list k x → view_content x ≡ c → HasRoom U (content_spelling c)
notes_room T U k list x c room before h e is = omega (arith, room, before, bytes_next list k x c h e is)

pub notes_spent : (T U V : Entries) (k : ℕ) (list : List Content) (x : Content) (c : ContentTree)
    → Spends T (annotation_spelling (view_contents list)) U (annotation_spelling (view_contents (drop k list))) → k < length list
    → x ≡ get_or list k x → view_content x ≡ c → length V ≤ length U + length (content_spelling c)
    → Spends T (annotation_spelling (view_contents list)) V (annotation_spelling (view_contents (drop (k + 1) list)))
notes_spent T U V k list x c before h e is spent = rw add-one (omega (arith, before, spent, bytes_next list k x c h e is))

-- ---- the contents of a stream, among which a reset may stand

-- what a list may hold at its next place, and the table behind it
abbrev pub obeys_part : Entries → ContentTree → Bool
obeys_part T (block long bytes) = obeys_block long bytes
obeys_part T reset = true
obeys_part T (content v) = obeys_value T v

abbrev pub after_part : Entries → ContentTree → Entries
after_part T (block long bytes) = T
after_part T reset = []
after_part T (content v) = after_value T v

contents_and : (T : Entries) (c : ContentTree) (cs : ContentTrees)
    → obeys_contents T (content_and c cs) ≡ (obeys_part T c && obeys_contents (after_part T c) cs)
contents_and T (block long bytes) cs = refl
contents_and T reset cs = refl
contents_and T (content v) cs = refl

pub contents_failed : (T : Entries) (k : ℕ) (list : List Content) (x : Content) (c : ContentTree) (whole : Bool)
    → obeys_contents T (view_contents (drop k list)) ≡ whole → k < length list → x ≡ get_or list k x → view_content x ≡ c → obeys_part T c ≡ false
    → whole ≡ false
contents_failed T k list x c whole passes h e is fails =
    let left = view_contents (drop (suc k) list) in
    sym passes
    ∙ ap (obeys_contents T) (contents_next list k x c h e is)
    ∙ contents_and T c left
    ∙ ap (λ b. b && obeys_contents (after_part T c) left) fails

pub contents_passed : (T U : Entries) (k : ℕ) (list : List Content) (x : Content) (c : ContentTree) (whole : Bool)
    → obeys_contents T (view_contents (drop k list)) ≡ whole → k < length list → x ≡ get_or list k x → view_content x ≡ c → obeys_part T c ≡ true
    → U ≡ after_part T c → obeys_contents U (view_contents (drop (k + 1) list)) ≡ whole
contents_passed T U k list x c whole passes h e is part after =
    let left = view_contents (drop (suc k) list) in
    let test : obeys_contents U left ≡ whole =
    ap (λ (V : Entries). obeys_contents V left) after
    ∙ sym (ap (λ b. b && obeys_contents (after_part T c) left) part)
    ∙ sym (contents_and T c left)
    ∙ sym (ap (obeys_contents T) (contents_next list k x c h e is))
    ∙ passes in
    rw add-one test

bytes_left : (list : List Content) (k : ℕ) (x : Content) (c : ContentTree) → k < length list → x ≡ get_or list k x → view_content x ≡ c
    → length (contents_spelling (view_contents (drop k list)))
    ≡ length (content_spelling c) + length (contents_spelling (view_contents (drop (suc k) list)))
bytes_left list k x c h e is =
    ap (λ (cs : ContentTrees). length (contents_spelling cs)) (contents_next list k x c h e is)
    ∙ length-append (content_spelling c) (contents_spelling (view_contents (drop (suc k) list)))

pub contents_room : (T : Entries) (k : ℕ) (list : List Content) (x : Content) (c : ContentTree)
    → HasRoom T (contents_spelling (view_contents (drop k list))) → k < length list → x ≡ get_or list k x → view_content x ≡ c
    → HasRoom T (content_spelling c)
contents_room T k list x c room h e is = omega (arith, room, bytes_left list k x c h e is)

pub contents_room_left : (T U : Entries) (k : ℕ) (list : List Content) (x : Content) (c : ContentTree)
    → HasRoom T (contents_spelling (view_contents (drop k list))) → k < length list → x ≡ get_or list k x → view_content x ≡ c
    → length U ≤ length T + length (content_spelling c) → HasRoom U (contents_spelling (view_contents (drop (k + 1) list)))
contents_room_left T U k list x c room h e is spent = rw add-one (omega (arith, room, spent, bytes_left list k x c h e is))
