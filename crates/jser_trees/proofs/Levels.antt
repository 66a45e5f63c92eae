-- One level further in.
use Rattle.std.proofs.Common.{◌≡◌, ℕ, zero, suc, ◌-◌, ◌<◌, List, [], ◌∷◌, Some, None, Result, Err, refl, sym, ◌∙◌, ap, arith, subst}
use Rattle.jser_table.specs.declared.layer.Layer.{Layer}
use Rattle.jser_table.specs.Entries.{other_entry, chain_at}
use Rattle.jser_grammar.specs.Trees.{ClassPlaceTree, SectionTrees, object}
use Rattle.jser_grammar.specs.TableAfter.{Entries, add, after_class, chain_of_class}
use Rattle.jser_value.specs.Tests.{IsClassAt}
use Rattle.jser_value.proofs.KeepLemmas.{class_behind_add}
use Rattle.jser_trees.specs.declared.cursor.Fault.{Fault}
use Rattle.jser_trees.specs.declared.cursor.Fault.TheVariants as fault
use Rattle.jser_trees.specs.Found.{Finds}
use Rattle.jser_trees.specs.Building.{value_in, desc_in, level_in, desc_level_in, Built, BuildsDesc, BuildsValue, class_in, data_in, object_in}

pub value_too_deep : (steps : ℕ) (T : Entries) (bytes : List ℕ) → steps ≡ 0 → value_in steps T bytes ≡ None
unfolding value_in
value_too_deep zero T bytes e = refl
value_too_deep (suc k) T bytes e = absurd (omega arith)

pub desc_too_deep : (steps : ℕ) (T : Entries) (bytes : List ℕ) → steps ≡ 0 → desc_in steps T bytes ≡ None
unfolding desc_in
desc_too_deep zero T bytes e = refl
desc_too_deep (suc k) T bytes e = absurd (omega arith)

pub no_value : (steps : ℕ) (T : Entries) (bytes : List ℕ) → bytes ≡ [] → value_in steps T bytes ≡ None
unfolding value_in
no_value zero T bytes e = refl
no_value (suc k) T bytes e = rw e refl

pub value_of_level : (steps : ℕ) (T : Entries) (tag : ℕ) (bytes : List ℕ) → 0 < steps
    → value_in steps T (tag ∷ bytes) ≡ level_in (desc_in (steps - 1)) (value_in (steps - 1)) T tag bytes
unfolding value_in
value_of_level zero T tag bytes h = absurd (omega arith)
value_of_level (suc k) T tag bytes h =
    let less : k ≡ suc k - 1 = omega arith in
    ap (λ j. level_in (desc_in j) (value_in j) T tag bytes) less

pub desc_of_level : (steps : ℕ) (T : Entries) (tag : ℕ) (bytes : List ℕ) → 0 < steps
    → desc_in steps T (tag ∷ bytes) ≡ desc_level_in (desc_in (steps - 1)) (value_in (steps - 1)) T tag bytes
unfolding desc_in
desc_of_level zero T tag bytes h = absurd (omega arith)
desc_of_level (suc k) T tag bytes h =
    let less : k ≡ suc k - 1 = omega arith in
    ap (λ j. desc_level_in (desc_in j) (value_in j) T tag bytes) less

-- an object: its class, and what the classes of the chain wrote
pub object_whole : (desc : BuildsDesc) (value : BuildsValue) (T U V : Entries) (number : ℕ) (old mid next : List ℕ) (c : ClassPlaceTree) (ss : SectionTrees)
    → class_in desc T old ≡ Some (c, mid) → U ≡ after_class T c → IsClassAt U number (chain_of_class T c) → V ≡ add U other_entry
    → data_in value V (chain_at V number) mid ≡ Some (ss, next) → object_in desc value T old ≡ Some (object c ss, next)
unfolding object_in
object_whole desc value T U V number old mid next c ss found after class entered inner =
    let chain = class_behind_add U V other_entry number (chain_of_class T c) entered class in
    let made : V ≡ add (after_class T c) other_entry = entered ∙ ap (λ (W : Entries). add W other_entry) after in
    let there : data_in value (add (after_class T c) other_entry) (chain_of_class T c) mid ≡ Some (ss, next) =
    subst (λ (W : Entries). data_in value W (chain_of_class T c) mid ≡ Some (ss, next)) made
    (subst (λ (ls : List Layer). data_in value V ls mid ≡ Some (ss, next)) chain.chain_is inner) in
    rw (found, there) refl

-- where a part fails, so does the whole
pub found_failed : {X Y V W : Type 0} → (part_view : X → Y) (view : V → W) (r : Result V Fault) (e : Fault) (l m : List ℕ) (part : Built Y) (whole : Built W)
    → r ≡ Err e → Finds part_view (Err e) l part → (part ≡ None → whole ≡ None) → Finds view r m whole
found_failed {V = V} part_view view r fault.Lost l m part whole is h fails = subst (λ (q : Result V Fault). Finds view q m whole) (sym is) (fails h)
found_failed {V = V} part_view view r fault.OutOfMemory l m part whole is h fails = subst (λ (q : Result V Fault). Finds view q m whole) (sym is) tt
