-- Where a reader stands after a declared field that is lent at once: by which items it went on.
use Rattle.std.proofs.Common.{◌≡◌, ℕ, ◌+◌, ◌-◌, ◌≤◌, Option, Some, None, List, [], ◌∷◌, ◌++◌, length, take, drop, refl, sym, ◌∙◌, ap, subst, arith, append_assoc, append-nil, length-drop, length-append}
use Rattle.std.proofs.lemmas.List.{drop-drop}
use Rattle.jser_grammar.specs.Wire.{TC_REFERENCE}
use Rattle.jser_verdict.specs.Gates.{Gate}
use Rattle.jser_reader.specs.declared.item.Field.{Field}
use Rattle.jser_reader.specs.declared.item.Item.TheVariants as item
use Rattle.jser_reader.specs.declared.tally.Tally.{Tally}
use Rattle.jser_reader.specs.FieldsTold.{TypeCases, TellsField, TakesField}
use Rattle.jser_reader.specs.Feeds.{all_after}
use Rattle.jser_reader.specs.ItemsTold.{StandsIn, TellsItems}
use Rattle.jser_reader.specs.Readers.{Seen}
use Rattle.jser_reader.specs.Showing.{AllFurther, StepsOn, here}
use Rattle.jser_reader.specs.Visits.{Spot, bytes_at, Shown, shown, AreShown, name_items, type_items, type_size, field_items, field_size}
use Rattle.jser_reader.specs.WholesTold.{TellsText}
use Rattle.jser_reader.proofs.FurtherLemmas.{assigned_at, size_after, further, take_then, one_then, only_one, text_further, taken_to}
use Rattle.jser_reader.proofs.MemoryLemmas.{are_assigned}

are_shown_then : (gate : Gate) (all : ℕ) (items more : List Shown) (at mid to : Spot) → AreShown gate all items at mid → AreShown gate all more mid to → AreShown gate all (items ++ more) at to
are_shown_then gate all [] more at mid to n m = subst (λ s. AreShown gate all more s to) n m
are_shown_then gate all (one ∷ items) more at mid to n m = (n.0, n.1, are_shown_then gate all items more n.0 mid to n.2 m)

all_then : (gate : Gate) (all : ℕ) (at : Spot) (items more : List Shown) (size len : ℕ) (given : List ℕ) (mid : Seen) (between : Tally) (r : Seen) (tally : Tally)
    → (f : AllFurther gate all at items (take size given) mid between) → AllFurther gate all f.to more (take len (drop size given)) r tally → size ≤ length given
    → AllFurther gate all at (items ++ more) (take (size + len) given) r tally
all_then gate all at items more size len given mid between r tally f g le = record {
  to = g.to;
  next = are_shown_then gate all items more at f.to g.to f.next g.next;
  bytes =
      g.bytes ∙ ap (λ xs. xs ++ take len (drop size given)) f.bytes ∙ append_assoc (bytes_at at) (take size given) (take len (drop size given))
      ∙ ap (λ xs. bytes_at at ++ xs) (sym (take_then size len given le));
  reads = g.reads;
}

type_further : (gate : Gate) (all : ℕ) (at : Spot) (given : List ℕ) (handle : Option ℕ) (n end : ℕ) (old new : Seen) (tally : Tally) → StandsIn gate at.front at.cut old tally
    → all ≡ length (bytes_at at) + length given → end ≡ length (bytes_at at) + type_size handle → TypeCases gate given handle n old new tally
    → AllFurther gate all at (type_items handle n end) (take (type_size handle) given) new tally
unfolding TellsItems
type_further gate all at given None n end old new tally st most ends t = record {
  to = at;
  next = refl;
  bytes = sym (append-nil (bytes_at at));
  reads = subst (λ r. StandsIn gate at.front at.cut r tally) (sym t) st;
}
type_further gate all at given (Some handle) n end old new tally st most ends t =
    let enough = t.within in
    let one = length-drop 1 given in
    let a = assigned_at gate n at old tally t.assigned st in
    let f = further gate all at given (item.Tag TC_REFERENCE) n (end - 4) 1 t.between tally (omega arith) (omega arith) most a (omega arith) (t.tag at.front at.cut st) in
    let there = size_after at f.to given 1 f.bytes (omega arith) in
    let b = assigned_at gate n f.to t.between tally t.assigned_then f.reads in
    let g = further gate all f.to (drop 1 given) (item.Handle handle) n end 4 new tally (omega arith) (omega arith) (omega arith) b (omega arith) (t.number f.to.front f.to.cut f.reads) in
    one_then gate all at (shown (item.Tag TC_REFERENCE) n (end - 4)) (shown (item.Handle handle) n end ∷ []) 1 4 given t.between tally new tally f
    (only_one gate all f.to (shown (item.Handle handle) n end) (take 4 (drop 1 given)) new tally g) (omega arith)

field_further : (gate : Gate) (all : ℕ) (at : Spot) (given : List ℕ) (end : ℕ) (f : Field) (old new : Seen) (tally : Tally) → StandsIn gate at.front at.cut old tally
    → all ≡ length (bytes_at at) + length given → end ≡ length (bytes_at at) + field_size f → field_size f ≤ length given → TellsField gate given f old new tally
    → AllFurther gate all at (field_items f (record { handles = length old.table.entries; end = end })) (take (field_size f) given) new tally
unfolding TellsItems TellsText
field_further gate all at given end f old new tally st most ends le t =
    let n = length old.table.entries in
    let len = length f.name.now in
    let ts = type_size f.type_handle in
    let rest : List ℕ = drop 1 given in
    let one = length-drop 1 given in
    let far = length-drop (len + 3) given in
    let a = assigned_at gate n at old tally (are_assigned gate n old tally refl) st in
    let c = further gate all at given (item.TypeCode f.code) n (end - ts - (len + 2)) 1 t.coded tally (omega arith) (omega arith) most a (omega arith) (t.code at.front at.cut st) in
    let there = size_after at c.to given 1 c.bytes (omega arith) in
    let b = assigned_at gate n c.to t.coded tally t.assigned c.reads in
    let k = text_further gate all c.to rest f.name n (end - ts) t.named tally b (omega arith) (t.name c.to.front c.to.cut c.reads) (omega arith) in
    let then = size_after c.to k.to rest (2 + len) k.bytes (omega arith) in
    let same : drop (len + 3) given ≡ drop (2 + len) rest = ap (λ j. drop j given) (let e : len + 3 ≡ 1 + (2 + len) = omega arith in e) ∙ sym (drop-drop (2 + len) 1 given) in
    let y : AllFurther gate all k.to (type_items f.type_handle n end) (take ts (drop (2 + len) rest)) new tally =
    subst (λ xs. AllFurther gate all k.to (type_items f.type_handle n end) (take ts xs) new tally) same
    (type_further gate all k.to (drop (len + 3) given) f.type_handle n end t.named new tally k.reads (omega arith) (omega arith) t.type) in
    let size : 1 + (2 + len + ts) ≡ len + (3 + ts) = omega arith in
    subst (λ j. AllFurther gate all at (field_items f (record { handles = n; end = end })) (take j given) new tally) size
    (one_then gate all at (shown (item.TypeCode f.code) n (end - ts - (len + 2))) (name_items f.name n (end - ts) ++ type_items f.type_handle n end) 1 (2 + len + ts) given t.coded tally new tally c
    (all_then gate all c.to (name_items f.name n (end - ts)) (type_items f.type_handle n end) (2 + len) ts rest t.named tally new tally k y (omega arith))
    (omega arith))

pub field_steps : (gate : Gate) (given : List ℕ) (f : Field) (old new : Seen) (tally : Tally) → TakesField given f old new
    → StepsOn gate given (field_items f (here old new)) (field_size f) old tally new tally
field_steps gate given f old new tally t =
    let tells = (t.takes.passes gate tally).tells in
    record {
      tells = tells;
      shows = λ at st.
          field_further gate (all_after at given) at given new.meter.at f old new tally st (length-append (bytes_at at) given)
          (taken_to gate given (field_size f) old tally new tally at tells st) t.takes.within (t.told gate tally);
    }
