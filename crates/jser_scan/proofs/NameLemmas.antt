-- Where a class name stands that is told beside an answer.
use Rattle.std.specs.Io.KnownBytes.{Consumes, Keeps}
use Rattle.std.specs.declared.alloc.Global.{Global}
use Rattle.std.specs.declared.alloc.AllocError.{AllocError}
use Rattle.std.specs.Prelude.{IfOk, IfSome, Vec}
use Rattle.std.proofs.Common.{◌≡◌, ◌⊎◌, ◌<◌, ℕ, ◌+◌, ◌^◌, true, inl, inr, List, [], ◌++◌, length, drop, Option, Some, None, Result, Ok, Err, refl, sym, ap, subst, ◌∙◌, arith, append_assoc, length-append}
use Rattle.std.proofs.lemmas.List.{drop_at}
use Rattle.jser_prim.specs.ModifiedUtf8.{IsUnits, modified_utf8}
use Rattle.jser_grammar.specs.Caps.{most_bytes}
use Rattle.jser_anywhere.specs.NamesIn.{IsNamed, Named, Telling, TellsNext, class_in, names_in, untold}
use Rattle.jser_anywhere.specs.Standing.{Begins, StandsAt}
use Rattle.jser_anywhere.specs.declared.Stand.{Stand}
use Rattle.jser_anywhere.proofs.NamedLemmas.{names_stand}
use Rattle.jser_anywhere.proofs.PrefixLemmas.{stands_for_good}
use Rattle.jser_check.specs.Sources.{TakesAtMost}
use Rattle.jser_scan.specs.declared.found.Found.{Found}
use Rattle.jser_scan.specs.declared.found.Found.TheVariants as found
use Rattle.jser_scan.specs.Devices.{HasGiven, KeepsEnd}
use Rattle.jser_scan.specs.LastSeen.{AreLast, KeepsEndOfFront, LastSeen, StandsBetween}
use Rattle.jser_scan.specs.NamePlaces.{HidesNone, NameStands, ReadsPassing, SpellsNone, TellsName}
use Rattle.jser_scan.specs.declared.check.Rules.{Rules}
use Rattle.jser_scan.specs.Founds.{IsNameFor, IsRefusal, IsRefusedName, found_of, is_of_class, options_in}
use Rattle.jser_scan.proofs.LastLemmas.{between_one}
use Rattle.jser_check.specs.Passing.{passes_name}
use Rattle.jser_reader.specs.declared.Reason.{Reason}
use Rattle.jser_reader.specs.declared.Reason.TheVariants as reason
use Rattle.jser_reader.specs.declared.Refusal.{Refusal}

-- ---- the text of a token

between_more : (bytes more : List ℕ) (start end : ℕ) (part : List ℕ) → StandsBetween bytes start end part → StandsBetween (bytes ++ more) start end part
between_more bytes more start end part s = record {
  before = s.before;
  after = s.after ++ more;
  split =
      ap (λ xs. xs ++ more) s.split ∙ append_assoc s.before (part ++ s.after) more ∙ ap (λ xs. s.before ++ xs) (append_assoc part s.after more);
  begins = s.begins;
  ends = s.ends;
}

pub token_named : (bytes text : List ℕ) (from start to : ℕ) (units : Vec ℕ Global) (result : Option (Vec ℕ Global)) → StandsBetween bytes start to text → start ≡ from + 2
    → modified_utf8 units.items ≡ text → IfSome result (λ told. told.items ≡ units.items)
    → IfSome result (λ told. StandsBetween bytes (from + 2) to (modified_utf8 told.items))
token_named bytes text from start to units None s at spelled same = tt
token_named bytes text from start to units (Some told) s at spelled same =
    subst (λ xs. StandsBetween bytes (from + 2) to xs) (sym (ap modified_utf8 same ∙ spelled)) (subst (λ n. StandsBetween bytes n to text) at s)

-- ---- a name at any place

stands_inside : (bytes part : List ℕ) (from to : ℕ) (units : List ℕ) → StandsBetween bytes from to part → StandsAt part 0 (length part) units
    → StandsAt bytes from to units
stands_inside bytes part from to units s inside =
    let long = stands_for_good part s.after 0 (length part) units inside in
    let there : drop from bytes ≡ part ++ s.after = ap (λ xs. drop from xs) s.split ∙ drop_at s.before (part ++ s.after) from s.begins in
    let e = long.ends in
    let t = s.ends in
    record {
      end = long.end;
      begins = subst (λ xs. Begins xs long.end units) (sym there) long.begins;
      ends = omega arith;
    }

pub class_named : (bytes part : List ℕ) (from to : ℕ) (class : Vec ℕ Global) (result : Option (Vec ℕ Global)) → StandsBetween bytes from to part
    → StandsAt part 0 (length part) class.items → IfSome result (λ told. told.items ≡ class.items) → IfSome result (λ told. StandsAt bytes from to told.items)
class_named bytes part from to class None s inside same = tt
class_named bytes part from to class (Some told) s inside same =
    subst (λ xs. StandsAt bytes from to xs) (sym same) (stands_inside bytes part from to class.items s inside)

-- ---- an input that keeps the last bytes that it gave

pub gives_more : (had has : Option (List ℕ)) (old new : LastSeen) (front all : List ℕ) → Consumes had has front
    → ((before : List ℕ) → AreLast old before → AreLast new (before ++ front)) → KeepsEnd had old all → KeepsEnd has new all
gives_more None has old new front all off grows k = absurd k
gives_more (Some xs) None old new front all off grows k = absurd off
gives_more (Some xs) (Some ys) old new front all off grows k = record {
  given = k.given ++ front;
  split = k.split ∙ ap (λ zs. k.given ++ zs) off ∙ sym (append_assoc k.given front ys);
  ends = grows k.given k.ends;
}

pub gives_none : (had has : Option (List ℕ)) (last : LastSeen) (all : List ℕ) → Keeps had has → KeepsEnd had last all → KeepsEnd has last all
gives_none None has last all off k = absurd k
gives_none (Some xs) None last all off k = absurd off
gives_none (Some xs) (Some ys) last all off k = subst (λ zs. HasGiven last zs all) (sym off) k

pub front_kept : (had has : Option (List ℕ)) (old new : LastSeen) → AreLast old [] → ((all : List ℕ) → KeepsEnd had old all → KeepsEnd has new all)
    → TakesAtMost (most_bytes + 1) had has → IfSome had (λ bytes. KeepsEndOfFront new bytes)
front_kept None has old new starts keeps few = tt
front_kept (Some all) None old new starts keeps few = absurd few.off
front_kept (Some all) (Some rest) old new starts keeps few =
    let k = keeps all (record { given = []; split = refl; ends = starts }) in
    let g = ap length k.split ∙ length-append k.given rest in
    let b = ap length few.off ∙ length-append few.bytes rest in
    let f = few.few in
    record { front = k.given; rest = rest; split = k.split; few = omega arith; ends = k.ends }

-- ---- a file

name_longer : (bytes more : List ℕ) (result : Found) → NameStands bytes result → NameStands (bytes ++ more) result
name_longer bytes more (found.Accepted totals) is = tt
name_longer bytes more (found.Refused refusal None) is = tt
name_longer bytes more (found.Refused refusal (Some units)) is = between_more bytes more (refusal.from_byte + 2) refusal.to_byte (modified_utf8 units.items) is
name_longer bytes more (found.Hidden from to None) is = tt
name_longer bytes more (found.Hidden from to (Some units)) is = stands_for_good bytes more from to units.items is
name_longer bytes more found.NotOpened is = tt
name_longer bytes more (found.NotRead fault) is = tt
name_longer bytes more found.OutOfMemory is = tt

pub nothing_told : (told : Option (List ℕ)) → IfSome told (λ bytes. Unit {0})
nothing_told None = tt
nothing_told (Some bytes) = tt

pub name_told : (had has : Option (List ℕ)) (old new : LastSeen) (result : Found) → AreLast old [] → ((all : List ℕ) → KeepsEnd had old all → KeepsEnd has new all)
    → TakesAtMost (most_bytes + 1) had has → ((bytes : List ℕ) → AreLast new bytes → length bytes < 2 ^ 64 → NameStands bytes result)
    → IfSome had (λ bytes. NameStands bytes result)
name_told None has old new result starts keeps few stands = tt
name_told (Some all) has old new result starts keeps few stands =
    let f = front_kept (Some all) has old new starts keeps few in
    subst (λ bytes. NameStands bytes result) (sym f.split) (name_longer f.front f.rest result (stands f.front f.ends f.few))

-- ---- a refusal, and the name beside it

-- of a class
pub is_refusal : (rules : Rules) (refusal : Refusal) (class : Result (Option (Vec ℕ Global)) AllocError) → IfOk class (IsRefusedName rules) → is_of_class refusal.reason ≡ true
    → IsRefusal rules refusal (found_of refusal class)
is_refusal rules refusal (Err why) refuses is = tt
is_refusal rules refusal (Ok class) refuses is = (refl, named refusal.reason is)
  where
    named : (why : Reason) → is_of_class why ≡ true → IsNameFor rules why class
    named reason.ClassRejected is = refuses
    named reason.ClassUnmatched is = refuses
    named _ is = absurd (cc)

-- where a name is told, it stands there
pub names_refusal : (bytes : List ℕ) (refusal : Refusal) (class : Result (Option (Vec ℕ Global)) AllocError)
    → IfOk class (λ told. IfSome told (λ units. StandsBetween bytes (refusal.from_byte + 2) refusal.to_byte (modified_utf8 units.items))) → NameStands bytes (found_of refusal class)
names_refusal bytes refusal (Err why) stands = tt
names_refusal bytes refusal (Ok class) stands = stands

-- where none is told, the token spells none
pub tells_in : (rules : Rules) (bytes : List ℕ) (refusal : Refusal) (class : Result (Option (Vec ℕ Global)) AllocError)
    → (class ≡ Ok None → SpellsNone rules bytes refusal.from_byte refusal.to_byte) → TellsName rules bytes (found_of refusal class)
tells_in rules bytes refusal (Err why) none = tt
tells_in rules bytes refusal (Ok None) none = λ is. none refl
tells_in rules bytes refusal (Ok (Some units)) none = tt

-- or its bytes are kept no more
pub tells_last : (rules : Rules) (bytes : List ℕ) (refusal : Refusal) (class : Result (Option (Vec ℕ Global)) AllocError) (Gone : Type 0)
    → (class ≡ Ok None → Gone ⊎ SpellsNone rules bytes refusal.from_byte refusal.to_byte) → Gone ⊎ TellsName rules bytes (found_of refusal class)
tells_last rules bytes refusal (Err why) Gone none = inr tt
tells_last rules bytes refusal (Ok None) Gone none = elim (none refl) [ inl gone ↦ inl gone | inr spells ↦ inr (λ is. spells) ]
tells_last rules bytes refusal (Ok (Some units)) Gone none = inr tt

-- ---- a name that is not told

-- a text that is no refused name is the only one between two places
pub spells_none : (rules : Rules) (bytes text : List ℕ) (from start to : ℕ) → StandsBetween bytes start to text → start ≡ from + 2
    → ((units : List ℕ) → IsUnits units → modified_utf8 units ≡ text → passes_name rules.filter (options_in rules) units ≡ true) → SpellsNone rules bytes from to
spells_none rules bytes text from start to s at passes = λ units is there.
    passes units is (between_one bytes (modified_utf8 units) text (from + 2) to there (subst (λ n. StandsBetween bytes n to text) at s))

-- no text stands between them
pub none_between : (rules : Rules) (bytes : List ℕ) (from to : ℕ) → ((text : List ℕ) → StandsBetween bytes (from + 2) to text → ⊥) → SpellsNone rules bytes from to
none_between rules bytes from to none = λ units is there. absurd (none (modified_utf8 units) there)

-- no part stands there, or its bytes are kept no more
pub gone_or_none : (rules : Rules) (last : LastSeen) (bytes : List ℕ) (from start to : ℕ) → start ≡ from + 2
    → (start + length last.kept < length bytes) ⊎ ((part : List ℕ) → StandsBetween bytes start to part → ⊥)
    → (from + 2 + length last.kept < length bytes) ⊎ SpellsNone rules bytes from to
gone_or_none rules last bytes from start to at (inl gone) = inl (omega (arith, at, gone))
gone_or_none rules last bytes from start to at (inr none) = inr (none_between rules bytes from to (λ text there. none text (subst (λ n. StandsBetween bytes n to text) (sym at) there)))

pub gone_or_hidden : (rules : Rules) (last : LastSeen) (bytes : List ℕ) (from to : ℕ)
    → (from + length last.kept < length bytes) ⊎ ((part : List ℕ) → StandsBetween bytes from to part → ⊥) → (from + length last.kept < length bytes) ⊎ HidesNone rules bytes from to
gone_or_hidden rules last bytes from to (inl gone) = inl gone
gone_or_hidden rules last bytes from to (inr none) = inr (λ part there. absurd (none part there))

-- one that is read stands alone there too
pub hides_none : (rules : Rules) (bytes part : List ℕ) (from to : ℕ) → StandsBetween bytes from to part
    → ((units : List ℕ) → StandsAt part 0 (length part) units → ⊥) ⊎ ReadsPassing rules part → HidesNone rules bytes from to
hides_none rules bytes part from to s why = λ other there.
    subst (λ xs. ((units : List ℕ) → StandsAt xs 0 (length xs) units → ⊥) ⊎ ReadsPassing rules xs) (between_one bytes part other from to s there) why
