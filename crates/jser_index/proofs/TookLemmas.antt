-- What a survey did with an item, and with the items of a value that is lent at once.
use denote.Bor.{Bor}
use Rattle.std.proofs.Common.{◌≡◌, ℕ, zero, suc, ◌+◌, ◌-◌, List, [], ◌∷◌, length, refl, sym, ◌∙◌, ap, subst, arith}
use Rattle.jser_prim.specs.ModifiedUtf8.{IsUnits, modified_utf8}
use Rattle.jser_grammar.specs.Wire.{TC_REFERENCE, TC_STRING}
use Rattle.jser_reading.specs.Labels.{StreamToken, text_token}
use Rattle.jser_reading.specs.TokenBytes.{bytes_of}
use Rattle.jser_shown.specs.Nodes.{place_after}
use Rattle.jser_shown.specs.Finding.{Finding, find}
use Rattle.jser_reader.specs.declared.Item.{Item}
use Rattle.jser_reader.specs.declared.Item.TheVariants as item
use Rattle.jser_reader.specs.declared.Whereabouts.{Whereabouts}
use Rattle.jser_reader.specs.declared.Whole.{Whole}
use Rattle.jser_reader.specs.declared.Whole.TheVariants as whole
use Rattle.jser_reader.specs.Visits.{TakesAll, shown, part_items, whole_items}
use Rattle.jser_printer.specs.declared.Token.TheVariants as lent
use Rattle.jser_printer.specs.Given.{IsOf}
use Rattle.jser_index.specs.Along.{Ends, IsLength, IsTextOf}
use Rattle.jser_index.specs.Surveying.{Took, GoesPast, GoesPastBoth, GoesPastWhole}

pub took : (lent : Item) (assigned end : ℕ) (old new : Finding)
    → ((told : StreamToken) → Ends lent told → place_after old.place (bytes_of told) ≡ end → new ≡ find assigned told old)
    → (IsLength lent → new ≡ old) → ((told : StreamToken) → Ends lent told → new.place ≡ end) → Took lent assigned end old new
took lent assigned end old new finds same place = record { finds = finds; same = same; place = place }

-- an item that is no length
ended : (lent : Item) (assigned end : ℕ) (old new : Finding) → (IsLength lent → ⊥) → GoesPast (Ends lent) assigned end old new → Took lent assigned end old new
ended lent assigned end old new none past = record { finds = past.finds; same = λ l. absurd (none l); place = λ told e. past.place }

-- the length of a text that goes on
length_only : (n assigned end : ℕ) (old : Finding) → Took (item.TextLength (suc n)) assigned end old old
length_only n assigned end old = record { finds = λ told e. absurd (none told e); same = λ l. refl; place = λ told e. absurd (none told e) }
  where
    none : (told : StreamToken) → Ends (item.TextLength (suc n)) told → ⊥
    none (text_token long units) e = let z = e.0 in omega arith
    none _ e = e

-- a text with its length
text_taken : (text : Bor (List ℕ)) (size assigned end : ℕ) (old new : Finding) → length text.now ≡ size → GoesPast (IsTextOf text.now) assigned end old new
    → TakesAll (λ lent at x y. Took lent at.handles at.end x y) (shown (item.TextLength size) assigned (end - size) ∷ part_items text assigned end size) old new
text_taken text zero assigned end old new none past = (
  new,
  record {
    finds = λ told e at. past.finds told (empty told e) (let z = at in omega arith);
    same = λ l. absurd (omega arith);
    place = λ told e. let z = past.place in omega arith;
  },
  refl,
)
  where
    no_bytes : (xs : List ℕ) → length xs ≡ 0 → [] ≡ xs
    no_bytes [] n = refl
    no_bytes (x ∷ xs) n = absurd (omega arith)

    empty : (told : StreamToken) → Ends (item.TextLength zero) told → IsTextOf text.now told
    empty (text_token long units) e = (subst IsUnits (sym e.1) refl, ap modified_utf8 e.1 ∙ no_bytes text.now none)
    empty _ e = absurd e
text_taken text (suc n) assigned end old new some past = (old, length_only n assigned (end - suc n) old, (new, part, refl))
  where
    of_text : (told : StreamToken) → Ends (item.TextPart text) told → IsTextOf text.now told
    of_text (text_token long units) e = e
    of_text _ e = absurd e

    part : Took (item.TextPart text) assigned end old new
    part = record { finds = λ told e. past.finds told (of_text told e); same = λ l. absurd l; place = λ told e. past.place }

both_taken : (handle assigned end : ℕ) (old new : Finding) → GoesPastBoth (IsOf (lent.Tag TC_REFERENCE)) (IsOf (lent.Handle handle)) assigned assigned (end - 4) end old new
    → TakesAll (λ lent at x y. Took lent at.handles at.end x y) (shown (item.Tag TC_REFERENCE) assigned (end - 4) ∷ (shown (item.Handle handle) assigned end ∷ [])) old new
both_taken handle assigned end old new past = (
  past.between,
  ended (item.Tag TC_REFERENCE) assigned (end - 4) old past.between (λ l. l) past.first,
  (new, ended (item.Handle handle) assigned end past.between new (λ l. l) past.second, refl),
)

pub took_whole : (w : Whole) (at : Whereabouts) (old new : Finding) → GoesPastWhole w at.handles at.end old new
    → TakesAll (λ lent at x y. Took lent at.handles at.end x y) (whole_items w at) old new
took_whole (whole.Reference handle) at old new past = both_taken handle at.handles at.end old new past
took_whole (whole.String text) at old new past =
    let size : 2 + length text.now ≡ length text.now + 2 = omega arith in (
      past.between,
      subst (λ n. Took (item.Tag TC_STRING) at.handles (at.end - n) old past.between) size
          (ended (item.Tag TC_STRING) at.handles (at.end - (2 + length text.now)) old past.between (λ l. l) past.first),
      text_taken text (length text.now) (at.handles + 1) at.end past.between new refl past.second,
    )
took_whole (whole.Owner tag class) at old new past =
    (past.within, ended (item.Tag tag) at.handles (at.end - 5) old past.within (λ l. l) past.own, both_taken class at.handles at.end past.within new past.class_is)
