-- A first walk goes past the tokens of a value that is lent at once, one after another.
use Rattle.std.proofs.Common.{◌≡◌, ℕ, ◌+◌, ◌-◌, List, length, Result, Ok, Err, OnOk, ◌∙◌, sym}
use Rattle.jser_reading.specs.Labels.{StreamToken}
use Rattle.jser_reading.specs.TokenBytes.{bytes_of}
use Rattle.jser_shown.specs.Nodes.{place_after}
use Rattle.jser_shown.specs.Finding.{Finding, find}
use Rattle.jser_printer.specs.declared.Token.TheVariants as lent
use Rattle.jser_printer.specs.Given.{IsOf}
use Rattle.jser_index.specs.Along.{IsTextOf}
use Rattle.jser_index.specs.Surveying.{IsQuiet, GoesPastBoth, GoesPastOwner}
use Rattle.jser_index.proofs.SurveyLemmas.{handle_quiet}

pub past_owner : (tag class assigned end middle : ℕ) (old within new : Finding) → middle ≡ end - 5
    → ((told : StreamToken) → IsOf (lent.Tag tag) told → place_after old.place (bytes_of told) ≡ middle → within ≡ find assigned told old) → within.place ≡ middle
    → GoesPastBoth (IsOf (lent.Tag 0x71)) (IsOf (lent.Handle class)) assigned assigned (end - 4) end within new → GoesPastOwner tag class assigned end old new
past_owner tag class assigned end middle old within new e finds place then = record {
  within = within;
  own = record { finds = λ told i at. finds told i (at ∙ sym e); place = place ∙ e };
  class_is = then;
}

pub past_reference : (handle assigned end middle : ℕ) (old between new : Finding) → middle ≡ end - 4
    → ((told : StreamToken) → IsOf (lent.Tag 0x71) told → place_after old.place (bytes_of told) ≡ middle → between ≡ find assigned told old) → between.place ≡ middle
    → ((told : StreamToken) → IsQuiet told → place_after between.place (bytes_of told) ≡ end → new ≡ find assigned told between) → new.place ≡ end
    → GoesPastBoth (IsOf (lent.Tag 0x71)) (IsOf (lent.Handle handle)) assigned assigned (end - 4) end old new
past_reference handle assigned end middle old between new e finds place then_finds then_place = record {
  between = between;
  first = record { finds = λ told i at. finds told i (at ∙ sym e); place = place ∙ e };
  second = record { finds = λ told i at. then_finds told (handle_quiet handle told i) at; place = then_place };
}

pub past_string : (text : List ℕ) (assigned end middle : ℕ) (old between new : Finding) → middle ≡ end - (2 + length text)
    → ((told : StreamToken) → IsOf (lent.Tag 0x74) told → place_after old.place (bytes_of told) ≡ middle → between ≡ find assigned told old) → between.place ≡ middle
    → ((told : StreamToken) → IsTextOf text told → place_after between.place (bytes_of told) ≡ end → new ≡ find (assigned + 1) told between) → new.place ≡ end
    → GoesPastBoth (IsOf (lent.Tag 0x74)) (IsTextOf text) assigned (assigned + 1) (end - (2 + length text)) end old new
past_string text assigned end middle old between new e finds place then_finds then_place = record {
  between = between;
  first = record { finds = λ told i at. finds told i (at ∙ sym e); place = place ∙ e };
  second = record { finds = then_finds; place = then_place };
}

pub ok_both : {T E P Q R : Type 0} (r : Result T E) → OnOk r P → OnOk r Q → (P → Q → R) → OnOk r R
ok_both (Ok x) p q f = f p q
ok_both (Err e) p q f = tt
