-- The first walk along the bytes of a stream.
use Rattle.std.proofs.Common.{◌≡◌, inl, inr, ℕ, ◌+◌, List, [], ◌∷◌, ◌++◌, length, Result, Ok, Err, sym, ◌∙◌, ap, ap₂, subst, append-nil, length-append}
use Rattle.jser_grammar.specs.Trees.{ContentTrees}
use Rattle.jser_reading.specs.Labels.{StreamToken, Label, Piece, piece}
use Rattle.jser_reading.specs.TokenBytes.{bytes_of, joined}
use Rattle.jser_reading.specs.Tokens.{tokens_of}
use Rattle.jser_reading.specs.ByteLaws.{OneReading}
use Rattle.jser_shown.specs.Finding.{Finding, begin_finding, find, found, finished, nodes_found}
use Rattle.jser_shown.specs.Laws.{Found}
use Rattle.jser_shown.specs.FrontLaws.{FindsFronts}
use Rattle.jser_verdict.specs.Passing.{Passes}
use Rattle.jser_reader.specs.Gates.{open_gate}
use Rattle.jser_reader.specs.declared.Stop.{Stop}
use Rattle.jser_reader.specs.declared.Stop.TheVariants as stop
use Rattle.jser_reader.specs.declared.Totals.{Totals}
use Rattle.jser_reader.specs.declared.tally.Tally.{Tally}
use Rattle.jser_reader.specs.Readers.{Seen}
use Rattle.jser_reader.specs.ReaderStates.{FinishTells, IsSpent}
use Rattle.jser_reader.specs.Tallies.{AreTotals}
use Rattle.jser_reader.specs.Streams.{AreTruncated}
use Rattle.jser_reader.specs.ItemsTold.{TellsTokens}
use Rattle.jser_index.specs.Surveying.{IsAt}
use Rattle.jser_index.specs.Along.{Where}
use Rattle.jser_index.specs.Reading.{SurveysAlong, IsOfList, Walks, Surveys}
use Rattle.jser_index.proofs.TurnLemmas.{stands_for, whole, joined_one}

-- ---- refusals

pub memory_out : (bytes : List ℕ) (survey : Finding) → Walks bytes survey (Err stop.OutOfMemory)
unfolding Walks
memory_out bytes survey = tt

pub finish_stops : (bytes rest : List ℕ) (why : Stop) (r : Seen) (tally : Tally) (new : Seen) (survey : Finding)
    → SurveysAlong bytes rest r tally survey → length rest ≡ 0 → FinishTells open_gate (Err why) r tally new → (last : Finding) → Walks bytes last (Err why)
unfolding FinishTells Walks
finish_stops bytes rest (stop.Refused refusal) r tally new survey h n t last =
    inr (subst (λ xs. AreTruncated open_gate xs refusal) (sym (whole bytes rest h.front h.cut h.split n))
    (t (joined h.front ++ h.cut) (stands_for open_gate h.front h.cut r tally h.stands)).0)
finish_stops bytes rest stop.OutOfMemory r tally new survey h n t last = tt
finish_stops bytes rest stop.Spent r tally new survey h n t last = t (joined h.front ++ h.cut) (stands_for open_gate h.front h.cut r tally h.stands)

-- ---- an item

pub is_after : (front : List Piece) (label : Label) (told : StreamToken) (assigned : ℕ) (old new : Finding) → FindsFronts → length label.moment.table ≡ assigned
    → IsAt front old → new ≡ find assigned told old → new.place ≡ length (joined front) + length (bytes_of told) → IsAt (front ++ (piece label told ∷ [])) new
is_after front label told assigned old new fronts handles at is place = record {
  found_are =
      is ∙ ap₂ (λ n x. find n told x) (sym handles) at.found_are
      ∙ sym (fronts begin_finding front (piece label told ∷ []));
  place =
      place ∙ sym (length-append (joined front) (bytes_of told)) ∙ ap length (sym (joined_one front label told));
}

-- ---- the end

-- the laws by which what was found is that of the list
pub record Laws : Type 0 where
  pub one_reading : OneReading
  pub found : Found

found_of : (bytes : List ℕ) (list other : ContentTrees) (front : List Piece) (old new : Finding) (totals : Totals) → Laws → IsAt front old → new ≡ finished old
    → Passes open_gate bytes list → front ≡ tokens_of list → Passes open_gate bytes other → AreTotals bytes other totals
    → IsOfList bytes new totals list
found_of bytes list other front old new totals laws at ended passes tokens p are =
    let is : new ≡ finished (found begin_finding (tokens_of list)) =
    ended ∙ ap finished (at.found_are ∙ ap (found begin_finding) tokens) in
    let law = laws.found list passes.0.1 in
    record {
      passes = passes;
      totals_are = subst (λ l. AreTotals bytes l totals) (sym (laws.one_reading bytes list other passes.0 p.0)) are;
      nodes = ap nodes_found is ∙ law.0;
      owners = ap (λ x. x.owners) is ∙ law.1;
      names = ap (λ x. x.names) is ∙ law.2;
    }

pub finishes : (bytes rest : List ℕ) (totals : Totals) (r : Seen) (tally : Tally) (after : Seen) (old new : Finding) → Laws
    → SurveysAlong bytes rest r tally old → length rest ≡ 0 → new ≡ finished old → FinishTells open_gate (Ok totals) r tally after
    → TellsTokens open_gate (Ok totals) r tally → Walks bytes new (Ok totals)
unfolding FinishTells TellsTokens Walks
finishes bytes rest totals r tally after old new laws h n ended t f =
    let x = f h.front h.cut h.stands in
    let y = t (joined h.front ++ h.cut) (stands_for open_gate h.front h.cut r tally h.stands) in
    let is = whole bytes rest h.front h.cut h.split n in
    let tokens_are : joined h.front ≡ bytes = sym (append-nil (joined h.front)) ∙ ap (λ c. joined h.front ++ c) (sym x.0) ∙ sym is in
    goes x.0 x.1 y is tokens_are h.where_it_is
  where
    goes : h.cut ≡ [] → ((list : ContentTrees) × Passes open_gate (joined h.front) list × (h.front ≡ tokens_of list))
        → (((list : ContentTrees) × Passes open_gate (joined h.front ++ h.cut) list × AreTotals (joined h.front ++ h.cut) list totals) × IsSpent after)
        → bytes ≡ joined h.front ++ h.cut → joined h.front ≡ bytes → Where open_gate (λ front. IsAt front old) h.front h.cut rest
        → (list : ContentTrees) × IsOfList bytes new totals list
    goes none x y is same (inl (b, at)) = (
      x.0,
      found_of bytes x.0 y.0.0 h.front old new totals laws at ended (subst (λ xs. Passes open_gate xs x.0) same x.1) x.2
          (subst (λ xs. Passes open_gate xs y.0.0) (sym is) y.0.1) (subst (λ xs. AreTotals xs y.0.0 totals) (sym is) y.0.2),
    )
    goes none x y is same (inr s) = absurd (s.some none)

pub at_none : (survey : Finding) → survey ≡ begin_finding → IsAt [] survey
at_none survey b = record { found_are = b; place = ap (λ x. x.place) b }

pub laws_of : OneReading → Found → Laws
laws_of one found = record { one_reading = one; found = found }

pub found_ok : (bytes : List ℕ) (survey : Finding) (totals : Totals) → Walks bytes survey (Ok totals)
    → Surveys bytes (Ok (record { survey = survey; totals = totals }))
unfolding Walks Surveys
found_ok bytes survey totals h = h

pub found_err : (bytes : List ℕ) (survey : Finding) (why : Stop) → Walks bytes survey (Err why) → Surveys bytes (Err why)
unfolding Walks Surveys
found_err bytes survey (stop.Refused refusal) h = h
found_err bytes survey stop.OutOfMemory h = h
found_err bytes survey stop.Spent h = h

pub finish_walks : (bytes rest : List ℕ) (result : Result Totals Stop) (r : Seen) (tally : Tally) (after : Seen) (old new : Finding) → Laws
    → SurveysAlong bytes rest r tally old → length rest ≡ 0 → new ≡ finished old → FinishTells open_gate result r tally after
    → TellsTokens open_gate result r tally → Walks bytes new result
finish_walks bytes rest (Ok totals) r tally after old new laws h n ended t f = finishes bytes rest totals r tally after old new laws h n ended t f
finish_walks bytes rest (Err why) r tally after old new laws h n ended t f = finish_stops bytes rest why r tally after old h n t new
