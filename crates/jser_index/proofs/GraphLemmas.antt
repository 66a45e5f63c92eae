-- What a first walk has found, as a graph.
use Rattle.std.proofs.Common.{◌≡◌, ℕ, List, ◌∙◌, ap, refl, subst, Ok, Err}
use Rattle.jser_shown.specs.Finding.{Finding}
use Rattle.jser_shown.specs.Nodes.{Node as ToldNode}
use Rattle.jser_shown.specs.Owners.{OwnerNode as ToldOwner}
use Rattle.jser_reader.specs.declared.Stop.{Stop}
use Rattle.jser_reader.specs.declared.Stop.TheVariants as stop
use Rattle.jser_reader.specs.declared.Totals.{Totals}
use Rattle.jser_index.specs.Listed.{Listed, all_lists}
use Rattle.jser_index.specs.Reading.{IsRefused, Surveys}
use Rattle.jser_index.specs.Graphs.{StandsForSome, IfRefused}

-- the bytes that are held are those that were looked through
pub surveyed : (given bytes : List ℕ) (survey : Finding) (totals : Totals) → given ≡ bytes → Surveys given (Ok (record { survey = survey; totals = totals }))
    → Surveys bytes (Ok (record { survey = survey; totals = totals }))
surveyed given bytes survey totals same h = subst (λ bs. Surveys bs (Ok (record { survey = survey; totals = totals }))) same h

pub stands_for : (bytes : List ℕ) (survey : Finding) (totals : Totals) (nodes : Listed ToldNode) (owners : List ToldOwner) (names : List (List ℕ))
    → Surveys bytes (Ok (record { survey = survey; totals = totals })) → nodes ≡ record { ended = survey.ended; last = survey.nodes } → owners ≡ survey.owners
    → names ≡ survey.names
    → StandsForSome bytes (record { bytes = bytes; nodes = all_lists nodes; names = names; owners = owners; totals = totals })
unfolding Surveys
stands_for bytes survey totals nodes owners names h n o m = (
  h.0,
  record {
    bytes_are = refl;
    passes = h.1.passes;
    nodes_are = ap all_lists n ∙ h.1.nodes;
    names_are = m ∙ h.1.names;
    owners_are = o ∙ h.1.owners;
    totals_are = h.1.totals_are;
  },
)

pub is_refused : (bytes : List ℕ) (why : Stop) → Surveys bytes (Err why) → IfRefused (IsRefused bytes) why
unfolding Surveys
is_refused bytes (stop.Refused refusal) h = h
is_refused bytes stop.OutOfMemory h = h
is_refused bytes stop.Spent h = h
