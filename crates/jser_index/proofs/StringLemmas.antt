-- A string that is lent at once: its tag begins a node, which is made at its text.
use Rattle.std.proofs.Common.{◌≡◌, ℕ, ◌+◌, ◌-◌, ◌<◌, ◌≤◌, true, false, List, [], ◌∷◌, ◌++◌, length, Some, refl, ◌∙◌, ap, subst, arith, length-append}
use Rattle.jser_prim.specs.ModifiedUtf8.{IsUnits, modified_utf8}
use Rattle.jser_reading.specs.TokenBytes.{bytes_of, tag_byte}
use Rattle.jser_reading.specs.Labels.{Tag, null_tag, reference_tag, class_desc_tag, object_tag, string_tag, array_tag, class_tag, long_string_tag, proxy_desc_tag, enum_tag, StreamToken, tag_token, block_tag_token, end_tag_token, reset_tag_token, text_token}
use Rattle.jser_shown.specs.Nodes.{Node, place_after, text_node}
use Rattle.jser_shown.specs.Finding.{Finding, node_made, make_begun, begin_kind, kind_begun, take_token, find}
use Rattle.jser_shown.specs.Finding.{Begun as ToldBegun}
use Rattle.jser_printer.specs.declared.Token.TheVariants as lent
use Rattle.jser_printer.specs.Given.{IsOf}
use Rattle.jser_index.specs.Along.{IsTextOf}
use Rattle.jser_index.specs.Listed.{Listed}
use Rattle.jser_index.specs.StoredNodes.{AddsNode}
use Rattle.jser_index.specs.Surveying.{IsPlain, AddsString, GoesPastBoth}
use Rattle.jser_index.proofs.SurveyLemmas.{finds_made, finds_unmade, tag_plain, tag_no_name}

string_begins : (tag : Tag) → 0x74 ≡ tag_byte tag → Some text_node ≡ kind_begun tag
string_begins string_tag is = refl
string_begins null_tag is = absurd (omega arith)
string_begins reference_tag is = absurd (omega arith)
string_begins class_desc_tag is = absurd (omega arith)
string_begins object_tag is = absurd (omega arith)
string_begins array_tag is = absurd (omega arith)
string_begins class_tag is = absurd (omega arith)
string_begins long_string_tag is = absurd (omega arith)
string_begins proxy_desc_tag is = absurd (omega arith)
string_begins enum_tag is = absurd (omega arith)

tag_taken : (told : StreamToken) (now : Finding) → IsOf (lent.Tag 0x74) told
    → record (begin_kind (Some text_node) now) { is_name = true } ≡ take_token told now
tag_taken (tag_token tag) now is = ap (λ k. record (begin_kind k now) { is_name = true }) (string_begins tag is)
tag_taken (block_tag_token false) now is = absurd (omega arith)
tag_taken (block_tag_token true) now is = absurd (omega arith)
tag_taken end_tag_token now is = absurd (omega arith)
tag_taken reset_tag_token now is = absurd (omega arith)
tag_taken _ now is = absurd is

-- the text of a node that is made at it
text_made : (text units : List ℕ) (assigned middle end : ℕ) (now new : Finding) (told : StreamToken) → length now.nodes ≤ assigned
    → ((us : List ℕ) → IsUnits us → modified_utf8 us ≡ text → units ≡ us)
    → new ≡ record now { nodes = now.nodes ++ (record { kind = text_node; place = now.place; units = Some units } ∷ []); is_name = true; place = end }
    → IsTextOf text told → place_after middle (bytes_of told) ≡ end
    → new ≡ find (assigned + 1) told (record (begin_kind (Some text_node) now) { is_name = true; place = middle })
text_made text units assigned middle end now new (text_token long us) le spelled is of at =
    let between : Finding = record (begin_kind (Some text_node) now) { is_name = true; place = middle } in
    let made : Finding = make_begun (text_token long us) between.begun between in
    finds_made (text_token long us) (assigned + 1) end between made made new (omega arith) refl refl
    (is ∙ ap (λ u. record now { nodes = now.nodes ++ (record { kind = text_node; place = now.place; units = Some u } ∷ []); is_name = true; place = end }) (spelled us of.0 of.1)) at
text_made text units assigned middle end now new _ le spelled is of at = absurd of

nodes_made : (told : StreamToken) (begun : List ToldBegun) (now : Finding) → length (make_begun told begun now).nodes ≤ length now.nodes + 1
nodes_made told [] now = omega arith
nodes_made told (b ∷ begun) now = let n = length-append now.nodes (node_made b told ∷ []) in omega arith

adds_string : (text units : List ℕ) (end : ℕ) (old new : Finding) → ((told : List ℕ) → IsUnits told → modified_utf8 told ≡ text → units ≡ told)
    → new ≡ record old { nodes = old.nodes ++ (record { kind = text_node; place = old.place; units = Some units } ∷ []); is_name = true; place = end }
    → AddsString text end old new
adds_string text units end old new spelled is = record { units = units; spelled = spelled; is = is }

pub string_added : (text : List ℕ) (end : ℕ) (old new seen : Finding) (nodes : Listed Node) → seen ≡ old
    → AddsNode text seen.place (record { ended = seen.ended; last = seen.nodes }) nodes
    → new ≡ record seen { nodes = nodes.last; ended = nodes.ended; is_name = true; place = end } → AddsString text end old new
string_added text end old new seen nodes same adds is =
    subst (λ x. AddsString text end x new) same
    (adds_string text adds.units end seen new adds.spelled
    (is ∙ ap (λ n. record seen { nodes = n.last; ended = n.ended; is_name = true; place = end }) adds.is))

-- where a node was made before the tag
pub string_made : (text : List ℕ) (assigned end : ℕ) (old made new : Finding) → length old.nodes < assigned
    → ((told : StreamToken) → IsPlain told → made ≡ make_begun told old.begun old) → AddsString text end made new
    → GoesPastBoth (IsOf (lent.Tag 0x74)) (IsTextOf text) assigned (assigned + 1) (end - (2 + length text)) end old new
string_made text assigned end old made new less is_made adds =
    let middle : ℕ = end - (2 + length text) in
    let tag : StreamToken = tag_token string_tag in
    let some = nodes_made tag old.begun old in
    let count = ap (λ x. length x.nodes) (is_made tag tt) in
    record {
      between = record (begin_kind (Some text_node) made) { is_name = true; place = middle };
      first = record {
        finds = λ told i at.
            finds_made told assigned middle old made (record (begin_kind (Some text_node) made) { is_name = true }) _ less (is_made told (tag_plain 0x74 told i)) (tag_taken told made i) refl at;
        place = refl;
      };
      second = record {
        finds = λ told i at. text_made text adds.units assigned middle end made new told (omega arith) adds.spelled adds.is i at;
        place = ap (λ x. x.place) adds.is;
      };
    }

-- where none was
pub string_unmade : (text : List ℕ) (assigned end : ℕ) (old new : Finding) → assigned ≤ length old.nodes → length old.nodes ≤ assigned → AddsString text end old new
    → GoesPastBoth (IsOf (lent.Tag 0x74)) (IsTextOf text) assigned (assigned + 1) (end - (2 + length text)) end old new
string_unmade text assigned end old new le few adds =
    let middle : ℕ = end - (2 + length text) in
    record {
      between = record (begin_kind (Some text_node) old) { is_name = true; place = middle };
      first = record {
        finds = λ told i at.
            finds_unmade told assigned middle old old (record (begin_kind (Some text_node) old) { is_name = true }) _ le (tag_no_name 0x74 told old i) (tag_taken told old i) refl at;
        place = refl;
      };
      second = record {
        finds = λ told i at. text_made text adds.units assigned middle end old new told few adds.spelled adds.is i at;
        place = ap (λ x. x.place) adds.is;
      };
    }
