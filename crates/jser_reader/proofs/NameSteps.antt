-- The name of a class that is taken in one step with its length.
use Rattle.std.proofs.Common.{◌≡◌, ℕ, ◌+◌, ◌^◌, ◌<◌, ◌≤◌, List, [], ◌++◌, length, get_or, take, drop, Some, None, refl, sym, ◌∙◌, ap, ap₂, subst, arith, get_or-take, get_or-drop}
use Rattle.std.specs.Prelude.{slice_index}
use Rattle.std.proofs.lemmas.List.{length-drop, length-take-le, take-append-drop}
use Rattle.jser_prim.specs.Bytes.{big_bytes}
use Rattle.jser_prim.specs.ModifiedUtf8.{modified_utf8}
use Rattle.jser_prim.specs.WholeUnits.{IsAsciiBetween}
use Rattle.jser_verdict.specs.Gates.{Gate}
use Rattle.jser_verdict.specs.Verdicts.{class_name_reason}
use Rattle.jser_reader.specs.declared.machine.flow.Flow.{Flow}
use Rattle.jser_reader.specs.declared.machine.flow.Flow.TheVariants as flow
use Rattle.jser_reader.specs.declared.machine.take.taken.Taken.TheVariants as taken
use Rattle.jser_reader.specs.declared.phase.Phase.TheVariants as phase
use Rattle.jser_reader.specs.declared.phase.TextFor.TheVariants as text
use Rattle.jser_reader.specs.declared.tally.Tally.{Tally}
use Rattle.jser_reader.specs.ClassNames.{name_in, HasName, with_name, JudgesName}
use Rattle.jser_reader.specs.Readers.{Seen, head_role}
use Rattle.jser_reader.specs.Handlers.{TellsSurely}
use Rattle.jser_reader.specs.TextStates.{named_state}
use Rattle.jser_reader.specs.Walks.{Takes, Counts}
use Rattle.jser_reader.specs.Takes.{farther, TakesFromFor}
use Rattle.jser_reader.specs.Passes.{Passes, CanPass}
use Rattle.jser_reader.specs.Wholes.{all_or_none}
use Rattle.jser_reader.proofs.PassLemmas.{quiet_stopped, joined_takes, quiet_takes, passes_stop}
use Rattle.jser_reader.proofs.PlainTextLemmas.{plain_units}
use Rattle.jser_reader.proofs.TakeLemmas.{counts_bytes}
use Rattle.jser_reader.proofs.TextLemmas.{class_name_ends}
use Rattle.jser_reader.proofs.TextSteps.{short_text_found}

-- what the code looks at
pub plain_name : (len : ℕ) (piece number : List ℕ) → 2 ≤ length piece → number ≡ take 2 piece → big_bytes 2 len ≡ number → len < 2 ^ 16
    → IsAsciiBetween piece 2 (len + 2) → len + 2 ≤ length piece → HasName piece len
plain_name len piece number enough en eb small plain within =
    let after : List ℕ = drop 2 piece in
    let text : List ℕ = take len after in
    let n = length-drop 2 piece in
    let size : length text ≡ len = length-take-le len after (omega arith) in
    let at : (k : ℕ) → k < len → get_or text k 0 ≡ slice_index piece (2 + k) = λ k inside. get_or-take len after k 0 inside ∙ get_or-drop 2 piece k 0 in
    let units = plain_units text (λ k inside.
    let before : k < len = omega (arith, inside, size) in
    subst (λ b. (1 ≤ b) × (b < 0x80)) (sym (at k before)) (plain (2 + k) (omega arith) (omega (arith, before)))) in
    let long : length (modified_utf8 text) ≡ len = ap length units.1 ∙ size in
    record {
      within = within;
      are_text = (units.0, omega arith);
      spelled =
          ap₂ (λ k bytes. big_bytes 2 k ++ bytes) long units.1 ∙ ap (λ a. a ++ text) (eb ∙ en)
          ∙ joined_takes piece after 2 len (omega arith) (sym (take-append-drop 2 piece));
    }

-- the name was kept and its bytes were counted, and it is judged
pub name_passes : (gate : Gate) (len : ℕ) (found : Flow) (piece : List ℕ) (old mid new : Seen) (tally : Tally) → CanPass old piece → old.phase ≡ phase.Length2
    → old.text ≡ text.ClassName → HasName piece len
    → TellsSurely (class_name_reason gate (head_role mid) mid.name) (named_state mid mid.name) found mid new
    → mid ≡ with_name (farther old (2 + len)) (name_in piece len) → Passes gate piece (all_or_none found (2 + len)) old tally new tally
unfolding TakesFromFor
name_passes gate len found piece old mid new tally can ep et h told em = go found told
  where
    enough : 2 + len ≤ length piece
    enough = let w = h.within in omega arith

    text_is : mid.text ≡ text.ClassName
    text_is = ap (λ r. r.text) em ∙ et

    name_is : mid.name ≡ name_in piece len
    name_is = ap (λ r. r.name) em

    size : length (take (2 + len) piece) ≡ 2 + len
    size = length-take-le (2 + len) piece enough

    counts : Counts (take (2 + len) piece) old mid
    counts =
        subst (Counts (take (2 + len) piece) old) (sym em)
        (let c = counts_bytes (take (2 + len) piece) (2 + len) old (farther old (2 + len)) refl size in
        record { at = c.at; from = c.from; limits = c.limits; frames = c.frames; layers = c.layers; table = c.table; refs = c.refs; owner = c.owner; elements = c.elements; header = c.header; text = c.text })

    taken_whole : (found : Flow) → TellsSurely (class_name_reason gate (head_role mid) mid.name) (named_state mid mid.name) found mid new
        → Takes gate (take (2 + len) piece) found old new
    taken_whole found told =
        short_text_found gate found old mid new (take (2 + len) piece) (name_in piece len)
        (λ inside. class_name_ends gate found mid new told text_is (name_in piece len) (record { inside = inside; kept = λ checked. name_is }))
        ep (omega (arith, size)) counts h.are_text h.spelled

    go : (found : Flow) → TellsSurely (class_name_reason gate (head_role mid) mid.name) (named_state mid mid.name) found mid new
        → Passes gate piece (all_or_none found (2 + len)) old tally new tally
    go flow.On told = quiet_takes gate (2 + len) piece old new tally enough (taken_whole flow.On told) (rw ep tt) can
    go flow.Stopped told = passes_stop gate (2 + len) (taken.Stopped (2 + len)) piece old new tally tally (stops told) refl can (quiet_stopped old tally (rw ep tt))
      where
        stops : TellsSurely (class_name_reason gate (head_role mid) mid.name) (named_state mid mid.name) flow.Stopped mid new
            → TakesFromFor gate (taken.Stopped (2 + len)) piece old new
        stops told = (omega arith, enough, taken_whole flow.Stopped told)

pub name_ends : (gate : Gate) (len : ℕ) (found : Flow) (piece : List ℕ) (old mid new : Seen) (tally : Tally) → CanPass old piece → old.phase ≡ phase.Length2
    → HasName piece len × (old.text ≡ text.ClassName) → JudgesName gate found mid new → mid ≡ with_name (farther old (2 + len)) (name_in piece len)
    → found ≡ flow.On → Passes gate piece (Some (2 + len)) old tally new tally
unfolding JudgesName
name_ends gate len found piece old mid new tally can ep h told em e =
    subst (λ b. Passes gate piece (all_or_none b (2 + len)) old tally new tally) e (name_passes gate len found piece old mid new tally can ep h.1 h.0 told em)

pub name_stops : (gate : Gate) (len : ℕ) (found : Flow) (piece : List ℕ) (old mid new : Seen) (tally : Tally) → CanPass old piece → old.phase ≡ phase.Length2
    → HasName piece len × (old.text ≡ text.ClassName) → JudgesName gate found mid new → mid ≡ with_name (farther old (2 + len)) (name_in piece len)
    → found ≡ flow.Stopped → Passes gate piece None old tally new tally
unfolding JudgesName
name_stops gate len found piece old mid new tally can ep h told em e =
    subst (λ b. Passes gate piece (all_or_none b (2 + len)) old tally new tally) e (name_passes gate len found piece old mid new tally can ep h.1 h.0 told em)

-- the units that were kept
pub name_kept : (len : ℕ) (piece rest part before now : List ℕ) → rest ≡ drop 2 piece → part ≡ take len rest → before ≡ [] → now ≡ before ++ part → now ≡ name_in piece len
name_kept len piece rest part before now er ep none en = en ∙ ap (λ xs. xs ++ part) none ∙ ep ∙ ap (take len) er
