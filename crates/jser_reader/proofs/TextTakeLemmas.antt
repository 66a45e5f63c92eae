-- The bytes of a text, and of what stands in front of it, as they are taken: from what the functions tell to the walk
-- over the bytes.
use Rattle.std.proofs.Common.{◌≡◌, ℕ, ◌^◌, ◌<◌, ◌≤◌, Bool, true, false, List, [], ◌++◌, length, Some, refl, sym, ◌∙◌, ap, subst, arith}
use Rattle.jser_prim.specs.Bytes.{big_bytes}
use Rattle.jser_prim.specs.Texts.{Scan, HasAccepted}
use Rattle.jser_grammar.specs.Parts.{text_bound}
use Rattle.jser_reading.specs.TokensFromBytes.{head_size}
use Rattle.jser_reading.specs.Goals.{settle}
use Rattle.jser_verdict.specs.Reasons.{negative_length}
use Rattle.jser_verdict.specs.Gates.{Gate}
use Rattle.jser_reader.specs.declared.machine.flow.Flow.{Flow}
use Rattle.jser_reader.specs.declared.machine.flow.Flow.TheVariants as flow
use Rattle.jser_reader.specs.declared.machine.take.taken.Taken.{Taken}
use Rattle.jser_reader.specs.declared.machine.take.taken.Taken.TheVariants as taken_is
use Rattle.jser_reader.specs.declared.phase.Phase.TheVariants as phase
use Rattle.jser_reader.specs.declared.phase.TextFor.{TextFor}
use Rattle.jser_reader.specs.declared.phase.TextFor.TheVariants as text
use Rattle.jser_reader.specs.Reasons.{named}
use Rattle.jser_reader.specs.Readers.{Seen, moment_of, text_rest, IsForm, IsInside, length_phase}
use Rattle.jser_reader.specs.Handlers.{StopsWith, refusal, TellsSurely}
use Rattle.jser_reader.specs.TextStates.{handle_reason, text_reason_of, text_reason, text_state_of, after_text, EndsText}
use Rattle.jser_reader.specs.Walks.{Counts, Takes, open_phase, cut_of}
use Rattle.jser_reader.specs.Takes.{farther, TakesNumberFor, TakesNumber, taken_by}
use Rattle.jser_reader.specs.TextTakes.{EndsEmpty, TellsLength, LastCases, TakesLength}
use Rattle.jser_reader.proofs.EndLemmas.{tells_refusal, surely_from}
use Rattle.jser_reader.proofs.NumberWalks.{number_in_4, text_handle_taken}
use Rattle.jser_reader.proofs.TakeLemmas.{counts_bytes}
use Rattle.jser_reader.proofs.TextSteps.{empty_text_taken, text_opened, negative_taken}

-- ---- the handle of a reference to a text

pub takes_text_handle : (n count : ℕ) (found : Flow) (old mid new : Seen)
    → (IsForm mid.text true → IsInside mid.text mid.frames
    → TellsSurely (handle_reason mid n) (settle (moment_of mid) (text_rest mid mid.text)) found mid new)
    → mid ≡ farther old count → open_phase old ≡ phase.TextHandle → 0 < count → n < 2 ^ 32 → TakesNumber 4 n count found old new
unfolding TakesNumber TakesNumberFor
takes_text_handle n count found old mid new h m eo some small = λ gate taken size spelled.
    text_handle_taken gate n found old mid new taken h eo (omega arith) (number_in_4 n _ spelled small) (counts_bytes taken count old mid m size)

-- ---- the length

-- the machine with a new scan, and no units
abbrev scanning : Seen → Scan → Seen
scanning r scan = record {
  meter = r.meter;
  phase = r.phase;
  frames = r.frames;
  layers = r.layers;
  table = r.table;
  refs = r.refs;
  owner = r.owner;
  elements = r.elements;
  header = r.header;
  text = r.text;
  left = r.left;
  scan = scan;
  name = [];
}

-- the reason and the state do not depend on them

same_told : (gate : Gate) (t : TextFor) (r : Seen) (scan : Scan) (units : List ℕ) → text_reason_of gate (scanning r scan) t units ≡ text_reason_of gate r t units
same_told gate text.Value r scan units = refl
same_told gate text.FieldType r scan units = refl
same_told gate (text.FieldName is_object) r scan units = refl
same_told gate text.ClassName r scan units = refl
same_told gate text.InterfaceName r scan units = refl

same_state : (t : TextFor) (r : Seen) (scan : Scan) (units : List ℕ) → text_state_of (scanning r scan) t units ≡ text_state_of r t units
same_state text.Value r scan units = refl
same_state text.FieldType r scan units = refl
same_state (text.FieldName is_object) r scan units = refl
same_state text.ClassName r scan units = refl
same_state text.InterfaceName r scan units = refl

-- what is told of a machine that was as far
as_far : (gate : Gate) (found : Flow) (old new : Seen) (scan : Scan)
    → TellsSurely (text_reason gate (scanning old scan) []) (after_text (scanning old scan) []) found (scanning old scan) new
    → TellsSurely (text_reason gate old []) (after_text old []) found old new
unfolding after_text
as_far gate found old new scan h =
    surely_from (text_reason gate old []) (text_state_of (scanning old scan) old.text []) (text_state_of old old.text []) found old (scanning old scan) new
    (subst (λ k. TellsSurely k (text_state_of (scanning old scan) old.text []) found (scanning old scan) new) (same_told gate old.text old scan []) h)
    refl refl (same_state old.text old scan [])

empty_ends : (gate : Gate) (n : ℕ) (found : Flow) (old mid new : Seen)
    → ((units : List ℕ) → EndsText mid units → TellsSurely (text_reason gate mid units) (after_text mid units) found mid new)
    → mid ≡ scanning old mid.scan → (0 < n → ⊥) → EndsEmpty gate n found old new
empty_ends gate n found old mid new h m none = record {
  none = let zero_is : n ≡ 0 = omega (arith, none) in zero_is;
  ends =
      λ inside. as_far gate found old new mid.scan
      ((subst (λ r. ((units : List ℕ) → EndsText r units → TellsSurely (text_reason gate r units) (after_text r units) found r new)) m h) []
      (record { inside = inside; kept = λ _. refl }));
}

pub ends_empty : (gate : Gate) (n count : ℕ) (found : Flow) (result : Taken) (old mid new : Seen)
    → ((units : List ℕ) → EndsText mid units → TellsSurely (text_reason gate mid units) (after_text mid units) found mid new)
    → mid ≡ scanning old mid.scan → result ≡ taken_by count found → (0 < n → ⊥) → TellsLength gate n count result old new
unfolding TellsLength
ends_empty gate n count found result old mid new h m er none = rw er (go found (empty_ends gate n found old mid new h m none))
  where
    go : (b : Flow) → EndsEmpty gate n b old new → TellsLength gate n count (taken_by count b) old new
    go flow.On x = (refl, x)
    go flow.Stopped x = (refl, x)

-- the machine in which the bytes of a text come next
abbrev opened : Seen → Scan → Seen
opened r scan = record {
  meter = r.meter;
  phase = phase.Text;
  frames = r.frames;
  layers = r.layers;
  table = r.table;
  refs = r.refs;
  owner = r.owner;
  elements = r.elements;
  header = r.header;
  text = r.text;
  left = r.left;
  scan = scan;
  name = [];
}

pub opens_bytes : (gate : Gate) (n count : ℕ) (old new : Seen) → new ≡ opened old new.scan → HasAccepted n [] [] new.scan → 0 < n
    → TellsLength gate n count (taken_is.Part count) old new
unfolding TellsLength
opens_bytes gate n count old new e acc some = (
  refl,
  record {
    phase_is = ap (λ r. r.phase) e;
    some = some;
    read = record { accepted = acc; kept = λ _. ap (λ r. r.name) e };
    counts = record {
      at = let same : new.meter.at ≡ old.meter.at = ap (λ r. r.meter.at) e in omega arith;
      from = ap (λ r. r.meter.from) e;
      limits = ap (λ r. r.meter.limits) e;
      frames = ap (λ r. r.frames) e;
      layers = ap (λ r. r.layers) e;
      table = ap (λ r. r.table) e;
      refs = ap (λ r. r.refs) e;
      owner = ap (λ r. r.owner) e;
      elements = ap (λ r. r.elements) e;
      header = ap (λ r. r.header) e;
      text = ap (λ r. r.text) e;
    };
  },
)

counts_no_more : (bytes : List ℕ) (old mid new : Seen) → Counts bytes old mid → Counts [] mid new → Counts bytes old new
counts_no_more bytes old mid new c d = record {
  at = let x = c.at in let y = d.at in omega arith;
  from = d.from ∙ c.from;
  limits = d.limits ∙ c.limits;
  frames = d.frames ∙ c.frames;
  layers = d.layers ∙ c.layers;
  table = d.table ∙ c.table;
  refs = d.refs ∙ c.refs;
  owner = d.owner ∙ c.owner;
  elements = d.elements ∙ c.elements;
  header = d.header ∙ c.header;
  text = d.text ∙ c.text;
}

length_ends : (gate : Gate) (long : Bool) (n : ℕ) (found : Flow) (old mid new : Seen) (taken : List ℕ) → EndsEmpty gate n found mid new
    → Counts taken old mid → open_phase old ≡ length_phase long → 0 < length taken → big_bytes (head_size long) n ≡ cut_of old ++ taken
    → Takes gate taken found old new
length_ends gate long n found old mid new taken h c eo some spelled =
    empty_text_taken gate long found old mid new taken h.ends eo some
    (ap (big_bytes (head_size long)) (sym h.none) ∙ spelled) c

takes_length : (gate : Gate) (long : Bool) (n count : ℕ) (result : Taken) (old mid new : Seen) → TellsLength gate n count result mid new → mid ≡ farther old count
    → open_phase old ≡ length_phase long → 0 < count → n < text_bound long
    → (last : List ℕ) → length last ≡ count → big_bytes (head_size long) n ≡ cut_of old ++ last → LastCases gate last count result old new
unfolding TellsLength
takes_length gate long n count (taken_is.Part k) old mid new h m eo some bound = λ last size spelled. (
  h.0,
  text_opened gate long n old new last h.1.phase_is h.1.read h.1.some bound eo spelled (counts_no_more last old mid new (counts_bytes last count old mid m size) h.1.counts),
)
takes_length gate long n count (taken_is.Ended k) old mid new h m eo some bound = λ last size spelled.
    (h.0, length_ends gate long n flow.On old mid new last h.1 (counts_bytes last count old mid m size) eo (omega arith) spelled)
takes_length gate long n count (taken_is.Stopped k) old mid new h m eo some bound = λ last size spelled.
    (h.0, length_ends gate long n flow.Stopped old mid new last h.1 (counts_bytes last count old mid m size) eo (omega arith) spelled)
takes_length gate long n count taken_is.Open old mid new h m eo some bound = absurd h

pub takes_short_length : (gate : Gate) (n count : ℕ) (result : Taken) (old mid new : Seen) → TellsLength gate n count result mid new → mid ≡ farther old count
    → open_phase old ≡ phase.Length2 → 0 < count → n < 2 ^ 16 → TakesLength gate 2 n count result old new
unfolding TakesLength
takes_short_length gate n count result old mid new h m eo some bound = takes_length gate false n count result old mid new h m eo some bound

pub takes_long_length : (gate : Gate) (n count : ℕ) (result : Taken) (old mid new : Seen) → TellsLength gate n count result mid new → mid ≡ farther old count
    → open_phase old ≡ phase.Length8 → 0 < count → (0x8000000000000000 ≤ n → ⊥) → TakesLength gate 8 n count result old new
unfolding TakesLength
takes_long_length gate n count result old mid new h m eo some bound =
    takes_length gate true n count result old mid new h m eo some (let low : n < 2 ^ 63 = omega arith in low)

pub takes_negative_length : (gate : Gate) (n count : ℕ) (old mid new : Seen) → StopsWith (refusal mid.meter (named negative_length)) mid new
    → mid ≡ farther old count → open_phase old ≡ phase.Length8 → 0 < count → 0x8000000000000000 ≤ n → n < 2 ^ 64
    → TakesLength gate 8 n count (taken_is.Stopped count) old new
unfolding TakesLength
takes_negative_length gate n count old mid new h m eo some lo hi = λ last size spelled. (
  refl,
  negative_taken gate n (moment_of mid, []) flow.Stopped old mid new last
      (tells_refusal negative_length (Some negative_length) (moment_of mid, []) flow.Stopped mid new h refl refl)
      (omega arith) hi eo (omega arith) spelled (counts_bytes last count old mid m size),
)
