-- The text of show, said token by token along the bytes.
use Rattle.std.proofs.Common.{◌≡◌, ℕ, Bool, true, List, [], ◌∷◌, ◌++◌, length, Result, Ok, Err, OnOk, OnErr, refl, sym, ◌∙◌, ap, subst, append_assoc, append-nil}
use Rattle.jser_prim.specs.Outgoing.{Outgoing, SinkState, Puts}
use Rattle.jser_prim.proofs.OutgoingLemmas.{puts_both, puts_stopped}
use Rattle.jser_grammar.specs.Trees.{ContentTrees}
use Rattle.jser_reading.specs.Labels.{StreamToken, Label, Piece, piece}
use Rattle.jser_reading.specs.Tokens.{tokens_of}
use Rattle.jser_shown.specs.Cues.{Teller}
use Rattle.jser_shown.specs.Fronts.{teller_at, said}
use Rattle.jser_shown.specs.FrontLaws.{TellsFronts, OneMore}
use Rattle.jser_shown.specs.Laws.{Told}
use Rattle.jser_shown.specs.Owners.{owners_of}
use Rattle.jser_shown.specs.Shown.{shown}
use Rattle.jser_shown.specs.Telling.{begin_telling, settled, settle_says, goes, tell}
use Rattle.jser_verdict.specs.Passing.{Passes}
use Rattle.jser_reader.specs.Gates.{open_gate}
use Rattle.jser_reader.specs.declared.tally.Tally.{Tally}
use Rattle.jser_reader.specs.Readers.{Seen}
use Rattle.jser_printer.specs.Passing.{says_next}
use Rattle.jser_printer.specs.Says.{Says, Begins}
use Rattle.jser_printer.proofs.SaysLemmas.{says_none, says_both, says_same}
use Rattle.jser_index.specs.Along.{GoesAlong}
use Rattle.jser_index.specs.Showing.{PutsText, PutsFront}
use Rattle.jser_index.proofs.PassLemmas.{reached, reached_all}

-- these tokens were said, and the walk is where the teller is after them
pub record HasSaid (start : Teller) (old now : Outgoing) (before after : SinkState) (walk : Teller) (front : List Piece) : Type 0 where
  pub walk_is : walk ≡ teller_at start front
  pub text : Says old now before after (λ k. said start front k)

pub said_none : (start : Teller) (out : Outgoing) (sink : SinkState) → HasSaid start out out sink sink start []
said_none start out sink = record { walk_is = refl; text = says_none out sink (λ k. k) }

-- so far along the bytes
abbrev pub SaysAlong : (bytes rest : List ℕ) → Seen → Tally → Teller → (old now : Outgoing) → (before after : SinkState) → Teller → Type 0
SaysAlong bytes rest r tally start old now before after walk = GoesAlong open_gate bytes rest r tally (HasSaid start old now before after walk)

pub begins_none : (out : Outgoing) (sink : SinkState) (all : List ℕ → List ℕ) → Begins out out sink sink all
begins_none out sink all = record { left = all; said = says_none out sink all }

pub ok_by : {T E P Q : Type 0} (r : Result T E) → OnOk r P → (P → Q) → OnOk r Q
ok_by (Ok x) p f = f p
ok_by (Err e) p f = tt

pub err_by : {T E P Q : Type 0} (r : Result T E) → OnErr r P → (P → Q) → OnErr r Q
err_by (Ok x) p f = tt
err_by (Err e) p f = f p

pub err_any : {T E Q : Type 0} (r : Result T E) → Q → OnErr r Q
err_any (Ok x) q = tt
err_any (Err e) q = q

-- ---- a turn

pub says_one : (start walk next : Teller) (front : List Piece) (label : Label) (told : StreamToken) (a b c : Outgoing) (d e f : SinkState) → OneMore
    → HasSaid start a b d e walk front → Says b c e f (λ k. says_next walk told k) → next ≡ goes (settled walk) told
    → HasSaid start a c d f next (front ++ (piece label told ∷ []))
says_one start walk next front label told a b c d e f more h says_it goes_on =
    let one = more start front label told in
    let here = subst (λ w. Says b c e f (λ k. says_next w told k)) h.walk_is says_it in
    record {
      walk_is = goes_on ∙ ap (λ w. goes (settled w) told) h.walk_is ∙ sym one.0;
      text =
          says_same a c d f (λ k. said start front (says_next (teller_at start front) told k)) (λ k. said start (front ++ (piece label told ∷ [])) k) one.1
          (says_both a b c d e f (λ k. said start front k) (λ k. says_next (teller_at start front) told k) h.text here);
    }

-- ---- what was said of a stream

-- after a failure any text counts as put
pub put_behind : (a b : Outgoing) (d e : SinkState) (xs ys : List ℕ) → Puts a b d e xs → b.failed ≡ true → Puts a b d e (xs ++ ys)
put_behind a b d e xs ys h off = puts_both a b b d e e xs ys h (puts_stopped b e ys off)

-- the laws by which what is said is the text
pub record ShowLaws : Type 0 where
  pub told : Told
  pub fronts : TellsFronts

pub show_laws : Told → TellsFronts → ShowLaws
show_laws t f = record { told = t; fronts = f }

-- what is left of the text after some first tokens
pub text_after : (values : Bool) (start : Teller) (list : ContentTrees) (bytes : List ℕ) (front later : List Piece) → ShowLaws → Passes open_gate bytes list → start ≡ begin_telling values (owners_of list)
    → tokens_of list ≡ front ++ later → shown values list ≡ said start front (tell (teller_at start front) later)
text_after values start list bytes front later laws p begin is =
    sym (laws.told values list p.0.1) ∙ ap (λ s. tell s (tokens_of list)) (sym begin) ∙ ap (tell start) is ∙ laws.fronts start front later

-- nothing more is read
pub says_front : (bytes rest : List ℕ) (r : Seen) (tally : Tally) (start walk : Teller) (a b : Outgoing) (d e : SinkState) → ShowLaws
    → SaysAlong bytes rest r tally start a b d e walk → PutsFront bytes start a b d e
unfolding PutsFront
says_front bytes rest r tally start walk a b d e laws h = λ values list p begin.
    let x = reached bytes rest r tally (HasSaid start a b d e walk) list h p in
    let left = tell (teller_at start x.front) x.begins.later in
    record {
      front = x.holds.text.bytes;
      left = left;
      split = text_after values start list bytes x.front x.begins.later laws p begin x.begins.is ∙ x.holds.text.is left;
      puts = x.holds.text.puts;
    }

-- ---- the end

last_text : (values : Bool) (start : Teller) (list : ContentTrees) (bytes : List ℕ) → ShowLaws → Passes open_gate bytes list → start ≡ begin_telling values (owners_of list)
    → let now = teller_at start (tokens_of list) in shown values list ≡ said start (tokens_of list) (settle_says now.known now.cues [])
last_text values start list bytes laws p begin = text_after values start list bytes (tokens_of list) [] laws p begin (sym (append-nil (tokens_of list)))

pub says_all : (bytes rest : List ℕ) (r : Seen) (tally : Tally) (start walk : Teller) (a b c : Outgoing) (d e f : SinkState) → ShowLaws
    → SaysAlong bytes rest r tally start a b d e walk → length rest ≡ 0 → Says b c e f (λ k. settle_says walk.known walk.cues k) → PutsText bytes start a c d f
unfolding PutsText
says_all bytes rest r tally start walk a b c d e f laws h n due = λ values list p begin.
    let x = reached_all bytes rest r tally (HasSaid start a b d e walk) list h p n in
    let is : shown values list ≡ x.text.bytes ++ due.bytes =
    last_text values start list bytes laws p begin ∙ ap (λ w. said start (tokens_of list) (settle_says w.known w.cues [])) (sym x.walk_is)
    ∙ x.text.is (settle_says walk.known walk.cues []) ∙ ap (λ xs. x.text.bytes ++ xs) (due.is [] ∙ append-nil due.bytes) in
    subst (Puts a c d f) (sym is) (puts_both a b c d e f x.text.bytes due.bytes x.text.puts due.puts)

pub due_front : (bytes rest : List ℕ) (r : Seen) (tally : Tally) (start walk : Teller) (a b c : Outgoing) (d e f : SinkState) → ShowLaws
    → SaysAlong bytes rest r tally start a b d e walk → length rest ≡ 0 → Begins b c e f (λ k. settle_says walk.known walk.cues k) → PutsFront bytes start a c d f
unfolding PutsFront
due_front bytes rest r tally start walk a b c d e f laws h n due = λ values list p begin.
    let x = reached_all bytes rest r tally (HasSaid start a b d e walk) list h p n in
    record {
      front = x.text.bytes ++ due.said.bytes;
      left = due.left [];
      split =
          last_text values start list bytes laws p begin ∙ ap (λ w. said start (tokens_of list) (settle_says w.known w.cues [])) (sym x.walk_is)
          ∙ x.text.is (settle_says walk.known walk.cues []) ∙ ap (λ xs. x.text.bytes ++ xs) (due.said.is [])
          ∙ sym (append_assoc x.text.bytes due.said.bytes (due.left []));
      puts = puts_both a b c d e f x.text.bytes due.said.bytes x.text.puts due.said.puts;
    }
