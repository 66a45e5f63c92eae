-- What went out of the text of show.
use Rattle.std.proofs.Common.{◌≡◌, ℕ, ◌<◌, ◌^◌, min, true, false, List, [], ◌++◌, length, take, Result, Ok, Err, OnOk, OnErr, sym, ◌∙◌, ap, subst, arith, append_assoc, append-nil, length-append, Bool}
use Rattle.std.proofs.Math.Seq.{take-append_seam}
use Rattle.std.specs.Io.KnownBytes.{Appends}
use Rattle.jser_prim.specs.Outgoing.{Outgoing, SinkState, Puts}
use Rattle.jser_prim.proofs.OutgoingLemmas.{nothing, puts_both, went_out}
use Rattle.jser_grammar.specs.Trees.{ContentTrees}
use Rattle.jser_shown.specs.Cues.{Teller}
use Rattle.jser_shown.specs.Shown.{shown}
use Rattle.jser_shown.specs.Telling.{begin_telling}
use Rattle.jser_verdict.specs.Passing.{Passes}
use Rattle.jser_reader.specs.Gates.{open_gate}
use Rattle.jser_index.specs.declared.output.GraphFault.{GraphFault}
use Rattle.jser_index.specs.Graphs.{GraphView, StandsFor, IsGraph}
use Rattle.jser_index.specs.Showing.{CountsText, WroteText, written_of, WroteSome, WroteFront, PutsText, PutsSome, PutsFront}

-- a whole text is the first bytes of it
text_front : (bytes : List ℕ) (start : Teller) (a b : Outgoing) (d e : SinkState) → PutsText bytes start a b d e → PutsFront bytes start a b d e
unfolding PutsText PutsFront
text_front bytes start a b d e h = λ values list p begin.
    record { front = shown values list; left = []; split = sym (append-nil (shown values list)); puts = h values list p begin }

pub either_front : {T E : Type 0} (result : Result T E) (bytes : List ℕ) (start : Teller) (a b : Outgoing) (d e : SinkState) → OnOk result (PutsText bytes start a b d e)
    → OnErr result (PutsFront bytes start a b d e) → PutsFront bytes start a b d e
either_front (Ok x) bytes start a b d e text front = text_front bytes start a b d e text
either_front (Err x) bytes start a b d e text front = front

-- ---- all of it

-- the text was put, and all that waited was flushed
pub record WentOut (values : Bool) (graph : GraphView) (a b c : Outgoing) (d e f : SinkState) : Type 0 where
  pub start : a ≡ nothing
  pub puts : PutsText graph.bytes (begin_telling values graph.owners) a b d e
  pub flushes : Puts b c e f []
  pub empty : c.failed ≡ false → c.waiting ≡ []
  pub going : c.failed ≡ false

pub went : (values : Bool) (graph : GraphView) (a b c : Outgoing) (d e f : SinkState) → a ≡ nothing → PutsText graph.bytes (begin_telling values graph.owners) a b d e
    → Puts b c e f [] → (c.failed ≡ false → c.waiting ≡ []) → c.failed ≡ false → WentOut values graph a b c d e f
went values graph a b c d e f s p x y g = record { start = s; puts = p; flushes = x; empty = y; going = g }

all_out : (values : Bool) (graph : GraphView) (a b c : Outgoing) (d e f : SinkState) (bytes : List ℕ) (list : ContentTrees) → WentOut values graph a b c d e f → StandsFor graph bytes list
    → Appends d.gone_out f.gone_out (shown values list) × (f.failed ≡ d.failed) × (min c.written 18446744073709551615 ≡ min (length (shown values list)) 18446744073709551615)
unfolding PutsText
all_out values graph a b c d e f bytes list h st =
    let first = h.puts values list (subst (λ xs. Passes open_gate xs list) (sym st.bytes_are) st.passes) (ap (begin_telling values) st.owners_are) in
    went_out a c d f (shown values list) h.start
    (subst (Puts a c d f) (append-nil (shown values list)) (puts_both a b c d e f (shown values list) [] first h.flushes)) h.going h.empty

pub text_out : (values : Bool) (graph : GraphView) (a b c : Outgoing) (d e f : SinkState) → WentOut values graph a b c d e f → WroteText values graph d.gone_out f.gone_out
unfolding WroteText
text_out values graph a b c d e f h = λ bytes list st. (all_out values graph a b c d e f bytes list h st).0

pub text_kept : (values : Bool) (graph : GraphView) (a b c : Outgoing) (d e f : SinkState) → IsGraph graph → WentOut values graph a b c d e f → f.failed ≡ d.failed
text_kept values graph a b c d e f is h = (all_out values graph a b c d e f graph.bytes is.0 h is.1).1

pub text_counted : (values : Bool) (graph : GraphView) (a b c : Outgoing) (d e f : SinkState) (count : ℕ) → WentOut values graph a b c d e f → count < 2 ^ 64 → count ≡ c.written
    → CountsText values graph count
unfolding CountsText
text_counted values graph a b c d e f count h small is = λ bytes list st.
    let x = (all_out values graph a b c d e f bytes list h st).2 in omega arith

-- ---- the first bytes of it

-- the first bytes were put, and some of them went out
pub record PartlyOut (values : Bool) (graph : GraphView) (a b c : Outgoing) (d e f : SinkState) : Type 0 where
  pub start : a ≡ nothing
  pub puts : PutsFront graph.bytes (begin_telling values graph.owners) a b d e
  pub flushes : Puts b c e f []

pub partly : (values : Bool) (graph : GraphView) (a b c : Outgoing) (d e f : SinkState) → a ≡ nothing → PutsFront graph.bytes (begin_telling values graph.owners) a b d e
    → Puts b c e f [] → PartlyOut values graph a b c d e f
partly values graph a b c d e f s p x = record { start = s; puts = p; flushes = x }

some_put : (values : Bool) (graph : GraphView) (a b c : Outgoing) (d e f : SinkState) (bytes : List ℕ) (list : ContentTrees) → PartlyOut values graph a b c d e f → StandsFor graph bytes list
    → PutsSome a c d f (shown values list)
unfolding PutsFront
some_put values graph a b c d e f bytes list h st =
    let x = h.puts values list (subst (λ xs. Passes open_gate xs list) (sym st.bytes_are) st.passes) (ap (begin_telling values) st.owners_are) in
    record {
      front = x.front;
      left = x.left;
      split = x.split;
      puts = subst (Puts a c d f) (append-nil x.front) (puts_both a b c d e f x.front [] x.puts h.flushes);
    }

some_out : (a c : Outgoing) (d f : SinkState) (text : List ℕ) (written : ℕ) → a ≡ nothing → PutsSome a c d f text → written < 2 ^ 64 → written ≡ c.written
    → WroteSome d.gone_out f.gone_out text written
some_out a c d f text written is x small count_is =
    let hands = x.puts.going (ap (λ o. o.failed) is) in
    let first : x.front ≡ hands.out ++ hands.left = ap (λ o. o.waiting ++ x.front) (sym is) ∙ hands.split in
    let whole : text ≡ hands.out ++ (hands.left ++ x.left) = x.split ∙ ap (λ xs. xs ++ x.left) first ∙ append_assoc hands.out hands.left x.left in
    record {
      count = length hands.out;
      within = omega (arith, ap length whole, length-append hands.out (hands.left ++ x.left));
      written_is = omega (arith, hands.counted, ap (λ o. o.written) is, small, count_is);
      went =
          subst (Appends d.gone_out f.gone_out) (sym (ap (take (length hands.out)) whole ∙ take-append_seam hands.out (hands.left ++ x.left))) hands.went;
    }

pub front_out : (values : Bool) (graph : GraphView) (a b c : Outgoing) (d e f : SinkState) (why : GraphFault) → PartlyOut values graph a b c d e f → written_of why < 2 ^ 64
    → written_of why ≡ c.written → WroteFront values graph d.gone_out f.gone_out why
unfolding WroteFront
front_out values graph a b c d e f why h small is = λ bytes list st.
    some_out a c d f (shown values list) (written_of why) h.start (some_put values graph a b c d e f bytes list h st) small is

pub write_failed : (values : Bool) (graph : GraphView) (a b c : Outgoing) (d e f : SinkState) → IsGraph graph → PartlyOut values graph a b c d e f → c.failed ≡ true
    → f.failed ≡ true
write_failed values graph a b c d e f is h off =
    ((some_put values graph a b c d e f graph.bytes is.0 h is.1).puts.going (ap (λ o. o.failed) h.start)).fault off

pub memory_failed : (values : Bool) (graph : GraphView) (a b c : Outgoing) (d e f : SinkState) → IsGraph graph → PartlyOut values graph a b c d e f → c.failed ≡ false
    → f.failed ≡ d.failed
memory_failed values graph a b c d e f is h on =
    ((some_put values graph a b c d e f graph.bytes is.0 h is.1).puts.going (ap (λ o. o.failed) h.start)).kept on
