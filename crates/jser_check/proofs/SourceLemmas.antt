-- Reads of a source, one after another, what the check took of them, and what it answers.
use Rattle.std.specs.Prelude.{IfSome}
use Rattle.std.specs.Io.KnownBytes.{Consumes, Keeps, IsAtEnd}
use Rattle.std.proofs.KnownBytes.{Consumes-nil, Consumes-trans, Consumes-kept}
use Rattle.std.proofs.Common.{Bool, ◌≡◌, ◌≢◌, ◌⊎◌, ℕ, ◌+◌, ◌≤◌, ◌<◌, ◌∙◌, List, [], ◌++◌, length, take, drop, Result, Ok, Err, Option, Some, None, inl, inr, refl, sym, ap, subst, arith, append_assoc, append-nil, length-append, length-take-le, take-append-drop}
use Rattle.std.proofs.lemmas.Bool.{cases_lt}
use Rattle.jser_grammar.specs.Caps.{most_bytes}
use Rattle.jser_reading.specs.Labels.{Label}
use Rattle.jser_reading.specs.TokenBytes.{joined}
use Rattle.jser_verdict.specs.Reasons.{truncated, Reason as ToldReason}
use Rattle.jser_verdict.specs.Gates.{Gate}
use Rattle.jser_verdict.specs.FirstFault.{IsFault, OpenAt}
use Rattle.jser_reader.specs.declared.Refusal.{Refusal}
use Rattle.jser_reader.specs.declared.Stop.TheVariants as stop
use Rattle.jser_reader.specs.declared.Totals.{Totals}
use Rattle.jser_check.specs.Admitted.{gate_of_filter}
use Rattle.jser_reader.specs.Answers.{IsRightOf}
use Rattle.jser_check.specs.Checks.{DecidesIn}
use Rattle.jser_check.specs.Sources.{TakesAtMost, read_bytes}
use Rattle.jser_reader.proofs.RefusalLemmas.{front_refused, right_first}
use Rattle.jser_check.proofs.AnswerLemmas.{right_refuses}
use Rattle.jser_anywhere.specs.Standing.{HiddenAt, IsFirstHidden}
use Rattle.jser_anywhere.proofs.ScanLemmas.{front_of, hidden_shorter, hidden_within, first_longer}
use Rattle.jser_check.specs.Passing.{Asked, passes_in}
use Rattle.jser_check.specs.declared.fault.AnywhereFault.{AnywhereFault}
use Rattle.jser_check.specs.declared.fault.AnywhereFault.TheVariants as fault
use Rattle.jser_check.specs.Pieces.{asked_by, Keeps as KeepsFault, ReportsBy, NoneSooner, NoFaultBy, TellsHidden, TellsFault, Checking, HasTaken, EndTells}
use Rattle.jser_check.specs.Reads.{NamesOnly, HiddenIn, RefusedIn, FaultOf, SourceTells, Undecided, TakesFew, Answered, Came, StopsIn, SomeTells, Stopped, CameAll, WholeTells}
use Rattle.jser_check.proofs.PieceLemmas.{never_admitted, few_taken, taken_undecided}

-- ---- one read

pub some_came : (new : Checking) (taken buffer bytes : List ℕ) (had has : Option (List ℕ)) (count : ℕ) → bytes ≡ take count buffer → count ≤ length buffer
    → Consumes had has (take count buffer) → HasTaken new (taken ++ bytes) → Came new taken had has count
some_came new taken buffer bytes had has count e few off all = record {
  bytes = bytes;
  size = ap length e ∙ length-take-le count buffer few;
  off = subst (Consumes had has) (sym e) off;
  all = all;
}

pub none_came : (check : Checking) (taken : List ℕ) (had has : Option (List ℕ)) → Keeps had has → HasTaken check taken → Came check taken had has 0
none_came check taken had has keeps h = record {
  bytes = [];
  size = refl;
  off = Consumes-kept had had has [] (Consumes-nil had) keeps;
  all = subst (λ (bs : List ℕ). HasTaken check bs) (sym (append-nil taken)) h;
}

stops_by : (asked : Asked) (taken buffer bytes : List ℕ) (had has : Option (List ℕ)) (count : ℕ) (why : AnywhereFault) → bytes ≡ take count buffer → count ≤ length buffer
    → Consumes had has (take count buffer) → TellsFault asked taken bytes why → StopsIn asked taken had has (length buffer) why
stops_by asked taken buffer bytes had has count why e few off tells =
    let n : length bytes ≡ count = ap length e ∙ length-take-le count buffer few in
    record { bytes = bytes; few = omega arith; off = subst (Consumes had has) (sym e) off; tells = tells }

pub some_stops : (asked : Asked) (new : Checking) (taken buffer bytes : List ℕ) (had has : Option (List ℕ)) (count : ℕ) (why : AnywhereFault) → bytes ≡ take count buffer → count ≤ length buffer
    → Consumes had has (take count buffer) → TellsFault asked taken bytes why → SomeTells asked taken new had has (length buffer) (Err why)
some_stops asked new taken buffer bytes had has count (fault.Stop why) e few off tells = stops_by asked taken buffer bytes had has count (fault.Stop why) e few off tells
some_stops asked new taken buffer bytes had has count fault.ReadFault e few off tells = absurd tells
some_stops asked new taken buffer bytes had has count (fault.Hidden from to) e few off tells = stops_by asked taken buffer bytes had has count (fault.Hidden from to) e few off tells

-- ---- several

pub came_more : (mid new : Checking) (had middle has : Option (List ℕ)) (n m : ℕ) → (c : Came mid [] had middle n) → Came new c.bytes middle has m → Came new [] had has (n + m)
came_more mid new had middle has n m c d = record {
  bytes = c.bytes ++ d.bytes;
  size = length-append c.bytes d.bytes ∙ ap (λ (k : ℕ). k + length d.bytes) c.size ∙ ap (λ (k : ℕ). n + k) d.size;
  off = Consumes-trans had middle has c.bytes d.bytes c.off d.off;
  all = d.all;
}

pub came_short : (check : Checking) (had has : Option (List ℕ)) (n : ℕ) → Came check [] had has n → n ≤ most_bytes
came_short check had has n c = omega (arith, c.size, few_taken check c.bytes c.all)

came_all : (mid new : Checking) (had middle has : Option (List ℕ)) (n m : ℕ) → (c : Came mid [] had middle n) → Came new c.bytes middle has m → CameAll new had has
came_all mid new had middle has n m c d =
    let all = came_more mid new had middle has n m c d in record { count = n + m; came = all; few = came_short new had has (n + m) all }

stopped_by : (asked : Asked) (mid : Checking) (had middle has : Option (List ℕ)) (n room : ℕ) (why : AnywhereFault) → (c : Came mid [] had middle n)
    → StopsIn asked c.bytes middle has room why → room ≤ read_bytes → n + room ≤ most_bytes + 1 → Stopped asked had has why
stopped_by asked mid had middle has n room why c s few all = record {
  before = c.bytes;
  last = s.bytes;
  few = omega (arith, s.few, few);
  all = omega (arith, c.size, s.few, all);
  off = Consumes-trans had middle has c.bytes s.bytes c.off s.off;
  tells = s.tells;
}

whole_stops : (asked : Asked) (mid new : Checking) (had middle has : Option (List ℕ)) (n room : ℕ) (why : AnywhereFault) → (c : Came mid [] had middle n)
    → SomeTells asked c.bytes new middle has room (Err why) → room ≤ read_bytes → n + room ≤ most_bytes + 1 → WholeTells asked new had has (Err why)
whole_stops asked mid new had middle has n room (fault.Stop why) c s few all = stopped_by asked mid had middle has n room (fault.Stop why) c s few all
whole_stops asked mid new had middle has n room fault.ReadFault c s few all = came_all mid new had middle has n 0 c s
whole_stops asked mid new had middle has n room (fault.Hidden from to) c s few all = stopped_by asked mid had middle has n room (fault.Hidden from to) c s few all

-- of the filter that the check began with
pub whole_stops_as : (made mid new : Checking) (had middle has : Option (List ℕ)) (n room : ℕ) (why : AnywhereFault) → asked_by mid ≡ asked_by made → (c : Came mid [] had middle n)
    → SomeTells (asked_by mid) c.bytes new middle has room (Err why) → room ≤ read_bytes → n + room ≤ most_bytes + 1
    → WholeTells (asked_by made) new had has (Err why)
whole_stops_as made mid new had middle has n room why same c s few all =
    whole_stops (asked_by made) mid new had middle has n room why c
    (subst (λ (a : Asked). SomeTells a c.bytes new middle has room (Err why)) same s) few all

pub whole_ends : (asked : Asked) (mid new : Checking) (had middle has : Option (List ℕ)) (n m : ℕ) → (c : Came mid [] had middle n)
    → Came new c.bytes middle has m → IsAtEnd has → WholeTells asked new had has (Ok tt)
whole_ends asked mid new had middle has n m c d e = (came_all mid new had middle has n m c d, e)

-- ---- of all bytes

-- a token that is open in all bytes, and ends in a front of them, is open in the front
open_shorter : (front rest bytes : List ℕ) (at : ℕ) (label : Label) (some after : List ℕ) → bytes ≡ front ++ rest → (o : OpenAt bytes at label some after)
    → length (joined o.front) + length some ≤ length front → (left : List ℕ) × OpenAt front at label some left
open_shorter front rest bytes at label some after split o within =
    let tokens = joined o.front in
    let f = front_of (tokens ++ some) after front rest (sym split ∙ o.split ∙ sym (append_assoc tokens some after)) (omega (arith, within, length-append tokens some)) in
    (f.0, record { front = o.front; next = o.next; split = f.1 ∙ append_assoc tokens some f.0; begins = o.begins; no_token = o.no_token })

-- a fault of all bytes that ends in a front of them is one of the front, save that the bytes end
fault_shorter : (gate : Gate) (front rest bytes : List ℕ) (at end : ℕ) (reason : ToldReason) → bytes ≡ front ++ rest → end ≤ length front → IsFault gate bytes at end reason
    → (reason ≡ truncated) ⊎ IsFault gate front at end reason
fault_shorter gate front rest bytes at end reason split within (label, some, after, here, ends, inl holds) =
    let o = open_shorter front rest bytes at label some after split here (omega (arith, here.begins, ends, within)) in inr (label, some, o.0, o.1, ends, inl holds)
fault_shorter gate front rest bytes at end reason split within (label, some, after, here, ends, inr (inl long)) =
    let o = open_shorter front rest bytes at label some after split here (omega (arith, here.begins, ends, within)) in inr (label, some, o.0, o.1, ends, inr (inl long))
fault_shorter gate front rest bytes at end reason split within (label, some, after, here, ends, inr (inr cut)) = inl cut.0

none_more : (asked : Asked) (front rest bytes : List ℕ) (end : ℕ) → bytes ≡ front ++ rest → end ≤ length front → NoneSooner asked front end → NoneSooner asked bytes end
none_more asked front rest bytes end split within none = λ from to hidden. elim (cases_lt to end) [
  | inl less ↦
      let here = hidden_shorter (passes_in asked) front rest from to (subst (λ (xs : List ℕ). HiddenAt (passes_in asked) xs from to) split hidden) (omega (arith, less, within)) in
      none from to here
  | inr not ↦ omega (arith, not)
]

refused_more : (asked : Asked) (front rest bytes : List ℕ) (before last : List ℕ) (refusal : Refusal) → front ≡ before ++ last → bytes ≡ front ++ rest
    → DecidesIn asked.filter asked.options before last refusal → NoneSooner asked (before ++ last) refusal.to_byte → RefusedIn asked bytes refusal
refused_more asked front rest bytes before last refusal whole split d none =
    let gate = gate_of_filter asked.filter asked.options in
    let here = before ++ last in
    let right = d.right in
    let cut = take refusal.to_byte here in
    let all : bytes ≡ cut ++ (drop refusal.to_byte here ++ rest) =
    split ∙ ap (λ (xs : List ℕ). xs ++ rest) (whole ∙ sym (take-append-drop refusal.to_byte here)) ∙ append_assoc cut (drop refusal.to_byte here) rest in
    let is_right : IsRightOf gate bytes refusal = inl (front_refused gate cut (drop refusal.to_byte here ++ rest) bytes refusal all (right.front d.whole)) in
    record {
      right = right_refuses asked.filter asked.options bytes refusal is_right;
      first = λ b. right_first gate bytes refusal b is_right;
      names = none_more asked here rest bytes refusal.to_byte (split ∙ ap (λ (xs : List ℕ). xs ++ rest) whole) right.within none;
      cut = λ is. absurd (d.whole is);
    }

later_in : (asked : Asked) (front : List ℕ) (to at end : ℕ) (reason : ToldReason) → NoFaultBy asked front to
    → (reason ≡ truncated) ⊎ IsFault (gate_of_filter asked.filter asked.options) front at end reason → (reason ≡ truncated) ⊎ (to < end)
later_in asked front to at end reason none (inl cut) = inl cut
later_in asked front to at end reason none (inr f) = none at end reason f

no_fault_more : (asked : Asked) (front rest bytes : List ℕ) (to : ℕ) → bytes ≡ front ++ rest → to ≤ length front → NoFaultBy asked front to
    → NoFaultBy asked bytes to
no_fault_more asked front rest bytes to split within none = λ at end reason f. elim (cases_lt to end) [
  | inl less ↦ inr less
  | inr not ↦
      later_in asked front to at end reason none
      (fault_shorter (gate_of_filter asked.filter asked.options) front rest bytes at end reason split (omega (arith, not, within)) f)
]

hidden_more : (asked : Asked) (front rest bytes : List ℕ) (from to : ℕ) → bytes ≡ front ++ rest → TellsHidden asked front from to → HiddenIn asked bytes from to
hidden_more asked front rest bytes from to split h =
    let passes = passes_in asked in
    let first = subst (λ (xs : List ℕ). IsFirstHidden passes xs from to) (sym split) (first_longer passes front rest from to h.first) in
    let within = hidden_within passes bytes from to first.hidden in
    let long = length-take-le to bytes within in
    let cut = hidden_shorter passes (take to bytes) (drop to bytes) from to (subst (λ (xs : List ℕ). HiddenAt passes xs from to) (sym (take-append-drop to bytes)) first.hidden) (omega (arith, long)) in
    record {
      first = first;
      begins = λ after a. never_admitted asked (take to bytes) after from to cut a;
      sooner = no_fault_more asked front rest bytes to split (hidden_within passes front from to h.first.hidden) h.sooner;
    }

-- what stops a check of some bytes stops that of all bytes that begin with them, too
pub fault_of : (asked : Asked) (before last rest bytes : List ℕ) (why : AnywhereFault) → bytes ≡ (before ++ last) ++ rest → TellsFault asked before last why → FaultOf asked bytes why
fault_of asked before last rest bytes (fault.Stop (stop.Refused refusal)) split t = refused_more asked (before ++ last) rest bytes before last refusal refl split t.0 t.1
fault_of asked before last rest bytes (fault.Stop stop.OutOfMemory) split t = tt
fault_of asked before last rest bytes (fault.Stop stop.Spent) split t = t
fault_of asked before last rest bytes fault.ReadFault split t = tt
fault_of asked before last rest bytes (fault.Hidden from to) split t = hidden_more asked (before ++ last) rest bytes from to split t.0

source_stopped : (asked : Asked) (had has : Option (List ℕ)) (why : AnywhereFault) → Stopped asked had has why → IfSome had (λ bytes. FaultOf asked bytes why)
source_stopped asked None has why s = tt
source_stopped asked (Some all) None why s = absurd s.off
source_stopped asked (Some all) (Some rest) why s = fault_of asked s.before s.last rest all why s.off s.tells

source_failed : (asked : Asked) (had : Option (List ℕ)) → IfSome had (λ bytes. FaultOf asked bytes fault.ReadFault)
source_failed asked None = tt
source_failed asked (Some all) = tt

whole_read : (had has : Option (List ℕ)) (bytes : List ℕ) → Consumes had has bytes → IsAtEnd has → IfSome had (λ all. bytes ≡ all)
whole_read None has bytes off e = tt
whole_read (Some all) None bytes off e = absurd off
whole_read (Some all) (Some rest) bytes off e = sym (off ∙ ap (λ (xs : List ℕ). bytes ++ xs) e ∙ append-nil bytes)

ends_by : (asked : Asked) (had : Option (List ℕ)) (bytes : List ℕ) (result : Result Totals AnywhereFault) → IfSome had (λ all. bytes ≡ all) → EndTells asked bytes result
    → SourceTells asked had result
ends_by asked None bytes (Ok totals) e t = tt
ends_by asked None bytes (Err why) e t = tt
ends_by asked (Some all) bytes (Ok totals) e t = subst (λ (xs : List ℕ). ReportsBy asked xs totals) e t
ends_by asked (Some all) bytes (Err (fault.Stop (stop.Refused refusal))) e t =
    subst (λ (xs : List ℕ). RefusedIn asked xs refusal) e
    (record { right = t.right; first = λ b. t.first; names = λ from to hidden. absurd (t.passes from to hidden); cut = λ is. t.passes })
ends_by asked (Some all) bytes (Err (fault.Stop stop.OutOfMemory)) e t = tt
ends_by asked (Some all) bytes (Err (fault.Stop stop.Spent)) e t = t
ends_by asked (Some all) bytes (Err fault.ReadFault) e t = tt
ends_by asked (Some all) bytes (Err (fault.Hidden from to)) e t = absurd t

-- ---- all that is answered

-- bytes that a fault decides, and the rest of the last read
few_read : (had has : Option (List ℕ)) (before last : List ℕ) (to : ℕ) → Consumes had has (before ++ last) → length before < to → length last ≤ read_bytes
    → TakesAtMost (to + read_bytes) had has
few_read had has before last to off prompt few = record { bytes = before ++ last; few = omega (arith, prompt, few, length-append before last); off = off }

stopped_few : (asked : Asked) (had has : Option (List ℕ)) (why : AnywhereFault) → Stopped asked had has why → TakesAtMost (most_bytes + 1) had has
stopped_few asked had has why s =
    record { bytes = s.before ++ s.last; few = omega (arith, s.all, length-append s.before s.last); off = s.off }

answered_stop : (asked : Asked) (had has : Option (List ℕ)) (why : AnywhereFault) → Stopped asked had has why → Answered asked had has (Err why)
answered_stop asked had has (fault.Stop (stop.Refused refusal)) s = record {
  tells = source_stopped asked had has (fault.Stop (stop.Refused refusal)) s;
  undecided = λ e. absurd (cc);
  unspent = λ e. absurd (cc);
  within = stopped_few asked had has (fault.Stop (stop.Refused refusal)) s;
  prompt = λ e. few_read had has s.before s.last refusal.to_byte s.off s.tells.0.prompt s.few;
}
answered_stop asked had has (fault.Stop stop.OutOfMemory) s = record {
  tells = source_stopped asked had has (fault.Stop stop.OutOfMemory) s;
  undecided = λ e. absurd (cc);
  unspent = λ e. absurd (cc);
  within = stopped_few asked had has (fault.Stop stop.OutOfMemory) s;
  prompt = tt;
}
answered_stop asked had has (fault.Stop stop.Spent) s = absurd s.tells
answered_stop asked had has fault.ReadFault s = absurd s.tells
answered_stop asked had has (fault.Hidden from to) s = record {
  tells = source_stopped asked had has (fault.Hidden from to) s;
  undecided = λ e. absurd (cc);
  unspent = λ e. absurd (cc);
  within = stopped_few asked had has (fault.Hidden from to) s;
  prompt = few_read had has s.before s.last to s.off s.tells.1 s.few;
}

came_few : (check : Checking) (had has : Option (List ℕ)) → CameAll check had has → TakesAtMost (most_bytes + 1) had has
came_few check had has c = record { bytes = c.came.bytes; few = omega (arith, c.few, c.came.size); off = c.came.off }

answered_failed : (check : Checking) (had has : Option (List ℕ)) → CameAll check had has
    → Answered (asked_by check) had has (Err fault.ReadFault)
answered_failed check had has c = record {
  tells = source_failed (asked_by check) had;
  undecided = λ e. record { bytes = c.came.bytes; off = c.came.off; are = taken_undecided check c.came.bytes c.came.all };
  unspent = λ e. absurd (cc);
  within = came_few check had has c;
  prompt = tt;
}

answered_by : (asked : Asked) (check : Checking) (had has : Option (List ℕ)) (why : AnywhereFault) → asked_by check ≡ asked
    → WholeTells asked check had has (Err why) → Answered asked had has (Err why)
answered_by asked check had has (fault.Stop why) e w = answered_stop asked had has (fault.Stop why) w
answered_by asked check had has fault.ReadFault e w =
    subst (λ (a : Asked). Answered a had has (Err fault.ReadFault)) e (answered_failed check had has w)
answered_by asked check had has (fault.Hidden from to) e w = answered_stop asked had has (fault.Hidden from to) w

pub answered_fault : (made check : Checking) (had has : Option (List ℕ)) (why : AnywhereFault) → asked_by check ≡ asked_by made
    → WholeTells (asked_by made) check had has (Err why) → Answered (asked_by made) had has (Err why)
answered_fault made check had has why same w =
    answered_by (asked_by made) check had has why same w

end_undecided : (asked : Asked) (had has : Option (List ℕ)) (taken : List ℕ) (result : Result Totals AnywhereFault) → EndTells asked taken result
    → result ≡ Err fault.ReadFault → Undecided asked had has
end_undecided asked had has taken (Ok totals) t e = absurd (cc)
end_undecided asked had has taken (Err (fault.Stop why)) t e = absurd (cc)
end_undecided asked had has taken (Err fault.ReadFault) t e = absurd t
end_undecided asked had has taken (Err (fault.Hidden from to)) t e = absurd t

end_unspent : (asked : Asked) (taken : List ℕ) (result : Result Totals AnywhereFault) → EndTells asked taken result
    → result ≢ Err (fault.Stop stop.Spent)
end_unspent asked taken (Ok totals) t = λ e. absurd (cc)
end_unspent asked taken (Err (fault.Stop (stop.Refused refusal))) t = λ e. absurd (cc)
end_unspent asked taken (Err (fault.Stop stop.OutOfMemory)) t = absurd t
end_unspent asked taken (Err (fault.Stop stop.Spent)) t = absurd t
end_unspent asked taken (Err fault.ReadFault) t = absurd t
end_unspent asked taken (Err (fault.Hidden from to)) t = absurd t

end_prompt : (asked : Asked) (had has : Option (List ℕ)) (taken : List ℕ) (result : Result Totals AnywhereFault) → EndTells asked taken result
    → TakesFew had has result
end_prompt asked had has taken (Ok totals) t = tt
end_prompt asked had has taken (Err (fault.Stop (stop.Refused refusal))) t = λ e. absurd (e t.cut)
end_prompt asked had has taken (Err (fault.Stop stop.OutOfMemory)) t = tt
end_prompt asked had has taken (Err (fault.Stop stop.Spent)) t = tt
end_prompt asked had has taken (Err fault.ReadFault) t = tt
end_prompt asked had has taken (Err (fault.Hidden from to)) t = absurd t

answered_end : (asked : Asked) (check : Checking) (had has : Option (List ℕ)) (c : CameAll check had has) (result : Result Totals AnywhereFault) → IsAtEnd has
    → EndTells asked c.came.bytes result → Answered asked had has result
answered_end asked check had has c result e t = record {
  tells = ends_by asked had c.came.bytes result (whole_read had has c.came.bytes c.came.off e) t;
  undecided = end_undecided asked had has c.came.bytes result t;
  unspent = end_unspent asked c.came.bytes result t;
  within = came_few check had has c;
  prompt = end_prompt asked had has c.came.bytes result t;
}

pub answered_whole : (made check : Checking) (had has : Option (List ℕ)) (result : Result Totals AnywhereFault) → asked_by check ≡ asked_by made
    → WholeTells (asked_by made) check had has (Ok tt)
    → ((taken : List ℕ) → HasTaken check taken → EndTells (asked_by check) taken result)
    → Answered (asked_by made) had has result
answered_whole made check had has result same w tells =
    answered_end (asked_by made) check had has w.0 result w.1
    (subst (λ (a : Asked). EndTells a w.0.came.bytes result) same (tells w.0.came.bytes w.0.came.all))

-- of the filter that the check was made with
pub as_made : (asked : Asked) (made : Checking) (had has : Option (List ℕ)) (result : Result Totals AnywhereFault) → asked_by made ≡ asked → Answered (asked_by made) had has result → Answered asked had has result
as_made asked made had has result e a =
    subst (λ (x : Asked). Answered x had has result) e a

pub names_only : (anywhere : Bool) (why : AnywhereFault) → KeepsFault anywhere why → NamesOnly anywhere why
names_only anywhere (fault.Stop why) k = tt
names_only anywhere fault.ReadFault k = tt
names_only anywhere (fault.Hidden from to) k = k
