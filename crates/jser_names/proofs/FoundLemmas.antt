-- What is found at the end of the bytes of a stream.
use Rattle.std.proofs.Common.{◌≡◌, inl, inr, ℕ, false, List, [], ◌++◌, length, take, drop, Result, Ok, Err, refl, sym, ◌∙◌, ap, subst, arith, append-nil, length-append}
use Rattle.std.proofs.lemmas.List.{take-append-drop}
use Rattle.jser_reading.specs.ByteLaws.{OneReading}
use Rattle.jser_reading.specs.TokenBytes.{joined}
use Rattle.jser_reading.specs.Labels.{Piece}
use Rattle.jser_verdict.specs.Passing.{Passes}
use Rattle.jser_reader.specs.declared.Stop.{Stop}
use Rattle.jser_reader.specs.declared.Stop.TheVariants as stop
use Rattle.jser_reader.specs.declared.Totals.{Totals}
use Rattle.jser_reader.specs.declared.tally.Tally.{Tally}
use Rattle.jser_reader.specs.Gates.{open_gate}
use Rattle.jser_reader.specs.ItemsTold.{StandsIn, TellsTokens}
use Rattle.jser_reader.specs.Readers.{Seen}
use Rattle.jser_reader.specs.ReaderStates.{FinishTells}
use Rattle.jser_reader.specs.Tallies.{AreTotals}
use Rattle.jser_reader.proofs.RefusalLemmas.{front_refused}
use Rattle.jser_names.specs.Collecting.{LengthsAreMeasured, NamesAreCollected, begin_collecting, collected, measured}
use Rattle.jser_names.specs.Finds.{Finds}
use Rattle.jser_names.specs.Found.{HasFound}
use Rattle.jser_names.specs.Standing.{Names, Closes, Closed, IsAt, Stands}
use Rattle.jser_names.specs.Takers.{EndCases, TookCases}
use Rattle.jser_names.specs.declared.found.Found.{Found}
use Rattle.jser_names.proofs.PieceLemmas.{stands_for}
use Rattle.jser_names.proofs.StepLemmas.{close_closed, close_ended, closes_longest, head_some}

-- ---- the end

at_end : (front : List Piece) (cut : List ℕ) (old mid : Names) → IsAt front cut old → cut ≡ [] → Closes old.is_open old mid → Closed front cut mid
at_end front cut old mid (inl c) none closes = close_closed front cut old mid c closes
at_end front cut old mid (inr (inl e)) none closes = close_ended front cut old mid e closes
at_end front cut old mid (inr (inr g)) none closes =
    let a = ap length (sym none ∙ g.cut_is) ∙ length-append g.head old.text in
    let b = g.size in
    let c = head_some g.long in
    absurd (omega arith)

pub ends_found : NamesAreCollected → LengthsAreMeasured → OneReading → (r : Seen) (tally : Tally) (after : Seen) (totals : Totals) (old new : Names) (found : Found)
    → Closes old.is_open old new → FinishTells open_gate (Ok totals) r tally after → TellsTokens open_gate (Ok totals) r tally → found.names ≡ new.names
    → found.totals ≡ totals → found.longest ≡ new.longest → (taken : List ℕ) → Stands taken r tally old → EndCases HasFound taken (Ok found)
unfolding FinishTells TellsTokens
ends_found names lengths one r tally after totals old new found closes tells tokens names_are totals_are longest_is taken h =
    let f = tokens h.front h.cut h.reads in
    let t = tells taken (stands_for taken r tally old h) in
    let c = at_end h.front h.cut old new h.at f.0 closes in
    let all : joined h.front ≡ taken = sym (append-nil (joined h.front)) ∙ ap (λ xs. joined h.front ++ xs) (sym f.0) ∙ sym h.split in
    let passes : Passes open_gate taken f.1.0 = subst (λ bytes. Passes open_gate bytes f.1.0) all f.1.1 in
    let same : t.0.0 ≡ f.1.0 = one taken t.0.0 f.1.0 t.0.1.0 passes.0 in (
      f.1.0,
      record {
        passes = passes;
        names_are =
            names_are ∙ sym (ap (λ y. y.names) c.so_far) ∙ ap (λ ps. (collected begin_collecting ps).names) f.1.2 ∙ names f.1.0 passes.0.1;
        totals_are = subst (AreTotals taken f.1.0) (sym totals_are) (subst (λ l. AreTotals taken l totals) same t.0.2);
        longest_is =
            longest_is ∙ closes_longest old.is_open old new closes ∙ sym h.measures ∙ ap (measured 0) f.1.2 ∙ lengths f.1.0 passes.0.1;
      },
    )

pub ends_stopped : (r : Seen) (tally : Tally) (after : Seen) (why : Stop) (x : Names) → FinishTells open_gate (Err why) r tally after
    → (taken : List ℕ) → Stands taken r tally x → EndCases HasFound taken (Err why)
unfolding FinishTells
ends_stopped r tally after (stop.Refused refusal) x t taken h = (t taken (stands_for taken r tally x h)).0
ends_stopped r tally after stop.OutOfMemory x t taken h = tt
ends_stopped r tally after stop.Spent x t taken h = t taken (stands_for taken r tally x h)

-- ---- of bytes

pub nothing_taken : (r : Seen) (tally : Tally) (x : Names) → StandsIn open_gate [] [] r tally → x ≡ record { names = []; left = 0; is_open = false; text = []; longest = 0 }
    → Stands [] r tally x
nothing_taken r tally x st is = record {
  front = [];
  cut = [];
  split = refl;
  reads = st;
  at = inl (record {
    is = ap (λ y. y.is_open) is;
    so_far = ap (λ y. record { names = y.names; left = y.left }) (sym is);
    plain = λ i. ap (λ y. y.left) is;
  });
  measures = sym (ap (λ y. y.longest) is);
}

pub finds : (took : List ℕ → Type 0) (bytes : List ℕ) (result : Result Found Stop) → took bytes → ((taken : List ℕ) → took taken → EndCases HasFound taken result) → Finds bytes result
finds took bytes (Ok found) t e = e bytes t
finds took bytes (Err (stop.Refused refusal)) t e = inr (e bytes t)
finds took bytes (Err stop.OutOfMemory) t e = tt
finds took bytes (Err stop.Spent) t e = e bytes t

pub finds_not : (took : List ℕ → Type 0) (bytes : List ℕ) (why : Stop) → TookCases took [] bytes (Err why) → Finds bytes (Err why)
finds_not took bytes (stop.Refused refusal) s =
    inl (front_refused open_gate (take s.0 bytes) (drop s.0 bytes) bytes refusal (sym (take-append-drop s.0 bytes)) s.2)
finds_not took bytes stop.OutOfMemory s = tt
finds_not took bytes stop.Spent s = s
