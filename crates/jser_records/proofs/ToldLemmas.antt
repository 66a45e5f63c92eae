-- What is said of records, one after another.
use Rattle.std.proofs.Common.{◌≡◌, ℕ, Bool, true, false, ◌&&◌, List, [], ◌∷◌, ◌++◌, refl, sym, ap, subst, ◌∙◌, if◌then◌else◌}
use Rattle.jser_prim.specs.Outgoing.{SinkState, Puts}
use Rattle.jser_printer.specs.Says.{Says}
use Rattle.jser_printer.proofs.SaysLemmas.{says_both, says_bytes, says_nothing, says_same}
use Rattle.jser_scan.specs.declared.How.{How}
use Rattle.jser_scan.specs.declared.Tally.{Tally}
use Rattle.jser_scan.specs.Tallies.{one_more}
use Rattle.jser_records.specs.declared.answer.Answer.{Answer}
use Rattle.jser_records.specs.declared.clerk.Clerk.{Clerk}
use Rattle.jser_records.specs.declared.key.Key.{Key}
use Rattle.jser_records.specs.declared.sign.Sign.{Sign}
use Rattle.jser_records.specs.declared.current.Record.{Record}
use Rattle.jser_records.specs.Keys.{KeepsKey}
use Rattle.jser_records.specs.Held.{Keeps, may_pass, passes, terms_of}
use Rattle.jser_records.specs.Readings.{Came, IsFor, Value}
use Rattle.jser_records.specs.Told.{Closes, Event, Quiet, SaysAll, all_counted, all_put, all_told, behind_it, counted, counted_event, ended, number_after, number_at_end, passed_over, put_event, put_of, told_event, told_of}

-- ---- one event after another

number_both : (n : ℕ) (xs ys : List Event) → number_at_end n (xs ++ ys) ≡ number_at_end (number_at_end n xs) ys
number_both n [] ys = refl
number_both n (x ∷ xs) ys = number_both (number_after n x) xs ys

put_both : (how : How) (on : Bool) (n : ℕ) (xs ys : List Event) (k : List ℕ) → all_put how on n (xs ++ ys) k ≡ all_put how on n xs (all_put how on (number_at_end n xs) ys k)
put_both how on n [] ys k = refl
put_both how on n (x ∷ xs) ys k = ap (λ rest. put_event how on n x rest) (put_both how on (number_after n x) xs ys k)

told_both : (how : How) (on : Bool) (n : ℕ) (xs ys : List Event) (k : List ℕ) → all_told how on n (xs ++ ys) k ≡ all_told how on n xs (all_told how on (number_at_end n xs) ys k)
told_both how on n [] ys k = refl
told_both how on n (x ∷ xs) ys k = ap (λ rest. told_event how on n x rest) (told_both how on (number_after n x) xs ys k)

counted_both : (t : Tally) (xs ys : List Event) → all_counted t (xs ++ ys) ≡ all_counted (all_counted t xs) ys
counted_both t [] ys = refl
counted_both t (x ∷ xs) ys = counted_both (counted_event t x) xs ys

pub says_all : (a b c : Clerk) (p q r s t u : SinkState) (xs ys : List Event) → SaysAll a b p q s t xs → SaysAll b c q r t u ys → SaysAll a c p r s u (xs ++ ys)
says_all a b c p q r s t u xs ys f g = record {
  output =
      says_same a.output c.output p r (λ k. all_put a.how a.passes a.number xs (all_put b.how b.passes b.number ys k)) (λ k. all_put a.how a.passes a.number (xs ++ ys) k)
      (λ k. put_both a.how a.passes a.number xs ys k
      ∙ ap (λ h. all_put a.how a.passes a.number xs (all_put h a.passes (number_at_end a.number xs) ys k)) (sym f.how)
      ∙ ap (λ o. all_put a.how a.passes a.number xs (all_put b.how o (number_at_end a.number xs) ys k)) (sym f.passes)
      ∙ ap (λ n. all_put a.how a.passes a.number xs (all_put b.how b.passes n ys k)) (sym f.number))
      (says_both a.output b.output c.output p q r (λ k. all_put a.how a.passes a.number xs k) (λ k. all_put b.how b.passes b.number ys k) f.output g.output);
  faults =
      says_same a.faults c.faults s u (λ k. all_told a.how a.passes a.number xs (all_told b.how b.passes b.number ys k)) (λ k. all_told a.how a.passes a.number (xs ++ ys) k)
      (λ k. told_both a.how a.passes a.number xs ys k
      ∙ ap (λ h. all_told a.how a.passes a.number xs (all_told h a.passes (number_at_end a.number xs) ys k)) (sym f.how)
      ∙ ap (λ o. all_told a.how a.passes a.number xs (all_told b.how o (number_at_end a.number xs) ys k)) (sym f.passes)
      ∙ ap (λ n. all_told a.how a.passes a.number xs (all_told b.how b.passes n ys k)) (sym f.number))
      (says_both a.faults b.faults c.faults s t u (λ k. all_told a.how a.passes a.number xs k) (λ k. all_told b.how b.passes b.number ys k) f.faults g.faults);
  number = g.number ∙ ap (λ n. number_at_end n ys) f.number ∙ sym (number_both a.number xs ys);
  tally = g.tally ∙ ap (λ z. all_counted z ys) f.tally ∙ sym (counted_both a.tally xs ys);
  how = g.how ∙ f.how;
  passes = g.passes ∙ f.passes;
}

pub says_none : (a : Clerk) (p s : SinkState) → SaysAll a a p p s s []
says_none a p s = record {
  output = says_nothing a.output p (λ k. k) (λ k. refl);
  faults = says_nothing a.faults s (λ k. k) (λ k. refl);
  number = refl;
  tally = refl;
  how = refl;
  passes = refl;
}

-- the record that is read changed
pub says_changed : (b : Clerk) (x : Record) (q t : SinkState) → SaysAll b (record b { current = x }) q q t t []
says_changed b x q t = record {
  output = says_nothing b.output q (λ k. k) (λ k. refl);
  faults = says_nothing b.faults t (λ k. k) (λ k. refl);
  number = refl;
  tally = refl;
  how = refl;
  passes = refl;
}

-- ---- calls in which no record ends

pub quiet_none : (a : Clerk) (p s : SinkState) → Quiet a a p p s s
quiet_none a p s = record { says = says_none a p s; keeps = refl }

pub quiet_both : (a b c : Clerk) (p q r s t u : SinkState) → Quiet a b p q s t → Quiet b c q r t u → Quiet a c p r s u
quiet_both a b c p q r s t u f g = record {
  says = says_all a b c p q r s t u [] [] f.says g.says;
  keeps = g.keeps ∙ f.keeps;
}

-- the record that is read changed, not its terms
pub quiet_changed : (b : Clerk) (x : Record) (q t : SinkState) → Keeps b.current x → Quiet b (record b { current = x }) q q t t
quiet_changed b x q t keeps = record { says = says_changed b x q t; keeps = keeps }

-- it changed before a call, or behind one
pub quiet_from : (b other c : Clerk) (q r t u : SinkState) → other ≡ record b { current = other.current } → Keeps b.current other.current → Quiet other c q r t u
    → Quiet b c q r t u
quiet_from b other c q r t u same keeps g =
    quiet_both b (record b { current = other.current }) c q q r t t u (quiet_changed b other.current q t keeps) (subst (λ z. Quiet z c q r t u) same g)

pub quiet_then_changed : (a b other : Clerk) (p q s t : SinkState) → Quiet a b p q s t → other ≡ record b { current = other.current } → Keeps b.current other.current
    → Quiet a other p q s t
quiet_then_changed a b other p q s t f same keeps =
    subst (λ z. Quiet a z p q s t) (sym same) (quiet_both a b (record b { current = other.current }) p q q s t t f (quiet_changed b other.current q t keeps))

one_said : (old new : Clerk) (p q s t : SinkState) (key : Key) (signs : List Sign) (result : Answer) (held : List ℕ)
    → Says old.output new.output p q (λ k. put_of old.how old.passes old.number key signs result held k)
    → Says old.faults new.faults s t (λ k. told_of old.how old.passes old.number key signs result k)
    → new.number ≡ one_more old.number → new.tally ≡ counted old.tally result → new.how ≡ old.how → new.passes ≡ old.passes
    → SaysAll old new p q s t (ended (record { key = key; signs = signs; answer = result; held = held }) ∷ [])
one_said old new p q s t key signs result held put told number tally how on =
    record { output = put; faults = told; number = number; tally = tally; how = how; passes = on }

-- a record has ended
pub closes : (old new : Clerk) (p q s t : SinkState) (passed : Bool) (key : Key) (signs : List Sign) (result : Answer) (held : List ℕ)
    → Says old.output new.output p q (λ k. put_of old.how old.passes old.number key signs result held k)
    → Says old.faults new.faults s t (λ k. told_of old.how old.passes old.number key signs result k)
    → new.number ≡ one_more old.number → new.tally ≡ counted old.tally result → new.how ≡ old.how → new.passes ≡ old.passes
    → held ≡ old.current.held.items → passed ≡ passes result → (passes result ≡ true → may_pass old.current.reading.answer ≡ true)
    → ((value : Value) → Came old.current.reading value → IsFor old.current.reading.judge.rules old.current.reading.most key.is_lost value result)
    → Keeps old.current new.current → KeepsKey old.current.reading.key key result → Closes old new p q s t passed
closes old new p q s t passed key signs result held put told number tally how on kept is may right keeps same = record {
  entry = record { key = key; signs = signs; answer = result; held = held };
  says = one_said old new p q s t key signs result held put told number tally how on;
  held = kept;
  passed = is;
  may = may;
  right = right;
  keeps = keeps;
  key = same;
}

-- bytes behind it were handed on, or passed over
pub said_behind : (old new : Clerk) (p q s : SinkState) (passed : Bool) (bytes : List ℕ) → passed ≡ true → old.passes ≡ true → Says old.output new.output p q (λ k. bytes ++ k) → new.faults ≡ old.faults
    → new.number ≡ old.number → new.tally ≡ old.tally → new.how ≡ old.how → new.passes ≡ old.passes → SaysAll old new p q s s (behind_it passed bytes ∷ [])
said_behind old new p q s passed bytes is on put kept number tally how same =
    subst (λ b. SaysAll old new p q s s (behind_it b bytes ∷ [])) (sym is)
    (record {
      output = says_same old.output new.output p q (λ k. bytes ++ k) (λ k. if old.passes then bytes ++ k else k) (λ k. ap (λ b. if b then bytes ++ k else k) on) put;
      faults = subst (λ o. Says old.faults o s s (λ k. k)) (sym kept) (says_nothing old.faults s (λ k. k) (λ k. refl));
      number = number;
      tally = tally;
      how = how;
      passes = same;
    })

pub said_over : (a : Clerk) (p s : SinkState) (passed : Bool) (bytes : List ℕ) → passed && a.passes ≡ false → SaysAll a a p p s s (behind_it passed bytes ∷ [])
said_over a p s true bytes off = record {
  output = says_nothing a.output p (λ k. if a.passes then bytes ++ k else k) (λ k. ap (λ b. if b then bytes ++ k else k) off);
  faults = says_nothing a.faults s (λ k. k) (λ k. refl);
  number = refl;
  tally = refl;
  how = refl;
  passes = refl;
}
said_over a p s false bytes off = record {
  output = says_nothing a.output p (λ k. k) (λ k. refl);
  faults = says_nothing a.faults s (λ k. k) (λ k. refl);
  number = refl;
  tally = refl;
  how = refl;
  passes = refl;
}

-- bytes were passed over that are no record
pub said_none : (a : Clerk) (p s : SinkState) (bytes : List ℕ) → SaysAll a a p p s s (passed_over bytes ∷ [])
said_none a p s bytes = record {
  output = says_nothing a.output p (λ k. k) (λ k. refl);
  faults = says_nothing a.faults s (λ k. k) (λ k. refl);
  number = refl;
  tally = refl;
  how = refl;
  passes = refl;
}

-- all that waited was handed to the devices
flushed : (old new : Clerk) (p q s t : SinkState) → Puts old.output new.output p q [] → Puts old.faults new.faults s t [] → new.number ≡ old.number
    → new.tally ≡ old.tally → new.how ≡ old.how → new.passes ≡ old.passes → SaysAll old new p q s t []
flushed old new p q s t put told number tally how same = record {
  output = says_bytes old.output new.output p q [] put;
  faults = says_bytes old.faults new.faults s t [] told;
  number = number;
  tally = tally;
  how = how;
  passes = same;
}

pub quiet_flushed : (old new : Clerk) (p q s t : SinkState) → Puts old.output new.output p q [] → Puts old.faults new.faults s t [] → new.number ≡ old.number
    → new.tally ≡ old.tally → new.how ≡ old.how → new.passes ≡ old.passes → new.current ≡ old.current → Quiet old new p q s t
quiet_flushed old new p q s t put told number tally how same current = record {
  says = flushed old new p q s t put told number tally how same;
  keeps = ap (λ (r : Record). terms_of r) current;
}
