-- The records of an input, one after another.
use Rattle.std.proofs.Common.{◌≡◌, ℕ, List, [], ◌∷◌, ◌++◌, Some, true, refl, sym, ap, subst, ◌∙◌}
use Rattle.jser_prim.specs.Outgoing.{SinkState}
use Rattle.jser_records.specs.declared.clerk.Clerk.{Clerk}
use Rattle.jser_records.specs.declared.layout.Shape.{Shape}
use Rattle.jser_records.specs.declared.current.Record.{Record}
use Rattle.jser_records.specs.Arriving.{Arriving, Took, ahead}
use Rattle.jser_records.specs.Held.{Holds, Keeps, Terms, may_pass, passes, terms_of}
use Rattle.jser_records.specs.Records.{AreRecords, IsPart, RecordsFront, RecordsGo}
use Rattle.jser_records.specs.Sized.{At}
use Rattle.jser_records.specs.Told.{Entry, Event, HandsOn, Quiet, SaysAll}
use Rattle.jser_records.proofs.RoomLemmas.{ahead_took, took_none}
use Rattle.jser_records.proofs.ToldLemmas.{quiet_none, says_all}

are_both : (layout : Shape) (terms : Terms) (at mid to : At) (bytes left rest : List ℕ) (xs ys : List Event) → AreRecords layout terms at bytes xs mid left → AreRecords layout terms mid left ys to rest
    → AreRecords layout terms at bytes (xs ++ ys) to rest
are_both layout terms at mid to bytes left rest [] ys f g =
    subst (λ b. AreRecords layout terms at b ys to rest) (sym f.1) (subst (λ a. AreRecords layout terms a left ys to rest) (sym f.0) g)
are_both layout terms at mid to bytes left rest (e ∷ xs) ys (next, behind_it, f, fs) g =
    (next, behind_it, f, are_both layout terms next mid to behind_it left rest xs ys fs g)

under_same : (layout : Shape) (at to : At) (old new : Record) (bytes rest : List ℕ) (events : List Event) → Keeps old new → AreRecords layout (terms_of new) at bytes events to rest
    → AreRecords layout (terms_of old) at bytes events to rest
under_same layout at to old new bytes rest events keeps f = subst (λ t. AreRecords layout t at bytes events to rest) keeps f

pub records_both : (layout : Shape) (at on to : At) (a b c : Clerk) (from mid now : Arriving) (p q r s t u : SinkState) → RecordsGo layout at on a b from mid p q s t → RecordsGo layout on to b c mid now q r t u
    → RecordsGo layout at to a c from now p r s u
records_both layout at on to a b c from mid now p q r s t u f g = record {
  events = f.events ++ g.events;
  says = says_all a b c p q r s t u f.events g.events f.says g.says;
  keeps = g.keeps ∙ f.keeps;
  are =
      λ bytes known.
      let x = f.are bytes known in
      let y = g.are x.0 x.1 in
      (y.0, y.1, are_both layout (terms_of a.current) at on to bytes x.0 y.0 f.events g.events x.2 (under_same layout on to a.current b.current x.0 y.0 g.events f.keeps y.2));
}

pub records_then : (layout : Shape) (at on : At) (a b c : Clerk) (from mid : Arriving) (p q r s t u : SinkState) → RecordsGo layout at on a b from mid p q s t → RecordsFront layout on b c mid q r t u
    → RecordsFront layout at a c from p r s u
records_then layout at on a b c from mid p q r s t u f g = record {
  events = f.events ++ g.events;
  says = says_all a b c p q r s t u f.events g.events f.says g.says;
  are =
      λ bytes known.
      let x = f.are bytes known in
      let y = g.are x.0 x.1 in
      (y.0, y.1, are_both layout (terms_of a.current) at on y.0 bytes x.0 y.1 f.events g.events x.2 (under_same layout on y.0 a.current b.current x.0 y.1 g.events f.keeps y.2));
}

pub records_front : (layout : Shape) (at to : At) (a b : Clerk) (from now : Arriving) (p q s t : SinkState) → RecordsGo layout at to a b from now p q s t → RecordsFront layout at a b from p q s t
records_front layout at to a b from now p q s t f = record { events = f.events; says = f.says; are = λ bytes known. let x = f.are bytes known in (to, x.0, x.2) }

-- nothing was taken
pub records_quiet : (layout : Shape) (at : At) (a b : Clerk) (from now : Arriving) (p q s t : SinkState) → Quiet a b p q s t → Took from now [] → RecordsGo layout at at a b from now p q s t
records_quiet layout at a b from now p q s t quiet took = record {
  events = [];
  says = quiet.says;
  keeps = quiet.keeps;
  are = λ bytes known. let x = ahead_took from now [] bytes took known in (x.0, x.1, (refl, x.2));
}

pub records_none : (layout : Shape) (at : At) (a : Clerk) (room : Arriving) (p s : SinkState) → RecordsGo layout at at a a room room p p s s
records_none layout at a room p s = records_quiet layout at a a room room p p s s (quiet_none a p s) (took_none room)

-- there was a trouble before a record ended
pub front_quiet : (layout : Shape) (at : At) (old last : Clerk) (from : Arriving) (p q s t : SinkState) → Quiet old last p q s t → RecordsFront layout at old last from p q s t
front_quiet layout at old last from p q s t quiet = record { events = []; says = quiet.says; are = λ bytes known. (at, bytes, (refl, refl)) }

-- something came of the bytes that were taken
pub part_said : (layout : Shape) (at to : At) (old last new : Clerk) (from now : Arriving) (p q r s t u : SinkState) (event : Event) (raw : List ℕ) → Quiet old last p q s t → Took from now raw
    → SaysAll last new q r t u (event ∷ []) → Keeps last.current new.current
    → ((rest : List ℕ) → ahead now ≡ Some rest → IsPart layout (terms_of old.current) at (raw ++ rest) event to rest) → RecordsGo layout at to old new from now p r s u
part_said layout at to old last new from now p q r s t u event raw quiet took says keeps is = record {
  events = event ∷ [];
  says = says_all old last new p q r s t u [] (event ∷ []) quiet.says says;
  keeps = keeps ∙ quiet.keeps;
  are =
      λ bytes known.
      let x = ahead_took from now raw bytes took known in
      (x.0, x.1, (to, x.0, subst (λ all. IsPart layout (terms_of old.current) at all event to x.0) (sym x.2) (is x.0 x.1), (refl, refl)));
}

-- the bytes that were kept of a record are those that are handed on
pub handed : (old last : Record) (entry : Entry) (raw : List ℕ) → Keeps old last → Holds last raw → entry.held ≡ last.held.items → (passes entry.answer ≡ true → may_pass last.reading.answer ≡ true)
    → HandsOn (terms_of old) entry raw
handed old last entry raw keeps holds kept may = λ on on_it. kept ∙ holds (ap (λ (t : Terms). t.hands_on) keeps ∙ on) (may on_it)
