-- Steps between two tokens.
use Rattle.std.proofs.Common.{◌≡◌, ℕ, List, length, None, Result, Ok, Err, OnOk, OnErr, refl, sym, ap, subst, ◌∙◌, rules}
use Rattle.jser_prim.specs.Outgoing.{Outgoing, SinkState}
use Rattle.jser_reading.specs.Labels.{StreamToken}
use Rattle.jser_shown.specs.Cues.{Teller}
use Rattle.jser_shown.specs.Telling.{SeenToken, says, says_in, settle_says, settled, first_owner, seen as seen_of}
use Rattle.jser_printer.specs.TokenWords.{epoch_in, token_words}
use Rattle.jser_printer.specs.declared.words.tag.Marks.{Marks}
use Rattle.jser_printer.specs.Steps.{due, due_says, pass}
use Rattle.jser_printer.specs.Passing.{MarksAre, says_next}
use Rattle.jser_printer.specs.Says.{Saying, Says, Begins}
use Rattle.jser_printer.proofs.SaysLemmas.{says_on, says_both, says_same}

-- A step does not change where the teller settles; and what it says comes first.
steps-settle : (s : Teller) → (settled s ≡ settled (pass s))
    × ((k : List ℕ) → settle_says s.known s.cues k ≡ due_says (due s) (settle_says (pass s).known (pass s).cues k))
steps-settle = search rules

-- Where nothing is due the teller has settled, and nothing more is said.
nothing-due : (s : Teller) → due s ≡ None → (settled s ≡ s) × ((k : List ℕ) → settle_says s.known s.cues k ≡ k)
nothing-due = search rules

-- a step more
pub says_step : (a b c : Outgoing) (d e f : SinkState) (all : List ℕ → List ℕ) (s t : Teller)
    → Saying a b d e all (λ k. settle_says s.known s.cues k) → Says b c e f (λ k. due_says (due s) k) → t ≡ pass s
    → Saying a c d f all (λ k. settle_says t.known t.cues k)
says_step a b c d e f all s t h g is =
    says_on a b c d e f all (λ k. settle_says s.known s.cues k) (λ k. settle_says t.known t.cues k) h (record {
      bytes = g.bytes;
      puts = g.puts;
      is = λ k. (steps-settle s).1 k ∙ ap (λ x. due_says (due s) (settle_says x.known x.cues k)) (sym is) ∙ g.is (settle_says t.known t.cues k);
    })

pub step_settles : (s t : Teller) → t ≡ pass s → settled s ≡ settled t
step_settles s t is = (steps-settle s).0 ∙ ap settled (sym is)

-- nothing more is due
pub says_settled : (a b c : Outgoing) (d e f : SinkState) (all : List ℕ → List ℕ) (s : Teller)
    → Saying a b d e all (λ k. settle_says s.known s.cues k) → Says b c e f (λ k. due_says (due s) k) → due s ≡ None → Says a c d f all
says_settled a b c d e f all s h g is =
    says_on a b c d e f all (λ k. settle_says s.known s.cues k) (λ k. k) h (record {
      bytes = g.bytes;
      puts = g.puts;
      is = λ k. (nothing-due s is).1 k ∙ ap (λ x. due_says x k) (sym is) ∙ g.is k;
    })

-- where memory ran out in a step
pub says_begun : (a b c : Outgoing) (d e f : SinkState) (all : List ℕ → List ℕ) (s : Teller)
    → Saying a b d e all (λ k. settle_says s.known s.cues k) → Says b c e f (λ k. due_says (due s) k) → Begins a c d f all
says_begun a b c d e f all s h g = record {
  left = λ k. settle_says (pass s).known (pass s).cues k;
  said = says_step a b c d e f all s (pass s) h g refl;
}

pub on_err_any : {T E P : Type 0} (r : Result T E) → P → OnErr r P
on_err_any (Ok x) p = tt
on_err_any (Err e) p = p

pub on_ok_any : {T E P : Type 0} (r : Result T E) → P → OnOk r P
on_ok_any (Ok x) p = p
on_ok_any (Err e) p = tt

pub ok_by : {T E P Q : Type 0} (r : Result T E) → OnOk r P → (P → Q) → OnOk r Q
ok_by (Ok x) p f = f p
ok_by (Err e) p f = tt

pub err_by : {T E P Q : Type 0} (r : Result T E) → OnErr r P → (P → Q) → OnErr r Q
err_by (Ok x) p f = tt
err_by (Err e) p f = f p

-- a token, where all is said that was due before it
pub says_then : (a b c : Outgoing) (d e f : SinkState) (s t : Teller) (told : StreamToken) → Says a b d e (λ k. settle_says s.known s.cues k)
    → t ≡ settled s → Says b c e f (λ k. says t told k) → Says a c d f (λ k. says_next s told k)
says_then a b c d e f s t told h is g =
    says_both a b c d e f (λ k. settle_says s.known s.cues k) (λ k. says (settled s) told k) h
    (subst (λ u. Says b c e f (λ k. says u told k)) is g)

-- where memory ran out before the token
pub begins_dues : (a b : Outgoing) (d e : SinkState) (s : Teller) (told : StreamToken) → Begins a b d e (λ k. settle_says s.known s.cues k)
    → Begins a b d e (λ k. says_next s told k)
begins_dues a b d e s told h = record {
  left = λ k. h.left (says (settled s) told k);
  said = record { bytes = h.said.bytes; puts = h.said.puts; is = λ k. h.said.is (says (settled s) told k) };
}

pub begins_all : (a b : Outgoing) (d e : SinkState) (all : List ℕ → List ℕ) → Says a b d e all → Begins a b d e all
begins_all a b d e all h = record { left = λ k. k; said = h }

-- what is said of a token at a place of a teller is what the teller says of it
pub says_told : (a b : Outgoing) (d e : SinkState) (marks : Marks) (seen : SeenToken) (s : Teller) (told : StreamToken)
    → Says a b d e (λ k. token_words marks s.cues seen k) → seen ≡ seen_of told → MarksAre marks s → Says a b d e (λ k. says s told k)
says_told a b d e marks seen s told h is here =
    says_same a b d e (λ k. token_words marks s.cues seen k) (λ k. says s told k)
    (λ k. ap (λ x. says_in x (length s.known) (first_owner s.owners) s.cues (seen_of told) k) (sym here.0)
    ∙ ap (λ x. says_in (epoch_in marks) x (first_owner s.owners) s.cues (seen_of told) k) (sym here.1)
    ∙ ap (λ x. says_in (epoch_in marks) marks.next x s.cues (seen_of told) k) (sym here.2)
    ∙ ap (λ x. token_words marks s.cues x k) (sym is)) h
