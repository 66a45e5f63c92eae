-- What is said of a refusal, and that it went out.
use Rattle.std.proofs.Common.{◌≡◌, ℕ, ◌≤◌, arith, true, false, List, [], ◌∷◌, ◌++◌, Option, Some, None, length, Bool, refl, sym, ap, ◌∙◌, subst}
use Rattle.jser_prim.specs.Outgoing.{Outgoing, SinkState, Puts, sink_state}
use Rattle.jser_prim.proofs.OutgoingLemmas.{nothing, puts_both}
use Rattle.jser_printer.specs.Says.{Says}
use denote.Bor.{Bor}
use Rattle.jser_printer.specs.Names.{view_name}
use Rattle.jser_printer.proofs.SaysLemmas.{says_none, says_both}
use Rattle.jser_scan.proofs.ScanLemmas.{went, broke, kept}
use Rattle.jser_scan.specs.declared.found.Found.{Found}
use Rattle.jser_explain.specs.declared.token.Spot.{Spot}
use Rattle.jser_explain.specs.Heads.{token_of, token_line, digits_end, hex_end, known_class_line, class_in, class_line, head_words}
use Rattle.jser_explain.specs.Rest.{More, rest_words, without_piece}
use Rattle.jser_explain.specs.Whys.{why_at, why_words, SaysSomeWhy, SaysWhy, SaysWhyTo}

-- ---- the parts

no_more : More
no_more = record { class = None; piece = None; opened = []; writer = None; hint = [] }

pub why_nothing : {S : Type 0} (gone_out : S → Option (List ℕ)) (has_failed : S → Bool) (bytes : List ℕ) (result : Found) (a : Outgoing) (s : S) → token_of result ≡ None
    → SaysWhyTo gone_out has_failed bytes result a a s s
unfolding no_more
why_nothing gone_out has_failed bytes result a s none = record {
  sentence = [];
  more = no_more;
  short = subst (λ f. length (why_at f [] bytes (class_in result) no_more []) ≤ 102400) (sym none) (omega arith);
  said = subst (λ f. Says a a (sink_state (gone_out s) (has_failed s)) (sink_state (gone_out s) (has_failed s)) (λ k. why_at f [] bytes (class_in result) no_more k)) (sym none)
      (says_none a (sink_state (gone_out s) (has_failed s)) (λ k. k));
}

pub why_all : {S : Type 0} (gone_out : S → Option (List ℕ)) (has_failed : S → Bool) (sentence bytes : List ℕ) (result : Found) (spot : Spot) (class : Option (List ℕ)) (more : More)
    (a b c : Outgoing) (s t u : S) → token_of result ≡ Some spot → class ≡ class_in result → length (head_words sentence bytes spot class (rest_words (without_piece more) [])) ≤ 102400
    → Says a b (sink_state (gone_out s) (has_failed s)) (sink_state (gone_out t) (has_failed t)) (λ k. head_words sentence bytes spot class k)
    → Says b c (sink_state (gone_out t) (has_failed t)) (sink_state (gone_out u) (has_failed u)) (λ k. rest_words more k)
    → SaysWhyTo gone_out has_failed bytes result a c s u
why_all gone_out has_failed sentence bytes result spot class more a b c s t u at same small head rest = record {
  sentence = sentence;
  more = more;
  short = subst (λ f. length (why_at f sentence bytes (class_in result) (without_piece more) []) ≤ 102400) (sym at)
      (subst (λ n. length (head_words sentence bytes spot n (rest_words (without_piece more) [])) ≤ 102400) same small);
  said = subst (λ f. Says a c (sink_state (gone_out s) (has_failed s)) (sink_state (gone_out u) (has_failed u)) (λ k. why_at f sentence bytes (class_in result) more k)) (sym at)
      (subst (λ n. Says a c (sink_state (gone_out s) (has_failed s)) (sink_state (gone_out u) (has_failed u)) (λ k. head_words sentence bytes spot n (rest_words more k))) same
      (says_both a b c (sink_state (gone_out s) (has_failed s)) (sink_state (gone_out t) (has_failed t)) (sink_state (gone_out u) (has_failed u))
      (λ k. head_words sentence bytes spot class k) (λ k. rest_words more k) head rest));
}

-- ---- they went out

pub why_went : {S : Type 0} (gone_out : S → Option (List ℕ)) (has_failed : S → Bool) (bytes : List ℕ) (result : Found) (start mid now : Outgoing) (before middle after : S) → start ≡ nothing
    → SaysWhyTo gone_out has_failed bytes result start mid before middle
    → Puts mid now (sink_state (gone_out middle) (has_failed middle)) (sink_state (gone_out after) (has_failed after)) [] → now.failed ≡ false → (now.failed ≡ false → now.waiting ≡ [])
    → SaysWhy bytes result (gone_out before) (gone_out after)
why_went gone_out has_failed bytes result start mid now before middle after new says flush on empty = record {
  sentence = says.sentence;
  more = says.more;
  short = says.short;
  printed = went start mid now (sink_state (gone_out before) (has_failed before)) (sink_state (gone_out middle) (has_failed middle)) (sink_state (gone_out after) (has_failed after))
      (λ k. why_words says.sentence bytes result says.more k) new says.said flush on empty;
}

pub why_broke : {S : Type 0} (gone_out : S → Option (List ℕ)) (has_failed : S → Bool) (bytes : List ℕ) (result : Found) (start mid now : Outgoing) (before middle after : S) → start ≡ nothing
    → SaysWhyTo gone_out has_failed bytes result start mid before middle
    → Puts mid now (sink_state (gone_out middle) (has_failed middle)) (sink_state (gone_out after) (has_failed after)) [] → now.failed ≡ true → has_failed after ≡ true
why_broke gone_out has_failed bytes result start mid now before middle after new says flush off =
    broke start mid now (sink_state (gone_out before) (has_failed before)) (sink_state (gone_out middle) (has_failed middle)) (sink_state (gone_out after) (has_failed after))
    (λ k. why_words says.sentence bytes result says.more k) new says.said flush off

pub why_kept : {S : Type 0} (gone_out : S → Option (List ℕ)) (has_failed : S → Bool) (bytes : List ℕ) (result : Found) (start mid now : Outgoing) (before middle after : S) → start ≡ nothing
    → SaysWhyTo gone_out has_failed bytes result start mid before middle
    → Puts mid now (sink_state (gone_out middle) (has_failed middle)) (sink_state (gone_out after) (has_failed after)) [] → now.failed ≡ false → has_failed after ≡ has_failed before
why_kept gone_out has_failed bytes result start mid now before middle after new says flush on =
    kept start mid now (sink_state (gone_out before) (has_failed before)) (sink_state (gone_out middle) (has_failed middle)) (sink_state (gone_out after) (has_failed after))
    (λ k. why_words says.sentence bytes result says.more k) new says.said flush on

-- the sink failed: the first bytes went out
pub why_some : {S : Type 0} (gone_out : S → Option (List ℕ)) (has_failed : S → Bool) (bytes : List ℕ) (result : Found) (start mid now : Outgoing) (before middle after : S) → start ≡ nothing
    → SaysWhyTo gone_out has_failed bytes result start mid before middle
    → Puts mid now (sink_state (gone_out middle) (has_failed middle)) (sink_state (gone_out after) (has_failed after)) [] → SaysSomeWhy bytes result (gone_out before) (gone_out after)
why_some gone_out has_failed bytes result start mid now before middle after new says flush =
    let said = says.said in
    let all = puts_both start mid now (sink_state (gone_out before) (has_failed before)) (sink_state (gone_out middle) (has_failed middle)) (sink_state (gone_out after) (has_failed after)) said.bytes [] said.puts flush in
    let hands = all.going (ap (λ o. o.failed) new) in
    record {
      sentence = says.sentence;
      more = says.more;
      short = says.short;
      out = hands.out;
      left = hands.left;
      split = said.is [] ∙ sym (ap (λ o. o.waiting ++ (said.bytes ++ [])) new) ∙ hands.split;
      printed = hands.went;
    }

-- ---- the bytes

pub shown_said : (a b : Outgoing) (d e : SinkState) (spot : Spot) (shown first : List ℕ) → shown ≡ first → Says a b d e (λ k. token_line spot shown k) → Says a b d e (λ k. token_line spot first k)
shown_said a b d e spot shown first is says = subst (λ bs. Says a b d e (λ k. token_line spot bs k)) is says

pub hex_some : (a b : Outgoing) (d e : SinkState) (bytes : List ℕ) → (length bytes ≡ 0 → ⊥) → Says a b d e (λ k. digits_end bytes k) → Says a b d e (λ k. hex_end bytes k)
hex_some a b d e [] some says = absurd (some refl)
hex_some a b d e (x ∷ bytes) some says = says

-- ---- a class, if one is known

pub class_known : (a b : Outgoing) (d e : SinkState) (class : Option (Bor (List ℕ))) (units : Bor (List ℕ)) → class ≡ Some units → Says a b d e (λ k. known_class_line units.now k)
    → Says a b d e (λ k. class_line (view_name class) k)
class_known a b d e class units is says = subst (λ o. Says a b d e (λ k. class_line (view_name o) k)) (sym is) says

pub class_unknown : (a b : Outgoing) (d e : SinkState) (class : Option (Bor (List ℕ))) → class ≡ None → Says a b d e (λ k. [] ++ k) → Says a b d e (λ k. class_line (view_name class) k)
class_unknown a b d e class is says = subst (λ o. Says a b d e (λ k. class_line (view_name o) k)) (sym is) says
