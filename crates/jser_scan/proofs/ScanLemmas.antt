-- What is said of a file, and that it went out.
use Rattle.std.proofs.Common.{◌≡◌, ℕ, true, false, List, [], ◌∷◌, ◌++◌, Option, Some, codes, sym, ap, subst}
use Rattle.std.specs.declared.alloc.Global.{Global}
use Rattle.std.specs.Prelude.{Vec}
use Rattle.std.specs.Io.KnownBytes.{Appends}
use Rattle.jser_prim.specs.Outgoing.{Outgoing, SinkState, Puts}
use Rattle.jser_prim.proofs.OutgoingLemmas.{nothing, puts_both, went_out}
use Rattle.jser_reader.specs.declared.Refusal.{Refusal}
use Rattle.jser_reader.specs.ReasonNames.{reason_name}
use Rattle.jser_shown.specs.Words.{quoted}
use Rattle.jser_printer.specs.Says.{Says}
use Rattle.jser_printer.proofs.SaysLemmas.{says_both, says_three, says_four}
use Rattle.jser_scan.specs.declared.found.Found.{Found}
use Rattle.jser_scan.specs.declared.found.Found.TheVariants as found
use Rattle.jser_scan.specs.Answers.{answer_words, class_words, count_words, place_words}
use Rattle.jser_scan.specs.JsonTexts.{json_text}
use Rattle.jser_scan.specs.Json.{class_member, found_members, refusal_words}

-- ---- the words of one that is refused

pub says_refused : (a b c g : Outgoing) (d e f h : SinkState) (result : Found) (refusal : Refusal) (class : Option (Vec ℕ Global)) → result ≡ found.Refused refusal class
    → Says a b d e (λ k. place_words refusal.from_byte refusal.to_byte k) → Says b c e f (λ k. reason_name refusal.reason ++ k)
    → Says c g f h (λ k. class_words class k) → Says a g d h (λ k. answer_words result k)
says_refused a b c g d e f h result refusal class is x y z =
    subst (λ r. Says a g d h (λ k. answer_words r k)) (sym is)
    (says_three a b c g d e f h (λ k. place_words refusal.from_byte refusal.to_byte k) (λ k. reason_name refusal.reason ++ k) (λ k. class_words class k) x y z)

pub says_hidden : (a b c g : Outgoing) (d e f h : SinkState) (result : Found) (from to : ℕ) (class : Option (Vec ℕ Global)) → result ≡ found.Hidden from to class
    → Says a b d e (λ k. place_words from to k) → Says b c e f (λ k. codes "HiddenName" ++ k)
    → Says c g f h (λ k. class_words class k) → Says a g d h (λ k. answer_words result k)
says_hidden a b c g d e f h result from to class is x y z =
    subst (λ r. Says a g d h (λ k. answer_words r k)) (sym is)
    (says_three a b c g d e f h (λ k. place_words from to k) (λ k. codes "HiddenName" ++ k) (λ k. class_words class k) x y z)

pub says_class : (a b c : Outgoing) (d e f : SinkState) (class : Option (Vec ℕ Global)) (units : Vec ℕ Global) (name : List ℕ) → class ≡ Some units → name ≡ units.items
    → Says a b d e (λ k. codes " " ++ k) → Says b c e f (λ k. quoted name k) → Says a c d f (λ k. class_words class k)
says_class a b c d e f class units name is same x y =
    subst (λ o. Says a c d f (λ k. class_words o k)) (sym is)
    (subst (λ u. Says a c d f (λ k. 0x20 ∷ quoted u k)) same (says_both a b c d e f (λ k. codes " " ++ k) (λ k. quoted name k) x y))

-- ---- the same as members of an object

pub members_refused : (a b c : Outgoing) (d e f : SinkState) (result : Found) (refusal : Refusal) (class : Option (Vec ℕ Global)) → result ≡ found.Refused refusal class
    → Says a b d e (λ k. refusal_words refusal k) → Says b c e f (λ k. class_member class k) → Says a c d f (λ k. found_members result k)
members_refused a b c d e f result refusal class is x y =
    subst (λ r. Says a c d f (λ k. found_members r k)) (sym is) (says_both a b c d e f (λ k. refusal_words refusal k) (λ k. class_member class k) x y)

pub members_hidden : (a b c g i : Outgoing) (d e f h j : SinkState) (result : Found) (from to : ℕ) (class : Option (Vec ℕ Global)) → result ≡ found.Hidden from to class
    → Says a b d e (λ k. count_words (codes ",\"answer\":\"no\",\"from\":") from k) → Says b c e f (λ k. count_words (codes ",\"to\":") to k)
    → Says c g f h (λ k. codes ",\"reason\":\"HiddenName\"" ++ k) → Says g i h j (λ k. class_member class k) → Says a i d j (λ k. found_members result k)
members_hidden a b c g i d e f h j result from to class is w x y z =
    subst (λ r. Says a i d j (λ k. found_members r k)) (sym is)
    (says_four a b c g i d e f h j (λ k. count_words (codes ",\"answer\":\"no\",\"from\":") from k) (λ k. count_words (codes ",\"to\":") to k)
    (λ k. codes ",\"reason\":\"HiddenName\"" ++ k) (λ k. class_member class k) w x y z)

pub member_class : (a b c : Outgoing) (d e f : SinkState) (class : Option (Vec ℕ Global)) (units : Vec ℕ Global) (name : List ℕ) → class ≡ Some units → name ≡ units.items
    → Says a b d e (λ k. codes ",\"class\":" ++ k) → Says b c e f (λ k. json_text name k) → Says a c d f (λ k. class_member class k)
member_class a b c d e f class units name is same x y =
    subst (λ o. Says a c d f (λ k. class_member o k)) (sym is)
    (subst (λ u. Says a c d f (λ k. codes ",\"class\":" ++ json_text u k)) same (says_both a b c d e f (λ k. codes ",\"class\":" ++ k) (λ k. json_text name k) x y))

-- ---- what was said went out

pub went : (start mid now : Outgoing) (before middle after : SinkState) (text : List ℕ → List ℕ) → start ≡ nothing → Says start mid before middle text
    → Puts mid now middle after [] → now.failed ≡ false → (now.failed ≡ false → now.waiting ≡ []) → Appends before.gone_out after.gone_out (text [])
went start mid now before middle after text new says flush on empty =
    subst (Appends before.gone_out after.gone_out) (sym (says.is []))
    (went_out start now before after (says.bytes ++ []) new (puts_both start mid now before middle after says.bytes [] says.puts flush) on empty).0

pub broke : (start mid now : Outgoing) (before middle after : SinkState) (text : List ℕ → List ℕ) → start ≡ nothing → Says start mid before middle text
    → Puts mid now middle after [] → now.failed ≡ true → after.failed ≡ true
broke start mid now before middle after text new says flush off =
    let all = puts_both start mid now before middle after says.bytes [] says.puts flush in
    (all.going (ap (λ o. o.failed) new)).fault off

pub kept : (start mid now : Outgoing) (before middle after : SinkState) (text : List ℕ → List ℕ) → start ≡ nothing → Says start mid before middle text
    → Puts mid now middle after [] → now.failed ≡ false → after.failed ≡ before.failed
kept start mid now before middle after text new says flush on =
    let all = puts_both start mid now before middle after says.bytes [] says.puts flush in
    (all.going (ap (λ o. o.failed) new)).kept on
