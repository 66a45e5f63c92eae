-- What is known after one stream more, and what its limits are.
use Rattle.std.proofs.Common.{◌≡◌, ◌⊎◌, ℕ, ◌≤◌, max, true, List, [], ◌∷◌, length, Result, Ok, Err, IfOk, OnOk, String, string_bytes, inl, inr, refl, sym, ap, subst, ◌∙◌, arith}
use Rattle.std.proofs.lemmas.Bool.{cases_lt}
use Rattle.jser_table.specs.Names.{element_of}
use Rattle.jser_grammar.specs.Trees.{ContentTrees}
use Rattle.jser_grammar.specs.CheckedNames.{checked_names}
use Rattle.jser_grammar.specs.Counts.{depth_of, refs_of, array_lengths}
use Rattle.jser_reading.specs.GateLimits.{Each}
use Rattle.jser_reader.specs.Gates.{open_gate}
use Rattle.jser_names.specs.Collecting.{greatest}
use Rattle.jser_names.specs.Finds.{Finds}
use Rattle.jser_names.specs.Found.{IsFound}
use Rattle.jser_names.specs.declared.Found.{Found}
use Rattle.jser_suggest.specs.declared.samples.SampleFault.{SampleFault}
use Rattle.jser_suggest.specs.Suggested.{Known, suggested, suggested_text, is_one_line}
use Rattle.jser_suggest.specs.Samples.{Some_of, Among, ElementAmong, Fits, OfStream, HasArray, AreKnown}
use Rattle.jser_suggest.specs.Gathering.{GainsAll}
use Rattle.jser_suggest.specs.Answers.{IsRaised, Learns, LearnsFound}
use Rattle.jser_suggest.proofs.LawLemmas.{each_of, some_of}
use Rattle.jser_names.specs.Counts.{names_counted}
use Rattle.jser_suggest.proofs.GatherLemmas.{element_kept, gains_counted}
use Rattle.jser_suggest.proofs.PlainLemmas.{plain_line}
use Rattle.jser_suggest.proofs.TextLemmas.{AreLimits, reads_suggested, suggested_line}
use Rattle.jser_prim.specs.ModifiedUtf8.{utf16_units}
use Rattle.jser_filter.specs.Pieces.{pieces_of}

each_le : (ns : List ℕ) (most : ℕ) → greatest ns ≤ most → Each (λ n. n ≤ most) ns
each_le [] most h = tt
each_le (n ∷ ns) most h = (omega (arith, h), each_le ns most (omega (arith, h)))

greatest_has : (ns : List ℕ) → (greatest ns ≡ 0) ⊎ Some_of (λ m. greatest ns ≡ m) ns
greatest_has [] = inl refl
greatest_has (n ∷ ns) = elim (cases_lt n (greatest ns)) [
  | inl less ↦
      elim (greatest_has ns) [
        | inl none ↦ inl (omega (arith, less, none))
        | inr has ↦ inr (inr (some_of (λ m. greatest ns ≡ m) (λ m. max n (greatest ns) ≡ m) ns (λ m e. omega (arith, less, e)) has))
      ]
  | inr not ↦ inr (inl (omega (arith, not)))
]

-- a count that comes from some stream, after one stream more
raised_from : (P : ℕ → List ℕ → Type 0) (bytes : List ℕ) (streams : List (List ℕ)) (old own new : ℕ) → new ≡ max old own → (own ≡ 0) ⊎ P own bytes
    → (old ≡ 0) ⊎ Some_of (P old) streams → (new ≡ 0) ⊎ Some_of (P new) (bytes ∷ streams)
raised_from P bytes streams old own new is here before = elim (cases_lt old own) [
  | inl less ↦
      elim here [
        | inl none ↦ absurd (omega (arith, less, none))
        | inr p ↦ inr (inl (subst (λ n. P n bytes) (omega (arith, is, less)) p))
      ]
  | inr not ↦
      elim before [
        | inl none ↦ inl (omega (arith, is, not, none))
        | inr s ↦ inr (inr (subst (λ n. Some_of (P n) streams) (omega (arith, is, not)) s))
      ]
]

-- a stream that fitted fits where more is known
pub fits_more : (old new : Known) (bytes : List ℕ) (list : ContentTrees) → old.bytes ≤ new.bytes → old.refs ≤ new.refs → old.depth ≤ new.depth → old.array ≤ new.array
    → ((name : List ℕ) → Among old.names name → Among new.names name) → Fits old bytes list → Fits new bytes list
fits_more old new bytes list b r d a names f = record {
  passes = f.passes;
  bytes_fit = omega (arith, f.bytes_fit, b);
  refs_fit = omega (arith, f.refs_fit, r);
  depth_fits = omega (arith, f.depth_fits, d);
  arrays_fit = each_of (λ n. n ≤ old.array) (λ n. n ≤ new.array) (array_lengths list) (λ n h. omega (arith, h, a)) f.arrays_fit;
  names_fit =
      each_of (λ name. ElementAmong old.names (element_of name)) (λ name. ElementAmong new.names (element_of name)) (checked_names list)
      (λ name h. element_kept old.names new.names names (element_of name) h) f.names_fit;
}

abbrev raised : Known → List (List ℕ) → Known
raised known names = record { bytes = known.bytes; refs = known.refs; depth = known.depth; array = known.array; names = names }

pub learns : (found : Found) (old new : Known) (names : List (List ℕ)) → GainsAll (names_counted found.names) old.names names → IsRaised found (raised old names) new → LearnsFound found old new
learns found old new names g r = λ bytes h streams are.
    let list = h.0 in
    let m : IsFound bytes list found = h.1 in
    let gained : GainsAll (checked_names list) old.names new.names =
    subst (λ ns. GainsAll (checked_names list) old.names ns) (sym r.names)
    (gains_counted (checked_names list) old.names names (subst (λ ts. GainsAll (names_counted ts) old.names names) m.names_are g)) in
    record {
      fit = (
        (
          list,
          record {
            passes = m.passes;
            bytes_fit = omega (arith, r.bytes, m.totals_are.all_bytes);
            refs_fit = omega (arith, r.refs, m.totals_are.refs);
            depth_fits = omega (arith, r.depth, m.totals_are.depth);
            arrays_fit = each_le (array_lengths list) new.array (omega (arith, r.array, m.longest_is));
            names_fit = gained.there;
          },
        ),
        each_of (λ b. (l : ContentTrees) × Fits old b l) (λ b. (l : ContentTrees) × Fits new b l) streams
            (λ b f. (f.0, fits_more old new b f.0 (omega (arith, r.bytes)) (omega (arith, r.refs)) (omega (arith, r.depth)) (omega (arith, r.array)) gained.keeps f.1)) are.fit,
      );
      writable = λ name among. elim (gained.gains name among) [ inl was ↦ are.writable name was | inr own ↦ own.1.0 ];
      plain = λ name among. elim (gained.gains name among) [ inl was ↦ are.plain name was | inr own ↦ own.1.1 ];
      bytes_from =
          raised_from (λ n. OfStream (λ b l. length b ≡ n)) bytes streams old.bytes found.totals.bytes new.bytes r.bytes
          (inr (list, m.passes, sym m.totals_are.all_bytes)) are.bytes_from;
      refs_from =
          raised_from (λ n. OfStream (λ b l. refs_of l ≡ n)) bytes streams old.refs found.totals.refs new.refs r.refs (inr (list, m.passes, sym m.totals_are.refs)) are.refs_from;
      depth_from =
          raised_from (λ n. OfStream (λ b l. depth_of l ≡ n)) bytes streams old.depth found.totals.depth new.depth r.depth
          (inr (list, m.passes, sym m.totals_are.depth)) are.depth_from;
      array_from =
          raised_from (λ n. OfStream (λ b l. HasArray n l)) bytes streams old.array found.longest new.array r.array
          (elim (greatest_has (array_lengths list)) [
            | inl none ↦ inl (m.longest_is ∙ none)
            | inr has ↦ inr (list, m.passes, some_of (λ k. greatest (array_lengths list) ≡ k) (λ k. found.longest ≡ k) (array_lengths list) (λ k e. m.longest_is ∙ e) has)
          ]) are.array_from;
      names_from =
          λ name among.
          elim (gained.gains name among) [
            | inl was ↦ inr (are.names_from name was)
            | inr own ↦ inl (list, m.passes, own.0)
          ];
    }

pub learns_so : (bytes : List ℕ) (found : Found) (old new : Known) (result : Result (Unit {0}) SampleFault) → Finds bytes (Ok found) → OnOk result (LearnsFound found old new)
    → OnOk result (Learns bytes old new)
learns_so bytes found old new (Ok done) f h = h bytes f
learns_so bytes found old new (Err why) f h = tt

-- ---- none

-- ---- limits

some_le : {A : Type 0} (Q : A → Type 0) (xs : List A) (n most : ℕ) → ((x : A) → Q x → n ≤ most) → Some_of Q xs → n ≤ most
some_le Q [] n most f s = absurd s
some_le Q (x ∷ xs) n most f (inl q) = f x q
some_le Q (x ∷ xs) n most f (inr s) = some_le Q xs n most f s

each_has : (ns : List ℕ) (n most : ℕ) → Each (λ m. m ≤ most) ns → Some_of (λ m. n ≡ m) ns → n ≤ most
each_has [] n most e s = absurd s
each_has (m ∷ ns) n most e (inl is) = omega (arith, is, e.0)
each_has (m ∷ ns) n most e (inr s) = each_has ns n most e.1 s

from_le : {A : Type 0} (Q : A → Type 0) (xs : List A) (n most : ℕ) → ((x : A) → Q x → n ≤ most) → (n ≡ 0) ⊎ Some_of Q xs → n ≤ most
from_le Q xs n most f (inl none) = omega (arith, none)
from_le Q xs n most f (inr s) = some_le Q xs n most f s

pub are_limits : (streams : List (List ℕ)) (known : Known) → AreKnown streams known → AreLimits known
are_limits streams known are = record {
  bytes =
      from_le (OfStream (λ b l. length b ≡ known.bytes)) streams known.bytes 9223372036854775807 (λ b s. let p = s.1.2 in omega (arith, p, s.2)) are.bytes_from;
  refs = from_le (OfStream (λ b l. refs_of l ≡ known.refs)) streams known.refs 9223372036854775807 (λ b s. let p = s.1.4 in omega (arith, p, s.2)) are.refs_from;
  depth = from_le (OfStream (λ b l. depth_of l ≡ known.depth)) streams known.depth 9223372036854775807 (λ b s. let p = s.1.3 in omega (arith, p, s.2)) are.depth_from;
  array =
      from_le (OfStream (λ b l. HasArray known.array l)) streams known.array 9223372036854775807
      (λ b s. let e = each_has (array_lengths s.0) known.array open_gate.array s.1.5 s.2 in omega (arith, e)) are.array_from;
}

-- ---- the text

pub text_pieces : {X Y : Type 0} (streams : List (List ℕ)) (known : Known) (result : Result (String Y) X) → AreKnown streams known
    → IfOk result (λ text. utf16_units (string_bytes text) ≡ suggested_text known) → IfOk result (λ text. pieces_of (utf16_units (string_bytes text)) ≡ suggested known)
text_pieces streams known (Ok text) are e = ap pieces_of e ∙ reads_suggested known (are_limits streams known are) are.writable
text_pieces streams known (Err why) are e = tt

pub text_line : {X Y : Type 0} (streams : List (List ℕ)) (known : Known) (result : Result (String Y) X) → AreKnown streams known
    → IfOk result (λ text. utf16_units (string_bytes text) ≡ suggested_text known) → IfOk result (λ text. is_one_line (utf16_units (string_bytes text)) ≡ true)
text_line streams known (Ok text) are e = ap is_one_line e ∙ suggested_line known (are_limits streams known are) (λ name among. plain_line name (are.plain name among))
text_line streams known (Err why) are e = tt
