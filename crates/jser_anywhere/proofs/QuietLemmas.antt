-- Past bytes that begin no name, where none is being read.
use Rattle.std.proofs.Common.{Option, ◌≡◌, ℕ, zero, suc, ◌+◌, ◌-◌, ◌<◌, ◌≤◌, ◌∙◌, ap, sym, subst, Bool, true, false, ◌&&◌, ◌||◌, ◌==◌, ◌⊎◌, inl, inr, None, List, [], ◌∷◌, ◌++◌, length, take, reverse, refl, arith, length-append, append_assoc, get_or}
use Rattle.std.specs.Prelude.{nat_le}
use Rattle.std.proofs.Math.Dec.{eqb}
use Rattle.std.proofs.Common.{map, cond, not, ◌%◌, ◌^◌}
use Rattle.std.proofs.lemmas.Simd.{length-chunk, bitmask_splat, first_set_mask_l, run_in_chunk_le, run_in_chunk_fails}
use Rattle.std.specs.List.{prefix_len}
use lib.Lanes.{chunk, zip2, mask_l, top}
use lib.ListN.{replicate}
use mir.Syntax.{w8}
use Rattle.std.proofs.lemmas.Bool.{cases_lt}
use Rattle.std.proofs.lemmas.Bool.Decides.{nat_tests}
use Rattle.std.proofs.lemmas.List.{length-reverse, reverse-append, take_more, length-take-le, get_or-take, get_or-reverse, get_or_append_left, get_or_default}
use Rattle.jser_anywhere.specs.Standing.{AllPass}
use Rattle.jser_anywhere.specs.Stages.{nothing, in_name, next, ended}
use Rattle.jser_anywhere.specs.Slots.{Slot, slots_of, ago, new_name, new_row, is_even, is_odd, if_wanted, hidden_of, lower, slot_hidden, hidden_place}
use Rattle.jser_anywhere.specs.declared.recent.Recent.{Recent}
use Rattle.jser_anywhere.specs.declared.open.Name.{Name}
use Rattle.jser_anywhere.specs.declared.open.Row.{Row}
use Rattle.jser_anywhere.specs.Steps.{Scanning, NameFits, RowFits, recent_of, may_begin, IsQuiet, AreNone, first_set, recent_in, past}
use Rattle.jser_anywhere.specs.Scans.{AreBytes, Has, Fed, name_place, row_place, name_stage, row_stage, name_group, row_group, SkipFits, Agree, HasScanned, TakesBytes, Hurries, most_taken}
use Rattle.jser_anywhere.proofs.StageLemmas.{high_out}
use Rattle.jser_anywhere.proofs.SlotLemmas.{NewName, NewRow, new_name_cases, new_row_cases}
use Rattle.jser_anywhere.proofs.SlotLemmas as slot
use Rattle.jser_anywhere.proofs.ScanLemmas.{TellsByte, tells_byte, all_pass_more}
use Rattle.jser_anywhere.proofs.TakeLemmas.{back_more, fed_more}

-- ---- no name begins

abbrev Begins : List ℕ → Bool
Begins back = nat_le (ago back 0) 0x23 && (ago back 1 == 0x72 || ago back 5 == 0x7D)

small_is : (high : ℕ) → in_name high ≡ false → nat_le high 0x23 ≡ true
small_is high e = grind (arith, nat_tests, e)

with_mark : (high : ℕ) (b : Bool) → nat_le high 0x23 ≡ true → (nat_le high 0x23 && (true || b)) ≡ true
with_mark high b e = cc

with_row : (high : ℕ) (b : Bool) → nat_le high 0x23 ≡ true → (nat_le high 0x23 && (b || true)) ≡ true
with_row high true e = cc
with_row high false e = cc

clash : (b : Bool) → b ≡ true → b ≡ false → ⊥
clash b e f = let g : true ≡ false = sym e ∙ f in absurd cc

no_name : (back : List ℕ) (byte : ℕ) → Begins back ≡ false → new_name back byte ≡ nothing
no_name back byte quiet = elim (new_name_cases back byte) [
  | inl none ↦ none
  | inr new ↦ absurd (clash (Begins back) (ap Begins new.split ∙ with_mark new.high (ago (new.high ∷ 0x72 ∷ new.rest) 5 == 0x7D) (small_is new.high (high_out new.high byte new.is))) quiet)
]

no_row : (back : List ℕ) (byte : ℕ) → Begins back ≡ false → new_row back byte ≡ nothing
no_row back byte quiet = elim (new_row_cases back byte) [
  | inl none ↦ none
  | inr new ↦ absurd (clash (Begins back) (ap Begins new.split ∙ with_row new.high (new.count_low == 0x72) (small_is new.high (high_out new.high byte new.is))) quiet)
]

-- ---- one byte

record Quiet (passes : List ℕ → Bool) (taken : List ℕ) : Type 0 where
  pub are : AreBytes (reverse taken)
  pub pass : AllPass passes taken
  pub name : (slots_of (reverse taken)).name.stage ≡ nothing
  pub even : (slots_of (reverse taken)).even.stage ≡ nothing
  pub odd : (slots_of (reverse taken)).odd.stage ≡ nothing

none_ends : (passes : List ℕ → Bool) (byte : ℕ) (s : Slot) → s.stage ≡ nothing → slot_hidden passes s byte ≡ None
none_ends passes byte s e = ap (λ x. hidden_of passes s.place (ended x byte)) e

none_begins : (wanted : ℕ → Bool) (back : List ℕ) (byte : ℕ) → new_row back byte ≡ nothing → if_wanted (wanted (length back - 6)) (new_row back byte) ≡ nothing
none_begins wanted back byte e = ap (if_wanted (wanted (length back - 6))) e ∙ slot.unwanted (wanted (length back - 6))

row_stays : (wanted : ℕ → Bool) (back : List ℕ) (byte : ℕ) (s : Slot) → Begins back ≡ false → s.stage ≡ nothing → (slot.row_filled wanted back byte s).stage ≡ nothing
row_stays wanted back byte s begins e =
    ap (λ (x : Slot). x.stage) (slot.row_moved wanted back byte s (none_begins wanted back byte (no_row back byte begins))) ∙ ap (λ x. next x byte) e

quiet_byte : (passes : List ℕ → Bool) (taken : List ℕ) (byte : ℕ) → Quiet passes taken → byte < 256 → Begins (reverse taken) ≡ false → Quiet passes (taken ++ byte ∷ [])
quiet_byte passes taken byte q small begins =
    let back = reverse taken in
    let slots = slots_of back in
    let none : hidden_place passes slots byte ≡ None =
    ap (λ x. lower x (lower (slot_hidden passes slots.even byte) (slot_hidden passes slots.odd byte))) (none_ends passes byte slots.name q.name)
    ∙ ap (λ x. lower x (slot_hidden passes slots.odd byte)) (none_ends passes byte slots.even q.even) ∙ none_ends passes byte slots.odd q.odd in
    record {
      are = subst (λ (bs : List ℕ). AreBytes bs) (back_more taken byte) (small, q.are);
      pass = all_pass_more passes taken byte q.pass (subst (λ o. TellsByte passes taken byte o) none (tells_byte passes taken byte));
      name = subst (λ (bs : List ℕ). (slots_of bs).name.stage ≡ nothing) (back_more taken byte)
          (ap (λ (s : Slot). s.stage) (slot.name_moved back byte slots.name (no_name back byte begins)) ∙ ap (λ s. next s byte) q.name);
      even = subst (λ (bs : List ℕ). (slots_of bs).even.stage ≡ nothing) (back_more taken byte) (row_stays is_even back byte slots.even begins q.even);
      odd = subst (λ (bs : List ℕ). (slots_of bs).odd.stage ≡ nothing) (back_more taken byte) (row_stays is_odd back byte slots.odd begins q.odd);
    }

-- ---- the last bytes are those of the piece

ago_in : (taken piece : List ℕ) (at k d : ℕ) → at ≤ length piece → k < at → get_or (reverse (taken ++ take at piece)) k d ≡ get_or piece (at - 1 - k) 0
ago_in taken piece at k d within inside =
    let long = length-take-le at piece within in
    ap (λ (xs : List ℕ). get_or xs k d) (reverse-append taken (take at piece))
    ∙ get_or_append_left (reverse (take at piece)) (reverse taken) d k (omega (arith, length-reverse (take at piece), long, inside))
    ∙ get_or-reverse (take at piece) k d (omega (arith, long, inside))
    ∙ ap (λ (n : ℕ). get_or (take at piece) (n - 1 - k) d) long
    ∙ get_or-take at piece (at - 1 - k) d (omega (arith, inside))
    ∙ get_or_default piece (at - 1 - k) d 0 (omega (arith, inside, within))

less_less : (at k m : ℕ) → m ≡ k + 1 → at - 1 - k ≡ at - m
less_less at k m e = omega arith

begins_in : (taken piece : List ℕ) (at : ℕ) → at ≤ length piece → 6 ≤ at → Begins (reverse (taken ++ take at piece)) ≡ may_begin piece at
begins_in taken piece at within six =
    let back = reverse (taken ++ take at piece) in
    ap (λ (n : ℕ). nat_le n 0x23 && (ago back 1 == 0x72 || ago back 5 == 0x7D)) (ago_in taken piece at 0 0xFF within (omega arith) ∙ ap (λ (n : ℕ). get_or piece n 0) (less_less at 0 1 (omega arith)))
    ∙ ap (λ (n : ℕ). nat_le (get_or piece (at - 1) 0) 0x23 && (n == 0x72 || ago back 5 == 0x7D)) (ago_in taken piece at 1 0xFF within (omega arith) ∙ ap (λ (n : ℕ). get_or piece n 0) (less_less at 1 2 (omega arith)))
    ∙ ap (λ (n : ℕ). nat_le (get_or piece (at - 1) 0) 0x23 && (get_or piece (at - 2) 0 == 0x72 || n == 0x7D)) (ago_in taken piece at 5 0xFF within (omega arith) ∙ ap (λ (n : ℕ). get_or piece n 0) (less_less at 5 6 (omega arith)))

quiet_run : (passes : List ℕ → Bool) (taken piece : List ℕ) (from k : ℕ) → Quiet passes (taken ++ take from piece) → 6 ≤ from → from + k ≤ length piece
    → ((at : ℕ) → from ≤ at → at < from + k → may_begin piece at ≡ false) → ((at : ℕ) → from ≤ at → at < from + k → get_or piece at 0 < 256)
    → Quiet passes (taken ++ take (from + k) piece)
quiet_run passes taken piece from zero q six within none small = subst (λ (n : ℕ). Quiet passes (taken ++ take n piece)) (omega arith) q
quiet_run passes taken piece from (suc k) q six within none small =
    let before = quiet_run passes taken piece from k q six (omega arith) (λ at lower upper. none at lower (omega arith)) (λ at lower upper. small at lower (omega arith)) in
    let here = from + k in
    let more = quiet_byte passes (taken ++ take here piece) (get_or piece here 0) before (small here (omega arith) (omega arith))
    (begins_in taken piece here (omega arith) (omega arith) ∙ none here (omega arith) (omega arith)) in
    subst (λ (xs : List ℕ). Quiet passes xs) (append_assoc taken (take here piece) (get_or piece here 0 ∷ [])
    ∙ ap (λ (xs : List ℕ). taken ++ xs) (sym (take_more piece here 0 (omega arith))) ∙ ap (λ (n : ℕ). taken ++ take n piece) (omega arith)) more

-- ---- the bytes that are passed

pub quiet_none : (piece : List ℕ) (from : ℕ) → from ≤ length piece → IsQuiet piece from from
quiet_none piece from within = record {
  ordered = omega arith;
  within = within;
  none = λ at lower upper. absurd (omega (arith, lower, upper));
  bytes = λ at lower upper. absurd (omega (arith, lower, upper));
}

before_or_at : (at to : ℕ) → at < to + 1 → (at < to) ⊎ (at ≡ to)
before_or_at at to less = elim (cases_lt at to) [ inl l ↦ inl l | inr not ↦ inr (omega arith) ]

pub quiet_more : (piece : List ℕ) (from to : ℕ) (begins : Bool) → IsQuiet piece from to → to < length piece → begins ≡ may_begin piece to → begins ≡ false → get_or piece to 0 < 256
    → IsQuiet piece from (to + 1)
quiet_more piece from to begins q less is quiet small = record {
  ordered = omega (arith, q.ordered);
  within = omega arith;
  none = λ at lower upper. elim (before_or_at at to upper) [
    | inl l ↦ q.none at lower l
    | inr e ↦ ap (λ (n : ℕ). may_begin piece n) e ∙ sym is ∙ quiet
  ];
  bytes = λ at lower upper. elim (before_or_at at to upper) [
    | inl l ↦ q.bytes at lower l
    | inr e ↦ subst (λ (n : ℕ). get_or piece n 0 < 256) (sym e) small
  ];
}

pub quiet_whole : (piece : List ℕ) (from to : ℕ) → IsQuiet piece from to → length piece ≤ to → IsQuiet piece from (length piece)
quiet_whole piece from to q all = subst (λ (n : ℕ). IsQuiet piece from n) (omega (arith, q.within)) q

pub quiet_joined : (piece : List ℕ) (from mid to : ℕ) → IsQuiet piece from mid → IsQuiet piece mid to → IsQuiet piece from to
quiet_joined piece from mid to first second = record {
  ordered = omega (arith, first.ordered, second.ordered);
  within = second.within;
  none = λ at lower upper. elim (cases_lt at mid) [
    | inl l ↦ first.none at lower l
    | inr not ↦ second.none at (omega arith) upper
  ];
  bytes = λ at lower upper. elim (cases_lt at mid) [
    | inl l ↦ first.bytes at lower l
    | inr not ↦ second.bytes at (omega arith) upper
  ];
}

-- sixteen bytes together

module _ (byte : ℕ) (bytes : List ℕ) (at run : ℕ) (within : at + 16 ≤ length bytes)
    (found : run ≡ first_set (mask_l (map (top 7) (zip2 (λ a b. cond (eqb a b) 255 0) (chunk at 16 bytes) (replicate 16 byte))) % 2 ^ 64) 16) where
  counted : run ≡ prefix_len (λ other. not (eqb other byte)) (chunk at 16 bytes)
  counted =
      let long = length-chunk at 16 bytes within in
      found ∙ ap (λ m. first_set m 16) (bitmask_splat w8 eqb (chunk at 16 bytes) 16 byte long (omega arith))
      ∙ first_set_mask_l (λ other. eqb other byte) (chunk at 16 bytes) 16 long (omega arith)

  pub run_within : run ≤ 16
  run_within = run_in_chunk_le (λ other. eqb other byte) bytes at 16 run 0 within counted

  pub run_has_none : AreNone (λ other. other == byte) bytes at (at + run)
  run_has_none = run_in_chunk_fails (λ other. eqb other byte) bytes at 16 run 0 within counted

no_tag : (low : Bool) (a b : Bool) → a ≡ false → b ≡ false → (low && (a || b)) ≡ false
no_tag true a b e f = cc
no_tag false a b e f = refl

pub quiet_without_tags : (piece : List ℕ) (at second sixth plain proxy run : ℕ) → 6 ≤ at → at + 16 ≤ length piece → ((k : ℕ) → get_or piece k 0 < 256) → second ≡ at - 2 → sixth ≡ at - 6
    → AreNone (λ other. other == 0x72) piece second (second + plain) → AreNone (λ other. other == 0x7D) piece sixth (sixth + proxy) → run ≤ plain → run ≤ proxy → run ≤ 16
    → IsQuiet piece at (at + run)
quiet_without_tags piece at second sixth plain proxy run enough within small es e6 no_plain no_proxy first last few = record {
  ordered = omega arith;
  within = omega arith;
  none = λ k lower upper.
      no_tag (nat_le (get_or piece (k - 1) 0) 0x23) _ _ (no_plain (k - 2) (omega arith) (omega arith)) (no_proxy (k - 6) (omega arith) (omega arith));
  bytes = λ k lower upper. small k;
}

record NoneRead (scan : Scanning) : Type 0 where
  pub name : scan.name ≡ None
  pub even : scan.even ≡ None
  pub odd : scan.odd ≡ None

quiet_of : (passes : List ℕ → Bool) (taken : List ℕ) (scan : Scanning) → HasScanned passes taken scan → NoneRead scan → Quiet passes taken
quiet_of passes taken scan s n = record {
  are = s.bytes;
  pass = s.pass;
  name = s.follows.name.stage_is ∙ ap (λ x. name_stage x scan.kept) n.name;
  even = s.follows.even.stage_is ∙ ap (λ x. row_stage x scan.kept) n.even;
  odd = s.follows.odd.stage_is ∙ ap (λ x. row_stage x scan.kept) n.odd;
}

abbrev the_recent : (a b c d e f : ℕ) → Recent
the_recent a b c d e f = record { last = a; second = b; third = c; fourth = d; fifth = e; sixth = f }

pub same_recent : (a b c d e f u v w x y z : ℕ) → a ≡ u → b ≡ v → c ≡ w → d ≡ x → e ≡ y → f ≡ z
    → the_recent a b c d e f ≡ the_recent u v w x y z
same_recent a b c d e f u v w x y z p q r s t o = cc

pub recent_same : (taken piece : List ℕ) (to : ℕ) → to ≤ length piece → 6 ≤ to → recent_in piece to ≡ recent_of (reverse (taken ++ take to piece))
recent_same taken piece to within six =
    let back = reverse (taken ++ take to piece) in
    let a : get_or piece (to - 1) 0 ≡ ago back 0 = ap (λ (n : ℕ). get_or piece n 0) (sym (less_less to 0 1 (omega arith))) ∙ sym (ago_in taken piece to 0 0xFF within (omega arith)) in
    let b : get_or piece (to - 2) 0 ≡ ago back 1 = ap (λ (n : ℕ). get_or piece n 0) (sym (less_less to 1 2 (omega arith))) ∙ sym (ago_in taken piece to 1 0xFF within (omega arith)) in
    let c : get_or piece (to - 3) 0 ≡ ago back 2 = ap (λ (n : ℕ). get_or piece n 0) (sym (less_less to 2 3 (omega arith))) ∙ sym (ago_in taken piece to 2 0xFF within (omega arith)) in
    let d : get_or piece (to - 4) 0 ≡ ago back 3 = ap (λ (n : ℕ). get_or piece n 0) (sym (less_less to 3 4 (omega arith))) ∙ sym (ago_in taken piece to 3 0xFF within (omega arith)) in
    let e : get_or piece (to - 5) 0 ≡ ago back 4 = ap (λ (n : ℕ). get_or piece n 0) (sym (less_less to 4 5 (omega arith))) ∙ sym (ago_in taken piece to 4 0xFF within (omega arith)) in
    let f : get_or piece (to - 6) 0 ≡ ago back 5 = ap (λ (n : ℕ). get_or piece n 0) (sym (less_less to 5 6 (omega arith))) ∙ sym (ago_in taken piece to 5 0xFF within (omega arith)) in
    same_recent (get_or piece (to - 1) 0) (get_or piece (to - 2) 0) (get_or piece (to - 3) 0) (get_or piece (to - 4) 0) (get_or piece (to - 5) 0) (get_or piece (to - 6) 0)
    (ago back 0) (ago back 1) (ago back 2) (ago back 3) (ago back 4) (ago back 5) a b c d e f

name_has_none : (s : Slot) (n : Option Name) → n ≡ None → s.stage ≡ nothing → Has s (name_place n) (name_stage n [])
name_has_none s n none e = subst (λ x. Has s (name_place x) (name_stage x [])) (sym none) (record { stage_is = e; place_is = tt })

row_has_none : (s : Slot) (r : Option Row) → r ≡ None → s.stage ≡ nothing → Has s (row_place r) (row_stage r [])
row_has_none s r none e = subst (λ x. Has s (row_place x) (row_stage x [])) (sym none) (record { stage_is = e; place_is = tt })

past_scanned : (passes : List ℕ → Bool) (taken piece : List ℕ) (old : Scanning) (at to : ℕ) → 6 ≤ at → NoneRead old → IsQuiet piece at to
    → length taken + length (take to piece) ≤ most_taken → HasScanned passes (taken ++ take at piece) old → HasScanned passes (taken ++ take to piece) (past old piece at to)
past_scanned passes taken piece old at to six n q fits s =
    let long_at = length-take-le at piece (omega (arith, q.ordered, q.within)) in
    let long_to = length-take-le to piece q.within in
    let run = quiet_run passes taken piece at (to - at) (quiet_of passes (taken ++ take at piece) old s n) six (omega (arith, q.ordered, q.within))
    (λ n lower upper. q.none n lower (omega (arith, upper, q.ordered))) (λ n lower upper. q.bytes n lower (omega (arith, upper, q.ordered))) in
    let there = subst (λ (n : ℕ). Quiet passes (taken ++ take n piece)) (omega (arith, q.ordered)) run in
    let slots = slots_of (reverse (taken ++ take to piece)) in
    record {
      bytes = there.are;
      pass = there.pass;
      follows = record {
        count = omega (arith, s.follows.count, fits, q.ordered, long_at, long_to, length-reverse (taken ++ take at piece), length-reverse (taken ++ take to piece), length-append taken (take at piece), length-append taken (take to piece));
        recent = recent_same taken piece to q.within (omega (arith, q.ordered, six));
        name = name_has_none slots.name old.name n.name there.name;
        even = row_has_none slots.even old.even n.even there.even;
        odd = row_has_none slots.odd old.odd n.odd there.odd;
        name_skip = subst (λ x. SkipFits (name_group x) []) (sym n.name) tt;
        even_skip = subst (λ x. SkipFits (row_group x) []) (sym n.even) tt;
        odd_skip = subst (λ x. SkipFits (row_group x) []) (sym n.odd) tt;
        name_even = subst (λ x. Agree (name_group x) (row_group old.even)) (sym n.name) tt;
        name_odd = subst (λ x. Agree (name_group x) (row_group old.odd)) (sym n.name) tt;
        even_odd = subst (λ x. Agree (row_group x) (row_group old.odd)) (sym n.even) tt;
        last = λ e. refl;
        few = omega arith;
        name_fits = subst (λ x. NameFits x) (sym n.name) tt;
        even_fits = subst (λ x. RowFits x) (sym n.even) tt;
        odd_fits = subst (λ x. RowFits x) (sym n.odd) tt;
      };
    }

pub hurries_none : (scan : Scanning) (piece : List ℕ) (at : ℕ) → at ≤ length piece → Hurries scan scan piece at at
hurries_none scan piece at within = record { ordered = omega arith; within = within; takes = λ passes start t. t }

takes_past : (old : Scanning) (piece : List ℕ) (at to : ℕ) → 6 ≤ at → NoneRead old → IsQuiet piece at to
    → (passes : List ℕ → Bool) (start : Scanning) → TakesBytes passes start old (take at piece) None → TakesBytes passes start (past old piece at to) (take to piece) None
unfolding TakesBytes
takes_past old piece at to six n q passes start t = λ taken fits s.
    let long_at = length-take-le at piece (omega (arith, q.ordered, q.within)) in
    let long_to = length-take-le to piece q.within in
    past_scanned passes taken piece old at to six n q fits (t taken (omega (arith, fits, q.ordered, long_at, long_to)) s)

pub hurried : (old new : Scanning) (piece : List ℕ) (at to : ℕ) → 6 ≤ at → old.name ≡ None → old.even ≡ None → old.odd ≡ None → IsQuiet piece at to
    → new ≡ past old piece at to → Hurries old new piece at to
hurried old new piece at to six no_name no_even no_odd q e = record {
  ordered = q.ordered;
  within = q.within;
  takes = λ passes start t. subst (λ (x : Scanning). TakesBytes passes start x (take to piece) None) (sym e)
      (takes_past old piece at to six (record { name = no_name; even = no_even; odd = no_odd }) q passes start t);
}

-- one byte, and then those that begin no name
pub fed_on : (passes : List ℕ → Bool) (start old between new : Scanning) (piece : List ℕ) (at next_at to byte : ℕ) → Fed passes start old piece at → at < length piece → byte ≡ get_or piece at 0
    → TakesBytes passes old between (byte ∷ []) None → next_at ≡ at + 1 → Hurries between new piece next_at to → Fed passes start new piece to
fed_on passes start old between new piece at next_at to byte fed less is took after h = record {
  within = h.within;
  takes = h.takes passes start (subst (λ (n : ℕ). TakesBytes passes start between (take n piece) None) (sym after)
      (fed_more passes start old between piece at fed.takes less (subst (λ (n : ℕ). TakesBytes passes old between (n ∷ []) None) is took)));
}
