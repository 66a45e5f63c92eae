-- Bytes that are put one after another.
use Rattle.std.proofs.Common.{◌≡◌, ℕ, ◌+◌, ◌≤◌, min, Bool, true, false, List, [], ◌∷◌, ◌++◌, length, take, drop, refl, sym, ap, subst, ◌∙◌, arith, append_assoc, length-append}
use Rattle.std.proofs.lemmas.List.{append-nil, take-append-drop, length-take-le}
use Rattle.std.proofs.Math.Seq.{take-append_seam}
use Rattle.std.specs.Prelude.{MatchBool}
use Rattle.std.specs.Io.KnownBytes.{Appends}
use Rattle.jser_prim.specs.Outgoing.{Outgoing, SinkState, Hands, Puts}
use Rattle.jser_prim.proofs.GiveLemmas.{appends_none, appends_both}

-- nothing is put
pub puts_none : (old : Outgoing) (before : SinkState) → Puts old old before before []
puts_none old before = record {
  stopped = λ _. (refl, refl);
  going = λ e. record { out = []; left = old.waiting; split = append-nil old.waiting; went = appends_none before.gone_out; counted = omega arith; waits = λ _. refl; kept = λ _. refl; fault = λ f. absurd (let no : false ≡ true = sym e ∙ f in cc) };
}

hands_both : (a b c : Outgoing) (d e f : SinkState) (xs ys : List ℕ) → b.failed ≡ false → Hands a b d e xs → Hands b c e f ys → Hands a c d f (xs ++ ys)
hands_both a b c d e f xs ys on h k = record {
  out = h.out ++ k.out;
  left = k.left;
  split = sym (append_assoc a.waiting xs ys) ∙ ap (λ t. t ++ ys) h.split ∙ append_assoc h.out h.left ys
      ∙ ap (λ t. h.out ++ (t ++ ys)) (h.waits on) ∙ ap (λ t. h.out ++ t) k.split ∙ sym (append_assoc h.out k.out k.left);
  went = appends_both d.gone_out e.gone_out f.gone_out h.out k.out h.went k.went;
  counted = omega (arith, h.counted, k.counted, length-append h.out k.out);
  waits = k.waits;
  kept = λ good. k.kept good ∙ h.kept on;
  fault = k.fault;
}

-- the sink failed at the first bytes, and the others were not put
hands_first : (a b c : Outgoing) (d e f : SinkState) (xs ys : List ℕ) → b.failed ≡ true → Hands a b d e xs → c ≡ b → f ≡ e → Hands a c d f (xs ++ ys)
hands_first a b c d e f xs ys off h same still =
    subst (λ o. Hands a o d f (xs ++ ys)) (sym same) (subst (λ s. Hands a b d s (xs ++ ys)) (sym still) (record {
      out = h.out;
      left = h.left ++ ys;
      split = sym (append_assoc a.waiting xs ys) ∙ ap (λ t. t ++ ys) h.split ∙ append_assoc h.out h.left ys;
      went = h.went;
      counted = h.counted;
      waits = λ on. absurd (let no : true ≡ false = sym off ∙ on in cc);
      kept = λ on. absurd (let no : true ≡ false = sym off ∙ on in cc);
      fault = h.fault;
    }))

-- some bytes and then others
pub puts_both : (a b c : Outgoing) (d e f : SinkState) (xs ys : List ℕ) → Puts a b d e xs → Puts b c e f ys → Puts a c d f (xs ++ ys)
puts_both a b c d e f xs ys h k = record {
  stopped = λ off.
      let first = h.stopped off in
      let second = k.stopped (ap (λ o. o.failed) first.0 ∙ off) in
      (second.0 ∙ first.0, second.1 ∙ first.1);
  going = λ on. by_mid b.failed refl (h.going on);
}
  where
    by_mid : (failed : Bool) → b.failed ≡ failed → Hands a b d e xs → Hands a c d f (xs ++ ys)
    by_mid true off first = let second = k.stopped off in hands_first a b c d e f xs ys off first second.0 second.1
    by_mid false on first = hands_both a b c d e f xs ys on first (k.going on)

-- a byte and then others
pub puts_tagged : (a b c : Outgoing) (d e f : SinkState) (tag : ℕ) (xs : List ℕ) → Puts a b d e (tag ∷ []) → Puts b c e f xs → Puts a c d f (tag ∷ xs)
puts_tagged a b c d e f tag xs h k = puts_both a b c d e f (tag ∷ []) xs h k

-- bytes that only wait
pub puts_waiting : (old new : Outgoing) (before : SinkState) (bytes : List ℕ) → old.failed ≡ false
    → new ≡ record old { waiting = old.waiting ++ bytes } → Puts old new before before bytes
puts_waiting old new before bytes on e = record {
  stopped = λ off. absurd (let no : true ≡ false = sym off ∙ on in cc);
  going = λ _. record {
    out = [];
    left = old.waiting ++ bytes;
    split = refl;
    went = appends_none before.gone_out;
    counted = omega (arith, ap (λ o. o.written) e);
    waits = λ _. ap (λ o. o.waiting) (sym e);
    kept = λ _. refl;
    fault = λ f. absurd (let no : true ≡ false = sym f ∙ ap (λ o. o.failed) e ∙ on in cc);
  };
}

-- some of what waited and of these bytes went out, and the sink failed
pub puts_some : (old new : Outgoing) (before after : SinkState) (bytes : List ℕ) (count : ℕ) → old.failed ≡ false → count ≤ length (old.waiting ++ bytes)
    → Appends before.gone_out after.gone_out (take count (old.waiting ++ bytes)) → new.written ≡ min (old.written + count) 18446744073709551615
    → new.failed ≡ true → after.failed ≡ true → Puts old new before after bytes
puts_some old new before after bytes count on within went counted off fault = record {
  stopped = λ f. absurd (let no : true ≡ false = sym f ∙ on in cc);
  going = λ _. record {
    out = take count (old.waiting ++ bytes);
    left = drop count (old.waiting ++ bytes);
    split = sym (take-append-drop count (old.waiting ++ bytes));
    went = went;
    counted = omega (arith, counted, length-take-le count (old.waiting ++ bytes) within);
    waits = λ f. absurd (let no : true ≡ false = sym off ∙ f in cc);
    kept = λ f. absurd (let no : true ≡ false = sym off ∙ f in cc);
    fault = λ _. fault;
  };
}

-- all of what waited and of these bytes went out
pub puts_through : (old new : Outgoing) (before after : SinkState) (bytes : List ℕ) → old.failed ≡ false → Appends before.gone_out after.gone_out (old.waiting ++ bytes)
    → after.failed ≡ before.failed
    → new ≡ record { waiting = []; written = min (old.written + length (old.waiting ++ bytes)) 18446744073709551615; failed = false } → Puts old new before after bytes
puts_through old new before after bytes on went kept e = record {
  stopped = λ f. absurd (let no : true ≡ false = sym f ∙ on in cc);
  going = λ _. record {
    out = old.waiting ++ bytes;
    left = [];
    split = sym (append-nil (old.waiting ++ bytes));
    went = went;
    counted = omega (arith, ap (λ o. o.written) e);
    waits = λ _. ap (λ o. o.waiting) (sym e);
    kept = λ _. kept;
    fault = λ f. absurd (let no : true ≡ false = sym f ∙ ap (λ o. o.failed) e in cc);
  };
}

-- after a failure
pub puts_stopped : (old : Outgoing) (before : SinkState) (bytes : List ℕ) → old.failed ≡ true → Puts old old before before bytes
puts_stopped old before bytes off = record { stopped = λ _. (refl, refl); going = λ on. absurd (let no : true ≡ false = sym off ∙ on in cc) }

-- the forms in which the outbox has them

pub flushed : (old new : Outgoing) (before after : SinkState) → old.failed ≡ false → Appends before.gone_out after.gone_out old.waiting → after.failed ≡ before.failed
    → new ≡ record { waiting = []; written = min (old.written + length old.waiting) 18446744073709551615; failed = false } → Puts old new before after []
flushed old new before after on went kept e =
    puts_through old new before after [] on (subst (Appends before.gone_out after.gone_out) (sym (append-nil old.waiting)) went) kept
    (e ∙ ap (λ t. record { waiting = []; written = min (old.written + length t) 18446744073709551615; failed = false }) (sym (append-nil old.waiting)))

pub flushed_some : (old new : Outgoing) (before after : SinkState) (count : ℕ) → old.failed ≡ false
    → (count ≤ length old.waiting) × Appends before.gone_out after.gone_out (take count old.waiting)
    → new ≡ record old { written = min (old.written + count) 18446744073709551615; failed = true } → after.failed ≡ true → Puts old new before after []
flushed_some old new before after count on went e fault =
    let whole = sym (append-nil old.waiting) in
    puts_some old new before after [] count on (omega (arith, went.0, ap length whole))
    (subst (λ t. Appends before.gone_out after.gone_out (take count t)) whole went.1) (ap (λ o. o.written) e) (ap (λ o. o.failed) e) fault

pub passed : (old new : Outgoing) (before after : SinkState) (bytes : List ℕ) → old.failed ≡ false → old.waiting ≡ [] → Appends before.gone_out after.gone_out bytes → after.failed ≡ before.failed
    → new ≡ record old { written = min (old.written + length bytes) 18446744073709551615 } → Puts old new before after bytes
passed old new before after bytes on none went kept e =
    let whole : old.waiting ++ bytes ≡ bytes = ap (λ t. t ++ bytes) none in
    puts_through old new before after bytes on (subst (Appends before.gone_out after.gone_out) (sym whole) went) kept
    (e ∙ record_same old.waiting [] (min (old.written + length bytes) 18446744073709551615) (min (old.written + length (old.waiting ++ bytes)) 18446744073709551615) old.failed false
    none (ap (λ t. min (old.written + length t) 18446744073709551615) (sym whole)) on)
  where
    record_same : (a b : List ℕ) (m n : ℕ) (f g : Bool) → a ≡ b → m ≡ n → f ≡ g
        → ◌≡◌ {A = Outgoing} (record { waiting = a; written = m; failed = f }) (record { waiting = b; written = n; failed = g })
    record_same a b m n f g p q r = cc

pub passed_some : (old new : Outgoing) (before after : SinkState) (bytes : List ℕ) (count : ℕ) → old.failed ≡ false → old.waiting ≡ []
    → (count ≤ length bytes) × Appends before.gone_out after.gone_out (take count bytes)
    → new ≡ record old { written = min (old.written + count) 18446744073709551615; failed = true } → after.failed ≡ true → Puts old new before after bytes
passed_some old new before after bytes count on none went e fault =
    let whole : bytes ≡ old.waiting ++ bytes = sym (ap (λ t. t ++ bytes) none) in
    puts_some old new before after bytes count on (omega (arith, went.0, ap length whole))
    (subst (λ t. Appends before.gone_out after.gone_out (take count t)) whole went.1) (ap (λ o. o.written) e) (ap (λ o. o.failed) e) fault

-- what waits goes out first
pub puts_behind : (a b c : Outgoing) (d e f : SinkState) (xs : List ℕ) → Puts a b d e [] → Puts b c e f xs → Puts a c d f xs
puts_behind a b c d e f xs h k = puts_both a b c d e f [] xs h k

-- these bytes wait behind those that did
pub puts_gathered : (gathered : Bool) (old new : Outgoing) (before : SinkState) (bytes : List ℕ) → gathered ≡ true → old.failed ≡ false
    → MatchBool gathered (new ≡ record old { waiting = old.waiting ++ bytes }) (new ≡ old) → Puts old new before before bytes
puts_gathered true old new before bytes is on m = puts_waiting old new before bytes on m
puts_gathered false old new before bytes is on m = absurd (let no : false ≡ true = is in cc)

-- ---- from nothing to the end

abbrev pub nothing : Outgoing
nothing = record { waiting = []; written = 0; failed = false }

-- an outbox that began with nothing, and holds nothing: all bytes went out, and the sink is as it was
pub went_out : (start now : Outgoing) (before after : SinkState) (bytes : List ℕ) → start ≡ nothing → Puts start now before after bytes → now.failed ≡ false
    → (now.failed ≡ false → now.waiting ≡ [])
    → Appends before.gone_out after.gone_out bytes × (after.failed ≡ before.failed) × (min now.written 18446744073709551615 ≡ min (length bytes) 18446744073709551615)
went_out start now before after bytes is puts on empty =
    let hands = puts.going (ap (λ o. o.failed) is) in
    let whole : bytes ≡ hands.out =
    ap (λ o. o.waiting ++ bytes) (sym is) ∙ hands.split ∙ ap (λ t. hands.out ++ t) (hands.waits on ∙ empty on) ∙ append-nil hands.out in (
      subst (Appends before.gone_out after.gone_out) (sym whole) hands.went,
      hands.kept on,
      omega (arith, hands.counted, ap (λ o. o.written) is, ap length whole),
    )

-- the same where the sink failed: the first bytes went out, as many as were counted
pub went_partly : (start now : Outgoing) (before after : SinkState) (bytes : List ℕ) → start ≡ nothing → Puts start now before after bytes → now.failed ≡ true
    → length bytes ≤ 18446744073709551614
    → (now.written ≤ length bytes) × Appends before.gone_out after.gone_out (take now.written bytes) × (after.failed ≡ true)
went_partly start now before after bytes is puts off small =
    let hands = puts.going (ap (λ o. o.failed) is) in
    let whole : bytes ≡ hands.out ++ hands.left = ap (λ o. o.waiting ++ bytes) (sym is) ∙ hands.split in
    let lengths = ap length whole ∙ length-append hands.out hands.left in
    let counted : now.written ≡ length hands.out = omega (arith, hands.counted, ap (λ o. o.written) is, lengths, small) in (
      omega (arith, counted, lengths),
      subst (Appends before.gone_out after.gone_out) (sym (ap (λ n. take n bytes) counted ∙ ap (take (length hands.out)) whole ∙ take-append_seam hands.out hands.left)) hands.went,
      hands.fault off,
    )
