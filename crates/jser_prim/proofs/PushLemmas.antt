-- Pushes of many bytes, made of pushes of few.
use Rattle.std.proofs.Common.{◌≡◌, ℕ, suc, ◌+◌, ◌-◌, ◌<◌, ◌≤◌, List, [], ◌∷◌, ◌++◌, length, take, drop, get_or, refl, arith, sym, ap, subst, ◌∙◌, true, false, append_assoc}
use Rattle.std.proofs.lemmas.List.{append-nil, get_or-drop, length-append, length-drop, length-take-le, take_more, take-append-drop, take-append-le, nil_from_length}
use Rattle.std.proofs.Math.Seq.{take-append-add}
use Rattle.jser_prim.specs.ModifiedUtf8.{modified_utf8, IsUnits}
use Rattle.jser_prim.specs.Pushes.{Pushes, PushesFront, PushesTo}
use Rattle.jser_prim.specs.Texts.{BeginsText, Scan, HasAccepted, HasAcceptedAfter}
use Rattle.jser_prim.specs.WholeUnits.{AreUnitsSpelled, IsAsciiBetween}
use Rattle.jser_prim.specs.Places.{cut_at, is_fault}
use Rattle.jser_prim.specs.declared.place.Place.{Place}
use Rattle.jser_prim.specs.declared.place.Place.TheVariants as place
use Rattle.jser_prim.proofs.Units.{spelling_one}
use Rattle.jser_prim.proofs.TextLemmas.{begins_longer, modified_utf8-append, units-append, units_cons}
use Rattle.jser_prim.proofs.ScanLemmas.{empty_cut}

-- it has accepted these units and no more
exactly : (len : ℕ) (bytes units : List ℕ) (scan : Scan) → HasAccepted len bytes units scan → HasAcceptedAfter len bytes units scan
exactly len bytes units scan accepted = record { more = []; accepted = subst (λ us. HasAccepted len bytes us scan) (sym (append-nil units)) accepted }

-- units and then more units
after_both : (len : ℕ) (bytes units : List ℕ) (more : List ℕ) (scan : Scan) → HasAcceptedAfter len bytes (units ++ more) scan → HasAcceptedAfter len bytes units scan
after_both len bytes units more scan after = record {
  more = more ++ after.more;
  accepted = subst (λ us. HasAccepted len bytes us scan) (append_assoc units more after.more) after.accepted;
}

-- no byte
pub pushes_nothing : (scan : Scan) → Pushes scan [] 0 scan
pushes_nothing scan = record {
  within = omega arith;
  all = λ _ len before units accepted. subst (λ bytes. HasAcceptedAfter len bytes units scan) (sym (append-nil before)) (exactly len before units scan accepted);
  fault = λ some. absurd (omega arith);
  failed = λ some. absurd (omega arith);
  left = omega arith;
  stays = λ _. refl;
  refuses = λ _. refl;
}

-- some bytes, and then more
pub pushes_on : (old mid new : Scan) (xs ys : List ℕ) (count : ℕ) → Pushes old xs (length xs) mid → Pushes mid ys count new → Pushes old (xs ++ ys) (length xs + count) new
pushes_on old mid new xs ys count first second =
    let long = length-append xs ys in
    let within = second.within in
    record {
      within = omega arith;
      all = λ whole len before units accepted.
          let half = first.all refl len before units accepted in
          let both = second.all (omega arith) len (before ++ xs) (units ++ half.more) half.accepted in
          subst (λ bytes. HasAcceptedAfter len bytes units new) (append_assoc before xs ys) (after_both len ((before ++ xs) ++ ys) units half.more new both);
      fault = λ some len before units accepted.
          let half = first.all refl len before units accepted in
          let faults = second.fault (omega arith) len (before ++ xs) (units ++ half.more) half.accepted in
          let seam = λ (n : ℕ). append_assoc before xs (take n ys) ∙ ap (λ bytes. before ++ bytes) (sym (take-append-add xs ys n)) in
          record {
            within = omega arith;
            begins = subst (BeginsText len) (seam count) faults.begins;
            fault = λ begins. faults.fault (subst (BeginsText len) (ap (λ n. before ++ take n (xs ++ ys)) (omega arith) ∙ sym (seam (count + 1))) begins);
          };
      failed = λ some. second.failed (omega arith);
      left = omega (arith, first.left, second.left);
      stays = λ failed. second.stays (subst (λ s. s.has_failed ≡ true) (sym (first.stays failed)) failed) ∙ first.stays failed;
      refuses = λ failed. omega (arith, first.refuses failed, second.refuses (subst (λ s. s.has_failed ≡ true) (sym (first.stays failed)) failed));
    }

-- bytes that stop at a fault, and others after them
pub pushes_stop : (old new : Scan) (xs ys : List ℕ) (count : ℕ) → count < length xs → Pushes old xs count new → Pushes old (xs ++ ys) count new
pushes_stop old new xs ys count stops pushes =
    let long = length-append xs ys in
    record {
      within = omega arith;
      all = λ whole. absurd (omega arith);
      fault = λ some len before units accepted.
          let faults = pushes.fault stops len before units accepted in
          record {
            within = omega arith;
            begins = subst (λ front. BeginsText len (before ++ front)) (sym (take-append-le count xs ys (omega arith))) faults.begins;
            fault = λ begins. faults.fault (subst (λ front. BeginsText len (before ++ front)) (take-append-le (count + 1) xs ys (omega arith)) begins);
          };
      failed = λ some. pushes.failed stops;
      left = pushes.left;
      stays = pushes.stays;
      refuses = pushes.refuses;
    }

-- the bytes of these units were accepted, where no unit is cut
units_accepted : (len : ℕ) (before units more bytes : List ℕ) (old : Scan) → HasAccepted len before units old → old.cut ≡ [] → length bytes ≤ old.left
    → IsUnits more → modified_utf8 more ≡ bytes
    → HasAccepted len (before ++ bytes) (units ++ more) (record { left = old.left - length bytes; cut = []; has_failed = false })
units_accepted len before units more bytes old accepted none fits are_more spelled =
    let text : modified_utf8 (units ++ more) ≡ before ++ bytes =
    modified_utf8-append units more ∙ ap (λ xs. modified_utf8 units ++ xs) spelled
    ∙ ap (λ xs. xs ++ bytes) (sym (append-nil (modified_utf8 units)) ∙ ap (λ cut. modified_utf8 units ++ cut) (sym none) ∙ sym accepted.spelled) in
    let long : length (before ++ bytes) + (old.left - length bytes) ≡ len = omega (arith, length-append before bytes, accepted.counted) in
    let are = units-append units more accepted.are_units are_more in
    record {
      begins = begins_longer len (units ++ more) (before ++ bytes) [] are (text ∙ sym (append-nil (before ++ bytes))) (omega arith);
      spelled = sym text ∙ sym (append-nil (modified_utf8 (units ++ more)));
      are_units = are;
      is_cut = empty_cut;
      counted = long;
      going = refl;
    }

-- whole units, where no unit is cut
pub pushes_units : (old : Scan) (bytes : List ℕ) → old.cut ≡ [] → old.has_failed ≡ false → length bytes ≤ old.left → AreUnitsSpelled bytes
    → Pushes old bytes (length bytes) (record { left = old.left - length bytes; cut = []; has_failed = false })
pushes_units old bytes none going fits spells = record {
  within = omega arith;
  all = λ _ len before units accepted.
      record { more = spells.units; accepted = units_accepted len before units spells.units bytes old accepted none fits spells.are_units spells.spelled };
  fault = λ some. absurd (omega arith);
  failed = λ some. absurd (omega arith);
  left = omega arith;
  stays = λ failed. absurd cc;
  refuses = λ failed. absurd cc;
}

-- plain ASCII spells itself
plain_spelled : (bytes : List ℕ) → ((k : ℕ) → k < length bytes → (1 ≤ get_or bytes k 0) × (get_or bytes k 0 < 0x80)) → IsUnits bytes × (modified_utf8 bytes ≡ bytes)
plain_spelled [] ascii = (refl, refl)
plain_spelled (b ∷ bytes) ascii =
    let first = ascii 0 (omega arith) in
    let rest = plain_spelled bytes (λ k inside. ascii (suc k) (omega arith)) in
    let low = first.1 in (
      units_cons b bytes (omega arith) rest.0,
      ap (λ xs. xs ++ modified_utf8 bytes) (spelling_one b first.0 first.1) ∙ ap (λ xs. b ∷ xs) rest.1,
    )

-- plain ASCII, where no unit is cut: its bytes are the next units
pub pushes_plain : (left count : ℕ) (at : Place) (bytes : List ℕ) → at ≡ place.First → length bytes ≤ left → length bytes ≤ count
    → IsAsciiBetween bytes 0 count → (len : ℕ) (before units : List ℕ) → HasAccepted len before units (record { left = left; cut = cut_at at; has_failed = is_fault at })
    → HasAccepted len (before ++ bytes) (units ++ bytes) (record { left = left - length bytes; cut = cut_at at; has_failed = is_fault at })
pushes_plain left count at bytes is fits all ascii len before units =
    let plain = plain_spelled bytes (λ k inside. ascii k (omega arith) (omega arith)) in
    let P : Place → Type 0 = λ p. HasAccepted len before units (record { left = left; cut = cut_at p; has_failed = is_fault p })
    → HasAccepted len (before ++ bytes) (units ++ bytes) (record { left = left - length bytes; cut = cut_at p; has_failed = is_fault p }) in
    subst P (sym is) (λ accepted. units_accepted len before units bytes bytes (record { left = left; cut = []; has_failed = false }) accepted refl fits plain.0 plain.1)

-- one byte that is accepted, and one that is not, by the clauses of `push`
pub pushes_one : (old new : Scan) (byte : ℕ) (units_of_byte : List ℕ) → new.left + 1 ≡ old.left → (old.has_failed ≡ true → ⊥)
    → ((len : ℕ) (bytes units : List ℕ) → HasAccepted len bytes units old → HasAccepted len (bytes ++ byte ∷ []) (units ++ units_of_byte) new)
    → Pushes old (byte ∷ []) 1 new
pushes_one old new byte more left going accepts = record {
  within = omega arith;
  all = λ _ len before units accepted. record { more = more; accepted = accepts len before units accepted };
  fault = λ some. absurd (omega arith);
  failed = λ some. absurd (omega arith);
  left = left;
  stays = λ failed. absurd (going failed);
  refuses = λ failed. absurd (going failed);
}

pub pushes_none : (old new : Scan) (byte : ℕ) → new.left ≡ old.left → new.has_failed ≡ true → (old.has_failed ≡ true → new ≡ old)
    → ((len : ℕ) (bytes units : List ℕ) → HasAccepted len bytes units old → BeginsText len (bytes ++ byte ∷ []) → ⊥)
    → Pushes old (byte ∷ []) 0 new
pushes_none old new byte left failed stays refuses = record {
  within = omega arith;
  all = λ whole. absurd (omega arith);
  fault = λ some len before units accepted. record {
    within = omega arith;
    begins = subst (BeginsText len) (sym (append-nil before)) accepted.begins;
    fault = refuses len before units accepted;
  };
  failed = λ some. failed;
  left = omega arith;
  stays = stays;
  refuses = λ _. refl;
}

-- some bytes were pushed, and these are left
pub record Pushed (old now : Scan) (bytes rest : List ℕ) : Type 0 where
  pub front : List ℕ
  pub split : bytes ≡ front ++ rest
  pub pushes : Pushes old front (length front) now

pub pushed_none : (scan : Scan) (bytes : List ℕ) → Pushed scan scan bytes bytes
pushed_none scan bytes = record { front = []; split = refl; pushes = pushes_nothing scan }

-- more of them were pushed
pub pushed_more : (old now new : Scan) (bytes rest tail : List ℕ) (count : ℕ) → Pushed old now bytes rest → PushesFront now rest count new
    → tail ≡ drop count rest → Pushed old new bytes tail
pushed_more old now new bytes rest tail count before turn is =
    let long : length (take count rest) ≡ count = length-take-le count rest turn.within in
    record {
      front = before.front ++ take count rest;
      split = before.split ∙ ap (λ xs. before.front ++ xs) (sym (take-append-drop count rest)) ∙ sym (append_assoc before.front (take count rest) (drop count rest))
          ∙ ap (λ xs. (before.front ++ take count rest) ++ xs) (sym is);
      pushes = subst (λ n. Pushes old (before.front ++ take count rest) n new) (sym (length-append before.front (take count rest)))
          (pushes_on old now new before.front (take count rest) (length (take count rest)) before.pushes (subst (λ n. Pushes now (take count rest) n new) (sym long) turn.pushes));
    }

-- the next of them is a fault
pub pushed_to_fault : (old now new : Scan) (bytes rest : List ℕ) (count : ℕ) → Pushed old now bytes rest → PushesTo now rest count new
    → PushesTo old bytes (length bytes - length rest + count) new
pushed_to_fault old now new bytes rest count before turn =
    let long = ap length before.split ∙ length-append before.front rest in
    let at : length before.front + count ≡ length bytes - length rest + count = omega arith in
    record {
      within = omega (arith, turn.within);
      pushes = subst (λ n. Pushes old bytes n new) at (subst (λ xs. Pushes old xs (length before.front + count) new) (sym before.split)
          (pushes_on old now new before.front rest count before.pushes turn.pushes));
    }

-- all of them were pushed
pub pushed_all : (old now : Scan) (bytes rest : List ℕ) → Pushed old now bytes rest → length rest ≡ 0 → Pushes old bytes (length bytes) now
pushed_all old now bytes rest before none =
    let whole : before.front ≡ bytes = sym (append-nil before.front) ∙ ap (λ xs. before.front ++ xs) (sym (nil_from_length rest none)) ∙ sym before.split in
    subst (λ xs. Pushes old xs (length xs) now) whole before.pushes

-- ---- a turn of `push_all`: whole units at once, and then one byte

-- whole units were skipped, at a place where no unit is cut
pub skips_units : (left : ℕ) (at : Place) (bytes : List ℕ) (count : ℕ) → at ≡ place.First → length bytes ≤ left → count ≤ length bytes → AreUnitsSpelled (take count bytes)
    → PushesFront (record { left = left; cut = cut_at at; has_failed = is_fault at }) bytes count (record { left = left - count; cut = cut_at at; has_failed = is_fault at })
skips_units left at bytes count is room within spelled =
    let long : length (take count bytes) ≡ count = length-take-le count bytes within in
    let P : Place → Type 0 = λ p. PushesFront (record { left = left; cut = cut_at p; has_failed = is_fault p }) bytes count (record { left = left - count; cut = cut_at p; has_failed = is_fault p }) in
    subst P (sym is) (record {
      within = within;
      pushes = subst (λ n. Pushes (record { left = left; cut = []; has_failed = false }) (take count bytes) n (record { left = left - n; cut = []; has_failed = false })) long
          (pushes_units (record { left = left; cut = []; has_failed = false }) (take count bytes) refl refl (omega arith) spelled);
    })

-- the bytes up to one of them
split_one : (bytes tail : List ℕ) (count : ℕ) → tail ≡ drop count bytes → 0 < length tail → count ≤ length bytes
    → (take (count + 1) bytes ≡ take count bytes ++ get_or tail 0 0 ∷ []) × (count + 1 ≤ length bytes)
split_one bytes tail count is some within =
    let long = ap length is ∙ length-drop count bytes in
    let fits : count < length bytes = omega arith in
    let byte : get_or tail 0 0 ≡ get_or bytes count 0 = ap (λ xs. get_or xs 0 0) is ∙ get_or-drop count bytes 0 0 ∙ ap (λ n. get_or bytes n 0) (omega arith) in
    (take_more bytes count 0 fits ∙ ap (λ b. take count bytes ++ b ∷ []) (sym byte), omega arith)

pub front_and_byte : (old mid new : Scan) (bytes tail : List ℕ) (count : ℕ) → PushesFront old bytes count mid → tail ≡ drop count bytes → 0 < length tail
    → Pushes mid (get_or tail 0 0 ∷ []) 1 new → PushesFront old bytes (count + 1) new
front_and_byte old mid new bytes tail count front is some turn =
    let long : length (take count bytes) ≡ count = length-take-le count bytes front.within in
    let split = split_one bytes tail count is some front.within in
    record {
      within = split.1;
      pushes = subst (λ xs. Pushes old xs (count + 1) new) (sym split.0) (subst (λ n. Pushes old (take count bytes ++ get_or tail 0 0 ∷ []) (n + 1) new) long
          (pushes_on old mid new (take count bytes) (get_or tail 0 0 ∷ []) 1 (subst (λ n. Pushes old (take count bytes) n mid) (sym long) front.pushes) turn));
    }

pub front_and_fault : (old mid new : Scan) (bytes tail : List ℕ) (count : ℕ) → PushesFront old bytes count mid → tail ≡ drop count bytes → 0 < length tail
    → Pushes mid (get_or tail 0 0 ∷ []) 0 new → PushesTo old bytes count new
front_and_fault old mid new bytes tail count front is some turn =
    let long : length (take count bytes) ≡ count = length-take-le count bytes front.within in
    let split = split_one bytes tail count is some front.within in
    let upto : Pushes old (take (count + 1) bytes) count new =
    subst (λ xs. Pushes old xs count new) (sym split.0) (subst (λ n. Pushes old (take count bytes ++ get_or tail 0 0 ∷ []) n new) (omega (arith, long))
    (pushes_on old mid new (take count bytes) (get_or tail 0 0 ∷ []) 0 (subst (λ n. Pushes old (take count bytes) n mid) (sym long) front.pushes) turn)) in
    record {
      within = omega (arith, split.1);
      pushes = subst (λ xs. Pushes old xs count new) (take-append-drop (count + 1) bytes)
          (pushes_stop old new (take (count + 1) bytes) (drop (count + 1) bytes) count (omega (arith, length-take-le (count + 1) bytes split.1)) upto);
    }
