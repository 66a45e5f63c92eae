-- The scanning_verdict goes with the gate of its limits: the premise of the laws of the walk.
use Rattle.std.proofs.Common.{◌≡◌, ℕ, Bool, true, false, List, [], ◌++◌, refl, sym, ◌∙◌, ap, Option, Some, None, IsTrue, IsFalse, append-nil, true≢false}
use Rattle.jser_reading.specs.TokenBytes.{bytes_of}
use Rattle.jser_reading.specs.Labels.{StreamToken, Position, nowhere, header_at, top_at, annotation_at, value_at, text_place_at, class_place_at, superclass_place_at, back_handle_at, text_handle_at, class_handle_at, superclass_handle_at, string_at, class_name_at, field_name_at, interface_name_at, suid_at, field_count_at, interface_count_at, array_length_at, flags_at, type_code_at, block_length_at, raw_at, bytes_at, Label}
use Rattle.jser_reading.specs.Accepts.{Accepts}
use Rattle.jser_reading.specs.GateLimits.{gate_of}
use Rattle.jser_reading.specs.Scanner.{Verdict, good, bad, TokenGate, IsUndecided, IsScanner}
use Rattle.jser_reading.proofs.PlainVerdict.{plain_verdict, in_front, scanner}
use Rattle.jser_verdict.specs.Reasons.{Reason, turn}
use Rattle.jser_verdict.specs.Gates.{Gate, limits_of}
use Rattle.jser_verdict.specs.Verdicts.{reason_at, by_reason}
use Rattle.jser_verdict.proofs.Scanning.{scanning_verdict}
use Rattle.jser_verdict.proofs.Ends.{Agrees, quiet_before, ends_agree}

none_yet : (g : Gate) (l : Label) (w : Position) → reason_at g l w [] ≡ None
none_yet g l nowhere = refl
none_yet g l header_at = refl
none_yet g l top_at = refl
none_yet g l annotation_at = refl
none_yet g l value_at = refl
none_yet g l text_place_at = refl
none_yet g l (class_place_at owner) = refl
none_yet g l (superclass_place_at owner strict) = refl
none_yet g l back_handle_at = refl
none_yet g l text_handle_at = refl
none_yet g l (class_handle_at owner) = refl
none_yet g l (superclass_handle_at owner strict) = refl
none_yet g l (string_at true) = refl
none_yet g l (string_at false) = refl
none_yet g l (class_name_at role) = refl
none_yet g l field_name_at = refl
none_yet g l interface_name_at = refl
none_yet g l suid_at = refl
none_yet g l field_count_at = refl
none_yet g l interface_count_at = refl
none_yet g l array_length_at = refl
none_yet g l (flags_at role) = refl
none_yet g l (type_code_at seen) = refl
none_yet g l (block_length_at true) = refl
none_yet g l (block_length_at false) = refl
none_yet g l (raw_at c n) = refl
none_yet g l (bytes_at n) = refl

good_plain : (told : Option Reason) (v : Verdict) (f : StreamToken) → by_reason told v ≡ good f → v ≡ good f
good_plain None v f e = e
good_plain (Some r) v f e = absurd (cc)

module _ (g : Gate) where
  abbrev pub gate : TokenGate
  gate = gate_of (limits_of g)

  pub with_none : (l : Label) (p : List ℕ) → reason_at g l l.position p ≡ None → scanning_verdict g l p ≡ plain_verdict gate l p
  with_none l p e = ap (λ o. by_reason o (plain_verdict gate l p)) e

  pub with_some : (l : Label) (p : List ℕ) (r : Reason) → reason_at g l l.position p ≡ Some r → scanning_verdict g l p ≡ bad (turn r)
  with_some l p r e = ap (λ o. by_reason o (plain_verdict gate l p)) e

  quiet_token : (l : Label) (f : StreamToken) → Accepts l f → IsTrue (gate l f) → IsUndecided (scanning_verdict g) l (bytes_of f)
  quiet_token l f h k a c b e =
      with_none l a (quiet_before g l f h a c b e) ∙ (scanner gate).before_end l f h k a c b e

  pub agrees_true : (x : Bool) (o : Option Reason) → Agrees x o → IsTrue x → o ≡ None
  agrees_true true o h t = h
  agrees_true false o h t = absurd (true≢false (sym t))

  pub agrees_false : (x : Bool) (o : Option Reason) → Agrees x o → IsFalse x → (r : Reason) × (o ≡ Some r)
  agrees_false false o h t = h
  agrees_false true o h t = absurd (true≢false t)

  pub verdict_scans : IsScanner gate (scanning_verdict g)
  verdict_scans = record {
    nothing_yet = λ l. with_none l [] (none_yet g l l.position) ∙ (scanner gate).nothing_yet l;
    good_is = λ l p f e. (scanner gate).good_is l p f (good_plain (reason_at g l l.position p) (plain_verdict gate l p) f e);
    is_good =
        λ l f h k. with_none l (bytes_of f) (agrees_true (gate l f) (reason_at g l l.position (bytes_of f)) (ends_agree g l f h) k)
        ∙ (scanner gate).is_good l f h k;
    before_end = λ l f h k. quiet_token l f h k;
    stops = λ l f h k. stopped l f h k;
  }
    where
      plain_quiet : (l : Label) (f : StreamToken) → Accepts l f → IsFalse (gate l f) → IsUndecided (scanning_verdict g) l (bytes_of f)
      plain_quiet l f h k a c b e = with_none l a (quiet_before g l f h a c b e) ∙ in_front gate l f h a c b e

      stopped : (l : Label) (f : StreamToken) → Accepts l f → IsFalse (gate l f) → (front rest : List ℕ) × (reason : ℕ)
          × (bytes_of f ≡ front ++ rest) × (scanning_verdict g l front ≡ bad reason) × IsUndecided (scanning_verdict g) l front
      stopped l f h k =
          let x = agrees_false (gate l f) (reason_at g l l.position (bytes_of f)) (ends_agree g l f h) k in (
            bytes_of f,
            [],
            turn x.0,
            sym (append-nil (bytes_of f)),
            with_some l (bytes_of f) x.0 x.1,
            plain_quiet l f h k,
          )
