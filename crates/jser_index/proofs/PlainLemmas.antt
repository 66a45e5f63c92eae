-- A text whose bytes stand for themselves is these bytes.
use Rattle.std.proofs.Common.{◌≡◌, ℕ, Bool, List, ◌∙◌, subst}
use Rattle.jser_prim.specs.Outgoing.{Outgoing, SinkState}
use Rattle.jser_reading.specs.Labels.{StreamToken, text_token}
use Rattle.jser_shown.specs.Cues.{Teller}
use Rattle.jser_shown.specs.Telling.{settled, goes}
use Rattle.jser_printer.specs.Passing.{says_next}
use Rattle.jser_printer.specs.Plain.{IsAscii}
use Rattle.jser_printer.specs.Says.{Says, Begins}
use Rattle.jser_index.specs.Along.{IsTextOf}
use Rattle.jser_index.proofs.DecodeLemmas.{narrow_units}

plain_text : (P : StreamToken → Type 0) (plain bytes : List ℕ) → plain ≡ bytes → IsAscii bytes → ((long : Bool) → P (text_token long plain))
    → (told : StreamToken) → IsTextOf bytes told → P told
plain_text P plain bytes same ascii holds (text_token long units) is =
    subst (λ u. P (text_token long u)) (same ∙ narrow_units units bytes is.0 is.1 ascii) (holds long)
plain_text P plain bytes same ascii holds _ is = absurd is

pub plain_said : (a b : Outgoing) (d e : SinkState) (s : Teller) (plain bytes : List ℕ) → plain ≡ bytes → IsAscii bytes
    → ((long : Bool) → Says a b d e (λ k. says_next s (text_token long plain) k)) → (told : StreamToken) → IsTextOf bytes told
    → Says a b d e (λ k. says_next s told k)
plain_said a b d e s = plain_text (λ told. Says a b d e (λ k. says_next s told k))

pub plain_goes : (s t : Teller) (plain bytes : List ℕ) → plain ≡ bytes → IsAscii bytes → ((long : Bool) → t ≡ goes (settled s) (text_token long plain))
    → (told : StreamToken) → IsTextOf bytes told → t ≡ goes (settled s) told
plain_goes s t = plain_text (λ told. t ≡ goes (settled s) told)

pub plain_begins : (a b : Outgoing) (d e : SinkState) (s : Teller) (plain bytes : List ℕ) → plain ≡ bytes → IsAscii bytes
    → ((long : Bool) → Begins a b d e (λ k. says_next s (text_token long plain) k)) → (told : StreamToken) → IsTextOf bytes told
    → Begins a b d e (λ k. says_next s told k)
plain_begins a b d e s = plain_text (λ told. Begins a b d e (λ k. says_next s told k))
