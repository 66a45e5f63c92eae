-- From the token that an item ends to the part that it is.
use denote.Bor.{Bor}
use Rattle.std.proofs.Common.{◌≡◌, ℕ, zero, suc, List, [], refl, sym, ◌∙◌, ap, subst}
use Rattle.jser_prim.specs.ModifiedUtf8.{IsUnits, modified_utf8}
use Rattle.jser_reading.specs.Labels.{StreamToken, text_token}
use Rattle.jser_reader.specs.declared.Item.{Item}
use Rattle.jser_reader.specs.declared.Item.TheVariants as item
use Rattle.jser_printer.specs.declared.Token.{Token}
use Rattle.jser_printer.specs.declared.Token.TheVariants as token
use Rattle.jser_printer.specs.Given.{IsOf}
use Rattle.jser_index.specs.declared.part.Part.{Part}
use Rattle.jser_index.specs.declared.part.Part.TheVariants as part
use Rattle.jser_index.specs.Along.{Ends, IsPartOf, IsTextOf, PartIs}

-- ---- a text

abbrev text_in : Part → List ℕ
text_in (part.Text bytes) = bytes.now
text_in _ = []

abbrev IsTextPart : Part → Type 0
IsTextPart (part.Text bytes) = Unit {0}
IsTextPart _ = ⊥

no_text : {A : Type 0} (f : Token) (bytes : Bor (List ℕ)) → part.Text bytes ≡ part.Token f → A
no_text f bytes e = absurd (subst IsTextPart e tt)

pub part_text : (lent : Item) (bytes : Bor (List ℕ)) (told : StreamToken) → IsPartOf lent (part.Text bytes) → Ends lent told → PartIs (part.Text bytes) told
part_text item.Header bytes told i e = no_text _ bytes i
part_text (item.Tag n) bytes told i e = no_text _ bytes i
part_text (item.Handle n) bytes told i e = no_text _ bytes i
part_text (item.Suid n) bytes told i e = no_text _ bytes i
part_text (item.Flags n) bytes told i e = no_text _ bytes i
part_text (item.FieldCount n) bytes told i e = no_text _ bytes i
part_text (item.InterfaceCount n) bytes told i e = no_text _ bytes i
part_text (item.TypeCode n) bytes told i e = no_text _ bytes i
part_text (item.ArrayLength n) bytes told i e = no_text _ bytes i
part_text (item.BlockLength n) bytes told i e = no_text _ bytes i
part_text (item.RawPart b) bytes told i e = no_text _ bytes i
part_text (item.TextPart b) bytes (text_token long units) i e = (e.0, e.1 ∙ ap text_in (sym i))
part_text (item.TextLength zero) bytes (text_token long units) i e =
    (subst IsUnits (sym e.1) refl, ap modified_utf8 e.1 ∙ sym i)
part_text (item.TextLength (suc n)) bytes told i e = absurd i
part_text _ bytes told i e = absurd e

pub decoded : (told : StreamToken) (bytes units : Bor (List ℕ)) → IsTextOf bytes.now told
    → ((us : List ℕ) → IsUnits us → modified_utf8 us ≡ bytes.now → units.now ≡ us) → IsOf (token.Text units) told
decoded (text_token long us) bytes units p d = d us p.0 p.1
decoded _ bytes units p d = absurd p

-- ---- a token that is no text

abbrev IsToken : Part → (Token → Type 0) → Type 0
IsToken (part.Token f) P = P f
IsToken _ P = Unit {0}

same_token : (f g : Token) (told : StreamToken) → part.Token f ≡ part.Token g → IsOf g told → IsOf f told
same_token f g told e h = subst (λ p. IsToken p (λ x. IsOf x told)) (sym e) h

pub part_token : (lent : Item) (f : Token) (told : StreamToken) → IsPartOf lent (part.Token f) → Ends lent told → IsOf f told
part_token item.Header f told i e = same_token f token.Header told i e
part_token (item.Tag n) f told i e = same_token f (token.Tag n) told i e
part_token (item.Handle n) f told i e = same_token f (token.Handle n) told i e
part_token (item.Suid n) f told i e = same_token f (token.Suid n) told i e
part_token (item.Flags n) f told i e = same_token f (token.Flags n) told i e
part_token (item.FieldCount n) f told i e = same_token f (token.FieldCount n) told i e
part_token (item.InterfaceCount n) f told i e = same_token f (token.InterfaceCount n) told i e
part_token (item.TypeCode n) f told i e = same_token f (token.TypeCode n) told i e
part_token (item.ArrayLength n) f told i e = same_token f (token.ArrayLength n) told i e
part_token (item.BlockLength n) f told i e = same_token f (token.BlockLength n) told i e
part_token (item.RawPart bytes) f told i e = same_token f (token.Raw bytes) told i e
part_token (item.TextPart bytes) f told i e = absurd (subst IsTextPart (sym i) tt)
part_token (item.TextLength zero) f told i e = absurd i
part_token (item.TextLength (suc n)) f told i e = absurd i
