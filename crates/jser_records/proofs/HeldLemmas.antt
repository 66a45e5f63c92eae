-- The bytes of a record that are kept.
use Rattle.std.proofs.Common.{◌≡◌, ◌⊎◌, true, false, List, ℕ, [], ◌++◌, Option, Some, None, inl, inr, refl, sym, ap, subst, ◌∙◌, append_assoc, append-nil}
use Rattle.std.specs.Prelude.{IfSome}
use Rattle.jser_scan.specs.declared.Found.TheVariants as found
use Rattle.jser_records.specs.declared.answer.Answer.{Answer}
use Rattle.jser_records.specs.declared.answer.Answer.TheVariants as answer
use Rattle.jser_records.specs.declared.current.Record.{Record}
use Rattle.jser_records.specs.declared.reading.Reading.{Reading}
use Rattle.jser_records.specs.Held.{Holds, HoldsMore, HoldsSame, Keeps, may_pass, passes}
use Rattle.jser_records.specs.Readings.{AddsKey, KeepsRules}

-- ---- what may pass

-- an answer is not taken back
pub may_kept : (old new : Option Answer) → IfSome old (λ a. new ≡ Some a) → may_pass new ≡ true → may_pass old ≡ true
may_kept None new kept may = refl
may_kept (Some a) new kept may = sym (ap may_pass kept) ∙ may

may_same : (o : Option Answer) (old new : Reading) → old.answer ≡ o → IfSome o (λ a. new ≡ old) → may_pass new.answer ≡ true → may_pass o ≡ true
may_same None old new is kept may = refl
may_same (Some a) old new is kept may = sym (ap may_pass (ap (λ r. r.answer) kept ∙ is)) ∙ may

pub finished_passes : (o : Option Answer) (result : Answer) → IfSome o (λ a. result ≡ a) → passes result ≡ true → may_pass o ≡ true
finished_passes None result kept may = refl
finished_passes (Some a) result kept may = sym (ap passes kept) ∙ may

-- ---- the terms

pub keeps_rules : (old new : Record) → KeepsRules old.reading new.reading → new.passes ≡ old.passes → Keeps old new
keeps_rules old new keeps same =
    ap (λ g. record { rules = g; most = new.reading.most; hands_on = new.passes }) keeps.rules
    ∙ ap (λ m. record { rules = old.reading.judge.rules; most = m; hands_on = new.passes }) keeps.most
    ∙ ap (λ b. record { rules = old.reading.judge.rules; most = old.reading.most; hands_on = b }) same

pub keeps_held : (old new : Record) → (new.reading ≡ old.reading) ⊎ (new.reading ≡ record old.reading { answer = Some (answer.Checked found.OutOfMemory) }) → new.passes ≡ old.passes → Keeps old new
keeps_held old new (inl same) on = keeps_rules old new (record { rules = ap (λ r. r.judge.rules) same; most = ap (λ r. r.most) same }) on
keeps_held old new (inr out) on = keeps_rules old new (record { rules = ap (λ r. r.judge.rules) out; most = ap (λ r. r.most) out }) on

pub keeps_both : (a b c : Record) → Keeps a b → Keeps b c → Keeps a c
keeps_both a b c f g = g ∙ f

-- ---- the bytes

-- a record that is not handed on holds any
pub holds_off : (r : Record) (raw : List ℕ) → r.passes ≡ false → Holds r raw
holds_off r raw off = λ on may. absurd (cc)

pub holds_refused : (r : Record) (raw : List ℕ) → may_pass r.reading.answer ≡ false → Holds r raw
holds_refused r raw refused = λ on may. absurd (cc)

pub holds_on : (old new : Record) → new.passes ≡ old.passes → new.held.items ≡ old.held.items → (may_pass new.reading.answer ≡ true → may_pass old.reading.answer ≡ true) → HoldsSame old new
holds_on old new same kept so = λ raw had on may. kept ∙ had (sym same ∙ on) (so may)

pub holds_kept : (old new : Record) → new.passes ≡ old.passes → new.held.items ≡ old.held.items → IfSome old.reading.answer (λ a. new.reading.answer ≡ Some a) → HoldsSame old new
holds_kept old new same held kept = holds_on old new same held (may_kept old.reading.answer new.reading.answer kept)

pub holds_answered : (old new : Record) → new.passes ≡ old.passes → new.held.items ≡ old.held.items → IfSome old.reading.answer (λ a. new.reading ≡ old.reading) → HoldsSame old new
holds_answered old new same held kept = holds_on old new same held (may_same old.reading.answer old.reading new.reading refl kept)

pub holds_none : (a : Record) → HoldsMore a a []
holds_none a = λ raw had. subst (λ xs. Holds a xs) (sym (append-nil raw)) had

pub holds_then : (a b c : Record) (more : List ℕ) → HoldsMore a b more → HoldsSame b c → HoldsMore a c more
holds_then a b c more f g = λ raw had. g (raw ++ more) (f raw had)

pub holds_both : (a b c : Record) (xs ys : List ℕ) → HoldsMore a b xs → HoldsMore b c ys → HoldsMore a c (xs ++ ys)
holds_both a b c xs ys f g = λ raw had. subst (λ zs. Holds c zs) (append_assoc raw xs ys) (g (raw ++ xs) (f raw had))

-- ---- what is found of a record

may_keyed : (old new : Reading) (bytes : List ℕ) → AddsKey old new bytes → may_pass new.answer ≡ true → may_pass old.answer ≡ true
may_keyed old new bytes (inl adds) may = sym (ap (λ r. may_pass r.answer) adds.0) ∙ may
may_keyed old new bytes (inr long) may = let no : may_pass new.answer ≡ false = ap (λ r. may_pass r.answer) long.0 in absurd (cc)

pub holds_keyed : (old new : Record) (bytes : List ℕ) → new.passes ≡ old.passes → new.held.items ≡ old.held.items → AddsKey old.reading new.reading bytes → HoldsSame old new
holds_keyed old new bytes same held adds = holds_on old new same held (may_keyed old.reading new.reading bytes adds)

pub keeps_keyed : (old new : Record) (bytes : List ℕ) → new.passes ≡ old.passes → AddsKey old.reading new.reading bytes → Keeps old new
keeps_keyed old new bytes same (inl adds) = keeps_rules old new (record { rules = ap (λ r. r.judge.rules) adds.0; most = ap (λ r. r.most) adds.0 }) same
keeps_keyed old new bytes same (inr long) = keeps_rules old new (record { rules = ap (λ r. r.judge.rules) long.0; most = ap (λ r. r.most) long.0 }) same
