-- What stands in some bytes stands in all that begin with them.
use Rattle.std.proofs.Common.{Option, ℕ, zero, suc, ◌≤◌, ◌∙◌, ap, sym, subst, inl, inr, List, [], ◌∷◌, ◌++◌, length, drop, arith, append_assoc, length-append}
use Rattle.std.proofs.lemmas.Bool.{cases_lt}
use Rattle.std.proofs.lemmas.List.{drop-append-le}
use Rattle.std.proofs.Math.ListN.{drop_of_length-le}
use Rattle.jser_anywhere.specs.Standing.{BeginsText, BeginsRow, Begins}
use Rattle.jser_anywhere.specs.Texts.{row_units}
use Rattle.jser_anywhere.specs.Names.{name_units}
use Rattle.jser_anywhere.specs.Laws.{StandsForGood}

name_longer : (reader : List ℕ → Option (List ℕ)) (bytes more : List ℕ) (end : ℕ) (units : List ℕ) → BeginsText reader bytes end units → BeginsText reader (bytes ++ more) end units
name_longer reader bytes more end units name = record {
  high = name.high;
  low = name.low;
  text = name.text;
  after = name.after ++ more;
  split = ap (λ (xs : List ℕ). xs ++ more) name.split ∙ ap (λ (xs : List ℕ). name.high ∷ name.low ∷ xs) (append_assoc name.text name.after more);
  counted = name.counted;
  least = name.least;
  most = name.most;
  named = name.named;
  ends = name.ends;
}

pub name_within : (reader : List ℕ → Option (List ℕ)) (bytes : List ℕ) (end : ℕ) (units : List ℕ) → BeginsText reader bytes end units → end ≤ length bytes
name_within reader bytes end units name = omega (arith, name.ends, ap length name.split, length-append name.text name.after)

row_longer : (most : ℕ) (bytes more : List ℕ) (end : ℕ) (units : List ℕ) → BeginsRow most bytes end units → BeginsRow most (bytes ++ more) end units
row_longer zero bytes more end units row = row
row_longer (suc most) bytes more end units (inl name) = inl (name_longer name_units bytes more end units name)
row_longer (suc most) bytes more end units (inr later) =
    let e = drop-append-le later.first bytes more (name_within row_units bytes later.first later.others later.name) in
    inr (record {
      first = later.first;
      others = later.others;
      name = name_longer row_units bytes more later.first later.others later.name;
      more = later.more;
      later = subst (λ (xs : List ℕ). BeginsRow most xs later.more units) (sym e) (row_longer most (drop later.first bytes) more later.more units later.later);
      ends = later.ends;
    })

begins_longer : (bytes more : List ℕ) (end : ℕ) (units : List ℕ) → Begins bytes end units → Begins (bytes ++ more) end units
begins_longer bytes more end units (inl d) = inl (record {
  rest = d.rest ++ more;
  split = ap (λ (xs : List ℕ). xs ++ more) d.split;
  name_end = d.name_end;
  name = name_longer name_units d.rest more d.name_end units d.name;
  ends = d.ends;
})
begins_longer bytes more end units (inr i) = inr (record {
  low = i.low;
  high = i.high;
  rest = i.rest ++ more;
  split = ap (λ (xs : List ℕ). xs ++ more) i.split;
  row_end = i.row_end;
  row = row_longer _ i.rest more i.row_end units i.row;
  ends = i.ends;
})

none_empty : (end : ℕ) (units : List ℕ) → Begins [] end units → ⊥
none_empty end units (inl d) = let e = d.split in absurd cc
none_empty end units (inr i) = let e = i.split in absurd cc

pub stands_for_good : StandsForGood
stands_for_good bytes more from to units stands = elim (cases_lt from (length bytes)) [
  | inl less ↦
      record {
        end = stands.end;
        begins = subst (λ (xs : List ℕ). Begins xs stands.end units) (sym (drop-append-le from bytes more (omega arith))) (begins_longer (drop from bytes) more stands.end units stands.begins);
        ends = stands.ends;
      }
  | inr not ↦ absurd (none_empty stands.end units (subst (λ (xs : List ℕ). Begins xs stands.end units) (drop_of_length-le bytes (omega arith)) stands.begins))
]
