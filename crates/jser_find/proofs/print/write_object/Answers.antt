use Rattle.std.proofs.Common.{ap, sym}
use Rattle.std.specs.Prelude.{◌++◌, codes}
use Rattle.jser_printer.proofs.SaysLemmas.{says_five, says_same}
use Rattle.jser_shown.specs.Words.{quoted}
use Rattle.jser_scan.specs.Json.{found_members}
use Rattle.jser_find.specs.Lines.{place_members}
use Rattle.jser_find.proofs.print.write_object.Goals as goal

pub returns : goal.returns
returns g c =
    says_five _ _ _ _ _ _ _ _ _ _ _ _ (λ k. codes "{\"path\":" ++ k) (λ k. quoted c.args.path.now.units.items k) (λ k. place_members c.args.place k)
    (λ k. found_members c.args.found.now k) (λ k. codes "}\n" ++ k) c.write.ensures
    (says_same _ _ _ _ (λ k. quoted c.as_slice.result.now k) (λ k. quoted c.args.path.now.units.items k) (λ k. ap (λ u. quoted u k) (sym c.as_slice.ensures.value)) c.write_quoted.ensures)
    c.write_place_members.ensures c.write_members.ensures c.write-2.ensures
