use Rattle.std.proofs.lemmas.Grind.{common_steps}
use Rattle.std.proofs.Common.{◌≡◌, [], ◌∷◌, ◌++◌, map, ap, ◌∙◌, arith, rules}
use Rattle.jser_table.specs.Tables.{TableView, view_entry, new_kept}
use Rattle.jser_table.proofs.TableLemmas.{entries_assign, numbers_assign}
use Rattle.jser_table.proofs.table.Table.assign_any.Goals.{then-eq-2, else-eq-2, else-eq-via-then-eq+else-is_err, else-eq-via-else-eq}
use Rattle.jser_table.proofs.table.Table.assign_any.Goals as goal

pub returns : goal.returns
returns c =
    let own = c.self.inside in
    let now : c.if-eq-2.self.entries ≡ map (view_entry c.else-eq.self-inside.chains.listed) c.push.new.self.items =
    elim c.if-eq-2.branch [
      | then-eq-2 w ↦ ap (λ (t : TableView). t.entries) w.self-is
      | else-eq-2 w ↦ ap (λ (t : TableView). t.entries) w.self-is
    ]
    in
    let chains : c.else-eq.self-inside.chains.listed ≡ own.chains.listed =
    elim c.else-eq.branch [
      | else-eq-via-then-eq+else-is_err w ↦ search rules
      | else-eq-via-else-eq w ↦ search rules
    ]
    in
    let entries : c.else-eq.self-inside.entries.items ≡ own.entries.items =
    elim c.else-eq.branch [
      | else-eq-via-then-eq+else-is_err w ↦ search rules
      | else-eq-via-else-eq w ↦ search rules
    ]
    in
    let pushed : c.push.new.self.items ≡ c.else-eq.self-inside.entries.items ++ new_kept c.args.kind ∷ [] = search rules in
    record {
      number = grind (arith, common_steps);
      below = search rules;
      added = now ∙ rw (chains, pushed, entries, ← c.self.view_is) (entries_assign own.chains.listed own.entries.items c.args.kind);
      numbers = search (rules, numbers_assign);
      chains = search rules;
      lines = search rules;
      max = search rules;
    }
