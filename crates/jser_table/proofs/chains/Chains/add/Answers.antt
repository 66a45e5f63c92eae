use Rattle.std.proofs.Common.{◌≡◌, ◌<◌, ◌^◌, ◌-◌, ◌∙◌, ℕ, length, arith, rules, ap, sym, subst}
use Rattle.jser_table.specs.Stored.{ChainList}
use Rattle.jser_table.specs.Descriptors.{IsAbove, chains_of}
use Rattle.jser_table.specs.Paths.{FilesOne}
use Rattle.jser_table.specs.Lined.{LinesUnder, lines_of}
use Rattle.jser_table.proofs.ChainLemmas.{length_chains_of, chains_push, completes}
use Rattle.jser_table.proofs.UpwardLemmas.{upward_kept}
use Rattle.jser_table.proofs.AheadLemmas.{ahead_none}
use Rattle.jser_table.proofs.LineLemmas.{lines_push}
use Rattle.jser_table.proofs.SectionLemmas.{sections_fewer}
use Rattle.jser_table.proofs.FiledLemmas.{files_one, files_none, shelved_push}
use Rattle.jser_table.proofs.chains.Chains.add.Goals.{then-complete, else-complete}
use Rattle.jser_table.proofs.chains.Chains.add.Goals as goal

pub overflow_cast-section : goal.overflow_cast-section
overflow_cast-section c =
    let ds = c.self.inside.descriptors.items in
    let kept = c.self.invariant.shelved in
    omega (arith, sections_fewer (chains_of ds), length_chains_of ds, kept.filed.count, kept.fewer)

pub file-requires-clause-fewer : goal.file-requires-clause-fewer
file-requires-clause-fewer c =
    let ds = c.self.inside.descriptors.items in
    let kept = c.self.invariant.shelved in
    omega (arith, sections_fewer (chains_of ds), length_chains_of ds, kept.filed.count, ap (λ (v : ChainList). v.room) c.self.view_is, c.requires.room)

pub file-requires-clause-upwards : goal.file-requires-clause-upwards
file-requires-clause-upwards c =
    λ number inside. let up = upward_kept _ _ number c.self.invariant.shelved.filed inside in (up.jump_in, up.within)

pub invariant_of-self : goal.invariant_of-self
invariant_of-self c =
    let own = c.self.inside in
    let place : c.len-place.result ≡ length own.descriptors.items = search rules in
    let section : c.len-section.result ≡ length own.sections.items = search rules in
    let above : IsAbove (chains_of own.descriptors.items) c.args.parent c.above_of-above.result = rw (← c.deref.ensures.value) c.above_of-above.ensures.above in
    let made = completes own.descriptors.items _ _ c.args.parent c.above_of-above.result c.args.layer _ _ _ _ above (section ∙ sym c.self.invariant.shelved.filed.count) c.begun.ensures c.push_reserved.ensures.items place c.index_mut-own.ensures.value c.complete.ensures.whole in
    let lines : LinesUnder (lines_of own.descriptors.items) c.args.parent c.above_of-above.result.links =
    rw (← c.deref.ensures.value) (c.above_of-above.ensures.lines (rw c.deref.ensures.value c.self.invariant.shelved.lined))
    in
    let few : length own.descriptors.items < 2 ^ 32 - 3 = omega (arith, ap (λ (v : ChainList). v.room) c.self.view_is, c.requires.room) in
    let files : FilesOne c.complete.new.self.layer (length own.descriptors.items) c.above_of-above.result.last own.sections.items c.file.new.sections.items =
    subst (λ (n : ℕ). FilesOne c.complete.new.self.layer n c.above_of-above.result.last own.sections.items c.file.new.sections.items) place c.file.ensures.filed
    in
    record {
      shelved =
          shelved_push own.descriptors.items _ c.complete.new.self c.args.parent c.args.layer c.above_of-above.result.last own.sections.items c.file.new.sections.items c.self.invariant.shelved few made.items made.under above.last
          (files_one c.args.layer _ _ _ _ _ _ c.if-complete.ensures.filled made.layer_is made.under.layer_is files) (rw made.links lines);
      ahead_is = ahead_none _ _ c.clear.ensures;
    }

pub invariant_of-self-else-complete : goal.invariant_of-self-else-complete
invariant_of-self-else-complete c =
    let own = c.self.inside in
    let place : c.len-place.result ≡ length own.descriptors.items = search rules in
    let section : c.len-section.result ≡ length own.sections.items = search rules in
    let above : IsAbove (chains_of own.descriptors.items) c.args.parent c.above_of-above.result = rw (← c.deref.ensures.value) c.above_of-above.ensures.above in
    let made = completes own.descriptors.items _ _ c.args.parent c.above_of-above.result c.args.layer _ _ _ _ above (section ∙ sym c.self.invariant.shelved.filed.count) c.begun.ensures c.push_reserved.ensures.items place c.index_mut-own.ensures.value c.complete.ensures.whole in
    let lines : LinesUnder (lines_of own.descriptors.items) c.args.parent c.above_of-above.result.links =
    rw (← c.deref.ensures.value) (c.above_of-above.ensures.lines (rw c.deref.ensures.value c.self.invariant.shelved.lined))
    in
    let few : length own.descriptors.items < 2 ^ 32 - 3 = omega (arith, ap (λ (v : ChainList). v.room) c.self.view_is, c.requires.room) in
    record {
      shelved =
          shelved_push own.descriptors.items _ c.complete.new.self c.args.parent c.args.layer c.above_of-above.result.last own.sections.items own.sections.items c.self.invariant.shelved few made.items made.under above.last
          (files_none c.args.layer _ _ _ _ c.if-complete.ensures.filled made.layer_is) (rw made.links lines);
      ahead_is = ahead_none _ _ c.clear.ensures;
    }

pub returns-clause-added : goal.returns-clause-added
returns-clause-added c =
    let own = c.self.inside in
    let place : c.len-place.result ≡ length own.descriptors.items = search rules in
    let section : c.len-section.result ≡ length own.sections.items = search rules in
    let above : IsAbove (chains_of own.descriptors.items) c.args.parent c.above_of-above.result = rw (← c.deref.ensures.value) c.above_of-above.ensures.above in
    let made = completes own.descriptors.items _ _ c.args.parent c.above_of-above.result c.args.layer _ _ _ _ above (section ∙ sym c.self.invariant.shelved.filed.count) c.begun.ensures c.push_reserved.ensures.items place c.index_mut-own.ensures.value c.complete.ensures.whole in
    let added = chains_push own.descriptors.items _ c.complete.new.self c.args.parent c.args.layer made.items made.under in
    rw (← ap (λ (v : ChainList). v.listed) c.self.view_is)
    (elim c.if-complete.branch [
      | then-complete w ↦ ap (λ (v : ChainList). v.listed) w.self-is ∙ added
      | else-complete w ↦ ap (λ (v : ChainList). v.listed) w.self-is ∙ added
    ])

pub returns-clause-lines : goal.returns-clause-lines
returns-clause-lines c =
    let own = c.self.inside in
    let place : c.len-place.result ≡ length own.descriptors.items = search rules in
    let section : c.len-section.result ≡ length own.sections.items = search rules in
    let above : IsAbove (chains_of own.descriptors.items) c.args.parent c.above_of-above.result = rw (← c.deref.ensures.value) c.above_of-above.ensures.above in
    let made = completes own.descriptors.items _ _ c.args.parent c.above_of-above.result c.args.layer _ _ _ _ above (section ∙ sym c.self.invariant.shelved.filed.count) c.begun.ensures c.push_reserved.ensures.items place c.index_mut-own.ensures.value c.complete.ensures.whole in
    let added = lines_push own.descriptors.items _ c.complete.new.self c.args.parent c.args.layer made.items made.under in
    rw (← ap (λ (v : ChainList). v.lines) c.self.view_is)
    (elim c.if-complete.branch [
      | then-complete w ↦ ap (λ (v : ChainList). v.lines) w.self-is ∙ added
      | else-complete w ↦ ap (λ (v : ChainList). v.lines) w.self-is ∙ added
    ])
