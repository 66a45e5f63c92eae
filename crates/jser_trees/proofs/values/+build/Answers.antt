use Rattle.std.proofs.Common.{rules, arith, map, ap, ◌∙◌, Some, slice_get}
use Rattle.jser_table.specs.Entries.{chain_at}
use Rattle.jser_value.specs.declared.tree.Desc.{the_lemmas}
use Rattle.jser_value.specs.declared.tree.Desc.TheVariants as desc
use Rattle.jser_value.specs.View.{view_field, view_prim, view_values, view_sections, view_content, view_contents, view_class_place, view_desc}
use Rattle.jser_value.proofs.KeepLemmas.{class_plain, class_proxy}
use Rattle.jser_value.proofs.ViewLemmas.{view_object}
use Rattle.jser_trees.specs.Building.{value_in, desc_in, content_in, annotation_in}
use Rattle.jser_trees.proofs.Levels.{object_whole, found_failed}
use Rattle.jser_trees.proofs.NotesLoop.{notes_ended, notes_failed, notes_next}
use Rattle.jser_trees.proofs.SectionsLoop.{section_whole, section_bare, with_notes, without_notes, sections_next}
use Rattle.jser_trees.proofs.ValuesLoop.{values_next}
use Rattle.std.proofs.Common.{◌∷◌, sym}
use Rattle.jser_trees.proofs.values.+build.Goals as goal

pub notes-returns-then-tag-eq-TC_ENDBLOCKDATA-clause-found :
    goal.notes-returns-then-tag-eq-TC_ENDBLOCKDATA-clause-found
notes-returns-then-tag-eq-TC_ENDBLOCKDATA-clause-found t c =
    notes_ended (value_in c.args.steps) c.args.table.now.entries c.notes.table.entries c.notes.left c.in_ok-tag.tag c.args.cursor.now c.notes.cursor
    c.byte.new.self (view_contents c.notes.notes.items) c.notes.invariant.0 c.notes-test.true c.in_ok-tag.ensures.byte c.if-tag-eq-TC_ENDBLOCKDATA.true

pub notes-returns-in_err-note-clause-found : goal.notes-returns-in_err-note-clause-found
notes-returns-in_err-note-clause-found t c =
    found_failed view_content (λ notes. view_contents notes.items) c.from_residual-in_err-note.result c.in_err-note.field-0.0 c.content.new.cursor c.content.new.cursor
    (content_in (value_in c.args.steps) c.notes.table.entries (c.in_ok-tag.tag ∷ c.byte.new.self)) (annotation_in (value_in c.args.steps) c.args.table.now.entries c.args.cursor.now)
    (search rules) c.in_err-note.ensures.found
    (notes_failed (value_in c.args.steps) c.args.table.now.entries c.notes.table.entries c.notes.left c.in_ok-tag.tag c.args.cursor.now c.notes.cursor
    c.byte.new.self (view_contents c.notes.notes.items) c.notes.invariant.0 c.notes-test.true c.in_ok-tag.ensures.byte c.if-tag-eq-TC_ENDBLOCKDATA.false)

pub notes-notes-preserved : goal.notes-notes-preserved
notes-notes-preserved t c = (
  notes_next (value_in c.args.steps) c.args.table.now.entries c.notes.table.entries c.content.new.table.entries c.notes.left c.in_ok-tag.tag c.args.cursor.now
      c.notes.cursor c.byte.new.self c.content.new.cursor c.notes.notes.items c.push.new.self.items c.in_ok-note.note c.notes.invariant.0 c.notes-test.true
      c.in_ok-tag.ensures.byte c.if-tag-eq-TC_ENDBLOCKDATA.false c.in_ok-note.ensures.found c.in_ok-note.ensures.after (search rules),
  omega (arith, c.notes.invariant.1, c.in_ok-tag.ensures.shorter, c.in_ok-note.ensures.spent),
)

pub object-returns-clause-found : goal.object-returns-clause-found
object-returns-clause-found t c =
    object_whole (desc_in c.args.steps) (value_in c.args.steps) c.args.table.now.entries c.next_class.new.table.entries c.assign.new.table.entries
    c.in_ok-descr.number c.args.cursor.now c.next_class.new.cursor c.data.new.cursor (view_class_place c.in_ok-descr.descr) (view_sections c.in_ok-sections.sections.items)
    c.in_ok-descr.ensures.found c.in_ok-descr.ensures.after c.in_ok-descr.ensures.class c.in_ok-assign.ensures.added c.in_ok-sections.ensures.found
    ∙ ap (λ v. Some (v, c.data.new.cursor)) (sym (view_object c.in_ok-descr.descr c.in_ok-sections.sections))

pub plain-returns-clause-class : goal.plain-returns-clause-class
plain-returns-clause-class t c =
    class_plain c.args.table.now.entries c.assign.new.table.entries c.enter_types.new.table.entries c.notes.new.table.entries
    c.superclass.new.table.entries c.close.new.self.entries c.in_ok-number.number c.in_ok-parent.above c.in_ok-layer.layer
    c.in_ok-name.name.items c.in_ok-suid.suid c.in_ok-flags.flags (map view_field c.in_ok-fields.fields.items) (view_contents c.in_ok-notes.notes.items)
    (view_class_place c.in_ok-parent.parent) (view_desc (desc.Plain c.in_ok-name.name c.in_ok-suid.suid c.in_ok-flags.flags c.in_ok-fields.fields c.in_ok-notes.notes c.in_ok-parent.parent))
    (search rules) (search rules) (search rules) (search rules) (search rules) (search rules) (search rules) (search rules) (search (rules, the_lemmas))

pub proxy-returns-clause-class : goal.proxy-returns-clause-class
proxy-returns-clause-class t c =
    class_proxy c.args.table.now.entries c.assign.new.table.entries c.notes.new.table.entries
    c.superclass.new.table.entries c.close.new.self.entries c.in_ok-number.number c.in_ok-parent.above c.proxy_layer.result
    (map (λ name. name.items) c.in_ok-interfaces.interfaces.items) (view_contents c.in_ok-notes.notes.items)
    (view_class_place c.in_ok-parent.parent) (view_desc (desc.Proxy c.in_ok-interfaces.interfaces c.in_ok-notes.notes c.in_ok-parent.parent))
    (search rules) (search rules) (search rules) (search rules) (search rules) (search rules) (search rules) (search (rules, the_lemmas))

pub section-returns-in_ok-notes-clause-found : goal.section-returns-in_ok-notes-clause-found
section-returns-in_ok-notes-clause-found t c =
    section_whole (value_in c.args.steps) c.args.table.now.entries (slice_get (chain_at c.args.table.now.entries c.args.number) c.args.index) c.layer-layer.result.now
    c.args.cursor.now c.prims_of.new.cursor c.values.new.cursor c.notes.new.cursor (map view_prim c.in_ok-prims.prims.items) (view_values c.in_ok-values.values.items)
    (view_contents c.in_ok-notes.notes.items)
    (search rules) (search rules) (search rules) (search rules) (search rules)
    ∙ ap (λ s. Some (s, c.notes.new.cursor)) (with_notes c.in_ok-prims.prims c.in_ok-values.values c.in_ok-notes.notes)

pub section-returns-else-has_notes-clause-found : goal.section-returns-else-has_notes-clause-found
section-returns-else-has_notes-clause-found t c =
    section_bare (value_in c.args.steps) c.args.table.now.entries (slice_get (chain_at c.args.table.now.entries c.args.number) c.args.index) c.layer-layer.result.now
    c.args.cursor.now c.prims_of.new.cursor c.values.new.cursor (map view_prim c.in_ok-prims.prims.items) (view_values c.in_ok-values.values.items)
    (search rules) (search rules) (search rules) (search rules)
    ∙ ap (λ s. Some (s, c.values.new.cursor)) (without_notes c.in_ok-prims.prims c.in_ok-values.values)

pub sections-sections-preserved : goal.sections-sections-preserved
sections-sections-preserved t c = (
  sections_next (value_in c.args.steps) c.args.table.now.entries c.sections.table.entries c.section.new.table.entries c.args.number
      (chain_at c.args.table.now.entries c.args.number) c.sections.index c.args.cursor.now c.sections.cursor c.section.new.cursor c.sections.sections.items
      c.push.new.self.items c.in_ok-next.next c.sections.invariant.0 (search rules) c.in_ok-next.ensures.found c.in_ok-next.ensures.after (search rules),
  omega (arith, c.sections.invariant.1, c.in_ok-next.ensures.spent),
)

pub values-values-preserved : goal.values-values-preserved
values-values-preserved t c = (
  values_next (value_in c.args.steps) c.args.table.now.entries c.values.table.entries c.next_value.new.table.entries c.args.count c.values.left c.args.cursor.now
      c.values.cursor c.next_value.new.cursor c.values.values.items c.push.new.self.items c.in_ok-next.next c.values.invariant.0 c.values-test.true
      c.in_ok-next.ensures.found c.in_ok-next.ensures.after (search rules),
  omega (arith, c.values.invariant.1, c.in_ok-next.ensures.spent),
)
