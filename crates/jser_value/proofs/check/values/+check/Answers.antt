use Rattle.std.proofs.Common.{map, refl, slice_get, arith, length-append, rules}
use Rattle.std.proofs.lemmas.Grind.{common_steps}
use Rattle.jser_value.proofs.KeepLemmas.{class_behind_add, class_plain, class_proxy}
use Rattle.jser_value.proofs.DescLemmas.{plain_above_failed, plain_judged, plain_pending, proxy_pending, plain_room_fields, plain_spent, proxy_judged, proxy_spent}
use Rattle.jser_grammar.specs.TableAfter.{add, plain_layer}
use Rattle.jser_table.specs.Entries.{chain_at, other_entry, pending_entry}
use Rattle.jser_value.specs.Tests.{after_section}
use Rattle.jser_value.proofs.CheckLemmas.{sections_next, sections_spent, sections_failed, judged_alone, judged_failed, judged_section}
use Rattle.jser_value.proofs.check.values.+check.Goals as goal
use Rattle.jser_value.proofs.check.values.+check.Goals.{check_notes-in-Block+in_ok-require-in-Block, check_notes-in-Value+in_ok-check_value-in-Value}
use Rattle.jser_value.specs.declared.tree.Desc.{the_lemmas}
use Rattle.jser_value.proofs.CheckLemmas.{only_section, more_sections, as_many_sections, object_judged, sections_layer, sections_room, values_room}
use Rattle.jser_value.proofs.NotesLemmas.{judged_wrong, notes_failed, notes_next, notes_room, notes_spent}
use Rattle.jser_grammar.specs.Trees.{block, reset, content}
use Rattle.jser_value.specs.View.{view_value, view_sections}
use Rattle.jser_value.specs.declared.tree.Section.{the_lemmas as section_lemmas}
use Rattle.jser_value.specs.View.{view_field, view_prim, view_values, view_section, view_contents, view_class_place, view_desc}

pub check_desc-begin_plain-requires : goal.check_desc-begin_plain-requires
check_desc-begin_plain-requires t c =
    record {
      room = plain_room_fields c.args.table.now.entries c.in-Plain.name.items c.in-Plain.suid c.in-Plain.flags (map view_field c.deref-in-Plain.result.now) (view_contents c.in-Plain.notes.items)
          (view_class_place c.in-Plain.parent) (view_desc c.args.desc.now)
          (search (rules, the_lemmas)) (search rules);
    }

pub check_desc-returns-in_ok-end_plain-in-Plain-clause-judged : goal.check_desc-returns-in_ok-end_plain-in-Plain-clause-judged
check_desc-returns-in_ok-end_plain-in-Plain-clause-judged t c =
    plain_judged c.args.table.now.entries c.begin_plain.new.table.entries c.check_notes.new.table.entries c.check_superclass.new.table.entries c.end_plain.new.table.entries c.in_ok-number-in-Plain.number c.in_ok-above-in-Plain.above
    c.in-Plain.name.items c.in-Plain.suid c.in-Plain.flags (map view_field c.in-Plain.fields.items) (view_contents c.in-Plain.notes.items)
    (view_class_place c.in-Plain.parent) (view_desc c.args.desc.now)
    (search rules) (search rules) (search rules) (search rules) (search rules) (search rules) (search rules) (search rules) (search rules) (search (rules, the_lemmas))

pub check_desc-returns-in_ok-end_plain-in-Plain-clause-class : goal.check_desc-returns-in_ok-end_plain-in-Plain-clause-class
check_desc-returns-in_ok-end_plain-in-Plain-clause-class t c =
    class_plain c.args.table.now.entries (add c.args.table.now.entries pending_entry) c.begin_plain.new.table.entries c.check_notes.new.table.entries c.check_superclass.new.table.entries c.end_plain.new.table.entries c.in_ok-number-in-Plain.number c.in_ok-above-in-Plain.above
    (plain_layer c.in-Plain.name.items c.in-Plain.flags (map view_field c.in-Plain.fields.items)) c.in-Plain.name.items c.in-Plain.suid c.in-Plain.flags (map view_field c.in-Plain.fields.items) (view_contents c.in-Plain.notes.items)
    (view_class_place c.in-Plain.parent) (view_desc c.args.desc.now)
    (search rules) refl (search rules) (search rules) (search rules) (search rules) refl (search rules) (search (rules, the_lemmas))

pub check_desc-returns-in_ok-end_plain-in-Plain-clause-spent : goal.check_desc-returns-in_ok-end_plain-in-Plain-clause-spent
check_desc-returns-in_ok-end_plain-in-Plain-clause-spent t c =
    plain_spent c.args.table.now.entries c.begin_plain.new.table.entries c.check_notes.new.table.entries c.check_superclass.new.table.entries c.end_plain.new.table.entries c.in-Plain.name.items c.in-Plain.suid c.in-Plain.flags (map view_field c.in-Plain.fields.items) (view_contents c.in-Plain.notes.items)
    (view_class_place c.in-Plain.parent) (view_desc c.args.desc.now)
    (search (rules, the_lemmas)) (search rules) (search rules) (search rules) (search rules)

pub check_desc-returns-in_ok-above-in-Proxy-clause-judged : goal.check_desc-returns-in_ok-above-in-Proxy-clause-judged
check_desc-returns-in_ok-above-in-Proxy-clause-judged t c =
    proxy_judged c.args.table.now.entries c.check_notes-in-Proxy.new.table.entries c.check_superclass-in-Proxy.new.table.entries c.close.new.self.entries c.in_ok-number-in-Proxy.number c.in_ok-above-in-Proxy.above c.proxy_layer.result
    (map (λ name. name.items) c.in-Proxy.interfaces.items) (view_contents c.in-Proxy.notes.items)
    (view_class_place c.in-Proxy.parent) (view_desc c.args.desc.now)
    (search rules) (search rules) (search rules) (search rules) (search rules) (search rules) (search rules) (search rules) (search rules) (search (rules, the_lemmas))

pub check_desc-returns-in_ok-above-in-Proxy-clause-class : goal.check_desc-returns-in_ok-above-in-Proxy-clause-class
check_desc-returns-in_ok-above-in-Proxy-clause-class t c =
    class_proxy c.args.table.now.entries c.assign.new.table.entries c.check_notes-in-Proxy.new.table.entries c.check_superclass-in-Proxy.new.table.entries c.close.new.self.entries c.in_ok-number-in-Proxy.number c.in_ok-above-in-Proxy.above c.proxy_layer.result
    (map (λ name. name.items) c.in-Proxy.interfaces.items) (view_contents c.in-Proxy.notes.items)
    (view_class_place c.in-Proxy.parent) (view_desc c.args.desc.now)
    (search rules) (search rules) (search rules) (search rules) (search rules) (search rules) (search rules) (search (rules, the_lemmas))

pub check_desc-returns-in_ok-above-in-Proxy-clause-spent : goal.check_desc-returns-in_ok-above-in-Proxy-clause-spent
check_desc-returns-in_ok-above-in-Proxy-clause-spent t c =
    proxy_spent c.args.table.now.entries c.assign.new.table.entries c.check_notes-in-Proxy.new.table.entries c.check_superclass-in-Proxy.new.table.entries c.close.new.self.entries (map (λ name. name.items) c.in-Proxy.interfaces.items) (view_contents c.in-Proxy.notes.items)
    (view_class_place c.in-Proxy.parent) (view_desc c.args.desc.now)
    (search (rules, the_lemmas)) (search rules) (search rules) (search rules) (search rules)

pub check_sections-sections-preserved : goal.check_sections-sections-preserved
check_sections-sections-preserved t c = (
  sections_next c.sections.table.entries c.check_section.new.table.entries c.args.number c.sections.index
      (chain_at c.args.table.now.entries c.args.number) c.args.sections.now.items c.section-item.result _ _ c.sections.invariant.0
      (search rules) (search rules) (search rules) (search rules),
  sections_spent c.args.table.now.entries c.sections.table.entries c.check_section.new.table.entries c.args.sections.now.items c.sections.index
      c.section-item.result c.sections.invariant.1 (search rules) (search rules) (search rules),
)

pub check_alone-returns-in-Some-clause-judged : goal.check_alone-returns-in-Some-clause-judged
check_alone-returns-in-Some-clause-judged t c =
    judged_alone c.check_notes.result c.args.table.now.entries c.check_notes.new.table.entries (map view_prim c.args.section.now.prims.items)
    (view_values c.args.section.now.values.items) (view_contents c.in-Some.notes.items) (view_section c.args.section.now)
    (search (rules, section_lemmas)) (grind (arith, common_steps)) (search rules)

pub check_sections-returns-in_err-check_section-clause-judged : goal.check_sections-returns-in_err-check_section-clause-judged
check_sections-returns-in_err-check_section-clause-judged t c =
    judged_failed c.from_residual-in_err-check_section.result c.in_err-check_section.field-0.0 _ _ _ _ _ _
    (search rules) c.in_err-check_section.ensures.judged
    (λ fails. sections_failed c.sections.table.entries c.args.number c.sections.index
    (chain_at c.args.table.now.entries c.args.number) c.args.sections.now.items c.section-item.result _ _ c.sections.invariant.0
    (search rules) (search rules) fails)

pub check_section-returns-clause-judged : goal.check_section-returns-clause-judged
check_section-returns-clause-judged t c =
    judged_section c.check_held.result c.args.table.now.entries c.check_held.new.table.entries (after_section c.args.table.now.entries (view_section c.args.section.now))
    (slice_get (chain_at c.args.table.now.entries c.args.number) c.args.index) (view_section c.args.section.now) (search rules) (search rules)

pub check_alone-check_notes-requires : goal.check_alone-check_notes-requires
check_alone-check_notes-requires t c = (search (rules, the_lemmas), search (rules, the_lemmas, length-append))

pub check_alone-returns-in-Some-clause-spent : goal.check_alone-returns-in-Some-clause-spent
check_alone-returns-in-Some-clause-spent t c = search (rules, the_lemmas, length-append)

pub check_desc-check_superclass-requires : goal.check_desc-check_superclass-requires
check_desc-check_superclass-requires t c = (search (rules, the_lemmas), search (rules, the_lemmas, length-append))

pub check_desc-returns-in_err-above-in-Plain-clause-judged : goal.check_desc-returns-in_err-above-in-Plain-clause-judged
check_desc-returns-in_err-above-in-Plain-clause-judged t c =
    judged_failed c.from_residual-in_err-above-in-Plain.result c.in_err-above-in-Plain.field-0.0 _ _ _ _ _ _ (search rules) c.in_err-above-in-Plain.ensures.judged
    (λ fails. plain_above_failed c.args.table.now.entries c.begin_plain.new.table.entries c.check_notes.new.table.entries c.in-Plain.name.items c.in-Plain.suid c.in-Plain.flags (map view_field c.in-Plain.fields.items) (view_contents c.in-Plain.notes.items)
    (view_class_place c.in-Plain.parent) (view_desc c.args.desc.now)
    (search rules) (search rules) (search (rules, the_lemmas)) fails)

pub check_desc-end_plain-requires-clause-pending : goal.check_desc-end_plain-requires-clause-pending
check_desc-end_plain-requires-clause-pending t c =
    plain_pending c.args.table.now.entries c.begin_plain.new.table.entries c.check_notes.new.table.entries c.check_superclass.new.table.entries c.in_ok-number-in-Plain.number (map view_field c.in-Plain.fields.items) (view_contents c.in-Plain.notes.items)
    (view_class_place c.in-Plain.parent) (search rules) (search rules) (search rules) (search rules)

pub check_desc-check_notes-requires-in-Proxy : goal.check_desc-check_notes-requires-in-Proxy
check_desc-check_notes-requires-in-Proxy t c = (search (rules, the_lemmas), search (rules, the_lemmas, length-append))

pub check_desc-check_superclass-requires-in-Proxy : goal.check_desc-check_superclass-requires-in-Proxy
check_desc-check_superclass-requires-in-Proxy t c = (search (rules, the_lemmas), search (rules, the_lemmas, length-append))

pub check_desc-close-requires-clause-pending : goal.check_desc-close-requires-clause-pending
check_desc-close-requires-clause-pending t c =
    proxy_pending c.args.table.now.entries c.check_notes-in-Proxy.new.table.entries c.check_superclass-in-Proxy.new.table.entries c.in_ok-number-in-Proxy.number (view_contents c.in-Proxy.notes.items) (view_class_place c.in-Proxy.parent) (search rules) (search rules) (search rules)

pub check_external-check_alone-requires : goal.check_external-check_alone-requires
check_external-check_alone-requires t c = grind (arith, common_steps)

pub check_external-returns-in-len1-clause-judged : goal.check_external-returns-in-len1-clause-judged
check_external-returns-in-len1-clause-judged t c = grind (arith, only_section, more_sections)

pub check_external-returns-in-len1-clause-spent : goal.check_external-returns-in-len1-clause-spent
check_external-returns-in-len1-clause-spent t c = grind (arith, common_steps)

pub check_external-returns-in_default-clause-judged : goal.check_external-returns-in_default-clause-judged
check_external-returns-in_default-clause-judged t c = grind (arith, common_steps)

pub check_external-returns-in_default-2-clause-judged : goal.check_external-returns-in_default-2-clause-judged
check_external-returns-in_default-2-clause-judged t c = grind (arith, only_section, more_sections)

pub check_held-check_values-requires : goal.check_held-check_values-requires
check_held-check_values-requires t c = (search (rules, the_lemmas), search (rules, the_lemmas, length-append))

pub check_held-check_notes-requires : goal.check_held-check_notes-requires
check_held-check_notes-requires t c = (search (rules, the_lemmas), search (rules, the_lemmas, length-append))

pub check_held-returns-in-None-clause-spent : goal.check_held-returns-in-None-clause-spent
check_held-returns-in-None-clause-spent t c = search (rules, the_lemmas, length-append)

pub check_held-returns-in-Some-clause-spent : goal.check_held-returns-in-Some-clause-spent
check_held-returns-in-Some-clause-spent t c = search (rules, the_lemmas, length-append)

pub check_notes-returns-in_err-require-in-Block-clause-judged : goal.check_notes-returns-in_err-require-in-Block-clause-judged
check_notes-returns-in_err-require-in-Block-clause-judged t c =
    judged_wrong c.from_residual.result _ _ _ (search rules) (notes_failed c.notes.table.entries _ c.notes.content-index c.args.notes.now c.content-item.result (block c.in-Block.long c.in-Block.bytes.items) _ c.notes.invariant.0 (search rules) (search rules) (search (rules, the_lemmas)) (search rules))

pub check_notes-returns-in-Reset-clause-judged : goal.check_notes-returns-in-Reset-clause-judged
check_notes-returns-in-Reset-clause-judged t c = notes_failed c.notes.table.entries _ c.notes.content-index c.args.notes.now c.content-item.result reset _ c.notes.invariant.0 (search rules) (search rules) (search (rules, the_lemmas)) refl

pub check_notes-check_value-requires : goal.check_notes-check_value-requires
check_notes-check_value-requires t c =
    (search (rules, the_lemmas), notes_room c.args.table.now.entries c.notes.table.entries c.notes.content-index c.args.notes.now c.content-item.result (content (view_value c.in-Value.value)) c.requires.room c.notes.invariant.1 (search rules) (search rules) (search (rules, the_lemmas)))

pub check_notes-returns-in_err-check_value-in-Value-clause-judged : goal.check_notes-returns-in_err-check_value-in-Value-clause-judged
check_notes-returns-in_err-check_value-in-Value-clause-judged t c =
    judged_failed c.from_residual-in_err-check_value-in-Value.result c.in_err-check_value-in-Value.field-0.0 _ _ _ _ _ _ (search rules) c.in_err-check_value-in-Value.ensures.judged
    (λ fails. notes_failed c.notes.table.entries _ c.notes.content-index c.args.notes.now c.content-item.result (content (view_value c.in-Value.value)) _ c.notes.invariant.0 (search rules) (search rules) (search (rules, the_lemmas)) fails)

pub check_notes-notes-preserved : goal.check_notes-notes-preserved
check_notes-notes-preserved t c = elim c.match-content.branch [
  | check_notes-in-Block+in_ok-require-in-Block w ↦ (
    notes_next c.notes.table.entries c.match-content.table.entries _ c.notes.content-index c.args.notes.now c.content-item.result (block w.in-Block.long w.in-Block.bytes.items) _ c.notes.invariant.0 (search rules) (search rules) (search (rules, the_lemmas)) (search rules) (search rules),
    notes_spent c.args.table.now.entries c.notes.table.entries c.match-content.table.entries c.notes.content-index c.args.notes.now c.content-item.result (block w.in-Block.long w.in-Block.bytes.items) c.notes.invariant.1 (search rules) (search rules) (search (rules, the_lemmas)) (search rules),
  )
  | check_notes-in-Value+in_ok-check_value-in-Value w ↦ (
    notes_next c.notes.table.entries c.match-content.table.entries _ c.notes.content-index c.args.notes.now c.content-item.result (content (view_value w.in-Value.value)) _ c.notes.invariant.0 (search rules) (search rules) (search (rules, the_lemmas)) (search rules) (search rules),
    notes_spent c.args.table.now.entries c.notes.table.entries c.match-content.table.entries c.notes.content-index c.args.notes.now c.content-item.result (content (view_value w.in-Value.value)) c.notes.invariant.1 (search rules) (search rules) (search (rules, the_lemmas)) (search rules),
  )
]

pub check_notes-returns-clause-judged : goal.check_notes-returns-clause-judged
check_notes-returns-clause-judged t c = grind (arith, common_steps)

pub check_object-check_sections-requires : goal.check_object-check_sections-requires
check_object-check_sections-requires t c =
    (search (rules, the_lemmas), ((class_behind_add c.args.table.now.entries c.begin_object.new.table.entries other_entry c.args.number (chain_at c.args.table.now.entries c.args.number) (search rules) (record { closed = c.requires.closed; chain_is = refl })).closed, search (rules, the_lemmas, length-append)))

pub check_object-returns-else-branch-clause-judged : goal.check_object-returns-else-branch-clause-judged
check_object-returns-else-branch-clause-judged t c =
    object_judged c.check_sections.result c.args.table.now.entries c.begin_object.new.table.entries c.check_sections.new.table.entries c.args.number (view_sections c.args.sections.now.items) (search rules) (search rules) (search rules)
    (class_behind_add c.args.table.now.entries c.begin_object.new.table.entries other_entry c.args.number (chain_at c.args.table.now.entries c.args.number) (search rules) (record { closed = c.requires.closed; chain_is = refl })) c.check_sections.ensures.judged

pub check_section-returns-in_err-require-clause-judged : goal.check_section-returns-in_err-require-clause-judged
check_section-returns-in_err-require-clause-judged t c = grind (arith, common_steps)

pub check_sections-returns-in_err-require-clause-judged : goal.check_sections-returns-in_err-require-clause-judged
check_sections-returns-in_err-require-clause-judged t c = grind (arith, as_many_sections)

pub check_sections-check_section-requires : goal.check_sections-check_section-requires
check_sections-check_section-requires t c =
    (search (rules, the_lemmas), (c.sections.invariant.0.class.closed, (sections_layer c.sections.table.entries c.args.number c.sections.index (chain_at c.args.table.now.entries c.args.number) _ _ _ _ _ c.sections.invariant.0 (search rules), sections_room c.args.table.now.entries c.sections.table.entries c.args.sections.now.items c.sections.index c.section-item.result c.requires.room c.sections.invariant.1 (search rules) (search rules))))

pub check_sections-returns-clause-judged : goal.check_sections-returns-clause-judged
check_sections-returns-clause-judged t c = grind (arith, common_steps)

pub check_value-check_class-requires-in-Array : goal.check_value-check_class-requires-in-Array
check_value-check_class-requires-in-Array t c = (search (rules, the_lemmas), search (rules, the_lemmas, length-append))

pub check_value-check_array-requires : goal.check_value-check_array-requires
check_value-check_array-requires t c = (search (rules, the_lemmas), (search (rules, the_lemmas), search (rules, the_lemmas, length-append)))

pub check_value-check_class-requires-in-EnumConst : goal.check_value-check_class-requires-in-EnumConst
check_value-check_class-requires-in-EnumConst t c = (search (rules, the_lemmas), search (rules, the_lemmas, length-append))

pub check_value-check_enum_constant-requires-clause-room : goal.check_value-check_enum_constant-requires-clause-room
check_value-check_enum_constant-requires-clause-room t c = search (rules, the_lemmas, length-append)

pub check_value-check_class-requires-in-Object : goal.check_value-check_class-requires-in-Object
check_value-check_class-requires-in-Object t c = (search (rules, the_lemmas), search (rules, the_lemmas, length-append))

pub check_value-check_object-requires : goal.check_value-check_object-requires
check_value-check_object-requires t c = (search (rules, the_lemmas), (search (rules, the_lemmas), search (rules, the_lemmas, length-append)))

pub check_value-returns-in_ok-check_array-in-Array-clause-spent : goal.check_value-returns-in_ok-check_array-in-Array-clause-spent
check_value-returns-in_ok-check_array-in-Array-clause-spent t c = search (rules, the_lemmas, length-append)

pub check_value-returns-in_ok-check_enum_constant-in-EnumConst-clause-spent : goal.check_value-returns-in_ok-check_enum_constant-in-EnumConst-clause-spent
check_value-returns-in_ok-check_enum_constant-in-EnumConst-clause-spent t c = search (rules, the_lemmas, length-append)

pub check_value-returns-in_ok-check_object-in-Object-clause-spent : goal.check_value-returns-in_ok-check_object-in-Object-clause-spent
check_value-returns-in_ok-check_object-in-Object-clause-spent t c = search (rules, the_lemmas, length-append)

pub check_values-check_value-requires : goal.check_values-check_value-requires
check_values-check_value-requires t c =
    (search (rules, the_lemmas), values_room c.args.table.now.entries c.values.table.entries c.args.values.now c.values.value-index c.value-item.result c.requires.room c.values.invariant.1 (search rules) (search rules))

pub check_values-returns-in_err-check_value-clause-judged : goal.check_values-returns-in_err-check_value-clause-judged
check_values-returns-in_err-check_value-clause-judged t c = grind (arith, common_steps)

pub check_values-values-preserved : goal.check_values-values-preserved
check_values-values-preserved t c = grind (arith, common_steps)

pub check_values-returns-clause-judged : goal.check_values-returns-clause-judged
check_values-returns-clause-judged t c = grind (arith, common_steps)
