use Rattle.jser_prim.proofs.OutgoingLemmas.{puts_none}
use Rattle.std.proofs.Common.{arith, ap, get_or, map, length, rules, ◌∙◌}
use Rattle.jser_value.specs.Encoding.{section_spelling}
use Rattle.jser_grammar.specs.Spelling.{value_spelling, content_spelling, class_spelling, body_spelling, sections_spelling, text_place_spelling}
use Rattle.jser_value.specs.View.{view_value, view_values, view_content, view_contents, view_section, view_sections, view_class_place, view_body, view_text_place, view_field, view_prim}
use Rattle.jser_prim.proofs.OutgoingLemmas.{puts_tagged}
use Rattle.jser_value.proofs.EncodeLemmas.{puts_annotation, puts_next, puts_all, values_flat, sections_flat, contents_flat, puts_classed, puts_plain, puts_proxy, puts_raw_body, puts_value_body, puts_section, puts_bare_section, puts_block}
use Rattle.jser_value.proofs.ViewLemmas.{view_class_object, view_array, view_enum_constant, view_object, view_raw_body, view_value_body, view_block, view_plain, view_proxy, view_section_of, no_notes_of}
use Rattle.jser_value.specs.declared.tree.Section.{out-Section}
use Rattle.jser_value.proofs.encoder.+encode.Goals as goal

pub put_values-loop-value-preserved : goal.put_values-loop-value-preserved
put_values-loop-value-preserved g t c =
    puts_next (λ value. value_spelling (view_value value)) _ _ _ _ _ _ c.args.values.now.items c.loop-value.value-index _ (omega (arith, c.loop-value-test.true, ap length c.deref-value-items.ensures.value))
    (c.value-item.is ∙ ap (λ xs. get_or xs c.loop-value.value-index c.value-item.result) c.deref-value-items.ensures.value) c.loop-value.invariant c.put_value.ensures

pub put_values-returns : goal.put_values-returns
put_values-returns g t c =
    puts_all (λ value. value_spelling (view_value value)) _ _ _ _ c.args.values.now.items c.loop-value.value-index _ (omega (arith, c.loop-value-test.false, ap length c.deref-value-items.ensures.value)) (values_flat c.args.values.now.items) c.loop-value.invariant

pub put_sections-loop-section-preserved : goal.put_sections-loop-section-preserved
put_sections-loop-section-preserved g t c =
    puts_next (λ section. section_spelling (view_section section)) _ _ _ _ _ _ c.args.sections.now.items c.loop-section.section-index _ (omega (arith, c.loop-section-test.true, ap length c.deref-section-items.ensures.value))
    (c.section-item.is ∙ ap (λ xs. get_or xs c.loop-section.section-index c.section-item.result) c.deref-section-items.ensures.value) c.loop-section.invariant c.put_section.ensures

pub put_sections-returns : goal.put_sections-returns
put_sections-returns g t c =
    puts_all (λ section. section_spelling (view_section section)) _ _ _ _ c.args.sections.now.items c.loop-section.section-index _ (omega (arith, c.loop-section-test.false, ap length c.deref-section-items.ensures.value)) (sections_flat c.args.sections.now.items) c.loop-section.invariant

pub put_contents-loop-content-preserved : goal.put_contents-loop-content-preserved
put_contents-loop-content-preserved g t c =
    puts_next (λ content. content_spelling (view_content content)) _ _ _ _ _ _ c.args.contents.now.items c.loop-content.content-index _ (omega (arith, c.loop-content-test.true, ap length c.deref-content-items.ensures.value))
    (c.content-item.is ∙ ap (λ xs. get_or xs c.loop-content.content-index c.content-item.result) c.deref-content-items.ensures.value) c.loop-content.invariant c.put_content.ensures

pub put_contents-returns : goal.put_contents-returns
put_contents-returns g t c =
    puts_all (λ content. content_spelling (view_content content)) _ _ _ _ c.args.contents.now.items c.loop-content.content-index _ (omega (arith, c.loop-content-test.false, ap length c.deref-content-items.ensures.value)) (contents_flat c.args.contents.now.items) c.loop-content.invariant

pub put_body-returns-in-Prims : goal.put_body-returns-in-Prims
put_body-returns-in-Prims g t c =
    rw (c.in-Prims.is, view_raw_body c.in-Prims.prims) (puts_raw_body _ _ _ _ _ _ c.in-Prims.prims.items c.len.result (omega (arith, c.len.ensures, c.in-Prims.prims.ok.0)) c.put_length.ensures
    (rw c.deref.ensures.value at c.put_prims.ensures))

pub put_body-returns-in-Values : goal.put_body-returns-in-Values
put_body-returns-in-Values g t c =
    rw (c.in-Values.is, view_value_body c.in-Values.values) (puts_value_body _ _ _ _ _ _ c.in-Values.values.items c.len-in-Values.result (omega (arith, c.len-in-Values.ensures, c.in-Values.values.ok.0)) c.put_length-in-Values.ensures
    c.put_values.ensures)

pub put_content-returns-in-Block : goal.put_content-returns-in-Block
put_content-returns-in-Block g t c =
    rw (c.in-Block.is, view_block c.in-Block.long c.in-Block.bytes) (puts_block _ _ _ _ _ _ c.in-Block.long c.in-Block.bytes.items c.len.result (omega (arith, c.len.ensures, c.in-Block.bytes.ok.0)) c.put_block_head.ensures
    (rw c.deref.ensures.value at c.put.ensures))

pub put_desc-returns-in-Plain : goal.put_desc-returns-in-Plain
put_desc-returns-in-Plain g t c =
    rw (c.in-Plain.is, view_plain c.in-Plain.name c.in-Plain.suid c.in-Plain.flags c.in-Plain.fields c.in-Plain.notes c.in-Plain.parent)
    (puts_plain _ _ _ _ _ _ _ _ c.in-Plain.name.items c.in-Plain.suid c.in-Plain.flags (map view_field c.in-Plain.fields.items) (view_contents c.in-Plain.notes.items) (view_class_place c.in-Plain.parent)
    (rw (c.deref.ensures.value, c.deref-in-Plain.ensures.value) at c.put_plain_head.ensures) c.put_annotation.ensures c.put_class.ensures)

pub put_desc-returns-in-Proxy : goal.put_desc-returns-in-Proxy
put_desc-returns-in-Proxy g t c =
    rw (c.in-Proxy.is, view_proxy c.in-Proxy.interfaces c.in-Proxy.notes c.in-Proxy.parent)
    (puts_proxy _ _ _ _ _ _ _ _ (map (λ name. name.items) c.in-Proxy.interfaces.items) (view_contents c.in-Proxy.notes.items) (view_class_place c.in-Proxy.parent)
    (rw c.deref-in-Proxy.ensures.value at c.put_proxy_head.ensures) c.put_annotation-in-Proxy.ensures c.put_class-in-Proxy.ensures)

pub put_section-returns-in-Some : goal.put_section-returns-in-Some
put_section-returns-in-Some g t c =
    rw (view_section_of c.args.section.now, c.in-Some.is)
    (puts_section _ _ _ _ _ _ _ _ (map view_prim (out-Section c.args.section.now).prims.items) (view_values (out-Section c.args.section.now).values.items) (view_contents c.in-Some.notes.items)
    (rw c.deref.ensures.value at c.put_prims.ensures) c.put_values.ensures c.put_annotation.ensures)

pub put_section-returns-in_default : goal.put_section-returns-in_default
put_section-returns-in_default g t c =
    rw (view_section_of c.args.section.now, no_notes_of (out-Section c.args.section.now).notes c.in_default.not-Some)
    (puts_bare_section _ _ _ _ _ _ (map view_prim (out-Section c.args.section.now).prims.items) (view_values (out-Section c.args.section.now).values.items)
    (rw c.deref.ensures.value at c.put_prims.ensures) c.put_values.ensures)

pub put_value-returns-in-ClassObject : goal.put_value-returns-in-ClassObject
put_value-returns-in-ClassObject g t c =
    rw (c.in-ClassObject.is, view_class_object c.in-ClassObject.descr) (puts_tagged _ _ _ _ _ _ 0x76 (class_spelling (view_class_place c.in-ClassObject.descr)) c.put_u8-in-ClassObject.ensures c.put_class.ensures)

pub put_value-returns-in-Array : goal.put_value-returns-in-Array
put_value-returns-in-Array g t c =
    rw (c.in-Array.is, view_array c.in-Array.descr c.in-Array.body)
    (puts_classed _ _ _ _ _ _ _ _ 0x75 (class_spelling (view_class_place c.in-Array.descr)) (body_spelling (view_body c.in-Array.body)) c.put_u8-in-Array.ensures c.put_class-in-Array.ensures c.put_body.ensures)

pub put_value-returns-in-EnumConst : goal.put_value-returns-in-EnumConst
put_value-returns-in-EnumConst g t c =
    rw (c.in-EnumConst.is, view_enum_constant c.in-EnumConst.descr c.in-EnumConst.name)
    (puts_classed _ _ _ _ _ _ _ _ 0x7E (class_spelling (view_class_place c.in-EnumConst.descr)) (text_place_spelling (view_text_place c.in-EnumConst.name)) c.put_u8-in-EnumConst.ensures
    c.put_class-in-EnumConst.ensures c.put_text_place.ensures)

pub put_value-returns-in-Object : goal.put_value-returns-in-Object
put_value-returns-in-Object g t c =
    rw (c.in-Object.is, view_object c.in-Object.descr c.in-Object.sections)
    (puts_classed _ _ _ _ _ _ _ _ 0x73 (class_spelling (view_class_place c.in-Object.descr)) (sections_spelling (view_sections c.in-Object.sections.items)) c.put_u8-in-Object.ensures
    c.put_class-in-Object.ensures c.put_sections.ensures)

pub put_contents-loop-content-init : goal.put_contents-loop-content-init
put_contents-loop-content-init g t c = search (rules, puts_none)

pub put_sections-loop-section-init : goal.put_sections-loop-section-init
put_sections-loop-section-init g t c = search (rules, puts_none)

pub put_values-loop-value-init : goal.put_values-loop-value-init
put_values-loop-value-init g t c = search (rules, puts_none)

pub put_annotation-returns : goal.put_annotation-returns
put_annotation-returns g t c = search (rules, puts_annotation)
