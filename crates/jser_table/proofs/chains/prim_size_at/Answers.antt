use Rattle.std.proofs.Common.{refl}
use Rattle.jser_table.proofs.FiledLemmas.{layer_of_class}
use Rattle.jser_table.proofs.chains.prim_size_at.Goals as goal

pub leading_size-requires-clause-leading : goal.leading_size-requires-clause-leading
leading_size-requires-clause-leading c =
    let same = layer_of_class _ _ _ _ _ c.filed_at-filed.ensures.told refl c.descriptor_at.ensures in
    rw (c.codes-codes.ensures.codes, same) c.filed_at-filed.ensures.told.leading

pub prim_size_in-requires : goal.prim_size_in-requires
prim_size_in-requires c =
    let same = layer_of_class _ _ _ _ _ c.filed_at-filed.ensures.told refl c.descriptor_at.ensures in
    rw (c.codes-codes.ensures.codes, same) c.requires.pos

pub returns-then-pos-filed : goal.returns-then-pos-filed
returns-then-pos-filed c =
    let same = layer_of_class _ _ _ _ _ c.filed_at-filed.ensures.told refl c.descriptor_at.ensures in
    rw (← same, ← c.codes-codes.ensures.codes) c.leading_size.ensures

pub returns-else-pos-filed : goal.returns-else-pos-filed
returns-else-pos-filed c =
    let same = layer_of_class _ _ _ _ _ c.filed_at-filed.ensures.told refl c.descriptor_at.ensures in
    rw (← same, ← c.codes-codes.ensures.codes) c.prim_size_in.ensures
