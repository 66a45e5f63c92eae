-- The fields of the descriptor that is going by, the last one first.
use Rattle.std.proofs.Common.{◌≡◌, List, [], ◌∷◌, ◌++◌, reverse, refl, ap, sym, ◌∙◌, append-nil}
use Rattle.std.proofs.lemmas.List.{map-append, reverse-append}
use Rattle.jser_shown.specs.Known.{NamedField as ToldField}
use Rattle.jser_shown.specs.Cues.{fields_done}
use Rattle.jser_printer.specs.declared.layer.NamedField.{NamedField}
use Rattle.jser_printer.specs.Layers.{view_field, view_fields}
use Rattle.jser_printer.specs.Phases.{done_of}

pub done_push : (old new : List NamedField) (f : NamedField) → new ≡ old ++ f ∷ [] → done_of new ≡ view_field f ∷ done_of old
done_push old new f is =
    ap done_of is ∙ ap reverse (map-append view_field old (f ∷ [])) ∙ reverse-append (view_fields old) (view_field f ∷ [])

-- in their order again

done_append : (first others fields : List ToldField) → fields_done (first ++ others) fields ≡ fields_done others (fields_done first fields)
done_append [] others fields = refl
done_append (f ∷ first) others fields = done_append first others (f ∷ fields)

in_order : (fields others : List ToldField) → fields_done (reverse fields) others ≡ fields ++ others
in_order [] others = refl
in_order (f ∷ fields) others =
    ap (λ fs. fields_done fs others) (reverse-append (f ∷ []) fields)
    ∙ done_append (reverse fields) (f ∷ []) others
    ∙ ap (λ fs. f ∷ fs) (in_order fields others)

pub done_in_order : (fields : List NamedField) → view_fields fields ≡ fields_done (done_of fields) []
done_in_order fields = sym (in_order (view_fields fields) [] ∙ append-nil (view_fields fields))
