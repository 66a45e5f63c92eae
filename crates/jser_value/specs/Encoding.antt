-- Parts of the layouts that the encoder writes by themselves, as `Spelling` joins them.
use Rattle.std.specs.Prelude.{ℕ, List, ◌∷◌, ◌++◌, length}
use Rattle.jser_prim.specs.Bytes.{big_bytes}
use Rattle.jser_grammar.specs.Trees.{FieldTree, SectionTree, section}
use Rattle.jser_grammar.specs.Spelling.{utf, type_spelling, fields_spelling, interfaces_spelling, prims_spelling, values_spelling, notes_spelling}
use Rattle.jser_grammar.specs.Wire.{TC_CLASSDESC, TC_PROXYCLASSDESC}

abbrev pub field_spelling : FieldTree → List ℕ
field_spelling f = f.code ∷ (utf f.name ++ type_spelling f.text)

abbrev pub section_spelling : SectionTree → List ℕ
section_spelling (section prims values notes) = prims_spelling prims ++ (values_spelling values ++ notes_spelling notes)

-- a plain descriptor as far as its fields
abbrev pub plain_head : List ℕ → ℕ → ℕ → List FieldTree → List ℕ
plain_head name suid flags fields = TC_CLASSDESC ∷ (utf name ++ (big_bytes 8 suid ++ (flags ∷ (big_bytes 2 (length fields) ++ fields_spelling fields))))

-- a proxy descriptor as far as its interfaces
abbrev pub proxy_head : List (List ℕ) → List ℕ
proxy_head interfaces = TC_PROXYCLASSDESC ∷ (big_bytes 4 (length interfaces) ++ interfaces_spelling interfaces)
