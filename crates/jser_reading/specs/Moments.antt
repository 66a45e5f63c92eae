-- A moment in the reading of a stream: the table of handles, and the number of places whose tags went before.
-- Each part of a tree takes one moment to the next.
use Rattle.std.specs.Prelude.{ℕ, suc, List, [], length, Option}
use Rattle.jser_table.specs.declared.layer.Layer.{Layer}
use Rattle.jser_table.specs.Entries.{TableEntry}
use Rattle.jser_grammar.specs.Trees.{TextPlaceTree, FieldTree, ValueTree, null, back, string, descriptor, class_object, array, enum_constant, object, DescTree, plain, proxy, ClassPlaceTree, no_class, back_class, new_class, BodyTree, raw_body, value_body, ValueTrees, no_values, value_and, section, SectionTrees, no_sections, section_and, NotesTree, no_notes, annotation, block, reset, content, ContentTrees, no_contents, content_and}
use Rattle.jser_grammar.specs.TableAfter.{Entries, add, close, after_type, after_text_place, after_fields, after_value, after_desc, after_class, after_body, after_values, after_sections, after_notes, after_contents}

pub record Moment : Type 0 where
  pub table : Entries
  pub places : ℕ

abbrev pub beginning : Moment
beginning = record { table = []; places = 0 }

-- the tag of a place went by
abbrev pub tick : Moment → Moment
tick m = record { table = m.table; places = suc m.places }

-- a handle is assigned
abbrev pub assign : Moment → TableEntry → Moment
assign m entry = record { table = add m.table entry; places = m.places }

-- a descriptor gets its chain
abbrev pub closing : Moment → ℕ → List Layer → Moment
closing m number chain = record { table = close m.table number chain; places = m.places }

-- a reset
abbrev pub emptied : Moment → Moment
emptied m = record { table = []; places = m.places }

-- the number that the next handle gets
abbrev pub next_number : Moment → ℕ
next_number m = length m.table

-- how many places went by after a tree, where this many went by before it
abbrev mutual
  pub places_value : ℕ → ValueTree → ℕ
  places_value k null = suc k
  places_value k (back n) = suc k
  places_value k (string t) = suc k
  places_value k (descriptor d) = places_desc (suc k) d
  places_value k (class_object c) = places_class (suc k) c
  places_value k (array c b) = places_body (places_class (suc k) c) b
  places_value k (enum_constant c t) = places_class (suc k) c
  places_value k (object c ss) = places_sections (places_class (suc k) c) ss

  pub places_desc : ℕ → DescTree → ℕ
  places_desc k (plain name suid flags fields notes parent) = places_class (suc (places_contents k notes)) parent
  places_desc k (proxy interfaces notes parent) = places_class (suc (places_contents k notes)) parent

  pub places_class : ℕ → ClassPlaceTree → ℕ
  places_class k no_class = k
  places_class k (back_class n) = k
  places_class k (new_class d) = places_desc k d

  pub places_body : ℕ → BodyTree → ℕ
  places_body k (raw_body ps) = k
  places_body k (value_body vs) = places_values k vs

  pub places_values : ℕ → ValueTrees → ℕ
  places_values k no_values = k
  places_values k (value_and v vs) = places_values (places_value k v) vs

  pub places_sections : ℕ → SectionTrees → ℕ
  places_sections k no_sections = k
  places_sections k (section_and (section ps vs n) ss) = places_sections (places_notes (places_values k vs) n) ss

  pub places_notes : ℕ → NotesTree → ℕ
  places_notes k no_notes = k
  places_notes k (annotation cs) = places_contents k cs

  pub places_contents : ℕ → ContentTrees → ℕ
  places_contents k no_contents = k
  places_contents k (content_and (block long bytes) cs) = places_contents k cs
  places_contents k (content_and reset cs) = places_contents k cs
  places_contents k (content_and (content v) cs) = places_contents (places_value k v) cs

-- the moment after a part

abbrev pub past_text : Moment → TextPlaceTree → Moment
past_text m t = record { table = after_text_place m.table t; places = m.places }

abbrev pub past_type : Moment → Option TextPlaceTree → Moment
past_type m t = record { table = after_type m.table t; places = m.places }

abbrev pub past_fields : Moment → List FieldTree → Moment
past_fields m fields = record { table = after_fields m.table fields; places = m.places }

abbrev pub past_value : Moment → ValueTree → Moment
past_value m v = record { table = after_value m.table v; places = places_value m.places v }

abbrev pub past_desc : Moment → DescTree → Moment
past_desc m d = record { table = after_desc m.table d; places = places_desc m.places d }

abbrev pub past_class : Moment → ClassPlaceTree → Moment
past_class m c = record { table = after_class m.table c; places = places_class m.places c }

abbrev pub past_body : Moment → BodyTree → Moment
past_body m b = record { table = after_body m.table b; places = places_body m.places b }

abbrev pub past_values : Moment → ValueTrees → Moment
past_values m vs = record { table = after_values m.table vs; places = places_values m.places vs }

abbrev pub past_sections : Moment → SectionTrees → Moment
past_sections m ss = record { table = after_sections m.table ss; places = places_sections m.places ss }

abbrev pub past_notes : Moment → NotesTree → Moment
past_notes m n = record { table = after_notes m.table n; places = places_notes m.places n }

abbrev pub past_contents : Moment → ContentTrees → Moment
past_contents m cs = record { table = after_contents m.table cs; places = places_contents m.places cs }
