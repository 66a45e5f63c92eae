-- Tables of modules: reading a text line by line.
use denote.Bor.{Bor}
use Rattle.std.proofs.Common.{◌≡◌, ℕ, ◌+◌, ◌<◌, ◌≤◌, ◌==◌, List, [], ◌∷◌, ◌++◌, length, map, take, drop, get_or, slice_get, Option, Some, None, option_and_then, option_map, cond, Bool, true, false, add-one, refl, ap, sym, ◌∙◌, subst, inl, inr, arith}
use Rattle.std.specs.Prelude.{IfSome}
use Rattle.std.proofs.lemmas.Bool.{cases_lt}
use Rattle.std.proofs.lemmas.Option.{slice_get-get_or}
use Rattle.std.proofs.lemmas.List.{length-map, map_push, length-drop, drop_more, take_more, take_all}
use Rattle.jser_filter.specs.declared.fault.ModulesFault.{ModulesFault}
use Rattle.jser_filter.specs.declared.fault.ModulesCause.TheVariants as cause
use Rattle.std.proofs.lemmas.List.Splits.{length-slice_split}
use Rattle.jser_filter.specs.Cuts.{split_at_each, split_with}
use Rattle.jser_filter.specs.Tables.{Entry, ModuleTable, module_of, entry_of, Line, empty_line, bad_line, entry_line, read_line, lines_of, table_of, fault_in, line_fault, view_entry, IsLineCause, NoFaultBefore, IsFirstLineFault}
use Rattle.std.specs.Global.{Global}
use Rattle.std.specs.Map.{lookup}
use Rattle.std.specs.Prelude.{Vec}
use Rattle.std.proofs.lemmas.Cmp.{nat_list_eq_equiv}
use Rattle.indexmap.specs.IndexMap.{insert_entry}
use Rattle.std.specs.Str.{bytes_eq}
use Rattle.jser_filter.proofs.FilterLemmas.{left_length}

-- the lines of the text that is left, if any is
abbrev pub left_lines : Option (Bor (List ℕ)) → List Line
left_lines None = []
left_lines (Some text) = lines_of text.now

-- the first `number` lines have been read, and made these entries
pub record HasRead (units : List ℕ) (entries : ModuleTable) (rest : Option (Bor (List ℕ))) (number : ℕ) : Type 0 where
  pub left : drop number (lines_of units) ≡ left_lines rest
  pub table : entries ≡ table_of (take number (lines_of units))
  pub sound : NoFaultBefore (lines_of units) number
  pub count : number + left_length rest ≤ length units + 1

left_after : (text : List ℕ) (part : Bor (List ℕ)) (rest : Option (Bor (List ℕ))) → split_at_each 0x0A text ≡ split_with 0x0A (part, rest) → lines_of text ≡ read_line part.now ∷ left_lines rest
left_after text part None is = ap (map read_line) is
left_after text part (Some rest) is = ap (map read_line) is

table_of-append : (front back : List Line) → table_of (front ++ back) ≡ table_of front ++ table_of back
table_of-append [] back = refl
table_of-append (empty_line ∷ front) back = table_of-append front back
table_of-append (bad_line ∷ front) back = table_of-append front back
table_of-append (entry_line entry ∷ front) back = ap (λ table. entry ∷ table) (table_of-append front back)

-- one more line
record IsNext (lines : List Line) (number : ℕ) (line : Line) (left : List Line) : Type 0 where
  inside : number < length lines
  here : slice_get lines number ≡ Some line
  behind : drop (number + 1) lines ≡ left
  upto : take (number + 1) lines ≡ take number lines ++ line ∷ []

next_line : (lines : List Line) (number : ℕ) (line : Line) (left : List Line) → drop number lines ≡ line ∷ left → IsNext lines number line left
next_line lines number line left is =
    let inside : number < length lines = omega (arith, ap length is, length-drop number lines) in
    let split = drop_more lines number line inside in
    let same : get_or lines number line ≡ line = cc in
    let behind : drop (number + 1) lines ≡ left = cc in
    record {
      inside = inside;
      here = slice_get-get_or lines number line inside ∙ ap Some same;
      behind = behind;
      upto = take_more lines number line inside ∙ ap (λ last. take number lines ++ last ∷ []) same;
    }

read_next : (units text : List ℕ) (number : ℕ) (part : Bor (List ℕ)) (rest : Option (Bor (List ℕ))) → drop number (lines_of units) ≡ lines_of text → split_at_each 0x0A text ≡ split_with 0x0A (part, rest) → IsNext (lines_of units) number (read_line part.now) (left_lines rest)
read_next units text number part rest left split = next_line (lines_of units) number (read_line part.now) (left_lines rest) (left ∙ left_after text part rest split)

fault_here : (lines : List Line) (number : ℕ) (line : Line) (table : ModuleTable) → slice_get lines number ≡ Some line → table ≡ table_of (take number lines) → line_fault lines number ≡ fault_in table line
fault_here lines number line table here is =
    ap (option_and_then (fault_in (table_of (take number lines)))) here ∙ ap (λ t. fault_in t line) (sym is)

sound_more : (lines : List Line) (number : ℕ) → NoFaultBefore lines number → line_fault lines number ≡ None → NoFaultBefore lines (number + 1)
sound_more lines number before here = λ earlier below.
    elim (cases_lt earlier number) [
      | inl less ↦ before earlier less
      | inr more ↦ let same : number ≡ earlier = omega arith in subst (λ n. line_fault lines n ≡ None) same here
    ]

pub line_read : (units : List ℕ) (old new : ModuleTable) (number : ℕ) (text part : Bor (List ℕ)) (rest : Option (Bor (List ℕ))) → HasRead units old (Some text) number → split_at_each 0x0A text.now ≡ split_with 0x0A (part, rest) → new ≡ old ++ table_of (read_line part.now ∷ []) → fault_in old (read_line part.now) ≡ None → left_length rest ≤ length text.now → HasRead units new rest (number + 1)
line_read units old new number text part rest read split added sound less =
    let next = read_next units text.now number part rest read.left split in
    record {
      left = next.behind;
      table = added ∙ ap (λ table. table ++ table_of (read_line part.now ∷ [])) read.table ∙ sym (table_of-append (take number (lines_of units)) (read_line part.now ∷ [])) ∙ sym (ap table_of next.upto);
      sound = sound_more (lines_of units) number read.sound (fault_here (lines_of units) number (read_line part.now) old next.here read.table ∙ sound);
      count = omega (arith, read.count);
    }

pub line_faulty : (units : List ℕ) (old : ModuleTable) (number : ℕ) (text part : Bor (List ℕ)) (rest : Option (Bor (List ℕ))) (fault : ModulesFault) → HasRead units old (Some text) number → split_at_each 0x0A text.now ≡ split_with 0x0A (part, rest) → fault.line ≡ number → IsLineCause (fault_in old (read_line part.now)) fault.cause → IsFirstLineFault (lines_of units) fault
line_faulty units old number text part rest fault read split line cause =
    let next = read_next units text.now number part rest read.left split in
    let here = fault_here (lines_of units) number (read_line part.now) old next.here read.table in
    record {
      inside = omega (arith, next.inside);
      here = rw (line, here) cause;
      before = rw line read.sound;
    }

-- at the end all lines have been read
pub all_read : (units : List ℕ) (entries : ModuleTable) (number : ℕ) → HasRead units entries None number → (entries ≡ table_of (lines_of units)) × NoFaultBefore (lines_of units) (length (lines_of units))
all_read units entries number read =
    let past : length (lines_of units) ≤ number = omega (arith, ap length read.left, length-drop number (lines_of units)) in
    (read.table ∙ ap table_of (take_all number (lines_of units) past), λ earlier below. read.sound earlier (omega arith))

pub left_less : (text : Bor (List ℕ)) (rest : Option (Bor (List ℕ))) → IfSome rest (λ r. length r.now < length text.now) → left_length rest ≤ length text.now
left_less text None less = omega arith
left_less text (Some rest) less = omega (arith, less)

-- where there is no memory for the text as a whole

some_lines : (text : List ℕ) → 0 < length (lines_of text)
some_lines text = omega (arith, length-map (split_at_each 0x0A text) read_line, length-slice_split (λ unit. unit == 0x0A) text)

pub fault_at_first : (fault : ModulesFault) → fault.line ≡ 0 → fault.cause ≡ cause.OutOfMemory → (text : List ℕ) → IsFirstLineFault (lines_of text) fault
fault_at_first fault line is text = record {
  inside = omega (arith, some_lines text);
  here = rw is tt;
  before = λ earlier below. absurd (omega arith);
}

-- finding a package

pub module_found : (name : List ℕ) (entries : List (Vec ℕ Global × Vec ℕ Global))
    → option_map (λ v. v.items) (lookup (λ key. bytes_eq name key.items) entries) ≡ module_of (map view_entry entries) name
module_found name [] = refl
module_found name (e ∷ es) =
    by (bytes_eq name e.0.items) (module_found name es)
    ∙ ap (λ b. cond b (Some e.1.items) (module_of (map view_entry es) name)) (nat_list_eq_equiv.symm name e.0.items)
  where
    by : (b : Bool) → option_map (λ v. v.items) (lookup (λ key. bytes_eq name key.items) es) ≡ module_of (map view_entry es) name
        → option_map (λ v. v.items) (cond b (Some e.1) (lookup (λ key. bytes_eq name key.items) es)) ≡ cond b (Some e.1.items) (module_of (map view_entry es) name)
    by true h = refl
    by false h = h

-- one more entry
pub entry_pushed : (name wanted : List ℕ) (key value : Vec ℕ Global) (old new : List (Vec ℕ Global × Vec ℕ Global)) (table : ModuleTable)
    → map view_entry old ≡ table → module_of table name ≡ None → key.items ≡ name → value.items ≡ wanted
    → new ≡ insert_entry (λ a b. bytes_eq a.items b.items) old key value → map view_entry new ≡ table ++ entry_of name wanted ∷ []
entry_pushed name wanted key value old new table same none is sets put =
    ap (map view_entry) put ∙ all old (ap (λ t. module_of t name) same ∙ none)
    ∙ ap (λ n. map view_entry old ++ entry_of n value.items ∷ []) is
    ∙ ap (λ m. map view_entry old ++ entry_of name m ∷ []) sets
    ∙ ap (λ t. t ++ entry_of name wanted ∷ []) same
  where
    all : (es : List (Vec ℕ Global × Vec ℕ Global)) → module_of (map view_entry es) name ≡ None
        → map view_entry (insert_entry (λ a b. bytes_eq a.items b.items) es key value) ≡ map view_entry es ++ entry_of key.items value.items ∷ []
    all [] e = refl
    all (x ∷ xs) e =
        by (λ h. all xs h) (bytes_eq x.0.items name) (bytes_eq key.items x.0.items)
        (nat_list_eq_equiv.symm key.items x.0.items ∙ ap (bytes_eq x.0.items) is) e
      where
        by : (module_of (map view_entry xs) name ≡ None
            → map view_entry (insert_entry (λ a b. bytes_eq a.items b.items) xs key value) ≡ map view_entry xs ++ entry_of key.items value.items ∷ [])
            → (b c : Bool) → c ≡ b → cond b (Some x.1.items) (module_of (map view_entry xs) name) ≡ None
            → map view_entry (cond c ((x.0, value) ∷ xs) (x ∷ insert_entry (λ a b. bytes_eq a.items b.items) xs key value))
            ≡ view_entry x ∷ map view_entry xs ++ entry_of key.items value.items ∷ []
        by f true c s h = absurd (let no : Some x.1.items ≡ None = h in cc)
        by f false true s h = absurd (let no : true ≡ false = s in cc)
        by f false false s h = ap (λ ts. view_entry x ∷ ts) (f h)
