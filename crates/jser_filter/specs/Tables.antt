-- Tables of modules: lines `package=module`, separated by line feeds. White space is part of a line, and an
-- empty line says nothing.
use Rattle.std.specs.Prelude.{ℕ, ◌≡◌, ◌<◌, length, Bool, if◌then◌else◌, List, [], ◌∷◌, map, take, slice_get, Option, Some, None, option_and_then, option_map, is_some, Vec}
use Rattle.std.specs.Global.{Global}
use Rattle.std.specs.Str.{bytes_eq}
use Rattle.jser_filter.specs.declared.fault.ModulesCause.{ModulesCause}
use Rattle.jser_filter.specs.declared.fault.ModulesCause.TheVariants as cause
use Rattle.jser_filter.specs.declared.fault.ModulesFault.{ModulesFault}
use Rattle.jser_filter.specs.Cuts.{cut, split_at_each}
use Rattle.jser_filter.specs.Patterns.{package_of}

-- a package and its module
pub record Entry : Type 0 where
  pub package_name : List ℕ
  pub module_name : List ℕ

abbrev pub ModuleTable : Type 0
ModuleTable = List Entry

-- the module of a package, if the table has it
abbrev pub module_of : ModuleTable → List ℕ → Option (List ℕ)
module_of [] package_name = None
module_of (entry ∷ table) package_name =
    if bytes_eq entry.package_name package_name then Some entry.module_name else module_of table package_name

abbrev pub entry_of : List ℕ → List ℕ → Entry
entry_of package_name module_name = record { package_name = package_name; module_name = module_name }

-- the module of a class: that of its package
abbrev pub module_of_class : ModuleTable → List ℕ → Option (List ℕ)
module_of_class table name = option_and_then (module_of table) (package_of name)

-- What a line says.
pub data Line : Type 0 where
  empty_line bad_line : Line
  entry_line : Entry → Line

abbrev pub has_equals : List ℕ → Bool
has_equals units = is_some (cut 0x3D units)

-- exactly one `=`, and no side of it is empty
abbrev pub read_sides : Option (List ℕ × List ℕ) → Line
read_sides None = bad_line
read_sides (Some ([], back)) = bad_line
read_sides (Some (unit ∷ front, [])) = bad_line
read_sides (Some (unit ∷ front, other ∷ back)) =
    if has_equals (other ∷ back) then bad_line
    else entry_line record { package_name = unit ∷ front; module_name = other ∷ back }

abbrev pub read_line : List ℕ → Line
read_line [] = empty_line
read_line (unit ∷ units) = read_sides (cut 0x3D (unit ∷ units))

abbrev pub lines_of : List ℕ → List Line
lines_of text = map read_line (split_at_each 0x0A text)

-- the table that lines make
abbrev pub table_of : List Line → ModuleTable
table_of [] = []
table_of (empty_line ∷ lines) = table_of lines
table_of (bad_line ∷ lines) = table_of lines
table_of (entry_line entry ∷ lines) = entry ∷ table_of lines

-- what is wrong with a line after others that make this table
abbrev pub fault_in : ModuleTable → Line → Option ModulesCause
fault_in table empty_line = None
fault_in table bad_line = Some cause.BadLine
fault_in table (entry_line entry) = if is_some (module_of table entry.package_name) then Some cause.PackageTwice else None

-- what is wrong with the line of this number
abbrev pub line_fault : List Line → ℕ → Option ModulesCause
line_fault lines number = option_and_then (fault_in (table_of (take number lines))) (slice_get lines number)

-- a kept entry
abbrev pub view_entry : Vec ℕ Global × Vec ℕ Global → Entry
view_entry entry = record { package_name = entry.0.items; module_name = entry.1.items }

-- the sides of a line that has them
abbrev pub view_sides : Option (List ℕ × List ℕ) → Line
view_sides None = bad_line
view_sides (Some (front, back)) = entry_line record { package_name = front; module_name = back }

-- the cause is the one that the line has, or memory ran out
abbrev pub IsLineCause : Option ModulesCause → ModulesCause → Type 0
IsLineCause told cause.OutOfMemory = Unit {0}
IsLineCause told cause.BadLine = told ≡ Some cause.BadLine
IsLineCause told cause.PackageTwice = told ≡ Some cause.PackageTwice

-- no line before this one is faulty
abbrev pub NoFaultBefore : List Line → ℕ → Type 0
NoFaultBefore lines number = (earlier : ℕ) → earlier < number → line_fault lines earlier ≡ None

-- no line is faulty
abbrev pub AreSoundLines : List Line → Type 0
AreSoundLines lines = NoFaultBefore lines (length lines)

-- The fault is that of the line that it names, or memory ran out there; and no earlier line is faulty.
pub record IsFirstLineFault (lines : List Line) (fault : ModulesFault) : Type 0 where
  pub inside : fault.line < length lines
  pub here : IsLineCause (line_fault lines fault.line) fault.cause
  pub before : NoFaultBefore lines fault.line
