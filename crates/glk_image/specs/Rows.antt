-- The rows of an image's symbol table.
use Rattle.std.specs.Prelude.{ℕ, ◌==◌, ◌&&◌, if◌then◌else◌, not, Bool, true, false, List, [], ◌++◌, length, filter}
use Rattle.glk_elf.specs.Image.{Row}
use Rattle.glk_elf.specs.declared.sections.Section.{Section}
use Rattle.glk_elf.specs.declared.sections.Section.TheVariants.{Text, Tbss}
use Rattle.glk_elf.specs.Views.{number_of}
use Rattle.glk_image.specs.declared.rows.Symbol.{Symbol}

-- the ELF types of symbols
abbrev pub STT_OBJECT : ℕ
STT_OBJECT = 1

abbrev pub STT_FUNC : ℕ
STT_FUNC = 2

abbrev pub STT_TLS : ℕ
STT_TLS = 6

-- the ELF type of a symbol in a section
abbrev pub type_in : Section → ℕ
type_in Text = STT_FUNC
type_in Tbss = STT_TLS
type_in other = STT_OBJECT

-- the row of a symbol
abbrev pub row_of : Symbol → Row
row_of s = record {
  name = s.name.now;
  local = s.is_local;
  kind = type_in s.section;
  section = number_of s.section;
  value = s.value;
  size = s.size;
}

-- a row is of a table's part: it has a name, and is local or is not
abbrev pub has_row : Bool → Row → Bool
has_row local row = not (length row.name == 0) && (if local then row.local else not row.local)

-- the rows of one part, in their order
abbrev pub rows_bound : Bool → List Row → List Row
rows_bound local rows = filter (has_row local) rows

-- The rows of a symbol table after the null row: of rows in image order, made names last, those with a name, the local
-- ones before the others. A stripped image has none.
abbrev pub table_rows : Bool → List Row → List Row
table_rows strip rows = if strip then [] else rows_bound true rows ++ rows_bound false rows
