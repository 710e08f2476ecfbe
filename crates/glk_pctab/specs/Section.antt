-- The section `.gopclntab` and the inline trees.
use Rattle.std.specs.Prelude.{ℕ, ◌+◌, ◌-◌, ◌*◌, ◌/◌, ◌==◌, List, [], ◌∷◌, ◌++◌, length, map, Option, Some, None, replicate, cond, Bool, true, false, get_or}
use Rattle.glk_base.specs.Fields.{fields_bytes, byte, u32, u64}
use Rattle.glk_frames.specs.Memory.{read_in}
use Rattle.glk_frames.specs.Written.{Record, record_bytes, u32s_bytes, Entry, tree_bytes}
use Rattle.glk_frames.specs.Region.{no_file}
use Rattle.glk_frames.specs.Image.{Module}
use Rattle.glk_pctab.specs.FirstUse.{offset_in, concat_of, first_use}
use Rattle.glk_pctab.specs.Functions.{InlinedCall, Function, Pclntab, pcdata_of, funcdata_of, first_entry, entries_named}

-- what ends a name: a zero byte
abbrev pub zero_byte : List ℕ
zero_byte = 0 ∷ []

-- ---- names
abbrev pub call_names : List InlinedCall → List (List ℕ)
call_names calls = map (λ (call : InlinedCall). call.node.name) calls

-- the names of functions: of each its own, then those of its inlined calls
abbrev pub names_of : List Function → List (List ℕ)
names_of [] = []
names_of (f ∷ fs) = f.name ∷ call_names f.inlined ++ names_of fs

-- funcnametab has each once
abbrev pub names : Pclntab → List (List ℕ)
names t = first_use (names_of t.functions)

unfoldable pub name_offset : List (List ℕ) → List ℕ → ℕ
name_offset ns name = offset_in zero_byte ns name

-- ---- pc tables
-- those that are not empty
abbrev pub some_tables : List (List ℕ) → List (List ℕ)
some_tables [] = []
some_tables ([] ∷ ts) = some_tables ts
some_tables ((b ∷ t) ∷ ts) = (b ∷ t) ∷ some_tables ts

-- the tables of functions: of each pcsp, pcfile, pcline, then its pcdata
abbrev pub tables_of : List Function → List (List ℕ)
tables_of [] = []
tables_of (f ∷ fs) = f.pcsp ∷ f.pcfile ∷ f.pcline ∷ pcdata_of f ++ tables_of fs

-- pctab has each once, after one zero byte
abbrev pub tables : Pclntab → List (List ℕ)
tables t = first_use (some_tables (tables_of t.functions))

-- the empty table has offset 0
unfoldable pub table_offset : List (List ℕ) → List ℕ → ℕ
table_offset ts [] = 0
table_offset ts (b ∷ t) = 1 + offset_in [] ts (b ∷ t)

-- ---- files
abbrev pub is_number_among : List ℕ → ℕ → Bool
is_number_among [] k = false
is_number_among (n ∷ ns) k = cond (n == k) true (is_number_among ns k)

-- entries of cutab from index k on: a file that no function of its unit names has none
unfoldable pub entries_from : List ℕ → ℕ → List (List ℕ) → List (Option (List ℕ))
entries_from named k [] = []
entries_from named k (file ∷ files) = cond (is_number_among named k) (Some file) None ∷ entries_from named (k + 1) files

-- the files of all units
abbrev pub files_of : List (List (List ℕ)) → List (List ℕ)
files_of [] = []
files_of (files ∷ units) = files ++ files_of units

abbrev pub entries : Pclntab → List (Option (List ℕ))
entries t = entries_from (entries_named t.units t.functions) 0 (files_of t.units)

abbrev pub named_files : List (Option (List ℕ)) → List (List ℕ)
named_files [] = []
named_files (None ∷ es) = named_files es
named_files (Some file ∷ es) = file ∷ named_files es

-- filetab has each once
abbrev pub files : Pclntab → List (List ℕ)
files t = first_use (named_files (entries t))

abbrev pub file_offset : List (List ℕ) → Option (List ℕ) → ℕ
file_offset fs None = no_file
file_offset fs (Some file) = name_offset fs file

unfoldable pub cutab : Pclntab → List ℕ
cutab t = u32s_bytes (map (file_offset (files t)) (entries t))

-- ---- records and trees
-- a function's record, with the first entry of its unit and its tree at an offset
abbrev pub record_with : ℕ → List (List ℕ) → List (List ℕ) → ℕ → Function → Record
record_with first ns ts tree f = record {
  start = f.start;
  name = name_offset ns f.name;
  args = f.args;
  deferreturn = f.deferreturn;
  pcsp = table_offset ts f.pcsp;
  pcfile = table_offset ts f.pcfile;
  pcline = table_offset ts f.pcline;
  unit = first;
  start_line = f.start_line;
  id = f.id;
  flag = f.flag;
  pcdata = map (table_offset ts) (pcdata_of f);
  funcdata = funcdata_of tree f;
}

abbrev pub record_of : List (List (List ℕ)) → List (List ℕ) → List (List ℕ) → ℕ → Function → Record
record_of units ns ts tree f = record_with (first_entry units f.unit) ns ts tree f

-- the records of functions, the first one's tree at an offset
unfoldable pub records_from : List (List (List ℕ)) → List (List ℕ) → List (List ℕ) → ℕ → List Function → List (List ℕ)
records_from units ns ts tree [] = []
records_from units ns ts tree (f ∷ fs) =
    record_bytes (record_of units ns ts tree f) ∷ records_from units ns ts (tree + 16 * length f.inlined) fs

unfoldable pub records : Pclntab → List (List ℕ)
records t = records_from t.units (names t) (tables t) t.trees t.functions

-- an entry of a tree
abbrev pub tree_entry_of : List (List ℕ) → InlinedCall → Entry
tree_entry_of ns call = record { id = call.id; name = name_offset ns call.node.name; parent = call.node.parent; start_line = call.start_line }

-- the trees of functions, one after the other
unfoldable pub trees_of : List (List ℕ) → List Function → List ℕ
trees_of ns [] = []
trees_of ns (f ∷ fs) = tree_bytes (map (tree_entry_of ns) f.inlined) ++ trees_of ns fs

abbrev pub trees : Pclntab → List ℕ
trees t = trees_of (names t) t.functions

-- ---- pclntable
-- the next multiple of n, and zeros up to it
unfoldable pub next_multiple : ℕ → ℕ → ℕ
next_multiple n at = (at + (n - 1)) / n * n

unfoldable pub zeros_to : ℕ → List ℕ → List ℕ
zeros_to n before = before ++ replicate (next_multiple n (length before) - length before) 0

-- records after what is before them, each at the next multiple of 8
unfoldable pub with_records : List (List ℕ) → List ℕ → List ℕ
with_records [] before = before
with_records (r ∷ rs) before = with_records rs (zeros_to 8 before ++ r)

-- and the offset of each
unfoldable pub record_offsets : List (List ℕ) → ℕ → List ℕ
record_offsets [] at = []
record_offsets (r ∷ rs) at = next_multiple 8 at ∷ record_offsets rs (next_multiple 8 at + length r)

-- functab: where each function starts and its record is, then the text's size
unfoldable pub functab : List ℕ → List ℕ → ℕ → List ℕ
functab [] offsets size = fields_bytes (u32 size ∷ [])
functab (s ∷ ss) [] size = fields_bytes (u32 size ∷ [])
functab (s ∷ ss) (o ∷ os) size = fields_bytes (u32 s ∷ u32 o ∷ []) ++ functab ss os size

abbrev pub starts : List Function → List ℕ
starts fs = map (λ (f : Function). f.start) fs

-- the offset after functab
abbrev pub functab_end : List Function → ℕ
functab_end fs = 8 * length fs + 4

unfoldable pub pclntable : Pclntab → List ℕ
pclntable t =
    with_records (records t) (functab (starts t.functions) (record_offsets (records t) (functab_end t.functions)) t.text_size)

-- ---- the section
-- where its parts are
abbrev pub names_at : ℕ
names_at = 72

unfoldable pub cutab_at : Pclntab → ℕ
cutab_at t = next_multiple 4 (names_at + length (concat_of zero_byte (names t)))

unfoldable pub filetab_at : Pclntab → ℕ
filetab_at t = cutab_at t + 4 * length (entries t)

unfoldable pub pctab_at : Pclntab → ℕ
pctab_at t = filetab_at t + length (concat_of zero_byte (files t))

unfoldable pub pclntable_at : Pclntab → ℕ
pclntable_at t = next_multiple 8 (pctab_at t + 1 + length (concat_of [] (tables t)))

-- pcHeader
abbrev pub header_fields : Pclntab → List (ℕ × ℕ)
header_fields t =
    u32 4294967281 ∷ byte 0 ∷ byte 0 ∷ byte 1 ∷ byte 8 ∷ u64 (length t.functions) ∷ u64 (length (files t)) ∷ u64 t.text
    ∷ u64 names_at ∷ u64 (cutab_at t) ∷ u64 (filetab_at t) ∷ u64 (pctab_at t) ∷ u64 (pclntable_at t) ∷ []

unfoldable pub header_bytes : Pclntab → List ℕ
header_bytes t = fields_bytes (header_fields t)

-- what is before cutab, and before pclntable
unfoldable pub before_cutab : Pclntab → List ℕ
before_cutab t = zeros_to 4 (header_bytes t ++ concat_of zero_byte (names t))

unfoldable pub before_pclntable : Pclntab → List ℕ
before_pclntable t =
    before_cutab t ++ cutab t ++ concat_of zero_byte (files t) ++ zero_byte ++ concat_of [] (tables t)

unfoldable pub section : Pclntab → List ℕ
section t = zeros_to 8 (before_pclntable t) ++ pclntable t

-- ---- read back
-- a module over the section, with the trees as the first piece of memory
abbrev pub module_of : Pclntab → ℕ → List (ℕ × List ℕ) → Module
module_of t base others = record {
  region = section t;
  memory = read_in ((base + t.trees, trees t) ∷ others);
  base = base;
  buckets = None;
}

-- where function i starts; for the number of functions, the text's size
abbrev pub start_in : Pclntab → ℕ → ℕ
start_in t i = get_or (starts t.functions) i t.text_size
