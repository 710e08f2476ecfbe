-- Module data (Go's `moduledata`, `runtime/symtab.go`), by which the runtime finds the tables of an image: 584 bytes, and the slice of the
-- runtime's init tasks after them.
use Rattle.std.specs.Prelude.{ℕ, ◌+◌, ◌-◌, ◌^◌, ◌<◌, List, [], ◌∷◌, ◌++◌, length}
use Rattle.glk_base.specs.Fields.{fields_bytes, u64}
use Rattle.glk_pctab.specs.FirstUse.{concat_of}
use Rattle.glk_pctab.specs.Functions.{Pclntab}
use Rattle.glk_pctab.specs.Section.{zero_byte, names, files, tables, entries, section, names_at, cutab_at, filetab_at, pctab_at, pclntable_at}
use Rattle.glk_pcln.specs.declared.module_data.ModuleAddresses.{ModuleAddresses}
use Rattle.glk_pcln.specs.declared.module_data.ListAt.{ListAt}

-- a slice: a pointer, a length and a capacity
abbrev pub slice_of : ℕ → ℕ → List (ℕ × ℕ)
slice_of address count = u64 address ∷ u64 count ∷ u64 count ∷ []

abbrev pub list_slice : ListAt → List (ℕ × ℕ)
list_slice list = slice_of list.address list.count

-- a slice and a string that are empty
abbrev pub no_slice : List (ℕ × ℕ)
no_slice = slice_of 0 0

abbrev pub no_string : List (ℕ × ℕ)
no_string = u64 0 ∷ u64 0 ∷ []

-- From 0 to 152: the address of pcHeader, and the slices funcnametab, cutab, filetab, pctab, pclntable and ftab, of a section at an address.
abbrev pub table_fields : ℕ → Pclntab → List (ℕ × ℕ)
table_fields at t =
    u64 at ∷ []
    ++ slice_of (at + names_at) (length (concat_of zero_byte (names t)))
    ++ slice_of (at + cutab_at t) (length (entries t))
    ++ slice_of (at + filetab_at t) (length (concat_of zero_byte (files t)))
    ++ slice_of (at + pctab_at t) (1 + length (concat_of [] (tables t)))
    ++ slice_of (at + pclntable_at t) (length (section t) - pclntable_at t)
    ++ slice_of (at + pclntable_at t) (length t.functions + 1)

-- From 152 to 328: findfunctab; minpc, maxpc, text, etext; noptrdata, enoptrdata, data, edata, bss, ebss, noptrbss, enoptrbss; covctrs,
-- ecovctrs, end; gcdata, gcbss; types, etypes, rodata, gofunc.
abbrev pub place_fields : ModuleAddresses → ℕ → ℕ → List (ℕ × ℕ)
place_fields a text etext =
    u64 a.findfunctab ∷ u64 text ∷ u64 etext ∷ u64 text ∷ u64 etext
    ∷ u64 a.noptrdata.start ∷ u64 a.noptrdata.end ∷ u64 a.data.start ∷ u64 a.data.end
    ∷ u64 a.bss.start ∷ u64 a.bss.end ∷ u64 a.noptrbss.start ∷ u64 a.noptrbss.end
    ∷ u64 0 ∷ u64 0 ∷ u64 a.noptrbss.end ∷ u64 a.gc_stop ∷ u64 a.gc_stop
    ∷ u64 a.rodata.start ∷ u64 a.rodata.end ∷ u64 a.rodata.start ∷ u64 a.rodata.start ∷ []

-- hasmain: one, and the byte `bad` after it zero
abbrev pub has_main : ℕ
has_main = 1

-- From 328 to 584: textsectmap, typelinks, itablinks, ptab, pluginpath, pkghashes, inittasks, modulename, modulehashes, hasmain, the masks
-- gcdatamask and gcbssmask, typemap, next. Then the slice of the runtime's init tasks.
abbrev pub list_fields : ModuleAddresses → List (ℕ × ℕ)
list_fields a =
    no_slice ++ list_slice a.typelinks ++ list_slice a.itablinks ++ no_slice ++ no_string ++ no_slice
    ++ list_slice a.main_tasks ++ no_string ++ no_slice ++ u64 has_main ∷ [] ++ no_string ++ no_string ++ no_string
    ++ list_slice a.runtime_tasks

-- the bytes, where the tables and the text are these
unfoldable pub module_bytes : Pclntab → ModuleAddresses → List ℕ
module_bytes t a =
    fields_bytes (table_fields a.pclntab t) ++ fields_bytes (place_fields a t.text (t.text + t.text_size)) ++ fields_bytes (list_fields a)

-- addresses whose sums with offsets fit 64 bits: of the section, the text, findfunctab and `.rodata`
pub record AreSmall (t : Pclntab) (a : ModuleAddresses) : Type 0 where
  pub pclntab : a.pclntab < 2 ^ 62
  pub text : t.text < 2 ^ 62
  pub table : a.findfunctab < 2 ^ 62
  pub base : a.rodata.start < 2 ^ 62
