-- Where the parts of a section are, by their lengths.
use Rattle.std.specs.Prelude.{ℕ, ◌≡◌, ◌≤◌, ◌+◌, ◌*◌, [], length}
use Rattle.glk_base.specs.declared.fault.Fault.{Fault}
use Rattle.glk_base.specs.declared.fault.Fault.TheVariants.{Bad, OutOfMemory}
use Rattle.glk_pctab.specs.declared.section.Parts.{Parts}
use Rattle.glk_pctab.specs.declared.section.SectionTooLong.{SectionTooLong}
use Rattle.glk_pctab.specs.Functions.{Pclntab}
use Rattle.glk_pctab.specs.FirstUse.{concat_of}
use Rattle.glk_pctab.specs.Section.{names_at, next_multiple, zero_byte, names, files, tables, entries, section, cutab_at, filetab_at, pctab_at, pclntable_at}
use Rattle.glk_pctab.specs.Sound.{section_limit}

-- the offset of each part, by the lengths of the names, of cutab in entries, and of the files
unfoldable pub cutab_by : ℕ → ℕ
cutab_by names = next_multiple 4 (names_at + names)

unfoldable pub pclntable_by : ℕ → ℕ → ℕ → ℕ → ℕ
pclntable_by names entries files tables = next_multiple 8 (cutab_by names + 4 * entries + files + 1 + tables)

-- parts of these lengths, cutab in entries; pctab begins with one byte more
pub record HaveLengths (p : Parts) (names entries files tables end : ℕ) : Type 0 where
  pub names_long : p.name_bytes ≡ names
  pub entries_long : p.entries ≡ entries
  pub files_long : p.file_bytes ≡ files
  pub tables_long : p.table_bytes ≡ 1 + tables
  pub ends : p.end ≡ end

-- the offsets of the parts of this section, and their lengths
pub record ArePartsOf (t : Pclntab) (p : Parts) : Type 0 where
  pub cutab : p.cutab ≡ cutab_at t
  pub filetab : p.filetab ≡ filetab_at t
  pub pctab : p.pctab ≡ pctab_at t
  pub pclntable : p.pclntable ≡ pclntable_at t
  pub lengths : HaveLengths p (length (concat_of zero_byte (names t))) (length (entries t)) (length (concat_of zero_byte (files t)))
      (length (concat_of [] (tables t))) (length (section t))

-- a refusal: the section is too long, or out of memory
abbrev pub Refuses : Pclntab → Fault SectionTooLong → Type 0
Refuses t (Bad long) = section_limit ≤ length (section t)
Refuses t OutOfMemory = Unit {0}
