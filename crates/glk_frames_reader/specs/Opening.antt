-- The functions of an ELF file: where their region is, by its section or by module data, and when there are none.
use Rattle.std.specs.Prelude.{ℕ, ◌≡◌, ◌+◌, ◌-◌, List, Option, None, Some, codes, ◌⊎◌}
use Rattle.glk_base.specs.Bytes.{number_at}
use Rattle.glk_elf.specs.ReaderSections.{FileSection, section_named, loaded}
use Rattle.glk_frames.specs.Region.{IsRegion}
use Rattle.glk_frames.specs.Image.{Module}

-- The functions of a file: its bytes, the region, the address from which funcdata counts, and that of findfunctab.
pub record FileModule : Type 0 where
  pub file : List ℕ
  pub region : List ℕ
  pub base : ℕ
  pub buckets : Option ℕ

-- the same with the memory that the file loads
abbrev pub image_of : FileModule → Module
image_of m = record { region = m.region; memory = loaded m.file; base = m.base; buckets = m.buckets }

-- ---- by its section

abbrev pub tables_section : List ℕ
tables_section = codes ".gopclntab"

abbrev pub rodata_section : List ℕ
rodata_section = codes ".rodata"

abbrev pub address_or_0 : Option FileSection → ℕ
address_or_0 None = 0
address_or_0 (Some section) = section.addr

-- the address of the first section `.rodata`, or 0
unfoldable pub rodata_address : List ℕ → ℕ
rodata_address b = address_or_0 (section_named b rodata_section)

-- The functions of the region that a section is: funcdata counts from `.rodata`, and there are no buckets.
unfoldable pub section_module : List ℕ → FileSection → FileModule
section_module b section =
    record { file = b; region = section.bytes; base = rodata_address b; buckets = None }

-- the first section `.gopclntab` is a region, whose functions these are
pub record IsSectionModule (b : List ℕ) (m : FileModule) : Type 0 where
  pub section : FileSection
  pub first : section_named b tables_section ≡ Some section
  pub region : IsRegion section.bytes
  pub is : m ≡ section_module b section

-- E12: there is no section `.gopclntab`.
abbrev pub HasNoTables : List ℕ → Type 0
HasNoTables b = section_named b tables_section ≡ None

-- E13: the first one is no region.
pub record HasBadTables (b : List ℕ) : Type 0 where
  pub section : FileSection
  pub first : section_named b tables_section ≡ Some section
  pub bad : IsRegion section.bytes → ⊥

-- Rule `rule` of E12 and E13 is broken at `offset`; they are broken at 0.
abbrev pub BreaksTables : List ℕ → ℕ → ℕ → Type 0
BreaksTables b rule offset =
    (offset ≡ 0) × (((rule ≡ 12) × HasNoTables b) ⊎ ((rule ≡ 13) × HasBadTables b))

-- ---- by module data

-- how many bytes module data have
abbrev pub module_data_size : ℕ
module_data_size = 584

-- fields of module data: the address of pcHeader, where the region begins
unfoldable pub region_address : List ℕ → ℕ
region_address bytes = number_at 8 bytes 0

-- the slice pclntable, an address and a length, which ends where the region ends
unfoldable pub region_end : List ℕ → ℕ
region_end bytes = number_at 8 bytes 104 + number_at 8 bytes 112

unfoldable pub findfunctab_address : List ℕ → ℕ
findfunctab_address bytes = number_at 8 bytes 152

-- gofunc, from which funcdata counts
unfoldable pub gofunc_address : List ℕ → ℕ
gofunc_address bytes = number_at 8 bytes 320

-- the functions of a region that module data tell
unfoldable pub data_module : List ℕ → List ℕ → List ℕ → FileModule
data_module b bytes region = record {
  file = b;
  region = region;
  base = gofunc_address bytes;
  buckets = Some (findfunctab_address bytes);
}

-- module data at an address are in the file, and so is the region that they tell, whose functions these are
pub record IsDataModule (b : List ℕ) (addr : ℕ) (m : FileModule) : Type 0 where
  pub bytes : List ℕ
  pub here : loaded b addr module_data_size ≡ Some bytes
  pub region : List ℕ
  pub there : loaded b (region_address bytes) (region_end bytes - region_address bytes) ≡ Some region
  pub whole : IsRegion region
  pub is : m ≡ data_module b bytes region

-- E13: there is none at the address. It is broken at 0.
abbrev pub BreaksModule : List ℕ → ℕ → ℕ → ℕ → Type 0
BreaksModule b addr rule offset = (rule ≡ 13) × (offset ≡ 0) × ((m : FileModule) → IsDataModule b addr m → ⊥)
