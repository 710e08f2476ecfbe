-- The names that the linker gives to places of the image: one table, in whose order their rows are.
use Rattle.std.specs.Prelude.{ℕ, List, [], ◌∷◌, codes}
use Rattle.glk_elf.specs.declared.sections.Section.{Section}
use Rattle.glk_elf.specs.declared.sections.Section.TheVariants as section
use Rattle.glk_keys.specs.declared.made_names.MadePlace.{MadePlace}
use Rattle.glk_keys.specs.declared.made_names.MadePlace.TheVariants as place

-- a made name: the section in which its place is, which place that is, and the size of what is there, 0 where the name has none
pub record MadeName : Type 0 where
  pub name : List ℕ
  pub section : Section
  pub place : MadePlace
  pub size : ℕ

-- how many bytes module data have, with which the section .go.module begins; the slice of the runtime's init tasks follows
abbrev pub module_data_size : ℕ
module_data_size = 584

-- a slice: a pointer, a length and a capacity
abbrev pub slice_size : ℕ
slice_size = 24

-- what a thread has of its own
abbrev pub tls_size : ℕ
tls_size = 8

-- a name without a size
abbrev pub place_name : List ℕ → Section → MadePlace → MadeName
place_name name section place = record { name = name; section = section; place = place; size = 0 }

abbrev pub sized_name : List ℕ → Section → MadePlace → ℕ → MadeName
sized_name name section place size = record { name = name; section = section; place = place; size = size }

-- all of them, from number 0 on
unfoldable pub made_names : List MadeName
made_names =
    place_name (codes "runtime.text") section.Text place.Start
    ∷ place_name (codes "runtime.etext") section.Text place.End
    ∷ place_name (codes "runtime.rodata") section.Rodata place.Start
    ∷ place_name (codes "runtime.erodata") section.Rodata place.End
    ∷ place_name (codes "runtime.types") section.Rodata place.Start
    ∷ place_name (codes "runtime.etypes") section.Rodata place.End
    ∷ place_name (codes "type:*") section.Rodata place.Start
    ∷ place_name (codes "go:func.*") section.Rodata place.Start
    ∷ place_name (codes "runtime.findfunctab") section.Rodata place.FindFuncTab
    ∷ place_name (codes "runtime.gcdata") section.Rodata place.GcData
    ∷ place_name (codes "runtime.gcbss") section.Rodata place.GcBss
    ∷ place_name (codes "runtime.pclntab") section.Gopclntab place.Start
    ∷ place_name (codes "runtime.epclntab") section.Gopclntab place.End
    ∷ place_name (codes "runtime.noptrdata") section.Noptrdata place.Start
    ∷ place_name (codes "runtime.enoptrdata") section.Noptrdata place.End
    ∷ place_name (codes "runtime.data") section.Data place.Start
    ∷ place_name (codes "runtime.edata") section.Data place.End
    ∷ place_name (codes "runtime.bss") section.Bss place.Start
    ∷ place_name (codes "runtime.ebss") section.Bss place.End
    ∷ place_name (codes "runtime.noptrbss") section.Noptrbss place.Start
    ∷ place_name (codes "runtime.enoptrbss") section.Noptrbss place.End
    ∷ place_name (codes "runtime.end") section.Noptrbss place.End
    ∷ place_name (codes "go:main.inittasks") section.Rodata place.MainTasks
    ∷ place_name (codes "go:runtime.inittasks") section.Rodata place.RuntimeTasks
    ∷ sized_name (codes "runtime.firstmoduledata") section.GoModule place.Start module_data_size
    ∷ sized_name (codes "runtime.runtime_inittasks") section.GoModule place.AfterModuleData slice_size
    ∷ sized_name (codes "runtime.tlsg") section.Tbss place.Start tls_size
    ∷ []

-- how many they are
abbrev pub made_count : ℕ
made_count = 27
