-- What is promised of the pieces.
use Rattle.std.specs.Prelude.{ℕ, ◌≡◌, ◌+◌, ◌<◌, ◌≤◌, List, length, Option, Some}
use Rattle.glk_frames.specs.Buckets.{bucket_found}
use Rattle.glk_frames.specs.Laws.{ReadsBack}
use Rattle.glk_frames.specs.Region.{found_in}
use Rattle.glk_frames_reader.specs.Opening.{findfunctab_address, gofunc_address}
use Rattle.glk_pctab.specs.Functions.{Pclntab, func}
use Rattle.glk_pctab.specs.Section.{section, start_in}
use Rattle.glk_pctab.specs.Sound.{AreApart, section_limit}
use Rattle.glk_pcln.specs.ModuleData.{module_bytes, AreSmall}
use Rattle.glk_pcln.specs.Pieces.{HasPiece, HasPieces, AreSoundFunctions, module_with, region_told}
use Rattle.glk_pcln.specs.declared.module_data.ModuleAddresses.{ModuleAddresses}

-- Function i is read back. The frames, with files and lines, and the depths of the stack are the object's at every offset; and at each
-- offset from its start to below the next function's, or the end of the text, it is found, by the search of all functions and by buckets.
pub record IsReadBack (t : Pclntab) (a : ModuleAddresses) (memory : ℕ → ℕ → Option (List ℕ)) (i : ℕ) : Type 0 where
  pub frames : (table : Option ℕ) → ReadsBack (module_with t a memory table) i (func t i)
  pub search : (off : ℕ) → start_in t i ≤ off → off < start_in t (i + 1) → found_in (section t) off ≡ Some i
  pub by_buckets : (off : ℕ) → start_in t i ≤ off → off < start_in t (i + 1)
      → bucket_found (section t) memory a.findfunctab off ≡ Some i

-- Each function is read back from any memory that has the pieces.
abbrev pub AreReadBack : Pclntab → ModuleAddresses → Type 0
AreReadBack t a =
    (memory : ℕ → ℕ → Option (List ℕ)) → HasPieces t a memory
    → (i : ℕ) → i < length t.functions → IsReadBack t a memory i

-- Module data tell where the pieces are: the section, as memory that has it answers, findfunctab, and the base of funcdata.
pub record TellsPieces (t : Pclntab) (a : ModuleAddresses) : Type 0 where
  pub region : (memory : ℕ → ℕ → Option (List ℕ)) → HasPiece memory a.pclntab (section t)
      → region_told memory (module_bytes t a) ≡ Some (section t)
  pub table : findfunctab_address (module_bytes t a) ≡ a.findfunctab
  pub base : gofunc_address (module_bytes t a) ≡ a.rodata.start

abbrev pub PiecesReadBack : Type 0
PiecesReadBack =
    (t : Pclntab) (a : ModuleAddresses) → AreSoundFunctions t → AreApart t → length (section t) < section_limit
    → AreReadBack t a

abbrev pub PiecesTold : Type 0
PiecesTold =
    (t : Pclntab) (a : ModuleAddresses) → AreSmall t a → length (section t) < section_limit → TellsPieces t a
