-- What is promised of the section and the trees.
use Rattle.std.specs.Prelude.{ℕ, ◌≡◌, ◌+◌, ◌<◌, ◌≤◌, List, ◌∷◌, length, Some}
use Rattle.glk_base.specs.BytesAt.{IsAt}
use Rattle.glk_frames.specs.Memory.{read_in}
use Rattle.glk_frames.specs.Region.{found_in}
use Rattle.glk_frames.specs.Buckets.{findfunctab, bucket_found}
use Rattle.glk_frames.specs.Laws.{ReadsBack}
use Rattle.glk_pctab.specs.Functions.{Pclntab, func}
use Rattle.glk_pctab.specs.Section.{section, module_of, start_in}
use Rattle.glk_pctab.specs.Sound.{IsSound, AreApart}

-- Wherever the trees are, the frames and the depths of each function are read back from the section and the trees.
abbrev pub SectionReadsBack : Type 0
SectionReadsBack =
    (t : Pclntab) (base : ℕ) (others : List (ℕ × List ℕ)) → IsSound t
    → (i : ℕ) → i < length t.functions → ReadsBack (module_of t base others) i (func t i)

-- Function i is found by both searches, at each offset from its start to below the next: by that of all functions, and by
-- buckets in memory.
pub record IsFound (t : Pclntab) (address : ℕ) (bytes : List ℕ) (others : List (ℕ × List ℕ)) (at : ℕ) (i : ℕ) : Type 0 where
  pub search : (off : ℕ) → start_in t i ≤ off → off < start_in t (i + 1) → found_in (section t) off ≡ Some i
  pub buckets : (off : ℕ) → start_in t i ≤ off → off < start_in t (i + 1)
      → bucket_found (section t) (read_in ((address, bytes) ∷ others)) (address + at) off ≡ Some i

abbrev pub FunctionsFound : Type 0
FunctionsFound =
    (t : Pclntab) (address : ℕ) (bytes : List ℕ) (others : List (ℕ × List ℕ)) (at : ℕ) → IsSound t → AreApart t
    → IsAt bytes at (findfunctab (start_in t) (length t.functions) t.text_size)
    → (i : ℕ) → i < length t.functions → IsFound t address bytes others at i
