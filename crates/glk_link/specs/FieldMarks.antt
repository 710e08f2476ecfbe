-- Marks of the bytes of a symbol, by which fields that share a byte are found.
use Rattle.std.specs.Prelude.{◌≡◌, ◌≤◌, ◌<◌, ◌+◌, ◌⊎◌, ◌↔◌, ℕ, Bool, List, true, false, slice_index_or}
use Rattle.glk_link.specs.Built.{call_size}

-- byte p is marked
abbrev pub IsMarked : List Bool → ℕ → Type 0
IsMarked marks p = slice_index_or marks p false ≡ true

-- byte p is one of the field at this offset
abbrev pub IsInFieldAt : ℕ → ℕ → Type 0
IsInFieldAt from p = (from ≤ p) × (p < from + call_size)

-- a byte of the field is marked
abbrev pub IsFieldMarked : List Bool → ℕ → Type 0
IsFieldMarked marks from = (p : ℕ) × (from ≤ p) × (p < from + call_size) × IsMarked marks p

-- the bytes of the field are marked besides
abbrev pub MarksField : List Bool → List Bool → ℕ → Type 0
MarksField old new from = (p : ℕ) → IsMarked new p ↔ (IsMarked old p ⊎ IsInFieldAt from p)
