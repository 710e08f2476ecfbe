-- Addends as offsets in a target's data, and the targets of relocations by their offset.
use Rattle.std.specs.Prelude.{◌==◌, ℕ, ℤ, pos, negsuc, List, Option, Some, None, find}
use Rattle.std.specs.Option.{option_map}

-- the offset that an addend means, or none where it is negative
unfoldable pub offset_of : ℤ → Option ℕ
offset_of (pos n) = Some n
offset_of (negsuc n) = None

-- the target of the first relocation with this offset, of pairs of an offset and a target
unfoldable pub target_of : List (ℕ × ℕ) → ℕ → Option ℕ
target_of at offset = option_map (λ entry. entry.1) (find (λ entry. entry.0 == offset) at)
