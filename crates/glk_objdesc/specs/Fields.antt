-- Lists of numbers of four bytes, and sums of amounts.
use Rattle.std.specs.Prelude.{ℕ, ◌+◌, List, [], ◌∷◌, map}
use Rattle.glk_base.specs.Fields.{u32, fields_bytes}

-- the bytes of numbers of four bytes each
abbrev pub u32s_bytes : List ℕ → List ℕ
u32s_bytes ns = fields_bytes (map u32 ns)

-- the sums of amounts so far, from a sum on: what is before each, and then the whole
unfoldable pub prefix_sums : ℕ → List ℕ → List ℕ
prefix_sums at [] = at ∷ []
prefix_sums at (n ∷ ns) = at ∷ prefix_sums (at + n) ns
