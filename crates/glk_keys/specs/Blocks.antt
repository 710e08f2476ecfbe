-- In which block of its object a symbol is, as the code tells it.
use Rattle.std.specs.Prelude.{ℕ, ◌-◌, ◌<◌, ◌≤◌, ◌==◌, List, length, Option, Some, None, if◌then◌else◌}
use Rattle.glk_obj.specs.Flags.{is_dupok}
use Rattle.glk_obj.specs.Records.{symbols, symbol_at, data_at, hash64_at, hash_at}
use Rattle.glk_table.specs.declared.ranks.RankClass.{RankClass}
use Rattle.glk_table.specs.declared.ranks.RankClass.TheVariants.{Strong, Shared, Other}
use Rattle.glk_keys.specs.declared.blocks.BlockStarts.{BlockStarts}
use Rattle.glk_keys.specs.declared.blocks.IndexRange.{IndexRange}
use Rattle.glk_keys.specs.declared.blocks.SymbolBlock.{SymbolBlock}
use Rattle.glk_keys.specs.declared.blocks.SymbolBlock.TheVariants.{Symdef, Hashed64def, Hasheddef, Nonpkgdef, Nonpkgref}
use Rattle.glk_keys.specs.LocalIndices.{SymbolRange, first_hashed64, first_hashed, first_named, first_reference}
use Rattle.glk_keys.specs.Rows.{Origin, in_symdef, in_hashed64def, in_hasheddef, in_nonpkgdef, in_nonpkgref}

-- where the blocks of an object's symbols begin, in local indices
unfoldable pub starts_of : List ℕ → BlockStarts
starts_of b = record { hashed64 = first_hashed64 b; hashed = first_hashed b; named = first_named b; references = first_reference b; end = symbols b }

-- where symbol i is from, by its block
abbrev pub origin_in : List ℕ → ℕ → SymbolBlock → Origin
origin_in b i Symdef = in_symdef
origin_in b i Hashed64def = in_hashed64def (hash64_at b (i - first_hashed64 b))
origin_in b i Hasheddef = in_hasheddef (hash_at b (i - first_hashed b))
origin_in b i Nonpkgdef = in_nonpkgdef
origin_in b i Nonpkgref = in_nonpkgref

-- the code's range of local indices
abbrev pub range_view : IndexRange → SymbolRange
range_view r = record { first = r.first; size = r.size }

-- the class of a definition without a hash
unfoldable pub flag_class_of : List ℕ → ℕ → RankClass
flag_class_of b i = if is_dupok (symbol_at b i) then Shared else if length (data_at b i) == 0 then Other else Strong

-- the class of symbol i, by its block; a reference has none
abbrev pub class_in : List ℕ → ℕ → SymbolBlock → Option RankClass
class_in b i Symdef = Some (flag_class_of b i)
class_in b i Hashed64def = Some Shared
class_in b i Hasheddef = Some Shared
class_in b i Nonpkgdef = Some (flag_class_of b i)
class_in b i Nonpkgref = None

-- local index i is one of the block's
abbrev pub IsInBlock : List ℕ → ℕ → SymbolBlock → Type 0
IsInBlock b i Symdef = i < first_hashed64 b
IsInBlock b i Hashed64def = (first_hashed64 b ≤ i) × (i < first_hashed b)
IsInBlock b i Hasheddef = (first_hashed b ≤ i) × (i < first_named b)
IsInBlock b i Nonpkgdef = (first_named b ≤ i) × (i < first_reference b)
IsInBlock b i Nonpkgref = (first_reference b ≤ i) × (i < symbols b)
