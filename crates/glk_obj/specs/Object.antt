-- What an object is: a list of bytes that breaks none of the rules.
use Rattle.std.specs.Prelude.{◌≡◌, ◌≤◌, ℕ, List, slice_index}
use Rattle.glk_obj.specs.Blocks.{offset_of, end}
use Rattle.glk_obj.specs.Layout.{HasLayout}
use Rattle.glk_base.specs.Least.{Nowhere}
use Rattle.glk_obj.specs.Positive.{HasIndexTables}
use Rattle.glk_obj.specs.Rules.{IsShort, HasOtherMagic, HasMisplacedBlock, EndsLate, HasUnevenBlock, IsUnlinkable, HasOddHash64, HasOddHash, HasShortTable, HasBadEntry, HasStringPastEnd, HasStringWithNul, HasTargetOutOfRange, HasLongData, HasStrayReloc, HasOddAlign}

pub record IsObject (b : List ℕ) : Type 0 where
  -- V1
  pub header_whole : Nowhere (IsShort b)
  -- V2
  pub magic_first : Nowhere (HasOtherMagic b)
  -- V3
  pub blocks_in_order : Nowhere (HasMisplacedBlock b)
  -- V4
  pub blocks_inside : Nowhere (EndsLate b)
  -- V5
  pub records_whole : Nowhere (HasUnevenBlock b)
  -- V6
  pub linkable : Nowhere (IsUnlinkable b)
  -- V7
  pub short_hashes_counted : Nowhere (HasOddHash64 b)
  -- V8
  pub long_hashes_even : Nowhere (HasOddHash b)
  -- V9
  pub tables_counted : Nowhere (HasShortTable b)
  -- V10
  pub entries_rise : Nowhere (HasBadEntry b)
  -- V11
  pub strings_inside : Nowhere (HasStringPastEnd b)
  -- V12
  pub strings_without_nul : Nowhere (HasStringWithNul b)
  -- V13
  pub targets_in_range : Nowhere (HasTargetOutOfRange b)
  -- V14
  pub data_within_size : Nowhere (HasLongData b)
  -- V15
  pub relocs_within_size : Nowhere (HasStrayReloc b)
  -- V16
  pub symbols_aligned : Nowhere (HasOddAlign b)

-- The bytes are an object, and the offsets are those of its header. What follows from the rules of
-- the blocks and of the tables is beside them.
pub record Fits (b : List ℕ) (offsets : List ℕ) : Type 0 where
  pub object : IsObject b
  pub layout : HasLayout b
  pub tables : HasIndexTables b
  pub each : (k : ℕ) → k ≤ end → slice_index offsets k ≡ offset_of b k
