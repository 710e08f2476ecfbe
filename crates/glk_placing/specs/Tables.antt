-- The places of a program as tables hold them.
use Rattle.std.specs.Prelude.{◌≡◌, ℕ, ◌<◌, ◌≤◌, ◌^◌, List, All, None, length, slice_index}
use Rattle.glk_keys.specs.Rows.{row_count}
use Rattle.glk_layout.specs.Layout.{made_address}
use Rattle.glk_layout.specs.Limits.{excess}
use Rattle.glk_layout.specs.Sections.{AreRanges}
use Rattle.glk_merge.specs.Mergings.{IsKey}
use Rattle.glk_placing.specs.Indices.{AreIndices, AreLocationsTo}
use Rattle.glk_placing.specs.Programs.{PlacedProgram, AreSmall, contents_of, made_contents}

-- the sections by number, the made contents, the keys' indices in the list of kept keys, and the kept symbols' locations
pub record HoldsPlaces (s : PlacedProgram) (addrs sizes made indices sections addresses : List ℕ) : Type 0 where
  pub keys : All (IsKey s.program) s.kept
  pub few : length s.kept ≤ 2 ^ 24
  pub small : AreSmall s.made s.tables
  pub within : excess (contents_of s) ≡ None
  pub ranges : AreRanges (contents_of s) addrs sizes
  pub made_count : length made ≡ made_contents
  pub made_at : (i : ℕ) → i < made_contents → slice_index made i ≡ made_address (contents_of s) i
  pub indices_are : AreIndices s.kept (row_count s.program) indices
  pub locations : AreLocationsTo s (length s.kept) sections addresses
