-- The relocations of the definitions, one range after another.
use Rattle.std.proofs.Common.{◌≡◌, ◌+◌, ◌*◌, ◌<◌, ◌≤◌, ℕ, List, length, arith}
use Rattle.glk_obj.specs.Blocks.{offset_of, count, width_of, reloc, reloc_idx, reloc_width, aux, aux_idx, aux_width, contents, data_idx, ref_name}
use Rattle.glk_obj.specs.Layout.{HasLayout}
use Rattle.glk_obj.specs.Positive.{HasIndexTables}
use Rattle.glk_obj.specs.Records.{definitions, data_index, reloc_index, reloc_count, reloc_offset, aux_index, aux_count, aux_offset}
use Rattle.glk_obj.specs.Rules.{RelocFault}
use Rattle.glk_obj.proofs.LeastOffsets.{Ranges}
use Rattle.glk_obj.proofs.TableOffsets.{entry_mono}

-- relocation k of definition i is one of the records of Reloc
pub reloc_inside : (b : List ℕ) (i k : ℕ) → HasIndexTables b → i < definitions b → k < reloc_count b i → reloc_index b i + k < count b reloc
reloc_inside b i k tables definition index =
    let within : reloc_index b (i + 1) ≤ count b reloc = tables.within reloc_idx (i + 1) (omega arith, omega arith) (omega arith) in
    omega arith

pub aux_inside : (b : List ℕ) (i k : ℕ) → HasIndexTables b → i < definitions b → k < aux_count b i → aux_index b i + k < count b aux
aux_inside b i k tables definition index =
    let within : aux_index b (i + 1) ≤ count b aux = tables.within aux_idx (i + 1) (omega arith, omega arith) (omega arith) in
    omega arith

-- the relocations, the auxes and the data fill their blocks
pub relocs_fill : (b : List ℕ) → HasLayout b → offset_of b reloc + reloc_width * count b reloc ≤ length b
unfolding width_of
relocs_fill b layout =
    let whole : offset_of b aux ≡ offset_of b reloc + reloc_width * count b reloc = layout.whole reloc (omega arith) (λ h. omega arith) in
    let within : offset_of b aux ≤ length b = layout.within aux (omega arith) in
    omega arith

pub auxes_fill : (b : List ℕ) → HasLayout b → offset_of b aux + aux_width * count b aux ≤ length b
unfolding width_of
auxes_fill b layout =
    let whole : offset_of b contents ≡ offset_of b aux + aux_width * count b aux = layout.whole aux (omega arith) (λ h. omega arith) in
    let within : offset_of b contents ≤ length b = layout.within contents (omega arith) in
    omega arith

pub data_fill : (b : List ℕ) → HasLayout b → offset_of b contents + count b contents ≤ length b
unfolding width_of
data_fill b layout =
    let whole : offset_of b ref_name ≡ offset_of b contents + 1 * count b contents = layout.whole contents (omega arith) (λ h. omega arith) in
    let within : offset_of b ref_name ≤ length b = layout.within ref_name (omega arith) in
    omega arith

-- a definition's relocations stand in the file, and so do its auxes and its data
pub reloc_room : (b : List ℕ) (i k : ℕ) → HasLayout b → HasIndexTables b → i < definitions b → k < reloc_count b i → reloc_offset b i k + reloc_width ≤ length b
reloc_room b i k layout tables definition index =
    let inside : reloc_index b i + k < count b reloc = reloc_inside b i k tables definition index in
    let fill : offset_of b reloc + reloc_width * count b reloc ≤ length b = relocs_fill b layout in
    omega arith

pub aux_room : (b : List ℕ) (i k : ℕ) → HasLayout b → HasIndexTables b → i < definitions b → k < aux_count b i → aux_offset b i k + aux_width ≤ length b
aux_room b i k layout tables definition index =
    let inside : aux_index b i + k < count b aux = aux_inside b i k tables definition index in
    let fill : offset_of b aux + aux_width * count b aux ≤ length b = auxes_fill b layout in
    omega arith

pub data_room : (b : List ℕ) (i : ℕ) → HasLayout b → HasIndexTables b → i < definitions b → offset_of b contents + data_index b (i + 1) ≤ length b
data_room b i layout tables definition =
    let within : data_index b (i + 1) ≤ count b contents = tables.within data_idx (i + 1) (omega arith, omega arith) (omega arith) in
    let fill : offset_of b contents + count b contents ≤ length b = data_fill b layout in
    omega arith

-- the ranges of relocations follow one another
pub reloc_ranges : (b : List ℕ) → HasIndexTables b → Ranges (definitions b) (λ i. reloc_offset b i 0) (RelocFault b)
reloc_ranges b tables = record {
  rise = λ j k below inside. let e : reloc_index b j ≤ reloc_index b k = entry_mono b reloc_idx j k tables (omega arith, omega arith) below inside in omega arith;
  from = λ t offset among fault. omega (arith, fault.at);
  to = λ t offset among fault. omega (arith, fault.at, fault.inside);
}
