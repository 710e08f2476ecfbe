-- The blocks of an object after what is before them.
use Rattle.std.specs.Prelude.{◌≡◌, ℕ, List, ◌++◌, map, flat_map}
use Rattle.glk_objdesc.specs.declared.desc.ObjDesc.{ObjDesc}
use Rattle.glk_objdesc.specs.declared.desc.DefDesc.{DefDesc}
use Rattle.glk_objdesc.specs.declared.parts.Part.{Part}
use Rattle.glk_objdesc.specs.declared.parts.Part.TheVariants.{Content, Relocs, Auxes}
use Rattle.glk_objdesc.specs.Fields.{u32s_bytes, prefix_sums}
use Rattle.glk_objdesc.specs.Canonical.{amount, pool_of, autolib_bytes, name_bytes, def_bytes, symbol_bytes, all_pkgs, ref_flags_bytes, hash_of, table_bytes, relocs_bytes, auxes_bytes, content_of, definitions_of, ref_name_bytes}

-- the blocks up to the symbols
unfoldable pub with_named_blocks : ObjDesc → List ℕ → List ℕ
with_named_blocks d before =
    before
    ++ flat_map (autolib_bytes (pool_of d)) d.autolib
    ++ flat_map (name_bytes (pool_of d)) (all_pkgs d)
    ++ flat_map (name_bytes (pool_of d)) d.files
    ++ flat_map (def_bytes (pool_of d)) d.defs
    ++ flat_map (def_bytes (pool_of d)) d.hash64
    ++ flat_map (def_bytes (pool_of d)) d.hashed
    ++ flat_map (def_bytes (pool_of d)) d.ndefs
    ++ flat_map (symbol_bytes (pool_of d)) d.refs

-- the blocks after the symbols
unfoldable pub with_other_blocks : ObjDesc → List ℕ → List ℕ
with_other_blocks d before =
    before
    ++ flat_map ref_flags_bytes d.ref_flags
    ++ flat_map hash_of d.hash64
    ++ flat_map hash_of d.hashed
    ++ table_bytes Relocs d
    ++ table_bytes Auxes d
    ++ table_bytes Content d
    ++ flat_map relocs_bytes (definitions_of d)
    ++ flat_map auxes_bytes (definitions_of d)
    ++ flat_map content_of (definitions_of d)
    ++ flat_map (ref_name_bytes (pool_of d)) d.ref_names

-- The entries of definitions, from a sum on to another, are added to bytes: further entries follow them as one table.
abbrev pub AddsEntries : Part → ℕ → List DefDesc → ℕ → List ℕ → List ℕ → Type 0
AddsEntries part from defs to old new =
    (more : List ℕ) → new ++ u32s_bytes (prefix_sums to more) ≡ old ++ u32s_bytes (prefix_sums from (map (amount part) defs ++ more))
