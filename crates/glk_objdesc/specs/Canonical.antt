-- The canonical bytes of an object: the header, the strings of first use, then the blocks without gaps.
use Rattle.std.specs.Prelude.{◌≡◌, ◌<◌, ℕ, ◌+◌, ◌-◌, ◌^◌, ◌==◌, if◌then◌else◌, List, [], ◌∷◌, ◌++◌, length, map, min, flat_map}
use Rattle.std.specs.Int.{cast_unsigned, w32, w64}
use Rattle.glk_base.specs.declared.fault.Fault.{Fault}
use Rattle.glk_base.specs.declared.fault.Fault.TheVariants.{Bad, OutOfMemory}
use Rattle.glk_base.specs.declared.fault.TooBig.{TooBig}
use Rattle.glk_obj.specs.Blocks.{magic, header_length}
use Rattle.glk_obj.specs.declared.records.RelocRec.{RelocRec}
use Rattle.glk_obj.specs.declared.records.AuxRec.{AuxRec}
use Rattle.glk_obj.specs.declared.records.RefFlagsRec.{RefFlagsRec}
use Rattle.glk_objdesc.specs.declared.desc.AutolibDesc.{AutolibDesc}
use Rattle.glk_objdesc.specs.declared.desc.SymDesc.{SymDesc}
use Rattle.glk_objdesc.specs.declared.desc.DefDesc.{DefDesc}
use Rattle.glk_objdesc.specs.declared.desc.RefNameDesc.{RefNameDesc}
use Rattle.glk_objdesc.specs.declared.desc.ObjDesc.{ObjDesc}
use Rattle.glk_objdesc.specs.declared.parts.Part.{Part}
use Rattle.glk_objdesc.specs.declared.parts.Part.TheVariants.{Hash, Content, Relocs, Auxes}
use Rattle.glk_objdesc.specs.Fields.{u32s_bytes, prefix_sums}
use Rattle.glk_base.specs.Fields.{byte, u16, u32, u64, fields_bytes}
use Rattle.glk_objdesc.specs.FirstUse.{first_use, concat_of, offset_in}

-- The strings, in the order of the blocks that name them. PkgIdx begins with the empty string.

abbrev pub autolib_path : AutolibDesc → List ℕ
autolib_path a = a.path

abbrev pub def_name : DefDesc → List ℕ
def_name def = def.sym.name

abbrev pub sym_name : SymDesc → List ℕ
sym_name s = s.name

abbrev pub ref_name : RefNameDesc → List ℕ
ref_name r = r.name

abbrev pub all_pkgs : ObjDesc → List (List ℕ)
all_pkgs d = [] ∷ d.pkgs

abbrev pub strings_of : ObjDesc → List (List ℕ)
strings_of d =
    map autolib_path d.autolib
    ++ all_pkgs d
    ++ d.files
    ++ map def_name d.defs
    ++ map def_name d.hash64
    ++ map def_name d.hashed
    ++ map def_name d.ndefs
    ++ map sym_name d.refs
    ++ map ref_name d.ref_names

-- each string once
unfoldable pub pool_of : ObjDesc → List (List ℕ)
pool_of d = first_use (strings_of d)

-- The offset of a string in the object. The empty string takes no room.
unfoldable pub text_offset : List (List ℕ) → List ℕ → ℕ
text_offset pool s = if length s == 0 then 0 else header_length + offset_in pool s

-- The records. A string is named by its length and its offset.

abbrev pub autolib_bytes : List (List ℕ) → AutolibDesc → List ℕ
autolib_bytes pool a = fields_bytes (u32 (length a.path) ∷ u32 (text_offset pool a.path) ∷ []) ++ a.fingerprint

-- of a package or a file
abbrev pub name_bytes : List (List ℕ) → List ℕ → List ℕ
name_bytes pool s = fields_bytes (u32 (length s) ∷ u32 (text_offset pool s) ∷ [])

abbrev pub symbol_bytes : List (List ℕ) → SymDesc → List ℕ
symbol_bytes pool s =
    fields_bytes
    (u32 (length s.name) ∷ u32 (text_offset pool s.name) ∷ u16 s.abi ∷ byte s.kind ∷ byte s.flag ∷ byte s.flag2
    ∷ u32 s.size ∷ u32 s.align ∷ [])

abbrev pub def_bytes : List (List ℕ) → DefDesc → List ℕ
def_bytes pool def = symbol_bytes pool def.sym

abbrev pub ref_flags_bytes : RefFlagsRec → List ℕ
ref_flags_bytes r = fields_bytes (u32 r.target.pkg ∷ u32 r.target.sym ∷ byte r.flag ∷ byte r.flag2 ∷ [])

abbrev pub reloc_bytes : RelocRec → List ℕ
reloc_bytes r =
    fields_bytes
    (u32 (cast_unsigned w32 r.off) ∷ byte r.size ∷ u16 r.kind ∷ u64 (cast_unsigned w64 r.add)
    ∷ u32 r.target.pkg ∷ u32 r.target.sym ∷ [])

abbrev pub aux_bytes : AuxRec → List ℕ
aux_bytes a = fields_bytes (byte a.kind ∷ u32 a.target.pkg ∷ u32 a.target.sym ∷ [])

abbrev pub ref_name_bytes : List (List ℕ) → RefNameDesc → List ℕ
ref_name_bytes pool r =
    fields_bytes
    (u32 r.target.pkg ∷ u32 r.target.sym ∷ u32 (length r.name) ∷ u32 (text_offset pool r.name) ∷ [])

-- What a definition has.

abbrev pub definitions_of : ObjDesc → List DefDesc
definitions_of d = d.defs ++ (d.hash64 ++ (d.hashed ++ d.ndefs))

abbrev pub hash_of : DefDesc → List ℕ
hash_of def = def.hash

abbrev pub content_of : DefDesc → List ℕ
content_of def = def.content

unfoldable pub relocs_bytes : DefDesc → List ℕ
relocs_bytes def = flat_map reloc_bytes def.relocs

unfoldable pub auxes_bytes : DefDesc → List ℕ
auxes_bytes def = flat_map aux_bytes def.auxes

-- how many records or bytes a definition has in a block
abbrev pub amount : Part → DefDesc → ℕ
amount Hash def = length def.hash
amount Content def = length def.content
amount Relocs def = length def.relocs
amount Auxes def = length def.auxes

-- A table of indices: where each definition's part of the block begins, and the end of the last one's.
unfoldable pub table_bytes : Part → ObjDesc → List ℕ
table_bytes part d = u32s_bytes (prefix_sums 0 (map (amount part) (definitions_of d)))

-- The blocks in order.
unfoldable pub blocks_of : ObjDesc → List (List ℕ)
blocks_of d =
    flat_map (autolib_bytes (pool_of d)) d.autolib
    ∷ flat_map (name_bytes (pool_of d)) (all_pkgs d)
    ∷ flat_map (name_bytes (pool_of d)) d.files
    ∷ flat_map (def_bytes (pool_of d)) d.defs
    ∷ flat_map (def_bytes (pool_of d)) d.hash64
    ∷ flat_map (def_bytes (pool_of d)) d.hashed
    ∷ flat_map (def_bytes (pool_of d)) d.ndefs
    ∷ flat_map (symbol_bytes (pool_of d)) d.refs
    ∷ flat_map ref_flags_bytes d.ref_flags
    ∷ flat_map hash_of d.hash64
    ∷ flat_map hash_of d.hashed
    ∷ table_bytes Relocs d
    ∷ table_bytes Auxes d
    ∷ table_bytes Content d
    ∷ flat_map relocs_bytes (definitions_of d)
    ∷ flat_map auxes_bytes (definitions_of d)
    ∷ flat_map content_of (definitions_of d)
    ∷ flat_map (ref_name_bytes (pool_of d)) d.ref_names
    ∷ []

-- where the blocks begin, and where the last one ends: they follow the strings without gaps
abbrev pub offsets_of : ObjDesc → List ℕ
offsets_of d = prefix_sums (header_length + length (concat_of (pool_of d))) (map length (blocks_of d))

-- the header: magic, fingerprint, flags, and where each block begins
unfoldable pub header_of : ObjDesc → List ℕ
header_of d = magic ++ (d.fingerprint ++ (fields_bytes (u32 d.flags ∷ []) ++ u32s_bytes (offsets_of d)))

-- the canonical bytes
unfoldable pub object_bytes : ObjDesc → List ℕ
object_bytes d = header_of d ++ (concat_of (pool_of d) ++ concat_of (blocks_of d))

-- the most bytes that an object may have
abbrev pub object_limit : ℕ
object_limit = 2 ^ 30 - 128

-- a number of bytes, clamped to u64
unfoldable pub clamped : ℕ → ℕ
clamped n = min n (2 ^ 64 - 1)

-- The object passes the limit, and this is its length.
abbrev pub IsPast : ObjDesc → TooBig → Type 0
IsPast d bad = (object_limit < length (object_bytes d)) × (bad.number ≡ clamped (length (object_bytes d)))

abbrev pub Refuses : ObjDesc → Fault TooBig → Type 0
Refuses d (Bad bad) = IsPast d bad
Refuses d OutOfMemory = Unit {0}
