-- The records of an object, as functions of its bytes.
use Rattle.std.specs.Prelude.{◌+◌, ◌-◌, ◌*◌, ◌/◌, ◌==◌, ℕ, ℤ, zero, suc, Bool, ◌&&◌, List, Option, Some, None, slice_index, slice_range, if◌then◌else◌}
use Rattle.std.specs.Int.{cast_signed, cast_unsigned, w32, w64}
use Rattle.glk_base.specs.Bytes.{number_at}
use Rattle.glk_obj.specs.Blocks.{offset_of, extent_of, count, fingerprint_offset, flags_offset, autolib_width, name_width, symbol_width, ref_flags_width, hash64_width, entry_width, reloc_width, aux_width, ref_name_width, autolib, pkg_idx, file, symdef, hashed64def, hasheddef, nonpkgdef, nonpkgref, ref_flags, hash64, hash, reloc_idx, aux_idx, data_idx, reloc, aux, contents, ref_name as ref_name_block}

-- a definition, or a reference to a symbol without a package
pub record Symbol : Type 0 where
  pub name : List ℕ
  pub abi : ℕ
  pub kind : ℕ
  pub flag : ℕ
  pub flag2 : ℕ
  pub size : ℕ
  pub align : ℕ

-- which symbol is meant: a package's number, and an index there
pub record SymbolRef : Type 0 where
  pub pkg : ℕ
  pub sym : ℕ

pub record Reloc : Type 0 where
  pub off : ℤ
  pub size : ℕ
  pub kind : ℕ
  pub add : ℤ
  pub target : SymbolRef

pub record Aux : Type 0 where
  pub kind : ℕ
  pub target : SymbolRef

-- where its field begins in the symbol; no symbol with content has one below 0
unfoldable pub field_start : Reloc → ℕ
field_start r = cast_unsigned w32 r.off

-- a package that the object was compiled against
pub record AutolibEntry : Type 0 where
  pub path : List ℕ
  pub fingerprint : List ℕ

-- the flags of a symbol of another package
pub record RefFlag : Type 0 where
  pub target : SymbolRef
  pub flag : ℕ
  pub flag2 : ℕ

-- the name of a symbol of another package
pub record RefName : Type 0 where
  pub target : SymbolRef
  pub name : List ℕ

-- The parts of records, from the offset where they begin.

-- the string that is named here: its length, and its offset in the object
unfoldable pub text_at : List ℕ → ℕ → List ℕ
text_at b at = slice_range b (number_at 4 b (at + 4)) (number_at 4 b (at + 4) + number_at 4 b at)

abbrev pub ref_at : List ℕ → ℕ → SymbolRef
ref_at b at = record { pkg = number_at 4 b at; sym = number_at 4 b (at + 4) }

-- the offsets in a symbol's record, after its name

abbrev pub abi_offset : ℕ
abi_offset = 8

abbrev pub kind_offset : ℕ
kind_offset = 10

abbrev pub flag_offset : ℕ
flag_offset = 11

abbrev pub flag2_offset : ℕ
flag2_offset = 12

abbrev pub size_offset : ℕ
size_offset = 13

abbrev pub align_offset : ℕ
align_offset = 17

abbrev pub symbol_from : List ℕ → ℕ → Symbol
symbol_from b at = record {
  name = text_at b at;
  abi = number_at 2 b (at + abi_offset);
  kind = slice_index b (at + kind_offset);
  flag = slice_index b (at + flag_offset);
  flag2 = slice_index b (at + flag2_offset);
  size = number_at 4 b (at + size_offset);
  align = number_at 4 b (at + align_offset);
}

abbrev pub reloc_from : List ℕ → ℕ → Reloc
reloc_from b at = record {
  off = cast_signed w32 (number_at 4 b at);
  size = slice_index b (at + 4);
  kind = number_at 2 b (at + 5);
  add = cast_signed w64 (number_at 8 b (at + 7));
  target = ref_at b (at + 15);
}

abbrev pub aux_from : List ℕ → ℕ → Aux
aux_from b at = record { kind = slice_index b at; target = ref_at b (at + 1) }

abbrev pub autolib_from : List ℕ → ℕ → AutolibEntry
autolib_from b at = record { path = text_at b at; fingerprint = slice_range b (at + 8) (at + 16) }

abbrev pub ref_flags_from : List ℕ → ℕ → RefFlag
ref_flags_from b at = record { target = ref_at b at; flag = slice_index b (at + 8); flag2 = slice_index b (at + 9) }

-- The header.

abbrev pub fingerprint : List ℕ → List ℕ
fingerprint b = slice_range b fingerprint_offset (fingerprint_offset + 8)

abbrev pub flags : List ℕ → ℕ
flags b = number_at 4 b flags_offset

-- The symbols: local indices run through Symdef, Hashed64def, Hasheddef, Nonpkgdef and Nonpkgref.

abbrev pub symbols : List ℕ → ℕ
symbols b = count b symdef + count b hashed64def + count b hasheddef + count b nonpkgdef + count b nonpkgref

-- the first four blocks are definitions
abbrev pub definitions : List ℕ → ℕ
definitions b = count b symdef + count b hashed64def + count b hasheddef + count b nonpkgdef

abbrev pub symbol_offset : List ℕ → ℕ → ℕ
symbol_offset b i = offset_of b symdef + symbol_width * i

abbrev pub symbol_at : List ℕ → ℕ → Symbol
symbol_at b i = symbol_from b (symbol_offset b i)

-- The tables of indices: RelocIdx, AuxIdx and DataIdx. What definition i has in the block that a
-- table points into goes from entry i to before entry i + 1.

abbrev pub entry_offset : List ℕ → ℕ → ℕ → ℕ
entry_offset b t i = offset_of b t + entry_width * i

abbrev pub entry_at : List ℕ → ℕ → ℕ → ℕ
entry_at b t i = number_at 4 b (entry_offset b t i)

abbrev pub data_index : List ℕ → ℕ → ℕ
data_index b i = entry_at b data_idx i

abbrev pub data_length : List ℕ → ℕ → ℕ
data_length b i = data_index b (i + 1) - data_index b i

abbrev pub data_at : List ℕ → ℕ → List ℕ
data_at b i = slice_range b (offset_of b contents + data_index b i) (offset_of b contents + data_index b (i + 1))

abbrev pub reloc_index : List ℕ → ℕ → ℕ
reloc_index b i = entry_at b reloc_idx i

abbrev pub reloc_count : List ℕ → ℕ → ℕ
reloc_count b i = reloc_index b (i + 1) - reloc_index b i

-- the offset of relocation k of definition i
abbrev pub reloc_offset : List ℕ → ℕ → ℕ → ℕ
reloc_offset b i k = offset_of b reloc + reloc_width * (reloc_index b i + k)

abbrev pub reloc_at : List ℕ → ℕ → ℕ → Reloc
reloc_at b i k = reloc_from b (reloc_offset b i k)

abbrev pub aux_index : List ℕ → ℕ → ℕ
aux_index b i = entry_at b aux_idx i

abbrev pub aux_count : List ℕ → ℕ → ℕ
aux_count b i = aux_index b (i + 1) - aux_index b i

abbrev pub aux_offset : List ℕ → ℕ → ℕ → ℕ
aux_offset b i k = offset_of b aux + aux_width * (aux_index b i + k)

abbrev pub aux_at : List ℕ → ℕ → ℕ → Aux
aux_at b i k = aux_from b (aux_offset b i k)

-- The other blocks.

abbrev pub autolib_at : List ℕ → ℕ → AutolibEntry
autolib_at b k = autolib_from b (offset_of b autolib + autolib_width * k)

abbrev pub pkg_at : List ℕ → ℕ → List ℕ
pkg_at b k = text_at b (offset_of b pkg_idx + name_width * k)

abbrev pub file_at : List ℕ → ℕ → List ℕ
file_at b k = text_at b (offset_of b file + name_width * k)

abbrev pub ref_flags_at : List ℕ → ℕ → RefFlag
ref_flags_at b k = ref_flags_from b (offset_of b ref_flags + ref_flags_width * k)

abbrev pub hash64_offset : List ℕ → ℕ → ℕ
hash64_offset b k = offset_of b hash64 + hash64_width * k

-- the short hash of Hashed64def k
abbrev pub hash64_at : List ℕ → ℕ → List ℕ
hash64_at b k = slice_range b (hash64_offset b k) (hash64_offset b k + hash64_width)

-- the length of each long hash
abbrev pub hash_length : List ℕ → ℕ
hash_length b = extent_of b hash / count b hasheddef

-- the width of the long hashes, where there are any
unfoldable pub hash_width : List ℕ → Option ℕ
hash_width b = if count b hasheddef == 0 then None else Some (hash_length b)

abbrev pub hash_offset : List ℕ → ℕ → ℕ
hash_offset b k = offset_of b hash + hash_length b * k

-- the long hash of Hasheddef k
abbrev pub hash_at : List ℕ → ℕ → List ℕ
hash_at b k = slice_range b (hash_offset b k) (hash_offset b k + hash_length b)

abbrev pub ref_name_offset : List ℕ → ℕ → ℕ
ref_name_offset b k = offset_of b ref_name_block + ref_name_width * k

-- record k of RefName
abbrev pub ref_name_at : List ℕ → ℕ → RefName
ref_name_at b k = record { target = ref_at b (ref_name_offset b k); name = text_at b (ref_name_offset b k + 8) }

abbrev pub same_ref : SymbolRef → SymbolRef → Bool
same_ref r s = (r.pkg == s.pkg) && (r.sym == s.sym)

-- the name in the first record of RefName that is of r, among the n records from record k on
abbrev pub ref_name_from : List ℕ → SymbolRef → ℕ → ℕ → Option (List ℕ)
ref_name_from b r k zero = None
ref_name_from b r k (suc n) =
    if same_ref (ref_name_at b k).target r
    then Some (ref_name_at b k).name
    else ref_name_from b r (k + 1) n

-- the name that the first RefName record of r gives it
abbrev pub ref_name : List ℕ → SymbolRef → Option (List ℕ)
ref_name b r = ref_name_from b r 0 (count b ref_name_block)
