-- The header of an object and its blocks: where each begins, how wide its records are, how many it has.
use Rattle.std.specs.Prelude.{◌+◌, ◌-◌, ◌*◌, ◌/◌, ◌==◌, ℕ, List, [], ◌∷◌, slice_index, if◌then◌else◌}
use Rattle.glk_base.specs.Bytes.{number_at}

-- The header's parts, in bytes from the object's beginning.

-- a zero byte and "go120ld"
abbrev pub magic : List ℕ
magic = 0 ∷ 103 ∷ 111 ∷ 49 ∷ 50 ∷ 48 ∷ 108 ∷ 100 ∷ []

abbrev pub fingerprint_offset : ℕ
fingerprint_offset = 8

abbrev pub flags_offset : ℕ
flags_offset = 16

-- where the header says where block k begins
abbrev pub header_offset : ℕ → ℕ
header_offset k = 20 + 4 * k

abbrev pub header_length : ℕ
header_length = 96

-- The blocks' numbers. They are in the object in this order.

abbrev pub autolib : ℕ
autolib = 0

abbrev pub pkg_idx : ℕ
pkg_idx = 1

abbrev pub file : ℕ
file = 2

abbrev pub symdef : ℕ
symdef = 3

abbrev pub hashed64def : ℕ
hashed64def = 4

abbrev pub hasheddef : ℕ
hasheddef = 5

abbrev pub nonpkgdef : ℕ
nonpkgdef = 6

abbrev pub nonpkgref : ℕ
nonpkgref = 7

abbrev pub ref_flags : ℕ
ref_flags = 8

abbrev pub hash64 : ℕ
hash64 = 9

abbrev pub hash : ℕ
hash = 10

abbrev pub reloc_idx : ℕ
reloc_idx = 11

abbrev pub aux_idx : ℕ
aux_idx = 12

abbrev pub data_idx : ℕ
data_idx = 13

abbrev pub reloc : ℕ
reloc = 14

abbrev pub aux : ℕ
aux = 15

abbrev pub contents : ℕ
contents = 16

abbrev pub ref_name : ℕ
ref_name = 17

abbrev pub end : ℕ
end = 18

-- The widths of their records.

abbrev pub autolib_width : ℕ
autolib_width = 16

-- of a name in PkgIdx or File
abbrev pub name_width : ℕ
name_width = 8

abbrev pub symbol_width : ℕ
symbol_width = 21

abbrev pub ref_flags_width : ℕ
ref_flags_width = 10

abbrev pub hash64_width : ℕ
hash64_width = 8

-- of an entry of RelocIdx, AuxIdx or DataIdx
abbrev pub entry_width : ℕ
entry_width = 4

abbrev pub reloc_width : ℕ
reloc_width = 23

abbrev pub aux_width : ℕ
aux_width = 9

abbrev pub ref_name_width : ℕ
ref_name_width = 16

-- By block: autolib, two of names, five of symbols, and so on. Hash is here with single bytes,
-- since the width of a long hash is the object's own; so do the data and End.
abbrev pub widths : List ℕ
widths =
    autolib_width ∷ name_width ∷ name_width
    ∷ symbol_width ∷ symbol_width ∷ symbol_width ∷ symbol_width ∷ symbol_width
    ∷ ref_flags_width ∷ hash64_width ∷ 1
    ∷ entry_width ∷ entry_width ∷ entry_width
    ∷ reloc_width ∷ aux_width ∷ 1 ∷ ref_name_width ∷ 1 ∷ []

unfoldable pub width_of : ℕ → ℕ
width_of k = slice_index widths k

-- where block k begins
unfoldable pub offset_of : List ℕ → ℕ → ℕ
offset_of b k = number_at 4 b (header_offset k)

-- how many bytes block k has
abbrev pub extent_of : List ℕ → ℕ → ℕ
extent_of b k = offset_of b (k + 1) - offset_of b k

-- how many records of its width fill block k
abbrev pub fill_of : List ℕ → ℕ → ℕ
fill_of b k = extent_of b k / width_of k

-- how many records block k has; there is one long hash for each Hasheddef, and End has no record
unfoldable pub count : List ℕ → ℕ → ℕ
count b k = if k == hash then fill_of b hasheddef else (if k == end then 0 else fill_of b k)
