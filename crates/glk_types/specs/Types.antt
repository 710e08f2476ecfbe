-- What the data of a type say of it.
use Rattle.std.specs.Prelude.{◌+◌, ◌*◌, ◌/◌, ◌%◌, ◌^◌, ◌==◌, ◌&&◌, ◌||◌, ℕ, List, length, nat_le, slice_index, bit_and, Bool, not, if◌then◌else◌}
use Rattle.glk_base.specs.Bytes.{number_at}
use Rattle.glk_types.specs.Abi.{abi_type, abi_uncommon_type, abi_method, abi_kind, kind_mask, uncommon_bit, extra_star_bit, own_bytes}

-- the data are long enough for abi.Type
abbrev pub has_header : List ℕ → Bool
has_header b = nat_le abi_type.bytes (length b)

-- the type's kind
unfoldable pub kind_of : List ℕ → ℕ
kind_of b = bit_and (slice_index b abi_type.kind_) kind_mask

-- the bit that says that an uncommon part follows
unfoldable pub has_uncommon : List ℕ → Bool
has_uncommon b = not (bit_and (slice_index b abi_type.tflag) (2 ^ uncommon_bit) == 0)

-- the bit that says that the string has a star as its first byte that is not the type's
unfoldable pub has_extra_star : List ℕ → Bool
has_extra_star b = not (bit_and (slice_index b abi_type.tflag) (2 ^ extra_star_bit) == 0)

-- the uncommon part of an interface type is not read
abbrev pub can_have_methods : List ℕ → Bool
can_have_methods b = not (kind_of b == abi_kind.interface) && has_uncommon b

-- where the uncommon part starts
unfoldable pub uncommon_offset : List ℕ → ℕ
uncommon_offset b = abi_type.bytes + own_bytes (kind_of b)

-- how many methods there are
unfoldable pub method_count : List ℕ → ℕ
method_count b = number_at 2 b (uncommon_offset b + abi_uncommon_type.mcount)

-- where the entries of the methods start
unfoldable pub methods_offset : List ℕ → ℕ
methods_offset b = uncommon_offset b + number_at 4 b (uncommon_offset b + abi_uncommon_type.moff)

-- where entry k is, of entries of methods from this offset on
abbrev pub entry_offset : ℕ → ℕ → ℕ
entry_offset start k = start + abi_method.bytes * k

-- the uncommon part is inside the data
abbrev pub has_uncommon_inside : List ℕ → Bool
has_uncommon_inside b = nat_le (uncommon_offset b + abi_uncommon_type.bytes) (length b)

-- and so are the entries of all methods, if there are any
abbrev pub has_methods_inside : List ℕ → Bool
has_methods_inside b = method_count b == 0 || nat_le (entry_offset (methods_offset b) (method_count b)) (length b)

-- the three fields of a method's entry that METHODOFF relocations fill, in their order
abbrev pub methodoff_field : ℕ → ℕ
methodoff_field i = if i == 0 then abi_method.mtyp else (if i == 1 then abi_method.ifn else abi_method.tfn)

-- the offset of METHODOFF number j of all methods, whose entries are from this offset on
unfoldable pub methodoff_offset : ℕ → ℕ → ℕ
methodoff_offset start j = entry_offset start (j / 3) + methodoff_field (j % 3)
