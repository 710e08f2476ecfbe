-- The faults of type data. Each rule answers its number and the offset that is reported where it is broken, and a
-- reading answers the first of its rules that is.
use Rattle.std.specs.Prelude.{◌+◌, ◌*◌, ◌/◌, ◌%◌, ◌^◌, ◌==◌, ◌&&◌, ℕ, ℤ, List, [], ◌∷◌, Option, Some, None, length, nat_le, nat_lt, Bool, false, if◌then◌else◌}
use Rattle.std.specs.Option.{option_or, option_map, option_map_or}
use Rattle.glk_types.specs.declared.header.TypeBad.{TypeBad}
use Rattle.glk_types.specs.Abi.{abi_type, abi_imethod, abi_kind}
use Rattle.glk_types.specs.Targets.{offset_of, target_of}
use Rattle.glk_types.specs.Types.{has_header, kind_of, can_have_methods, uncommon_offset, method_count, methods_offset, entry_offset, has_uncommon_inside, has_methods_inside, methodoff_offset}

-- the rule and the offset of a refusal
abbrev pub fault_of : TypeBad → ℕ × ℕ
fault_of bad = (bad.rule, bad.offset)

-- a rule that is kept has no fault
abbrev pub broken_unless : Bool → ℕ → ℕ → Option (ℕ × ℕ)
broken_unless kept rule offset = if kept then None else Some (rule, offset)

-- Y1: the data are long enough for abi.Type.
unfoldable pub header_fault : List ℕ → Option (ℕ × ℕ)
header_fault b = broken_unless (has_header b) 1 (length b)

-- Y2: what is called through an interface is a method of an interface type.
unfoldable pub interface_fault : List ℕ → Option (ℕ × ℕ)
interface_fault b = broken_unless (kind_of b == abi_kind.interface) 2 abi_type.kind_

-- Y3: a type with methods is no interface, and an uncommon part follows.
unfoldable pub uncommon_fault : List ℕ → Option (ℕ × ℕ)
uncommon_fault b = broken_unless (can_have_methods b) 3 abi_type.tflag

-- Y4: the uncommon part and the methods are inside the data.
unfoldable pub inside_fault : List ℕ → Option (ℕ × ℕ)
inside_fault b = broken_unless (has_uncommon_inside b && has_methods_inside b) 4 (uncommon_offset b)

-- Y4: so is the method of an interface at an addend. A negative addend is reported as 0, else the low 32 bits.
abbrev pub is_imethod_inside : List ℕ → ℤ → Bool
is_imethod_inside b addend = option_map_or (λ at. nat_le (at + abi_imethod.bytes) (length b)) (offset_of addend) false

abbrev pub reported_addend : ℤ → ℕ
reported_addend addend = option_map_or (λ at. at % 2 ^ 32) (offset_of addend) 0

unfoldable pub imethod_inside_fault : List ℕ → ℤ → Option (ℕ × ℕ)
imethod_inside_fault b addend = broken_unless (is_imethod_inside b addend) 4 (reported_addend addend)

-- Of the offsets of METHODOFF relocations, from number j on, the first that is not that of number j of the methods;
-- where none is another and one lacks, the entry that lacks it.
abbrev pub other_from : ℕ → ℕ → ℕ → List ℕ → Option ℕ
other_from start count j [] = if nat_lt j (3 * count) then Some (entry_offset start (j / 3)) else None
other_from start count j (offset ∷ offsets) =
    if nat_lt j (3 * count) && (offset == methodoff_offset start j) then other_from start count (j + 1) offsets else Some offset

-- Y5: the offsets of the METHODOFF relocations are, in order, those of the methods.
unfoldable pub offsets_fault : List ℕ → List ℕ → Option (ℕ × ℕ)
offsets_fault b offsets = option_map (λ offset. (5, offset)) (other_from (methods_offset b) (method_count b) 0 offsets)

-- Y6: at the offset of a relocation that is read there is one with a target.
unfoldable pub target_fault : List (ℕ × ℕ) → ℕ → Option (ℕ × ℕ)
target_fault at offset = option_map_or (λ target. None) (target_of at offset) (Some (6, offset))

-- what a reading of a type's methods comes to, of the offsets of its METHODOFF relocations
unfoldable pub methods_fault : List ℕ → List ℕ → Option (ℕ × ℕ)
methods_fault b offsets =
    option_or (header_fault b) (option_or (uncommon_fault b) (option_or (inside_fault b) (offsets_fault b offsets)))

-- what a reading of the method of an interface at an addend comes to
unfoldable pub imethod_fault : List ℕ → ℤ → Option (ℕ × ℕ)
imethod_fault b addend = option_or (header_fault b) (option_or (interface_fault b) (imethod_inside_fault b addend))
