-- The relocations and auxes of rows.
use Rattle.std.specs.Prelude.{pos, ℕ, ◌%◌, ◌^◌, Bool, List, [], map, Option, if◌then◌else◌}
use Rattle.std.specs.List.{range_with_len}
use Rattle.glk_obj.specs.Flags.{has_bit}
use Rattle.glk_obj.specs.Numbers.{kind_of}
use Rattle.glk_obj.specs.Records.{Reloc, Aux, reloc_count, reloc_at, aux_count, aux_at}
use Rattle.glk_obj.specs.declared.kinds.RelocKind.{RelocKind}
use Rattle.glk_keys.specs.declared.target.Target.{Target}
use Rattle.glk_keys.specs.Programs.{Program}
use Rattle.glk_keys.specs.Rows.{row_at, object_at, is_definition}
use Rattle.glk_keys.specs.Targets.{target_of}

-- the relocations of symbol i of an object
abbrev pub object_relocs : List ℕ → ℕ → List Reloc
object_relocs b i = map (reloc_at b i) (range_with_len 0 (reloc_count b i))

-- its auxes
abbrev pub object_auxes : List ℕ → ℕ → List Aux
object_auxes b i = map (aux_at b i) (range_with_len 0 (aux_count b i))

-- the relocations of a row, in their order; a reference has none
unfoldable pub relocs_of : Program → ℕ → List Reloc
relocs_of p r =
    if is_definition (row_at p r) then object_relocs (object_at p (row_at p r).object) (row_at p r).local else []

-- the auxes of a row, in their order; a reference has none
unfoldable pub auxes_of : Program → ℕ → List Aux
auxes_of p r =
    if is_definition (row_at p r) then object_auxes (object_at p (row_at p r).object) (row_at p r).local else []

-- what follows the last relocation, and the last aux
abbrev pub no_reloc : Reloc
no_reloc = record { off = pos 0; size = 0; kind = 0; add = pos 0; target = record { pkg = 0; sym = 0 } }

abbrev pub no_aux : Aux
no_aux = record { kind = 0; target = record { pkg = 0; sym = 0 } }

-- the bit of a relocation's number that says that it is weak
abbrev pub weak_bit : ℕ
weak_bit = 15

-- a weak relocation; a rule that looks at one relocation looks at strong ones alone
abbrev pub is_weak : Reloc → Bool
is_weak reloc = has_bit reloc.kind weak_bit

-- the kind of a relocation: what its number means without that bit
abbrev pub reloc_kind : Program → Reloc → Option RelocKind
reloc_kind p reloc = kind_of p.numbers (reloc.kind % 2 ^ weak_bit)

-- what a relocation of row r means
abbrev pub reloc_target : Program → ℕ → Reloc → Target
reloc_target p r reloc = target_of p (row_at p r).object reloc.target

-- what an aux of row r means
abbrev pub aux_target : Program → ℕ → Aux → Target
aux_target p r aux = target_of p (row_at p r).object aux.target
