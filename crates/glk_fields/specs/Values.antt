-- The value of any field of a kept symbol.
use Rattle.std.specs.Prelude.{ℕ, ℤ, ◌+◌, ◌-◌, Option, Some, None, List, get_or}
use Rattle.std.specs.Option.{option_map, option_and_then}
use Rattle.glk_elf.specs.Image.{image_base}
use Rattle.glk_keys.specs.Programs.{Program}
use Rattle.glk_keys.specs.Relocations.{reloc_kind, reloc_target}
use Rattle.glk_keys.specs.Rows.{unreachable_method, map_init_noop}
use Rattle.glk_keys.specs.declared.target.Target.{Target as KeyTarget}
use Rattle.glk_keys.specs.declared.target.Target.TheVariants as means
use Rattle.glk_layout.specs.Layout.{section_address}
use Rattle.glk_obj.specs.Records.{Reloc, field_start}
use Rattle.glk_obj.specs.declared.kinds.RelocKind.{RelocKind}
use Rattle.glk_placing.specs.Locations.{key_location}
use Rattle.glk_placing.specs.Programs.{PlacedProgram, contents_of}
use Rattle.glk_placing.specs.declared.location.Location.{Location}
use Rattle.glk_reach.specs.Graphs.{stand_in}
use Rattle.glk_reloc.specs.declared.fields.Field.{Field}
use Rattle.glk_reloc.specs.declared.references.StandIns.{StandIns}
use Rattle.glk_reloc.specs.declared.references.Target.{Target}
use Rattle.glk_reloc.specs.References.{field_value}

-- what a field refers to: an address, and where its section starts
abbrev pub located_target : PlacedProgram → Location → Target
located_target s l = record { address = l.address; section = section_address (contents_of s) l.section }

-- what a relocation refers to, if it is kept
abbrev pub kept_target : PlacedProgram → KeyTarget → Option Target
kept_target s means.Nothing = None
kept_target s (means.Key key) = option_map (located_target s) (key_location s key.0)
kept_target s (means.Missing pkg index) = None

-- the address of what stands for a symbol that is not kept, if it is kept itself
unfoldable pub stand_in_address : PlacedProgram → List ℕ → Option ℕ
stand_in_address s name = option_map (λ (l : Location). l.address) (option_and_then (key_location s) (stand_in s.program name))

abbrev pub stand_ins_of : PlacedProgram → StandIns
stand_ins_of s = record {
  unreachable_method = stand_in_address s unreachable_method;
  mapinit_noop = stand_in_address s map_init_noop;
}

-- the value that a relocation of row r writes, if its kind is this and the symbol of the row is at an address; none where the
-- field keeps the data of the object
abbrev pub value_by : PlacedProgram → (r address : ℕ) → Reloc → RelocKind → Option ℤ
value_by s r address reloc kind =
    field_value kind (kept_target s (reloc_target s.program r reloc)) (stand_ins_of s) reloc.add (address + field_start reloc) reloc.size

-- the value that it writes; a number that means no kind writes none
abbrev pub reloc_value : PlacedProgram → (r address : ℕ) → Reloc → Option ℤ
reloc_value s r address reloc = option_and_then (value_by s r address reloc) (reloc_kind s.program reloc)

-- its field, by its offset in the image
abbrev pub field_of : (address : ℕ) → Reloc → RelocKind → ℤ → Field
field_of address reloc kind value =
    record { at = address + field_start reloc - image_base; size = reloc.size; kind = kind; value = value }

-- the field that it writes, if it writes one
unfoldable pub reloc_field : PlacedProgram → (r address : ℕ) → Reloc → Option Field
reloc_field s r address reloc =
    option_and_then (λ kind. option_map (field_of address reloc kind) (value_by s r address reloc kind)) (reloc_kind s.program reloc)
