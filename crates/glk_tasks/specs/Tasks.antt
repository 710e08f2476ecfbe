-- What init order reads of a merged program. Its symbols are keys; a row that is not the number of a key has no definition and
-- waits for nothing.
use Rattle.std.specs.Prelude.{ℕ, List, [], length, get_or, Bool, Option, Some, None, if◌then◌else◌}
use Rattle.std.specs.List.{filter_map, range_with_len}
use Rattle.std.specs.Option.{option_map_or, unwrap_or}
use Rattle.glk_init.specs.Graph.{InitGraph}
use Rattle.glk_init.specs.declared.program.InitEdge.{InitEdge}
use Rattle.glk_keys.specs.Definitions.{size_at}
use Rattle.glk_keys.specs.Names.{key_name}
use Rattle.glk_keys.specs.Programs.{Program}
use Rattle.glk_keys.specs.Relocations.{relocs_of, reloc_kind, reloc_target, no_reloc}
use Rattle.glk_keys.specs.Rows.{row_count}
use Rattle.glk_keys.specs.declared.target.Target.{Target}
use Rattle.glk_keys.specs.declared.target.Target.TheVariants as means
use Rattle.glk_obj.specs.Records.{Reloc}
use Rattle.glk_obj.specs.declared.kinds.RelocKind.TheVariants.{InitOrder}
use Rattle.glk_reach.specs.Chosen.{is_key, is_defined, chosen_row, of_definition}
use Rattle.glk_reach.specs.RelocKinds.{is_kind}

-- the name of a key
unfoldable pub name_of : Program → ℕ → List ℕ
name_of p k = if is_key p k then key_name p k else []

-- the load position of its chosen definition
unfoldable pub position_of : Program → ℕ → ℕ
position_of p k = unwrap_or (chosen_row p k) 0

-- the size of the symbol of its chosen definition; the row of a made name has the size of its table
unfoldable pub size_of : Program → ℕ → ℕ
size_of p k = option_map_or (size_at p) (chosen_row p k) 0

-- What a key waits for.

-- a relocation is an INITORDER, weak or strong
abbrev pub is_init_order : Program → Reloc → Bool
is_init_order p reloc = is_kind InitOrder (reloc_kind p reloc)

-- what is waited for by relocation i: the key that is meant, or none where no loaded object has it; a reference that means nothing is no edge
abbrev pub edge_to : ℕ → Target → Option InitEdge
edge_to i means.Nothing = None
edge_to i (means.Key key) = Some (record { relocation = i; target = Some key.0 })
edge_to i (means.Missing pkg index) = Some (record { relocation = i; target = None })

-- what is waited for by a relocation of row r, which is its relocation i
abbrev pub edge_of : Program → ℕ → ℕ → Reloc → Option InitEdge
edge_of p r i reloc = if is_init_order p reloc then edge_to i (reloc_target p r reloc) else None

-- by relocation i of row r
abbrev pub edge_at : Program → ℕ → ℕ → Option InitEdge
edge_at p r i = edge_of p r i (get_or (relocs_of p r) i no_reloc)

-- by the first n relocations of row r, in their order
abbrev pub edges_below : Program → ℕ → ℕ → List InitEdge
edges_below p r n = filter_map (edge_at p r) (range_with_len 0 n)

-- by all of them
abbrev pub row_edges : Program → ℕ → List InitEdge
row_edges p r = edges_below p r (length (relocs_of p r))

-- by those of the chosen definition of a key
unfoldable pub edges_of : Program → ℕ → List InitEdge
edges_of p k = of_definition p k (row_edges p) []

-- The program as init order reads it.
abbrev pub init_graph : Program → InitGraph
init_graph p = record {
  keys = row_count p;
  defined = is_defined p;
  name = name_of p;
  position = position_of p;
  size = size_of p;
  edges = edges_of p;
}
