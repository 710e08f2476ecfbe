-- Frames of a function as an image has them.
use Rattle.std.specs.Prelude.{ℕ, ◌+◌, ◌*◌, List, Option, None, Some, cond, nat_lt, ◌==◌, not, ◌&&◌, ℤ, pos, negsuc}
use Rattle.std.specs.Int.{cast_signed, w32}
use Rattle.glk_base.specs.Bytes.{number_at}
use Rattle.glk_pcval.specs.Table.{value_of}
use Rattle.glk_frames.specs.Chain.{Frame, chain, most_frames, or_unknown, or_line_0}
use Rattle.glk_frames.specs.Region.{record_offset, pcdata_count, funcdata_count, pcdata_in, funcdata_in, name_at, table_at, file_at}

-- The functions of an image: the bytes of the region, the memory, which answers the n bytes from an address on or none, the
-- address from which funcdata counts, and the address of findfunctab, if there is one.
pub record Module : Type 0 where
  pub region : List ℕ
  pub memory : ℕ → ℕ → Option (List ℕ)
  pub base : ℕ
  pub buckets : Option ℕ

-- the funcdata of an empty place
abbrev pub no_funcdata : ℕ
no_funcdata = 4294967295

-- The inline index at an offset: pcdata 2, in a record that has a tree as funcdata 3.
unfoldable pub inline_index : List ℕ → ℕ → ℤ → Option ℤ
inline_index r at off =
    cond (nat_lt 2 (pcdata_count r at) && nat_lt 3 (funcdata_count r at) && not (funcdata_in r at 3 == no_funcdata))
    (value_of (table_at r (pcdata_in r at 2)) off) None

-- what a reader has of a node: the offset of its name in funcnametab, and the offset of the call in its caller
abbrev pub node_by : Option (List ℕ) → Option (ℕ × ℤ)
node_by None = None
node_by (Some entry) = Some (number_at 4 entry 4, cast_signed w32 (number_at 4 entry 8))

-- entry i of the tree at an address
unfoldable pub node_in : (ℕ → ℕ → Option (List ℕ)) → ℕ → ℕ → Option (ℕ × ℤ)
node_in memory tree i = node_by (memory (tree + 16 * i) 16)

-- the node of an inline index; there is none below 0
abbrev pub node_at : (ℕ → ℕ → Option (List ℕ)) → ℕ → Option ℤ → Option (ℕ × ℤ)
node_at memory tree None = None
node_at memory tree (Some (negsuc below)) = None
node_at memory tree (Some (pos i)) = node_in memory tree i

-- the file, the line and the name that are shown of the record at an offset
unfoldable pub file_in : List ℕ → ℕ → ℤ → List ℕ
file_in r at off = or_unknown (file_at r (number_at 4 r (at + 32)) (value_of (table_at r (number_at 4 r (at + 20))) off))

unfoldable pub line_in : List ℕ → ℕ → ℤ → ℤ
line_in r at off = or_line_0 (value_of (table_at r (number_at 4 r (at + 24))) off)

unfoldable pub name_in : List ℕ → ℕ → List ℕ
name_in r at = or_unknown (name_at r (number_at 4 r (at + 4)))

-- the frame of a node, or of the function itself, and the offset of the next
abbrev pub frame_in : List ℕ → ℕ → ℤ → Option (ℕ × ℤ) → Frame × Option ℤ
frame_in r at off None = (record { name = name_in r at; file = file_in r at off; line = line_in r at off }, None)
frame_in r at off (Some node) =
    (record { name = or_unknown (name_at r node.0); file = file_in r at off; line = line_in r at off }, Some node.1)

-- the frame at an offset
unfoldable pub step_in : Module → ℕ → ℤ → Frame × Option ℤ
step_in m at off =
    frame_in m.region at off (node_at m.memory (m.base + funcdata_in m.region at 3) (inline_index m.region at off))

-- the frames of function i at an offset
unfoldable pub frames_in : Module → ℕ → ℤ → List Frame
frames_in m i off = chain (step_in m (record_offset m.region i)) most_frames (Some off)

-- the depth of the stack there
unfoldable pub depth_in : List ℕ → ℕ → ℤ → Option ℤ
depth_in r i off = value_of (table_at r (number_at 4 r (record_offset r i + 16))) off
