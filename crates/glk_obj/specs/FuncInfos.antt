-- What is known of a function beside its code: the data of a symbol that an aux of type 1 names.
use Rattle.std.specs.Prelude.{◌≡◌, ◌+◌, ◌*◌, ◌<◌, ◌≤◌, ◌^◌, ℕ, ℤ, List, length, slice_index}
use Rattle.std.specs.Int.{cast_signed, w32}
use Rattle.glk_base.specs.Bytes.{number_at}
use Rattle.glk_obj.specs.Records.{SymbolRef, ref_at}

-- The parts, in bytes from the beginning of the data. The size of the locals is at 4, and two
-- bytes without a meaning at 10.

abbrev pub args_offset : ℕ
args_offset = 0

abbrev pub func_id_offset : ℕ
func_id_offset = 8

abbrev pub func_flag_offset : ℕ
func_flag_offset = 9

abbrev pub start_line_offset : ℕ
start_line_offset = 12

abbrev pub file_count_offset : ℕ
file_count_offset = 16

-- the numbers of the files follow their count
abbrev pub files_offset : ℕ
files_offset = 20

abbrev pub file_number_width : ℕ
file_number_width = 4

abbrev pub file_count : List ℕ → ℕ
file_count b = number_at 4 b file_count_offset

-- the nodes follow the files, and their count comes first
abbrev pub node_count_offset : List ℕ → ℕ
node_count_offset b = files_offset + file_number_width * file_count b

abbrev pub node_count : List ℕ → ℕ
node_count b = number_at 4 b (node_count_offset b)

abbrev pub nodes_offset : List ℕ → ℕ
nodes_offset b = node_count_offset b + 4

abbrev pub node_width : ℕ
node_width = 24

abbrev pub node_offset : List ℕ → ℕ → ℕ
node_offset b k = nodes_offset b + node_width * k

-- The data have all that the layout asks for; what follows has no meaning. The offset of the nodes
-- is after both counts, so that data which end in or before a count are too short, whatever
-- number is read there.
abbrev pub HoldsFuncInfo : List ℕ → Type 0
HoldsFuncInfo b = node_offset b (node_count b) ≤ length b

abbrev pub args : List ℕ → ℕ
args b = number_at 4 b args_offset

abbrev pub func_id : List ℕ → ℕ
func_id b = slice_index b func_id_offset

abbrev pub func_flag : List ℕ → ℕ
func_flag b = slice_index b func_flag_offset

abbrev pub start_line : List ℕ → ℤ
start_line b = cast_signed w32 (number_at 4 b start_line_offset)

-- a call that was inlined: the node of the call around it, where the call is, what is called, and
-- where in the function the call begins
pub record Node : Type 0 where
  pub parent : ℤ
  pub file : ℕ
  pub line : ℤ
  pub func : SymbolRef
  pub parent_pc : ℤ

abbrev pub node_from : List ℕ → ℕ → Node
node_from b at = record {
  parent = cast_signed w32 (number_at 4 b at);
  file = number_at 4 b (at + 4);
  line = cast_signed w32 (number_at 4 b (at + 8));
  func = ref_at b (at + 12);
  parent_pc = cast_signed w32 (number_at 4 b (at + 20));
}

abbrev pub node_at : List ℕ → ℕ → Node
node_at b k = node_from b (node_offset b k)

-- The data hold a FuncInfo, and this is where its nodes begin and how many they are.
pub record IsRead (b : List ℕ) (start nodes : ℕ) : Type 0 where
  pub whole : HoldsFuncInfo b
  pub start_is : start ≡ nodes_offset b
  pub start_low : start < 2 ^ 40
  pub nodes_is : nodes ≡ node_count b
