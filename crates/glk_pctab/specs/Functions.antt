-- What the tables of functions are made from.
use Rattle.std.specs.Prelude.{ℕ, zero, suc, ◌+◌, ◌*◌, List, [], ◌∷◌, ◌++◌, length, map, cond, nat_lt, get_or, ℤ, pos, negsuc}
use Rattle.glk_pcval.specs.Table.{ranges}
use Rattle.glk_frames.specs.Object.{Node, Func}
use Rattle.glk_frames.specs.Image.{no_funcdata}

-- an inlined call, with what the object says of its function
pub record InlinedCall : Type 0 where
  pub node : Node
  pub id : ℕ
  pub start_line : ℕ

-- A function of the image, and what its object says of it: its pc tables, its inlined calls, its pcdata and funcdata.
-- `unit` is the index of its unit, the object that it comes from.
pub record Function : Type 0 where
  pub name : List ℕ
  pub unit : ℕ
  pub start : ℕ
  pub args : ℕ
  pub deferreturn : ℕ
  pub start_line : ℕ
  pub id : ℕ
  pub flag : ℕ
  pub pcsp : List ℕ
  pub pcfile : List ℕ
  pub pcline : List ℕ
  pub pcinline : List ℕ
  pub inlined : List InlinedCall
  pub pcdata : List (List ℕ)
  pub funcdata : List ℕ

-- The functions in the order of their addresses, the names of the files of each unit, the address and the size of the
-- text, and the address of the inline trees less the base from which funcdata count.
pub record Pclntab : Type 0 where
  pub functions : List Function
  pub units : List (List (List ℕ))
  pub text : ℕ
  pub text_size : ℕ
  pub trees : ℕ

-- ---- pcdata and funcdata
-- the list with a value at an index, and others up to there
abbrev pub set_at : {A : Type 0} → A → A → ℕ → List A → List A
set_at other value zero [] = value ∷ []
set_at other value zero (x ∷ xs) = value ∷ xs
set_at other value (suc k) [] = other ∷ set_at other value k []
set_at other value (suc k) (x ∷ xs) = x ∷ set_at other value k xs

-- with inlined calls, pcdata 2 is pcinline
abbrev pub pcdata_by : List InlinedCall → Function → List (List ℕ)
pcdata_by [] f = f.pcdata
pcdata_by (call ∷ calls) f = set_at [] f.pcinline 2 f.pcdata

abbrev pub pcdata_of : Function → List (List ℕ)
pcdata_of f = pcdata_by f.inlined f

-- with inlined calls, funcdata 3 is the tree; without, it is an empty place
abbrev pub funcdata_by : List InlinedCall → ℕ → Function → List ℕ
funcdata_by [] tree f = cond (nat_lt 3 (length f.funcdata)) (set_at no_funcdata no_funcdata 3 f.funcdata) f.funcdata
funcdata_by (call ∷ calls) tree f = set_at no_funcdata tree 3 f.funcdata

abbrev pub funcdata_of : ℕ → Function → List ℕ
funcdata_of tree f = funcdata_by f.inlined tree f

-- where the tree of function i is: the trees are one after the other
abbrev pub tree_offset : ℕ → List Function → ℕ → ℕ
tree_offset from [] i = from
tree_offset from (f ∷ fs) zero = from
tree_offset from (f ∷ fs) (suc i) = tree_offset (from + 16 * length f.inlined) fs i

-- the number of inlined calls of all functions
abbrev pub inlined_count : List Function → ℕ
inlined_count [] = 0
inlined_count (f ∷ fs) = length f.inlined + inlined_count fs

-- ---- files
-- the files of a unit; there are none of one that is not there
abbrev pub unit_files : List (List (List ℕ)) → ℕ → List (List ℕ)
unit_files [] u = []
unit_files (files ∷ units) zero = files
unit_files (files ∷ units) (suc u) = unit_files units u

-- the index of a unit's first entry in cutab
abbrev pub first_entry : List (List (List ℕ)) → ℕ → ℕ
first_entry [] u = 0
first_entry (files ∷ units) zero = 0
first_entry (files ∷ units) (suc u) = length files + first_entry units u

-- the entry of a pc table's value, if it is one of the unit's `count` files
abbrev pub entry_of : ℕ → ℕ → ℤ → List ℕ
entry_of first count (negsuc below) = []
entry_of first count (pos k) = cond (nat_lt k count) ((first + k) ∷ []) []

-- the entries of cutab that the values of a pc table name
unfoldable pub entries_of : ℕ → ℕ → List (ℤ × ℕ) → List ℕ
entries_of first count [] = []
entries_of first count (range ∷ ranges) = entry_of first count range.0 ++ entries_of first count ranges

-- and those that functions name
unfoldable pub entries_named : List (List (List ℕ)) → List Function → List ℕ
entries_named units [] = []
entries_named units (f ∷ fs) =
    entries_of (first_entry units f.unit) (length (unit_files units f.unit)) (ranges f.pcfile) ++ entries_named units fs

-- ---- what a reader finds
-- frames of a function as its object has them
abbrev pub func_of : List (List (List ℕ)) → Function → Func
func_of units f = record {
  name = f.name;
  files = unit_files units f.unit;
  pcsp = f.pcsp;
  pcfile = f.pcfile;
  pcline = f.pcline;
  pcinline = f.pcinline;
  nodes = map (λ (call : InlinedCall). call.node) f.inlined;
}

abbrev pub no_function : Function
no_function = record { name = []; unit = 0; start = 0; args = 0; deferreturn = 0; start_line = 0; id = 0; flag = 0; pcsp = []; pcfile = []; pcline = []; pcinline = []; inlined = []; pcdata = []; funcdata = [] }

-- function i
abbrev pub function : Pclntab → ℕ → Function
function t i = get_or t.functions i no_function

abbrev pub func : Pclntab → ℕ → Func
func t i = func_of t.units (function t i)
