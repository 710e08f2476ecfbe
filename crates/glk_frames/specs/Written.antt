-- What a writer puts into an image for a function: its record, its names, tables and files, and its tree.
use Rattle.std.specs.Prelude.{ℕ, ◌≡◌, ◌≢◌, ◌+◌, ◌*◌, ◌^◌, ◌<◌, ◌≤◌, List, [], ◌∷◌, ◌++◌, length, Option, None, Some, ◌⊎◌, ℤ, pos, get_or}
use Rattle.std.specs.Int.{cast_signed, cast_unsigned, w32}
use Rattle.glk_base.specs.BytesAt.{IsAt}
use Rattle.glk_base.specs.Fields.{fields_bytes, byte, u32}
use Rattle.glk_pcval.specs.Table.{value_of, IsTable}
use Rattle.glk_frames.specs.Chain.{at_index}
use Rattle.glk_frames.specs.Object.{Node, Func}
use Rattle.glk_frames.specs.Region.{funcnametab_offset, cutab_offset, filetab_offset, pctab_offset, record_offset, no_file}
use Rattle.glk_frames.specs.Image.{Module, no_funcdata}

-- the numbers of a function's record
pub record Record : Type 0 where
  pub start : ℕ
  pub name : ℕ
  pub args : ℕ
  pub deferreturn : ℕ
  pub pcsp : ℕ
  pub pcfile : ℕ
  pub pcline : ℕ
  pub unit : ℕ
  pub start_line : ℕ
  pub id : ℕ
  pub flag : ℕ
  pub pcdata : List ℕ
  pub funcdata : List ℕ

-- its first 44 bytes
abbrev pub head_fields : Record → List (ℕ × ℕ)
head_fields x =
    u32 x.start ∷ u32 x.name ∷ u32 x.args ∷ u32 x.deferreturn ∷ u32 x.pcsp ∷ u32 x.pcfile ∷ u32 x.pcline
    ∷ u32 (length x.pcdata) ∷ u32 x.unit ∷ u32 x.start_line ∷ byte x.id ∷ byte x.flag ∷ byte 0 ∷ byte (length x.funcdata) ∷ []

-- numbers of four bytes, one after the other
unfoldable pub u32s_bytes : List ℕ → List ℕ
u32s_bytes [] = []
u32s_bytes (n ∷ ns) = fields_bytes (u32 n ∷ []) ++ u32s_bytes ns

-- the whole record: the fields, then its pcdata and funcdata
unfoldable pub record_bytes : Record → List ℕ
record_bytes x = fields_bytes (head_fields x) ++ (u32s_bytes x.pcdata ++ u32s_bytes x.funcdata)

-- an entry of an inline tree
pub record Entry : Type 0 where
  pub id : ℕ
  pub name : ℕ
  pub parent : ℤ
  pub start_line : ℕ

abbrev pub entry_fields : Entry → List (ℕ × ℕ)
entry_fields e = byte e.id ∷ byte 0 ∷ byte 0 ∷ byte 0 ∷ u32 e.name ∷ u32 (cast_unsigned w32 e.parent) ∷ u32 e.start_line ∷ []

-- the entries of a tree
unfoldable pub tree_bytes : List Entry → List ℕ
tree_bytes [] = []
tree_bytes (e ∷ es) = fields_bytes (entry_fields e) ++ tree_bytes es

-- a name is at an offset of funcnametab, with its zero byte
pub record IsNameAt (r : List ℕ) (offset : ℕ) (name : List ℕ) : Type 0 where
  pub fits : offset < 2 ^ 32
  pub is_at : IsAt r (funcnametab_offset r + offset) (name ++ 0 ∷ [])

-- a pc table that has bytes is at an offset of pctab, after its first byte
pub record IsStoredTable (r : List ℕ) (offset : ℕ) (table : List ℕ) : Type 0 where
  pub some : table ≢ []
  pub later : 0 < offset
  pub whole : IsTable table
  pub is_at : IsAt r (pctab_offset r + offset) table

-- the empty table has offset 0
abbrev pub IsTableAt : List ℕ → ℕ → List ℕ → Type 0
IsTableAt r offset table = (offset < 2 ^ 32) × (((offset ≡ 0) × (table ≡ [])) ⊎ IsStoredTable r offset table)

-- entry k of cutab has the offset of a file's name in filetab
pub record IsFileAt (r : List ℕ) (k : ℕ) (name : List ℕ) : Type 0 where
  pub offset : ℕ
  pub fits : offset < no_file
  pub entry : IsAt r (cutab_offset r + 4 * k) (fields_bytes (u32 offset ∷ []))
  pub is_at : IsAt r (filetab_offset r + offset) (name ++ 0 ∷ [])

-- an entry of the tree says the same as the node
pub record IsEntryOf (r : List ℕ) (node : Node) (e : Entry) : Type 0 where
  pub name : IsNameAt r e.name node.name
  pub parent : e.parent ≡ node.parent
  pub signed : cast_signed w32 (cast_unsigned w32 e.parent) ≡ e.parent
  pub fits : cast_unsigned w32 e.parent < 2 ^ 32

-- entry i of a tree at an address can be read
abbrev pub EntryIn : (ℕ → ℕ → Option (List ℕ)) → ℕ → ℕ → Entry → Type 0
EntryIn memory tree i e = memory (tree + 16 * i) 16 ≡ Some (fields_bytes (entry_fields e))

-- a record with a tree: pcdata 2 is pcinline, whose values are nodes, and funcdata 3 the tree
pub record HasTree (m : Module) (f : Func) (x : Record) : Type 0 where
  pub pcdata : 2 < length x.pcdata
  pub funcdata : 3 < length x.funcdata
  pub tree : get_or x.funcdata 3 0 ≢ no_funcdata
  pub pcinline : IsTableAt m.region (get_or x.pcdata 2 0) f.pcinline
  pub inside : (off : ℤ) (k : ℕ) → value_of f.pcinline off ≡ Some (pos k)
      → (node : Node) × (at_index f.nodes k ≡ Some node)
  pub entries : (k : ℕ) (node : Node) → at_index f.nodes k ≡ Some node
      → (e : Entry) × IsEntryOf m.region node e × EntryIn m.memory (m.base + get_or x.funcdata 3 0) k e

-- or without one: there are no nodes, and funcdata 3 is empty or not there
pub record HasNoTree (f : Func) (x : Record) : Type 0 where
  pub none : f.nodes ≡ []
  pub empty : (length x.funcdata ≤ 3) ⊎ (get_or x.funcdata 3 0 ≡ no_funcdata)

-- all that an image has of function i
pub record IsWritten (m : Module) (i : ℕ) (f : Func) (x : Record) : Type 0 where
  pub is_at : IsAt m.region (record_offset m.region i) (record_bytes x)
  pub pcdata_few : length x.pcdata < 2 ^ 16
  pub funcdata_few : length x.funcdata < 2 ^ 8
  pub funcdata_fits : (k : ℕ) → get_or x.funcdata k 0 < 2 ^ 32
  pub unit_fits : x.unit < 2 ^ 32
  pub name : IsNameAt m.region x.name f.name
  pub pcsp : IsTableAt m.region x.pcsp f.pcsp
  pub pcfile : IsTableAt m.region x.pcfile f.pcfile
  pub pcline : IsTableAt m.region x.pcline f.pcline
  pub files : (off : ℤ) (k : ℕ) → value_of f.pcfile off ≡ Some (pos k)
      → (name : List ℕ) × (at_index f.files k ≡ Some name) × IsFileAt m.region (x.unit + k) name
  pub nodes : HasTree m f x ⊎ HasNoTree f x
