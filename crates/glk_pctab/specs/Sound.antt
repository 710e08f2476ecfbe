-- Functions whose tables are sound, and whose section is short enough for its offsets.
use Rattle.std.specs.Prelude.{ℕ, ◌≡◌, ◌+◌, ◌*◌, ◌^◌, ◌<◌, ◌≤◌, length, Some, ℤ, pos, get_or}
use Rattle.std.specs.Int.{cast_signed, cast_unsigned, w32}
use Rattle.glk_pcval.specs.Table.{value_of, IsTable}
use Rattle.glk_frames.specs.Chain.{at_index}
use Rattle.glk_frames.specs.Image.{no_funcdata}
use Rattle.glk_pctab.specs.Functions.{Pclntab, Function, InlinedCall, function, unit_files, pcdata_of, funcdata_of, tree_offset}
use Rattle.glk_pctab.specs.Section.{start_in, section}

-- an offset in its function that fits 32 bits with a sign
abbrev pub IsOffset : ℤ → Type 0
IsOffset parent = (cast_signed w32 (cast_unsigned w32 parent) ≡ parent) × (cast_unsigned w32 parent < 2 ^ 32)

-- A function can be written, with its tree at an offset: its unit is one of so many, its pcdata and funcdata are few, and
-- the offset, also that after the tree, is not that of an empty place.
pub record CanWrite (units : ℕ) (tree : ℕ) (f : Function) : Type 0 where
  pub unit : f.unit < units
  pub pcdata : length (pcdata_of f) < 2 ^ 16
  pub funcdata : length (funcdata_of tree f) < 2 ^ 8
  pub trees : tree + 16 * length f.inlined < no_funcdata

-- each function can be written
abbrev pub CanWriteAll : Pclntab → Type 0
CanWriteAll t = (i : ℕ) → i < length t.functions → CanWrite (length t.units) (tree_offset t.trees t.functions i) (function t i)

-- A function's pc tables are tables; the values of pcfile name files of its unit, those of pcinline inlined calls, and each
-- of these was called from an offset.
pub record HasSoundTables (t : Pclntab) (f : Function) : Type 0 where
  pub pcsp : IsTable f.pcsp
  pub pcfile : IsTable f.pcfile
  pub pcline : IsTable f.pcline
  pub pcinline : IsTable f.pcinline
  pub files : (off : ℤ) (k : ℕ) → value_of f.pcfile off ≡ Some (pos k) → k < length (unit_files t.units f.unit)
  pub inlined : (off : ℤ) (k : ℕ) → value_of f.pcinline off ≡ Some (pos k) → k < length f.inlined
  pub parents : (k : ℕ) (call : InlinedCall) → at_index f.inlined k ≡ Some call → IsOffset call.node.parent

-- the longest section: its offsets are numbers of 32 bits
abbrev pub section_limit : ℕ
section_limit = 2 ^ 32

pub record IsSound (t : Pclntab) : Type 0 where
  pub tables : (i : ℕ) → i < length t.functions → HasSoundTables t (function t i)
  pub write : CanWriteAll t
  pub funcdata : (i : ℕ) → i < length t.functions → (k : ℕ) → get_or (funcdata_of (tree_offset t.trees t.functions i) (function t i)) k 0 < 2 ^ 32
  pub short : length (section t) < section_limit

-- Functions start 16 or more bytes apart, the first at 0, and the text ends after the last start.
pub record AreApart (t : Pclntab) : Type 0 where
  pub first : start_in t 0 ≡ 0
  pub apart : (j : ℕ) → j + 1 < length t.functions → start_in t j + 16 ≤ start_in t (j + 1)
  pub below : (j : ℕ) → j < length t.functions → start_in t j < t.text_size
  pub size_fits : t.text_size < 2 ^ 32
