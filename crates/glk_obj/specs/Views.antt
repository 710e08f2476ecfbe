-- The code's types as what contracts speak of.
use Rattle.std.specs.Prelude.{ℕ, List}
use Rattle.glk_obj.specs.declared.blocks.Block.{Block}
use Rattle.glk_obj.specs.declared.blocks.Block.TheVariants.{Autolib, PkgIdx, File, Symdef, Hashed64def, Hasheddef, Nonpkgdef, Nonpkgref, RefFlags, Hash64, Hash, RelocIdx, AuxIdx, DataIdx, Reloc as RelocBlock, Aux as AuxBlock, Data, RefName, End}
use Rattle.glk_obj.specs.declared.records.SymRec.{SymRec}
use Rattle.glk_obj.specs.declared.records.SymRef.{SymRef}
use Rattle.glk_obj.specs.declared.records.RelocRec.{RelocRec}
use Rattle.glk_obj.specs.declared.records.AuxRec.{AuxRec}
use Rattle.glk_obj.specs.declared.records.RefFlagsRec.{RefFlagsRec}
use Rattle.glk_obj.specs.declared.funcinfo.InlNode.{InlNode}
use Rattle.glk_obj.specs.declared.view.ObjShape.{ObjShape}
use Rattle.glk_obj.specs.Blocks.{autolib, pkg_idx, file, symdef, hashed64def, hasheddef, nonpkgdef, nonpkgref, ref_flags, hash64, hash, reloc_idx, aux_idx, data_idx, reloc, aux, contents, ref_name, end}
use Rattle.glk_obj.specs.Records.{Symbol, SymbolRef, Reloc, Aux, RefFlag}
use Rattle.glk_obj.specs.FuncInfos.{Node}
use Rattle.glk_obj.specs.Object.{Fits}

-- the number of a block
abbrev pub number_of : Block → ℕ
number_of Autolib = autolib
number_of PkgIdx = pkg_idx
number_of File = file
number_of Symdef = symdef
number_of Hashed64def = hashed64def
number_of Hasheddef = hasheddef
number_of Nonpkgdef = nonpkgdef
number_of Nonpkgref = nonpkgref
number_of RefFlags = ref_flags
number_of Hash64 = hash64
number_of Hash = hash
number_of RelocIdx = reloc_idx
number_of AuxIdx = aux_idx
number_of DataIdx = data_idx
number_of RelocBlock = reloc
number_of AuxBlock = aux
number_of Data = contents
number_of RefName = ref_name
number_of End = end

abbrev pub ref_view : SymRef → SymbolRef
ref_view r = record { pkg = r.pkg; sym = r.sym }

abbrev pub symbol_view : SymRec → Symbol
symbol_view s = record { name = s.name.now; abi = s.abi; kind = s.kind; flag = s.flag; flag2 = s.flag2; size = s.size; align = s.align }

abbrev pub reloc_view : RelocRec → Reloc
reloc_view r = record { off = r.off; size = r.size; kind = r.kind; add = r.add; target = ref_view r.target }

abbrev pub aux_view : AuxRec → Aux
aux_view a = record { kind = a.kind; target = ref_view a.target }

abbrev pub ref_flags_view : RefFlagsRec → RefFlag
ref_flags_view r = record { target = ref_view r.target; flag = r.flag; flag2 = r.flag2 }

abbrev pub node_view : InlNode → Node
node_view n = record { parent = n.parent; file = n.file; line = n.line; func = ref_view n.func; parent_pc = n.parent_pc }

-- The bytes are an object, and this is what their header says.
abbrev pub IsShapeOf : List ℕ → ObjShape → Type 0
IsShapeOf b shape = Fits b shape.offsets.starts
