-- Numbers and arrays of a description are within their types, as those of each value are.
use Rattle.std.specs.Prelude.{◌≡◌, ◌<◌, ◌^◌, length, All, FitsSigned}
use Rattle.std.specs.Int.{w32, w64}
use Rattle.glk_obj.specs.declared.records.SymRef.{SymRef}
use Rattle.glk_obj.specs.declared.records.RelocRec.{RelocRec}
use Rattle.glk_obj.specs.declared.records.AuxRec.{AuxRec}
use Rattle.glk_obj.specs.declared.records.RefFlagsRec.{RefFlagsRec}
use Rattle.glk_objdesc.specs.declared.desc.AutolibDesc.{AutolibDesc}
use Rattle.glk_objdesc.specs.declared.desc.SymDesc.{SymDesc}
use Rattle.glk_objdesc.specs.declared.desc.DefDesc.{DefDesc}
use Rattle.glk_objdesc.specs.declared.desc.RefNameDesc.{RefNameDesc}
use Rattle.glk_objdesc.specs.declared.desc.ObjDesc.{ObjDesc}

pub record IsTypedRef (r : SymRef) : Type 0 where
  pub pkg : r.pkg < 2 ^ 32
  pub sym : r.sym < 2 ^ 32

pub record IsTypedPackage (a : AutolibDesc) : Type 0 where
  pub fingerprint : length a.fingerprint ≡ 8

pub record IsTypedSymbol (s : SymDesc) : Type 0 where
  pub abi : s.abi < 2 ^ 16
  pub kind : s.kind < 2 ^ 8
  pub flag : s.flag < 2 ^ 8
  pub flag2 : s.flag2 < 2 ^ 8
  pub size : s.size < 2 ^ 32
  pub align : s.align < 2 ^ 32

pub record IsTypedReloc (r : RelocRec) : Type 0 where
  pub off : FitsSigned w32 r.off
  pub size : r.size < 2 ^ 8
  pub kind : r.kind < 2 ^ 16
  pub add : FitsSigned w64 r.add
  pub target : IsTypedRef r.target

pub record IsTypedAux (a : AuxRec) : Type 0 where
  pub kind : a.kind < 2 ^ 8
  pub target : IsTypedRef a.target

pub record IsTypedDef (def : DefDesc) : Type 0 where
  pub sym : IsTypedSymbol def.sym
  pub relocs : All IsTypedReloc def.relocs
  pub auxes : All IsTypedAux def.auxes

pub record IsTypedFlags (r : RefFlagsRec) : Type 0 where
  pub target : IsTypedRef r.target
  pub flag : r.flag < 2 ^ 8
  pub flag2 : r.flag2 < 2 ^ 8

pub record IsTypedName (r : RefNameDesc) : Type 0 where
  pub target : IsTypedRef r.target

pub record IsTyped (d : ObjDesc) : Type 0 where
  pub flags : d.flags < 2 ^ 32
  pub fingerprint : length d.fingerprint ≡ 8
  pub autolib : All IsTypedPackage d.autolib
  pub defs : All IsTypedDef d.defs
  pub hash64 : All IsTypedDef d.hash64
  pub hashed : All IsTypedDef d.hashed
  pub ndefs : All IsTypedDef d.ndefs
  pub refs : All IsTypedSymbol d.refs
  pub ref_flags : All IsTypedFlags d.ref_flags
  pub ref_names : All IsTypedName d.ref_names
