-- What a line of each word holds, field by field; the word is the field of number 0.
use Rattle.std.specs.Prelude.{◌^◌, ℕ, List}
use Rattle.glk_obj.specs.declared.records.AuxRec.{AuxRec}
use Rattle.glk_obj.specs.declared.records.RefFlagsRec.{RefFlagsRec}
use Rattle.glk_obj.specs.declared.records.RelocRec.{RelocRec}
use Rattle.glk_objdesc.specs.declared.desc.AutolibDesc.{AutolibDesc}
use Rattle.glk_objdesc.specs.declared.desc.RefNameDesc.{RefNameDesc}
use Rattle.glk_objdesc.specs.declared.desc.SymDesc.{SymDesc}
use Rattle.glk_objtext.specs.Fields.{field_at}
use Rattle.glk_objtext.specs.Forms.{IsNumber, IsSigned, IsOctets, IsSized, IsReference, IsString}

-- `object`: flags and a fingerprint
pub record HoldsHeader (fields : List (List ℕ)) (flags : ℕ) (fingerprint : List ℕ) : Type 0 where
  pub flags_field : IsNumber (2 ^ 32) (field_at fields 1) flags
  pub fingerprint_field : IsSized 8 (field_at fields 2) fingerprint

-- `autolib`: a path and a fingerprint
pub record HoldsAutolib (fields : List (List ℕ)) (a : AutolibDesc) : Type 0 where
  pub path : IsString (field_at fields 1) a.path
  pub fingerprint : IsSized 8 (field_at fields 2) a.fingerprint

-- `pkg` and `file`: a path or a name
abbrev pub HoldsString : List (List ℕ) → List ℕ → Type 0
HoldsString fields s = IsString (field_at fields 1) s

-- `def`, `hash64`, `hash`, `ndef` and `ref`: a symbol
pub record HoldsSymbol (fields : List (List ℕ)) (s : SymDesc) : Type 0 where
  pub name : IsString (field_at fields 1) s.name
  pub abi : IsNumber (2 ^ 16) (field_at fields 2) s.abi
  pub kind : IsNumber (2 ^ 8) (field_at fields 3) s.kind
  pub flag : IsNumber (2 ^ 8) (field_at fields 4) s.flag
  pub flag2 : IsNumber (2 ^ 8) (field_at fields 5) s.flag2
  pub size : IsNumber (2 ^ 32) (field_at fields 6) s.size
  pub align : IsNumber (2 ^ 32) (field_at fields 7) s.align

-- `hash64`: a short hash after the symbol
abbrev pub HoldsShortHash : List (List ℕ) → List ℕ → Type 0
HoldsShortHash fields hash = IsSized 8 (field_at fields 8) hash

-- `hash`: a long hash after the symbol
abbrev pub HoldsLongHash : List (List ℕ) → List ℕ → Type 0
HoldsLongHash fields hash = IsOctets (field_at fields 8) hash

-- `data`: bytes
abbrev pub HoldsData : List (List ℕ) → List ℕ → Type 0
HoldsData fields bytes = IsOctets (field_at fields 1) bytes

-- `reloc`: an offset, a size, a type, an addend and a target
pub record HoldsReloc (fields : List (List ℕ)) (r : RelocRec) : Type 0 where
  pub off : IsSigned (2 ^ 31) (field_at fields 1) r.off
  pub size : IsNumber (2 ^ 8) (field_at fields 2) r.size
  pub kind : IsNumber (2 ^ 16) (field_at fields 3) r.kind
  pub add : IsSigned (2 ^ 63) (field_at fields 4) r.add
  pub target : IsReference (field_at fields 5) r.target

-- `aux`: a type and a target
pub record HoldsAux (fields : List (List ℕ)) (a : AuxRec) : Type 0 where
  pub kind : IsNumber (2 ^ 8) (field_at fields 1) a.kind
  pub target : IsReference (field_at fields 2) a.target

-- `refflags`: a target and its flags
pub record HoldsRefFlags (fields : List (List ℕ)) (r : RefFlagsRec) : Type 0 where
  pub target : IsReference (field_at fields 1) r.target
  pub flag : IsNumber (2 ^ 8) (field_at fields 2) r.flag
  pub flag2 : IsNumber (2 ^ 8) (field_at fields 3) r.flag2

-- `refname`: a target and its name
pub record HoldsRefName (fields : List (List ℕ)) (r : RefNameDesc) : Type 0 where
  pub target : IsReference (field_at fields 1) r.target
  pub name : IsString (field_at fields 2) r.name
