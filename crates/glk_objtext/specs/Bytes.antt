-- The strings, hashes and data of a description are of bytes, as those of each value are.
use Rattle.std.specs.Prelude.{All}
use Rattle.hex.specs.Hex.{IsBytes}
use Rattle.glk_objdesc.specs.declared.desc.AutolibDesc.{AutolibDesc}
use Rattle.glk_objdesc.specs.declared.desc.SymDesc.{SymDesc}
use Rattle.glk_objdesc.specs.declared.desc.DefDesc.{DefDesc}
use Rattle.glk_objdesc.specs.declared.desc.RefNameDesc.{RefNameDesc}
use Rattle.glk_objdesc.specs.declared.desc.ObjDesc.{ObjDesc}

pub record HasBytesPackage (a : AutolibDesc) : Type 0 where
  pub path : IsBytes a.path
  pub fingerprint : IsBytes a.fingerprint

pub record HasBytesDef (def : DefDesc) : Type 0 where
  pub name : IsBytes def.sym.name
  pub hash : IsBytes def.hash
  pub content : IsBytes def.content

pub record HasBytes (d : ObjDesc) : Type 0 where
  pub fingerprint : IsBytes d.fingerprint
  pub autolib : All HasBytesPackage d.autolib
  pub pkgs : All IsBytes d.pkgs
  pub files : All IsBytes d.files
  pub defs : All HasBytesDef d.defs
  pub hash64 : All HasBytesDef d.hash64
  pub hashed : All HasBytesDef d.hashed
  pub ndefs : All HasBytesDef d.ndefs
  pub refs : All (λ (s : SymDesc). IsBytes s.name) d.refs
  pub ref_names : All (λ (r : RefNameDesc). IsBytes r.name) d.ref_names
