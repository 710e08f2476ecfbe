use Rattle.std.proofs.Common.{All, subst}
use Rattle.hex.specs.Hex.{IsBytes}
use Rattle.glk_objdesc.specs.declared.desc.RefNameDesc.{RefNameDesc}
use Rattle.glk_objdesc.specs.declared.desc.SymDesc.{SymDesc}
use Rattle.glk_objtext.specs.Bytes.{HasBytesPackage, HasBytesDef}
use Rattle.glk_objtext.proofs.bytes.see_bytes.Goals as goal

pub returns : goal.returns
returns c = record {
  fingerprint = c.see_items.ensures;
  autolib = subst (λ xs. All HasBytesPackage xs) c.as_slice.ensures c.see_packages.ensures;
  pkgs = subst (λ xs. All IsBytes xs) c.as_slice-2.ensures c.see_texts.ensures;
  files = subst (λ xs. All IsBytes xs) c.as_slice-3.ensures c.see_texts-2.ensures;
  defs = subst (λ xs. All HasBytesDef xs) c.as_slice-4.ensures c.see_definitions.ensures;
  hash64 = subst (λ xs. All HasBytesDef xs) c.as_slice-5.ensures c.see_definitions-2.ensures;
  hashed = subst (λ xs. All HasBytesDef xs) c.as_slice-6.ensures c.see_definitions-3.ensures;
  ndefs = subst (λ xs. All HasBytesDef xs) c.as_slice-7.ensures c.see_definitions-4.ensures;
  refs = subst (λ xs. All (λ (s : SymDesc). IsBytes s.name) xs) c.as_slice-8.ensures c.see_references.ensures;
  ref_names = subst (λ xs. All (λ (r : RefNameDesc). IsBytes r.name) xs) c.as_slice-9.ensures c.see_names.ensures;
}
