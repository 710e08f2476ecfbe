-- The canonical text is that of the lines of a description.
use Rattle.std.proofs.Common.{◌≡◌, ◌∙◌, ℕ, List, [], ◌∷◌, ◌++◌, map, refl, ap, append-nil}
use Rattle.std.specs.List.{flat_map}
use Rattle.std.proofs.lemmas.List.Concat.{flat_map-append}
use Rattle.glk_obj.specs.declared.records.AuxRec.{AuxRec}
use Rattle.glk_obj.specs.declared.records.RefFlagsRec.{RefFlagsRec}
use Rattle.glk_obj.specs.declared.records.RelocRec.{RelocRec}
use Rattle.glk_objdesc.specs.declared.desc.AutolibDesc.{AutolibDesc}
use Rattle.glk_objdesc.specs.declared.desc.DefDesc.{DefDesc}
use Rattle.glk_objdesc.specs.declared.desc.ObjDesc.{ObjDesc}
use Rattle.glk_objdesc.specs.declared.desc.RefNameDesc.{RefNameDesc}
use Rattle.glk_objdesc.specs.declared.desc.SymDesc.{SymDesc}
use Rattle.glk_objtext.specs.CanonicalText.{autolib_line_of, header_line_of, string_line_of, symbol_line_of, data_line_of, reloc_line_of, aux_line_of, definition_lines_of, refflags_line_of, refname_line_of, canonical_text}
use Rattle.glk_objtext.specs.Kinds.Kind.{pkg_line, file_line, def_line, hash64_line, hash_line, ndef_line, ref_line}
use Rattle.glk_objtext.specs.Text.{whole_line, texts, content_lines, def_lines, lines_of, text_of}
use Rattle.glk_objtext.specs.Words.{spelling}
use Rattle.glk_objtext.specs.declared.line.DefBlock.TheVariants.{Symdef, Hashed64def, Hasheddef, Nonpkgdef}
use Rattle.glk_objtext.specs.declared.line.Line.{Line}
use Rattle.glk_objtext.specs.declared.line.Line.TheVariants.{Header, Import, Package, Source, Symbol, Relocation, Auxiliary, Reference, Flags, Named}

-- lines of one kind
mapped : {A : Type 0} (make : A → Line) (text : A → List ℕ) → ((x : A) → whole_line (make x) ≡ text x) → (xs : List A) → texts (map make xs) ≡ flat_map text xs
mapped make text is [] = refl
mapped make text is (x ∷ xs) = ap (λ (t : List ℕ). t ++ texts (map make xs)) (is x) ∙ ap (λ (t : List ℕ). text x ++ t) (mapped make text is xs)

-- groups of lines
grouped : {A : Type 0} (own : A → List Line) (text : A → List ℕ) → ((x : A) → texts (own x) ≡ text x) → (xs : List A) → texts (flat_map own xs) ≡ flat_map text xs
grouped own text is [] = refl
grouped own text is (x ∷ xs) =
    flat_map-append whole_line (own x) (flat_map own xs)
    ∙ ap (λ (t : List ℕ). t ++ texts (flat_map own xs)) (is x) ∙ ap (λ (t : List ℕ). text x ++ t) (grouped own text is xs)

-- lines, and those that follow them
then_more : (ls more : List Line) (a b : List ℕ) → texts ls ≡ a → texts more ≡ b → texts (ls ++ more) ≡ a ++ b
then_more ls more a b h k = flat_map-append whole_line ls more ∙ ap (λ (t : List ℕ). t ++ texts more) h ∙ ap (λ (t : List ℕ). a ++ t) k

header_is : (flags : ℕ) (fingerprint : List ℕ) → whole_line (Header flags fingerprint) ≡ header_line_of flags fingerprint
unfolding whole_line spelling
header_is flags fingerprint = refl

import_is : (a : AutolibDesc) → whole_line (Import a) ≡ autolib_line_of a
unfolding whole_line spelling
import_is a = refl

package_is : (path : List ℕ) → whole_line (Package path) ≡ string_line_of pkg_line path
unfolding whole_line spelling
package_is path = refl

source_is : (file : List ℕ) → whole_line (Source file) ≡ string_line_of file_line file
unfolding whole_line spelling
source_is file = refl

reference_is : (s : SymDesc) → whole_line (Reference s) ≡ symbol_line_of ref_line s []
unfolding whole_line spelling
reference_is s = refl

flags_is : (r : RefFlagsRec) → whole_line (Flags r) ≡ refflags_line_of r
unfolding whole_line spelling
flags_is r = refl

name_is : (r : RefNameDesc) → whole_line (Named r) ≡ refname_line_of r
unfolding whole_line spelling
name_is r = refl

reloc_is : (r : RelocRec) → whole_line (Relocation r) ≡ reloc_line_of r
unfolding whole_line spelling
reloc_is r = refl

aux_is : (a : AuxRec) → whole_line (Auxiliary a) ≡ aux_line_of a
unfolding whole_line spelling
aux_is a = refl

data_is : (bytes : List ℕ) → texts (content_lines bytes) ≡ data_line_of bytes
unfolding whole_line spelling
data_is [] = refl
data_is (b ∷ s) = append-nil (data_line_of (b ∷ s))

parts_are : (def : DefDesc) → texts (content_lines def.content ++ (map Relocation def.relocs ++ map Auxiliary def.auxes)) ≡ data_line_of def.content ++ (flat_map reloc_line_of def.relocs ++ flat_map aux_line_of def.auxes)
parts_are def =
    then_more (content_lines def.content) (map Relocation def.relocs ++ map Auxiliary def.auxes) (data_line_of def.content) (flat_map reloc_line_of def.relocs ++ flat_map aux_line_of def.auxes)
    (data_is def.content)
    (then_more (map Relocation def.relocs) (map Auxiliary def.auxes) (flat_map reloc_line_of def.relocs) (flat_map aux_line_of def.auxes)
    (mapped Relocation reloc_line_of reloc_is def.relocs) (mapped Auxiliary aux_line_of aux_is def.auxes))

def_is : (def : DefDesc) → texts (def_lines Symdef def) ≡ definition_lines_of def_line def
unfolding def_lines whole_line spelling
def_is def = ap (λ (t : List ℕ). whole_line (Symbol Symdef def.sym def.hash) ++ t) (parts_are def)

hash64_is : (def : DefDesc) → texts (def_lines Hashed64def def) ≡ definition_lines_of hash64_line def
unfolding def_lines whole_line spelling
hash64_is def = ap (λ (t : List ℕ). whole_line (Symbol Hashed64def def.sym def.hash) ++ t) (parts_are def)

hash_is : (def : DefDesc) → texts (def_lines Hasheddef def) ≡ definition_lines_of hash_line def
unfolding def_lines whole_line spelling
hash_is def = ap (λ (t : List ℕ). whole_line (Symbol Hasheddef def.sym def.hash) ++ t) (parts_are def)

ndef_is : (def : DefDesc) → texts (def_lines Nonpkgdef def) ≡ definition_lines_of ndef_line def
unfolding def_lines whole_line spelling
ndef_is def = ap (λ (t : List ℕ). whole_line (Symbol Nonpkgdef def.sym def.hash) ++ t) (parts_are def)

-- the canonical text
pub text_is : (d : ObjDesc) → text_of d ≡ canonical_text d
unfolding text_of lines_of canonical_text
text_is d =
    let names = mapped Named refname_line_of name_is d.ref_names in
    let flags = then_more (map Flags d.ref_flags) _ (flat_map refflags_line_of d.ref_flags) _ (mapped Flags refflags_line_of flags_is d.ref_flags) names in
    let references = then_more (map Reference d.refs) _ (flat_map (λ (s : SymDesc). symbol_line_of ref_line s []) d.refs) _ (mapped Reference (λ (s : SymDesc). symbol_line_of ref_line s []) reference_is d.refs) flags in
    let ndefs = then_more (flat_map (def_lines Nonpkgdef) d.ndefs) _ (flat_map (definition_lines_of ndef_line) d.ndefs) _ (grouped (def_lines Nonpkgdef) (definition_lines_of ndef_line) ndef_is d.ndefs) references in
    let hashes = then_more (flat_map (def_lines Hasheddef) d.hashed) _ (flat_map (definition_lines_of hash_line) d.hashed) _ (grouped (def_lines Hasheddef) (definition_lines_of hash_line) hash_is d.hashed) ndefs in
    let hash64s = then_more (flat_map (def_lines Hashed64def) d.hash64) _ (flat_map (definition_lines_of hash64_line) d.hash64) _ (grouped (def_lines Hashed64def) (definition_lines_of hash64_line) hash64_is d.hash64) hashes in
    let defs = then_more (flat_map (def_lines Symdef) d.defs) _ (flat_map (definition_lines_of def_line) d.defs) _ (grouped (def_lines Symdef) (definition_lines_of def_line) def_is d.defs) hash64s in
    let sources = then_more (map Source d.files) _ (flat_map (string_line_of file_line) d.files) _ (mapped Source (string_line_of file_line) source_is d.files) defs in
    let packages = then_more (map Package d.pkgs) _ (flat_map (string_line_of pkg_line) d.pkgs) _ (mapped Package (string_line_of pkg_line) package_is d.pkgs) sources in
    let imports = then_more (map Import d.autolib) _ (flat_map autolib_line_of d.autolib) _ (mapped Import autolib_line_of import_is d.autolib) packages in
    ap (λ (t : List ℕ). t ++ texts (map Import d.autolib ++ (map Package d.pkgs ++ (map Source d.files ++ (flat_map (def_lines Symdef) d.defs ++ (flat_map (def_lines Hashed64def) d.hash64 ++ (flat_map (def_lines Hasheddef) d.hashed ++ (flat_map (def_lines Nonpkgdef) d.ndefs ++ (map Reference d.refs ++ (map Flags d.ref_flags ++ (map Named d.ref_names))))))))))) (header_is d.flags d.fingerprint)
    ∙ ap (λ (t : List ℕ). header_line_of d.flags d.fingerprint ++ t) imports
