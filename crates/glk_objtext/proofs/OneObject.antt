-- Lines hold one description.
use Rattle.std.proofs.Common.{◌≡◌, ◌∙◌, ◌^◌, ℕ, List, [], ◌∷◌, refl, ap, sym, arith, Ok}
use Rattle.std.specs.List.{AllZip}
use Rattle.glk_obj.specs.declared.records.AuxRec.{AuxRec}
use Rattle.glk_obj.specs.declared.records.RefFlagsRec.{RefFlagsRec}
use Rattle.glk_obj.specs.declared.records.RelocRec.{RelocRec}
use Rattle.glk_objdesc.specs.declared.desc.AutolibDesc.{AutolibDesc}
use Rattle.glk_objdesc.specs.declared.desc.DefDesc.{DefDesc}
use Rattle.glk_objdesc.specs.declared.desc.ObjDesc.{ObjDesc}
use Rattle.glk_objdesc.specs.declared.desc.RefNameDesc.{RefNameDesc}
use Rattle.glk_objdesc.specs.declared.desc.SymDesc.{SymDesc}
use Rattle.glk_objtext.specs.Entries.{HoldsAutolib, HoldsString, HoldsSymbol, HoldsReloc, HoldsAux, HoldsRefFlags, HoldsRefName}
use Rattle.glk_objtext.specs.Fields.{field_at}
use Rattle.glk_objtext.specs.Forms.{IsNumber, IsOctets, IsSized, IsString}
use Rattle.glk_objtext.specs.Kinds.{Kind}
use Rattle.glk_objtext.specs.Kinds.Kind.{object_line, autolib_line, pkg_line, file_line, def_line, hash64_line, hash_line, ndef_line, ref_line, refflags_line, refname_line, data_line, reloc_line, aux_line}
use Rattle.glk_objtext.specs.Rules.{LineFields}
use Rattle.glk_objtext.specs.Spelled.{lines_of_kind, DefLines, definitions_of_kind, HoldsHash, HoldsContent, HoldsDefinition, BeginsWithHeader, HoldsObject}
use Rattle.glk_objtext.specs.Values.{import_of, symbol_of, reloc_of, aux_of, ref_flags_of, ref_name_of}
use Rattle.glk_objtext.proofs.SortForms.{same_ok, number_is, signed_is, octets_are, sized_is, reference_is}
use Rattle.glk_objtext.proofs.StringForms.{string_is}

-- what two of these agree on
zip_one : {A B : Type 0} (R : A → B → Type 0) → ((x : A) (a b : B) → R x a → R x b → a ≡ b) → (xs : List A) (ys zs : List B) → AllZip R xs ys → AllZip R xs zs → ys ≡ zs
zip_one R one [] [] [] h k = refl
zip_one R one [] [] (b ∷ zs) h k = absurd k
zip_one R one [] (a ∷ ys) zs h k = absurd h
zip_one R one (x ∷ xs) [] zs h k = absurd h
zip_one R one (x ∷ xs) (a ∷ ys) [] h k = absurd k
zip_one {A} {B} R one (x ∷ xs) (a ∷ ys) (b ∷ zs) h k =
    ap (λ (y : B). y ∷ ys) (one x a b h.0 k.0) ∙ ap (λ (more : List B). b ∷ more) (zip_one R one xs ys zs h.1 k.1)

string_one : (field a b : List ℕ) → IsString field a → IsString field b → a ≡ b
string_one field a b h k = same_ok a b (sym (string_is field a h) ∙ string_is field b k)

octets_one : (field a b : List ℕ) → IsOctets field a → IsOctets field b → a ≡ b
octets_one field a b h k = same_ok a b (sym (octets_are field a h) ∙ octets_are field b k)

sized_one : (field a b : List ℕ) → IsSized 8 field a → IsSized 8 field b → a ≡ b
sized_one field a b h k = octets_one field a b h.octets k.octets

number_one : (field : List ℕ) (a b : ℕ) → IsNumber (2 ^ 32) field a → IsNumber (2 ^ 32) field b → a ≡ b
number_one field a b h k = same_ok a b (sym (number_is 4294967296 field a (omega arith) h) ∙ number_is 4294967296 field b (omega arith) k)

import_again : (fs : List (List ℕ)) (x : AutolibDesc) → HoldsAutolib fs x → import_of fs ≡ Ok x
unfolding import_of
import_again fs x h =
    let e0 = string_is (field_at fs 1) x.path h.path in
    let e1 = sized_is 8 (field_at fs 2) x.fingerprint (omega arith) h.fingerprint in
    rw e0 (rw e1 (refl))

import_one : (fs : List (List ℕ)) (a b : AutolibDesc) → HoldsAutolib fs a → HoldsAutolib fs b → a ≡ b
import_one fs a b h k = same_ok a b (sym (import_again fs a h) ∙ import_again fs b k)

symbol_again : (fs : List (List ℕ)) (x : SymDesc) → HoldsSymbol fs x → symbol_of fs ≡ Ok x
unfolding symbol_of
symbol_again fs x h =
    let e0 = number_is (2 ^ 16) (field_at fs 2) x.abi (omega arith) h.abi in
    let e1 = number_is (2 ^ 8) (field_at fs 3) x.kind (omega arith) h.kind in
    let e2 = number_is (2 ^ 8) (field_at fs 4) x.flag (omega arith) h.flag in
    let e3 = number_is (2 ^ 8) (field_at fs 5) x.flag2 (omega arith) h.flag2 in
    let e4 = number_is (2 ^ 32) (field_at fs 6) x.size (omega arith) h.size in
    let e5 = number_is (2 ^ 32) (field_at fs 7) x.align (omega arith) h.align in
    let e6 = string_is (field_at fs 1) x.name h.name in
    rw e0 (rw e1 (rw e2 (rw e3 (rw e4 (rw e5 (rw e6 (refl)))))))

symbol_one : (fs : List (List ℕ)) (a b : SymDesc) → HoldsSymbol fs a → HoldsSymbol fs b → a ≡ b
symbol_one fs a b h k = same_ok a b (sym (symbol_again fs a h) ∙ symbol_again fs b k)

reloc_again : (fs : List (List ℕ)) (x : RelocRec) → HoldsReloc fs x → reloc_of fs ≡ Ok x
unfolding reloc_of
reloc_again fs x h =
    let e0 = signed_is (2 ^ 31) (field_at fs 1) x.off (omega arith) h.off in
    let e1 = number_is (2 ^ 8) (field_at fs 2) x.size (omega arith) h.size in
    let e2 = number_is (2 ^ 16) (field_at fs 3) x.kind (omega arith) h.kind in
    let e3 = signed_is (2 ^ 63) (field_at fs 4) x.add (omega arith) h.add in
    let e4 = reference_is (field_at fs 5) x.target h.target in
    rw e0 (rw e1 (rw e2 (rw e3 (rw e4 (refl)))))

reloc_one : (fs : List (List ℕ)) (a b : RelocRec) → HoldsReloc fs a → HoldsReloc fs b → a ≡ b
reloc_one fs a b h k = same_ok a b (sym (reloc_again fs a h) ∙ reloc_again fs b k)

aux_again : (fs : List (List ℕ)) (x : AuxRec) → HoldsAux fs x → aux_of fs ≡ Ok x
unfolding aux_of
aux_again fs x h =
    let e0 = number_is (2 ^ 8) (field_at fs 1) x.kind (omega arith) h.kind in
    let e1 = reference_is (field_at fs 2) x.target h.target in
    rw e0 (rw e1 (refl))

aux_one : (fs : List (List ℕ)) (a b : AuxRec) → HoldsAux fs a → HoldsAux fs b → a ≡ b
aux_one fs a b h k = same_ok a b (sym (aux_again fs a h) ∙ aux_again fs b k)

flags_again : (fs : List (List ℕ)) (x : RefFlagsRec) → HoldsRefFlags fs x → ref_flags_of fs ≡ Ok x
unfolding ref_flags_of
flags_again fs x h =
    let e0 = reference_is (field_at fs 1) x.target h.target in
    let e1 = number_is (2 ^ 8) (field_at fs 2) x.flag (omega arith) h.flag in
    let e2 = number_is (2 ^ 8) (field_at fs 3) x.flag2 (omega arith) h.flag2 in
    rw e0 (rw e1 (rw e2 (refl)))

flags_one : (fs : List (List ℕ)) (a b : RefFlagsRec) → HoldsRefFlags fs a → HoldsRefFlags fs b → a ≡ b
flags_one fs a b h k = same_ok a b (sym (flags_again fs a h) ∙ flags_again fs b k)

name_again : (fs : List (List ℕ)) (x : RefNameDesc) → HoldsRefName fs x → ref_name_of fs ≡ Ok x
unfolding ref_name_of
name_again fs x h =
    let e0 = reference_is (field_at fs 1) x.target h.target in
    let e1 = string_is (field_at fs 2) x.name h.name in
    rw e0 (rw e1 (refl))

name_one : (fs : List (List ℕ)) (a b : RefNameDesc) → HoldsRefName fs a → HoldsRefName fs b → a ≡ b
name_one fs a b h k = same_ok a b (sym (name_again fs a h) ∙ name_again fs b k)

text_one : (fs : List (List ℕ)) (a b : List ℕ) → HoldsString fs a → HoldsString fs b → a ≡ b
text_one fs a b h k = string_one (field_at fs 1) a b h k

content_one : (own : List LineFields) (a b : List ℕ) → HoldsContent own a → HoldsContent own b → a ≡ b
content_one [] a b h k = h ∙ sym k
content_one (fs ∷ []) a b h k = octets_one (field_at fs 1) a b h k
content_one (fs ∷ gs ∷ more) a b h k = content_one (gs ∷ more) a b h k

hash_one : (kind : Kind) (fs : LineFields) (a b : List ℕ) → HoldsHash kind fs a → HoldsHash kind fs b → a ≡ b
hash_one object_line fs a b h k = h ∙ sym k
hash_one autolib_line fs a b h k = h ∙ sym k
hash_one pkg_line fs a b h k = h ∙ sym k
hash_one file_line fs a b h k = h ∙ sym k
hash_one def_line fs a b h k = h ∙ sym k
hash_one hash64_line fs a b h k = sized_one (field_at fs 8) a b h k
hash_one hash_line fs a b h k = octets_one (field_at fs 8) a b h k
hash_one ndef_line fs a b h k = h ∙ sym k
hash_one ref_line fs a b h k = h ∙ sym k
hash_one refflags_line fs a b h k = h ∙ sym k
hash_one refname_line fs a b h k = h ∙ sym k
hash_one data_line fs a b h k = h ∙ sym k
hash_one reloc_line fs a b h k = h ∙ sym k
hash_one aux_line fs a b h k = h ∙ sym k

-- values whose parts are the same
abbrev definition_of : SymDesc → List ℕ → List ℕ → List RelocRec → List AuxRec → DefDesc
definition_of v0 v1 v2 v3 v4 = record { sym = v0; hash = v1; content = v2; relocs = v3; auxes = v4 }

definition_same : (a b : DefDesc) → a.sym ≡ b.sym → a.hash ≡ b.hash → a.content ≡ b.content → a.relocs ≡ b.relocs → a.auxes ≡ b.auxes → a ≡ b
definition_same a b e0 e1 e2 e3 e4 =
    ap (λ (x : SymDesc). definition_of x a.hash a.content a.relocs a.auxes) e0
    ∙ ap (λ (x : List ℕ). definition_of b.sym x a.content a.relocs a.auxes) e1
    ∙ ap (λ (x : List ℕ). definition_of b.sym b.hash x a.relocs a.auxes) e2
    ∙ ap (λ (x : List RelocRec). definition_of b.sym b.hash b.content x a.auxes) e3
    ∙ ap (λ (x : List AuxRec). definition_of b.sym b.hash b.content b.relocs x) e4

definition_one : (kind : Kind) (own : DefLines) (a b : DefDesc) → HoldsDefinition kind own a → HoldsDefinition kind own b → a ≡ b
definition_one kind own a b h k =
    definition_same a b
    (symbol_one own.head a.sym b.sym h.symbol k.symbol)
    (hash_one kind own.head a.hash b.hash h.hash k.hash)
    (content_one (lines_of_kind data_line own.parts) a.content b.content h.content k.content)
    (zip_one HoldsReloc reloc_one (lines_of_kind reloc_line own.parts) a.relocs b.relocs h.relocs k.relocs)
    (zip_one HoldsAux aux_one (lines_of_kind aux_line own.parts) a.auxes b.auxes h.auxes k.auxes)

header_one : (said : List LineFields) (f g : ℕ) (p q : List ℕ) → BeginsWithHeader said f p → BeginsWithHeader said g q → (f ≡ g) × (p ≡ q)
header_one [] f g p q h k = absurd h
header_one (fs ∷ more) f g p q h k = (number_one (field_at fs 1) f g h.flags_field k.flags_field, sized_one (field_at fs 2) p q h.fingerprint_field k.fingerprint_field)

abbrev object_of : ℕ → List ℕ → List AutolibDesc → List (List ℕ) → List (List ℕ) → List DefDesc → List DefDesc → List DefDesc → List DefDesc → List SymDesc → List RefFlagsRec → List RefNameDesc → ObjDesc
object_of v0 v1 v2 v3 v4 v5 v6 v7 v8 v9 v10 v11 = record { flags = v0; fingerprint = v1; autolib = v2; pkgs = v3; files = v4; defs = v5; hash64 = v6; hashed = v7; ndefs = v8; refs = v9; ref_flags = v10; ref_names = v11 }

object_same : (a b : ObjDesc) → a.flags ≡ b.flags → a.fingerprint ≡ b.fingerprint → a.autolib ≡ b.autolib → a.pkgs ≡ b.pkgs → a.files ≡ b.files → a.defs ≡ b.defs → a.hash64 ≡ b.hash64 → a.hashed ≡ b.hashed → a.ndefs ≡ b.ndefs → a.refs ≡ b.refs → a.ref_flags ≡ b.ref_flags → a.ref_names ≡ b.ref_names → a ≡ b
object_same a b e0 e1 e2 e3 e4 e5 e6 e7 e8 e9 e10 e11 =
    ap (λ (x : ℕ). object_of x a.fingerprint a.autolib a.pkgs a.files a.defs a.hash64 a.hashed a.ndefs a.refs a.ref_flags a.ref_names) e0
    ∙ ap (λ (x : List ℕ). object_of b.flags x a.autolib a.pkgs a.files a.defs a.hash64 a.hashed a.ndefs a.refs a.ref_flags a.ref_names) e1
    ∙ ap (λ (x : List AutolibDesc). object_of b.flags b.fingerprint x a.pkgs a.files a.defs a.hash64 a.hashed a.ndefs a.refs a.ref_flags a.ref_names) e2
    ∙ ap (λ (x : List (List ℕ)). object_of b.flags b.fingerprint b.autolib x a.files a.defs a.hash64 a.hashed a.ndefs a.refs a.ref_flags a.ref_names) e3
    ∙ ap (λ (x : List (List ℕ)). object_of b.flags b.fingerprint b.autolib b.pkgs x a.defs a.hash64 a.hashed a.ndefs a.refs a.ref_flags a.ref_names) e4
    ∙ ap (λ (x : List DefDesc). object_of b.flags b.fingerprint b.autolib b.pkgs b.files x a.hash64 a.hashed a.ndefs a.refs a.ref_flags a.ref_names) e5
    ∙ ap (λ (x : List DefDesc). object_of b.flags b.fingerprint b.autolib b.pkgs b.files b.defs x a.hashed a.ndefs a.refs a.ref_flags a.ref_names) e6
    ∙ ap (λ (x : List DefDesc). object_of b.flags b.fingerprint b.autolib b.pkgs b.files b.defs b.hash64 x a.ndefs a.refs a.ref_flags a.ref_names) e7
    ∙ ap (λ (x : List DefDesc). object_of b.flags b.fingerprint b.autolib b.pkgs b.files b.defs b.hash64 b.hashed x a.refs a.ref_flags a.ref_names) e8
    ∙ ap (λ (x : List SymDesc). object_of b.flags b.fingerprint b.autolib b.pkgs b.files b.defs b.hash64 b.hashed b.ndefs x a.ref_flags a.ref_names) e9
    ∙ ap (λ (x : List RefFlagsRec). object_of b.flags b.fingerprint b.autolib b.pkgs b.files b.defs b.hash64 b.hashed b.ndefs b.refs x a.ref_names) e10
    ∙ ap (λ (x : List RefNameDesc). object_of b.flags b.fingerprint b.autolib b.pkgs b.files b.defs b.hash64 b.hashed b.ndefs b.refs b.ref_flags x) e11

-- lines hold one description
pub object_one : (said : List LineFields) (a b : ObjDesc) → HoldsObject said a → HoldsObject said b → a ≡ b
object_one said a b h k =
    let header = header_one said a.flags b.flags a.fingerprint b.fingerprint h.header k.header in
    object_same a b header.0 header.1
    (zip_one HoldsAutolib import_one (lines_of_kind autolib_line said) a.autolib b.autolib h.autolib k.autolib)
    (zip_one HoldsString text_one (lines_of_kind pkg_line said) a.pkgs b.pkgs h.pkgs k.pkgs)
    (zip_one HoldsString text_one (lines_of_kind file_line said) a.files b.files h.files k.files)
    (zip_one (HoldsDefinition def_line) (definition_one def_line) (definitions_of_kind def_line said) a.defs b.defs h.defs k.defs)
    (zip_one (HoldsDefinition hash64_line) (definition_one hash64_line) (definitions_of_kind hash64_line said) a.hash64 b.hash64 h.hash64 k.hash64)
    (zip_one (HoldsDefinition hash_line) (definition_one hash_line) (definitions_of_kind hash_line said) a.hashed b.hashed h.hashed k.hashed)
    (zip_one (HoldsDefinition ndef_line) (definition_one ndef_line) (definitions_of_kind ndef_line said) a.ndefs b.ndefs h.ndefs k.ndefs)
    (zip_one HoldsSymbol symbol_one (lines_of_kind ref_line said) a.refs b.refs h.refs k.refs)
    (zip_one HoldsRefFlags flags_one (lines_of_kind refflags_line said) a.ref_flags b.ref_flags h.ref_flags k.ref_flags)
    (zip_one HoldsRefName name_one (lines_of_kind refname_line said) a.ref_names b.ref_names h.ref_names k.ref_names)
