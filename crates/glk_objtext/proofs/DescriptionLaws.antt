-- The lines of a description describe it.
use Rattle.std.proofs.Common.{◌≡◌, ℕ, ◌∙◌, true, false, List, [], ◌∷◌, ◌++◌, map, refl, ap, sym, eqb, append_assoc, append-nil}
use Rattle.std.specs.List.{flat_map}
use Rattle.glk_obj.specs.declared.records.AuxRec.{AuxRec}
use Rattle.glk_obj.specs.declared.records.RefFlagsRec.{RefFlagsRec}
use Rattle.glk_obj.specs.declared.records.RelocRec.{RelocRec}
use Rattle.glk_objdesc.specs.declared.desc.AutolibDesc.{AutolibDesc}
use Rattle.glk_objdesc.specs.declared.desc.DefDesc.{DefDesc}
use Rattle.glk_objdesc.specs.declared.desc.ObjDesc.{ObjDesc}
use Rattle.glk_objdesc.specs.declared.desc.RefNameDesc.{RefNameDesc}
use Rattle.glk_objdesc.specs.declared.desc.SymDesc.{SymDesc}
use Rattle.glk_objtext.specs.Building.{EndsParts}
use Rattle.glk_objtext.specs.Description.{flags_from, fingerprint_from, imports, packages, sources, references, flag_records, ref_names, content_under, relocs_under, auxes_under, block_number, definitions, description_of_lines}
use Rattle.glk_objtext.specs.Text.{content_lines, def_lines, lines_of}
use Rattle.glk_objtext.specs.declared.line.DefBlock.{DefBlock}
use Rattle.glk_objtext.specs.declared.line.DefBlock.TheVariants.{Symdef, Hashed64def, Hasheddef, Nonpkgdef}
use Rattle.glk_objtext.specs.declared.line.Line.{Line}
use Rattle.glk_objtext.specs.declared.line.Line.TheVariants.{Header, Import, Package, Source, Symbol, Content, Relocation, Auxiliary, Reference, Flags, Named}
use Rattle.glk_objtext.proofs.OrderLaws.{def_joined, from_names, from_flags, from_refs, from_ndefs, from_hashed, from_hash64, from_defs, from_files, from_pkgs, from_autolib, lines_joined}

-- what is gathered from lines passes over those of a kind
abbrev IsPast : {A B : Type 0} → (List Line → B) → (A → Line) → Type 0
IsPast {A} gather make = (x : A) (more : List Line) → gather (make x ∷ more) ≡ gather more

-- it passes over the definitions of a block
record IsPastDefs {B : Type 0} (gather : List Line → B) (block : DefBlock) : Type 0 where
  symbol : (sym : SymDesc) (hash : List ℕ) (more : List Line) → gather (Symbol block sym hash ∷ more) ≡ gather more
  content : (bytes : List ℕ) (more : List Line) → gather (Content bytes ∷ more) ≡ gather more
  reloc : (r : RelocRec) (more : List Line) → gather (Relocation r ∷ more) ≡ gather more
  aux : (a : AuxRec) (more : List Line) → gather (Auxiliary a ∷ more) ≡ gather more

past_map : {A B : Type 0} (gather : List Line → B) (make : A → Line) → IsPast gather make → (xs : List A) (rest : List Line) → gather (map make xs ++ rest) ≡ gather rest
past_map {A} {B} gather make h [] rest = refl
past_map {A} {B} gather make h (x ∷ xs) rest = h x (map make xs ++ rest) ∙ past_map gather make h xs rest

gathered : {A : Type 0} (gather : List Line → List A) (make : A → Line) → ((x : A) (more : List Line) → gather (make x ∷ more) ≡ x ∷ gather more) → (xs : List A) (rest : List Line) → gather (map make xs ++ rest) ≡ xs ++ gather rest
gathered {A} gather make h [] rest = refl
gathered {A} gather make h (x ∷ xs) rest = h x (map make xs ++ rest) ∙ ap (λ (more : List A). x ∷ more) (gathered gather make h xs rest)

past_content : {B : Type 0} (gather : List Line → B) → ((bytes : List ℕ) (more : List Line) → gather (Content bytes ∷ more) ≡ gather more) → (content : List ℕ) (rest : List Line) → gather (content_lines content ++ rest) ≡ gather rest
past_content {B} gather h [] rest = refl
past_content {B} gather h (b ∷ s) rest = h (b ∷ s) rest

past_parts : {B : Type 0} (gather : List Line → B) (block : DefBlock) → IsPastDefs gather block → (def : DefDesc) (rest : List Line)
    → gather (content_lines def.content ++ (map Relocation def.relocs ++ (map Auxiliary def.auxes ++ rest))) ≡ gather rest
past_parts {B} gather block h def rest =
    past_content gather h.content def.content (map Relocation def.relocs ++ (map Auxiliary def.auxes ++ rest))
    ∙ past_map gather Relocation h.reloc def.relocs (map Auxiliary def.auxes ++ rest)
    ∙ past_map gather Auxiliary h.aux def.auxes rest

past_defs : {B : Type 0} (gather : List Line → B) (block : DefBlock) → IsPastDefs gather block → (defs : List DefDesc) (rest : List Line) → gather (flat_map (def_lines block) defs ++ rest) ≡ gather rest
past_defs {B} gather block h [] rest = refl
past_defs {B} gather block h (def ∷ defs) rest =
    ap gather (append_assoc (def_lines block def) (flat_map (def_lines block) defs) rest ∙ def_joined block def (flat_map (def_lines block) defs ++ rest))
    ∙ h.symbol def.sym def.hash (content_lines def.content ++ (map Relocation def.relocs ++ (map Auxiliary def.auxes ++ (flat_map (def_lines block) defs ++ rest))))
    ∙ past_parts gather block h def (flat_map (def_lines block) defs ++ rest)
    ∙ past_defs gather block h defs rest

-- the parts of a definition are those of the lines up to the next line that is no part
content_end : (content : List ℕ) (rest : List Line) → EndsParts rest → content_under content rest ≡ content
content_end content [] h = refl
content_end content (Header f p ∷ more) h = refl
content_end content (Import a ∷ more) h = refl
content_end content (Package p ∷ more) h = refl
content_end content (Source f ∷ more) h = refl
content_end content (Symbol block sym hash ∷ more) h = refl
content_end content (Content bytes ∷ more) h = absurd h
content_end content (Relocation r ∷ more) h = absurd h
content_end content (Auxiliary a ∷ more) h = absurd h
content_end content (Reference s ∷ more) h = refl
content_end content (Flags r ∷ more) h = refl
content_end content (Named r ∷ more) h = refl

relocs_end : (rest : List Line) → EndsParts rest → relocs_under rest ≡ []
relocs_end [] h = refl
relocs_end (Header f p ∷ more) h = refl
relocs_end (Import a ∷ more) h = refl
relocs_end (Package p ∷ more) h = refl
relocs_end (Source f ∷ more) h = refl
relocs_end (Symbol block sym hash ∷ more) h = refl
relocs_end (Content bytes ∷ more) h = absurd h
relocs_end (Relocation r ∷ more) h = absurd h
relocs_end (Auxiliary a ∷ more) h = absurd h
relocs_end (Reference s ∷ more) h = refl
relocs_end (Flags r ∷ more) h = refl
relocs_end (Named r ∷ more) h = refl

auxes_end : (rest : List Line) → EndsParts rest → auxes_under rest ≡ []
auxes_end [] h = refl
auxes_end (Header f p ∷ more) h = refl
auxes_end (Import a ∷ more) h = refl
auxes_end (Package p ∷ more) h = refl
auxes_end (Source f ∷ more) h = refl
auxes_end (Symbol block sym hash ∷ more) h = refl
auxes_end (Content bytes ∷ more) h = absurd h
auxes_end (Relocation r ∷ more) h = absurd h
auxes_end (Auxiliary a ∷ more) h = absurd h
auxes_end (Reference s ∷ more) h = refl
auxes_end (Flags r ∷ more) h = refl
auxes_end (Named r ∷ more) h = refl

content_first : (content : List ℕ) (more : List Line) → content_under [] (content_lines content ++ more) ≡ content_under content more
content_first [] more = refl
content_first (b ∷ s) more = refl

content_back : (def : DefDesc) (rest : List Line) → EndsParts rest → content_under [] (content_lines def.content ++ (map Relocation def.relocs ++ (map Auxiliary def.auxes ++ rest))) ≡ def.content
content_back def rest h =
    content_first def.content (map Relocation def.relocs ++ (map Auxiliary def.auxes ++ rest))
    ∙ past_map (content_under def.content) Relocation (λ r more. refl) def.relocs (map Auxiliary def.auxes ++ rest)
    ∙ past_map (content_under def.content) Auxiliary (λ a more. refl) def.auxes rest
    ∙ content_end def.content rest h

relocs_back : (def : DefDesc) (rest : List Line) → EndsParts rest → relocs_under (content_lines def.content ++ (map Relocation def.relocs ++ (map Auxiliary def.auxes ++ rest))) ≡ def.relocs
relocs_back def rest h =
    past_content relocs_under (λ bytes more. refl) def.content (map Relocation def.relocs ++ (map Auxiliary def.auxes ++ rest))
    ∙ gathered relocs_under Relocation (λ r more. refl) def.relocs (map Auxiliary def.auxes ++ rest)
    ∙ ap (λ (more : List RelocRec). def.relocs ++ more) (past_map relocs_under Auxiliary (λ a more. refl) def.auxes rest ∙ relocs_end rest h)
    ∙ append-nil def.relocs

auxes_back : (def : DefDesc) (rest : List Line) → EndsParts rest → auxes_under (content_lines def.content ++ (map Relocation def.relocs ++ (map Auxiliary def.auxes ++ rest))) ≡ def.auxes
auxes_back def rest h =
    past_content auxes_under (λ bytes more. refl) def.content (map Relocation def.relocs ++ (map Auxiliary def.auxes ++ rest))
    ∙ past_map auxes_under Relocation (λ r more. refl) def.relocs (map Auxiliary def.auxes ++ rest)
    ∙ gathered auxes_under Auxiliary (λ a more. refl) def.auxes rest
    ∙ ap (λ (more : List AuxRec). def.auxes ++ more) (auxes_end rest h)
    ∙ append-nil def.auxes

same_block : (block : DefBlock) → eqb (block_number block) (block_number block) ≡ true
same_block Symdef = refl
same_block Hashed64def = refl
same_block Hasheddef = refl
same_block Nonpkgdef = refl

-- one definition before other lines
one_def : (block : DefBlock) (def : DefDesc) (parts : List Line) → content_under [] parts ≡ def.content → relocs_under parts ≡ def.relocs → auxes_under parts ≡ def.auxes
    → definitions block (Symbol block def.sym def.hash ∷ parts) ≡ def ∷ definitions block parts
one_def block def parts content relocs auxes =
    rw (same_block block) (λ i. record { sym = def.sym; hash = def.hash; content = content i; relocs = relocs i; auxes = auxes i } ∷ definitions block parts)

-- lines behind those of a kind, or behind definitions, do not begin with a part either
ends_map : {A : Type 0} (make : A → Line) → ((x : A) (more : List Line) → EndsParts (make x ∷ more)) → (xs : List A) (rest : List Line) → EndsParts rest → EndsParts (map make xs ++ rest)
ends_map {A} make h [] rest end = end
ends_map {A} make h (x ∷ xs) rest end = h x (map make xs ++ rest)

ends_defs : (block : DefBlock) (defs : List DefDesc) (rest : List Line) → EndsParts rest → EndsParts (flat_map (def_lines block) defs ++ rest)
unfolding def_lines
ends_defs block [] rest end = end
ends_defs block (def ∷ defs) rest end = tt

-- the definitions of a block
defs_back : (block : DefBlock) (defs : List DefDesc) (rest : List Line) → EndsParts rest → definitions block (flat_map (def_lines block) defs ++ rest) ≡ defs ++ definitions block rest
defs_back block [] rest end = refl
defs_back block (def ∷ defs) rest end =
    let more = flat_map (def_lines block) defs ++ rest in
    let stops = ends_defs block defs rest end in
    let parts = content_lines def.content ++ (map Relocation def.relocs ++ (map Auxiliary def.auxes ++ more)) in
    ap (definitions block) (append_assoc (def_lines block def) (flat_map (def_lines block) defs) rest ∙ def_joined block def more)
    ∙ one_def block def parts (content_back def more stops) (relocs_back def more stops) (auxes_back def more stops)
    ∙ ap (λ (ds : List DefDesc). def ∷ ds)
    (past_content (definitions block) (λ bytes lines. refl) def.content (map Relocation def.relocs ++ (map Auxiliary def.auxes ++ more))
    ∙ past_map (definitions block) Relocation (λ r lines. refl) def.relocs (map Auxiliary def.auxes ++ more)
    ∙ past_map (definitions block) Auxiliary (λ a lines. refl) def.auxes more
    ∙ defs_back block defs rest end)

ends_names : (d : ObjDesc) → EndsParts (from_names d)
ends_names d = go d.ref_names where
  go : (xs : List RefNameDesc) → EndsParts (map Named xs)
  go [] = tt
  go (x ∷ xs) = tt

ends_refs : (d : ObjDesc) → EndsParts (from_refs d)
ends_refs d = ends_map Reference (λ x more. tt) d.refs (from_flags d) (ends_map Flags (λ x more. tt) d.ref_flags (from_names d) (ends_names d))

ends_ndefs : (d : ObjDesc) → EndsParts (from_ndefs d)
ends_ndefs d = ends_defs Nonpkgdef d.ndefs (from_refs d) (ends_refs d)

ends_hashed : (d : ObjDesc) → EndsParts (from_hashed d)
ends_hashed d = ends_defs Hasheddef d.hashed (from_ndefs d) (ends_ndefs d)

ends_hash64 : (d : ObjDesc) → EndsParts (from_hash64 d)
ends_hash64 d = ends_defs Hashed64def d.hash64 (from_hashed d) (ends_hashed d)

-- from a kind of lines to the end, and from the first kind to a kind, for what passes over them
module _ {B : Type 0} (gather : List Line → B) (d : ObjDesc) where
  end_names : IsPast gather Named → gather (from_names d) ≡ gather []
  end_names n = ap gather (sym (append-nil (map Named d.ref_names))) ∙ past_map gather Named n d.ref_names []

  end_flags : IsPast gather Flags → IsPast gather Named → gather (from_flags d) ≡ gather []
  end_flags f n = past_map gather Flags f d.ref_flags (from_names d) ∙ end_names n

  end_refs : IsPast gather Reference → IsPast gather Flags → IsPast gather Named → gather (from_refs d) ≡ gather []
  end_refs r f n = past_map gather Reference r d.refs (from_flags d) ∙ end_flags f n

  end_ndefs : IsPastDefs gather Nonpkgdef → IsPast gather Reference → IsPast gather Flags → IsPast gather Named → gather (from_ndefs d) ≡ gather []
  end_ndefs u r f n = past_defs gather Nonpkgdef u d.ndefs (from_refs d) ∙ end_refs r f n

  end_hashed : IsPastDefs gather Hasheddef → IsPastDefs gather Nonpkgdef → IsPast gather Reference → IsPast gather Flags → IsPast gather Named → gather (from_hashed d) ≡ gather []
  end_hashed l u r f n = past_defs gather Hasheddef l d.hashed (from_ndefs d) ∙ end_ndefs u r f n

  end_hash64 : IsPastDefs gather Hashed64def → IsPastDefs gather Hasheddef → IsPastDefs gather Nonpkgdef → IsPast gather Reference → IsPast gather Flags → IsPast gather Named → gather (from_hash64 d) ≡ gather []
  end_hash64 s l u r f n = past_defs gather Hashed64def s d.hash64 (from_hashed d) ∙ end_hashed l u r f n

  end_defs : ((block : DefBlock) → IsPastDefs gather block) → IsPast gather Reference → IsPast gather Flags → IsPast gather Named → gather (from_defs d) ≡ gather []
  end_defs b r f n = past_defs gather Symdef (b Symdef) d.defs (from_hash64 d) ∙ end_hash64 (b Hashed64def) (b Hasheddef) (b Nonpkgdef) r f n

  end_files : IsPast gather Source → ((block : DefBlock) → IsPastDefs gather block) → IsPast gather Reference → IsPast gather Flags → IsPast gather Named → gather (from_files d) ≡ gather []
  end_files s b r f n = past_map gather Source s d.files (from_defs d) ∙ end_defs b r f n

  end_pkgs : IsPast gather Package → IsPast gather Source → ((block : DefBlock) → IsPastDefs gather block) → IsPast gather Reference → IsPast gather Flags → IsPast gather Named → gather (from_pkgs d) ≡ gather []
  end_pkgs p s b r f n = past_map gather Package p d.pkgs (from_files d) ∙ end_files s b r f n

  end_autolib : IsPast gather Import → IsPast gather Package → IsPast gather Source → ((block : DefBlock) → IsPastDefs gather block) → IsPast gather Reference → IsPast gather Flags → IsPast gather Named → gather (from_autolib d) ≡ gather []
  end_autolib i p s b r f n = past_map gather Import i d.autolib (from_pkgs d) ∙ end_pkgs p s b r f n

  to_files : IsPast gather Import → IsPast gather Package → gather (from_autolib d) ≡ gather (from_files d)
  to_files i p = past_map gather Import i d.autolib (from_pkgs d) ∙ past_map gather Package p d.pkgs (from_files d)

  to_defs : IsPast gather Import → IsPast gather Package → IsPast gather Source → gather (from_autolib d) ≡ gather (from_defs d)
  to_defs i p s = to_files i p ∙ past_map gather Source s d.files (from_defs d)

  to_hash64 : IsPast gather Import → IsPast gather Package → IsPast gather Source → IsPastDefs gather Symdef → gather (from_autolib d) ≡ gather (from_hash64 d)
  to_hash64 i p s a = to_defs i p s ∙ past_defs gather Symdef a d.defs (from_hash64 d)

  to_hashed : IsPast gather Import → IsPast gather Package → IsPast gather Source → IsPastDefs gather Symdef → IsPastDefs gather Hashed64def → gather (from_autolib d) ≡ gather (from_hashed d)
  to_hashed i p s a b = to_hash64 i p s a ∙ past_defs gather Hashed64def b d.hash64 (from_hashed d)

  to_ndefs : IsPast gather Import → IsPast gather Package → IsPast gather Source → IsPastDefs gather Symdef → IsPastDefs gather Hashed64def → IsPastDefs gather Hasheddef → gather (from_autolib d) ≡ gather (from_ndefs d)
  to_ndefs i p s a b c = to_hashed i p s a b ∙ past_defs gather Hasheddef c d.hashed (from_ndefs d)

  to_refs : IsPast gather Import → IsPast gather Package → IsPast gather Source → ((block : DefBlock) → IsPastDefs gather block) → gather (from_autolib d) ≡ gather (from_refs d)
  to_refs i p s b = to_ndefs i p s (b Symdef) (b Hashed64def) (b Hasheddef) ∙ past_defs gather Nonpkgdef (b Nonpkgdef) d.ndefs (from_refs d)

  to_flags : IsPast gather Import → IsPast gather Package → IsPast gather Source → ((block : DefBlock) → IsPastDefs gather block) → IsPast gather Reference → gather (from_autolib d) ≡ gather (from_flags d)
  to_flags i p s b r = to_refs i p s b ∙ past_map gather Reference r d.refs (from_flags d)

  to_names : IsPast gather Import → IsPast gather Package → IsPast gather Source → ((block : DefBlock) → IsPastDefs gather block) → IsPast gather Reference → IsPast gather Flags → gather (from_autolib d) ≡ gather (from_names d)
  to_names i p s b r f = to_flags i p s b r ∙ past_map gather Flags f d.ref_flags (from_names d)

-- each part of the description
flags_back : (d : ObjDesc) → flags_from d.flags (from_autolib d) ≡ d.flags
flags_back d = end_autolib (flags_from d.flags) d (λ x m. refl) (λ x m. refl) (λ x m. refl) (λ b. record { symbol = λ s h m. refl; content = λ s m. refl; reloc = λ r m. refl; aux = λ a m. refl }) (λ x m. refl) (λ x m. refl) (λ x m. refl)

fingerprint_back : (d : ObjDesc) → fingerprint_from d.fingerprint (from_autolib d) ≡ d.fingerprint
fingerprint_back d = end_autolib (fingerprint_from d.fingerprint) d (λ x m. refl) (λ x m. refl) (λ x m. refl) (λ b. record { symbol = λ s h m. refl; content = λ s m. refl; reloc = λ r m. refl; aux = λ a m. refl }) (λ x m. refl) (λ x m. refl) (λ x m. refl)

imports_back : (d : ObjDesc) → imports (from_autolib d) ≡ d.autolib
imports_back d =
    gathered imports Import (λ x m. refl) d.autolib (from_pkgs d)
    ∙ ap (λ (more : List AutolibDesc). d.autolib ++ more) (end_pkgs imports d (λ x m. refl) (λ x m. refl) (λ b. record { symbol = λ s h m. refl; content = λ s m. refl; reloc = λ r m. refl; aux = λ a m. refl }) (λ x m. refl) (λ x m. refl) (λ x m. refl))
    ∙ append-nil d.autolib

packages_back : (d : ObjDesc) → packages (from_autolib d) ≡ d.pkgs
packages_back d =
    past_map packages Import (λ x m. refl) d.autolib (from_pkgs d)
    ∙ gathered packages Package (λ x m. refl) d.pkgs (from_files d)
    ∙ ap (λ (more : List (List ℕ)). d.pkgs ++ more) (end_files packages d (λ x m. refl) (λ b. record { symbol = λ s h m. refl; content = λ s m. refl; reloc = λ r m. refl; aux = λ a m. refl }) (λ x m. refl) (λ x m. refl) (λ x m. refl))
    ∙ append-nil d.pkgs

sources_back : (d : ObjDesc) → sources (from_autolib d) ≡ d.files
sources_back d =
    to_files sources d (λ x m. refl) (λ x m. refl)
    ∙ gathered sources Source (λ x m. refl) d.files (from_defs d)
    ∙ ap (λ (more : List (List ℕ)). d.files ++ more) (end_defs sources d (λ b. record { symbol = λ s h m. refl; content = λ s m. refl; reloc = λ r m. refl; aux = λ a m. refl }) (λ x m. refl) (λ x m. refl) (λ x m. refl))
    ∙ append-nil d.files

past_other : (block other : DefBlock) → eqb (block_number other) (block_number block) ≡ false → IsPastDefs (definitions block) other
past_other block other apart = record { symbol = λ s h m. rw apart refl; content = λ s m. refl; reloc = λ r m. refl; aux = λ a m. refl }

plain_back : (d : ObjDesc) → definitions Symdef (from_autolib d) ≡ d.defs
plain_back d =
    to_defs (definitions Symdef) d (λ x m. refl) (λ x m. refl) (λ x m. refl)
    ∙ defs_back Symdef d.defs (from_hash64 d) (ends_hash64 d)
    ∙ ap (λ (more : List DefDesc). d.defs ++ more) (end_hash64 (definitions Symdef) d (past_other Symdef Hashed64def refl) (past_other Symdef Hasheddef refl) (past_other Symdef Nonpkgdef refl) (λ x m. refl) (λ x m. refl) (λ x m. refl))
    ∙ append-nil d.defs

hash64_back : (d : ObjDesc) → definitions Hashed64def (from_autolib d) ≡ d.hash64
hash64_back d =
    to_hash64 (definitions Hashed64def) d (λ x m. refl) (λ x m. refl) (λ x m. refl) (past_other Hashed64def Symdef refl)
    ∙ defs_back Hashed64def d.hash64 (from_hashed d) (ends_hashed d)
    ∙ ap (λ (more : List DefDesc). d.hash64 ++ more) (end_hashed (definitions Hashed64def) d (past_other Hashed64def Hasheddef refl) (past_other Hashed64def Nonpkgdef refl) (λ x m. refl) (λ x m. refl) (λ x m. refl))
    ∙ append-nil d.hash64

hashed_back : (d : ObjDesc) → definitions Hasheddef (from_autolib d) ≡ d.hashed
hashed_back d =
    to_hashed (definitions Hasheddef) d (λ x m. refl) (λ x m. refl) (λ x m. refl) (past_other Hasheddef Symdef refl) (past_other Hasheddef Hashed64def refl)
    ∙ defs_back Hasheddef d.hashed (from_ndefs d) (ends_ndefs d)
    ∙ ap (λ (more : List DefDesc). d.hashed ++ more) (end_ndefs (definitions Hasheddef) d (past_other Hasheddef Nonpkgdef refl) (λ x m. refl) (λ x m. refl) (λ x m. refl))
    ∙ append-nil d.hashed

ndefs_back : (d : ObjDesc) → definitions Nonpkgdef (from_autolib d) ≡ d.ndefs
ndefs_back d =
    to_ndefs (definitions Nonpkgdef) d (λ x m. refl) (λ x m. refl) (λ x m. refl) (past_other Nonpkgdef Symdef refl) (past_other Nonpkgdef Hashed64def refl) (past_other Nonpkgdef Hasheddef refl)
    ∙ defs_back Nonpkgdef d.ndefs (from_refs d) (ends_refs d)
    ∙ ap (λ (more : List DefDesc). d.ndefs ++ more) (end_refs (definitions Nonpkgdef) d (λ x m. refl) (λ x m. refl) (λ x m. refl))
    ∙ append-nil d.ndefs

references_back : (d : ObjDesc) → references (from_autolib d) ≡ d.refs
references_back d =
    to_refs references d (λ x m. refl) (λ x m. refl) (λ x m. refl) (λ b. record { symbol = λ s h m. refl; content = λ s m. refl; reloc = λ r m. refl; aux = λ a m. refl })
    ∙ gathered references Reference (λ x m. refl) d.refs (from_flags d)
    ∙ ap (λ (more : List SymDesc). d.refs ++ more) (end_flags references d (λ x m. refl) (λ x m. refl))
    ∙ append-nil d.refs

records_back : (d : ObjDesc) → flag_records (from_autolib d) ≡ d.ref_flags
records_back d =
    to_flags flag_records d (λ x m. refl) (λ x m. refl) (λ x m. refl) (λ b. record { symbol = λ s h m. refl; content = λ s m. refl; reloc = λ r m. refl; aux = λ a m. refl }) (λ x m. refl)
    ∙ gathered flag_records Flags (λ x m. refl) d.ref_flags (from_names d)
    ∙ ap (λ (more : List RefFlagsRec). d.ref_flags ++ more) (end_names flag_records d (λ x m. refl))
    ∙ append-nil d.ref_flags

names_back : (d : ObjDesc) → ref_names (from_autolib d) ≡ d.ref_names
names_back d =
    to_names ref_names d (λ x m. refl) (λ x m. refl) (λ x m. refl) (λ b. record { symbol = λ s h m. refl; content = λ s m. refl; reloc = λ r m. refl; aux = λ a m. refl }) (λ x m. refl) (λ x m. refl)
    ∙ ap ref_names (sym (append-nil (map Named d.ref_names)))
    ∙ gathered ref_names Named (λ x m. refl) d.ref_names []
    ∙ append-nil d.ref_names

joined_back : (d : ObjDesc) → description_of_lines (Header d.flags d.fingerprint ∷ from_autolib d) ≡ d
unfolding description_of_lines
joined_back d = λ i. record {
  flags = flags_back d i;
  fingerprint = fingerprint_back d i;
  autolib = imports_back d i;
  pkgs = packages_back d i;
  files = sources_back d i;
  defs = plain_back d i;
  hash64 = hash64_back d i;
  hashed = hashed_back d i;
  ndefs = ndefs_back d i;
  refs = references_back d i;
  ref_flags = records_back d i;
  ref_names = names_back d i;
}

-- the lines of a description make it again
pub description_back : (d : ObjDesc) → description_of_lines (lines_of d) ≡ d
description_back d = ap description_of_lines (lines_joined d) ∙ joined_back d
