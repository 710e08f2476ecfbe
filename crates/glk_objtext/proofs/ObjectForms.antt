-- The lines of a text hold the description that they read as, and no other.
use Rattle.std.proofs.Common.{◌≡◌, ℕ, true, false, List, [], ◌∷◌, refl, ap, sym, subst}
use Rattle.std.specs.List.{AllZip}
use Rattle.std.specs.Str.{bytes_eq}
use Rattle.glk_objtext.specs.Description.{imports, packages, sources, references, flag_records, ref_names, content_under, relocs_under, auxes_under, definitions}
use Rattle.glk_objtext.specs.Entries.{HoldsAutolib, HoldsString, HoldsSymbol, HoldsData, HoldsReloc, HoldsAux, HoldsRefFlags, HoldsRefName}
use Rattle.glk_objtext.specs.Kinds.{Kind, kind_word}
use Rattle.glk_objtext.specs.Kinds.Kind.{autolib_line, pkg_line, file_line, def_line, hash64_line, hash_line, ndef_line, ref_line, refflags_line, refname_line, data_line, reloc_line, aux_line}
use Rattle.glk_objtext.specs.Rules.{LineFields}
use Rattle.glk_objtext.specs.Spelled.{is_line_of, lines_of_kind, parts_of, definitions_of_kind, HoldsContent, HoldsDefinition}
use Rattle.glk_objtext.specs.Values.{word_of_line}
use Rattle.glk_objtext.specs.declared.line.DefBlock.TheVariants.{Symdef, Hashed64def, Hasheddef, Nonpkgdef}
use Rattle.glk_objtext.specs.declared.line.Line.{Line}
use Rattle.glk_objtext.specs.declared.line.Line.TheVariants.{Header, Import, Package, Source, Symbol, Content, Relocation, Auxiliary, Reference, Flags, Named}
use Rattle.glk_objtext.proofs.KindFacts.{kind_of}
use Rattle.glk_objtext.proofs.StageForms.{IsLineOf}

-- which kind a line is of
kind_test : (kind : Kind) (fs : LineFields) (line : Line) → IsLineOf fs line → is_line_of kind fs ≡ bytes_eq (kind_word (kind_of (word_of_line line))) (kind_word kind)
kind_test kind fs line is = ap (λ (w : List ℕ). bytes_eq w (kind_word kind)) is.kind

pub imports_held : (said : List LineFields) (values : List Line) → AllZip IsLineOf said values → AllZip HoldsAutolib (lines_of_kind autolib_line said) (imports values)
imports_held [] [] h = tt
imports_held [] (line ∷ values) h = absurd h
imports_held (fs ∷ said) [] h = absurd h
imports_held (fs ∷ said) (Header flags fingerprint ∷ values) h = let e1 : is_line_of autolib_line fs ≡ false = kind_test autolib_line fs (Header flags fingerprint) h.0 in rw e1 (imports_held said values h.1)
imports_held (fs ∷ said) (Import a ∷ values) h = let e1 : is_line_of autolib_line fs ≡ true = kind_test autolib_line fs (Import a) h.0 in rw e1 (h.0.holds, imports_held said values h.1)
imports_held (fs ∷ said) (Package path ∷ values) h = let e1 : is_line_of autolib_line fs ≡ false = kind_test autolib_line fs (Package path) h.0 in rw e1 (imports_held said values h.1)
imports_held (fs ∷ said) (Source file ∷ values) h = let e1 : is_line_of autolib_line fs ≡ false = kind_test autolib_line fs (Source file) h.0 in rw e1 (imports_held said values h.1)
imports_held (fs ∷ said) (Symbol Symdef sym hash ∷ values) h = let e1 : is_line_of autolib_line fs ≡ false = kind_test autolib_line fs (Symbol Symdef sym hash) h.0 in rw e1 (imports_held said values h.1)
imports_held (fs ∷ said) (Symbol Hashed64def sym hash ∷ values) h = let e1 : is_line_of autolib_line fs ≡ false = kind_test autolib_line fs (Symbol Hashed64def sym hash) h.0 in rw e1 (imports_held said values h.1)
imports_held (fs ∷ said) (Symbol Hasheddef sym hash ∷ values) h = let e1 : is_line_of autolib_line fs ≡ false = kind_test autolib_line fs (Symbol Hasheddef sym hash) h.0 in rw e1 (imports_held said values h.1)
imports_held (fs ∷ said) (Symbol Nonpkgdef sym hash ∷ values) h = let e1 : is_line_of autolib_line fs ≡ false = kind_test autolib_line fs (Symbol Nonpkgdef sym hash) h.0 in rw e1 (imports_held said values h.1)
imports_held (fs ∷ said) (Content bytes ∷ values) h = let e1 : is_line_of autolib_line fs ≡ false = kind_test autolib_line fs (Content bytes) h.0 in rw e1 (imports_held said values h.1)
imports_held (fs ∷ said) (Relocation r ∷ values) h = let e1 : is_line_of autolib_line fs ≡ false = kind_test autolib_line fs (Relocation r) h.0 in rw e1 (imports_held said values h.1)
imports_held (fs ∷ said) (Auxiliary a ∷ values) h = let e1 : is_line_of autolib_line fs ≡ false = kind_test autolib_line fs (Auxiliary a) h.0 in rw e1 (imports_held said values h.1)
imports_held (fs ∷ said) (Reference sym ∷ values) h = let e1 : is_line_of autolib_line fs ≡ false = kind_test autolib_line fs (Reference sym) h.0 in rw e1 (imports_held said values h.1)
imports_held (fs ∷ said) (Flags r ∷ values) h = let e1 : is_line_of autolib_line fs ≡ false = kind_test autolib_line fs (Flags r) h.0 in rw e1 (imports_held said values h.1)
imports_held (fs ∷ said) (Named r ∷ values) h = let e1 : is_line_of autolib_line fs ≡ false = kind_test autolib_line fs (Named r) h.0 in rw e1 (imports_held said values h.1)

pub packages_held : (said : List LineFields) (values : List Line) → AllZip IsLineOf said values → AllZip HoldsString (lines_of_kind pkg_line said) (packages values)
packages_held [] [] h = tt
packages_held [] (line ∷ values) h = absurd h
packages_held (fs ∷ said) [] h = absurd h
packages_held (fs ∷ said) (Header flags fingerprint ∷ values) h = let e1 : is_line_of pkg_line fs ≡ false = kind_test pkg_line fs (Header flags fingerprint) h.0 in rw e1 (packages_held said values h.1)
packages_held (fs ∷ said) (Import a ∷ values) h = let e1 : is_line_of pkg_line fs ≡ false = kind_test pkg_line fs (Import a) h.0 in rw e1 (packages_held said values h.1)
packages_held (fs ∷ said) (Package path ∷ values) h = let e1 : is_line_of pkg_line fs ≡ true = kind_test pkg_line fs (Package path) h.0 in rw e1 (h.0.holds, packages_held said values h.1)
packages_held (fs ∷ said) (Source file ∷ values) h = let e1 : is_line_of pkg_line fs ≡ false = kind_test pkg_line fs (Source file) h.0 in rw e1 (packages_held said values h.1)
packages_held (fs ∷ said) (Symbol Symdef sym hash ∷ values) h = let e1 : is_line_of pkg_line fs ≡ false = kind_test pkg_line fs (Symbol Symdef sym hash) h.0 in rw e1 (packages_held said values h.1)
packages_held (fs ∷ said) (Symbol Hashed64def sym hash ∷ values) h = let e1 : is_line_of pkg_line fs ≡ false = kind_test pkg_line fs (Symbol Hashed64def sym hash) h.0 in rw e1 (packages_held said values h.1)
packages_held (fs ∷ said) (Symbol Hasheddef sym hash ∷ values) h = let e1 : is_line_of pkg_line fs ≡ false = kind_test pkg_line fs (Symbol Hasheddef sym hash) h.0 in rw e1 (packages_held said values h.1)
packages_held (fs ∷ said) (Symbol Nonpkgdef sym hash ∷ values) h = let e1 : is_line_of pkg_line fs ≡ false = kind_test pkg_line fs (Symbol Nonpkgdef sym hash) h.0 in rw e1 (packages_held said values h.1)
packages_held (fs ∷ said) (Content bytes ∷ values) h = let e1 : is_line_of pkg_line fs ≡ false = kind_test pkg_line fs (Content bytes) h.0 in rw e1 (packages_held said values h.1)
packages_held (fs ∷ said) (Relocation r ∷ values) h = let e1 : is_line_of pkg_line fs ≡ false = kind_test pkg_line fs (Relocation r) h.0 in rw e1 (packages_held said values h.1)
packages_held (fs ∷ said) (Auxiliary a ∷ values) h = let e1 : is_line_of pkg_line fs ≡ false = kind_test pkg_line fs (Auxiliary a) h.0 in rw e1 (packages_held said values h.1)
packages_held (fs ∷ said) (Reference sym ∷ values) h = let e1 : is_line_of pkg_line fs ≡ false = kind_test pkg_line fs (Reference sym) h.0 in rw e1 (packages_held said values h.1)
packages_held (fs ∷ said) (Flags r ∷ values) h = let e1 : is_line_of pkg_line fs ≡ false = kind_test pkg_line fs (Flags r) h.0 in rw e1 (packages_held said values h.1)
packages_held (fs ∷ said) (Named r ∷ values) h = let e1 : is_line_of pkg_line fs ≡ false = kind_test pkg_line fs (Named r) h.0 in rw e1 (packages_held said values h.1)

pub sources_held : (said : List LineFields) (values : List Line) → AllZip IsLineOf said values → AllZip HoldsString (lines_of_kind file_line said) (sources values)
sources_held [] [] h = tt
sources_held [] (line ∷ values) h = absurd h
sources_held (fs ∷ said) [] h = absurd h
sources_held (fs ∷ said) (Header flags fingerprint ∷ values) h = let e1 : is_line_of file_line fs ≡ false = kind_test file_line fs (Header flags fingerprint) h.0 in rw e1 (sources_held said values h.1)
sources_held (fs ∷ said) (Import a ∷ values) h = let e1 : is_line_of file_line fs ≡ false = kind_test file_line fs (Import a) h.0 in rw e1 (sources_held said values h.1)
sources_held (fs ∷ said) (Package path ∷ values) h = let e1 : is_line_of file_line fs ≡ false = kind_test file_line fs (Package path) h.0 in rw e1 (sources_held said values h.1)
sources_held (fs ∷ said) (Source file ∷ values) h = let e1 : is_line_of file_line fs ≡ true = kind_test file_line fs (Source file) h.0 in rw e1 (h.0.holds, sources_held said values h.1)
sources_held (fs ∷ said) (Symbol Symdef sym hash ∷ values) h = let e1 : is_line_of file_line fs ≡ false = kind_test file_line fs (Symbol Symdef sym hash) h.0 in rw e1 (sources_held said values h.1)
sources_held (fs ∷ said) (Symbol Hashed64def sym hash ∷ values) h = let e1 : is_line_of file_line fs ≡ false = kind_test file_line fs (Symbol Hashed64def sym hash) h.0 in rw e1 (sources_held said values h.1)
sources_held (fs ∷ said) (Symbol Hasheddef sym hash ∷ values) h = let e1 : is_line_of file_line fs ≡ false = kind_test file_line fs (Symbol Hasheddef sym hash) h.0 in rw e1 (sources_held said values h.1)
sources_held (fs ∷ said) (Symbol Nonpkgdef sym hash ∷ values) h = let e1 : is_line_of file_line fs ≡ false = kind_test file_line fs (Symbol Nonpkgdef sym hash) h.0 in rw e1 (sources_held said values h.1)
sources_held (fs ∷ said) (Content bytes ∷ values) h = let e1 : is_line_of file_line fs ≡ false = kind_test file_line fs (Content bytes) h.0 in rw e1 (sources_held said values h.1)
sources_held (fs ∷ said) (Relocation r ∷ values) h = let e1 : is_line_of file_line fs ≡ false = kind_test file_line fs (Relocation r) h.0 in rw e1 (sources_held said values h.1)
sources_held (fs ∷ said) (Auxiliary a ∷ values) h = let e1 : is_line_of file_line fs ≡ false = kind_test file_line fs (Auxiliary a) h.0 in rw e1 (sources_held said values h.1)
sources_held (fs ∷ said) (Reference sym ∷ values) h = let e1 : is_line_of file_line fs ≡ false = kind_test file_line fs (Reference sym) h.0 in rw e1 (sources_held said values h.1)
sources_held (fs ∷ said) (Flags r ∷ values) h = let e1 : is_line_of file_line fs ≡ false = kind_test file_line fs (Flags r) h.0 in rw e1 (sources_held said values h.1)
sources_held (fs ∷ said) (Named r ∷ values) h = let e1 : is_line_of file_line fs ≡ false = kind_test file_line fs (Named r) h.0 in rw e1 (sources_held said values h.1)

pub references_held : (said : List LineFields) (values : List Line) → AllZip IsLineOf said values → AllZip HoldsSymbol (lines_of_kind ref_line said) (references values)
references_held [] [] h = tt
references_held [] (line ∷ values) h = absurd h
references_held (fs ∷ said) [] h = absurd h
references_held (fs ∷ said) (Header flags fingerprint ∷ values) h = let e1 : is_line_of ref_line fs ≡ false = kind_test ref_line fs (Header flags fingerprint) h.0 in rw e1 (references_held said values h.1)
references_held (fs ∷ said) (Import a ∷ values) h = let e1 : is_line_of ref_line fs ≡ false = kind_test ref_line fs (Import a) h.0 in rw e1 (references_held said values h.1)
references_held (fs ∷ said) (Package path ∷ values) h = let e1 : is_line_of ref_line fs ≡ false = kind_test ref_line fs (Package path) h.0 in rw e1 (references_held said values h.1)
references_held (fs ∷ said) (Source file ∷ values) h = let e1 : is_line_of ref_line fs ≡ false = kind_test ref_line fs (Source file) h.0 in rw e1 (references_held said values h.1)
references_held (fs ∷ said) (Symbol Symdef sym hash ∷ values) h = let e1 : is_line_of ref_line fs ≡ false = kind_test ref_line fs (Symbol Symdef sym hash) h.0 in rw e1 (references_held said values h.1)
references_held (fs ∷ said) (Symbol Hashed64def sym hash ∷ values) h = let e1 : is_line_of ref_line fs ≡ false = kind_test ref_line fs (Symbol Hashed64def sym hash) h.0 in rw e1 (references_held said values h.1)
references_held (fs ∷ said) (Symbol Hasheddef sym hash ∷ values) h = let e1 : is_line_of ref_line fs ≡ false = kind_test ref_line fs (Symbol Hasheddef sym hash) h.0 in rw e1 (references_held said values h.1)
references_held (fs ∷ said) (Symbol Nonpkgdef sym hash ∷ values) h = let e1 : is_line_of ref_line fs ≡ false = kind_test ref_line fs (Symbol Nonpkgdef sym hash) h.0 in rw e1 (references_held said values h.1)
references_held (fs ∷ said) (Content bytes ∷ values) h = let e1 : is_line_of ref_line fs ≡ false = kind_test ref_line fs (Content bytes) h.0 in rw e1 (references_held said values h.1)
references_held (fs ∷ said) (Relocation r ∷ values) h = let e1 : is_line_of ref_line fs ≡ false = kind_test ref_line fs (Relocation r) h.0 in rw e1 (references_held said values h.1)
references_held (fs ∷ said) (Auxiliary a ∷ values) h = let e1 : is_line_of ref_line fs ≡ false = kind_test ref_line fs (Auxiliary a) h.0 in rw e1 (references_held said values h.1)
references_held (fs ∷ said) (Reference sym ∷ values) h = let e1 : is_line_of ref_line fs ≡ true = kind_test ref_line fs (Reference sym) h.0 in rw e1 (h.0.holds, references_held said values h.1)
references_held (fs ∷ said) (Flags r ∷ values) h = let e1 : is_line_of ref_line fs ≡ false = kind_test ref_line fs (Flags r) h.0 in rw e1 (references_held said values h.1)
references_held (fs ∷ said) (Named r ∷ values) h = let e1 : is_line_of ref_line fs ≡ false = kind_test ref_line fs (Named r) h.0 in rw e1 (references_held said values h.1)

pub flags_held : (said : List LineFields) (values : List Line) → AllZip IsLineOf said values → AllZip HoldsRefFlags (lines_of_kind refflags_line said) (flag_records values)
flags_held [] [] h = tt
flags_held [] (line ∷ values) h = absurd h
flags_held (fs ∷ said) [] h = absurd h
flags_held (fs ∷ said) (Header flags fingerprint ∷ values) h = let e1 : is_line_of refflags_line fs ≡ false = kind_test refflags_line fs (Header flags fingerprint) h.0 in rw e1 (flags_held said values h.1)
flags_held (fs ∷ said) (Import a ∷ values) h = let e1 : is_line_of refflags_line fs ≡ false = kind_test refflags_line fs (Import a) h.0 in rw e1 (flags_held said values h.1)
flags_held (fs ∷ said) (Package path ∷ values) h = let e1 : is_line_of refflags_line fs ≡ false = kind_test refflags_line fs (Package path) h.0 in rw e1 (flags_held said values h.1)
flags_held (fs ∷ said) (Source file ∷ values) h = let e1 : is_line_of refflags_line fs ≡ false = kind_test refflags_line fs (Source file) h.0 in rw e1 (flags_held said values h.1)
flags_held (fs ∷ said) (Symbol Symdef sym hash ∷ values) h = let e1 : is_line_of refflags_line fs ≡ false = kind_test refflags_line fs (Symbol Symdef sym hash) h.0 in rw e1 (flags_held said values h.1)
flags_held (fs ∷ said) (Symbol Hashed64def sym hash ∷ values) h = let e1 : is_line_of refflags_line fs ≡ false = kind_test refflags_line fs (Symbol Hashed64def sym hash) h.0 in rw e1 (flags_held said values h.1)
flags_held (fs ∷ said) (Symbol Hasheddef sym hash ∷ values) h = let e1 : is_line_of refflags_line fs ≡ false = kind_test refflags_line fs (Symbol Hasheddef sym hash) h.0 in rw e1 (flags_held said values h.1)
flags_held (fs ∷ said) (Symbol Nonpkgdef sym hash ∷ values) h = let e1 : is_line_of refflags_line fs ≡ false = kind_test refflags_line fs (Symbol Nonpkgdef sym hash) h.0 in rw e1 (flags_held said values h.1)
flags_held (fs ∷ said) (Content bytes ∷ values) h = let e1 : is_line_of refflags_line fs ≡ false = kind_test refflags_line fs (Content bytes) h.0 in rw e1 (flags_held said values h.1)
flags_held (fs ∷ said) (Relocation r ∷ values) h = let e1 : is_line_of refflags_line fs ≡ false = kind_test refflags_line fs (Relocation r) h.0 in rw e1 (flags_held said values h.1)
flags_held (fs ∷ said) (Auxiliary a ∷ values) h = let e1 : is_line_of refflags_line fs ≡ false = kind_test refflags_line fs (Auxiliary a) h.0 in rw e1 (flags_held said values h.1)
flags_held (fs ∷ said) (Reference sym ∷ values) h = let e1 : is_line_of refflags_line fs ≡ false = kind_test refflags_line fs (Reference sym) h.0 in rw e1 (flags_held said values h.1)
flags_held (fs ∷ said) (Flags r ∷ values) h = let e1 : is_line_of refflags_line fs ≡ true = kind_test refflags_line fs (Flags r) h.0 in rw e1 (h.0.holds, flags_held said values h.1)
flags_held (fs ∷ said) (Named r ∷ values) h = let e1 : is_line_of refflags_line fs ≡ false = kind_test refflags_line fs (Named r) h.0 in rw e1 (flags_held said values h.1)

pub names_held : (said : List LineFields) (values : List Line) → AllZip IsLineOf said values → AllZip HoldsRefName (lines_of_kind refname_line said) (ref_names values)
names_held [] [] h = tt
names_held [] (line ∷ values) h = absurd h
names_held (fs ∷ said) [] h = absurd h
names_held (fs ∷ said) (Header flags fingerprint ∷ values) h = let e1 : is_line_of refname_line fs ≡ false = kind_test refname_line fs (Header flags fingerprint) h.0 in rw e1 (names_held said values h.1)
names_held (fs ∷ said) (Import a ∷ values) h = let e1 : is_line_of refname_line fs ≡ false = kind_test refname_line fs (Import a) h.0 in rw e1 (names_held said values h.1)
names_held (fs ∷ said) (Package path ∷ values) h = let e1 : is_line_of refname_line fs ≡ false = kind_test refname_line fs (Package path) h.0 in rw e1 (names_held said values h.1)
names_held (fs ∷ said) (Source file ∷ values) h = let e1 : is_line_of refname_line fs ≡ false = kind_test refname_line fs (Source file) h.0 in rw e1 (names_held said values h.1)
names_held (fs ∷ said) (Symbol Symdef sym hash ∷ values) h = let e1 : is_line_of refname_line fs ≡ false = kind_test refname_line fs (Symbol Symdef sym hash) h.0 in rw e1 (names_held said values h.1)
names_held (fs ∷ said) (Symbol Hashed64def sym hash ∷ values) h = let e1 : is_line_of refname_line fs ≡ false = kind_test refname_line fs (Symbol Hashed64def sym hash) h.0 in rw e1 (names_held said values h.1)
names_held (fs ∷ said) (Symbol Hasheddef sym hash ∷ values) h = let e1 : is_line_of refname_line fs ≡ false = kind_test refname_line fs (Symbol Hasheddef sym hash) h.0 in rw e1 (names_held said values h.1)
names_held (fs ∷ said) (Symbol Nonpkgdef sym hash ∷ values) h = let e1 : is_line_of refname_line fs ≡ false = kind_test refname_line fs (Symbol Nonpkgdef sym hash) h.0 in rw e1 (names_held said values h.1)
names_held (fs ∷ said) (Content bytes ∷ values) h = let e1 : is_line_of refname_line fs ≡ false = kind_test refname_line fs (Content bytes) h.0 in rw e1 (names_held said values h.1)
names_held (fs ∷ said) (Relocation r ∷ values) h = let e1 : is_line_of refname_line fs ≡ false = kind_test refname_line fs (Relocation r) h.0 in rw e1 (names_held said values h.1)
names_held (fs ∷ said) (Auxiliary a ∷ values) h = let e1 : is_line_of refname_line fs ≡ false = kind_test refname_line fs (Auxiliary a) h.0 in rw e1 (names_held said values h.1)
names_held (fs ∷ said) (Reference sym ∷ values) h = let e1 : is_line_of refname_line fs ≡ false = kind_test refname_line fs (Reference sym) h.0 in rw e1 (names_held said values h.1)
names_held (fs ∷ said) (Flags r ∷ values) h = let e1 : is_line_of refname_line fs ≡ false = kind_test refname_line fs (Flags r) h.0 in rw e1 (names_held said values h.1)
names_held (fs ∷ said) (Named r ∷ values) h = let e1 : is_line_of refname_line fs ≡ true = kind_test refname_line fs (Named r) h.0 in rw e1 (h.0.holds, names_held said values h.1)

-- the parts of a definition
relocs_held : (said : List LineFields) (values : List Line) → AllZip IsLineOf said values → AllZip HoldsReloc (lines_of_kind reloc_line (parts_of said)) (relocs_under values)
relocs_held [] [] h = tt
relocs_held [] (line ∷ values) h = absurd h
relocs_held (fs ∷ said) [] h = absurd h
relocs_held (fs ∷ said) (Header flags fingerprint ∷ values) h = let e1 : is_line_of data_line fs ≡ false = kind_test data_line fs (Header flags fingerprint) h.0 in let e2 : is_line_of reloc_line fs ≡ false = kind_test reloc_line fs (Header flags fingerprint) h.0 in let e3 : is_line_of aux_line fs ≡ false = kind_test aux_line fs (Header flags fingerprint) h.0 in rw (e1, e2, e3) tt
relocs_held (fs ∷ said) (Import a ∷ values) h = let e1 : is_line_of data_line fs ≡ false = kind_test data_line fs (Import a) h.0 in let e2 : is_line_of reloc_line fs ≡ false = kind_test reloc_line fs (Import a) h.0 in let e3 : is_line_of aux_line fs ≡ false = kind_test aux_line fs (Import a) h.0 in rw (e1, e2, e3) tt
relocs_held (fs ∷ said) (Package path ∷ values) h = let e1 : is_line_of data_line fs ≡ false = kind_test data_line fs (Package path) h.0 in let e2 : is_line_of reloc_line fs ≡ false = kind_test reloc_line fs (Package path) h.0 in let e3 : is_line_of aux_line fs ≡ false = kind_test aux_line fs (Package path) h.0 in rw (e1, e2, e3) tt
relocs_held (fs ∷ said) (Source file ∷ values) h = let e1 : is_line_of data_line fs ≡ false = kind_test data_line fs (Source file) h.0 in let e2 : is_line_of reloc_line fs ≡ false = kind_test reloc_line fs (Source file) h.0 in let e3 : is_line_of aux_line fs ≡ false = kind_test aux_line fs (Source file) h.0 in rw (e1, e2, e3) tt
relocs_held (fs ∷ said) (Symbol Symdef sym hash ∷ values) h = let e1 : is_line_of data_line fs ≡ false = kind_test data_line fs (Symbol Symdef sym hash) h.0 in let e2 : is_line_of reloc_line fs ≡ false = kind_test reloc_line fs (Symbol Symdef sym hash) h.0 in let e3 : is_line_of aux_line fs ≡ false = kind_test aux_line fs (Symbol Symdef sym hash) h.0 in rw (e1, e2, e3) tt
relocs_held (fs ∷ said) (Symbol Hashed64def sym hash ∷ values) h = let e1 : is_line_of data_line fs ≡ false = kind_test data_line fs (Symbol Hashed64def sym hash) h.0 in let e2 : is_line_of reloc_line fs ≡ false = kind_test reloc_line fs (Symbol Hashed64def sym hash) h.0 in let e3 : is_line_of aux_line fs ≡ false = kind_test aux_line fs (Symbol Hashed64def sym hash) h.0 in rw (e1, e2, e3) tt
relocs_held (fs ∷ said) (Symbol Hasheddef sym hash ∷ values) h = let e1 : is_line_of data_line fs ≡ false = kind_test data_line fs (Symbol Hasheddef sym hash) h.0 in let e2 : is_line_of reloc_line fs ≡ false = kind_test reloc_line fs (Symbol Hasheddef sym hash) h.0 in let e3 : is_line_of aux_line fs ≡ false = kind_test aux_line fs (Symbol Hasheddef sym hash) h.0 in rw (e1, e2, e3) tt
relocs_held (fs ∷ said) (Symbol Nonpkgdef sym hash ∷ values) h = let e1 : is_line_of data_line fs ≡ false = kind_test data_line fs (Symbol Nonpkgdef sym hash) h.0 in let e2 : is_line_of reloc_line fs ≡ false = kind_test reloc_line fs (Symbol Nonpkgdef sym hash) h.0 in let e3 : is_line_of aux_line fs ≡ false = kind_test aux_line fs (Symbol Nonpkgdef sym hash) h.0 in rw (e1, e2, e3) tt
relocs_held (fs ∷ said) (Content bytes ∷ values) h = let e1 : is_line_of data_line fs ≡ true = kind_test data_line fs (Content bytes) h.0 in let e2 : is_line_of reloc_line fs ≡ false = kind_test reloc_line fs (Content bytes) h.0 in rw (e1, e2) (relocs_held said values h.1)
relocs_held (fs ∷ said) (Relocation r ∷ values) h = let e1 : is_line_of data_line fs ≡ false = kind_test data_line fs (Relocation r) h.0 in let e2 : is_line_of reloc_line fs ≡ true = kind_test reloc_line fs (Relocation r) h.0 in rw (e1, e2, e2) (h.0.holds, relocs_held said values h.1)
relocs_held (fs ∷ said) (Auxiliary a ∷ values) h = let e1 : is_line_of data_line fs ≡ false = kind_test data_line fs (Auxiliary a) h.0 in let e2 : is_line_of reloc_line fs ≡ false = kind_test reloc_line fs (Auxiliary a) h.0 in let e3 : is_line_of aux_line fs ≡ true = kind_test aux_line fs (Auxiliary a) h.0 in rw (e1, e2, e3, e2) (relocs_held said values h.1)
relocs_held (fs ∷ said) (Reference sym ∷ values) h = let e1 : is_line_of data_line fs ≡ false = kind_test data_line fs (Reference sym) h.0 in let e2 : is_line_of reloc_line fs ≡ false = kind_test reloc_line fs (Reference sym) h.0 in let e3 : is_line_of aux_line fs ≡ false = kind_test aux_line fs (Reference sym) h.0 in rw (e1, e2, e3) tt
relocs_held (fs ∷ said) (Flags r ∷ values) h = let e1 : is_line_of data_line fs ≡ false = kind_test data_line fs (Flags r) h.0 in let e2 : is_line_of reloc_line fs ≡ false = kind_test reloc_line fs (Flags r) h.0 in let e3 : is_line_of aux_line fs ≡ false = kind_test aux_line fs (Flags r) h.0 in rw (e1, e2, e3) tt
relocs_held (fs ∷ said) (Named r ∷ values) h = let e1 : is_line_of data_line fs ≡ false = kind_test data_line fs (Named r) h.0 in let e2 : is_line_of reloc_line fs ≡ false = kind_test reloc_line fs (Named r) h.0 in let e3 : is_line_of aux_line fs ≡ false = kind_test aux_line fs (Named r) h.0 in rw (e1, e2, e3) tt

auxes_held : (said : List LineFields) (values : List Line) → AllZip IsLineOf said values → AllZip HoldsAux (lines_of_kind aux_line (parts_of said)) (auxes_under values)
auxes_held [] [] h = tt
auxes_held [] (line ∷ values) h = absurd h
auxes_held (fs ∷ said) [] h = absurd h
auxes_held (fs ∷ said) (Header flags fingerprint ∷ values) h = let e1 : is_line_of data_line fs ≡ false = kind_test data_line fs (Header flags fingerprint) h.0 in let e2 : is_line_of reloc_line fs ≡ false = kind_test reloc_line fs (Header flags fingerprint) h.0 in let e3 : is_line_of aux_line fs ≡ false = kind_test aux_line fs (Header flags fingerprint) h.0 in rw (e1, e2, e3) tt
auxes_held (fs ∷ said) (Import a ∷ values) h = let e1 : is_line_of data_line fs ≡ false = kind_test data_line fs (Import a) h.0 in let e2 : is_line_of reloc_line fs ≡ false = kind_test reloc_line fs (Import a) h.0 in let e3 : is_line_of aux_line fs ≡ false = kind_test aux_line fs (Import a) h.0 in rw (e1, e2, e3) tt
auxes_held (fs ∷ said) (Package path ∷ values) h = let e1 : is_line_of data_line fs ≡ false = kind_test data_line fs (Package path) h.0 in let e2 : is_line_of reloc_line fs ≡ false = kind_test reloc_line fs (Package path) h.0 in let e3 : is_line_of aux_line fs ≡ false = kind_test aux_line fs (Package path) h.0 in rw (e1, e2, e3) tt
auxes_held (fs ∷ said) (Source file ∷ values) h = let e1 : is_line_of data_line fs ≡ false = kind_test data_line fs (Source file) h.0 in let e2 : is_line_of reloc_line fs ≡ false = kind_test reloc_line fs (Source file) h.0 in let e3 : is_line_of aux_line fs ≡ false = kind_test aux_line fs (Source file) h.0 in rw (e1, e2, e3) tt
auxes_held (fs ∷ said) (Symbol Symdef sym hash ∷ values) h = let e1 : is_line_of data_line fs ≡ false = kind_test data_line fs (Symbol Symdef sym hash) h.0 in let e2 : is_line_of reloc_line fs ≡ false = kind_test reloc_line fs (Symbol Symdef sym hash) h.0 in let e3 : is_line_of aux_line fs ≡ false = kind_test aux_line fs (Symbol Symdef sym hash) h.0 in rw (e1, e2, e3) tt
auxes_held (fs ∷ said) (Symbol Hashed64def sym hash ∷ values) h = let e1 : is_line_of data_line fs ≡ false = kind_test data_line fs (Symbol Hashed64def sym hash) h.0 in let e2 : is_line_of reloc_line fs ≡ false = kind_test reloc_line fs (Symbol Hashed64def sym hash) h.0 in let e3 : is_line_of aux_line fs ≡ false = kind_test aux_line fs (Symbol Hashed64def sym hash) h.0 in rw (e1, e2, e3) tt
auxes_held (fs ∷ said) (Symbol Hasheddef sym hash ∷ values) h = let e1 : is_line_of data_line fs ≡ false = kind_test data_line fs (Symbol Hasheddef sym hash) h.0 in let e2 : is_line_of reloc_line fs ≡ false = kind_test reloc_line fs (Symbol Hasheddef sym hash) h.0 in let e3 : is_line_of aux_line fs ≡ false = kind_test aux_line fs (Symbol Hasheddef sym hash) h.0 in rw (e1, e2, e3) tt
auxes_held (fs ∷ said) (Symbol Nonpkgdef sym hash ∷ values) h = let e1 : is_line_of data_line fs ≡ false = kind_test data_line fs (Symbol Nonpkgdef sym hash) h.0 in let e2 : is_line_of reloc_line fs ≡ false = kind_test reloc_line fs (Symbol Nonpkgdef sym hash) h.0 in let e3 : is_line_of aux_line fs ≡ false = kind_test aux_line fs (Symbol Nonpkgdef sym hash) h.0 in rw (e1, e2, e3) tt
auxes_held (fs ∷ said) (Content bytes ∷ values) h = let e1 : is_line_of data_line fs ≡ true = kind_test data_line fs (Content bytes) h.0 in let e3 : is_line_of aux_line fs ≡ false = kind_test aux_line fs (Content bytes) h.0 in rw (e1, e3) (auxes_held said values h.1)
auxes_held (fs ∷ said) (Relocation r ∷ values) h = let e1 : is_line_of data_line fs ≡ false = kind_test data_line fs (Relocation r) h.0 in let e2 : is_line_of reloc_line fs ≡ true = kind_test reloc_line fs (Relocation r) h.0 in let e3 : is_line_of aux_line fs ≡ false = kind_test aux_line fs (Relocation r) h.0 in rw (e1, e2, e3) (auxes_held said values h.1)
auxes_held (fs ∷ said) (Auxiliary a ∷ values) h = let e1 : is_line_of data_line fs ≡ false = kind_test data_line fs (Auxiliary a) h.0 in let e2 : is_line_of reloc_line fs ≡ false = kind_test reloc_line fs (Auxiliary a) h.0 in let e3 : is_line_of aux_line fs ≡ true = kind_test aux_line fs (Auxiliary a) h.0 in rw (e1, e2, e3, e3) (h.0.holds, auxes_held said values h.1)
auxes_held (fs ∷ said) (Reference sym ∷ values) h = let e1 : is_line_of data_line fs ≡ false = kind_test data_line fs (Reference sym) h.0 in let e2 : is_line_of reloc_line fs ≡ false = kind_test reloc_line fs (Reference sym) h.0 in let e3 : is_line_of aux_line fs ≡ false = kind_test aux_line fs (Reference sym) h.0 in rw (e1, e2, e3) tt
auxes_held (fs ∷ said) (Flags r ∷ values) h = let e1 : is_line_of data_line fs ≡ false = kind_test data_line fs (Flags r) h.0 in let e2 : is_line_of reloc_line fs ≡ false = kind_test reloc_line fs (Flags r) h.0 in let e3 : is_line_of aux_line fs ≡ false = kind_test aux_line fs (Flags r) h.0 in rw (e1, e2, e3) tt
auxes_held (fs ∷ said) (Named r ∷ values) h = let e1 : is_line_of data_line fs ≡ false = kind_test data_line fs (Named r) h.0 in let e2 : is_line_of reloc_line fs ≡ false = kind_test reloc_line fs (Named r) h.0 in let e3 : is_line_of aux_line fs ≡ false = kind_test aux_line fs (Named r) h.0 in rw (e1, e2, e3) tt

-- content, where these bytes are it if no data come
abbrev HeldFrom : List ℕ → List LineFields → List ℕ → Type 0
HeldFrom start [] content = content ≡ start
HeldFrom start (fs ∷ []) content = HoldsData fs content
HeldFrom start (fs ∷ gs ∷ more) content = HeldFrom start (gs ∷ more) content

whatever_start : (a b : List ℕ) (fs : LineFields) (more : List LineFields) (content : List ℕ) → HeldFrom a (fs ∷ more) content → HeldFrom b (fs ∷ more) content
whatever_start a b fs [] content h = h
whatever_start a b fs (gs ∷ more) content h = whatever_start a b gs more content h

data_first : (start bytes : List ℕ) (fs : LineFields) (more : List LineFields) (content : List ℕ) → HoldsData fs bytes → HeldFrom bytes more content → HeldFrom start (fs ∷ more) content
data_first start bytes fs [] content is h = subst (HoldsData fs) (sym h) is
data_first start bytes fs (gs ∷ more) content is h = whatever_start bytes start gs more content h

from_nothing : (more : List LineFields) (content : List ℕ) → HeldFrom [] more content → HoldsContent more content
from_nothing [] content h = h
from_nothing (fs ∷ []) content h = h
from_nothing (fs ∷ gs ∷ more) content h = from_nothing (gs ∷ more) content h

content_from : (start : List ℕ) (said : List LineFields) (values : List Line) → AllZip IsLineOf said values → HeldFrom start (lines_of_kind data_line (parts_of said)) (content_under start values)
content_from start [] [] h = refl
content_from start [] (line ∷ values) h = absurd h
content_from start (fs ∷ said) [] h = absurd h
content_from start (fs ∷ said) (Header flags fingerprint ∷ values) h = let e1 : is_line_of data_line fs ≡ false = kind_test data_line fs (Header flags fingerprint) h.0 in let e2 : is_line_of reloc_line fs ≡ false = kind_test reloc_line fs (Header flags fingerprint) h.0 in let e3 : is_line_of aux_line fs ≡ false = kind_test aux_line fs (Header flags fingerprint) h.0 in rw (e1, e2, e3) refl
content_from start (fs ∷ said) (Import a ∷ values) h = let e1 : is_line_of data_line fs ≡ false = kind_test data_line fs (Import a) h.0 in let e2 : is_line_of reloc_line fs ≡ false = kind_test reloc_line fs (Import a) h.0 in let e3 : is_line_of aux_line fs ≡ false = kind_test aux_line fs (Import a) h.0 in rw (e1, e2, e3) refl
content_from start (fs ∷ said) (Package path ∷ values) h = let e1 : is_line_of data_line fs ≡ false = kind_test data_line fs (Package path) h.0 in let e2 : is_line_of reloc_line fs ≡ false = kind_test reloc_line fs (Package path) h.0 in let e3 : is_line_of aux_line fs ≡ false = kind_test aux_line fs (Package path) h.0 in rw (e1, e2, e3) refl
content_from start (fs ∷ said) (Source file ∷ values) h = let e1 : is_line_of data_line fs ≡ false = kind_test data_line fs (Source file) h.0 in let e2 : is_line_of reloc_line fs ≡ false = kind_test reloc_line fs (Source file) h.0 in let e3 : is_line_of aux_line fs ≡ false = kind_test aux_line fs (Source file) h.0 in rw (e1, e2, e3) refl
content_from start (fs ∷ said) (Symbol Symdef sym hash ∷ values) h = let e1 : is_line_of data_line fs ≡ false = kind_test data_line fs (Symbol Symdef sym hash) h.0 in let e2 : is_line_of reloc_line fs ≡ false = kind_test reloc_line fs (Symbol Symdef sym hash) h.0 in let e3 : is_line_of aux_line fs ≡ false = kind_test aux_line fs (Symbol Symdef sym hash) h.0 in rw (e1, e2, e3) refl
content_from start (fs ∷ said) (Symbol Hashed64def sym hash ∷ values) h = let e1 : is_line_of data_line fs ≡ false = kind_test data_line fs (Symbol Hashed64def sym hash) h.0 in let e2 : is_line_of reloc_line fs ≡ false = kind_test reloc_line fs (Symbol Hashed64def sym hash) h.0 in let e3 : is_line_of aux_line fs ≡ false = kind_test aux_line fs (Symbol Hashed64def sym hash) h.0 in rw (e1, e2, e3) refl
content_from start (fs ∷ said) (Symbol Hasheddef sym hash ∷ values) h = let e1 : is_line_of data_line fs ≡ false = kind_test data_line fs (Symbol Hasheddef sym hash) h.0 in let e2 : is_line_of reloc_line fs ≡ false = kind_test reloc_line fs (Symbol Hasheddef sym hash) h.0 in let e3 : is_line_of aux_line fs ≡ false = kind_test aux_line fs (Symbol Hasheddef sym hash) h.0 in rw (e1, e2, e3) refl
content_from start (fs ∷ said) (Symbol Nonpkgdef sym hash ∷ values) h = let e1 : is_line_of data_line fs ≡ false = kind_test data_line fs (Symbol Nonpkgdef sym hash) h.0 in let e2 : is_line_of reloc_line fs ≡ false = kind_test reloc_line fs (Symbol Nonpkgdef sym hash) h.0 in let e3 : is_line_of aux_line fs ≡ false = kind_test aux_line fs (Symbol Nonpkgdef sym hash) h.0 in rw (e1, e2, e3) refl
content_from start (fs ∷ said) (Content bytes ∷ values) h = let e1 : is_line_of data_line fs ≡ true = kind_test data_line fs (Content bytes) h.0 in rw (e1, e1) (data_first start bytes fs (lines_of_kind data_line (parts_of said)) (content_under bytes values) h.0.holds (content_from bytes said values h.1))
content_from start (fs ∷ said) (Relocation r ∷ values) h = let e1 : is_line_of data_line fs ≡ false = kind_test data_line fs (Relocation r) h.0 in let e2 : is_line_of reloc_line fs ≡ true = kind_test reloc_line fs (Relocation r) h.0 in rw (e1, e2, e1) (content_from start said values h.1)
content_from start (fs ∷ said) (Auxiliary a ∷ values) h = let e1 : is_line_of data_line fs ≡ false = kind_test data_line fs (Auxiliary a) h.0 in let e2 : is_line_of reloc_line fs ≡ false = kind_test reloc_line fs (Auxiliary a) h.0 in let e3 : is_line_of aux_line fs ≡ true = kind_test aux_line fs (Auxiliary a) h.0 in rw (e1, e2, e3, e1) (content_from start said values h.1)
content_from start (fs ∷ said) (Reference sym ∷ values) h = let e1 : is_line_of data_line fs ≡ false = kind_test data_line fs (Reference sym) h.0 in let e2 : is_line_of reloc_line fs ≡ false = kind_test reloc_line fs (Reference sym) h.0 in let e3 : is_line_of aux_line fs ≡ false = kind_test aux_line fs (Reference sym) h.0 in rw (e1, e2, e3) refl
content_from start (fs ∷ said) (Flags r ∷ values) h = let e1 : is_line_of data_line fs ≡ false = kind_test data_line fs (Flags r) h.0 in let e2 : is_line_of reloc_line fs ≡ false = kind_test reloc_line fs (Flags r) h.0 in let e3 : is_line_of aux_line fs ≡ false = kind_test aux_line fs (Flags r) h.0 in rw (e1, e2, e3) refl
content_from start (fs ∷ said) (Named r ∷ values) h = let e1 : is_line_of data_line fs ≡ false = kind_test data_line fs (Named r) h.0 in let e2 : is_line_of reloc_line fs ≡ false = kind_test reloc_line fs (Named r) h.0 in let e3 : is_line_of aux_line fs ≡ false = kind_test aux_line fs (Named r) h.0 in rw (e1, e2, e3) refl

content_held : (said : List LineFields) (values : List Line) → AllZip IsLineOf said values → HoldsContent (lines_of_kind data_line (parts_of said)) (content_under [] values)
content_held said values h = from_nothing (lines_of_kind data_line (parts_of said)) (content_under [] values) (content_from [] said values h)

pub defs_held : (said : List LineFields) (values : List Line) → AllZip IsLineOf said values → AllZip (HoldsDefinition def_line) (definitions_of_kind def_line said) (definitions Symdef values)
defs_held [] [] h = tt
defs_held [] (line ∷ values) h = absurd h
defs_held (fs ∷ said) [] h = absurd h
defs_held (fs ∷ said) (Header flags fingerprint ∷ values) h = let e1 : is_line_of def_line fs ≡ false = kind_test def_line fs (Header flags fingerprint) h.0 in rw e1 (defs_held said values h.1)
defs_held (fs ∷ said) (Import a ∷ values) h = let e1 : is_line_of def_line fs ≡ false = kind_test def_line fs (Import a) h.0 in rw e1 (defs_held said values h.1)
defs_held (fs ∷ said) (Package path ∷ values) h = let e1 : is_line_of def_line fs ≡ false = kind_test def_line fs (Package path) h.0 in rw e1 (defs_held said values h.1)
defs_held (fs ∷ said) (Source file ∷ values) h = let e1 : is_line_of def_line fs ≡ false = kind_test def_line fs (Source file) h.0 in rw e1 (defs_held said values h.1)
defs_held (fs ∷ said) (Symbol Symdef sym hash ∷ values) h = let e1 : is_line_of def_line fs ≡ true = kind_test def_line fs (Symbol Symdef sym hash) h.0 in rw e1 (record { symbol = h.0.holds.0; hash = h.0.holds.1; content = content_held said values h.1; relocs = relocs_held said values h.1; auxes = auxes_held said values h.1 }, defs_held said values h.1)
defs_held (fs ∷ said) (Symbol Hashed64def sym hash ∷ values) h = let e1 : is_line_of def_line fs ≡ false = kind_test def_line fs (Symbol Hashed64def sym hash) h.0 in rw e1 (defs_held said values h.1)
defs_held (fs ∷ said) (Symbol Hasheddef sym hash ∷ values) h = let e1 : is_line_of def_line fs ≡ false = kind_test def_line fs (Symbol Hasheddef sym hash) h.0 in rw e1 (defs_held said values h.1)
defs_held (fs ∷ said) (Symbol Nonpkgdef sym hash ∷ values) h = let e1 : is_line_of def_line fs ≡ false = kind_test def_line fs (Symbol Nonpkgdef sym hash) h.0 in rw e1 (defs_held said values h.1)
defs_held (fs ∷ said) (Content bytes ∷ values) h = let e1 : is_line_of def_line fs ≡ false = kind_test def_line fs (Content bytes) h.0 in rw e1 (defs_held said values h.1)
defs_held (fs ∷ said) (Relocation r ∷ values) h = let e1 : is_line_of def_line fs ≡ false = kind_test def_line fs (Relocation r) h.0 in rw e1 (defs_held said values h.1)
defs_held (fs ∷ said) (Auxiliary a ∷ values) h = let e1 : is_line_of def_line fs ≡ false = kind_test def_line fs (Auxiliary a) h.0 in rw e1 (defs_held said values h.1)
defs_held (fs ∷ said) (Reference sym ∷ values) h = let e1 : is_line_of def_line fs ≡ false = kind_test def_line fs (Reference sym) h.0 in rw e1 (defs_held said values h.1)
defs_held (fs ∷ said) (Flags r ∷ values) h = let e1 : is_line_of def_line fs ≡ false = kind_test def_line fs (Flags r) h.0 in rw e1 (defs_held said values h.1)
defs_held (fs ∷ said) (Named r ∷ values) h = let e1 : is_line_of def_line fs ≡ false = kind_test def_line fs (Named r) h.0 in rw e1 (defs_held said values h.1)

pub hash64_held : (said : List LineFields) (values : List Line) → AllZip IsLineOf said values → AllZip (HoldsDefinition hash64_line) (definitions_of_kind hash64_line said) (definitions Hashed64def values)
hash64_held [] [] h = tt
hash64_held [] (line ∷ values) h = absurd h
hash64_held (fs ∷ said) [] h = absurd h
hash64_held (fs ∷ said) (Header flags fingerprint ∷ values) h = let e1 : is_line_of hash64_line fs ≡ false = kind_test hash64_line fs (Header flags fingerprint) h.0 in rw e1 (hash64_held said values h.1)
hash64_held (fs ∷ said) (Import a ∷ values) h = let e1 : is_line_of hash64_line fs ≡ false = kind_test hash64_line fs (Import a) h.0 in rw e1 (hash64_held said values h.1)
hash64_held (fs ∷ said) (Package path ∷ values) h = let e1 : is_line_of hash64_line fs ≡ false = kind_test hash64_line fs (Package path) h.0 in rw e1 (hash64_held said values h.1)
hash64_held (fs ∷ said) (Source file ∷ values) h = let e1 : is_line_of hash64_line fs ≡ false = kind_test hash64_line fs (Source file) h.0 in rw e1 (hash64_held said values h.1)
hash64_held (fs ∷ said) (Symbol Symdef sym hash ∷ values) h = let e1 : is_line_of hash64_line fs ≡ false = kind_test hash64_line fs (Symbol Symdef sym hash) h.0 in rw e1 (hash64_held said values h.1)
hash64_held (fs ∷ said) (Symbol Hashed64def sym hash ∷ values) h = let e1 : is_line_of hash64_line fs ≡ true = kind_test hash64_line fs (Symbol Hashed64def sym hash) h.0 in rw e1 (record { symbol = h.0.holds.0; hash = h.0.holds.1; content = content_held said values h.1; relocs = relocs_held said values h.1; auxes = auxes_held said values h.1 }, hash64_held said values h.1)
hash64_held (fs ∷ said) (Symbol Hasheddef sym hash ∷ values) h = let e1 : is_line_of hash64_line fs ≡ false = kind_test hash64_line fs (Symbol Hasheddef sym hash) h.0 in rw e1 (hash64_held said values h.1)
hash64_held (fs ∷ said) (Symbol Nonpkgdef sym hash ∷ values) h = let e1 : is_line_of hash64_line fs ≡ false = kind_test hash64_line fs (Symbol Nonpkgdef sym hash) h.0 in rw e1 (hash64_held said values h.1)
hash64_held (fs ∷ said) (Content bytes ∷ values) h = let e1 : is_line_of hash64_line fs ≡ false = kind_test hash64_line fs (Content bytes) h.0 in rw e1 (hash64_held said values h.1)
hash64_held (fs ∷ said) (Relocation r ∷ values) h = let e1 : is_line_of hash64_line fs ≡ false = kind_test hash64_line fs (Relocation r) h.0 in rw e1 (hash64_held said values h.1)
hash64_held (fs ∷ said) (Auxiliary a ∷ values) h = let e1 : is_line_of hash64_line fs ≡ false = kind_test hash64_line fs (Auxiliary a) h.0 in rw e1 (hash64_held said values h.1)
hash64_held (fs ∷ said) (Reference sym ∷ values) h = let e1 : is_line_of hash64_line fs ≡ false = kind_test hash64_line fs (Reference sym) h.0 in rw e1 (hash64_held said values h.1)
hash64_held (fs ∷ said) (Flags r ∷ values) h = let e1 : is_line_of hash64_line fs ≡ false = kind_test hash64_line fs (Flags r) h.0 in rw e1 (hash64_held said values h.1)
hash64_held (fs ∷ said) (Named r ∷ values) h = let e1 : is_line_of hash64_line fs ≡ false = kind_test hash64_line fs (Named r) h.0 in rw e1 (hash64_held said values h.1)

pub hashed_held : (said : List LineFields) (values : List Line) → AllZip IsLineOf said values → AllZip (HoldsDefinition hash_line) (definitions_of_kind hash_line said) (definitions Hasheddef values)
hashed_held [] [] h = tt
hashed_held [] (line ∷ values) h = absurd h
hashed_held (fs ∷ said) [] h = absurd h
hashed_held (fs ∷ said) (Header flags fingerprint ∷ values) h = let e1 : is_line_of hash_line fs ≡ false = kind_test hash_line fs (Header flags fingerprint) h.0 in rw e1 (hashed_held said values h.1)
hashed_held (fs ∷ said) (Import a ∷ values) h = let e1 : is_line_of hash_line fs ≡ false = kind_test hash_line fs (Import a) h.0 in rw e1 (hashed_held said values h.1)
hashed_held (fs ∷ said) (Package path ∷ values) h = let e1 : is_line_of hash_line fs ≡ false = kind_test hash_line fs (Package path) h.0 in rw e1 (hashed_held said values h.1)
hashed_held (fs ∷ said) (Source file ∷ values) h = let e1 : is_line_of hash_line fs ≡ false = kind_test hash_line fs (Source file) h.0 in rw e1 (hashed_held said values h.1)
hashed_held (fs ∷ said) (Symbol Symdef sym hash ∷ values) h = let e1 : is_line_of hash_line fs ≡ false = kind_test hash_line fs (Symbol Symdef sym hash) h.0 in rw e1 (hashed_held said values h.1)
hashed_held (fs ∷ said) (Symbol Hashed64def sym hash ∷ values) h = let e1 : is_line_of hash_line fs ≡ false = kind_test hash_line fs (Symbol Hashed64def sym hash) h.0 in rw e1 (hashed_held said values h.1)
hashed_held (fs ∷ said) (Symbol Hasheddef sym hash ∷ values) h = let e1 : is_line_of hash_line fs ≡ true = kind_test hash_line fs (Symbol Hasheddef sym hash) h.0 in rw e1 (record { symbol = h.0.holds.0; hash = h.0.holds.1; content = content_held said values h.1; relocs = relocs_held said values h.1; auxes = auxes_held said values h.1 }, hashed_held said values h.1)
hashed_held (fs ∷ said) (Symbol Nonpkgdef sym hash ∷ values) h = let e1 : is_line_of hash_line fs ≡ false = kind_test hash_line fs (Symbol Nonpkgdef sym hash) h.0 in rw e1 (hashed_held said values h.1)
hashed_held (fs ∷ said) (Content bytes ∷ values) h = let e1 : is_line_of hash_line fs ≡ false = kind_test hash_line fs (Content bytes) h.0 in rw e1 (hashed_held said values h.1)
hashed_held (fs ∷ said) (Relocation r ∷ values) h = let e1 : is_line_of hash_line fs ≡ false = kind_test hash_line fs (Relocation r) h.0 in rw e1 (hashed_held said values h.1)
hashed_held (fs ∷ said) (Auxiliary a ∷ values) h = let e1 : is_line_of hash_line fs ≡ false = kind_test hash_line fs (Auxiliary a) h.0 in rw e1 (hashed_held said values h.1)
hashed_held (fs ∷ said) (Reference sym ∷ values) h = let e1 : is_line_of hash_line fs ≡ false = kind_test hash_line fs (Reference sym) h.0 in rw e1 (hashed_held said values h.1)
hashed_held (fs ∷ said) (Flags r ∷ values) h = let e1 : is_line_of hash_line fs ≡ false = kind_test hash_line fs (Flags r) h.0 in rw e1 (hashed_held said values h.1)
hashed_held (fs ∷ said) (Named r ∷ values) h = let e1 : is_line_of hash_line fs ≡ false = kind_test hash_line fs (Named r) h.0 in rw e1 (hashed_held said values h.1)

pub ndefs_held : (said : List LineFields) (values : List Line) → AllZip IsLineOf said values → AllZip (HoldsDefinition ndef_line) (definitions_of_kind ndef_line said) (definitions Nonpkgdef values)
ndefs_held [] [] h = tt
ndefs_held [] (line ∷ values) h = absurd h
ndefs_held (fs ∷ said) [] h = absurd h
ndefs_held (fs ∷ said) (Header flags fingerprint ∷ values) h = let e1 : is_line_of ndef_line fs ≡ false = kind_test ndef_line fs (Header flags fingerprint) h.0 in rw e1 (ndefs_held said values h.1)
ndefs_held (fs ∷ said) (Import a ∷ values) h = let e1 : is_line_of ndef_line fs ≡ false = kind_test ndef_line fs (Import a) h.0 in rw e1 (ndefs_held said values h.1)
ndefs_held (fs ∷ said) (Package path ∷ values) h = let e1 : is_line_of ndef_line fs ≡ false = kind_test ndef_line fs (Package path) h.0 in rw e1 (ndefs_held said values h.1)
ndefs_held (fs ∷ said) (Source file ∷ values) h = let e1 : is_line_of ndef_line fs ≡ false = kind_test ndef_line fs (Source file) h.0 in rw e1 (ndefs_held said values h.1)
ndefs_held (fs ∷ said) (Symbol Symdef sym hash ∷ values) h = let e1 : is_line_of ndef_line fs ≡ false = kind_test ndef_line fs (Symbol Symdef sym hash) h.0 in rw e1 (ndefs_held said values h.1)
ndefs_held (fs ∷ said) (Symbol Hashed64def sym hash ∷ values) h = let e1 : is_line_of ndef_line fs ≡ false = kind_test ndef_line fs (Symbol Hashed64def sym hash) h.0 in rw e1 (ndefs_held said values h.1)
ndefs_held (fs ∷ said) (Symbol Hasheddef sym hash ∷ values) h = let e1 : is_line_of ndef_line fs ≡ false = kind_test ndef_line fs (Symbol Hasheddef sym hash) h.0 in rw e1 (ndefs_held said values h.1)
ndefs_held (fs ∷ said) (Symbol Nonpkgdef sym hash ∷ values) h = let e1 : is_line_of ndef_line fs ≡ true = kind_test ndef_line fs (Symbol Nonpkgdef sym hash) h.0 in rw e1 (record { symbol = h.0.holds.0; hash = h.0.holds.1; content = content_held said values h.1; relocs = relocs_held said values h.1; auxes = auxes_held said values h.1 }, ndefs_held said values h.1)
ndefs_held (fs ∷ said) (Content bytes ∷ values) h = let e1 : is_line_of ndef_line fs ≡ false = kind_test ndef_line fs (Content bytes) h.0 in rw e1 (ndefs_held said values h.1)
ndefs_held (fs ∷ said) (Relocation r ∷ values) h = let e1 : is_line_of ndef_line fs ≡ false = kind_test ndef_line fs (Relocation r) h.0 in rw e1 (ndefs_held said values h.1)
ndefs_held (fs ∷ said) (Auxiliary a ∷ values) h = let e1 : is_line_of ndef_line fs ≡ false = kind_test ndef_line fs (Auxiliary a) h.0 in rw e1 (ndefs_held said values h.1)
ndefs_held (fs ∷ said) (Reference sym ∷ values) h = let e1 : is_line_of ndef_line fs ≡ false = kind_test ndef_line fs (Reference sym) h.0 in rw e1 (ndefs_held said values h.1)
ndefs_held (fs ∷ said) (Flags r ∷ values) h = let e1 : is_line_of ndef_line fs ≡ false = kind_test ndef_line fs (Flags r) h.0 in rw e1 (ndefs_held said values h.1)
ndefs_held (fs ∷ said) (Named r ∷ values) h = let e1 : is_line_of ndef_line fs ≡ false = kind_test ndef_line fs (Named r) h.0 in rw e1 (ndefs_held said values h.1)
