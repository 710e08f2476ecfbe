-- The canonical text of a description.
use Rattle.std.specs.Prelude.{◌≡◌, ℕ, List, ◌∷◌, [], ◌++◌, map}
use Rattle.std.specs.List.{flat_map}
use Rattle.glk_objdesc.specs.declared.desc.DefDesc.{DefDesc}
use Rattle.glk_objdesc.specs.declared.desc.ObjDesc.{ObjDesc}
use Rattle.glk_objdesc.specs.declared.desc.SymDesc.{SymDesc}
use Rattle.glk_objtext.specs.Fields.{space}
use Rattle.glk_base.specs.Lines.{newline}
use Rattle.glk_objtext.specs.Numbers.{number_text, signed_text}
use Rattle.glk_objtext.specs.Octets.{octets_text}
use Rattle.glk_objtext.specs.Strings.{string_text}
use Rattle.glk_objtext.specs.Targets.{target_text}
use Rattle.glk_objtext.specs.Values.{word_of_line}
use Rattle.glk_objtext.specs.Words.{spelling}
use Rattle.glk_objtext.specs.declared.line.DefBlock.{DefBlock}
use Rattle.glk_objtext.specs.declared.line.DefBlock.TheVariants.{Symdef, Hashed64def, Hasheddef, Nonpkgdef}
use Rattle.glk_objtext.specs.declared.line.Line.{Line}
use Rattle.glk_objtext.specs.declared.line.Line.TheVariants.{Header, Import, Package, Source, Symbol, Content, Relocation, Auxiliary, Reference, Flags, Named}

-- the fields of a symbol
abbrev pub symbol_fields : SymDesc → List (List ℕ)
symbol_fields s =
    string_text s.name ∷ number_text s.abi ∷ number_text s.kind ∷ number_text s.flag ∷ number_text s.flag2
    ∷ number_text s.size ∷ number_text s.align ∷ []

-- the hash of a definition, in the blocks whose definitions have one
abbrev pub hash_fields : DefBlock → List ℕ → List (List ℕ)
hash_fields Symdef hash = []
hash_fields Hashed64def hash = octets_text hash ∷ []
hash_fields Hasheddef hash = octets_text hash ∷ []
hash_fields Nonpkgdef hash = []

-- the spellings of the fields of a line, after its word
abbrev pub fields_of_line : Line → List (List ℕ)
fields_of_line (Header flags fingerprint) = number_text flags ∷ octets_text fingerprint ∷ []
fields_of_line (Import a) = string_text a.path ∷ octets_text a.fingerprint ∷ []
fields_of_line (Package path) = string_text path ∷ []
fields_of_line (Source file) = string_text file ∷ []
fields_of_line (Symbol block sym hash) = symbol_fields sym ++ hash_fields block hash
fields_of_line (Content bytes) = octets_text bytes ∷ []
fields_of_line (Relocation r) = signed_text r.off ∷ number_text r.size ∷ number_text r.kind ∷ signed_text r.add ∷ target_text r.target ∷ []
fields_of_line (Auxiliary a) = number_text a.kind ∷ target_text a.target ∷ []
fields_of_line (Reference sym) = symbol_fields sym
fields_of_line (Flags r) = target_text r.target ∷ number_text r.flag ∷ number_text r.flag2 ∷ []
fields_of_line (Named r) = target_text r.target ∷ string_text r.name ∷ []

-- a field after a space
abbrev pub after_space : List ℕ → List ℕ
after_space field = space ∷ field

-- a line: its word and its fields, each after one space, without the newline
abbrev pub line_text : Line → List ℕ
line_text line = spelling (word_of_line line) ++ flat_map after_space (fields_of_line line)

-- a line with its newline
unfoldable pub whole_line : Line → List ℕ
whole_line line = line_text line ++ newline ∷ []

-- a line, and fields, have been added to a text
abbrev pub AppendsLine : List ℕ → Line → List ℕ → Type 0
AppendsLine before line after = after ≡ before ++ whole_line line

abbrev pub AppendsFields : List ℕ → List (List ℕ) → List ℕ → Type 0
AppendsFields before fields after = after ≡ before ++ flat_map after_space fields

-- the line of data; none for no data
abbrev pub content_lines : List ℕ → List Line
content_lines [] = []
content_lines (b ∷ s) = Content (b ∷ s) ∷ []

-- the lines of a definition
unfoldable pub def_lines : DefBlock → DefDesc → List Line
def_lines block def = Symbol block def.sym def.hash ∷ (content_lines def.content ++ (map Relocation def.relocs ++ map Auxiliary def.auxes))

-- the lines of a description, in the order of their kinds
unfoldable pub lines_of : ObjDesc → List Line
lines_of d =
    Header d.flags d.fingerprint
    ∷ (map Import d.autolib
    ++ (map Package d.pkgs
    ++ (map Source d.files
    ++ (flat_map (def_lines Symdef) d.defs
    ++ (flat_map (def_lines Hashed64def) d.hash64
    ++ (flat_map (def_lines Hasheddef) d.hashed
    ++ (flat_map (def_lines Nonpkgdef) d.ndefs
    ++ (map Reference d.refs
    ++ (map Flags d.ref_flags
    ++ map Named d.ref_names)))))))))

-- the text of lines
abbrev pub texts : List Line → List ℕ
texts ls = flat_map whole_line ls

-- the one canonical text of a description
unfoldable pub text_of : ObjDesc → List ℕ
text_of d = texts (lines_of d)
