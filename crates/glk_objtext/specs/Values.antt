-- What the fields of a line mean, kind by kind.
use Rattle.std.specs.Prelude.{◌^◌, ℕ, List, [], Result, Ok, Err}
use Rattle.glk_obj.specs.declared.records.AuxRec.{AuxRec}
use Rattle.glk_obj.specs.declared.records.RefFlagsRec.{RefFlagsRec}
use Rattle.glk_obj.specs.declared.records.RelocRec.{RelocRec}
use Rattle.glk_objdesc.specs.declared.desc.AutolibDesc.{AutolibDesc}
use Rattle.glk_objdesc.specs.declared.desc.RefNameDesc.{RefNameDesc}
use Rattle.glk_objdesc.specs.declared.desc.SymDesc.{SymDesc}
use Rattle.glk_objtext.specs.Answers.{◌>>=◌}
use Rattle.glk_objtext.specs.Fields.{field_at}
use Rattle.glk_objtext.specs.Numbers.{number_of, signed_of}
use Rattle.glk_objtext.specs.Strings.{string_of}
use Rattle.glk_objtext.specs.Octets.{octets_of, sized_of, fingerprint_length}
use Rattle.glk_objtext.specs.Targets.{target_of}
use Rattle.glk_objtext.specs.declared.line.DefBlock.{DefBlock}
use Rattle.glk_objtext.specs.declared.line.DefBlock.TheVariants.{Symdef, Hashed64def, Hasheddef, Nonpkgdef}
use Rattle.glk_objtext.specs.declared.line.Line.{Line}
use Rattle.glk_objtext.specs.declared.line.Line.TheVariants.{Header, Import, Package, Source, Symbol, Content, Relocation, Auxiliary, Reference, Flags, Named}
use Rattle.glk_objtext.specs.declared.words.Word.{Word}
use Rattle.glk_objtext.specs.declared.words.Word.TheVariants.{Object, Autolib, Pkg, File, Def, Hash64, Hash, Data, Reloc, Aux, Ndef, Ref, RefFlags, RefName}

-- how many numbers there are of one, two and four bytes, and of a sign and the other bits of four
-- and of eight
abbrev pub u8_limit : ℕ
u8_limit = 2 ^ 8

abbrev pub u16_limit : ℕ
u16_limit = 2 ^ 16

abbrev pub u32_limit : ℕ
u32_limit = 2 ^ 32

abbrev pub i32_limit : ℕ
i32_limit = 2 ^ 31

abbrev pub i64_limit : ℕ
i64_limit = 2 ^ 63

-- In each kind numbers and references come first, then strings and bytes: where both are malformed,
-- the lesser rule is that of numbers.
unfoldable pub header_of : List (List ℕ) → Result Line ℕ
header_of fs = do
  flags ← number_of u32_limit (field_at fs 1)
  fingerprint ← sized_of fingerprint_length (field_at fs 2)
  Ok (Header flags fingerprint)

unfoldable pub import_of : List (List ℕ) → Result AutolibDesc ℕ
import_of fs = do
  path ← string_of (field_at fs 1)
  fingerprint ← sized_of fingerprint_length (field_at fs 2)
  Ok (record { path = path; fingerprint = fingerprint })

unfoldable pub symbol_of : List (List ℕ) → Result SymDesc ℕ
symbol_of fs = do
  abi ← number_of u16_limit (field_at fs 2)
  kind ← number_of u8_limit (field_at fs 3)
  flag ← number_of u8_limit (field_at fs 4)
  flag2 ← number_of u8_limit (field_at fs 5)
  size ← number_of u32_limit (field_at fs 6)
  align ← number_of u32_limit (field_at fs 7)
  name ← string_of (field_at fs 1)
  Ok (record { name = name; abi = abi; kind = kind; flag = flag; flag2 = flag2; size = size; align = align })

unfoldable pub reloc_of : List (List ℕ) → Result RelocRec ℕ
reloc_of fs = do
  off ← signed_of i32_limit (field_at fs 1)
  size ← number_of u8_limit (field_at fs 2)
  kind ← number_of u16_limit (field_at fs 3)
  add ← signed_of i64_limit (field_at fs 4)
  target ← target_of (field_at fs 5)
  Ok (record { off = off; size = size; kind = kind; add = add; target = target })

unfoldable pub aux_of : List (List ℕ) → Result AuxRec ℕ
aux_of fs = do
  kind ← number_of u8_limit (field_at fs 1)
  target ← target_of (field_at fs 2)
  Ok (record { kind = kind; target = target })

unfoldable pub ref_flags_of : List (List ℕ) → Result RefFlagsRec ℕ
ref_flags_of fs = do
  target ← target_of (field_at fs 1)
  flag ← number_of u8_limit (field_at fs 2)
  flag2 ← number_of u8_limit (field_at fs 3)
  Ok (record { target = target; flag = flag; flag2 = flag2 })

unfoldable pub ref_name_of : List (List ℕ) → Result RefNameDesc ℕ
ref_name_of fs = do
  target ← target_of (field_at fs 1)
  name ← string_of (field_at fs 2)
  Ok (record { target = target; name = name })

unfoldable pub short_hashed_of : List (List ℕ) → Result Line ℕ
short_hashed_of fs = do
  sym ← symbol_of fs
  hash ← sized_of fingerprint_length (field_at fs 8)
  Ok (Symbol Hashed64def sym hash)

unfoldable pub long_hashed_of : List (List ℕ) → Result Line ℕ
long_hashed_of fs = do
  sym ← symbol_of fs
  hash ← octets_of (field_at fs 8)
  Ok (Symbol Hasheddef sym hash)

-- a part of a line, as the whole line
unfoldable pub as_line : {A : Type 0} → (A → Line) → Result A ℕ → Result Line ℕ
as_line make (Ok x) = Ok (make x)
as_line make (Err rule) = Err rule

-- what a line with this word and these fields says; the word is the field of number 0
unfoldable pub value_of : Word → List (List ℕ) → Result Line ℕ
value_of Object fs = header_of fs
value_of Autolib fs = as_line Import (import_of fs)
value_of Pkg fs = as_line Package (string_of (field_at fs 1))
value_of File fs = as_line Source (string_of (field_at fs 1))
value_of Def fs = as_line (λ sym. Symbol Symdef sym []) (symbol_of fs)
value_of Hash64 fs = short_hashed_of fs
value_of Hash fs = long_hashed_of fs
value_of Data fs = as_line Content (octets_of (field_at fs 1))
value_of Reloc fs = as_line Relocation (reloc_of fs)
value_of Aux fs = as_line Auxiliary (aux_of fs)
value_of Ndef fs = as_line (λ sym. Symbol Nonpkgdef sym []) (symbol_of fs)
value_of Ref fs = as_line Reference (symbol_of fs)
value_of RefFlags fs = as_line Flags (ref_flags_of fs)
value_of RefName fs = as_line Named (ref_name_of fs)

-- the word of the definitions of a block
abbrev pub block_word : DefBlock → Word
block_word Symdef = Def
block_word Hashed64def = Hash64
block_word Hasheddef = Hash
block_word Nonpkgdef = Ndef

-- the word that a line begins with
abbrev pub word_of_line : Line → Word
word_of_line (Header flags fingerprint) = Object
word_of_line (Import a) = Autolib
word_of_line (Package p) = Pkg
word_of_line (Source f) = File
word_of_line (Symbol block sym hash) = block_word block
word_of_line (Content bytes) = Data
word_of_line (Relocation r) = Reloc
word_of_line (Auxiliary a) = Aux
word_of_line (Reference sym) = Ref
word_of_line (Flags r) = RefFlags
word_of_line (Named r) = RefName
