-- The text form, line by line: the kinds of lines, their words, their places, and the sorts of their
-- fields.
use Rattle.std.specs.Prelude.{◌≡◌, ◌^◌, ◌⊎◌, ℕ, ℤ, Bool, true, false, List, ◌∷◌, [], suc, codes}
use Rattle.glk_obj.specs.declared.records.SymRef.{SymRef}
use Rattle.glk_objtext.specs.Fields.{field_at}
use Rattle.glk_objtext.specs.Forms.{IsNumber, IsSigned, IsOctets, IsSized, IsReference, IsString}

-- the kinds of lines, in their order; a definition's data, relocations and auxes stand under it
pub data Kind : Type 0 where
  object_line : Kind
  autolib_line : Kind
  pkg_line : Kind
  file_line : Kind
  def_line : Kind
  hash64_line : Kind
  hash_line : Kind
  ndef_line : Kind
  ref_line : Kind
  refflags_line : Kind
  refname_line : Kind
  data_line : Kind
  reloc_line : Kind
  aux_line : Kind

-- the word that a line of the kind begins with
abbrev pub kind_word : Kind → List ℕ
kind_word object_line = codes "object"
kind_word autolib_line = codes "autolib"
kind_word pkg_line = codes "pkg"
kind_word file_line = codes "file"
kind_word def_line = codes "def"
kind_word hash64_line = codes "hash64"
kind_word hash_line = codes "hash"
kind_word ndef_line = codes "ndef"
kind_word ref_line = codes "ref"
kind_word refflags_line = codes "refflags"
kind_word refname_line = codes "refname"
kind_word data_line = codes "data"
kind_word reloc_line = codes "reloc"
kind_word aux_line = codes "aux"

-- the place of the kind among the others, from 1; a part of a definition has none of its own: 0
abbrev pub kind_place : Kind → ℕ
kind_place object_line = 1
kind_place autolib_line = 2
kind_place pkg_line = 3
kind_place file_line = 4
kind_place def_line = 5
kind_place hash64_line = 6
kind_place hash_line = 7
kind_place ndef_line = 8
kind_place ref_line = 9
kind_place refflags_line = 10
kind_place refname_line = 11
kind_place data_line = 0
kind_place reloc_line = 0
kind_place aux_line = 0

-- the kinds of definitions
abbrev pub is_definition : Kind → Bool
is_definition def_line = true
is_definition hash64_line = true
is_definition hash_line = true
is_definition ndef_line = true
is_definition kind = false

-- Whether a line of the first kind may stand right under one of the second, as far as parts of
-- definitions go: data under the definition, relocations under it, its data or a relocation, auxes
-- under any of these or an aux.
abbrev pub may_follow : Kind → Kind → Bool
may_follow data_line above = is_definition above
may_follow reloc_line data_line = true
may_follow reloc_line reloc_line = true
may_follow reloc_line above = is_definition above
may_follow aux_line data_line = true
may_follow aux_line reloc_line = true
may_follow aux_line aux_line = true
may_follow aux_line above = is_definition above
may_follow kind above = true

-- whether such a line may stand with no line above it, as far as that goes
abbrev pub may_begin : Kind → Bool
may_begin data_line = false
may_begin reloc_line = false
may_begin aux_line = false
may_begin kind = true

-- the sorts of fields: numbers below a limit, and with a sign; references; strings; bytes, any number
-- of them or this one
pub data Sort : Type 0 where
  number : ℕ → Sort
  signed_number : ℕ → Sort
  reference : Sort
  text : Sort
  octets : Sort
  octets_of_length : ℕ → Sort

-- a number or a reference; the others are strings and bytes
abbrev pub is_numeric : Sort → Bool
is_numeric (number limit) = true
is_numeric (signed_number limit) = true
is_numeric reference = true
is_numeric text = false
is_numeric octets = false
is_numeric (octets_of_length n) = false

-- numbers of one, two and four bytes, and with a sign of four and of eight
abbrev pub u8_sort : Sort
u8_sort = number (2 ^ 8)

abbrev pub u16_sort : Sort
u16_sort = number (2 ^ 16)

abbrev pub u32_sort : Sort
u32_sort = number (2 ^ 32)

abbrev pub i32_sort : Sort
i32_sort = signed_number (2 ^ 31)

abbrev pub i64_sort : Sort
i64_sort = signed_number (2 ^ 63)

-- a fingerprint, and a short hash
abbrev pub eight_bytes : Sort
eight_bytes = octets_of_length 8

-- a symbol: its name, ABI, type, flag, flag2, size and alignment, and what follows them
abbrev pub symbol_sorts : List Sort → List Sort
symbol_sorts more = text ∷ u16_sort ∷ u8_sort ∷ u8_sort ∷ u8_sort ∷ u32_sort ∷ u32_sort ∷ more

-- the fields that follow the word
abbrev pub kind_sorts : Kind → List Sort
kind_sorts object_line = u32_sort ∷ eight_bytes ∷ []
kind_sorts autolib_line = text ∷ eight_bytes ∷ []
kind_sorts pkg_line = text ∷ []
kind_sorts file_line = text ∷ []
kind_sorts def_line = symbol_sorts []
kind_sorts hash64_line = symbol_sorts (eight_bytes ∷ [])
kind_sorts hash_line = symbol_sorts (octets ∷ [])
kind_sorts ndef_line = symbol_sorts []
kind_sorts ref_line = symbol_sorts []
kind_sorts refflags_line = reference ∷ u8_sort ∷ u8_sort ∷ []
kind_sorts refname_line = reference ∷ text ∷ []
kind_sorts data_line = octets ∷ []
kind_sorts reloc_line = i32_sort ∷ u8_sort ∷ u16_sort ∷ i64_sort ∷ reference ∷ []
kind_sorts aux_line = u8_sort ∷ reference ∷ []

-- the field spells something of the sort
abbrev pub IsOfSort : Sort → List ℕ → Type 0
IsOfSort (number limit) field = (n : ℕ) × IsNumber limit field n
IsOfSort (signed_number limit) field = (z : ℤ) × IsSigned limit field z
IsOfSort reference field = (r : SymRef) × IsReference field r
IsOfSort text field = (s : List ℕ) × IsString field s
IsOfSort octets field = (s : List ℕ) × IsOctets field s
IsOfSort (octets_of_length n) field = (s : List ℕ) × IsSized n field s

-- Some field from number k on is malformed: it is to be of one of these sorts, in their order, and
-- of a numeric one or not as told.
abbrev pub HasMalformed : Bool → ℕ → List Sort → List (List ℕ) → Type 0
HasMalformed numeric k [] fields = ⊥
HasMalformed numeric k (sort ∷ sorts) fields =
    ((is_numeric sort ≡ numeric) × (¬ IsOfSort sort (field_at fields k))) ⊎ HasMalformed numeric (suc k) sorts fields
