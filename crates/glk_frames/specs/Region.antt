-- What the bytes of a region, a section `.gopclntab`, say.
use Rattle.std.specs.Prelude.{ℕ, zero, suc, ◌≡◌, ◌≤◌, ◌+◌, ◌*◌, List, [], ◌∷◌, length, take, drop, Option, Some, None, cond, nat_lt, ◌==◌, Bool, not, ℤ, pos, negsuc}
use Rattle.glk_base.specs.Bytes.{number_at}

-- numbers of pcHeader: how many functions there are, and the offsets of the five tables
unfoldable pub function_count : List ℕ → ℕ
function_count r = number_at 8 r 8

-- the address of the text, from which offsets of functions count
unfoldable pub text_start : List ℕ → ℕ
text_start r = number_at 8 r 24

unfoldable pub funcnametab_offset : List ℕ → ℕ
funcnametab_offset r = number_at 8 r 32

unfoldable pub cutab_offset : List ℕ → ℕ
cutab_offset r = number_at 8 r 40

unfoldable pub filetab_offset : List ℕ → ℕ
filetab_offset r = number_at 8 r 48

unfoldable pub pctab_offset : List ℕ → ℕ
pctab_offset r = number_at 8 r 56

unfoldable pub pclntable_offset : List ℕ → ℕ
pclntable_offset r = number_at 8 r 64

-- what pcHeader begins with: the magic number, two zeros, the least size of an instruction, and the size of a pointer
abbrev pub header_magic : List ℕ
header_magic = 241 ∷ 255 ∷ 255 ∷ 255 ∷ 0 ∷ 0 ∷ 1 ∷ 8 ∷ []

-- These bytes are a region: they have a whole pcHeader, each table begins inside them, and functab ends inside them.
pub record IsRegion (r : List ℕ) : Type 0 where
  pub header : 72 ≤ length r
  pub magic : take 8 r ≡ header_magic
  pub names : funcnametab_offset r ≤ length r
  pub units : cutab_offset r ≤ length r
  pub files : filetab_offset r ≤ length r
  pub tables : pctab_offset r ≤ length r
  pub records : pclntable_offset r ≤ length r
  pub functab : pclntable_offset r + 8 * function_count r + 4 ≤ length r

-- functab: where function i starts, as an offset in the text; after the last function, the text's size
unfoldable pub start_of : List ℕ → ℕ → ℕ
start_of r i = number_at 4 r (pclntable_offset r + 8 * i)

-- and the offset of its record
unfoldable pub record_offset : List ℕ → ℕ → ℕ
record_offset r i = pclntable_offset r + number_at 4 r (pclntable_offset r + 8 * i + 4)

-- fields of the record at an offset: the numbers of pcdata and funcdata, and each of them
unfoldable pub pcdata_count : List ℕ → ℕ → ℕ
pcdata_count r at = number_at 4 r (at + 28)

unfoldable pub funcdata_count : List ℕ → ℕ → ℕ
funcdata_count r at = number_at 1 r (at + 43)

unfoldable pub pcdata_in : List ℕ → ℕ → ℕ → ℕ
pcdata_in r at k = number_at 4 r (at + 44 + 4 * k)

unfoldable pub funcdata_in : List ℕ → ℕ → ℕ → ℕ
funcdata_in r at k = number_at 4 r (at + 44 + 4 * pcdata_count r at + 4 * k)

-- the record with its pcdata and funcdata is inside the region
unfoldable pub record_inside : List ℕ → ℕ → Bool
record_inside r at = not (nat_lt (length r) (at + 44 + 4 * pcdata_count r at + 4 * funcdata_count r at))

-- the greatest index below n whose start is not above the offset
unfoldable pub last_below : (ℕ → ℕ) → ℕ → ℕ → Option ℕ
last_below start off zero = None
last_below start off (suc n) = cond (nat_lt off (start n)) (last_below start off n) (Some n)

-- a function is found if its record is inside the region
abbrev pub with_record : List ℕ → Option ℕ → Option ℕ
with_record r None = None
with_record r (Some i) = cond (record_inside r (record_offset r i)) (Some i) None

-- The function at an offset of the text, for an offset below the last entry: that of greatest index whose start is not
-- above the offset.
unfoldable pub found_in : List ℕ → ℕ → Option ℕ
found_in r off =
    cond (nat_lt off (start_of r (function_count r))) (with_record r (last_below (start_of r) off (function_count r))) None

abbrev pub one_more : ℕ → Option (List ℕ) → Option (List ℕ)
one_more byte None = None
one_more byte (Some rest) = Some (byte ∷ rest)

-- the bytes before the first zero, if there is one
unfoldable pub ended_by_zero : List ℕ → Option (List ℕ)
ended_by_zero [] = None
ended_by_zero (byte ∷ rest) = cond (byte == 0) (Some []) (one_more byte (ended_by_zero rest))

-- the name at an offset of funcnametab
unfoldable pub name_at : List ℕ → ℕ → Option (List ℕ)
name_at r offset = ended_by_zero (drop (funcnametab_offset r + offset) r)

-- the bytes from an offset of pctab on; at offset 0 is the empty table
unfoldable pub table_at : List ℕ → ℕ → List ℕ
table_at r offset = cond (offset == 0) [] (drop (pctab_offset r + offset) r)

-- an entry of cutab that has no file
abbrev pub no_file : ℕ
no_file = 4294967295

-- the file at an offset of filetab
abbrev pub file_by : List ℕ → ℕ → Option (List ℕ)
file_by r offset = cond (offset == no_file) None (ended_by_zero (drop (filetab_offset r + offset) r))

-- the file of entry k of cutab
unfoldable pub file_entry : List ℕ → ℕ → Option (List ℕ)
file_entry r k =
    cond (nat_lt (length r) (cutab_offset r + 4 * k + 4)) None (file_by r (number_at 4 r (cutab_offset r + 4 * k)))

-- the file of a pc table's value, where the entries of the function's unit begin at an index
abbrev pub file_at : List ℕ → ℕ → Option ℤ → Option (List ℕ)
file_at r unit None = None
file_at r unit (Some (negsuc below)) = None
file_at r unit (Some (pos k)) = file_entry r (unit + k)
