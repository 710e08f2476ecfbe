-- The numbers of the kinds of relocations, and the configuration file that lists them.
use Rattle.std.specs.Prelude.{◌≡◌, ◌<◌, ◌≤◌, ◌==◌, ◌⊎◌, ◌↔◌, ℕ, List, [], ◌∷◌, length, slice_index, Option, None, Some, false, IsTrue, if◌then◌else◌, codes}
use Rattle.std.specs.Fmt.{decimal}
use Rattle.std.specs.List.{find}
use Rattle.glk_base.specs.Lines.{first_word, after_word, is_skipped, line_at}
use Rattle.glk_obj.specs.declared.kinds.RelocKind.{RelocKind}
use Rattle.glk_obj.specs.declared.kinds.RelocKind.TheVariants.{Addr, Call, PcRel, AddrOff, MethodOff, TlsLe, UseIface, UseIfaceMethod, UseNamedMethod, UseType, InitOrder, CallInd, Keep, Ignore}
use Rattle.glk_obj.specs.declared.numbers.Numbers.{Numbers}

-- the kinds, each at its index
abbrev pub kinds : List RelocKind
kinds =
    Addr ∷ Call ∷ PcRel ∷ AddrOff ∷ MethodOff ∷ TlsLe ∷ UseIface ∷ UseIfaceMethod ∷ UseNamedMethod
    ∷ UseType ∷ InitOrder ∷ CallInd ∷ Keep ∷ Ignore ∷ []

abbrev pub index_of : RelocKind → ℕ
index_of Addr = 0
index_of Call = 1
index_of PcRel = 2
index_of AddrOff = 3
index_of MethodOff = 4
index_of TlsLe = 5
index_of UseIface = 6
index_of UseIfaceMethod = 7
index_of UseNamedMethod = 8
index_of UseType = 9
index_of InitOrder = 10
index_of CallInd = 11
index_of Keep = 12
index_of Ignore = 13

-- the numbers where no file lists others
abbrev pub standard_number : RelocKind → ℕ
standard_number Addr = 1
standard_number Call = 2
standard_number PcRel = 3
standard_number AddrOff = 4
standard_number MethodOff = 5
standard_number TlsLe = 6
standard_number UseIface = 7
standard_number UseIfaceMethod = 8
standard_number UseNamedMethod = 9
standard_number UseType = 10
standard_number InitOrder = 11
standard_number CallInd = 12
standard_number Keep = 13
standard_number Ignore = 14

-- the names by which a file lists them
abbrev pub name_of : RelocKind → List ℕ
name_of Addr = codes "ADDR"
name_of Call = codes "CALL"
name_of PcRel = codes "PCREL"
name_of AddrOff = codes "ADDROFF"
name_of MethodOff = codes "METHODOFF"
name_of TlsLe = codes "TLS_LE"
name_of UseIface = codes "USEIFACE"
name_of UseIfaceMethod = codes "USEIFACEMETHOD"
name_of UseNamedMethod = codes "USENAMEDMETHOD"
name_of UseType = codes "USETYPE"
name_of InitOrder = codes "INITORDER"
name_of CallInd = codes "CALLIND"
name_of Keep = codes "KEEP"
name_of Ignore = codes "IGNORE"

-- The number that a table gives a kind; 0 where it gives none, since numbers are from 1 on.
abbrev pub number_in : Numbers → RelocKind → ℕ
number_in table kind = slice_index table.numbers (index_of kind)

-- the kind to which a table gives the number
unfoldable pub kind_of : Numbers → ℕ → Option RelocKind
kind_of table number = if number == 0 then None else find (λ kind. number_in table kind == number) kinds

-- A file's lines.

abbrev pub greatest_number : ℕ
greatest_number = 32767

-- A line that gives the kind the number: its name, spaces, and the number in decimal. (Names and
-- digits are ASCII, so a line that is not UTF-8 gives nothing.)
pub record Gives (line : List ℕ) (kind : RelocKind) (number : ℕ) : Type 0 where
  pub read : is_skipped line ≡ false
  pub name : first_word line ≡ name_of kind
  pub digits : after_word line ≡ decimal number
  pub low : 1 ≤ number
  pub high : number ≤ greatest_number

-- one of the first n lines gives the kind the number
pub record IsGiven (ls : List (List ℕ)) (n : ℕ) (kind : RelocKind) (number : ℕ) : Type 0 where
  pub line : ℕ
  pub before : line < n
  pub gives : Gives (line_at ls line) kind number

-- line k gives the kind the number, and no line before it gives either
pub record GivesNew (ls : List (List ℕ)) (k : ℕ) (kind : RelocKind) (number : ℕ) : Type 0 where
  pub gives : Gives (line_at ls k) kind number
  pub new_name : (n : ℕ) → IsGiven ls k kind n → ⊥
  pub new_number : (other : RelocKind) → IsGiven ls k other number → ⊥

-- line k, from 0, is good: it is skipped, or gives a new kind a new number
abbrev pub IsGood : List (List ℕ) → ℕ → Type 0
IsGood ls k = IsTrue (is_skipped (line_at ls k)) ⊎ ((kind : RelocKind) × (number : ℕ) × GivesNew ls k kind number)

-- the table has just the numbers that the kinds have where no file lists others
abbrev pub IsStandard : Numbers → Type 0
IsStandard table = (kind : RelocKind) (number : ℕ) → (kind_of table number ≡ Some kind) ↔ (number ≡ standard_number kind)

-- the table has just the numbers that the lines give
abbrev pub IsListed : List (List ℕ) → Numbers → Type 0
IsListed ls table =
    (kind : RelocKind) (number : ℕ) → (kind_of table number ≡ Some kind) ↔ IsGiven ls (length ls) kind number

-- the table has no other numbers: a number of each kind that has one, which a line gives
pub record HasNoOthers (ls : List (List ℕ)) (table : Numbers) : Type 0 where
  pub size : length table.numbers ≡ length kinds
  pub given : (kind : RelocKind) → 0 < number_in table kind → IsGiven ls (length ls) kind (number_in table kind)
