-- What one line does to a table of numbers.
use Rattle.std.specs.Prelude.{◌≡◌, ◌≢◌, ◌<◌, ◌⊎◌, ℕ, List, length, Option, None, Some, true, false, slice_set}
use Rattle.glk_base.specs.Lines.{is_skipped}
use Rattle.glk_obj.specs.declared.kinds.RelocKind.{RelocKind}
use Rattle.glk_obj.specs.declared.numbers.Numbers.{Numbers}
use Rattle.glk_obj.specs.Numbers.{Gives, name_of, number_in, kind_of, index_of}

-- the kind of this name, or none where no kind has it
abbrev pub IsKindNamed : List ℕ → Option RelocKind → Type 0
IsKindNamed name None = (kind : RelocKind) → name ≡ name_of kind → ⊥
IsKindNamed name (Some kind) = name ≡ name_of kind

-- what the line gives, or none where it gives nothing
abbrev pub IsEntryOf : List ℕ → Option (RelocKind × ℕ) → Type 0
IsEntryOf line None = (kind : RelocKind) (number : ℕ) → Gives line kind number → ⊥
IsEntryOf line (Some e) = Gives line e.0 e.1

-- the line gives a kind a number, both are new to the table, and the next table has them too
pub record Adds (table : Numbers) (line : List ℕ) (next : Numbers) : Type 0 where
  pub kind : RelocKind
  pub number : ℕ
  pub gives : Gives line kind number
  pub new_kind : number_in table kind ≡ 0
  pub new_number : kind_of table number ≡ None
  pub inside : index_of kind < length table.numbers
  pub next_is : next.numbers ≡ slice_set table.numbers (index_of kind) number

-- the line gives no kind a number, though it isn't skipped
pub record GivesNothing (line : List ℕ) : Type 0 where
  pub read : is_skipped line ≡ false
  pub nothing : (kind : RelocKind) (number : ℕ) → Gives line kind number → ⊥

-- the table has a number for the kind already
pub record GivesOldKind (table : Numbers) (line : List ℕ) : Type 0 where
  pub kind : RelocKind
  pub number : ℕ
  pub gives : Gives line kind number
  pub old : number_in table kind ≢ 0

-- the table has a kind for the number already
pub record GivesOldNumber (table : Numbers) (line : List ℕ) : Type 0 where
  pub kind : RelocKind
  pub number : ℕ
  pub gives : Gives line kind number
  pub other : RelocKind
  pub old : kind_of table number ≡ Some other

-- the table after the line, or none where the line is refused
abbrev pub Takes : Numbers → List ℕ → Option Numbers → Type 0
Takes table line (Some next) = ((is_skipped line ≡ true) × (next ≡ table)) ⊎ Adds table line next
Takes table line None = GivesNothing line ⊎ (GivesOldKind table line ⊎ GivesOldNumber table line)
