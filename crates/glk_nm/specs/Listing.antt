-- The text of `nm`: a line for each listed symbol, in the order that is asked for.
use Rattle.std.specs.Prelude.{◌≡◌, ◌==◌, ℕ, zero, suc, Bool, ◌||◌, not, List, [], ◌++◌, filter, IsPermutation}
use Rattle.std.specs.List.{flat_map}
use Rattle.std.specs.List.Sorted.{IsSortedByKey, IsStableByKey}
use Rattle.std.specs.Cmp.Lexicographic.{slice_cmp}
use Rattle.std.specs.Option.{option_to_list}
use Rattle.std.specs.Ordering.{nat_cmp}
use Rattle.std.specs.declared.cmp.Ordering.{Ordering}
use Rattle.glk_elf.specs.ReaderSections.{FileSymbol, symbols, symbol_numbered}
use Rattle.glk_nm.specs.Gabi.{STT_SECTION, STT_FILE, st_type}
use Rattle.glk_nm.specs.Lines.{line_of}
use Rattle.glk_nm.specs.declared.options.NmOptions.{NmOptions}
use Rattle.glk_nm.specs.declared.options.NmSort.{NmSort}
use Rattle.glk_nm.specs.declared.options.NmSort.TheVariants as by

-- the first n symbols of a file, in the order of its symbol table
abbrev pub first_symbols : List ℕ → ℕ → List FileSymbol
first_symbols file zero = []
first_symbols file (suc n) = first_symbols file n ++ option_to_list (symbol_numbered file n)

-- symbols that stand for a section or a source file are not listed
abbrev pub is_listed : FileSymbol → Bool
is_listed symbol = not ((st_type symbol == STT_SECTION) || (st_type symbol == STT_FILE))

-- the symbols of a file that are listed, in the order of its symbol table
abbrev pub listed_symbols : List ℕ → List FileSymbol
listed_symbols file = filter is_listed (first_symbols file (symbols file))

-- numbers from the largest down
abbrev pub falling : ℕ → ℕ → Ordering
falling m n = nat_cmp n m

-- names as bytes
abbrev pub name_cmp : List ℕ → List ℕ → Ordering
name_cmp = slice_cmp nat_cmp

-- all of the table, by a key, and those with equal keys in the order of the table
pub record IsOrderedBy {K : Type 0} (key : FileSymbol → K) (cmp : K → K → Ordering) (table rows : List FileSymbol) : Type 0 where
  pub all : IsPermutation table rows
  pub sorted : IsSortedByKey key cmp rows
  pub ties : IsStableByKey key cmp table rows

-- the symbols of a table in the order that is asked for
abbrev pub IsInOrder : NmSort → List FileSymbol → List FileSymbol → Type 0
IsInOrder by.Address table rows = IsOrderedBy (λ symbol. symbol.value) nat_cmp table rows
IsInOrder by.Name table rows = IsOrderedBy (λ symbol. symbol.name) name_cmp table rows
IsInOrder by.Plain table rows = rows ≡ table
IsInOrder by.Size table rows = IsOrderedBy (λ symbol. symbol.size) falling table rows

-- the lines of these symbols of a file
abbrev pub lines_of : List ℕ → Bool → List FileSymbol → List ℕ
lines_of file with_size rows = flat_map (line_of file with_size) rows

-- the text of `nm` for a file
pub record IsNmText (opts : NmOptions) (file text : List ℕ) : Type 0 where
  pub rows : List FileSymbol
  pub in_order : IsInOrder opts.sort (listed_symbols file) rows
  pub lines : text ≡ lines_of file opts.size rows

-- a file has one text
abbrev pub IsOneNmText : Type 0
IsOneNmText = (opts : NmOptions) (file one other : List ℕ) → IsNmText opts file one → IsNmText opts file other → one ≡ other
