-- The import configuration: what its lines say, and which file a package has.
use Rattle.std.specs.Prelude.{◌≡◌, ◌<◌, ◌==◌, ◌⊎◌, ℕ, Bool, List, length, drop, codes, nat_eq, true, Option, None, Some}
use Rattle.std.specs.List.{starts_with, before_first, after_first}
use Rattle.std.specs.Str.{is_utf8}
use Rattle.glk_base.specs.Lines.{lines, is_skipped, line_at, AllGood, IsFirstBad}

abbrev pub packagefile : List ℕ
packagefile = codes "packagefile "

abbrev pub modinfo : List ℕ
modinfo = codes "modinfo "

abbrev pub is_equals_sign : ℕ → Bool
is_equals_sign b = b == 61

-- A line `packagefile PATH=FILE`: the path is before the first `=`, the file after it, and neither is empty.
pub record Lists (line path file : List ℕ) : Type 0 where
  pub text : is_utf8 line ≡ true
  pub word : starts_with nat_eq line packagefile ≡ true
  pub path_is : path ≡ before_first is_equals_sign (drop (length packagefile) line)
  pub file_is : file ≡ after_first is_equals_sign (drop (length packagefile) line)
  pub some_path : 0 < length path
  pub some_file : 0 < length file

-- A line of the program's modules, in any form: it is skipped.
pub record IsModinfo (line : List ℕ) : Type 0 where
  pub text : is_utf8 line ≡ true
  pub word : starts_with nat_eq line modinfo ≡ true

-- A line without the blanks at its ends is good: it is empty or a comment, or one of these two.
abbrev pub IsGood : List ℕ → Type 0
IsGood line = (is_skipped line ≡ true) ⊎ (IsModinfo line ⊎ ((path : List ℕ) × (file : List ℕ) × Lists line path file))

abbrev pub IsGoodLine : List (List ℕ) → ℕ → Type 0
IsGoodLine ls k = IsGood (line_at ls k)

-- Of the first n lines this is the last that lists the path, and it gives it this file.
pub record IsLast (ls : List (List ℕ)) (n : ℕ) (path file : List ℕ) : Type 0 where
  pub line : ℕ
  pub inside : line < n
  pub lists : Lists (line_at ls line) path file
  pub later : (k : ℕ) (other : List ℕ) → line < k → k < n → Lists (line_at ls k) path other → ⊥

-- The file that the first n lines give a path: that of the last line that lists it, or none where no line does.
abbrev pub IsLastFile : List (List ℕ) → ℕ → List ℕ → Option (List ℕ) → Type 0
IsLastFile ls n path None = (k : ℕ) (file : List ℕ) → k < n → Lists (line_at ls k) path file → ⊥
IsLastFile ls n path (Some file) = IsLast ls n path file

-- lines give a path one file, or none
abbrev pub IsOneFile : Type 0
IsOneFile = (ls : List (List ℕ)) (n : ℕ) (path : List ℕ) (one other : Option (List ℕ)) → IsLastFile ls n path one → IsLastFile ls n path other → one ≡ other

-- Each line is good, and each path has the file of the last line that lists it, or none.
pub record ConfigLines (ls : List (List ℕ)) (listed : List ℕ → Option (List ℕ)) : Type 0 where
  pub good : AllGood ls (IsGoodLine ls)
  pub files : (path : List ℕ) → IsLastFile ls (length ls) path (listed path)

-- Each text is a configuration that lists some files, or has a first bad line.
abbrev pub IsSomeConfig : Type 0
IsSomeConfig = (text : List ℕ)
    → ((listed : List ℕ → Option (List ℕ)) × ConfigLines (lines text) listed)
    ⊎ ((number : ℕ) × IsFirstBad (lines text) (IsGoodLine (lines text)) number)
