-- The builtin list: the functions that the compiler calls by their number in a list of its own.
use Rattle.std.specs.Prelude.{◌≡◌, ◌<◌, ◌^◌, ◌⊎◌, ℕ, List, [], ◌∷◌, map, not, true, false, IsTrue}
use Rattle.std.specs.Fmt.{decimal}
use Rattle.std.specs.List.{filter}
use Rattle.std.specs.Str.{is_utf8}
use Rattle.glk_base.specs.declared.fault.Fault.{Fault}
use Rattle.glk_base.specs.declared.fault.Fault.TheVariants as fault
use Rattle.glk_base.specs.declared.lines.ConfigLine.{ConfigLine}
use Rattle.glk_base.specs.Lines.{is_skipped, trimmed_line, line_at, first_word, after_word, IsFirstBad}

-- a function that is called by its number in the list: its name and its ABI
pub record Builtin : Type 0 where
  pub name : List ℕ
  pub abi : ℕ

-- A line `NAME ABI`, without the blanks at its ends: a name, spaces, and a number below 2^16 in decimal.
pub record Gives (line : List ℕ) (builtin : Builtin) : Type 0 where
  pub text : is_utf8 line ≡ true
  pub read : is_skipped line ≡ false
  pub name : builtin.name ≡ first_word line
  pub digits : after_word line ≡ decimal builtin.abi
  pub low : builtin.abi < 2 ^ 16

-- A line without the blanks at its ends is good: it is empty or a comment, or gives a builtin.
abbrev pub IsGood : List ℕ → Type 0
IsGood line = IsTrue (is_skipped line) ⊎ ((builtin : Builtin) × Gives line builtin)

-- line k, from 0, is good
abbrev pub IsGoodLine : List (List ℕ) → ℕ → Type 0
IsGoodLine ls k = IsGood (line_at ls k)

-- the lines that are not skipped, without the blanks at their ends
abbrev pub read_lines : List (List ℕ) → List (List ℕ)
read_lines ls = filter (λ line. not (is_skipped line)) (map trimmed_line ls)

-- as many lines as builtins, and each line gives the builtin at its place
abbrev pub EachGives : List (List ℕ) → List Builtin → Type 0
EachGives [] [] = Unit {0}
EachGives (line ∷ ls) (builtin ∷ list) = Gives line builtin × EachGives ls list
EachGives _ _ = ⊥

-- these builtins are what the lines give, in their order
abbrev pub AreListed : List (List ℕ) → List Builtin → Type 0
AreListed ls list = EachGives (read_lines ls) list

-- The fault names the first bad line; or memory was wanting.
abbrev pub IsFaultOf : List (List ℕ) → Fault ConfigLine → Type 0
IsFaultOf ls (fault.Bad bad) = IsFirstBad ls (IsGoodLine ls) bad.line
IsFaultOf ls fault.OutOfMemory = Unit {0}
