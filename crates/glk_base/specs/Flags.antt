-- Words of a command line, read as Go's `flag` package reads them.
use Rattle.std.specs.Prelude.{◌==◌, ℕ, List, [], ◌∷◌, if◌then◌else◌, length, Option, Some, None, nat_lt}
use Rattle.std.specs.List.{position_or_len, before_first, after_first}
use Rattle.glk_base.specs.declared.flags.FlagWord.{FlagWord}
use Rattle.glk_base.specs.declared.flags.FlagWord.TheVariants as word

-- what a word is
pub data Flagged : Type 0 where
  -- no flag: it ends the flags, and is the first plain word
  plain : Flagged
  -- two dashes alone: they end the flags
  end : Flagged
  -- like a flag, but what follows the dashes is no name
  bad_syntax : Flagged
  -- a flag: its name, and its value where an equals sign follows the name
  flag : (name : List ℕ) (value : Option (List ℕ)) → Flagged

abbrev pub dash : ℕ
dash = 45

abbrev pub equals : ℕ
equals = 61

-- what follows a dash, where the text begins with one
unfoldable pub after_dash : List ℕ → Option (List ℕ)
after_dash [] = None
after_dash (b ∷ rest) = if b == dash then Some rest else None

-- a name, and after its first equals sign a value
unfoldable pub named_flag : List ℕ → Flagged
named_flag body =
    if nat_lt (position_or_len (λ b. b == equals) body) (length body)
    then flag (before_first (λ b. b == equals) body) (Some (after_first (λ b. b == equals) body))
    else flag body None

-- what follows the dashes of a flag: a name does not begin with a dash or an equals sign
unfoldable pub flag_with : List ℕ → Flagged
flag_with [] = bad_syntax
flag_with (b ∷ body) = if b == dash then bad_syntax else (if b == equals then bad_syntax else named_flag (b ∷ body))

-- a flag has one dash or two; a single dash is plain
abbrev pub behind_two : List ℕ → Option (List ℕ) → Flagged
behind_two rest None = flag_with rest
behind_two rest (Some []) = end
behind_two rest (Some (b ∷ body)) = flag_with (b ∷ body)

abbrev pub behind_one : Option (List ℕ) → Flagged
behind_one None = plain
behind_one (Some []) = plain
behind_one (Some (b ∷ rest)) = behind_two (b ∷ rest) (after_dash (b ∷ rest))

unfoldable pub flag_of : List ℕ → Flagged
flag_of text = behind_one (after_dash text)

-- the code's type as what contracts speak of
abbrev pub flag_view : FlagWord → Flagged
flag_view word.Plain = plain
flag_view word.End = end
flag_view word.BadSyntax = bad_syntax
flag_view (word.Flag name (Some value)) = flag name.now (Some value.now)
flag_view (word.Flag name None) = flag name.now None
