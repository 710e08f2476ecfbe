-- What holds of all command lines, whatever way they are read.
use Rattle.std.specs.Prelude.{◌≡◌, ◌+◌, ℕ, List, [], ◌∷◌, ◌++◌, Some, None, codes, true, false}
use Rattle.glk_words.specs.declared.commands.Command.{Command}
use Rattle.glk_words.specs.declared.commands.Flag.{Flag}
use Rattle.glk_words.specs.Values.{found_in}
use Rattle.glk_words.specs.Commands.{flags_of, is_truth, accepts}
use Rattle.glk_words.specs.CommandLine.{FlagSetting, invocation_from}

abbrev pub one_more : List FlagSetting → Flag → List ℕ → List FlagSetting
one_more settings f value = settings ++ record { flag = f; value = value } ∷ []

-- a setting in one word, after one dash or two
abbrev pub in_one_word : List ℕ → List ℕ → List ℕ → List ℕ
in_one_word dashes name value = dashes ++ (name ++ (codes "=" ++ value))

-- `-name=value`, `--name=value`, and for a flag that is no truth flag `-name value` and `--name value`: each is this setting,
-- and the words after it are read as if they were there alone
pub record HasOneMeaning (c : Command) (settings : List FlagSetting) (n : ℕ) (name : List ℕ) (f : Flag) (value : List ℕ) (words : List (List ℕ)) : Type 0 where
  pub one_dash : invocation_from c None settings n (in_one_word (codes "-") name value ∷ words) ≡ invocation_from c None (one_more settings f value) (n + 1) words
  pub two_dashes : invocation_from c None settings n (in_one_word (codes "--") name value ∷ words) ≡ invocation_from c None (one_more settings f value) (n + 1) words
  pub one_dash_next : is_truth f ≡ false → invocation_from c None settings n ((codes "-" ++ name) ∷ value ∷ words) ≡ invocation_from c None (one_more settings f value) (n + 1 + 1) words
  pub two_dashes_next : is_truth f ≡ false → invocation_from c None settings n ((codes "--" ++ name) ∷ value ∷ words) ≡ invocation_from c None (one_more settings f value) (n + 1 + 1) words

-- the four spellings of a setting mean the same, wherever they are: a law that a public function promises
abbrev pub SpellingsAgree : Type 0
SpellingsAgree = (c : Command) (settings : List FlagSetting) (n : ℕ) (name : List ℕ) (f : Flag) (value : List ℕ) (words : List (List ℕ)) → found_in (flags_of c) name ≡ Some f → accepts f value ≡ true
    → HasOneMeaning c settings n name f value words
