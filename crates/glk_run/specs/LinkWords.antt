-- What the words of a command line ask of a link.
use Rattle.std.specs.Prelude.{◌≡◌, ℕ, List, codes}
use Rattle.glk_words.specs.declared.commands.Flag.TheVariants as flag
use Rattle.glk_words.specs.Commands.{default_workers}
use Rattle.glk_words.specs.CommandLine.{Invocation, IsValue, IsPath, IsTruth, IsNumber}
use Rattle.glk_link.specs.declared.options.LinkOptions.{LinkOptions}

-- the entry of a program for this platform
abbrev pub default_entry : List ℕ
default_entry = codes "_rt0_amd64_linux"

-- the image that is written where no other is named
abbrev pub default_image : List ℕ
default_image = codes "a.out"

-- the words ask for this link
pub record IsLink (words : Invocation) (opts : LinkOptions) : Type 0 where
  pub main : opts.main ≡ words.file
  pub out : IsValue words.settings flag.Out default_image opts.out
  pub importcfg : IsPath words.settings flag.ImportCfg opts.importcfg
  pub numbers : IsPath words.settings flag.Numbers opts.numbers
  pub builtin : IsPath words.settings flag.Builtin opts.builtin
  pub entry : IsValue words.settings flag.Entry default_entry opts.entry
  pub strip : IsTruth words.settings flag.Strip opts.strip
  pub workers : IsNumber words.settings flag.Workers default_workers opts.workers
