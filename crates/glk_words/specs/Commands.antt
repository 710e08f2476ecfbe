-- The commands of golink with their flags.
use Rattle.std.specs.Prelude.{ℕ, List, [], ◌∷◌, Bool, true, false, codes}
use Rattle.std.specs.Str.{bytes_eq}
use Rattle.glk_words.specs.declared.commands.Command.{Command}
use Rattle.glk_words.specs.declared.commands.Command.TheVariants as command
use Rattle.glk_words.specs.declared.commands.Flag.{Flag}
use Rattle.glk_words.specs.declared.commands.Flag.TheVariants as flag
use Rattle.glk_words.specs.Values.{found_in, truth_of, number_of, sorts, is_some, is_up_to, worker_limit}
use Rattle.glk_base.specs.Limits.{function_limit}

abbrev pub commands : List (List ℕ × Command)
commands =
    (codes "link", command.Link)
    ∷ (codes "mkobj", command.Mkobj)
    ∷ (codes "dump", command.Dump)
    ∷ (codes "nm", command.Nm)
    ∷ (codes "addr2line", command.Addr2line)
    ∷ (codes "gen", command.Gen) ∷ []

-- the flags of a command, by their names after the dashes
unfoldable pub flags_of : Command → List (List ℕ × Flag)
flags_of command.Link =
    (codes "o", flag.Out)
    ∷ (codes "importcfg", flag.ImportCfg)
    ∷ (codes "numbers", flag.Numbers)
    ∷ (codes "builtin", flag.Builtin)
    ∷ (codes "E", flag.Entry)
    ∷ (codes "s", flag.Strip)
    ∷ (codes "w", flag.OmitDwarf)
    ∷ (codes "workers", flag.Workers)
    ∷ (codes "buildmode", flag.BuildMode)
    ∷ (codes "buildid", flag.BuildId)
    ∷ (codes "extld", flag.ExtLd) ∷ []
flags_of command.Mkobj = (codes "o", flag.Out) ∷ []
flags_of command.Dump = []
flags_of command.Nm = (codes "n", flag.ByAddress) ∷ (codes "size", flag.Size) ∷ (codes "sort", flag.Sort) ∷ []
flags_of command.Addr2line = (codes "i", flag.Inline) ∷ []
flags_of command.Gen = (codes "seed", flag.Seed) ∷ (codes "n", flag.Count) ∷ (codes "workers", flag.Workers) ∷ []

-- how many threads work at once where no flag says
abbrev pub default_workers : ℕ
default_workers = 4

-- every command but gen works on one file
abbrev pub takes_file : Command → Bool
takes_file command.Gen = false
takes_file c = true

-- a truth flag stands alone; its value, if any, follows an `=`
abbrev pub is_truth : Flag → Bool
is_truth flag.Strip = true
is_truth flag.OmitDwarf = true
is_truth flag.ByAddress = true
is_truth flag.Size = true
is_truth flag.Inline = true
is_truth f = false

-- the values that a flag accepts; a path, a name or an id is any word
unfoldable pub accepts : Flag → List ℕ → Bool
accepts flag.Out value = true
accepts flag.ImportCfg value = true
accepts flag.Numbers value = true
accepts flag.Builtin value = true
accepts flag.Entry value = true
accepts flag.Strip value = is_some (truth_of value)
accepts flag.OmitDwarf value = is_some (truth_of value)
accepts flag.Workers value = is_up_to worker_limit (number_of value)
accepts flag.BuildMode value = bytes_eq value (codes "exe")
accepts flag.BuildId value = true
accepts flag.ExtLd value = true
accepts flag.ByAddress value = is_some (truth_of value)
accepts flag.Size value = is_some (truth_of value)
accepts flag.Sort value = is_some (found_in sorts value)
accepts flag.Inline value = is_some (truth_of value)
accepts flag.Seed value = is_some (number_of value)
accepts flag.Count value = is_up_to function_limit (number_of value)
