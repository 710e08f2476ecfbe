-- What the passes of a link hand on, as contracts see it.
use Rattle.std.specs.Prelude.{◌≡◌, ℕ, List}
use Rattle.glk_arena.specs.ConfigViews.{file_in}
use Rattle.glk_arena.specs.World.{Package}
use Rattle.glk_link.specs.Config.{Told}
use Rattle.glk_keys.specs.Programs.{Program, program_of}
use Rattle.glk_link.specs.declared.config_files.ConfigFiles.{ConfigFiles}
use Rattle.glk_link.specs.declared.inputs.Inputs.{Inputs}
use Rattle.glk_link.specs.declared.options.LinkOptions.{LinkOptions}
use Rattle.glk_link.specs.Passes.{Kept, Linked, report_of}
use Rattle.glk_link.specs.declared.link_packages.Reached.{Reached}
use Rattle.glk_link.specs.declared.link_packages.Output.{Output}

abbrev pub told_by : LinkOptions → ConfigFiles → Told
told_by opts told = record { opts = opts; numbers = told.numbers; builtins = told.builtins; listed = file_in told.config }

abbrev pub program_by : List ℕ → Inputs → Program
program_by entry inputs = program_of inputs.loaded entry inputs.builtins inputs.numbers

abbrev pub kept_of : List Package → Reached → Kept
kept_of world reached = record { world = world; start = reached.start; kept = reached.kept.items }

abbrev pub linked_of : List Package → Output → Linked
linked_of world output = record { world = world; kept = output.kept.items; image = output.image.items }

-- the report is of what was linked
abbrev pub HasReport : List Package → Output → Type 0
HasReport world output = output.report ≡ report_of (linked_of world output)
