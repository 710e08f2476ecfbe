-- What a link merges.
use Rattle.std.specs.Prelude.{ℕ, List, []}
use Rattle.glk_arena.specs.Builtins.{Builtin}
use Rattle.glk_arena.specs.World.{Package}
use Rattle.glk_obj.specs.declared.numbers.Numbers.{Numbers}

-- the loaded packages in load order, the name of the entry, the builtin list, and which number of a relocation means which kind
pub record Program : Type 0 where
  pub world : List Package
  pub entry : List ℕ
  pub builtins : List Builtin
  pub numbers : Numbers

-- what is linked of these
abbrev pub program_of : List Package → List ℕ → List Builtin → Numbers → Program
program_of world entry builtins numbers = record { world = world; entry = entry; builtins = builtins; numbers = numbers }

-- what follows the builtin list
abbrev pub no_builtin : Builtin
no_builtin = record { name = []; abi = 0 }
