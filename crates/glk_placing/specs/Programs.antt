-- What is placed of a program: its kept symbols, and what the link makes for it.
use Rattle.std.specs.Prelude.{◌≡◌, ℕ, ◌^◌, ◌≤◌, List, [], ◌∷◌, get_or}
use Rattle.glk_keys.specs.Programs.{Program}
use Rattle.glk_layout.specs.declared.input.MadeContent.{MadeContent}
use Rattle.glk_layout.specs.declared.input.Tables.{Tables}
use Rattle.glk_layout.specs.Layout.{table_limit}
use Rattle.glk_layout.specs.Placed.{PlacedContents}
use Rattle.glk_placing.specs.declared.made.MadeSizes.{MadeSizes}
use Rattle.glk_placing.specs.declared.made.MadeContentKind.{MadeContentKind}
use Rattle.glk_placing.specs.declared.made.MadeContentKind.TheVariants.{MainTasks, RuntimeTasks, Trees, FindFuncTab, Pointers}
use Rattle.glk_placing.specs.KeptSymbols.{kept_symbols}

-- a program, the keys that it keeps in their order, and the sizes of what is made for it
pub record PlacedProgram : Type 0 where
  pub program : Program
  pub kept : List ℕ
  pub made : MadeSizes
  pub tables : Tables

-- the multiples on which made contents are: lists of addresses, and lists of smaller numbers
abbrev pub list_align : ℕ
list_align = 8

abbrev pub table_align : ℕ
table_align = 4

abbrev pub no_align : ℕ
no_align = 1

abbrev pub made_content : ℕ → ℕ → MadeContent
made_content align size = record { align = align; size = size }

-- what is made in .rodata, in its order
abbrev pub made_list : MadeSizes → List MadeContent
made_list m =
    made_content list_align m.main_tasks ∷ made_content list_align m.runtime_tasks ∷ made_content table_align m.trees
    ∷ made_content table_align m.findfunctab ∷ made_content no_align m.pointers ∷ []

-- the indices of these
abbrev pub made_index : MadeContentKind → ℕ
made_index MainTasks = 0
made_index RuntimeTasks = 1
made_index Trees = 2
made_index FindFuncTab = 3
made_index Pointers = 4

-- how many they are
abbrev pub made_contents : ℕ
made_contents = 5

-- all that is placed, as lists
abbrev pub contents_of : PlacedProgram → PlacedContents
contents_of s = record { symbols = kept_symbols s.program s.kept; made = made_list s.made; tables = s.tables }

-- the key of an index in the list of kept keys
abbrev pub key_at : PlacedProgram → ℕ → ℕ
key_at s i = get_or s.kept i 0

-- A made content has at most this many bytes: 2^24 functions may share one tree of 2^26 nodes, 16 bytes each.
abbrev pub made_limit : ℕ
made_limit = 2 ^ 55

-- the storage of a thread has at most this many
abbrev pub thread_limit : ℕ
thread_limit = 2 ^ 48

-- no size is so great that a sum of them is too great for a number
pub record AreSmall (m : MadeSizes) (t : Tables) : Type 0 where
  pub main_tasks : m.main_tasks ≤ made_limit
  pub runtime_tasks : m.runtime_tasks ≤ made_limit
  pub trees : m.trees ≤ made_limit
  pub findfunctab : m.findfunctab ≤ made_limit
  pub pointers : m.pointers ≤ made_limit
  pub typelink : t.typelink ≤ table_limit
  pub itablink : t.itablink ≤ table_limit
  pub gopclntab : t.gopclntab ≤ table_limit
  pub go_module : t.go_module ≤ table_limit
  pub tbss : t.tbss ≤ thread_limit

abbrev pub placed_program : Program → List ℕ → MadeSizes → Tables → PlacedProgram
placed_program program kept made tables = record { program = program; kept = kept; made = made; tables = tables }
