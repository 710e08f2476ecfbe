-- Three init tasks, as the tests have them.
use Rattle.std.specs.Prelude.{ℕ, ◌==◌, Bool, true, List, [], ◌∷◌, codes, Option, Some, None, if◌then◌else◌}
use Rattle.glk_init.specs.declared.program.InitEdge.{InitEdge}
use Rattle.glk_init.specs.Graph.{InitGraph}
use Rattle.glk_init_tests.specs.declared.sample.Sample.{Sample}
use Rattle.glk_init_tests.specs.declared.sample.Sample.TheVariants as sample

abbrev pub edge : ℕ → Option ℕ → InitEdge
edge relocation target = record { relocation = relocation; target = target }

-- what task 1 waits for
abbrev pub edges_of_1 : Sample → List InitEdge
edges_of_1 sample.Sound = []
edges_of_1 sample.Cyclic = edge 0 (Some 2) ∷ []
edges_of_1 sample.Undefined = edge 7 None ∷ []

-- what task 2 waits for
abbrev pub edges_of_2 : Sample → List InitEdge
edges_of_2 sample.Sound = []
edges_of_2 sample.Cyclic = edge 0 (Some 1) ∷ []
edges_of_2 sample.Undefined = edge 3 None ∷ []

abbrev pub edges_of : Sample → ℕ → List InitEdge
edges_of s k =
    if k == 0 then edge 0 (Some 1) ∷ edge 1 (Some 2) ∷ []
    else (if k == 1 then edges_of_1 s else (if k == 2 then edges_of_2 s else []))

abbrev pub name_of : ℕ → List ℕ
name_of k = if k == 0 then codes "main..inittask" else (if k == 1 then codes "b..inittask" else codes "a..inittask")

-- The graph of four symbols: the first three are tasks, and nothing waits for the last.
abbrev pub graph_of : Sample → InitGraph
graph_of s = record {
  keys = 4;
  defined = λ k. true;
  name = name_of;
  position = λ k. k;
  size = λ k. if k == 2 then 8 else 16;
  edges = edges_of s;
}
