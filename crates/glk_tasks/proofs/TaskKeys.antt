-- Tasks are keys, and an edge has the number of a relocation.
use Rattle.std.proofs.Common.{◌≡◌, ◌<◌, ◌∙◌, ℕ, zero, suc, List, [], ◌∷◌, Bool, true, false, cond, Option, Some, None, refl, sym, ap, subst, length, get_or, arith}
use Rattle.std.specs.Prelude.{IfSome, if◌then◌else◌}
use Rattle.std.specs.List.{All, Contains, find, range_with_len}
use Rattle.std.specs.Option.{option_map_or}
use Rattle.std.proofs.lemmas.List.Elements.{All-contains, All-head, All-tail}
use Rattle.glk_init.proofs.TaskLemmas.{targets_within, task_is_defined}
use Rattle.glk_init.specs.declared.program.InitEdge.{InitEdge}
use Rattle.glk_init.specs.Graph.{InitGraph}
use Rattle.glk_init.specs.Tasks.{IsTask, IsReachedBy, is_undefined, undefined_edge}
use Rattle.glk_keys.specs.Programs.{Program}
use Rattle.glk_keys.specs.Relocations.{relocs_of, reloc_target, no_reloc}
use Rattle.glk_keys.specs.Rows.{row_count}
use Rattle.glk_keys.specs.declared.target.Target.{Target}
use Rattle.glk_keys.specs.declared.target.Target.TheVariants as means
use Rattle.glk_merge.proofs.RowBounds.{all_in_range}
use Rattle.glk_merge.specs.Mergings.{IsKey}
use Rattle.glk_obj.specs.Records.{Reloc}
use Rattle.glk_reach.specs.Chosen.{definition_row}
use Rattle.glk_tasks.specs.Tasks.{init_graph, is_init_order, edge_to, edge_of, edge_at, row_edges, edges_of}
use Rattle.glk_tasks.proofs.Awaited.{all_made, awaited_of}
use Rattle.glk_tasks.proofs.Positions.{defined_own}

module _ (p : Program) where
  reached_below : (root n k : ℕ) → root < row_count p → IsReachedBy (init_graph p) root n k → k < row_count p
  reached_below root zero k below reached = let same : k ≡ root = reached.0 in omega (arith, same, below)
  reached_below root (suc n) k below reached =
      All-contains (λ t. t < row_count p) _ k (targets_within (row_count p) (edges_of p reached.0) (awaited_of p reached.0)) reached.2

  -- the tasks of a key are keys
  pub task_key : (root k : ℕ) → IsKey p root → IsTask (init_graph p) root k → IsKey p k
  task_key root k key task = record {
    row = reached_below root task.0 k key.row task.1;
    own = defined_own p k (task_is_defined (init_graph p) root task.0 k task.1);
  }

  -- Edges.

  -- the edge is that of a relocation below n
  abbrev IsBelow : ℕ → InitEdge → Type 0
  IsBelow n edge = edge.relocation < n

  to_below : (n i : ℕ) (target : Target) → i < n → IfSome (edge_to i target) (IsBelow n)
  to_below n i means.Nothing below = tt
  to_below n i (means.Key key) below = below
  to_below n i (means.Missing pkg index) below = below

  by_kind : (n : ℕ) (b : Bool) (edge : Option InitEdge) → IfSome edge (IsBelow n) → IfSome (if b then edge else None) (IsBelow n)
  by_kind n true edge below = below
  by_kind n false edge below = tt

  row_below : (r : ℕ) → All (IsBelow (length (relocs_of p r))) (row_edges p r)
  row_below r =
      let n : ℕ = length (relocs_of p r) in
      let numbers : List ℕ = range_with_len 0 n in
      all_made (IsBelow n) (edge_at p r) numbers
      (λ i d l.
      let number : ℕ = get_or numbers i d in
      let reloc : Reloc = get_or (relocs_of p r) number no_reloc in
      by_kind n (is_init_order p reloc) (edge_to number (reloc_target p r reloc)) (to_below n number (reloc_target p r reloc) (all_in_range n i d l)))

  here_or : (P : InitEdge → Type 0) (edge first : InitEdge) (later : Option InitEdge) (b : Bool) → P first → (later ≡ Some edge → P edge) → cond b (Some first) later ≡ Some edge → P edge
  here_or P edge first later true here there e = let same : first ≡ edge = cc in subst P same here
  here_or P edge first later false here there e = there e

  found_of : (P : InitEdge → Type 0) (test : InitEdge → Bool) (edges : List InitEdge) (edge : InitEdge) → All P edges → find test edges ≡ Some edge → P edge
  found_of P test [] edge all e = absurd (let bad : None ≡ Some edge = e in cc)
  found_of P test (first ∷ later) edge all e =
      here_or P edge first (find test later) (test first) (All-head P first later all) (found_of P test later edge (All-tail P first later all)) e

  of_row : (found : Option ℕ) (edge : InitEdge) → find (is_undefined (init_graph p)) (option_map_or (row_edges p) found []) ≡ Some edge
      → IfSome found (λ r. edge.relocation < length (relocs_of p r))
  of_row None edge e = tt
  of_row (Some r) edge e = found_of (IsBelow (length (relocs_of p r))) (is_undefined (init_graph p)) (row_edges p r) edge (row_below r) e

  -- what has no definition is referred to by a relocation of the task's definition
  pub undefined_relocation : (k : ℕ) (edge : InitEdge) → undefined_edge (init_graph p) k ≡ Some edge → IfSome (definition_row p k) (λ r. edge.relocation < length (relocs_of p r))
  unfolding edges_of
  undefined_relocation k edge e = of_row (definition_row p k) edge e
