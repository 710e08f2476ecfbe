-- The edges between tasks by their ranks, task after task.
use Rattle.std.proofs.Common.{◌≡◌, ◌<◌, ◌+◌, ℕ, List, [], ◌++◌, length, get_or, slice_index, sym, subst, inl, inr, arith}
use Rattle.std.specs.HashMap.{HashMap}
use Rattle.std.specs.List.{Contains}
use Rattle.std.proofs.lemmas.Bool.{cases_lt}
use Rattle.std.proofs.lemmas.List.Elements.{All-append, Contains-append_left, Contains-append_right, Contains-append_cases, Contains-get_or}
use Rattle.glk_order.specs.declared.edges.Edge.{Edge}
use Rattle.glk_init.specs.Graph.{InitGraph}
use Rattle.glk_init.specs.Tasks.{Awaits, awaited}
use Rattle.glk_init.specs.Ranks.{AreEdgesBelow, AreRankEdges, IsRankTable, edge_to, rank_edges}
use Rattle.glk_init.proofs.ListLemmas.{rank_edges_sound, rank_edges_whole}

pub no_edges : (g : InitGraph) (ranked : List ℕ) → AreEdgesBelow g ranked 0 []
no_edges g ranked = record {
  inside = λ k d l. absurd (omega (arith, l));
  sound = λ i j c. absurd (omega (arith, c.1));
  whole = λ i j l. absurd (omega (arith, l));
}

-- an edge of the task of one rank more
new_edge : {S : Type 0} (g : InitGraph) (ranked : List ℕ) (ranks : HashMap ℕ ℕ S) (n : ℕ) → IsRankTable ranked (length ranked) ranks
    → (e : Edge) → Contains (rank_edges ranks n (awaited g (slice_index ranked n))) e
    → (e.task ≡ n) × (e.target < length ranked) × Awaits g (slice_index ranked n) (slice_index ranked e.target)
new_edge g ranked ranks n table e c =
    let r = rank_edges_sound ranks n (awaited g (slice_index ranked n)) e c in
    let at = table.sound r.1 e.target r.3 in
    (r.0, at.0, subst (Awaits g (slice_index ranked n)) (sym at.1) r.2)

pub edges_more : {S : Type 0} (g : InitGraph) (ranked : List ℕ) (ranks : HashMap ℕ ℕ S) (n : ℕ) (edges : List Edge) → n < length ranked
    → IsRankTable ranked (length ranked) ranks → AreEdgesBelow g ranked n edges
    → AreEdgesBelow g ranked (n + 1) (edges ++ rank_edges ranks n (awaited g (slice_index ranked n)))
edges_more g ranked ranks n edges l table below =
    let fresh : List Edge = rank_edges ranks n (awaited g (slice_index ranked n)) in
    let each = new_edge g ranked ranks n table in
    record {
      inside = All-append (λ (e : Edge). (e.task < length ranked) × (e.target < length ranked)) edges fresh below.inside
          (λ k d h. let e = each (get_or fresh k d) (Contains-get_or fresh k d h) in (rw e.0 l, e.1));
      sound = λ i j c. elim (Contains-append_cases edges fresh (edge_to i j) c) [
        | inl old ↦ let b = below.sound i j old in (omega (arith, b.0), b.1)
        | inr new ↦ let e = each (edge_to i j) new in (omega (arith, e.0), rw e.0 e.2)
      ];
      whole = λ i j h inside a. elim (cases_lt i n) [
        | inl old ↦ Contains-append_left edges fresh (edge_to i j) (below.whole i j old inside a)
        | inr ge ↦
            let same : i ≡ n = omega (arith, h, ge) in
            let a2 : Awaits g (slice_index ranked n) (slice_index ranked j) = subst (λ (m : ℕ). Awaits g (slice_index ranked m) (slice_index ranked j)) same a in
            let c = rank_edges_whole ranks n (awaited g (slice_index ranked n)) (slice_index ranked j) j a2 (table.whole j inside) in
            subst (λ (m : ℕ). Contains (edges ++ fresh) (edge_to m j)) (sym same) (Contains-append_right edges fresh (edge_to n j) c)
      ];
    }

pub edges_all : (g : InitGraph) (ranked : List ℕ) (n : ℕ) (edges : List Edge) → n ≡ length ranked → AreEdgesBelow g ranked n edges → AreRankEdges g ranked edges
edges_all g ranked n edges e below = record {
  inside = below.inside;
  sound = λ i j c. (below.sound i j c).1;
  whole = λ i j h. below.whole i j (omega (arith, e, h));
}
