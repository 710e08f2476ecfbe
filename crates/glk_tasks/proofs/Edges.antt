-- What is waited for by one relocation more.
use Rattle.std.proofs.Common.{◌≡◌, ◌+◌, ℕ, zero, suc, [], ◌∷◌, ◌++◌, Some, None, refl, ap, arith, append-nil}
use Rattle.std.specs.List.{range_with_len}
use Rattle.std.proofs.lemmas.List.Elements.{filter_map-append}
use Rattle.glk_init.specs.declared.program.InitEdge.{InitEdge}
use Rattle.glk_keys.specs.Programs.{Program}
use Rattle.glk_tasks.specs.Tasks.{edge_at, edges_below}

range_more : (a n j : ℕ) → a + n ≡ j → range_with_len a (n + 1) ≡ range_with_len a n ++ j ∷ []
range_more a zero j e = let h : a ≡ j = omega arith in rw h refl
range_more a (suc n) j e = let m : suc n + 1 ≡ suc (n + 1) = omega arith in rw m (ap (λ rest. a ∷ rest) (range_more (a + 1) n j (omega arith)))

pub edges_more : (p : Program) (r i : ℕ) (edge : InitEdge) → edge_at p r i ≡ Some edge → edges_below p r (i + 1) ≡ edges_below p r i ++ edge ∷ []
edges_more p r i edge e = rw (range_more 0 i i (omega arith), filter_map-append) (simp e)

pub edges_same : (p : Program) (r i : ℕ) → edge_at p r i ≡ None → edges_below p r (i + 1) ≡ edges_below p r i
edges_same p r i e = rw (range_more 0 i i (omega arith), filter_map-append) (simp (e, append-nil))
