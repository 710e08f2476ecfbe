-- The first target without a definition, task after task.
use Rattle.std.proofs.Common.{◌≡◌, ℕ, List, [], ◌∷◌, ◌++◌, Option, Some, None, refl, sym, subst, ◌∙◌, inl, inr, arith}
use Rattle.std.specs.List.{All, Contains}
use Rattle.std.proofs.lemmas.List.Elements.{All-push, All-contains, Contains-push, Contains-push_cases, Contains-append_left}
use Rattle.glk_init.specs.declared.tasks.UndefinedTarget.{UndefinedTarget}
use Rattle.glk_init.specs.Graph.{InitGraph}
use Rattle.glk_init.specs.declared.program.InitEdge.{InitEdge}
use Rattle.glk_init.specs.Tasks.{undefined_edge, IsTask, IsWhole, AreTasks, IsFirstUndefined}
use Rattle.glk_init.specs.Reached.{IsEarlier, IsFirstAmong, IsUndefinedOf, TakesIn}

-- a task more all of whose targets have a definition
pub among_whole : (g : InitGraph) (xs : List ℕ) (x : ℕ) (first : Option UndefinedTarget) → IsFirstAmong g xs first → IsWhole g x → IsFirstAmong g (xs ++ x ∷ []) first
among_whole g xs x None h w = All-push (IsWhole g) xs x h w
among_whole g xs x (Some u) h w = (
  Contains-append_left xs (x ∷ []) u.task h.0,
  h.1,
  λ other c broken.
      elim (Contains-push_cases xs x other c) [
        | inl old ↦ h.2 other old broken
        | inr same ↦ absurd (broken (subst (IsWhole g) same w))
      ],
)

-- a task more with a target that has none
pub among_new : (g : InitGraph) (xs : List ℕ) (x : ℕ) (first : Option UndefinedTarget) (u chosen : UndefinedTarget)
    → IsFirstAmong g xs first → u.task ≡ x → IsUndefinedOf g u → IsEarlier g first u chosen → IsFirstAmong g (xs ++ x ∷ []) (Some chosen)
among_new g xs x None u chosen h at undefined is =
    let here : Contains (xs ++ x ∷ []) u.task = subst (Contains (xs ++ x ∷ [])) (sym at) (Contains-push xs x) in
    subst (λ (v : UndefinedTarget). IsFirstAmong g (xs ++ x ∷ []) (Some v)) (sym is) (
      here,
      undefined,
      λ other c broken.
          elim (Contains-push_cases xs x other c) [
            | inl old ↦ absurd (broken (All-contains (IsWhole g) xs other h old))
            | inr same ↦ let e : u.task ≡ other = at ∙ same in rw e (omega arith)
          ],
    )
among_new g xs x (Some f) u chosen h at undefined (inl is) =
    subst (λ (v : UndefinedTarget). IsFirstAmong g (xs ++ x ∷ []) (Some v)) (sym is.0) (
      Contains-append_left xs (x ∷ []) f.task h.0,
      h.1,
      λ other c broken.
          elim (Contains-push_cases xs x other c) [
            | inl old ↦ h.2 other old broken
            | inr same ↦ let e : u.task ≡ other = at ∙ same in rw (← e) is.1
          ],
    )
among_new g xs x (Some f) u chosen h at undefined (inr is) =
    let here : Contains (xs ++ x ∷ []) u.task = subst (Contains (xs ++ x ∷ [])) (sym at) (Contains-push xs x) in
    subst (λ (v : UndefinedTarget). IsFirstAmong g (xs ++ x ∷ []) (Some v)) (sym is.0) (
      here,
      undefined,
      λ other c broken.
          elim (Contains-push_cases xs x other c) [
            | inl old ↦ let b = h.2 other old broken in omega (arith, is.1, b)
            | inr same ↦ let e : u.task ≡ other = at ∙ same in rw e (omega arith)
          ],
    )

-- a task more
pub among_more : (g : InitGraph) (xs : List ℕ) (x : ℕ) (first : Option UndefinedTarget) (missing : Option InitEdge) (now : Option UndefinedTarget)
    → IsFirstAmong g xs first → missing ≡ undefined_edge g x → TakesIn g first x missing now → IsFirstAmong g (xs ++ x ∷ []) now
among_more g xs x first None now h is takes =
    subst (IsFirstAmong g (xs ++ x ∷ [])) (sym takes) (among_whole g xs x first h (sym is))
among_more g xs x first (Some e) now h is takes =
    let u : UndefinedTarget = record { task = x; relocation = e.relocation } in
    subst (IsFirstAmong g (xs ++ x ∷ [])) (sym takes.1) (among_new g xs x first u takes.0 h refl (e, sym is, refl) takes.2)

pub all_whole : (g : InitGraph) (root : ℕ) (tasks : List ℕ) → AreTasks g root tasks → All (IsWhole g) tasks → (k : ℕ) → IsTask g root k → IsWhole g k
all_whole g root tasks are whole k t = All-contains (IsWhole g) tasks k whole ((are.exact k).1 t)

pub first_of_tasks : (g : InitGraph) (root : ℕ) (tasks : List ℕ) (u : UndefinedTarget) → AreTasks g root tasks → IsFirstAmong g tasks (Some u) → IsFirstUndefined g root u
first_of_tasks g root tasks u are first = record {
  task = (are.exact u.task).0 first.0;
  edge = first.1;
  least = λ other t. first.2 other ((are.exact other).1 t);
}
