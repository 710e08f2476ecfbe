use Rattle.std.proofs.Common.{◌≡◌, ◌≤◌, ◌<◌, ◌↔◌, ◌⊎◌, ℕ, true, false, get_or}
use Rattle.glk_link.proofs.field_marks.mark.Given as goal

abbrev pub invariant-loop-p : goal.invariant-loop-p
invariant-loop-p l =
    (p : ℕ) → (get_or l.marks p false ≡ true) ↔ ((get_or l.initial.marks p false ≡ true) ⊎ ((l.from ≤ p) × (p < l.p)))
