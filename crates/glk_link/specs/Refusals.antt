-- The first call of what is missing.
use Rattle.std.specs.Prelude.{◌≡◌, ◌⊎◌, ℕ, ◌<◌, ◌≤◌, List}
use Rattle.glk_cause.specs.declared.cause.Cause.{Cause}
use Rattle.glk_cause.specs.declared.cause.Cause.TheVariants as cause
use Rattle.glk_arena.specs.World.{Package}
use Rattle.glk_link.specs.World.{symbol_at, reloc_at}
use Rattle.glk_link.specs.Targets.{target_name}
use Rattle.glk_link.specs.Reach.{Misses}

-- of the calls of these definitions to what is missing this is the first: that of least row, and in it the first
pub record IsFirstMiss (world : List Package) (kept : ℕ → Type 0) (i k : ℕ) : Type 0 where
  pub is_kept : kept i
  pub misses : Misses world i k
  pub least : (j m : ℕ) → kept j → Misses world j m → (i < j) ⊎ ((i ≡ j) × (k ≤ m))

-- the refusal of a call to what is missing: who calls, and what
abbrev pub undefined_call : List Package → ℕ → ℕ → Cause
undefined_call world i k = cause.Undefined (symbol_at world i).name (target_name world i (reloc_at world i k).target)
