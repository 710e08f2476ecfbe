use Rattle.std.proofs.Common.{◌≡◌, ◌<◌, ℕ, Some}
use Rattle.std.specs.List.{slice_get}
use Rattle.glk_obj.specs.declared.kinds.RelocKind.{RelocKind}
use Rattle.glk_obj.specs.Numbers.{kinds, name_of}
use Rattle.glk_obj.proofs.numbers.kind_named.Given as goal

abbrev pub invariant-loop-index : goal.invariant-loop-index
invariant-loop-index l = (j : ℕ) → j < l.index → (kind : RelocKind) → slice_get kinds j ≡ Some kind → l.name ≡ name_of kind → ⊥
