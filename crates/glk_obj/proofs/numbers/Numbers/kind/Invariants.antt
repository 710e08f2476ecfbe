use Rattle.std.proofs.Common.{◌≡◌, eqb, drop}
use Rattle.std.specs.List.{find}
use Rattle.glk_obj.specs.Numbers.{kinds, number_in}
use Rattle.glk_obj.proofs.numbers.Numbers.kind.Given as goal

abbrev pub invariant-loop-index : goal.invariant-loop-index
invariant-loop-index l = find (λ kind. eqb (number_in l.self kind) l.number) kinds ≡ find (λ kind. eqb (number_in l.self kind) l.number) (drop l.index kinds)
