use Rattle.std.proofs.Common.{◌≡◌, ◌+◌, drop}
use Rattle.std.specs.List.{position_or_len}
use Rattle.std.specs.Str.{bytes_eq}
use Rattle.glk_keys.proofs.made_names.first_named.Given as goal

abbrev pub invariant-loop-k : goal.invariant-loop-k
invariant-loop-k l = position_or_len (λ m. bytes_eq l.name m.name.now) l.table ≡ l.k + position_or_len (λ m. bytes_eq l.name m.name.now) (drop l.k l.table)
