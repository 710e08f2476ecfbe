-- What an iterator over a table has left.
use Rattle.std.specs.Prelude.{ℕ, List, ℤ}
use Rattle.glk_pcval.specs.declared.steps.Steps.{Steps}
use Rattle.glk_pcval.specs.Table.{ranges_from}

abbrev pub ranges_left : Steps → List (ℤ × ℕ)
ranges_left steps = ranges_from 0 steps.from steps.rest.now
