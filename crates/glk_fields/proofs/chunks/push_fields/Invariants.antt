use Rattle.std.proofs.Common.{◌≡◌, ◌++◌, take}
use Rattle.glk_fields.specs.Places.{fields_at}
use Rattle.glk_fields.proofs.chunks.push_fields.Given as goal

abbrev pub invariant-loop-place : goal.invariant-loop-place
invariant-loop-place l = l.fields.items ≡ l.fn.fields.items ++ fields_at l.values (take l.place-index l.places)
