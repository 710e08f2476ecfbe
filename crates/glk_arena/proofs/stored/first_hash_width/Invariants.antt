use Rattle.std.proofs.Common.{◌≡◌, drop, map}
use Rattle.glk_package.specs.WidthRule.{first_width}
use Rattle.glk_arena.specs.Stored.{stored_data}
use Rattle.glk_arena.proofs.stored.first_hash_width.Given as goal

abbrev pub invariant-loop-object : goal.invariant-loop-object
invariant-loop-object l = first_width (map (stored_data l.file) (drop l.object-index l.objects)) ≡ first_width (map (stored_data l.file) l.objects)
