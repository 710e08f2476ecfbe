use Rattle.std.proofs.Common.{◌≡◌, drop, map}
use Rattle.glk_arena.specs.Stored.{stored_data, first_set}
use Rattle.glk_arena.proofs.stored.first_fingerprint.Given as goal

abbrev pub invariant-loop-object : goal.invariant-loop-object
invariant-loop-object l = first_set (map (stored_data l.file) (drop l.object-index l.objects)) ≡ first_set (map (stored_data l.file) l.objects)
