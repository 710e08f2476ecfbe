use Rattle.std.proofs.Common.{◌≡◌, ◌<◌, ℕ, List, length, take, Option, Some, None, Ok, IfSome, Vec, option_map, arith}
use Rattle.std.specs.declared.alloc.Global.{Global}
use Rattle.std.proofs.lemmas.Grind.{common_steps}
use Rattle.glk_io.specs.Files.{ReadsUpTo}
use Rattle.glk_system.proofs.reading.read_up_to.Goals as goal

-- fewer bytes than the limit are all bytes
all_of : (left : Option (List ℕ)) (limit max : ℕ) (bytes : Vec ℕ Global)
    → IfSome (option_map (take limit) left) (λ xs. bytes.items ≡ xs) → length bytes.items < limit
    → ReadsUpTo left max (Ok bytes)
all_of None limit max bytes is lt = tt
all_of (Some xs) limit max bytes is lt = grind (arith, common_steps)

pub returns-in-Ok-2-clause-whole : goal.returns-in-Ok-2-clause-whole
returns-in-Ok-2-clause-whole g c =
    let read = rw (c.in-Ok.ensures.items, c.take.ensures.inner) at c.in-Ok-2.ensures.bytes in
    let below : length c.read_to_end.new.buf.items < c.take.result.limit = grind (arith, common_steps) in
    all_of (g.S.Read.remaining c.args.file) c.take.result.limit c.args.max c.read_to_end.new.buf read below
