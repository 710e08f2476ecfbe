use Rattle.std.proofs.Common.{◌+◌, ◌-◌, length, ap, inr, sym, arith}
use Rattle.glk_frames_reader.proofs.MemoryLemmas.{none_far}
use Rattle.glk_frames_reader.proofs.memory.bytes_up_to.Goals as goal

pub returns-then-size-bytes : goal.returns-then-size-bytes
returns-then-size-bytes c = sym (none_far c.args.view.now c.args.from (c.args.start + c.args.len - c.args.from) c.symbols.ensures.elf (inr (omega (arith, ap (length) c.bytes.ensures))))
