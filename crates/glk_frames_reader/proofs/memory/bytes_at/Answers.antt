use Rattle.std.proofs.Common.{sym, inl, arith}
use Rattle.glk_frames_reader.proofs.MemoryLemmas.{none_far}
use Rattle.glk_frames_reader.proofs.memory.bytes_at.Goals as goal

pub returns-then-addr-clause-value : goal.returns-then-addr-clause-value
returns-then-addr-clause-value c = sym (none_far c.args.view.now c.args.addr c.args.len c.symbols.ensures.elf (inl (omega arith)))
