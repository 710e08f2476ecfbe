use Rattle.std.proofs.Common.{arith}
use Rattle.std.proofs.lemmas.Grind.{common_steps}
use Rattle.glk_io.proofs.PathLemmas.{found_below, found_bytes}
use Rattle.glk_io.proofs.memory.MemFiles.get.Goals as goal

pub index-requires : goal.index-requires
index-requires c =
    let below = found_below _ _ _ c.in_ok-i.ensures in
    grind (arith, common_steps, below)

pub returns : goal.returns
returns c =
    let there = found_bytes _ _ _ c.index.result.now c.in_ok-i.ensures in
    grind (arith, common_steps, there)
