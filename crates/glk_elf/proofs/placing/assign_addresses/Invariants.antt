use Rattle.std.proofs.Common.{◌≡◌, ◌+◌, ◌-◌, ◌*◌, ◌≤◌, length, take, sum, get_or}
use Rattle.glk_elf.specs.Placing.{text_start}
use Rattle.glk_elf.proofs.PlacingLemmas.{FollowTo}
use Rattle.glk_elf.proofs.placing.assign_addresses.Given as goal

abbrev pub invariant-loop-index : goal.invariant-loop-index
invariant-loop-index l = record {
  some : 1 ≤ l.index;
  sized : length l.sizes ≡ 11;
  eleven : length l.addrs ≡ 11;
  text_at : get_or l.addrs 0 0 ≡ text_start;
  follow : FollowTo l.sizes l.addrs l.index;
  bound : get_or l.addrs (l.index - 1) 0 ≤ text_start + sum (take (l.index - 1) l.sizes) + 4096 * (l.index - 1);
}
