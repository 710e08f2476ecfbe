use Rattle.std.proofs.Common.{◌≡◌, ◌+◌, length, drop}
use Rattle.std.specs.List.{sum_by}
use Rattle.glk_arena.specs.LoadParts.{inputs_by}
use Rattle.glk_arena.proofs.ReadLemmas.{ReadsOn}
use Rattle.glk_arena.proofs.read_files.read_wave.Given as goal

abbrev pub invariant-loop-i : goal.invariant-loop-i
invariant-loop-i g l = record {
  size : l.left + sum_by length l.wave.items ≡ l.limit;
  all : l.from + length l.wave.items ≡ l.i;
  on : ReadsOn (inputs_by l.loader) (g.F.Files.state l.fn.files).contents l.limit l.left (drop l.from l.names) (drop l.i l.names) l.wave.items;
  unchanged : g.F.Files.state l.files ≡ g.F.Files.state l.fn.files;
}
