use Rattle.std.proofs.Common.{◌≡◌, ◌-◌, length}
use Rattle.glk_arena.specs.World.{package_limit}
use Rattle.glk_arena.specs.LoadParts.{inputs_of}
use Rattle.glk_arena.specs.WaveLoop.{IsLoading}
use Rattle.glk_arena.proofs.waves.load_waves.Given as goal

abbrev pub invariant-waves : goal.invariant-waves
invariant-waves g l = record {
  loading : IsLoading (inputs_of l.main l.config) (g.F.Files.state l.fn.files).contents l.loading;
  unchanged : g.F.Files.state l.files ≡ g.F.Files.state l.fn.files;
}

abbrev pub decreases-waves : goal.decreases-waves
decreases-waves g l = package_limit - length l.loading.list
