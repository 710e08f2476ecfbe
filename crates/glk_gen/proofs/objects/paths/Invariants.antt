use Rattle.std.proofs.Common.{◌≡◌, map, take}
use Rattle.glk_gen.specs.Packages.{package_path}
use Rattle.glk_gen.proofs.objects.paths.Given as goal

abbrev pub invariant-loop-package : goal.invariant-loop-package
invariant-loop-package l = l.paths.items ≡ map package_path (take l.package-index l.packages)
