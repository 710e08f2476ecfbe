use Rattle.std.proofs.Common.{◌∙◌, sym, ap}
use Rattle.glk_arena.specs.Imports.{package_fingerprint}
use Rattle.glk_arena.proofs.StoredLemmas.{package_print}
use Rattle.glk_arena.proofs.stored.LoadedPackage.fingerprint.Goals as goal

pub returns : goal.returns
returns c = c.self.invariant.print_is ∙ sym (package_print _) ∙ ap package_fingerprint c.self.view_is
