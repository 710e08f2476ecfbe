use Rattle.std.proofs.Common.{sym}
use Rattle.std.specs.Str.{bytes_eq}
use Rattle.glk_arena.proofs.PathLemmas.{among_first, among_none}
use Rattle.glk_arena.proofs.paths.PackagePaths.has_before.Goals as goal

pub returns-in-Some : goal.returns-in-Some
returns-in-Some c = sym (among_first (bytes_eq c.args.path.now) c.args.end c.args.self.now c.in-Some.p c.in-Some.ensures)

pub returns-in-None : goal.returns-in-None
returns-in-None c = sym (among_none (bytes_eq c.args.path.now) c.args.end c.args.self.now c.in-None.ensures)
