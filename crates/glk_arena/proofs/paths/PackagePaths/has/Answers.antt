use Rattle.std.proofs.Common.{◌∙◌, sym, ap}
use Rattle.std.specs.List.{list_any}
use Rattle.std.specs.Str.{bytes_eq}
use Rattle.glk_arena.proofs.PathLemmas.{any_map}
use Rattle.glk_arena.proofs.paths.PackagePaths.has.Goals as goal

pub returns : goal.returns
returns c = c.contains.ensures ∙ sym (any_map (bytes_eq c.args.path.now) (λ p. p.items) c.self.inside.paths.keys) ∙ ap (list_any (bytes_eq c.args.path.now)) c.self.view_is
