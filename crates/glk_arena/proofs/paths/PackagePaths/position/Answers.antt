use Rattle.std.proofs.Common.{◌∙◌, sym, ap}
use Rattle.std.specs.List.{position}
use Rattle.std.specs.Str.{bytes_eq}
use Rattle.glk_arena.proofs.PathLemmas.{position_map}
use Rattle.glk_arena.proofs.paths.PackagePaths.position.Goals as goal

pub returns : goal.returns
returns c = c.get_index_of.ensures.index ∙ sym (position_map (bytes_eq c.args.path.now) (λ p. p.items) c.self.inside.paths.keys) ∙ ap (position (bytes_eq c.args.path.now)) c.self.view_is
