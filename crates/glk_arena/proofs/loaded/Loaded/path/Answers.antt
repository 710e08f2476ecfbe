use Rattle.std.proofs.Common.{◌∙◌, [], ap, sym}
use Rattle.std.proofs.lemmas.List.{get_or-map}
use Rattle.glk_arena.specs.ImportRefs.{no_package}
use Rattle.glk_arena.proofs.loaded.Loaded.path.Goals as goal

pub returns : goal.returns
returns c = c.path.ensures ∙ ap (λ p. p.path) (c.package.ensures no_package) ∙ sym (get_or-map (λ p. p.path) c.args.self.now c.args.p no_package [] c.requires)
