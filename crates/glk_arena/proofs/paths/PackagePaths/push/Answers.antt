use Rattle.std.proofs.Common.{◌∙◌, ◌++◌, ◌∷◌, [], sym, ap, map, cond}
use Rattle.std.specs.Str.{bytes_eq}
use Rattle.std.specs.List.{list_any}
use Rattle.std.proofs.lemmas.List.{map-append}
use Rattle.glk_arena.proofs.PathLemmas.{any_map}
use Rattle.glk_arena.proofs.paths.PackagePaths.push.Goals as goal

pub returns : goal.returns
returns c =
    let key = c.in_ok-path.ensures.items_if_clones_equal (λ x y e. e) in
    let keys = c.in_ok-insert.ensures.keys in
    let new = sym (any_map (bytes_eq c.in_ok-path.path.items) (λ p. p.items) c.self.inside.paths.keys) ∙ ap (list_any (bytes_eq c.in_ok-path.path.items)) c.self.view_is ∙ ap (λ k. list_any (bytes_eq k) c.args.self.now) key ∙ c.requires in
    ap (map (λ p. p.items)) (keys ∙ ap (λ b. cond b c.self.inside.paths.keys (c.self.inside.paths.keys ++ c.in_ok-path.path ∷ [])) new) ∙ map-append (λ p. p.items) c.self.inside.paths.keys (c.in_ok-path.path ∷ []) ∙ ap (λ l. l ++ c.in_ok-path.path.items ∷ []) c.self.view_is ∙ ap (λ k. c.args.self.now ++ k ∷ []) key
