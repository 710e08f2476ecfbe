use Rattle.std.proofs.Common.{◌≡◌, ◌∙◌, ℕ, List, Option, Some, None, ap, sym}
use Rattle.std.specs.List.{position}
use Rattle.std.specs.Str.{bytes_eq}
use Rattle.glk_arena.specs.World.{Package, paths_of}
use Rattle.glk_arena.specs.Imports.{package_fingerprint}
use Rattle.glk_arena.specs.ImportRefs.{no_package}
use Rattle.glk_arena.proofs.PathLemmas.{position_map, find_found}
use Rattle.glk_arena.proofs.ImportLemmas.{print_found, print_none}
use Rattle.glk_arena.proofs.imports.fingerprint_of.Goals as goal

-- the place among packages
place_among : (world : List Package) (names : List (List ℕ)) (path : List ℕ) (o : Option ℕ) → paths_of world ≡ names → o ≡ position (bytes_eq path) names → o ≡ position (λ p. bytes_eq path p.path) world
place_among world names path o same is = is ∙ ap (position (bytes_eq path)) (sym same) ∙ position_map (bytes_eq path) (λ p. p.path) world

pub package-requires : goal.package-requires
package-requires c =
    let place = place_among c.args.list.now c.args.names.now c.args.path.now (Some c.in-Some.p) c.requires c.in-Some.ensures in
    (find_found (λ p. bytes_eq c.args.path.now p.path) c.args.list.now no_package c.in-Some.p place).0

pub returns-in-Some : goal.returns-in-Some
returns-in-Some c =
    let place = place_among c.args.list.now c.args.names.now c.args.path.now (Some c.in-Some.p) c.requires c.in-Some.ensures in
    c.fingerprint.ensures ∙ ap package_fingerprint (c.package.ensures no_package) ∙ sym (print_found c.args.list.now c.args.path.now c.in-Some.p place)

pub returns-in-None : goal.returns-in-None
returns-in-None c =
    let place = place_among c.args.list.now c.args.names.now c.args.path.now None c.requires c.in-None.ensures in
    sym (print_none c.args.list.now c.args.path.now place)
