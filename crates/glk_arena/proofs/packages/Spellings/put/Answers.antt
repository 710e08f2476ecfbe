use Rattle.std.proofs.Common.{◌∙◌, ap, cond, Some}
use Rattle.std.specs.Str.{bytes_eq}
use Rattle.std.specs.Map.{lookup}
use Rattle.glk_arena.specs.PackageViews.{place_in}
use Rattle.glk_arena.proofs.Tables.{look_inserted}
use Rattle.glk_arena.proofs.PackageLemmas.{put_first}
use Rattle.glk_arena.proofs.packages.Spellings.put.Goals as goal

pub returns : goal.returns
returns c =
    let key = c.in_ok-key.ensures.items_if_clones_equal (λ x y e. e) in
    let entries = c.in_ok-insert.ensures.entries in
    record {
      each = λ name.
          ap (lookup (λ k. bytes_eq name k.items)) entries
          ∙ look_inserted (λ k. k.items) c.args.self.now.refs.entries c.in_ok-key.key c.args.place name
          ∙ ap (λ k. cond (bytes_eq name k) (Some c.args.place) (place_in c.args.self.now name)) key
          ∙ put_first (place_in c.args.self.now) name c.args.spelling.now c.args.place c.requires;
    }
