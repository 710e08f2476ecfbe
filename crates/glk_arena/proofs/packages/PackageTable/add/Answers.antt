use Rattle.std.proofs.Common.{◌≡◌, ◌∙◌, ℕ, List, ap, cond, Some, None}
use Rattle.std.specs.Option.{option_or}
use Rattle.std.specs.Str.{bytes_eq}
use Rattle.glk_base.specs.Paths.{escaped_spelling}
use Rattle.glk_arena.specs.PackageViews.{place_in}
use Rattle.glk_arena.proofs.PackageLemmas.{path_more, escaped_more}
use Rattle.glk_arena.proofs.packages.PackageTable.add.Goals as goal

pub returns : goal.returns
returns c = λ paths long table.
    let path : List ℕ = c.args.path.now in
    let spelled : c.as_bytes.result.now ≡ escaped_spelling path = c.as_bytes.ensures ∙ c.in_ok-spelling.ensures in
    record {
      plain = λ name. path_more paths path c.args.place name _ _ long (table.plain name) (c.in_ok-add.ensures.each name);
      escaped = λ name. escaped_more paths path c.args.place name _ _ long (table.escaped name)
          (c.in_ok-add-2.ensures.each name ∙ ap (λ (l : List ℕ). option_or (place_in c.args.self.now.escaped name) (cond (bytes_eq name l) (Some c.args.place) None)) spelled);
    }
