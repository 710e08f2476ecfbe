use Rattle.std.proofs.Common.{◌<◌, length, get_or, sym, ap, ◌∙◌, arith}
use Rattle.std.proofs.lemmas.List.{get_or-map, length-map}
use Rattle.glk_keys.specs.MadeNames.{MadeName}
use Rattle.glk_keys.specs.MadeViews.{made_view, no_made}
use Rattle.glk_keys.specs.RowLaws.{count_made}
use Rattle.std.specs.Prelude.{List}
use Rattle.glk_keys.proofs.made_names.nth.Goals as goal

pub bounds-table-k : goal.bounds-table-k
bounds-table-k c =
    let counted = count_made in
    let same = ap (λ (l : List MadeName). length l) c.requires.table in
    let long = length-map c.args.table.now made_view in
    let inside = c.requires.index in
    omega arith

pub returns : goal.returns
returns c =
    let counted = count_made in
    let same = ap (λ (l : List MadeName). length l) c.requires.table in
    let long = length-map c.args.table.now made_view in
    let index = c.requires.index in
    let inside : c.args.k < length c.args.table.now = omega arith in
    sym (get_or-map made_view c.args.table.now c.args.k _ no_made inside) ∙ ap (λ (l : List MadeName). get_or l c.args.k no_made) c.requires.table
