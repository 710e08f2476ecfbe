use Rattle.std.proofs.Common.{sym, ap, ◌∙◌}
use Rattle.glk_obj.specs.Records.{Symbol}
use Rattle.glk_merge.specs.Clashes.{clash_view}
use Rattle.glk_merge.proofs.ClashRows.{first_clash_defines}
use Rattle.glk_merge.proofs.merging.named.Goals as goal

pub returns : goal.returns
returns c =
    let defined = first_clash_defines c.args.rows.now (clash_view c.args.clash) (sym c.requires.first) in
    record {
      clash = sym c.requires.first;
      name = c.in_ok-name.ensures ∙ ap (λ (s : Symbol). s.name) c.row.ensures;
      first_defines = defined.first;
      second_defines = defined.second;
    }
