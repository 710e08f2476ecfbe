use Rattle.std.proofs.Common.{◌≡◌, ◌∙◌, false, get_or, refl, sym}
use Rattle.glk_closure.specs.declared.marks.Marks.{Marks}
use Rattle.glk_closure.proofs.Growth.{Adds-keep}
use Rattle.glk_closure.proofs.marks.Marks.keep.Goals as goal

pub returns : goal.returns
returns c =
    let old : Marks = c.args.self.now in
    let e : get_or old.kept c.args.key false ≡ false = sym c.has.ensures ∙ c.if-has.false in
    Adds-keep old (record old { kept = c.mark.new.self; work = c.push.new.self }) c.args.key e c.requires c.mark.ensures refl c.in_ok-push.ensures.items (record { calls = refl; rows = refl })
