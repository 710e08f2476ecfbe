use Rattle.std.proofs.Common.{◌∙◌, sym, ap, ℕ, List}
use Rattle.glk_obj.specs.References.{in_range}
use Rattle.glk_obj.specs.Views.{ref_view}
use Rattle.glk_obj.proofs.Laws.{target_of_range}
use Rattle.glk_obj.proofs.view.ObjView.in_range.Goals as goal

pub returns-clause-target : goal.returns-clause-target
returns-clause-target c = λ yes_. target_of_range c.args.self.now c.args.r.pkg c.args.r.sym
    (ap (λ (b : List ℕ). in_range b (ref_view c.args.r)) (sym c.self.view_is) ∙ (sym c.has.ensures ∙ yes_))
