use Rattle.std.proofs.Common.{◌≡◌, ℕ, ◌<◌, List, [], length, get_or, sym, ◌∙◌, subst}
use Rattle.std.proofs.lemmas.List.{get_or_default}
use Rattle.glk_obj.specs.Object.{IsObject}
use Rattle.glk_keys.proofs.objects.Objects.object.Goals as goal

pub returns-clause-object : goal.returns-clause-object
returns-clause-object c =
    let P : List (List ℕ) → Type 0 = λ o. c.args.n < length o in
    let inside : c.args.n < length c.self.inside.views.items = subst P (sym c.self.view_is) c.requires in
    let is : c.index.result.now ≡ get_or c.self.inside.views.items c.args.n [] = c.index.ensures ∙ get_or_default c.self.inside.views.items c.args.n c.index.result.now [] inside in
    subst IsObject (sym is) (c.self.invariant.tables.checked c.args.n inside)
