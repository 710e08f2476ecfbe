use Rattle.std.proofs.Common.{subst}
use Rattle.glk_table.specs.Elections.{Election}
use Rattle.glk_table.specs.Rule.{OnePlaceEach}
use Rattle.glk_table.proofs.elected.Elected.one_place_each.Goals as goal

pub returns : goal.returns
returns c = subst (λ (e : Election). OnePlaceEach e.keys e.entered) c.self.view_is c.self.invariant.elects.calls
