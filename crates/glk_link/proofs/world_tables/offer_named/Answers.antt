use Rattle.std.proofs.Common.{sym, ap, ◌∙◌}
use Rattle.glk_link.specs.Targets.{offer_of}
use Rattle.glk_link.proofs.world_tables.offer_named.Goals as goal

pub returns-in-None : goal.returns-in-None
unfolding offer_of
returns-in-None c = ap (λ o. offer_of c.args.loaded.now o) (sym c.in-None.is ∙ c.find_package.ensures)
