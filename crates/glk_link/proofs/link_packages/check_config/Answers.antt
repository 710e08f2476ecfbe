use Rattle.std.proofs.Common.{refl}
use Rattle.std.proofs.lemmas.Bool.{false≢true}
use Rattle.glk_cause.specs.Chain.{fails, holds}
use Rattle.glk_link.proofs.link_packages.check_config.Goals as goal

pub returns-then-is_known : goal.returns-then-is_known
returns-then-is_known c = holds ((c.if-is_known.ensures c.args.entry.now).0 refl)

pub returns : goal.returns
returns c = fails (λ known. false≢true ((c.if-is_known.ensures c.args.entry.now).1 known))
