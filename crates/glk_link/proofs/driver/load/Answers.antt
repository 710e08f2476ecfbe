use Rattle.std.proofs.Common.{refl}
use Rattle.glk_link.proofs.LinkAnswers.{unsupported_load}
use Rattle.glk_link.proofs.driver.load.Goals as goal

pub returns-then-asks_unbuilt : goal.returns-then-asks_unbuilt
returns-then-asks_unbuilt g c = unsupported_load (g.F.Files.state c.args.files.now) c.args.opts.now (c.if-asks_unbuilt.ensures.0 refl)
