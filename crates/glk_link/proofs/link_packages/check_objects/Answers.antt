use Rattle.std.proofs.lemmas.Bool.{false≢true}
use Rattle.glk_cause.specs.Chain.{fails, holds}
use Rattle.glk_link.proofs.link_packages.check_objects.Goals as goal

pub returns-then-branch : goal.returns-then-branch
returns-then-branch c = holds (c.in_ok-is_plain.ensures.0 c.if-branch.true)

pub returns : goal.returns
returns c = fails (λ plain. let yes = c.in_ok-is_plain.ensures.1 plain in let no = c.if-branch.false in false≢true cc)
