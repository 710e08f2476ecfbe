use Rattle.std.proofs.Common.{◌≡◌, drop}
use Rattle.glk_objtext.specs.Strings.{inside}
use Rattle.glk_objtext.specs.declared.strings.Inside.TheVariants.{Plain}
use Rattle.glk_objtext.proofs.StringSteps.{behind}
use Rattle.glk_objtext.proofs.strings.read_quoted.Given as goal

abbrev pub invariant-loop-i : goal.invariant-loop-i
invariant-loop-i l = behind l.out.items (inside l.at (drop l.i l.bytes)) ≡ inside Plain l.bytes
