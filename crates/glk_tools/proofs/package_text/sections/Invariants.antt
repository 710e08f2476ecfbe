use Rattle.std.proofs.Common.{◌≡◌, take}
use Rattle.glk_tools.specs.PackageText.{sections_of}
use Rattle.glk_tools.proofs.package_text.sections.Given as goal

abbrev pub invariant-loop-object : goal.invariant-loop-object
invariant-loop-object l = l.text.items ≡ sections_of (take l.object-index l.entries)
