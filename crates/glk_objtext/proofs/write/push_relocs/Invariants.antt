use Rattle.std.proofs.Common.{◌≡◌, ◌++◌, drop, map}
use Rattle.glk_objtext.specs.Text.{texts}
use Rattle.glk_objtext.specs.declared.line.Line.TheVariants.{Relocation}
use Rattle.glk_objtext.proofs.write.push_relocs.Given as goal

abbrev pub invariant-loop-x : goal.invariant-loop-x
invariant-loop-x l = l.out.items ++ texts (map Relocation (drop l.x-index l.xs)) ≡ l.fn.out.items ++ texts (map Relocation l.xs)
