use Rattle.std.proofs.Common.{◌≡◌, ◌++◌, drop}
use Rattle.glk_objdesc.specs.FirstUse.{concat_of}
use Rattle.glk_objdesc.specs.Views.{texts_of}
use Rattle.glk_objdesc.proofs.pool.push_strings.Given as goal

abbrev pub invariant-loop-string : goal.invariant-loop-string
invariant-loop-string l = l.out.items ++ concat_of (texts_of (drop l.string-index l.strings)) ≡ l.fn.out.items ++ concat_of (texts_of l.strings)
