use Rattle.std.proofs.Common.{◌≡◌, ◌++◌, drop}
use Rattle.std.specs.List.{flat_map}
use Rattle.glk_objtext.specs.Text.{texts, def_lines}
use Rattle.glk_objtext.proofs.write.push_defs.Given as goal

abbrev pub invariant-loop-x : goal.invariant-loop-x
invariant-loop-x l = l.out.items ++ texts (flat_map (def_lines l.block) (drop l.x-index l.xs)) ≡ l.fn.out.items ++ texts (flat_map (def_lines l.block) l.xs)
