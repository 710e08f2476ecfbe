use Rattle.std.proofs.Common.{◌≡◌, ◌++◌, drop}
use Rattle.std.specs.List.{flat_map}
use Rattle.glk_objtext.specs.Strings.{byte_escape}
use Rattle.glk_objtext.proofs.strings.push_all_escaped.Given as goal

abbrev pub invariant-loop-b : goal.invariant-loop-b
invariant-loop-b l = l.out.items ++ flat_map byte_escape (drop l.b-index l.bytes) ≡ l.fn.out.items ++ flat_map byte_escape l.bytes
