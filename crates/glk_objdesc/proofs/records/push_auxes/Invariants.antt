use Rattle.std.proofs.Common.{◌≡◌, ◌++◌, drop}
use Rattle.std.specs.Prelude.{flat_map}
use Rattle.glk_objdesc.specs.Canonical.{auxes_bytes}
use Rattle.glk_objdesc.proofs.records.push_auxes.Given as goal

abbrev pub invariant-loop-def : goal.invariant-loop-def
invariant-loop-def l = l.out.items ++ flat_map auxes_bytes (drop l.def-index l.defs) ≡ l.fn.out.items ++ flat_map auxes_bytes l.defs
