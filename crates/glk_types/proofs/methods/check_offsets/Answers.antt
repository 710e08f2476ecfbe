use Rattle.std.proofs.Common.{arith, sym}
use Rattle.glk_types.specs.Methods.{count_of, start_of}
use Rattle.glk_types.proofs.MethodLemmas.{as_many}
use Rattle.glk_types.proofs.methods.check_offsets.Goals as goal

pub returns-in-None-clause-count : goal.returns-in-None-clause-count
returns-in-None-clause-count c =
    omega (arith, as_many (start_of c.args.methods) (count_of c.args.methods) 0 c.args.offsets.now (omega arith) (sym c.in-None.ensures))
