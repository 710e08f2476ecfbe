use Rattle.std.proofs.Common.{arith}
use Rattle.glk_obj.proofs.LeastOffsets.{first_block, none_more, none_at_all}
use Rattle.glk_obj.proofs.TableFaults.{table_lies}
use Rattle.glk_obj.proofs.tables.bad_entry.Goals as goal

pub returns-in-Some : goal.returns-in-Some
returns-in-Some c = first_block c.args.bytes.now _ _ c.loop-t.t c.in-Some.found c.requires (table_lies c.args.bytes.now c.requires) (omega arith, omega arith) c.loop-t.invariant c.in-Some.ensures

pub loop-t-preserved : goal.loop-t-preserved
loop-t-preserved c = none_more _ _ c.loop-t.t c.loop-t.invariant (λ offset among fault. c.in-None.ensures offset fault)

pub returns : goal.returns
returns c = none_at_all _ _ c.loop-t.t c.loop-t.invariant (λ j among. omega (arith, among.1))
