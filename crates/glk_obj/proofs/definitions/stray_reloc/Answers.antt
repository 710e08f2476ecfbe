use Rattle.std.proofs.Common.{◌<◌, arith}
use Rattle.glk_obj.specs.Records.{definitions, reloc_offset}
use Rattle.glk_obj.specs.Rules.{RelocFault}
use Rattle.glk_obj.proofs.LeastOffsets.{first_range, none_more, none_at_all}
use Rattle.glk_obj.proofs.RelocOffsets.{reloc_ranges}
use Rattle.glk_obj.proofs.definitions.stray_reloc.Goals as goal

pub returns-in-Some : goal.returns-in-Some
returns-in-Some c = first_range (definitions c.args.bytes.now) (λ i. reloc_offset c.args.bytes.now i 0) (RelocFault c.args.bytes.now) c.loop-i.i c.in-Some.found (reloc_ranges c.args.bytes.now c.requires.tables) (omega arith) c.loop-i.invariant c.in-Some.ensures

pub loop-i-preserved : goal.loop-i-preserved
loop-i-preserved c = none_more (λ i. i < definitions c.args.bytes.now) (RelocFault c.args.bytes.now) c.loop-i.i c.loop-i.invariant (λ offset among fault. c.in-None.ensures offset fault)

pub returns : goal.returns
returns c = none_at_all (λ i. i < definitions c.args.bytes.now) (RelocFault c.args.bytes.now) c.loop-i.i c.loop-i.invariant (λ j among. omega (arith, among))
