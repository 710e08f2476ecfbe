use Rattle.std.proofs.Common.{◌<◌, length, sym, arith}
use Rattle.glk_keys.specs.Relocations.{relocs_of, no_reloc}
use Rattle.glk_keys.specs.Rows.{row_count}
use Rattle.glk_reach.specs.Effects.{reloc_read}
use Rattle.glk_effects.proofs.Added.{none, add_found, add_none, add_all}
use Rattle.glk_effects.proofs.program.ReadProgram.push_relocs.Goals as goal

pub loop-i-init : goal.loop-i-init
loop-i-init c = none (row_count c.args.self.now.merged.now.program) c.args.out.now.items

pub loop-i-preserved-in_default : goal.loop-i-preserved-in_default
loop-i-preserved-in_default c =
    let p = c.args.self.now.merged.now.program in
    let inside : c.loop-i.i < length (relocs_of p c.args.id.0) = omega arith in
    add_none (reloc_read p c.args.key c.args.id.0) (relocs_of p c.args.id.0) no_reloc c.loop-i.i inside (row_count p) c.args.out.now.items c.loop-i.out.items c.loop-i.invariant (sym c.in_default.ensures.value)

pub loop-i-preserved : goal.loop-i-preserved
loop-i-preserved c =
    let p = c.args.self.now.merged.now.program in
    let inside : c.loop-i.i < length (relocs_of p c.args.id.0) = omega arith in
    add_found (reloc_read p c.args.key c.args.id.0) (relocs_of p c.args.id.0) no_reloc c.loop-i.i inside (row_count p) c.args.out.now.items c.loop-i.out.items c.loop-i.invariant c.push.new.self.items c.in-Some.effect c.in_ok-push.ensures.items (sym c.in-Some.ensures.value) c.in-Some.ensures.within

pub returns : goal.returns
returns c =
    let p = c.args.self.now.merged.now.program in
    add_all (reloc_read p c.args.key c.args.id.0) (relocs_of p c.args.id.0) c.loop-i.i (row_count p) c.args.out.now.items c.loop-i.out.items (omega arith) c.loop-i.invariant
