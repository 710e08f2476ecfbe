use Rattle.std.proofs.Common.{◌+◌, arith}
use Rattle.glk_arena.proofs.StoredLemmas.{symbols_more, symbols_all, front_rows, package_rows}
use Rattle.glk_arena.proofs.stored.LoadedPackage.symbols.Goals as goal

pub overflow_add-symbols : goal.overflow_add-symbols
overflow_add-symbols c =
    let sum = symbols_more c.args.self.now c.loop-i.i c.loop-i.symbols c.object.result c.symbols-symbols.result (omega (arith, c.loop-i-test.true, c.objects-i-end.ensures)) c.loop-i.invariant c.object.ensures.value c.symbols-symbols.ensures.value in
    let front = front_rows c.args.self.now (c.loop-i.i + 1) in
    let most = package_rows c.args.self.now c.requires.whole in
    omega (arith, sum, front, most, c.requires.small)

pub loop-i-preserved : goal.loop-i-preserved
loop-i-preserved c = symbols_more c.args.self.now c.loop-i.i c.loop-i.symbols c.object.result c.symbols-symbols.result (omega (arith, c.loop-i-test.true, c.objects-i-end.ensures)) c.loop-i.invariant c.object.ensures.value c.symbols-symbols.ensures.value

pub returns : goal.returns
returns c = symbols_all c.args.self.now c.loop-i.i c.loop-i.symbols (omega (arith, c.loop-i-test.false, c.objects-i-end.ensures)) c.loop-i.invariant
