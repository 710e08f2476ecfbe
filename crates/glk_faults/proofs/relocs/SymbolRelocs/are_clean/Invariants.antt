use Rattle.glk_faults.specs.Rules.{AreClean, AreBefore}
use Rattle.glk_faults.proofs.relocs.SymbolRelocs.are_clean.Given as goal

abbrev pub invariant-loop-i : goal.invariant-loop-i
invariant-loop-i l = record {
  clean : AreClean l.self.merged.now.program l.self.key l.i;
  before : AreBefore l.self.merged.now.program l.self.key l.i l.end;
}
