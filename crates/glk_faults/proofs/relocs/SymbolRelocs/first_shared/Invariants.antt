use Rattle.std.proofs.Common.{◌≡◌, ◌<◌, ◌^◌, ℕ, false}
use Rattle.glk_obj.specs.Records.{field_start}
use Rattle.glk_faults.specs.Taken.{AreTaken}
use Rattle.glk_reach.specs.RelocFaults.{reloc_in, shares_byte_with_earlier}
use Rattle.glk_faults.proofs.relocs.SymbolRelocs.first_shared.Given as goal

abbrev pub invariant-loop-i : goal.invariant-loop-i
invariant-loop-i l = record {
  met : AreTaken l.self.merged.now.program l.self.key l.i l.taken;
  apart : (j : ℕ) → j < l.i → shares_byte_with_earlier l.self.merged.now.program l.self.key j ≡ false;
  small : (j : ℕ) → j < l.i → field_start (reloc_in l.self.merged.now.program l.self.key j) < 2 ^ 32;
}
