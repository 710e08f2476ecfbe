use Rattle.std.proofs.Common.{length, sym, ap, ◌∙◌}
use Rattle.glk_faults.proofs.Lookups.{key_relocs_are}
use Rattle.glk_faults.proofs.relocs.SymbolRelocs.count.Goals as goal

pub returns : goal.returns
returns c = let s = c.args.self.now in c.relocs.ensures ∙ sym (ap length (key_relocs_are s.merged.now.program s.key s.id.0 s.chosen))
