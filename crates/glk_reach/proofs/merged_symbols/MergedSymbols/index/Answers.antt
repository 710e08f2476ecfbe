use Rattle.std.proofs.Common.{sym, subst}
use Rattle.glk_keys.specs.Programs.{Program}
use Rattle.glk_readings.specs.Offsets.{IsIndexOf}
use Rattle.glk_reach.specs.Chosen.{relocations_of}
use Rattle.glk_reach.proofs.IndexLaws.{serves_all, found_one}
use Rattle.glk_reach.proofs.merged_symbols.MergedSymbols.index.Goals as goal

pub returns-in-Some : goal.returns-in-Some
returns-in-Some c =
    found_one c.self.inside.merged.now.program c.args.self.now c.self.inside.indices c.self.inside.rising c.args.key c.in-Some.index.now c.self.view_is c.self.invariant (sym c.in-Some.ensures.value)

pub returns-in-None : goal.returns-in-None
returns-in-None c =
    serves_all c.self.inside.merged.now.program c.args.self.now c.self.inside.indices c.self.inside.rising c.args.key c.self.view_is c.self.invariant c.requires (sym c.in-None.ensures.value)
