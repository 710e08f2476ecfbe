use Rattle.std.proofs.Common.{ℕ, Option, sym, ap, ◌∙◌}
use Rattle.std.specs.Option.{option_map}
use Rattle.glk_faults.proofs.CleanFaults.{clean_fault}
use Rattle.glk_faults.proofs.relocs.SymbolRelocs.first_fault.Goals as goal

pub returns-in-Some : goal.returns-in-Some
returns-in-Some c =
    let s = c.args.self.now in
    let told : Option ℕ → Option (ℕ × ℕ) = λ o. option_map (λ i. (3, i)) o in
    sym (clean_fault s.merged.now.program s.key (c.are_clean.ensures c.if-not-are_clean.false) ∙ ap told (sym c.in-Some.ensures))

pub returns-in-None : goal.returns-in-None
returns-in-None c =
    let s = c.args.self.now in
    let told : Option ℕ → Option (ℕ × ℕ) = λ o. option_map (λ i. (3, i)) o in
    sym (clean_fault s.merged.now.program s.key (c.are_clean.ensures c.if-not-are_clean.false) ∙ ap told (sym c.in-None.ensures))
