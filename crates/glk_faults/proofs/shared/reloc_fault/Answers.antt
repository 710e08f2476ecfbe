use Rattle.std.proofs.Common.{◌≡◌, ℕ, Option, sym, subst}
use Rattle.std.specs.Prelude.{IfOk}
use Rattle.glk_reach.specs.RelocFaults.{reloc_fault}
use Rattle.glk_faults.proofs.CleanFaults.{no_fault}
use Rattle.glk_faults.proofs.shared.reloc_fault.Goals as goal

pub returns-in-Some : goal.returns-in-Some
returns-in-Some c =
    let e : reloc_fault c.new.result.merged.now.program c.new.result.key ≡ reloc_fault c.args.merged.now.program c.args.key = (λ z. reloc_fault (c.new.ensures.program z) (c.new.ensures.key z)) in
    let P : Option (ℕ × ℕ) → Type 0 = λ f. IfOk c.first_fault.result (λ (x : Option (ℕ × ℕ)). x ≡ f) in
    subst P e c.first_fault.ensures

pub returns-in-None : goal.returns-in-None
returns-in-None c = sym (no_fault c.args.merged.now.program c.args.key (sym c.in-None.ensures.value))
