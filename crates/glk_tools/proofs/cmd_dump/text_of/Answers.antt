use Rattle.std.proofs.Common.{ℕ, List, Vec, Err, subst}
use Rattle.std.specs.declared.alloc.Global.{Global}
use Rattle.glk_base.specs.declared.fault.Fault.{Fault}
use Rattle.glk_cause.specs.Chain.{Answers}
use Rattle.glk_package.specs.declared.refusal.PackageBad.{PackageBad}
use Rattle.glk_package.specs.ObjectRules.{any_rules}
use Rattle.glk_package.specs.Package.{IsRefusalOf}
use Rattle.glk_tools.specs.Dump.{IsTextOf}
use Rattle.glk_tools.proofs.DumpSteps.{refused}
use Rattle.glk_tools.proofs.cmd_dump.text_of.Goals as goal

pub returns-in-Err-Bad : goal.returns-in-Err-Bad
returns-in-Err-Bad c =
    let broken = c.in-Err-Bad.broken in
    let R : Fault PackageBad → Type 0 = λ f. IsRefusalOf any_rules c.args.file.now f in
    let text = subst R c.in-Err-Bad.field-0-is c.in-Err-Bad.ensures.fault in
    let A : List ℕ → Type 0 = λ path. Answers (IsTextOf path c.args.file.now) (λ (text : Vec ℕ Global). text.items) (Err c.package_refusal.result) in
    subst A c.as_bytes.ensures.value (refused c.as_bytes.result.now c.args.file.now broken c.package_refusal.result text c.package_refusal.ensures)
