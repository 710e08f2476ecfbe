use Rattle.std.proofs.Common.{to_z, of_z, w64}
use Rattle.glk_readings.specs.Readings.{InterfaceMethod}
use Rattle.glk_effects.proofs.Within.{imethod_key}
use Rattle.glk_effects.proofs.program.ReadProgram.call.Goals as goal

pub returns-in-Ok-clause-within : goal.returns-in-Ok-clause-within
returns-in-Ok-clause-within c =
    let m : InterfaceMethod = record { name = c.in-Ok.method.name.now; of = c.in-Ok.method.of } in
    imethod_key c.args.self.now.merged.now.program c.args.self.now.symbols c.in_ok-t.t (to_z w64 (of_z w64 c.args.addend)) m c.args.self.now.same c.in-Ok.ensures
