use Rattle.std.proofs.Common.{◌≡◌, List, [], sym, subst}
use Rattle.std.specs.Prelude.{IfOk}
use Rattle.glk_readings.specs.Offsets.{IsIndexOf}
use Rattle.glk_readings.specs.declared.offsets.OffsetIndex.{OffsetIndex}
use Rattle.glk_readings.specs.declared.symbols.Relocation.{Relocation}
use Rattle.glk_reach.proofs.IndexLaws.{serves, none_rise}
use Rattle.glk_reach.proofs.indices.key_index.Goals as goal

pub returns-in-Some : goal.returns-in-Some
returns-in-Some c =
    let P : List Relocation → Type 0 = λ relocs. IfOk c.new.result (λ (index : OffsetIndex). IsIndexOf relocs index) in
    subst P c.in-Some.ensures.list c.new.ensures

pub returns-in-None : goal.returns-in-None
returns-in-None c =
    let P : List Relocation → Type 0 = λ relocs. IsIndexOf relocs c.rising.result in
    subst P (sym c.in-None.ensures.list) (serves [] c.rising.result c.rising.ensures none_rise)
