use Rattle.std.proofs.Common.{◌≡◌, ◌+◌, ℕ, length, arith, sym, subst}
use Rattle.glk_readings.proofs.OffsetLemmas.{IsRisingTo, rising_more, all_rise}
use Rattle.glk_readings.proofs.offsets.is_rising.Goals as goal

pub loop-i-init : goal.loop-i-init
loop-i-init g c = record { rising = λ k j earlier later below inside a b. absurd (omega arith); next = λ k earlier inside a. absurd (omega arith) }

pub loop-i-preserved : goal.loop-i-preserved
loop-i-preserved g c =
    let relocs = g.R.Relocations.list c.args.relocs.now in
    let P : ℕ → Type 0 = λ least. IsRisingTo relocs (c.loop-i.i + 1) least in
    subst P (sym c.least_next-least.ensures)
    (rising_more relocs c.loop-i.i c.loop-i.least c.reloc-reloc.result c.loop-i.invariant c.reloc-reloc.ensures (omega arith))

pub returns : goal.returns
returns g c =
    let relocs = g.R.Relocations.list c.args.relocs.now in
    let all : c.loop-i.i ≡ length relocs = omega arith in
    let P : ℕ → Type 0 = λ i. IsRisingTo relocs i c.loop-i.least in
    λ yes. all_rise relocs c.loop-i.least (subst P all c.loop-i.invariant)
