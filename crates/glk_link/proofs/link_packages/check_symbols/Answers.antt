use Rattle.glk_cause.specs.Chain.{fails, holds}
use Rattle.glk_link.specs.Built.{IsBuilt}
use Rattle.glk_link.proofs.Each.{each}
use Rattle.glk_link.proofs.link_packages.check_symbols.Goals as goal

pub returns-in-Some : goal.returns-in-Some
returns-in-Some c =
    let found = rw (c.in-Some.is, c.deref.ensures.value) at c.in_ok-first_unbuilt.ensures in
    fails (λ built. found.1 (each (IsBuilt c.args.world.now) c.args.reached.now.kept.items built c.in-Some.field-0 found.0))

pub returns-in-None : goal.returns-in-None
returns-in-None c = holds (rw (c.in-None.is, c.deref.ensures.value) at c.in_ok-first_unbuilt.ensures)
