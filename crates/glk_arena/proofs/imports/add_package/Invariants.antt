use Rattle.glk_arena.proofs.ImportRefLemmas.{ArePlacesUpTo}
use Rattle.glk_arena.proofs.imports.add_package.Given as goal

abbrev pub invariant-loop-object : goal.invariant-loop-object
invariant-loop-object l = ArePlacesUpTo l.list l.p l.object l.refs.items
