use Rattle.glk_order.specs.Search.{left_over}
use Rattle.glk_order.proofs.Searches.{IsSearching}
use Rattle.glk_order.proofs.search.reaches_itself.Given as goal

abbrev pub invariant-loop-next : goal.invariant-loop-next
invariant-loop-next l = IsSearching l.needs.edges.now l.count l.task l.seen.items l.work.items

abbrev pub decreases-loop-next : goal.decreases-loop-next
decreases-loop-next l = left_over l.seen.items l.work.items
