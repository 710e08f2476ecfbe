use Rattle.std.proofs.Common.{arith}
use Rattle.std.specs.Mem.Slots.{slots_items}
use Rattle.glk_table.specs.Seats.{view_of}
use Rattle.glk_table.proofs.Answering.{closes}
use Rattle.glk_table.proofs.table.KeyTable.close.Goals as goal

pub free-requires : goal.free-requires
free-requires c k h = let count = c.close_with-closed.ensures.counts.1 in let none = c.self.invariant.slotless in absurd (omega arith)

-- what the last step leaves
pub invariant_of-result : goal.invariant_of-result
invariant_of-result c =
    let t = c.self.inside in
    let i = c.self.invariant in
    let s = c.args.seat in
    let v = view_of s in
    let end = rw i.key_is at c.close_with-closed.ensures.values.2 in
    let words = slots_items c.close_with-closed.result.words in
    let done = closes t.size s.id v words (slots_items c.close_with-closed.result.slots) i.small c.requires.whole end in
    rw c.of-last.ensures (record { size = t.size; words = words; elects = done; arrays = c.in_ok-arrays.ensures })

pub returns-clause-places : goal.returns-clause-places
returns-clause-places c =
    let t = c.self.inside in
    let i = c.self.invariant in
    let s = c.args.seat in
    let v = view_of s in
    let end = rw i.key_is at c.close_with-closed.ensures.values.2 in
    let words = slots_items c.close_with-closed.result.words in
    let done = closes t.size s.id v words (slots_items c.close_with-closed.result.slots) i.small c.requires.whole end in
    rw c.of-last.ensures done.calls
