use Rattle.std.proofs.Common.{◌*◌, ◌/◌, ◌-◌, ◌≤◌, ◌∙◌, length-set, arith}
use Rattle.std.proofs.Math.Nat.{div-mul-le_self}
use Rattle.glk_obj.specs.NulIndex.{IsNextNul}
use Rattle.glk_obj.proofs.NulOffsets.{next_before, chunk_noted}
use Rattle.glk_obj.proofs.nul_index.fill_nul_index.Goals.{in-Some, in_default}
use Rattle.glk_obj.proofs.nul_index.fill_nul_index.Goals as goal

pub loop-end-preserved : goal.loop-end-preserved
loop-end-preserved c =
    let bytes = c.args.bytes.now in
    let old = c.loop-end.invariant in
    let begins : (c.loop-end.end - 1) / c.args.width * c.args.width ≤ c.loop-end.end - 1 = div-mul-le_self (c.loop-end.end - 1) c.args.width in
    let next : IsNextNul c.args.bytes.now ((c.loop-end.end - 1) / c.args.width * c.args.width) c.match-first_nul.next =
    elim c.match-first_nul.branch [
      | in-Some w ↦ rw w.next-is w.in-Some.ensures.0
      | in_default w ↦ rw w.next-is (next_before bytes _ c.loop-end.end c.loop-end.next (omega (arith, begins)) w.in_default.ensures old.next)
    ] in
    record {
      inside = omega (arith, begins, old.inside);
      same = length-set c.loop-end.table ((c.loop-end.end - 1) / c.args.width) c.match-first_nul.next ∙ old.same;
      next = next;
      each = chunk_noted bytes c.loop-end.table c.args.width c.loop-end.end c.match-first_nul.next c.requires.positive c.loop-end-test.true old.inside (rw old.same c.requires.whole) next old.each;
    }
