use Rattle.std.proofs.Common.{List, ℕ, subst, sym}
use Rattle.glk_pending.specs.Writing.{WritesAfter}
use Rattle.glk_pending.proofs.WritingLemmas.{long_writes}
use Rattle.glk_pending.proofs.pending.Pending.write_through.Goals as goal

pub returns-then-text-gt-ROOM : goal.returns-then-text-gt-ROOM
returns-then-text-gt-ROOM g c =
    let P : List ℕ → Type 0 = λ pending.
    WritesAfter (g.O.Sink.state c.args.out.now) (g.O.Sink.state c.write_all.new.sink) c.args.self.now pending c.args.text.now c.write_all.result in
    subst P (sym c.in_ok-flush.ensures.none)
    (long_writes _ _ _ c.args.self.now c.args.text.now c.write_all.result c.in_ok-flush.ensures.whole c.write_all.ensures.whole c.write_all.ensures.prefix)
