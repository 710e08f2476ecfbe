use Rattle.std.proofs.Common.{◌≡◌, map}
use Rattle.std.specs.List.{range_with_len}
use Rattle.glk_gen.specs.Draws.{state_after}
use Rattle.glk_gen.specs.Calls.{callee}
use Rattle.glk_gen.proofs.calls.draw_callees.Given as goal

abbrev pub invariant-loop-call : goal.invariant-loop-call
invariant-loop-call l = record {
  state : l.state ≡ state_after l.seed l._call;
  callees : l.callees.items ≡ map (callee l.seed l.n) (range_with_len 0 l._call);
}
