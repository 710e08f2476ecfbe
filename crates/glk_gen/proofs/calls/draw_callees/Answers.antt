use Rattle.std.proofs.Common.{◌≡◌, ◌∙◌, ap, ◌%◌, ◌/◌, ◌^◌, ◌+◌, suc, ℕ, refl, arith}
use Rattle.glk_gen.specs.Draws.{next_state, state_after, draw}
use Rattle.glk_gen.specs.Calls.{callee}
use Rattle.glk_gen.proofs.Ranges.{map_more}
use Rattle.glk_gen.proofs.calls.draw_callees.Goals as goal

-- the state after one more draw
state_more : (seed k state next : ℕ) → state ≡ state_after seed k → next ≡ next_state state → next ≡ state_after seed (suc k)
unfolding state_after
state_more seed k state next e step = step ∙ ap next_state e

-- what is drawn
drawn_is : (seed k n next : ℕ) → next ≡ state_after seed (suc k) → (next / 2 ^ 33) % n ≡ callee seed n k
unfolding draw
drawn_is seed k n next e = ap (λ s. (s / 2 ^ 33) % n) e

pub loop-call-init : goal.loop-call-init
unfolding state_after
loop-call-init c = record { state = refl; callees = c.in_ok-callees.ensures.items }

pub loop-call-preserved : goal.loop-call-preserved
loop-call-preserved c =
    let more : suc c.loop-call._call ≡ c.loop-call._call + 1 = omega arith in
    let next : c.next_state-state.result ≡ state_after c.args.seed (suc c.loop-call._call) = state_more c.args.seed c.loop-call._call c.loop-call.state _ c.loop-call.invariant.state c.next_state-state.ensures in
    record {
      state = next ∙ ap (state_after c.args.seed) more;
      callees = map_more (callee c.args.seed c.args.n) 0 c.loop-call._call c.loop-call._call c.loop-call.callees.items c.push.new.self.items _ (omega arith) c.loop-call.invariant.callees c.in_ok-push.ensures.items
          (ap (λ d. d % c.args.n) c.drawn.ensures ∙ drawn_is c.args.seed c.loop-call._call c.args.n c.next_state-state.result next);
    }
