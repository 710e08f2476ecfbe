use Rattle.std.proofs.Common.{◌≡◌, ◌∙◌, ◌<◌, ℕ, List, Err, arith, sym, ap, subst, inl, inr, length, length-take}
use Rattle.std.specs.Prelude.{IfSome}
use Rattle.glk_io.specs.Counts.{Rose}
use Rattle.glk_cause.specs.declared.cause.Cause.TheVariants as cause
use Rattle.glk_tools.specs.Stdin.{stdin, input_limit, IsWholeInput}
use Rattle.glk_tools.proofs.InputSteps.{read_too_much}
use Rattle.glk_tools.proofs.stdin.read_input.Goals as goal

pub returns-in_default : goal.returns-in_default
returns-in_default g c = inl (record {
  refusal_is = ap (λ (p : List ℕ). cause.ReadFault p c.faults-count.result) c.loop-room.invariant.path ∙ ap (λ (n : ℕ). cause.ReadFault stdin n) c.faults-count.ensures;
  rose = subst (λ (n : ℕ). Rose n (g.I.Source.state c.read.new.self).faults) c.loop-room.invariant.faults c.in_default.ensures.cause.failed;
})

pub loop-room-smaller : goal.loop-room-smaller
loop-room-smaller g c =
    let size = c.in_ok-extend_from_slice.ensures.len in
    let bound = c.in-Ok.ensures.bound in
    omega (arith, size, bound, length-take {A = ℕ})

pub returns : goal.returns
returns g c =
    let from = (g.I.Source.state c.args.input.now).left in
    let is : c.loop-room.path ≡ stdin = c.loop-room.invariant.path in
    let P : List ℕ → Type 0 = λ p. IfSome from (λ held. IsWholeInput held (Err (cause.FileTooLong p input_limit))) in
    let long : input_limit < length c.loop-room.bytes.items = omega (arith, c.loop-room-test.false, c.len.ensures) in
    inr (
      ap (λ (p : List ℕ). cause.FileTooLong p input_limit) is,
      record {
        faults = c.loop-room.invariant.faults;
        gives = subst P (sym is) (read_too_much from _ c.loop-room.bytes.items c.loop-room.invariant.taken long);
      },
    )
