use Rattle.std.proofs.Common.{◌≡◌, ◌∙◌, ◌+◌, ◌-◌, arith, get_or, length-set}
use Rattle.std.proofs.lemmas.List.{get_or-set_same, get_or-set_other}
use Rattle.glk_elf.proofs.PlacingLemmas.{start_fits, bound_more, follow_more, all_placed}
use Rattle.glk_elf.proofs.placing.assign_addresses.Goals as goal

pub overflow_add-end : goal.overflow_add-end
overflow_add-end c =
    let fits = start_fits c.args.sizes.now c.loop-index.index (get_or c.loop-index.addrs (c.loop-index.index - 1) 0)
    c.loop-index.invariant.some (omega arith) (omega arith) c.requires c.loop-index.invariant.bound in
    omega (arith, fits)

pub least_multiple-requires-clause-fits : goal.least_multiple-requires-clause-fits
least_multiple-requires-clause-fits c =
    start_fits c.args.sizes.now c.loop-index.index (get_or c.loop-index.addrs (c.loop-index.index - 1) 0)
    c.loop-index.invariant.some (omega arith) (omega arith) c.requires c.loop-index.invariant.bound

pub loop-index-preserved : goal.loop-index-preserved
loop-index-preserved c = record {
  some = omega arith;
  sized = c.loop-index.invariant.sized;
  eleven = length-set c.loop-index.addrs c.loop-index.index c.least_multiple.result ∙ c.loop-index.invariant.eleven;
  text_at =
      get_or-set_other c.loop-index.addrs c.loop-index.index 0 c.least_multiple.result 0 (λ same. omega arith)
      ∙ c.loop-index.invariant.text_at;
  follow =
      let start = rw c.start_multiple.ensures.value at c.least_multiple.ensures in
      follow_more c.args.sizes.now c.loop-index.addrs c.loop-index.index c.least_multiple.result
      c.loop-index.invariant.some (omega arith) c.loop-index.invariant.follow start;
  bound =
      let last : c.loop-index.index + 1 - 1 ≡ c.loop-index.index = omega arith in
      rw (last, get_or-set_same c.loop-index.addrs c.loop-index.index c.least_multiple.result 0 (omega arith))
      (rw last at (bound_more c.args.sizes.now c.loop-index.index (get_or c.loop-index.addrs (c.loop-index.index - 1) 0)
      c.least_multiple.result c.start_multiple.result c.loop-index.invariant.some (omega arith)
      c.loop-index.invariant.bound c.least_multiple.ensures.least c.start_multiple.ensures.small));
}

pub returns : goal.returns
returns c =
    all_placed c.args.sizes.now c.loop-index.addrs c.index.result c.index-2.result c.loop-index.invariant.eleven
    c.loop-index.invariant.text_at (λ n low high. c.loop-index.invariant.follow n low (omega arith))
    c.index.ensures.number c.index-2.ensures.number
