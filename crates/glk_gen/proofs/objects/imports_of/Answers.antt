use Rattle.glk_gen.proofs.objects.imports_of.Goals as goal
use Rattle.std.proofs.Common.{arith, length, ap, ◌∙◌, ◌≡◌, ◌*◌}
use Rattle.std.proofs.lemmas.List.FromFn.{length-map-range_with_len}
use Rattle.glk_gen.specs.Calls.{callee}

pub returns-clause-few : goal.returns-clause-few
returns-clause-few c =
    let count : length c.callees.result.now ≡ 2 * c.function_count-count.result = ap length c.callees.ensures ∙ length-map-range_with_len (callee c.args.calls.now.seed c.args.calls.now.functions) _ _ in
    grind (arith, c.imports.ensures.short)
