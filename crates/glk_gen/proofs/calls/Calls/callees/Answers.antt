use Rattle.std.proofs.Common.{◌≡◌, ◌∙◌, ap, ◌*◌, length, arith}
use Rattle.std.proofs.lemmas.List.FromFn.{length-map-range_with_len}
use Rattle.glk_gen.specs.Calls.{callee, calls_each}
use Rattle.glk_gen.proofs.Ranges.{part_of_map}
use Rattle.glk_gen.proofs.calls.Calls.callees.Goals as goal

pub slice_bounds-result-end : goal.slice_bounds-result-end
slice_bounds-result-end c =
    let count : length c.deref.result.now ≡ calls_each * c.args.self.now.functions =
    ap length (c.deref.ensures.value ∙ c.args.self.now.drawn) ∙ length-map-range_with_len (callee c.args.self.now.seed c.args.self.now.functions) 0 (calls_each * c.args.self.now.functions) in
    omega arith

pub returns : goal.returns
returns c = part_of_map (callee c.args.self.now.seed c.args.self.now.functions) (calls_each * c.args.self.now.functions) c.args.from c.args.count c.deref.result.now (c.deref.ensures.value ∙ c.args.self.now.drawn) c.requires
