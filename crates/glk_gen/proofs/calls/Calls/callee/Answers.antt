use Rattle.std.proofs.Common.{◌≡◌, ◌∙◌, ap, ◌*◌, length, vec_len, get_or, rules, arith}
use Rattle.std.proofs.lemmas.List.FromFn.{length-map-range_with_len, get_or-map-range_with_len}
use Rattle.glk_gen.specs.Calls.{callee, calls_each}
use Rattle.glk_gen.proofs.calls.Calls.callee.Goals as goal

pub index-requires : goal.index-requires
index-requires c =
    let whole : vec_len c.args.self.now.callees ≡ length c.args.self.now.callees.items = search rules in
    let count : length c.args.self.now.callees.items ≡ calls_each * c.args.self.now.functions =
    ap length c.args.self.now.drawn ∙ length-map-range_with_len (callee c.args.self.now.seed c.args.self.now.functions) 0 (calls_each * c.args.self.now.functions) in
    omega arith

pub returns : goal.returns
returns c =
    c.index.ensures ∙ ap (λ xs. get_or xs c.args.call c.index.result.now) c.args.self.now.drawn
    ∙ get_or-map-range_with_len (callee c.args.self.now.seed c.args.self.now.functions) 0 (calls_each * c.args.self.now.functions) c.args.call c.args.call c.index.result.now c.requires (omega arith)
