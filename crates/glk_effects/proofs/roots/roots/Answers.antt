use Rattle.std.proofs.Common.{◌∙◌, ap}
use Rattle.glk_reach.specs.Graphs.{stand_in}
use Rattle.glk_effects.proofs.Parts.{roots_are}
use Rattle.glk_effects.proofs.roots.roots.Goals as goal

pub returns : goal.returns
returns c =
    let p = c.args.merged.now.program in
    roots_are p c.args.tasks.now c.in_ok-keys.keys.items c.push_root.new.roots.items c.push_root-2.new.roots.items c.extend_from_slice.new.self.items c.stand_in.result c.stand_in-2.result
    c.in_ok-keys.ensures c.in_ok-push_root.ensures c.in_ok-push_root-2.ensures c.in_ok-extend_from_slice.ensures.items
    (c.stand_in.ensures.value ∙ ap (stand_in p) c.as_bytes.ensures.value) (c.stand_in-2.ensures.value ∙ ap (stand_in p) c.as_bytes-2.ensures.value)
