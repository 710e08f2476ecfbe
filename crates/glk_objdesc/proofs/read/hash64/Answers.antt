use Rattle.std.proofs.Common.{arith, ◌∙◌, refl, ap, ℕ, ◌+◌, List}
use Rattle.glk_obj.specs.Blocks.{count, hash64, hashed64def, header_offset}
use Rattle.glk_objdesc.specs.Described.{def_desc}
use Rattle.glk_objdesc.proofs.Lists.{each_more, not_other}
use Rattle.glk_objdesc.proofs.read.hash64.Goals as goal

pub hash64-hash-requires : goal.hash64-hash-requires
hash64-hash-requires c =
    let same = not_other (count c.args.view.now hash64) (count c.args.view.now hashed64def)
    (λ other. c.count-k-end.ensures.object.short_hashes_counted (header_offset hash64) (other, refl)) in
    omega (arith, same, c.count-k-end.ensures.value)

pub loop-k-preserved : goal.loop-k-preserved
loop-k-preserved c =
    each_more _ c.loop-k.k c.loop-k.items.items c.push.new.self.items _ c.loop-k.invariant c.in_ok-push.ensures.items
    (c.in_ok-definition.ensures ∙ ap (λ (h : List ℕ). def_desc c.args.view.now (c.args.first + c.loop-k.k) h) c.hash64-hash.ensures)
