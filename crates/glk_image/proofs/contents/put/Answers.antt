use Rattle.std.proofs.Common.{◌+◌, ◌-◌, ◌++◌, ℕ, List, length, take, drop, replicate, refl, ap, ◌∙◌}
use Rattle.glk_image.proofs.WrittenBytes.{written_then}
use Rattle.glk_image.proofs.contents.put.Goals as goal

pub returns : goal.returns
returns c =
    let at : ℕ = c.args.at in
    let n : ℕ = length c.args.bytes.now in
    let m : ℕ = c.args.size - n in
    let zeros : List ℕ = replicate m 0 in
    c.clear.ensures
    ∙ (ap (λ (l : List ℕ). take (at + n) l ++ zeros ++ drop (at + n + m) l) c.write_at.ensures
    ∙ written_then c.args.part.now c.args.bytes.now zeros at n m c.args.size c.requires.inside refl refl c.requires.room)
