use Rattle.std.proofs.Common.{ℕ, ◌/◌, ◌<◌, [], length, arith}
use Rattle.glk_image.proofs.FillLemmas.{cut_within, filled_halves}
use Rattle.glk_image.proofs.fill.+fill.Goals as goal

pub fill_contents-fill_halves-requires-clause-right :
    goal.fill_contents-fill_halves-requires-clause-right
fill_contents-fill_halves-requires-clause-right g t c κs within =
    let half : ℕ = length c.args.contents.now / 2 in
    let lt : half < length c.args.contents.now = omega arith in
    cut_within c.args.start half (length c.args.part.now) (length c.split_at_mut-left.result.0.now) (length c.split_at_mut-left.result.1.now)
    c.args.contents.now c.split_at.result.1.now (record { at = 0; size = 0; bytes = record { ref_ptr = (0, 0); now = [] } }) lt c.requires.apart c.requires.inside c.split_at.ensures.back
    c.split_at_mut-left.ensures.front_len (omega (arith, c.split_at_mut-left.ensures.front_len, c.split_at_mut-left.ensures.back_len))

pub fill_contents-returns : goal.fill_contents-returns
fill_contents-returns g t c =
    let half : ℕ = length c.args.contents.now / 2 in
    let lt : half < length c.args.contents.now = omega arith in
    filled_halves c.args.start half c.args.part.now
    c.split_at_mut-left.result.0.now c.fill_halves.new.left c.split_at_mut-left.result.1.now c.fill_halves.new.right
    c.args.contents.now c.split_at.result.0.now c.split_at.result.1.now (record { at = 0; size = 0; bytes = record { ref_ptr = (0, 0); now = [] } })
    lt c.requires.apart c.requires.rooms c.requires.inside c.split_at.ensures.front c.split_at.ensures.back
    c.split_at_mut-left.ensures.value c.split_at_mut-left.ensures.front_len
    c.fill_halves.ensures.left c.fill_halves.ensures.right
