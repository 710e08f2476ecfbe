use Rattle.std.proofs.Common.{◌≡◌, ◌∙◌, subst, rules, to_z, of_z, w64}
use Rattle.glk_frames_reader.specs.Found.{Function, offset_in, frames_at}
use Rattle.glk_frames_reader.specs.Parts.{SameValues}
use Rattle.glk_frames_reader.proofs.OffsetLemmas.{frames_start}
use Rattle.glk_frames_reader.proofs.function.Func.frames.Goals as goal

pub returns : goal.returns
returns c =
    let P : Function → Type 0 = λ f. SameValues c.offset.result (offset_in f c.args.pc) → c.new.result ≡ frames_at f c.args.pc in
    let held : to_z w64 (of_z w64 c.offset.result) ≡ c.offset.result = search rules in
    let made = rw held at c.new.ensures in
    subst P c.self.view_is (λ same. made ∙ frames_start c.self.inside.image.now c.self.inside.region.now c.self.inside.index c.self.inside.at c.offset.result c.args.pc c.self.invariant same) c.offset.ensures
