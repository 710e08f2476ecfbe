use Rattle.std.proofs.Common.{◌≡◌, ◌+◌, ℕ, List, length, All, sym, subst, ◌∙◌}
use Rattle.glk_elf.specs.Image.{image_base, elf_bytes}
use Rattle.glk_elf.specs.Views.{blank_view, frame_view}
use Rattle.glk_image.specs.Contents.{IsWithin}
use Rattle.glk_image.proofs.WholeImages.{contents_within}
use Rattle.glk_image.proofs.image.stored_image.Goals as goal

pub fill_contents-requires-clause-inside : goal.fill_contents-requires-clause-inside
fill_contents-requires-clause-inside g c κs within =
    let e : c.deref_mut.result.now ≡ elf_bytes (blank_view c.args.frame.now) = c.deref_mut.ensures.value ∙ c.in_ok-image.ensures in
    let P : List ℕ → Type 0 = λ xs. All (IsWithin image_base (image_base + length xs)) c.args.contents.now in
    subst P (sym e) (contents_within (frame_view c.args.frame.now) c.requires.placed c.args.contents.now c.requires.stored)
