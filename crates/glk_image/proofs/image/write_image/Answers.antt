use Rattle.std.proofs.Common.{◌≡◌, ℕ, List, length, map, sym, ap, subst, ◌∙◌, arith}
use Rattle.glk_elf.specs.Image.{image_base, elf_bytes}
use Rattle.glk_elf.specs.Views.{blank_view, frame_view}
use Rattle.glk_image.specs.Contents.{with_contents}
use Rattle.glk_image.specs.Image.{IsImageOf, piece_of}
use Rattle.glk_image.proofs.WholeImages.{fields_inside, is_image, taken_whole}
use Rattle.glk_image.proofs.image.write_image.Goals as goal

pub patch_chunks-requires-clause-inside : goal.patch_chunks-requires-clause-inside
patch_chunks-requires-clause-inside g c κs within =
    let mid_is : c.deref_mut.result.now ≡ with_contents image_base (elf_bytes (blank_view c.args.frame.now)) c.args.contents.now =
    c.deref_mut.ensures.value ∙ c.in_ok-image.ensures in
    fields_inside (frame_view c.args.frame.now) c.requires.placed c.args.contents.now (g.C.FieldChunks.fields c.args.fields.now)
    c.deref_mut.result.now c.requires.rooms c.requires.apart c.requires.stored c.requires.patchable mid_is

pub returns-clause-image : goal.returns-clause-image
returns-clause-image g c =
    let mid_is : c.deref_mut.result.now ≡ with_contents image_base (elf_bytes (blank_view c.args.frame.now)) c.args.contents.now =
    c.deref_mut.ensures.value ∙ c.in_ok-image.ensures in
    let same : length c.patch_chunks.new.image ≡ length c.in_ok-image.image.items =
    c.in_ok-patch_chunks.ensures.outside.size ∙ ap length c.deref_mut.ensures.value in
    let whole = taken_whole c.in_ok-image.image.len c.patch_chunks.new.image c.in_ok-image.image.items (omega (arith, c.in_ok-image.image.ok.0)) same in
    let P : List ℕ → Type 0 =
    λ b. IsImageOf (frame_view c.args.frame.now) (map piece_of c.args.contents.now) (g.C.FieldChunks.fields c.args.fields.now) b in
    subst P (sym whole)
    (is_image (frame_view c.args.frame.now) c.requires.placed c.args.contents.now (g.C.FieldChunks.fields c.args.fields.now)
    c.deref_mut.result.now c.patch_chunks.new.image c.requires.rooms c.requires.apart c.requires.stored c.requires.patchable mid_is
    c.in_ok-patch_chunks.ensures.patched)
