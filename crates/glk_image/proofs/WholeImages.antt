-- Contents and fields written into the image of a frame make the image.
use Rattle.std.proofs.Common.{◌≡◌, ◌⊎◌, ⊎_elim, inl, inr, ℕ, ◌+◌, ◌-◌, ◌<◌, ◌≤◌, List, [], ◌++◌, length, take, drop, get_or, map, refl, sym, ap, ◌∙◌, subst, arith}
use Rattle.std.specs.Prelude.{All, Contains}
use Rattle.std.proofs.lemmas.List.{length-map, get_or-map, append-nil, take_all}
use Rattle.std.proofs.lemmas.List.Elements.{Contains-get_or}
use Rattle.std.proofs.Math.ListN.{drop_of_length-le}
use Rattle.glk_elf.specs.Sections.{text, written_data}
use Rattle.glk_elf.specs.Image.{section, image_base, image_size, elf_bytes}
use Rattle.glk_elf.specs.Placing.{IsPlaced, of_section, text_start}
use Rattle.glk_elf.specs.SectionBytes.{IsOutsideSections, file_offset, DiffersInSections, parts_from}
use Rattle.glk_elf.specs.Frames.{Frame, frame_with, blank, blank_bytes, bytes_in}
use Rattle.glk_elf.proofs.LengthLemmas.{image_length}
use Rattle.glk_elf.proofs.ImagePatched.{sections_patched}
use Rattle.glk_reloc.specs.declared.fields.Field.{Field}
use Rattle.glk_reloc.specs.Fields.{IsWithin as IsFieldWithin, IsOutside as IsOutsideField, end_of as field_end}
use Rattle.glk_reloc.specs.Patched.{IsPatched}
use Rattle.glk_image.specs.declared.contents.Content.{Content}
use Rattle.glk_image.specs.Contents.{end_of, content_bytes, HasRoom, IsWithin, AreApart, with_contents}
use Rattle.glk_image.specs.Laws.{IsOutside}
use Rattle.glk_image.specs.Image.{Piece, piece_of, piece_bytes, IsOutsidePiece, AreInSection, IsStored, IsPatchable, IsImageOf}
use Rattle.glk_image.proofs.ContentLemmas.{HasPut, has_put}
use Rattle.glk_image.proofs.BlankSections.{addr_is, size_is, above_base, ends_within, padding_at}

module _ (f : Frame) (placed : IsPlaced (blank f)) where
  abbrev ground : List ℕ
  ground = elf_bytes (blank f)

  ground_length : length ground ≡ image_size (blank f)
  ground_length = image_length (blank f) placed

  -- what lies in a section lies in the file
  stored_in_file : (from to : ℕ) → AreInSection f from to → (image_base ≤ from) × (to ≤ image_base + length ground)
  stored_in_file from to h =
      let above = above_base f (blank_bytes f.sizes) placed h.number h.some h.in_file in
      let ends = ends_within f (blank_bytes f.sizes) placed h.number h.some h.in_file in
      let long = ground_length in
      let starts = h.starts in
      let stops = h.ends in
      (omega (arith, above, starts), omega (arith, above, ends, long, stops))

  pub contents_within : (contents : List Content) → All (IsStored f) contents → All (IsWithin image_base (image_base + length ground)) contents
  contents_within contents stored k d lt = let h = stored k d lt in stored_in_file (get_or contents k d).at (end_of (get_or contents k d)) h

  fields_within : (fields : List Field) → All (IsPatchable f) fields → All (IsFieldWithin 0 (length ground)) fields
  fields_within fields patchable k d lt =
      let h = stored_in_file (image_base + (get_or fields k d).at) (image_base + field_end (get_or fields k d)) (patchable k d lt) in
      let a = h.0 in
      let z = h.1 in
      (omega arith, omega (arith, z))

  -- fields are in the image in which contents were written
  pub fields_inside : (contents : List Content) (fields : List Field) (mid : List ℕ) → All HasRoom contents → AreApart contents
      → All (IsStored f) contents → All (IsPatchable f) fields → mid ≡ with_contents image_base ground contents
      → All (IsFieldWithin 0 (length mid)) fields
  fields_inside contents fields mid rooms apart stored patchable mid_is =
      let put : HasPut image_base ground contents (with_contents image_base ground contents) =
      has_put image_base ground contents apart rooms (contents_within contents stored) in
      let long : length mid ≡ length ground = ap length mid_is ∙ put.long in
      let P : ℕ → Type 0 = λ n. All (IsFieldWithin 0 n) fields in
      subst P (sym long) (fields_within fields patchable)

  -- what lies in a section is apart from what lies in none
  outside_stored : (p from to : ℕ) → IsOutsideSections (blank f) p → AreInSection f from to → (image_base + p < from) ⊎ (to ≤ image_base + p)
  outside_stored p from to out h =
      let addr = addr_is f (blank_bytes f.sizes) h.number h.some h.in_file in
      let size = size_is f (blank_bytes f.sizes) h.number h.some h.in_file in
      let above = above_base f (blank_bytes f.sizes) placed h.number h.some h.in_file in
      let starts = h.starts in
      let ends = h.ends in
      ⊎_elim
      (λ (before : p < file_offset (section (blank f) h.number)). inl (omega (arith, before, addr, above, starts)))
      (λ (after : file_offset (section (blank f) h.number) + (section (blank f) h.number).size ≤ p).
      inr (omega (arith, after, addr, size, above, ends)))
      (out h.number h.some h.in_file)

  module _ (contents : List Content) (fields : List Field) (mid b : List ℕ) (rooms : All HasRoom contents) (apart : AreApart contents) (stored : All (IsStored f) contents) (patchable : All (IsPatchable f) fields) (mid_is : mid ≡ with_contents image_base ground contents) (patched : IsPatched 0 mid b fields) where
    put : HasPut image_base ground contents mid
    put =
        let P : List ℕ → Type 0 = λ xs. HasPut image_base ground contents xs in
        subst P (sym mid_is) (has_put image_base ground contents apart rooms (contents_within contents stored))

    -- a byte in no field is that before fields were written
    unpatched : (p : ℕ) → All (IsOutsideField p) fields → get_or b p 0 ≡ get_or mid p 0
    unpatched p out =
        let e : 0 + p ≡ p = omega arith in
        let P : ℕ → Type 0 = λ q. All (IsOutsideField q) fields in
        patched.outside.same p (subst P (sym e) out)

    differs : DiffersInSections (blank f) b
    differs = record {
      size = patched.outside.size ∙ put.long;
      same = λ p out.
          let in_fields : All (IsOutsideField p) fields = λ k d lt.
          let x : Field = get_or fields k d in
          ⊎_elim
          (λ (before : image_base + p < image_base + x.at). inl (omega (arith, before)))
          (λ (after : image_base + field_end x ≤ image_base + p). inr (omega (arith, after)))
          (outside_stored p (image_base + x.at) (image_base + field_end x) out (patchable k d lt)) in
          let in_contents : All (IsOutside (image_base + p)) contents = λ k d lt.
          let c : Content = get_or contents k d in
          outside_stored p c.at (end_of c) out (stored k d lt) in
          unpatched p in_fields ∙ put.outside p in_contents;
    }

    -- the parts with the file's bytes are those of the frame
    same_parts : parts_from b (blank f) ≡ frame_with f (bytes_in f b)
    same_parts = refl

    -- a piece is a content
    stands : (c : Piece) (i p : ℕ) → Contains (map piece_of contents) c → i < c.size → image_base + p ≡ c.at + i
        → All (IsOutsideField p) fields → get_or b p 0 ≡ get_or (piece_bytes c) i 0
    stands c i p (k, low, is) small place out =
        let inside : k < length contents = (let e = length-map contents piece_of in omega (arith, e, low)) in
        let none : Content = record { at = 0; size = 0; bytes = record { ref_ptr = (0, 0); now = [] } } in
        let x : Content = get_or contents k none in
        let same : piece_of x ≡ c = sym (get_or-map piece_of contents k none c inside) ∙ is in
        let held : Contains contents x = Contains-get_or contents k none inside in
        let Small : Piece → Type 0 = λ y. i < y.size in
        let Place : Piece → Type 0 = λ y. image_base + p ≡ y.at + i in
        unpatched p out
        ∙ (put.inside x i p held (subst Small (sym same) small) (subst Place (sym same) place)
        ∙ ap (λ y. get_or (piece_bytes y) i 0) same)

    pub is_image : IsImageOf f (map piece_of contents) fields b
    is_image =
        let whole = sections_patched (blank f) b placed differs in
        record {
          placed = whole.placed;
          file = whole.image;
          values = patched.inside;
          contents = stands;
          padding = λ n p low high from to no_piece no_field.
              let in_contents : All (IsOutside (image_base + p)) contents = λ k d lt.
              let e = length-map contents piece_of in
              let P : Piece → Type 0 = λ y. IsOutsidePiece (image_base + p) y in
              subst P (get_or-map piece_of contents k d (piece_of d) lt) (no_piece k (piece_of d) (omega (arith, e, lt))) in
              unpatched p no_field ∙ (put.outside p in_contents ∙ padding_at f placed n p low high from to);
        }

-- a buffer that was written through as a slice
pub taken_whole : (len : ℕ) (new items : List ℕ) → len ≡ length items → length new ≡ length items
    → take len (new ++ drop (length new) items) ≡ new
taken_whole len new items len_is same =
    ap (λ l. take len (new ++ l)) (drop_of_length-le items (omega (arith, same)))
    ∙ (ap (take len) (append-nil new) ∙ take_all len new (omega (arith, len_is, same)))
