-- There is one image with a frame, contents and fields.
use Rattle.std.proofs.Common.{◌≡◌, ◌⊎◌, ⊎_elim, inl, inr, ℕ, suc, ◌+◌, ◌-◌, ◌<◌, ◌≤◌, List, [], ◌∷◌, length, take, drop, get_or, refl, sym, ap, ◌∙◌, arith}
use Rattle.std.specs.Prelude.{All, Contains, slice_range}
use Rattle.std.proofs.lemmas.List.{length-take-le, length-drop, ext_get_or}
use Rattle.std.proofs.lemmas.List.Elements.{All-nil, All-cons, Contains-append_left, Contains-append_right}
use mathlib.Core.Logic.{dite}
use native.Mathlib.Decide.{dec_lt}
use Rattle.glk_elf.specs.Sections.{text, written_data}
use Rattle.glk_elf.specs.Image.{image_base, image_size, elf_bytes}
use Rattle.glk_elf.specs.Placing.{of_section, text_start}
use Rattle.glk_elf.specs.Frames.{Frame, frame_with, bytes_in}
use Rattle.glk_elf.proofs.LengthLemmas.{image_length}
use Rattle.glk_reloc.specs.declared.fields.Field.{Field}
use Rattle.glk_reloc.specs.Fields.{IsOutside, end_of}
use Rattle.glk_image.specs.Image.{Piece, IsOutsidePiece, IsImageOf, IsOneImage}
use Rattle.glk_image.proofs.BlankSections.{above_base, ends_within, byte_in}

-- a place is in none of some ranges, or in one
abbrev Held : {X : Type 0} → (X → ℕ) → (X → ℕ) → ℕ → List X → Type 0
Held {X} start stop p xs = (x : X) × Contains xs x × (start x ≤ p) × (p < stop x)

held : {X : Type 0} (start stop : X → ℕ) (p : ℕ) (xs : List X) → All (λ x. (p < start x) ⊎ (stop x ≤ p)) xs ⊎ Held start stop p xs
held start stop p [] = inl (All-nil (λ x. (p < start x) ⊎ (stop x ≤ p)))
held {X} start stop p (x ∷ xs) =
    let Out : X → Type 0 = λ y. (p < start y) ⊎ (stop y ≤ p) in
    ⊎_elim
    (λ (all : All Out xs).
    dite (dec_lt p (start x))
    (λ below. inl (All-cons Out x xs (inl below) all))
    (λ above.
    dite (dec_lt p (stop x))
    (λ within. inr (x, Contains-append_left (x ∷ []) xs x (0, omega arith, refl), (omega arith), within))
    (λ after. let past : stop x ≤ p = omega arith in inl (All-cons Out x xs (inr past) all))))
    (λ (h : Held start stop p xs). inr (h.0, Contains-append_right (x ∷ []) xs h.0 h.1, h.2, h.3))
    (held start stop p xs)

slice-length : (b : List ℕ) (at n : ℕ) → at + n ≤ length b → length (slice_range b at (at + n)) ≡ n
slice-length b at n room =
    let e : at + n - at ≡ n = omega arith in
    rw e (length-take-le n (drop at b) (let d = length-drop at b in omega arith))

first_same : {X : Type 0} (x y : X) (xs ys : List X) → x ≡ y → xs ≡ ys → x ∷ xs ≡ y ∷ ys
first_same x y xs ys head tail = ap (λ z. z ∷ xs) head ∙ ap (λ l. y ∷ l) tail

module _ (f : Frame) (pieces : List Piece) (fields : List Field) (a b : List ℕ) (x : IsImageOf f pieces fields a) (y : IsImageOf f pieces fields b) where
  -- a byte of a section
  agree : (n p : ℕ) → text ≤ n → n ≤ written_data → of_section f.addrs n ≤ image_base + p
      → image_base + p < of_section f.addrs n + of_section f.sizes n → get_or a p 0 ≡ get_or b p 0
  agree n p low high from to =
      ⊎_elim
      (λ (no_field : All (IsOutside p) fields).
      ⊎_elim
      (λ (no_piece : All (IsOutsidePiece (image_base + p)) pieces).
      x.padding n p low high from to no_piece no_field ∙ sym (y.padding n p low high from to no_piece no_field))
      (λ (h : Held (λ (c : Piece). c.at) (λ (c : Piece). c.at + c.size) (image_base + p) pieces).
      let i : ℕ = image_base + p - h.0.at in
      let above = h.2 in
      let below = h.3 in
      let small : i < h.0.size = omega (arith, above, below) in
      let place : image_base + p ≡ h.0.at + i = omega (arith, above) in
      x.contents h.0 i p h.1 small place no_field ∙ sym (y.contents h.0 i p h.1 small place no_field))
      (held (λ (c : Piece). c.at) (λ (c : Piece). c.at + c.size) (image_base + p) pieces))
      (λ (h : Held (λ (g : Field). g.at) end_of p fields).
      let i : ℕ = p - h.0.at in
      let above = h.2 in
      let below = h.3 in
      let small : i < h.0.size = omega (arith, above, below) in
      let place : 0 + p ≡ h.0.at + i = omega (arith, above) in
      x.values h.0 i p h.1 small place ∙ sym (y.values h.0 i p h.1 small place))
      (held (λ (g : Field). g.at) end_of p fields)

  -- the bytes of a section
  same_section : (n : ℕ) → text ≤ n → n ≤ written_data
      → slice_range a (of_section f.addrs n - image_base) (of_section f.addrs n - image_base + of_section f.sizes n)
      ≡ slice_range b (of_section f.addrs n - image_base) (of_section f.addrs n - image_base + of_section f.sizes n)
  same_section n low high =
      let at : ℕ = of_section f.addrs n - image_base in
      let size : ℕ = of_section f.sizes n in
      let above : text_start ≤ of_section f.addrs n = above_base f (bytes_in f a) x.placed n low high in
      let long_a : length a ≡ image_size (frame_with f (bytes_in f a)) = ap length x.file ∙ image_length (frame_with f (bytes_in f a)) x.placed in
      let long_b : length b ≡ image_size (frame_with f (bytes_in f b)) = ap length y.file ∙ image_length (frame_with f (bytes_in f b)) y.placed in
      let in_a = ends_within f (bytes_in f a) x.placed n low high in
      let in_b = ends_within f (bytes_in f b) y.placed n low high in
      let size_a : length (slice_range a at (at + size)) ≡ size = slice-length a at size (omega (arith, in_a, long_a)) in
      let size_b : length (slice_range b at (at + size)) ≡ size = slice-length b at size (omega (arith, in_b, long_b)) in
      ext_get_or 0 (slice_range a at (at + size)) (slice_range b at (at + size)) (size_a ∙ sym size_b)
      (λ d lt.
      let p : ℕ = at + d in
      let here : image_base + p - of_section f.addrs n ≡ d = omega (arith, above) in
      let from : of_section f.addrs n ≤ image_base + p = omega (arith, above) in
      let to : image_base + p < of_section f.addrs n + size = omega (arith, above, lt, size_a) in
      ap (λ k. get_or (slice_range a at (at + size)) k 0) (sym here)
      ∙ (byte_in f a n p low high above from to
      ∙ (agree n p low high from to
      ∙ (sym (byte_in f b n p low high above from to)
      ∙ ap (λ k. get_or (slice_range b at (at + size)) k 0) here))))

  same_bytes : bytes_in f a ≡ bytes_in f b
  same_bytes =
      first_same _ _ _ _ (same_section 1 (omega arith) (omega arith))
      (first_same _ _ _ _ (same_section 2 (omega arith) (omega arith))
      (first_same _ _ _ _ (same_section 3 (omega arith) (omega arith))
      (first_same _ _ _ _ (same_section 4 (omega arith) (omega arith))
      (first_same _ _ _ _ (same_section 5 (omega arith) (omega arith))
      (first_same _ _ _ _ (same_section 6 (omega arith) (omega arith))
      (first_same _ _ _ _ (same_section 7 (omega arith) (omega arith))
      (first_same _ _ _ _ (same_section 8 (omega arith) (omega arith)) refl)))))))

pub one_image : IsOneImage
one_image f pieces fields a b x y =
    x.file ∙ (ap (λ (bytes : List (List ℕ)). elf_bytes (frame_with f bytes)) (same_bytes f pieces fields a b x y) ∙ sym y.file)
