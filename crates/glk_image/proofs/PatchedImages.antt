-- An image whose fields are written in place.
use Rattle.std.proofs.Common.{◌≡◌, ℕ, zero, suc, ◌+◌, ◌-◌, ◌<◌, ◌≤◌, ⊎_elim, inl, inr, List, [], ◌∷◌, ◌++◌, length, take, drop, get_or, refl, sym, ap, ◌∙◌, subst, arith}
use Rattle.std.specs.Prelude.{All, slice_range}
use Rattle.std.proofs.lemmas.List.{append_assoc, get_or-take, get_or-drop, length-take-le, length-drop}
use Rattle.std.proofs.lemmas.List.Elements.{All-append, All-weaker}
use Rattle.glk_elf.specs.Sections.{text, written_data}
use Rattle.glk_elf.specs.Image.{Parts, section, end_of as section_end, elf_bytes, image_size}
use Rattle.glk_elf.specs.Placing.{IsPlaced, text_start}
use Rattle.glk_elf.specs.SectionBytes.{file_offset, bytes_at, DiffersInSections}
use Rattle.glk_elf.proofs.ImagePatched.{sections_patched, sections_in_file, sections_end}
use Rattle.glk_elf.proofs.LengthLemmas.{image_length}
use Rattle.glk_elf.proofs.PlaceLemmas.{addr_above, next_start, starts_rise}
use Rattle.glk_reloc.specs.declared.fields.Field.{Field}
use Rattle.glk_reloc.specs.Fields.{IsWithin, IsOutside, end_of}
use Rattle.glk_reloc.specs.Patched.{IsPatched}
use Rattle.glk_reloc.specs.Parts.{fields_of, AreCut}
use Rattle.glk_reloc.proofs.Joined.{part_patched}
use Rattle.glk_image.specs.Patched.{section_fields, AreBySection, IsPatchedImage, ImagePatched}

-- what holds of each chunk's fields holds of all
all_chunks : (P : Field → Type 0) (chunks : List (List Field)) → ((k : ℕ) → k < length chunks → All P (get_or chunks k [])) → All P (fields_of chunks)
all_chunks P [] each = λ k d lt. absurd (omega arith)
all_chunks P (chunk ∷ chunks) each =
    All-append P chunk (fields_of chunks) (each 0 (omega arith)) (all_chunks P chunks (λ k lt. each (suc k) (omega arith)))

-- the fields of chunk k among all
split_suc : (chunks : List (List Field)) (k : ℕ) → k < length chunks
    → fields_of chunks ≡ fields_of (take k chunks) ++ (get_or chunks k [] ++ fields_of (drop (suc k) chunks))
split_suc [] k lt = absurd (omega arith)
split_suc (chunk ∷ chunks) zero lt = refl
split_suc (chunk ∷ chunks) (suc k) lt =
    ap (λ x. chunk ++ x) (split_suc chunks k (omega arith))
    ∙ sym (append_assoc chunk (fields_of (take k chunks)) (get_or chunks k [] ++ fields_of (drop (suc k) chunks)))

split_at : (chunks : List (List Field)) (k : ℕ) → k < length chunks
    → fields_of chunks ≡ fields_of (take k chunks) ++ (get_or chunks k [] ++ fields_of (drop (k + 1) chunks))
split_at chunks k lt =
    let e : suc k ≡ k + 1 = omega arith in
    let P : ℕ → Type 0 = λ j. fields_of chunks ≡ fields_of (take k chunks) ++ (get_or chunks k [] ++ fields_of (drop j chunks)) in
    subst P e (split_suc chunks k lt)

module _ (p : Parts) (b : List ℕ) (chunks : List (List Field)) (placed : IsPlaced p) (by : AreBySection p chunks) (h : IsPatched 0 (elf_bytes p) b (fields_of chunks)) where
  abbrev from : ℕ → ℕ
  from n = file_offset (section p n)

  abbrev to : ℕ → ℕ
  to n = file_offset (section p n) + (section p n).size

  within_at : (k : ℕ) → k < 8 → All (IsWithin (from (k + 1)) (to (k + 1))) (get_or chunks k [])
  within_at k low =
      let e : k + 1 - 1 ≡ k = omega arith in
      let P : ℕ → Type 0 = λ j. All (IsWithin (from (k + 1)) (to (k + 1))) (get_or chunks j []) in
      subst P e (by.within (k + 1) (omega arith) (omega arith))

  differs : DiffersInSections p b
  differs = record {
    size = h.outside.size;
    same = λ i out.
        h.outside.same i
        (all_chunks (IsOutside (0 + i)) chunks
        (λ k lt.
        let count = by.count in
        let low : k < 8 = omega arith in
        All-weaker (IsWithin (from (k + 1)) (to (k + 1))) (IsOutside (0 + i))
        (λ f in'.
        ⊎_elim
        (λ (below : i < from (k + 1)). let a = in'.0 in inl (omega arith))
        (λ (after : to (k + 1) ≤ i). let z = in'.1 in inr (omega arith))
        (out (k + 1) (omega arith) (omega arith)))
        (get_or chunks k []) (within_at k low)));
  }

  -- a section ends in the file where a later one starts, or before
  before_later : (j n : ℕ) → text ≤ j → j < n → n ≤ written_data → to j ≤ from n
  before_later j n low order high =
      let above : text_start ≤ (section p j).addr = addr_above p placed j low (omega arith) in
      let next : section_end (section p j) ≤ (section p (j + 1)).addr = section_next j low (omega arith) in
      let rise : (section p (j + 1)).addr ≤ (section p n).addr = starts_rise p placed (j + 1) n (omega arith) (omega arith) (omega arith) in
      omega arith
    where
      section_next : (j : ℕ) → text ≤ j → j < written_data → section_end (section p j) ≤ (section p (j + 1)).addr
      section_next j low high = next_start p placed (j - 1) (j + 1 - 1) (omega arith) (omega arith)

  patched : (n : ℕ) → text ≤ n → n ≤ written_data → IsPatched (from n) (section p n).bytes (bytes_at b (section p n)) (section_fields chunks n)
  patched n low high =
      let count = by.count in
      let k : ℕ = n - 1 in
      let number : k + 1 ≡ n = omega arith in
      let before : List (List Field) = take k chunks in
      let after : List (List Field) = drop (k + 1) chunks in
      let before_count : length before ≡ k = length-take-le k chunks (omega arith) in
      let behind_count : length after ≡ length chunks - (k + 1) = length-drop (k + 1) chunks in
      let room : to n ≤ image_size p = sections_end p placed k (omega arith) in
      let long = image_length p placed in
      let cut : AreCut 0 (from n) (to n) (fields_of before) (section_fields chunks n) (fields_of after) = record {
        first = all_chunks (λ f. end_of f ≤ 0 + from n) before
            (λ j lt.
            let P : List Field → Type 0 = λ l. All (λ f. end_of f ≤ 0 + from n) l in
            let order : to (j + 1) ≤ from n = before_later (j + 1) n (omega arith) (omega arith) high in
            subst P (sym (get_or-take k chunks j [] (omega arith)))
            (All-weaker (IsWithin (from (j + 1)) (to (j + 1))) (λ f. end_of f ≤ 0 + from n) (λ f in'. let z = in'.1 in omega arith) (get_or chunks j []) (within_at j (omega arith))));
        inside = All-weaker (IsWithin (from n) (to n)) (IsWithin (0 + from n) (0 + to n)) (λ f in'. let a = in'.0 in let z = in'.1 in (omega arith, omega arith)) (section_fields chunks n) (by.within n low high);
        last = all_chunks (λ f. 0 + to n ≤ f.at) after
            (λ j lt.
            let P : List Field → Type 0 = λ l. All (λ f. 0 + to n ≤ f.at) l in
            let order : to n ≤ from (k + 1 + j + 1) = before_later n (k + 1 + j + 1) low (omega arith) (omega arith) in
            subst P (sym (get_or-drop (k + 1) chunks j []))
            (All-weaker (IsWithin (from (k + 1 + j + 1)) (to (k + 1 + j + 1))) (λ f. 0 + to n ≤ f.at) (λ f in'. let a = in'.0 in omega arith) (get_or chunks (k + 1 + j) []) (within_at (k + 1 + j) (omega arith))));
      } in
      let P : List Field → Type 0 = λ l. IsPatched 0 (elf_bytes p) b l in
      let part : IsPatched (0 + from n) (slice_range (elf_bytes p) (from n) (to n)) (slice_range b (from n) (to n)) (section_fields chunks n) =
      part_patched 0 (from n) (to n) (elf_bytes p) b (fields_of before) (section_fields chunks n) (fields_of after) (omega arith) (omega arith) cut
      (subst P (split_at chunks k (omega arith)) h) in
      let Q : List ℕ → Type 0 = λ l. IsPatched (from n) l (bytes_at b (section p n)) (section_fields chunks n) in
      let R : ℕ → Type 0 = λ a. IsPatched a (slice_range (elf_bytes p) (from n) (to n)) (slice_range b (from n) (to n)) (section_fields chunks n) in
      let e : 0 + from n ≡ from n = omega arith in
      subst Q (sections_in_file p n placed low high) (subst R e part)

  is_patched : IsPatchedImage p chunks b
  is_patched =
      let whole = sections_patched p b placed differs in
      record { image = whole.image; placed = whole.placed; sections = whole.sections; patched = patched }

pub image_patched : ImagePatched
image_patched p b chunks placed by h = is_patched p b chunks placed by h
