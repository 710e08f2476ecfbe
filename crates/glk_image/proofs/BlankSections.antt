-- Sections with nothing in them, and what lies within sections.
use Rattle.std.proofs.Common.{◌≡◌, ℕ, zero, suc, ◌+◌, ◌-◌, ◌<◌, ◌≤◌, List, [], length, replicate, get_or, map, refl, sym, ap, ◌∙◌, subst, arith}
use Rattle.std.specs.Prelude.{slice_range}
use Rattle.std.proofs.lemmas.List.{get_or-replicate}
use Rattle.glk_elf.specs.Sections.{text, written_data, tbss}
use Rattle.glk_elf.specs.Image.{Section, section, image_base, image_size, elf_bytes}
use Rattle.glk_elf.specs.Placing.{IsPlaced, of_section, text_start}
use Rattle.glk_elf.specs.Frames.{Frame, frame_with, padding_of, blank, blank_bytes}
use Rattle.glk_elf.proofs.FillLemmas.{section_is}
use Rattle.glk_elf.proofs.PlaceLemmas.{addr_above}
use Rattle.glk_elf.proofs.ImagePatched.{sections_end, sections_in_file, slice-at}
use Rattle.glk_image.specs.Image.{AreInSection}

-- the address and the size of a section are those by its number, whatever its bytes
pub addr_is : (f : Frame) (bytes : List (List ℕ)) (n : ℕ) → text ≤ n → n ≤ written_data
    → (section (frame_with f bytes) n).addr ≡ of_section f.addrs n
addr_is f bytes n low high = ap (λ s. s.addr) (section_is f.entry f.sizes f.addrs bytes f.rows n low (omega arith))

pub size_is : (f : Frame) (bytes : List (List ℕ)) (n : ℕ) → text ≤ n → n ≤ written_data
    → (section (frame_with f bytes) n).size ≡ of_section f.sizes n
size_is f bytes n low high = ap (λ s. s.size) (section_is f.entry f.sizes f.addrs bytes f.rows n low (omega arith))

-- each section is above the base
pub above_base : (f : Frame) (bytes : List (List ℕ)) → IsPlaced (frame_with f bytes) → (n : ℕ) → text ≤ n → n ≤ written_data
    → text_start ≤ of_section f.addrs n
above_base f bytes placed n low high =
    let above = addr_above (frame_with f bytes) placed n low (omega arith) in
    let e = addr_is f bytes n low high in
    omega (arith, above, e)

-- each section ends within the file
pub ends_within : (f : Frame) (bytes : List (List ℕ)) → IsPlaced (frame_with f bytes) → (n : ℕ) → text ≤ n → n ≤ written_data
    → of_section f.addrs n - image_base + of_section f.sizes n ≤ image_size (frame_with f bytes)
ends_within f bytes placed n low high =
    let ends = sections_end (frame_with f bytes) placed (n - 1) (omega arith) in
    let addr = addr_is f bytes n low high in
    let size = size_is f bytes n low high in
    let P : ℕ → Type 0 = λ a. a - image_base + of_section f.sizes n ≤ image_size (frame_with f bytes) in
    let Q : ℕ → Type 0 = λ m. (section (frame_with f bytes) n).addr - image_base + m ≤ image_size (frame_with f bytes) in
    subst P addr (subst Q size ends)

-- the bytes of a section with nothing in it
blank_at : (sizes : List ℕ) (i : ℕ) → i < 8 → get_or (blank_bytes sizes) i [] ≡ replicate (of_section sizes (i + 1)) (padding_of (i + 1))
blank_at sizes zero low = refl
blank_at sizes (suc zero) low = refl
blank_at sizes (suc (suc zero)) low = refl
blank_at sizes (suc (suc (suc zero))) low = refl
blank_at sizes (suc (suc (suc (suc zero)))) low = refl
blank_at sizes (suc (suc (suc (suc (suc zero))))) low = refl
blank_at sizes (suc (suc (suc (suc (suc (suc zero)))))) low = refl
blank_at sizes (suc (suc (suc (suc (suc (suc (suc zero))))))) low = refl
blank_at sizes (suc (suc (suc (suc (suc (suc (suc (suc i)))))))) low = absurd (omega (arith, low))

blank_section : (f : Frame) (n : ℕ) → text ≤ n → n ≤ written_data
    → (section (blank f) n).bytes ≡ replicate (of_section f.sizes n) (padding_of n)
blank_section f n low high =
    let e : n - 1 + 1 ≡ n = omega arith in
    let P : ℕ → Type 0 = λ m. get_or (blank_bytes f.sizes) (n - 1) [] ≡ replicate (of_section f.sizes m) (padding_of m) in
    ap (λ s. s.bytes) (section_is f.entry f.sizes f.addrs (blank_bytes f.sizes) f.rows n low (omega arith))
    ∙ subst P e (blank_at f.sizes (n - 1) (omega arith))

-- an offset of a section in a file, counted from the section's start
pub byte_in : (f : Frame) (b : List ℕ) (n p : ℕ) → text ≤ n → n ≤ written_data → text_start ≤ of_section f.addrs n
    → of_section f.addrs n ≤ image_base + p → image_base + p < of_section f.addrs n + of_section f.sizes n
    → get_or (slice_range b (of_section f.addrs n - image_base) (of_section f.addrs n - image_base + of_section f.sizes n))
    (image_base + p - of_section f.addrs n) 0 ≡ get_or b p 0
byte_in f b n p low high above from to =
    let d : ℕ = image_base + p - of_section f.addrs n in
    let here : of_section f.addrs n - image_base + d ≡ p = omega arith in
    slice-at b (of_section f.addrs n - image_base) (of_section f.sizes n) d (omega arith) ∙ ap (λ k. get_or b k 0) here

-- in a section with nothing in it is padding
pub padding_at : (f : Frame) → IsPlaced (blank f) → (n p : ℕ) → text ≤ n → n ≤ written_data
    → of_section f.addrs n ≤ image_base + p → image_base + p < of_section f.addrs n + of_section f.sizes n
    → get_or (elf_bytes (blank f)) p 0 ≡ padding_of n
padding_at f placed n p low high from to =
    let b : List ℕ = elf_bytes (blank f) in
    let d : ℕ = image_base + p - of_section f.addrs n in
    let addr = addr_is f (blank_bytes f.sizes) n low high in
    let size = size_is f (blank_bytes f.sizes) n low high in
    let P : ℕ → Type 0 = λ a. slice_range b (a - image_base) (a - image_base + (section (blank f) n).size) ≡ (section (blank f) n).bytes in
    let Q : ℕ → Type 0 = λ m. slice_range b (of_section f.addrs n - image_base) (of_section f.addrs n - image_base + m) ≡ (section (blank f) n).bytes in
    let stands = subst Q size (subst P addr (sections_in_file (blank f) n placed low high)) in
    let above = above_base f (blank_bytes f.sizes) placed n low high in
    sym (byte_in f b n p low high above from to)
    ∙ (ap (λ xs. get_or xs d 0) (stands ∙ blank_section f n low high)
    ∙ get_or-replicate (of_section f.sizes n) d (padding_of n) 0 (omega arith))
