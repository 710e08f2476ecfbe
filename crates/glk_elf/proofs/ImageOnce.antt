-- The image of placed parts is determined by the entry, the rows, and the sizes and bytes of the sections.
use Rattle.std.proofs.Common.{◌≡◌, ◌-◌, ◌<◌, ◌≤◌, ◌∙◌, inl, inr, ℕ, List, [], ◌∷◌, ◌++◌, length, take, drop, map, get_or, arith, refl, sym, ap, subst}
use Rattle.std.proofs.lemmas.Bool.{cases_lt}
use Rattle.std.proofs.lemmas.List.{get_or-map, get_or-take, get_or_append_left, get_or-append_right, length-take-le, length-drop}
use Rattle.glk_elf.specs.Sections.{text, written_data, tbss}
use Rattle.glk_elf.specs.Image.{Parts, Row, Section, section, no_section, with_placed_headers, elf_bytes}
use Rattle.glk_elf.specs.Placing.{IsPlaced, sizes_of, addrs_of}
use Rattle.glk_elf.proofs.Elements.{elements, elements_are}
use Rattle.glk_elf.proofs.PlaceLemmas.{section_at, size_at}
use Rattle.glk_elf.proofs.PlacingLemmas.{eleven_sections, same_addresses, same_sections, same_parts}

-- a section without bytes
abbrev emptied : Section → Section
emptied s = record { addr = s.addr; size = s.size; bytes = [] }

-- the same parts, but that no section has bytes that is not in the file
abbrev bare : Parts → Parts
bare p = record { entry = p.entry; sections = take written_data p.sections ++ map emptied (drop written_data p.sections); rows = p.rows }

record IsBare (p : Parts) : Type 0 where
  pub image : elf_bytes (bare p) ≡ elf_bytes p
  pub long : length (bare p).sections ≡ 11
  pub sizes : sizes_of (bare p) ≡ sizes_of p
  pub addrs : addrs_of (bare p) ≡ addrs_of p

bare_of_eleven : (entry : ℕ) (rows : List Row) (s1 s2 s3 s4 s5 s6 s7 s8 s9 s10 s11 : Section)
    → IsBare (record { entry = entry; sections = s1 ∷ s2 ∷ s3 ∷ s4 ∷ s5 ∷ s6 ∷ s7 ∷ s8 ∷ s9 ∷ s10 ∷ s11 ∷ []; rows = rows })
unfolding elf_bytes with_placed_headers
bare_of_eleven entry rows s1 s2 s3 s4 s5 s6 s7 s8 s9 s10 s11 =
    record { image = refl; long = refl; sizes = refl; addrs = refl }

is_bare : (p : Parts) → length p.sections ≡ 11 → IsBare p
unfolding elements
is_bare p long =
    let d : ℕ → Section = λ i. get_or p.sections i no_section in
    let are : p.sections ≡ elements p.sections 0 11 = elements_are p.sections 0 11 long in
    let P : List Section → Type 0 = λ ss. IsBare (record { entry = p.entry; sections = ss; rows = p.rows }) in
    subst P (sym are) (bare_of_eleven p.entry p.rows (d 0) (d 1) (d 2) (d 3) (d 4) (d 5) (d 6) (d 7) (d 8) (d 9) (d 10))

-- the sections in the file stay, and the others lose their bytes
written_stay : (p : Parts) (i : ℕ) → length p.sections ≡ 11 → i < 8 → section_at (bare p) i ≡ section_at p i
written_stay p i long low =
    let eight : length (take 8 p.sections) ≡ 8 = length-take-le 8 p.sections (omega arith) in
    get_or_append_left (take 8 p.sections) (map emptied (drop 8 p.sections)) no_section i (omega arith)
    ∙ get_or-take 8 p.sections i no_section low

others_emptied : (p : Parts) (i : ℕ) → length p.sections ≡ 11 → 8 ≤ i → i < 11 → (section_at (bare p) i).bytes ≡ []
others_emptied p i long high low =
    let eight : length (take 8 p.sections) ≡ 8 = length-take-le 8 p.sections (omega arith) in
    let rest : length (drop 8 p.sections) ≡ 3 = omega (arith, length-drop 8 p.sections) in
    ap (λ s. s.bytes)
    (get_or-append_right (take 8 p.sections) (map emptied (drop 8 p.sections)) 8 i no_section eight high
    ∙ get_or-map emptied (drop 8 p.sections) (i - 8) no_section no_section (omega arith))

bare_size : (p : Parts) → IsBare p → (n : ℕ) → (section (bare p) n).size ≡ (section p n).size
bare_size p is n = sym (size_at (bare p).sections (n - 1)) ∙ ap (λ xs. get_or xs (n - 1) 0) is.sizes ∙ size_at p.sections (n - 1)

pub image_once : (p q : Parts) → IsPlaced p → IsPlaced q → p.entry ≡ q.entry → p.rows ≡ q.rows
    → ((n : ℕ) → text ≤ n → n ≤ tbss → (section p n).size ≡ (section q n).size)
    → ((n : ℕ) → text ≤ n → n ≤ written_data → (section p n).bytes ≡ (section q n).bytes) → elf_bytes p ≡ elf_bytes q
image_once p q x y entry rows sizes bytes =
    let mine = eleven_sections p x in
    let other = eleven_sections q y in
    let a : IsBare p = is_bare p mine in
    let b : IsBare q = is_bare q other in
    let sections : (bare p).sections ≡ (bare q).sections =
    same_sections (bare p) (bare q) a.long b.long (a.addrs ∙ same_addresses p q x y sizes ∙ sym b.addrs)
    (λ n low high. bare_size p a n ∙ sizes n low high ∙ sym (bare_size q b n))
    (λ n low high. elim (cases_lt written_data n) [
      | inl over ↦ others_emptied p (n - 1) mine (omega arith) (omega arith) ∙ sym (others_emptied q (n - 1) other (omega arith) (omega arith))
      | inr within ↦
          ap (λ s. s.bytes) (written_stay p (n - 1) mine (omega arith)) ∙ bytes n low within
          ∙ sym (ap (λ s. s.bytes) (written_stay q (n - 1) other (omega arith)))
    ]) in
    sym a.image ∙ ap (λ r. elf_bytes r) (same_parts (bare p) (bare q) entry sections rows) ∙ b.image
