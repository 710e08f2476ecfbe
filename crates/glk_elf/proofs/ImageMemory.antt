-- The sections of an image are in memory at their addresses.
use Rattle.std.proofs.Common.{◌≡◌, ◌+◌, ◌-◌, ◌<◌, ◌≤◌, ◌==◌, ◌&&◌, ◌∙◌, inl, inr, ℕ, zero, suc, Bool, true, false, Some, List, arith, refl, sym, ap, subst}
use Rattle.std.proofs.lemmas.Bool.{cases_lt, eqb-true, leb-true, le-leb, eq-eqb}
use Rattle.std.specs.Prelude.{slice_range, nat_le}
use Rattle.std.specs.Option.{option_map}
use Rattle.glk_elf.specs.First.{first_from, first_below}
use Rattle.glk_elf.specs.Gabi.{PT_LOAD, PF_R, PF_W, ProgramHeader}
use Rattle.glk_elf.specs.Sections.{text, rodata, gopclntab, go_module, written_data, noptrbss}
use Rattle.glk_elf.specs.Image.{Parts, section, end_of, image_base, text_segment, load_segment}
use Rattle.glk_elf.specs.Placing.{IsPlaced, text_start}
use Rattle.glk_elf.specs.ReaderHeaders.{file_header, program_header_at}
use Rattle.glk_elf.specs.ReaderSections.{covers, offset_in, loaded}
use Rattle.glk_elf.proofs.RecordsBack.{SameMemory}
use Rattle.glk_elf.proofs.ReaderFirst.{IsFound, found}
use Rattle.glk_elf.proofs.ImageSymbols.{SegmentsBack}
use Rattle.glk_elf.proofs.PlaceLemmas.{addr_above, ends_rise, starts_rise}

-- the search at one number finds it, or what the rest finds
exists_here : (test : ℕ → Bool) (k n : ℕ) (b : Bool) → test k ≡ b → (t : ℕ) × (first_from test (k + 1) n ≡ Some t) → (t : ℕ) × (first_from test k (suc n) ≡ Some t)
exists_here test k n true is rest = (k, rw is refl)
exists_here test k n false is rest = (rest.0, rw is rest.1)

-- what passes is found, or something before it
first_exists : (test : ℕ → Bool) (d k n : ℕ) → d < n → test (k + d) ≡ true → (t : ℕ) × (first_from test k n ≡ Some t)
first_exists test d k zero low passes = absurd (omega arith)
first_exists test zero k (suc n) low passes =
    let e : k + 0 ≡ k = omega arith in
    let P : ℕ → Type 0 = λ m. test m ≡ true in
    (k, rw (subst P e passes) refl)
first_exists test (suc d) k (suc n) low passes =
    let e : k + suc d ≡ k + 1 + d = omega arith in
    let P : ℕ → Type 0 = λ m. test m ≡ true in
    exists_here test k n (test k) refl (first_exists test d (k + 1) n (omega arith) (subst P e passes))

both : (a b : Bool) → (a && b) ≡ true → (a ≡ true) × (b ≡ true)
both true b holds = (refl, holds)
both false b holds = absurd (let e : false ≡ true = holds in cc)

-- what it says that a program header covers addresses
pub record Covers (h : ProgramHeader) (addr len : ℕ) : Type 0 where
  pub kind : h.p_type ≡ PT_LOAD
  pub from : h.p_vaddr ≤ addr
  pub to : addr + len ≤ h.p_vaddr + h.p_filesz

covers_means : (b : List ℕ) (addr len k : ℕ) → covers b addr len k ≡ true → Covers (program_header_at b k) addr len
unfolding covers
covers_means b addr len k holds =
    let h : ProgramHeader = program_header_at b k in
    let parts = both (h.p_type == PT_LOAD) (nat_le h.p_vaddr addr && nat_le (addr + len) (h.p_vaddr + h.p_filesz)) holds in
    let range = both (nat_le h.p_vaddr addr) (nat_le (addr + len) (h.p_vaddr + h.p_filesz)) parts.1 in
    record { kind = eqb-true h.p_type PT_LOAD parts.0; from = leb-true h.p_vaddr addr range.0; to = leb-true (addr + len) (h.p_vaddr + h.p_filesz) range.1 }

means_covers : (b : List ℕ) (addr len k : ℕ) → Covers (program_header_at b k) addr len → covers b addr len k ≡ true
unfolding covers
means_covers b addr len k c =
    let h : ProgramHeader = program_header_at b k in
    rw (eq-eqb h.p_type PT_LOAD c.kind, le-leb h.p_vaddr addr c.from, le-leb (addr + len) (h.p_vaddr + h.p_filesz) c.to) refl

-- a header that is the same in memory covers the same
same_covers : (g h : ProgramHeader) (addr len : ℕ) → SameMemory g h → Covers h addr len → Covers g addr len
same_covers g h addr len same c = record {
  kind = same.p_type ∙ c.kind;
  from = omega (arith, same.p_vaddr, c.from);
  to = omega (arith, same.p_vaddr, same.p_filesz, c.to);
}

-- each header of loaded memory has its file part at the addresses less the base
at_base : (p : Parts) → IsPlaced p → (b : List ℕ) → SegmentsBack p b → (k addr len : ℕ) → k < 5 → Covers (program_header_at b k) addr len → offset_in b addr k ≡ addr - image_base
at_base p placed b back zero addr len low c = omega (arith, back.text.p_offset, back.text.p_vaddr, c.from)
at_base p placed b back (suc zero) addr len low c =
    let above : text_start ≤ (section p rodata).addr = addr_above p placed rodata (omega arith) (omega arith) in
    omega (arith, back.constants.p_offset, back.constants.p_vaddr, c.from)
at_base p placed b back (suc (suc zero)) addr len low c =
    let above : text_start ≤ (section p go_module).addr = addr_above p placed go_module (omega arith) (omega arith) in
    omega (arith, back.variables.p_offset, back.variables.p_vaddr, c.from)
at_base p placed b back (suc (suc (suc zero))) addr len low c = absurd (omega (arith, back.storage.p_type, c.kind))
at_base p placed b back (suc (suc (suc (suc zero)))) addr len low c = absurd (omega (arith, back.stack.p_type, c.kind))
at_base p placed b back (suc (suc (suc (suc (suc k))))) addr len low c = absurd (omega (arith, low))

-- addresses that one of the first three headers covers are loaded from the offset at the addresses less the base
pub loaded_at : (p : Parts) → IsPlaced p → (b : List ℕ) → (file_header b).e_phnum ≡ 5 → SegmentsBack p b → (s addr len : ℕ) → s < 5 → Covers (program_header_at b s) addr len
    → loaded b addr len ≡ Some (slice_range b (addr - image_base) (addr - image_base + len))
loaded_at p placed b number back s addr len low c =
    let e : 0 + s ≡ s = omega arith in
    let P : ℕ → Type 0 = λ m. covers b addr len m ≡ true in
    let first = first_exists (covers b addr len) s 0 5 low (subst P (sym e) (means_covers b addr len s c)) in
    let is : IsFound (covers b addr len) 0 5 first.0 = found (covers b addr len) 0 5 first.0 first.1 in
    let place : offset_in b addr first.0 ≡ addr - image_base = at_base p placed b back first.0 addr len (omega (arith, is.to)) (covers_means b addr len first.0 is.passes) in
    let Q : ℕ → Type 0 = λ n. first_below n (covers b addr len) ≡ Some first.0 in
    let here : first_below (file_header b).e_phnum (covers b addr len) ≡ Some first.0 = subst Q (sym number) first.1 in
    ap (λ o. option_map (λ k. slice_range b (offset_in b addr k) (offset_in b addr k + len)) o) here
    ∙ ap (λ (n : ℕ). Some (slice_range b n (n + len))) place

-- a part of a section in the file is in one of them
in_segment : (p : Parts) → IsPlaced p → (flags first written last n at len : ℕ) → text ≤ first → first ≤ n → n ≤ written → written ≤ noptrbss → at + len ≤ (section p n).size
    → Covers (load_segment p flags first written last) ((section p n).addr + at) len
in_segment p placed flags first written last n at len a0 a1 a2 a3 room =
    let start : (section p first).addr ≤ (section p n).addr = starts_rise p placed first n a0 a1 (omega arith) in
    let end : end_of (section p n) ≤ end_of (section p written) = ends_rise p placed n written (omega arith) a2 a3 in
    record { kind = refl; from = omega arith; to = omega arith }

in_text : (p : Parts) → IsPlaced p → (at len : ℕ) → at + len ≤ (section p text).size → Covers (text_segment p) ((section p text).addr + at) len
in_text p placed at len room =
    let above : text_start ≤ (section p text).addr = addr_above p placed text (omega arith) (omega arith) in
    record { kind = refl; from = omega arith; to = omega arith }

-- a part of a section is loaded from where it is in the file
pub part_loaded : (p : Parts) → IsPlaced p → (b : List ℕ) → (file_header b).e_phnum ≡ 5 → SegmentsBack p b → (n at len : ℕ) → text ≤ n → n ≤ written_data → at + len ≤ (section p n).size
    → loaded b ((section p n).addr + at) len ≡ Some (slice_range b ((section p n).addr + at - image_base) ((section p n).addr + at - image_base + len))
part_loaded p placed b number back n at len low high room = elim (cases_lt n rodata) [
  | inl first ↦
      let e : text ≡ n = omega arith in
      let P : ℕ → Type 0 = λ m. at + len ≤ (section p m).size → loaded b ((section p m).addr + at) len ≡ Some (slice_range b ((section p m).addr + at - image_base) ((section p m).addr + at - image_base + len)) in
      let here : P text = λ fits. loaded_at p placed b number back 0 ((section p text).addr + at) len (omega arith) (same_covers (program_header_at b 0) (text_segment p) ((section p text).addr + at) len back.text (in_text p placed at len fits)) in
      subst P e here room
  | inr behind ↦ elim (cases_lt n go_module) [
    | inl constant ↦ loaded_at p placed b number back 1 ((section p n).addr + at) len (omega arith)
        (same_covers (program_header_at b 1) (load_segment p PF_R rodata gopclntab gopclntab) ((section p n).addr + at) len back.constants
        (in_segment p placed PF_R rodata gopclntab gopclntab n at len (omega arith) behind (omega arith) (omega arith) room))
    | inr variable ↦ loaded_at p placed b number back 2 ((section p n).addr + at) len (omega arith)
        (same_covers (program_header_at b 2) (load_segment p (PF_R + PF_W) go_module written_data noptrbss) ((section p n).addr + at) len back.variables
        (in_segment p placed (PF_R + PF_W) go_module written_data noptrbss n at len (omega arith) variable high (omega arith) room))
  ]
]

-- so is a whole one
pub section_loaded : (p : Parts) → IsPlaced p → (b : List ℕ) → (file_header b).e_phnum ≡ 5 → SegmentsBack p b → (n : ℕ) → text ≤ n → n ≤ written_data
    → loaded b (section p n).addr (section p n).size ≡ Some (slice_range b ((section p n).addr - image_base) ((section p n).addr - image_base + (section p n).size))
section_loaded p placed b number back n low high =
    let e : (section p n).addr + 0 ≡ (section p n).addr = omega arith in
    let P : ℕ → Type 0 = λ a. loaded b a (section p n).size ≡ Some (slice_range b (a - image_base) (a - image_base + (section p n).size)) in
    subst P e (part_loaded p placed b number back n 0 (section p n).size low high (omega arith))
