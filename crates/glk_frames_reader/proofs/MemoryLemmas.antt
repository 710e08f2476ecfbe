-- No address past the last of 64 bits is in a file.
use Rattle.std.proofs.Common.{◌≡◌, ℕ, zero, suc, ◌+◌, ◌^◌, ◌<◌, ◌≤◌, List, None, Bool, true, false, refl, ap, arith, inl, inr, ◌⊎◌, length}
use Rattle.std.specs.Prelude.{slice_range, ◌&&◌}
use Rattle.std.proofs.lemmas.Bool.{cases_lt, eqb-true, leb-true}
use Rattle.glk_elf.specs.Gabi.{PT_LOAD}
use Rattle.std.specs.Option.{option_map}
use Rattle.glk_elf.specs.First.{first_from}
use Rattle.glk_elf.specs.ReaderFile.{IsElf}
use Rattle.glk_elf.specs.ReaderHeaders.{file_header, program_header_at}
use Rattle.glk_elf.specs.ReaderRules.{IsBadSegment}
use Rattle.glk_elf.specs.ReaderSections.{covers, loaded, offset_in}
use Rattle.glk_elf.proofs.ReaderFacts.{not_bad}

-- three tests that do not hold together
and_false : (a b c : Bool) → (a ≡ true → b ≡ true → c ≡ true → ⊥) → (a && (b && c)) ≡ false
and_false false b c never = refl
and_false true false c never = refl
and_false true true false never = refl
and_false true true true never = absurd (never refl refl refl)

-- addresses that end past the last, or are more than the file has bytes
abbrev pub IsFar : List ℕ → ℕ → ℕ → Type 0
IsFar b addr len = (2 ^ 64 < addr + len) ⊎ (length b < len)

-- a header that is fine covers no such
covers_not : (b : List ℕ) (addr len k : ℕ) → (IsBadSegment b k → ⊥) → IsFar b addr len → covers b addr len k ≡ false
unfolding covers IsBadSegment
covers_not b addr len k fine far = and_false _ _ _ (λ loads begins inside.
    let is : (program_header_at b k).p_type ≡ PT_LOAD = eqb-true (program_header_at b k).p_type PT_LOAD loads in
    let start : (program_header_at b k).p_vaddr ≤ addr = leb-true (program_header_at b k).p_vaddr addr begins in
    let end : addr + len ≤ (program_header_at b k).p_vaddr + (program_header_at b k).p_filesz = leb-true (addr + len) ((program_header_at b k).p_vaddr + (program_header_at b k).p_filesz) inside in
    elim far [
      | inr more ↦ fine (is, inl (omega (arith, start, end, more)))
      | inl past ↦ elim (cases_lt (program_header_at b k).p_memsz (program_header_at b k).p_filesz) [
        | inl longer ↦ fine (is, inr (inl longer))
        | inr fits ↦ fine (is, inr (inr (omega (arith, end, fits, past))))
      ]
    ])

none_covers : (b : List ℕ) (addr len k n : ℕ) → IsElf b → k + n ≤ (file_header b).e_phnum → IsFar b addr len → first_from (covers b addr len) k n ≡ None
none_covers b addr len k zero elf inside far = refl
none_covers b addr len k (suc n) elf inside far =
    rw (covers_not b addr len k (λ bad. not_bad b k elf (omega arith) bad) far) (none_covers b addr len (k + 1) n elf (omega arith) far)

pub none_far : (b : List ℕ) (addr len : ℕ) → IsElf b → IsFar b addr len → loaded b addr len ≡ None
none_far b addr len elf far =
    ap (λ o. option_map (λ k. slice_range b (offset_in b addr k) (offset_in b addr k + len)) o) (none_covers b addr len 0 (file_header b).e_phnum elf (omega arith) far)
