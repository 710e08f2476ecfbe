-- The headers and symbols of a file read back where their bytes are.
use Rattle.std.proofs.Common.{◌≡◌, ◌+◌, ◌<◌, ◌^◌, ◌∙◌, ℕ, List, [], ◌∷◌, ◌++◌, length, drop, get_or, arith, refl, sym, ap, subst}
use Rattle.std.proofs.lemmas.List.{append_assoc, append-nil, drop-drop, get_or-drop}
use Rattle.std.specs.Prelude.{slice_range}
use Rattle.byteorder.specs.Endian.{little_number, little_bytes}
use Rattle.byteorder.specs.Numbers.{little_number-reads_back}
use Rattle.glk_base.specs.Bytes.{number_at}
use Rattle.glk_base.specs.BytesAt.{IsAt}
use Rattle.glk_base.specs.Fields.{fields_bytes}
use Rattle.glk_base.proofs.BytesAt.{is_at_here, range_read}
use Rattle.glk_elf.specs.Gabi.{ElfHeader, elf_header_fields, ProgramHeader, program_header_fields, SectionHeader, section_header_fields, Symbol, symbol_fields}
use Rattle.glk_elf.specs.ReaderHeaders.{file_header, program_header_from, section_header_from, symbol_from}

-- b begins with these bytes
pub record BeginsWith (b prefix : List ℕ) : Type 0 where
  pub rest : List ℕ
  pub joined : b ≡ prefix ++ rest

pub begins_itself : (b : List ℕ) → BeginsWith b b
begins_itself b = record { rest = []; joined = sym (append-nil b) }

-- what follows a prefix is at its length
pub part_is_at : (b prefix xs : List ℕ) → BeginsWith b (prefix ++ xs) → IsAt b (length prefix) xs
part_is_at b prefix xs begins =
    let P : List ℕ → Type 0 = λ t. IsAt t (length prefix) xs in
    subst P (sym (begins.joined ∙ append_assoc prefix xs begins.rest)) (is_at_here prefix xs begins.rest)

pub begins_shorter : (b prefix xs : List ℕ) → BeginsWith b (prefix ++ xs) → BeginsWith b prefix
begins_shorter b prefix xs begins = record { rest = xs ++ begins.rest; joined = begins.joined ∙ append_assoc prefix xs begins.rest }

-- what is read in a part
pub drop_of_part : (b : List ℕ) (at off : ℕ) (xs : List ℕ) (s : IsAt b at xs) → drop (at + off) b ≡ drop off (xs ++ s.rest)
drop_of_part b at off xs s = sym (drop-drop off at b) ∙ ap (λ t. drop off t) s.is

pub number_of_part : (n : ℕ) (b : List ℕ) (at off : ℕ) (xs : List ℕ) (s : IsAt b at xs) → number_at n b (at + off) ≡ little_number n (drop off (xs ++ s.rest))
unfolding number_at
number_of_part n b at off xs s = ap (little_number n) (drop_of_part b at off xs s)

pub number_of_first : (n : ℕ) (b : List ℕ) (at : ℕ) (xs : List ℕ) (s : IsAt b at xs) → number_at n b at ≡ little_number n (xs ++ s.rest)
unfolding number_at
number_of_first n b at xs s = ap (little_number n) s.is

pub range_of_part : (b : List ℕ) (at : ℕ) (xs : List ℕ) → IsAt b at xs → slice_range b at (at + length xs) ≡ xs
range_of_part b at xs s = range_read b at (at + length xs) xs s refl

pub byte_of_part : (b : List ℕ) (at off : ℕ) (xs : List ℕ) (s : IsAt b at xs) → get_or b (at + off) 0 ≡ get_or (xs ++ s.rest) off 0
byte_of_part b at off xs s = sym (get_or-drop at b off 0) ∙ ap (λ t. get_or t off 0) s.is

-- The numbers of a section header fit their fields.
pub record FitsSectionHeader (h : SectionHeader) : Type 0 where
  pub sh_name : h.sh_name < 2 ^ 32
  pub sh_type : h.sh_type < 2 ^ 32
  pub sh_flags : h.sh_flags < 2 ^ 64
  pub sh_addr : h.sh_addr < 2 ^ 64
  pub sh_offset : h.sh_offset < 2 ^ 64
  pub sh_size : h.sh_size < 2 ^ 64
  pub sh_link : h.sh_link < 2 ^ 32
  pub sh_info : h.sh_info < 2 ^ 32
  pub sh_addralign : h.sh_addralign < 2 ^ 64
  pub sh_entsize : h.sh_entsize < 2 ^ 64

-- a number at the start of fields, and what is after it
pub field_first : (w x : ℕ) (fs : List (ℕ × ℕ)) (after : List ℕ) → x < 256 ^ w → little_number w (fields_bytes ((w, x) ∷ fs) ++ after) ≡ x
unfolding fields_bytes
field_first w x fs after fits =
    rw (append_assoc (little_bytes w x) (fields_bytes fs) after) (little_number-reads_back w x (fields_bytes fs ++ after) fits)

-- a section header is read back
pub section_header_back : (b : List ℕ) (at : ℕ) (h : SectionHeader) → IsAt b at (fields_bytes (section_header_fields h)) → FitsSectionHeader h → section_header_from b at ≡ h
unfolding fields_bytes
section_header_back b at h s fits =
    let xs : List ℕ = fields_bytes (section_header_fields h) in
    let sh_name : number_at 4 b at ≡ h.sh_name = number_of_first 4 b at xs s ∙ little_number-reads_back 4 h.sh_name (drop 4 (xs ++ s.rest)) fits.sh_name in
    let sh_type : number_at 4 b (at + 4) ≡ h.sh_type = number_of_part 4 b at 4 xs s ∙ little_number-reads_back 4 h.sh_type (drop 8 (xs ++ s.rest)) fits.sh_type in
    let sh_flags : number_at 8 b (at + 8) ≡ h.sh_flags = number_of_part 8 b at 8 xs s ∙ little_number-reads_back 8 h.sh_flags (drop 16 (xs ++ s.rest)) fits.sh_flags in
    let sh_addr : number_at 8 b (at + 16) ≡ h.sh_addr = number_of_part 8 b at 16 xs s ∙ little_number-reads_back 8 h.sh_addr (drop 24 (xs ++ s.rest)) fits.sh_addr in
    let sh_offset : number_at 8 b (at + 24) ≡ h.sh_offset = number_of_part 8 b at 24 xs s ∙ little_number-reads_back 8 h.sh_offset (drop 32 (xs ++ s.rest)) fits.sh_offset in
    let sh_size : number_at 8 b (at + 32) ≡ h.sh_size = number_of_part 8 b at 32 xs s ∙ little_number-reads_back 8 h.sh_size (drop 40 (xs ++ s.rest)) fits.sh_size in
    let sh_link : number_at 4 b (at + 40) ≡ h.sh_link = number_of_part 4 b at 40 xs s ∙ little_number-reads_back 4 h.sh_link (drop 44 (xs ++ s.rest)) fits.sh_link in
    let sh_info : number_at 4 b (at + 44) ≡ h.sh_info = number_of_part 4 b at 44 xs s ∙ little_number-reads_back 4 h.sh_info (drop 48 (xs ++ s.rest)) fits.sh_info in
    let sh_addralign : number_at 8 b (at + 48) ≡ h.sh_addralign = number_of_part 8 b at 48 xs s ∙ little_number-reads_back 8 h.sh_addralign (drop 56 (xs ++ s.rest)) fits.sh_addralign in
    let sh_entsize : number_at 8 b (at + 56) ≡ h.sh_entsize = number_of_part 8 b at 56 xs s ∙ little_number-reads_back 8 h.sh_entsize s.rest fits.sh_entsize in
    rw (sh_name, sh_type, sh_flags, sh_addr, sh_offset, sh_size, sh_link, sh_info, sh_addralign, sh_entsize) refl

-- The numbers of a symbol fit their fields.
pub record FitsSymbol (x : Symbol) : Type 0 where
  pub st_name : x.st_name < 2 ^ 32
  pub st_info : x.st_info < 2 ^ 8
  pub st_other : x.st_other < 2 ^ 8
  pub st_shndx : x.st_shndx < 2 ^ 16
  pub st_value : x.st_value < 2 ^ 64
  pub st_size : x.st_size < 2 ^ 64

-- a byte at the start
first_byte : (x : ℕ) (after : List ℕ) → x < 2 ^ 8 → get_or (little_bytes 1 x ++ after) 0 0 ≡ x
first_byte x after fits =
    let e : little_number 1 (little_bytes 1 x ++ after) ≡ x = little_number-reads_back 1 x after fits in
    omega arith

-- a symbol is read back
pub symbol_back : (b : List ℕ) (at : ℕ) (x : Symbol) → IsAt b at (fields_bytes (symbol_fields x)) → FitsSymbol x → symbol_from b at ≡ x
unfolding fields_bytes
symbol_back b at x s fits =
    let xs : List ℕ = fields_bytes (symbol_fields x) in
    let st_name : number_at 4 b at ≡ x.st_name = number_of_first 4 b at xs s ∙ little_number-reads_back 4 x.st_name (drop 4 (xs ++ s.rest)) fits.st_name in
    let st_info : get_or b (at + 4) 0 ≡ x.st_info = byte_of_part b at 4 xs s ∙ first_byte x.st_info (drop 5 (xs ++ s.rest)) fits.st_info in
    let st_other : get_or b (at + 5) 0 ≡ x.st_other = byte_of_part b at 5 xs s ∙ first_byte x.st_other (drop 6 (xs ++ s.rest)) fits.st_other in
    let st_shndx : number_at 2 b (at + 6) ≡ x.st_shndx = number_of_part 2 b at 6 xs s ∙ little_number-reads_back 2 x.st_shndx (drop 8 (xs ++ s.rest)) fits.st_shndx in
    let st_value : number_at 8 b (at + 8) ≡ x.st_value = number_of_part 8 b at 8 xs s ∙ little_number-reads_back 8 x.st_value (drop 16 (xs ++ s.rest)) fits.st_value in
    let st_size : number_at 8 b (at + 16) ≡ x.st_size = number_of_part 8 b at 16 xs s ∙ little_number-reads_back 8 x.st_size s.rest fits.st_size in
    rw (st_name, st_info, st_other, st_shndx, st_value, st_size) refl

-- The numbers of a program header fit their fields.
pub record FitsProgramHeader (h : ProgramHeader) : Type 0 where
  pub p_type : h.p_type < 2 ^ 32
  pub p_offset : h.p_offset < 2 ^ 64
  pub p_vaddr : h.p_vaddr < 2 ^ 64
  pub p_filesz : h.p_filesz < 2 ^ 64
  pub p_memsz : h.p_memsz < 2 ^ 64

-- what the reader looks at in a program header
pub record SameMemory (g h : ProgramHeader) : Type 0 where
  pub p_type : g.p_type ≡ h.p_type
  pub p_offset : g.p_offset ≡ h.p_offset
  pub p_vaddr : g.p_vaddr ≡ h.p_vaddr
  pub p_filesz : g.p_filesz ≡ h.p_filesz
  pub p_memsz : g.p_memsz ≡ h.p_memsz

-- a program header is read back
pub program_header_back : (b : List ℕ) (at : ℕ) (h : ProgramHeader) → IsAt b at (fields_bytes (program_header_fields h)) → FitsProgramHeader h → SameMemory (program_header_from b at) h
unfolding fields_bytes
program_header_back b at h s fits =
    let xs : List ℕ = fields_bytes (program_header_fields h) in
    record {
      p_type = number_of_first 4 b at xs s ∙ little_number-reads_back 4 h.p_type (drop 4 (xs ++ s.rest)) fits.p_type;
      p_offset = number_of_part 8 b at 8 xs s ∙ little_number-reads_back 8 h.p_offset (drop 16 (xs ++ s.rest)) fits.p_offset;
      p_vaddr = number_of_part 8 b at 16 xs s ∙ little_number-reads_back 8 h.p_vaddr (drop 24 (xs ++ s.rest)) fits.p_vaddr;
      p_filesz = number_of_part 8 b at 32 xs s ∙ little_number-reads_back 8 h.p_filesz (drop 40 (xs ++ s.rest)) fits.p_filesz;
      p_memsz = number_of_part 8 b at 40 xs s ∙ little_number-reads_back 8 h.p_memsz (drop 48 (xs ++ s.rest)) fits.p_memsz;
    }

-- What the reader looks at in a file header.
pub record SameHeader (g h : ElfHeader) : Type 0 where
  pub e_type : g.e_type ≡ h.e_type
  pub e_machine : g.e_machine ≡ h.e_machine
  pub e_phoff : g.e_phoff ≡ h.e_phoff
  pub e_shoff : g.e_shoff ≡ h.e_shoff
  pub e_phentsize : g.e_phentsize ≡ h.e_phentsize
  pub e_phnum : g.e_phnum ≡ h.e_phnum
  pub e_shentsize : g.e_shentsize ≡ h.e_shentsize
  pub e_shnum : g.e_shnum ≡ h.e_shnum
  pub e_shstrndx : g.e_shstrndx ≡ h.e_shstrndx

-- The numbers of a file header fit their fields.
pub record FitsHeader (h : ElfHeader) : Type 0 where
  pub e_type : h.e_type < 2 ^ 16
  pub e_machine : h.e_machine < 2 ^ 16
  pub e_phoff : h.e_phoff < 2 ^ 64
  pub e_shoff : h.e_shoff < 2 ^ 64
  pub e_phentsize : h.e_phentsize < 2 ^ 16
  pub e_phnum : h.e_phnum < 2 ^ 16
  pub e_shentsize : h.e_shentsize < 2 ^ 16
  pub e_shnum : h.e_shnum < 2 ^ 16
  pub e_shstrndx : h.e_shstrndx < 2 ^ 16

-- a file header is read back
pub header_back : (b : List ℕ) (h : ElfHeader) → IsAt b 16 (fields_bytes (elf_header_fields h)) → FitsHeader h → SameHeader (file_header b) h
unfolding fields_bytes
header_back b h s fits =
    let xs : List ℕ = fields_bytes (elf_header_fields h) in
    record {
      e_type = number_of_part 2 b 16 0 xs s ∙ little_number-reads_back 2 h.e_type (drop 2 (xs ++ s.rest)) fits.e_type;
      e_machine = number_of_part 2 b 16 2 xs s ∙ little_number-reads_back 2 h.e_machine (drop 4 (xs ++ s.rest)) fits.e_machine;
      e_phoff = number_of_part 8 b 16 16 xs s ∙ little_number-reads_back 8 h.e_phoff (drop 24 (xs ++ s.rest)) fits.e_phoff;
      e_shoff = number_of_part 8 b 16 24 xs s ∙ little_number-reads_back 8 h.e_shoff (drop 32 (xs ++ s.rest)) fits.e_shoff;
      e_phentsize = number_of_part 2 b 16 38 xs s ∙ little_number-reads_back 2 h.e_phentsize (drop 40 (xs ++ s.rest)) fits.e_phentsize;
      e_phnum = number_of_part 2 b 16 40 xs s ∙ little_number-reads_back 2 h.e_phnum (drop 42 (xs ++ s.rest)) fits.e_phnum;
      e_shentsize = number_of_part 2 b 16 42 xs s ∙ little_number-reads_back 2 h.e_shentsize (drop 44 (xs ++ s.rest)) fits.e_shentsize;
      e_shnum = number_of_part 2 b 16 44 xs s ∙ little_number-reads_back 2 h.e_shnum (drop 46 (xs ++ s.rest)) fits.e_shnum;
      e_shstrndx = number_of_part 2 b 16 46 xs s ∙ little_number-reads_back 2 h.e_shstrndx s.rest fits.e_shstrndx;
    }
