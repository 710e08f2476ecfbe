-- What each function of the writer adds, of the parts and sections as the code has them.
use Rattle.std.specs.Prelude.{◌≡◌, ℕ, ◌-◌, List, ◌++◌, map, take}
use Rattle.glk_base.specs.Fields.{fields_bytes}
use Rattle.glk_elf.specs.Gabi.{e_ident, elf_header_fields, program_header_bytes, section_header_bytes, symbol_bytes}
use Rattle.glk_elf.specs.Sections.{Kind, section_names}
use Rattle.glk_elf.specs.Image.{Parts, row_names, symbol_of, elf_header, text_segment, load_segment, tls_segment, offset_after, placed_header, symtab_header, strings_header, with_placed_headers}
use Rattle.glk_elf.specs.Placing.{parts_with}
use Rattle.glk_elf.specs.Frames.{frame_with}
use Rattle.glk_elf.specs.Views.{row_view, symbol_row, frame_view, blank_view, bytes_view, number_of, kind_of}
use Rattle.glk_elf.specs.declared.parts.SymRow.{SymRow}
use Rattle.glk_elf.specs.declared.parts.SectionBytes.{SectionBytes}
use Rattle.glk_elf.specs.declared.frame.Frame.{Frame}
use Rattle.glk_elf.specs.declared.frame.SymbolRow.{SymbolRow}
use Rattle.glk_elf.specs.declared.sections.Section.{Section}

-- the parts of an image, as `ElfParts::new` makes them
abbrev pub made_parts : ℕ → List ℕ → List ℕ → SectionBytes → List SymRow → Parts
made_parts entry sizes addrs bytes rows = parts_with entry sizes addrs (bytes_view bytes) (map row_view rows)

-- the names of rows, and of sections
abbrev pub names_of : List SymbolRow → List (List ℕ)
names_of rows = row_names (map symbol_row rows)

abbrev pub section_names_of : List Section → List (List ℕ)
section_names_of sections = map (λ s. (kind_of s).name) sections

-- the symbol of a row
abbrev pub row_bytes : ℕ → SymbolRow → List ℕ
row_bytes name_offset row = symbol_bytes (symbol_of name_offset (symbol_row row))

-- the parts with this frame and these bytes of the sections
abbrev pub stored_view : Frame → SectionBytes → Parts
stored_view f bytes = frame_with (frame_view f) (bytes_view bytes)

-- the ELF header of an image with this entry and this offset of its section headers, after what is before it
abbrev pub with_elf_header : ℕ → ℕ → List ℕ → List ℕ
with_elf_header e_entry e_shoff prefix = prefix ++ e_ident ++ fields_bytes (elf_header_fields (elf_header e_entry e_shoff))

-- program headers
abbrev pub text_header : Frame → List ℕ
text_header f = program_header_bytes (text_segment (blank_view f))

abbrev pub load_header : Frame → ℕ → Section → Section → Section → List ℕ
load_header f p_flags first written last =
    program_header_bytes (load_segment (blank_view f) p_flags (number_of first) (number_of written) (number_of last))

abbrev pub tls_header : Frame → List ℕ
tls_header f = program_header_bytes (tls_segment (blank_view f))

-- section headers
abbrev pub header_of : Frame → ℕ → Section → List ℕ
header_of f sh_name s = section_header_bytes (placed_header (blank_view f) sh_name (kind_of s))

abbrev pub with_headers : Frame → ℕ → List Section → List ℕ → List ℕ
with_headers f sh_name sections prefix = with_placed_headers (blank_view f) sh_name (map kind_of sections) prefix

abbrev pub symtab_header_of : Frame → List ℕ
symtab_header_of f = section_header_bytes (symtab_header (blank_view f))

-- the header of a table of strings was added, where its name is at its offset in .shstrtab
abbrev pub AddsStrings : List ℕ → List ℕ → ℕ → ℕ → ℕ → Kind → Type 0
AddsStrings old new sh_name sh_offset sh_size k =
    (sh_name ≡ offset_after (take (k.number - 1) section_names))
    → (new ≡ old ++ section_header_bytes (strings_header sh_offset sh_size k))
