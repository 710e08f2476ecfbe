-- Where the headers of a file are that keeps the first five rules.
use Rattle.std.specs.Prelude.{◌+◌, ◌*◌, ◌<◌, ◌≤◌, ◌^◌, ℕ, List, length}
use Rattle.glk_elf.specs.Gabi.{elf_header_size, program_header_size, section_header_size}
use Rattle.glk_elf.specs.ReaderHeaders.{file_header}

pub record HasLayout (b : List ℕ) : Type 0 where
  pub small : length b < 2 ^ 32
  pub room : elf_header_size ≤ length b
  pub segments : (file_header b).e_phoff + program_header_size * (file_header b).e_phnum ≤ length b
  pub sections : (file_header b).e_shoff + section_header_size * (file_header b).e_shnum ≤ length b
