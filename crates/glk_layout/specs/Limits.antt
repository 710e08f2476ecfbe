-- What makes an image too large.
use Rattle.std.specs.Prelude.{◌≡◌, ℕ, ◌-◌, nat_lt, if◌then◌else◌, Option, Some, None}
use Rattle.glk_base.specs.Limits.{file_limit}
use Rattle.glk_base.specs.declared.fault.Fault.{Fault}
use Rattle.glk_base.specs.declared.fault.Fault.TheVariants as fault
use Rattle.glk_elf.specs.Sections.{written_data, noptrbss}
use Rattle.glk_elf.specs.Image.{image_base}
use Rattle.glk_elf.specs.Placing.{address_limit, names_limit}
use Rattle.glk_layout.specs.Placed.{PlacedContents}
use Rattle.glk_layout.specs.declared.limits.TooLarge.{TooLarge}
use Rattle.glk_layout.specs.declared.limits.SizeLimit.{SizeLimit}
use Rattle.glk_layout.specs.declared.limits.SizeLimit.TheVariants.{File, Address, Names}
use Rattle.glk_layout.specs.Symbols.{names_room}
use Rattle.glk_layout.specs.Layout.{section_end}

-- the end of .data in the file
abbrev pub file_end : PlacedContents → ℕ
file_end c = section_end c written_data - image_base

-- the end of the last section that takes addresses
abbrev pub last_address : PlacedContents → ℕ
last_address c = section_end c noptrbss

-- the refusal of a number that is above a limit
abbrev pub refusal_of : SizeLimit → ℕ → TooLarge
refusal_of limit number = record { limit = limit; number = number }

-- the first limit that is passed: of the file, of the addresses, of the symbols' names
unfoldable pub excess : PlacedContents → Option TooLarge
excess c =
    if nat_lt file_limit (file_end c) then Some (refusal_of File (file_end c))
    else (if nat_lt address_limit (last_address c) then Some (refusal_of Address (last_address c))
    else (if nat_lt names_limit (names_room c.symbols) then Some (refusal_of Names (names_room c.symbols))
    else None))

-- a refusal to place is the first limit that is passed
abbrev pub IsFaultOf : PlacedContents → Fault TooLarge → Type 0
IsFaultOf c (fault.Bad refusal) = excess c ≡ Some refusal
IsFaultOf c fault.OutOfMemory = Unit {0}
