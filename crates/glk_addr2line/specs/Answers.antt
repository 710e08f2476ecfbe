-- What `addr2line` answers.
use Rattle.std.specs.Prelude.{◌≡◌, ℕ, Bool, List, Result, Ok, Err}
use Rattle.glk_base.specs.declared.fault.Fault.{Fault}
use Rattle.glk_base.specs.declared.fault.Fault.TheVariants as fault
use Rattle.glk_io.specs.Changes.{SinkState, SinkUnchanged, SinkAppends, SinkFails}
use Rattle.glk_frames_reader.specs.Opening.{FileModule, IsSectionModule, BreaksTables}
use Rattle.glk_addr2line.specs.Texts.{input_text}
use Rattle.glk_addr2line.specs.declared.fault.LineFault.{LineFault}
use Rattle.glk_addr2line.specs.declared.fault.LineFault.TheVariants as line

-- the text of an input for a file, whose functions are those of its section
pub record IsAddressText (inline : Bool) (file input text : List ℕ) : Type 0 where
  pub functions : FileModule
  pub of_section : IsSectionModule file functions
  pub is : text ≡ input_text functions inline input

-- a file and an input have one text
abbrev pub IsOneAddressText : Type 0
IsOneAddressText = (inline : Bool) (file input one other : List ℕ)
    → IsAddressText inline file input one → IsAddressText inline file input other → one ≡ other

-- The text of an input is at the end of the sink, or a prefix of it where a write failed; nothing where the file has no
-- functions.
abbrev pub WritesAddresses : {T : Type 0} → SinkState → SinkState → Bool → List ℕ → List ℕ → Result T (Fault LineFault) → Type 0
WritesAddresses old new inline file input (Ok done) = (text : List ℕ) × IsAddressText inline file input text × SinkAppends old new text
WritesAddresses old new inline file input (Err (fault.Bad line.Failed)) =
    (text : List ℕ) × IsAddressText inline file input text × SinkFails old new text
WritesAddresses old new inline file input (Err (fault.Bad (line.Elf bad))) =
    BreaksTables file bad.rule bad.offset × SinkUnchanged old new
WritesAddresses old new inline file input (Err fault.OutOfMemory) = SinkUnchanged old new
