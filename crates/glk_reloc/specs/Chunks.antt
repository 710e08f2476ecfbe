-- What writing fields chunk after chunk answers.
use Rattle.std.specs.Prelude.{List, All, Result, Ok, Err}
use Rattle.glk_base.specs.declared.fault.Fault.{Fault}
use Rattle.glk_base.specs.declared.fault.Fault.TheVariants.{Bad, OutOfMemory}
use Rattle.glk_reloc.specs.declared.fields.Field.{Field}
use Rattle.glk_reloc.specs.declared.fields.Overflow.{Overflow}
use Rattle.glk_reloc.specs.Fields.{HasRoom, IsFirstOverflow}

-- Ok where each field has room for its value, else the first that has none; out of memory says nothing
abbrev pub AnswersFor : List Field → Result (Unit {0}) (Fault Overflow) → Type 0
AnswersFor fields (Ok u) = All HasRoom fields
AnswersFor fields (Err (Bad overflow)) = IsFirstOverflow fields overflow
AnswersFor fields (Err OutOfMemory) = Unit {0}
