-- What the program says of each outcome, in one line. A text is a list of pieces, one after the other.
use Rattle.std.specs.Prelude.{ℕ, ℤ, List, [], ◌∷◌, ◌==◌, length, codes, decimal, if◌then◌else◌}
use Rattle.std.specs.Fmt.{signed_decimal}
use Rattle.hex.specs.Hex.{encode_lower}
use Rattle.glk_cause.specs.declared.cause.Cause.{Cause}
use Rattle.glk_cause.specs.declared.cause.Cause.TheVariants as cause
use Rattle.glk_io.specs.Changes.{SinkState, SinkUnchanged}
use Rattle.glk_messages.specs.Names.{form_text, why_text, family_letter, limit_text, table_text}
use Rattle.glk_messages.specs.Lines.{line_of, ReportsLine}
use Rattle.glk_messages.specs.declared.outcome.Outcome.{Outcome}
use Rattle.glk_messages.specs.declared.outcome.Outcome.TheVariants as outcome

-- a symbol that has no definition, and the symbol that refers to it, where it has a name
unfoldable pub undefined_text : List ℕ → List ℕ → List (List ℕ)
undefined_text from name =
    if length from == 0 then codes "undefined: " ∷ name ∷ [] else from ∷ codes ": undefined: " ∷ name ∷ []

-- a field that the value does not fit
unfoldable pub overflow_text : List ℕ → ℕ → ℤ → List (List ℕ)
overflow_text name offset value =
    name ∷ codes "+" ∷ decimal offset ∷ codes ": value " ∷ signed_decimal value ∷ codes " does not fit" ∷ []

-- the table of texts of refusals
unfoldable pub refusal_text : Cause → List (List ℕ)
refusal_text (cause.NotYet form) = codes "not built yet: " ∷ form_text form ∷ []
refusal_text (cause.ReadFault path count) = codes "read fault: " ∷ path ∷ []
refusal_text (cause.WriteFault path count) = codes "write fault: " ∷ path ∷ []
refusal_text (cause.Absent path) = codes "no such file: " ∷ path ∷ []
refusal_text (cause.FileTooLong path limit) = path ∷ codes ": longer than " ∷ decimal limit ∷ []
refusal_text (cause.ConfigBad path line) = path ∷ codes ":" ∷ decimal line ∷ codes ": bad line" ∷ []
refusal_text (cause.Malformed path member family rule offset) =
    path ∷ codes ": member " ∷ decimal member ∷ codes ": rule " ∷ family_letter family ∷ decimal rule ∷ codes " at " ∷ decimal offset ∷ []
refusal_text (cause.NotGoObject path member) =
    path ∷ codes ": member " ∷ decimal member ∷ codes ": not a Go object for linux/amd64" ∷ []
refusal_text (cause.HeaderLine path member first here) =
    path ∷ codes ": member " ∷ decimal member ∷ codes ": " ∷ here ∷ codes " differs from " ∷ first ∷ []
refusal_text (cause.Fingerprint importer imported wanted found) =
    importer ∷ codes " imports " ∷ imported ∷ codes ": fingerprint " ∷ encode_lower wanted ∷ codes ", found " ∷ encode_lower found ∷ []
refusal_text (cause.MissingPackage importer imported) =
    importer ∷ codes " imports " ∷ imported ∷ codes ": not in the configuration" ∷ []
refusal_text (cause.Clash name first second packages) =
    name ∷ codes ": defined twice: " ∷ packages.0 ∷ codes " and " ∷ packages.1 ∷ []
refusal_text (cause.InitCycle name) = name ∷ codes ": init cycle" ∷ []
refusal_text (cause.Undefined from name) = undefined_text from name
refusal_text (cause.TypeBad name rule offset) = name ∷ codes ": rule Y" ∷ decimal rule ∷ codes " at " ∷ decimal offset ∷ []
refusal_text (cause.RelocBad name rule index) = name ∷ codes ": rule Q" ∷ decimal rule ∷ codes " at relocation " ∷ decimal index ∷ []
refusal_text (cause.KindBad name rule) = name ∷ codes ": rule J" ∷ decimal rule ∷ []
refusal_text (cause.TableBad func table rule) = func ∷ codes ": " ∷ table_text table ∷ codes ": rule P" ∷ decimal rule ∷ []
refusal_text (cause.TooLarge limit number) = codes "too large: " ∷ limit_text limit ∷ codes " " ∷ decimal number ∷ []
refusal_text (cause.Overflow name offset value) = overflow_text name offset value
refusal_text (cause.ElfBad path rule offset) = path ∷ codes ": rule E" ∷ decimal rule ∷ codes " at " ∷ decimal offset ∷ []
refusal_text (cause.TextBad path line rule) = path ∷ codes ":" ∷ decimal line ∷ codes ": rule X" ∷ decimal rule ∷ []
refusal_text (cause.TooBig path number) = path ∷ codes ": too big: " ∷ decimal number ∷ []

-- the table of texts; where the work was done there is none
unfoldable pub text_of : Outcome → List (List ℕ)
text_of outcome.Done = []
text_of (outcome.Refused refusal) = refusal_text refusal
text_of (outcome.Usage bad) = codes "word " ∷ decimal bad.word ∷ codes ": " ∷ why_text bad.why ∷ []
text_of outcome.OutOfMemory = codes "out of memory" ∷ []

-- what is written of an outcome: its line, or a prefix where a write failed; nothing where the work was done
abbrev pub Reports : SinkState → SinkState → Outcome → Type 0
Reports old new outcome.Done = SinkUnchanged old new
Reports old new o = ReportsLine old new (line_of (text_of o))
