-- Causes by their sort: what a cause names, and what it says of the files.
use Rattle.std.specs.Prelude.{ℕ, List}
use Rattle.glk_cause.specs.declared.cause.Cause.{Cause}
use Rattle.glk_cause.specs.declared.cause.Cause.TheVariants as cause
use Rattle.glk_cause.specs.declared.cause.Form.{Form}
use Rattle.glk_cause.specs.declared.cause.Form.TheVariants as form

pub data Sort : Type 0 where
  by_reads : List ℕ → ℕ → Sort  -- a read of the path failed, and this is the count
  by_writes : List ℕ → ℕ → Sort  -- a write of the path failed, and this is the count
  of_file : List ℕ → Sort  -- there is no file at the path, or it is too long
  of_package : List ℕ → Sort  -- what the package file at the path holds
  of_input : List ℕ → Sort  -- what the one input of a command holds, a text or an image
  of_config : List ℕ → Sort  -- a line of the configuration at the path
  of_options : Sort  -- what is asked for, whatever files hold
  of_link : Sort  -- what files hold together
  foreign : Sort  -- no call on files answers it

abbrev pub sort_of_form : Form → Sort
sort_of_form form.Command = foreign
sort_of_form form.Flag = of_options
sort_of_form form.Size = of_link
sort_of_form form.Object = of_link
sort_of_form form.Symbol = of_link

-- the one table of all causes
abbrev pub sort_of : Cause → Sort
sort_of (cause.NotYet form) = sort_of_form form
sort_of (cause.ReadFault path count) = by_reads path count
sort_of (cause.WriteFault path count) = by_writes path count
sort_of (cause.Absent path) = of_file path
sort_of (cause.FileTooLong path limit) = of_file path
sort_of (cause.ConfigBad path line) = of_config path
sort_of (cause.Malformed path member family rule offset) = of_package path
sort_of (cause.NotGoObject path member) = of_package path
sort_of (cause.HeaderLine path member first here) = of_package path
sort_of (cause.Fingerprint importer imported wanted found) = of_link
sort_of (cause.MissingPackage importer imported) = of_link
sort_of (cause.Clash name first second packages) = of_link
sort_of (cause.InitCycle name) = of_link
sort_of (cause.Undefined from name) = of_link
sort_of (cause.TypeBad name rule offset) = of_link
sort_of (cause.RelocBad name rule index) = of_link
sort_of (cause.KindBad name rule) = of_link
sort_of (cause.TableBad func table rule) = of_link
sort_of (cause.TooLarge limit number) = of_link
sort_of (cause.Overflow name offset value) = of_link
sort_of (cause.ElfBad path rule offset) = of_input path
sort_of (cause.TextBad path line rule) = of_input path
sort_of (cause.TooBig path number) = of_input path
