-- What each outcome means.
use Rattle.std.specs.Prelude.{◌≡◌, ◌⊎◌, ℕ, Bool, List, codes, Result, Ok, Err, MatchResult, ⊤}
use Rattle.glk_base.specs.declared.fault.Fault.{Fault}
use Rattle.glk_cause.specs.declared.cause.Cause.{Cause}
use Rattle.glk_cause.specs.declared.cause.Cause.TheVariants as cause
use Rattle.glk_cause.specs.declared.cause.Form.TheVariants as form
use Rattle.glk_io.specs.Changes.{FileState, SourceState, SinkState, FilesUnchanged, SinkUnchanged}
use Rattle.glk_words.specs.declared.commands.Command.{Command}
use Rattle.glk_words.specs.declared.commands.Command.TheVariants as command
use Rattle.glk_words.specs.declared.commands.Flag.TheVariants as flag
use Rattle.glk_words.specs.declared.usage.UsageBad.{UsageBad}
use Rattle.glk_words.specs.CommandLine.{CommandLine, Invocation, help, version, invocation, command_line_of, IsValue, IsTruth}
use Rattle.glk_link.specs.Options.{AsksUnbuilt}
use Rattle.glk_link.specs.Answers.{LinkAnswer, AnswersUnlessIoFails}
use Rattle.glk_link.specs.declared.options.LinkOptions.{LinkOptions}
use Rattle.glk_link.specs.declared.options.Report.{Report}
use Rattle.glk_tools.specs.Mkobj.{MkobjAnswer, MkobjUnlessIoFails}
use Rattle.glk_tools.specs.Dump.{DumpAnswer, DumpUnlessIoFails}
use Rattle.glk_tools.specs.Nm.{NmAnswer, NmUnlessIoFails}
use Rattle.glk_tools.specs.Addr2line.{Addr2lineAnswer, Addr2lineUnlessIoFails}
use Rattle.glk_nm.specs.declared.options.NmOptions.{NmOptions}
use Rattle.glk_tools.specs.Stdout.{Prints}
use Rattle.glk_messages.specs.Outcomes.{outcome_of}
use Rattle.glk_messages.specs.declared.outcome.Outcome.{Outcome}
use Rattle.glk_messages.specs.declared.outcome.Outcome.TheVariants as outcome
use Rattle.glk_run.specs.LinkWords.{IsLink}
use Rattle.glk_run.specs.NmWords.{IsListing}
use Rattle.glk_run.specs.Help.{help_text, version_text}

-- The outcome is that of an answer of this link, and means what that answer means; the answer is the one that must come. What
-- is not built yet is refused whatever the files hold, and leaves them as they are.
pub record LinksBy (old new : FileState) (opts : LinkOptions) (o : Outcome) : Type 0 where
  pub answer : Result Report (Fault Cause)
  pub outcome_is : o ≡ outcome_of answer
  pub means : LinkAnswer old new opts answer
  pub must : AnswersUnlessIoFails old new opts answer
  pub unbuilt : AsksUnbuilt opts → (o ≡ outcome.Refused (cause.NotYet form.Flag)) × FilesUnchanged old new

-- what `link` does; it may be out of memory before it begins
abbrev pub LinkOutcome : FileState → FileState → Invocation → Outcome → Type 0
LinkOutcome old new words o =
    ((o ≡ outcome.OutOfMemory) × FilesUnchanged old new) ⊎ ((opts : LinkOptions) × IsLink words opts × LinksBy old new opts o)

-- the archive that is written where no other is named
abbrev pub default_archive : List ℕ
default_archive = codes "out.a"

-- what `mkobj` does: the outcome is that of its answer, and the answer is the one that must come
pub record MkobjOutcome (old new : FileState) (words : Invocation) (o : Outcome) : Type 0 where
  pub out : List ℕ
  pub is_out : IsValue words.settings flag.Out default_archive out
  pub answer : Result (Unit {0}) (Fault Cause)
  pub outcome_is : o ≡ outcome_of answer
  pub means : MkobjAnswer old new words.file out answer
  pub must : MkobjUnlessIoFails old new words.file answer

-- the same of `dump`, for the file at a path
pub record DumpOutcome (old new : FileState) (before after : SinkState) (path : List ℕ) (o : Outcome) : Type 0 where
  pub answer : Result (Unit {0}) (Fault Cause)
  pub outcome_is : o ≡ outcome_of answer
  pub means : DumpAnswer old new before after path answer
  pub must : DumpUnlessIoFails old new before after path answer

-- what `nm` does: the outcome is that of its answer, and the answer is the one that must come
pub record NmOutcome (old new : FileState) (before after : SinkState) (words : Invocation) (o : Outcome) : Type 0 where
  pub opts : NmOptions
  pub asked : IsListing words opts
  pub answer : Result (Unit {0}) (Fault Cause)
  pub outcome_is : o ≡ outcome_of answer
  pub means : NmAnswer old new before after opts words.file answer
  pub must : NmUnlessIoFails old new before after opts words.file answer

-- what `addr2line` does: the outcome is that of its answer, and the answer is the one that must come
pub record Addr2lineOutcome (old new : FileState) (from to : SourceState) (before after : SinkState) (words : Invocation) (o : Outcome) : Type 0 where
  pub inline : Bool
  pub asked : IsTruth words.settings flag.Inline inline
  pub answer : Result (Unit {0}) (Fault Cause)
  pub outcome_is : o ≡ outcome_of answer
  pub means : Addr2lineAnswer old new from to before after inline words.file answer
  pub must : Addr2lineUnlessIoFails old new from to before after inline words.file answer

-- a text of the program's own is printed
pub record PrintOutcome (before after : SinkState) (text : List ℕ) (o : Outcome) : Type 0 where
  pub answer : Result (Unit {0}) (Fault Cause)
  pub outcome_is : o ≡ outcome_of answer
  pub prints : Prints before after text answer

-- a form that is not built yet, and nothing was done
pub record IsUnbuilt (old new : FileState) (refusal : Cause) (o : Outcome) : Type 0 where
  pub outcome_is : o ≡ outcome.Refused refusal
  pub files : FilesUnchanged old new

-- what a command does; `dump`, `nm` and `addr2line` alone write to standard output, and `addr2line` alone reads standard input
abbrev pub CommandOutcome : FileState → FileState → SourceState → SourceState → SinkState → SinkState → Invocation → Command → Outcome → Type 0
CommandOutcome old new from to before after words command.Link o = SinkUnchanged before after × LinkOutcome old new words o
CommandOutcome old new from to before after words command.Mkobj o = SinkUnchanged before after × MkobjOutcome old new words o
CommandOutcome old new from to before after words command.Dump o = DumpOutcome old new before after words.file o
CommandOutcome old new from to before after words command.Nm o = NmOutcome old new before after words o
CommandOutcome old new from to before after words command.Addr2line o = Addr2lineOutcome old new from to before after words o
CommandOutcome old new from to before after words c o = SinkUnchanged before after × IsUnbuilt old new (cause.NotYet form.Command) o

-- what the words ask for is done
abbrev pub Does : FileState → FileState → SourceState → SourceState → SinkState → SinkState → CommandLine → Outcome → Type 0
Does old new from to before after help o = FilesUnchanged old new × PrintOutcome before after help_text o
Does old new from to before after version o = FilesUnchanged old new × PrintOutcome before after version_text o
Does old new from to before after (invocation words) o = CommandOutcome old new from to before after words words.command o

-- nothing was done, and the outcome is the expected one
pub record DoesNothing (old new : FileState) (before after : SinkState) (expected o : Outcome) : Type 0 where
  pub outcome_is : o ≡ expected
  pub files : FilesUnchanged old new
  pub silent : SinkUnchanged before after

-- the table of outcomes: what the words ask for is done, or they are faulty, or there is no memory to read them
abbrev pub RunOutcome : FileState → FileState → SourceState → SourceState → SinkState → SinkState → List (List ℕ) → Outcome → Type 0
RunOutcome old new from to before after words o =
    MatchResult (command_line_of words) (λ line. Does old new from to before after line o)
    (λ bad. DoesNothing old new before after (outcome.Usage bad) o)
    ⊎ DoesNothing old new before after outcome.OutOfMemory o

-- these commands print what a file holds
abbrev pub PrintsFile : Command → Type 0
PrintsFile command.Dump = ⊤
PrintsFile command.Nm = ⊤
PrintsFile command.Addr2line = ⊤
PrintsFile c = ⊥

-- The words ask for nothing that is printed: they are faulty, or of a command that prints no file.
abbrev pub PrintsNothing : Result CommandLine UsageBad → Type 0
PrintsNothing (Err bad) = ⊤
PrintsNothing (Ok help) = ⊥
PrintsNothing (Ok version) = ⊥
PrintsNothing (Ok (invocation words)) = ¬ PrintsFile words.command

-- this command reads standard input
abbrev pub ReadsInput : Command → Type 0
ReadsInput command.Addr2line = ⊤
ReadsInput c = ⊥

-- The words ask for nothing for which standard input is read: they are faulty, or of a command that does not read it, or for the
-- texts of the program itself.
abbrev pub LeavesInput : Result CommandLine UsageBad → Type 0
LeavesInput (Err bad) = ⊤
LeavesInput (Ok help) = ⊤
LeavesInput (Ok version) = ⊤
LeavesInput (Ok (invocation words)) = ¬ ReadsInput words.command

-- these commands are built
abbrev pub IsBuilt : Command → Type 0
IsBuilt command.Link = ⊤
IsBuilt command.Mkobj = ⊤
IsBuilt command.Dump = ⊤
IsBuilt command.Nm = ⊤
IsBuilt command.Addr2line = ⊤
IsBuilt c = ⊥

-- The words ask for nothing for which a file is opened: they are faulty, or of a command that is not built yet, or for
-- the texts of the program itself.
abbrev pub OpensNothing : Result CommandLine UsageBad → Type 0
OpensNothing (Err bad) = ⊤
OpensNothing (Ok help) = ⊤
OpensNothing (Ok version) = ⊤
OpensNothing (Ok (invocation words)) = ¬ IsBuilt words.command
