-- The words of what a message names.
use Rattle.std.specs.Prelude.{ℕ, List, codes}
use Rattle.glk_base.specs.declared.rules.RuleFamily.{RuleFamily}
use Rattle.glk_base.specs.declared.rules.RuleFamily.TheVariants as family
use Rattle.glk_cause.specs.declared.cause.Form.{Form}
use Rattle.glk_cause.specs.declared.cause.Form.TheVariants as form
use Rattle.glk_cause.specs.declared.cause.Limit.{Limit}
use Rattle.glk_cause.specs.declared.cause.Limit.TheVariants as limit
use Rattle.glk_cause.specs.declared.cause.Table.{Table}
use Rattle.glk_cause.specs.declared.cause.Table.TheVariants as table
use Rattle.glk_words.specs.declared.usage.Why.{Why}
use Rattle.glk_words.specs.declared.usage.Why.TheVariants as why

-- a form that golink does not handle yet
unfoldable pub form_text : Form → List ℕ
form_text form.Command = codes "command"
form_text form.Flag = codes "flag"
form_text form.Size = codes "size"
form_text form.Object = codes "object"
form_text form.Symbol = codes "symbol"

-- what is wrong with a word
unfoldable pub why_text : Why → List ℕ
why_text why.NoCommand = codes "no command"
why_text why.UnknownCommand = codes "unknown command"
why_text why.UnknownFlag = codes "unknown flag"
why_text why.BadSyntax = codes "bad flag syntax"
why_text why.MissingValue = codes "missing value"
why_text why.BadValue = codes "bad value"
why_text why.MissingFile = codes "missing file"
why_text why.ExtraWord = codes "extra word"

-- the letter of a family of rules
unfoldable pub family_letter : RuleFamily → List ℕ
family_letter family.Archive = codes "A"
family_letter family.Object = codes "V"

-- what there is too much of
unfoldable pub limit_text : Limit → List ℕ
limit_text limit.Packages = codes "packages"
limit_text limit.Rows = codes "rows"
limit_text limit.File = codes "file"
limit_text limit.Address = codes "address"
limit_text limit.Names = codes "names"

-- a table of a function
unfoldable pub table_text : Table → List ℕ
table_text table.Info = codes "info"
table_text table.Pcsp = codes "pcsp"
table_text table.Pcfile = codes "pcfile"
table_text table.Pcline = codes "pcline"
table_text table.Pcinline = codes "pcinline"
table_text table.Pcdata = codes "pcdata"
table_text table.Funcdata = codes "funcdata"
table_text table.Tree = codes "tree"
