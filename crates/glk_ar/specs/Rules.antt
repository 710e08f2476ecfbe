-- The numbers of the rules on a member.
use Rattle.std.specs.Prelude.{ℕ}
use Rattle.glk_ar.specs.declared.headers.Rule.{Rule}
use Rattle.glk_ar.specs.declared.headers.Rule.TheVariants as rule

abbrev pub number_of : Rule → ℕ
number_of rule.Header = 2
number_of rule.End = 3
number_of rule.Size = 4
number_of rule.Body = 5
number_of rule.Name = 6
