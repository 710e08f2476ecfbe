-- What the objects of a file have to have in common.
use Rattle.std.specs.Prelude.{List}
use Rattle.glk_package.specs.declared.object_rules.ObjectRules.{ObjectRules as CallRules}
use Rattle.glk_package.specs.ObjectEntry.{ObjectEntry}
use Rattle.glk_package.specs.HeaderRule.{HeaderRule, any, uniform, header_view, header_after}
use Rattle.glk_package.specs.WidthRule.{WidthRule, any_width, uniform_width, width_view, width_after}

-- the rule for their lines, and the one for the length of their long hashes
pub record ObjectRules : Type 0 where
  pub headers : HeaderRule
  pub widths : WidthRule

-- nothing: each object stands for itself
abbrev pub any_rules : ObjectRules
any_rules = record { headers = any; widths = any_width }

-- one line, and one length of long hashes
abbrev pub uniform_rules : ObjectRules
uniform_rules = record { headers = uniform; widths = uniform_width }

-- the rules of a call
abbrev pub rules_view : CallRules → ObjectRules
rules_view rules = record { headers = header_view rules.headers; widths = width_view rules.widths }

-- the rules for the objects after these
abbrev pub rules_after : ObjectRules → List ObjectEntry → ObjectRules
rules_after rules objects = record { headers = header_after rules.headers objects; widths = width_after rules.widths objects }
