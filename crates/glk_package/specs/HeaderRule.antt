-- Which lines the objects of a file may have.
use Rattle.std.specs.Prelude.{◌≡◌, ℕ, List, [], ◌∷◌, ⊤, Option, Some, None}
use Rattle.glk_package.specs.declared.object_rules.HeaderRule.{HeaderRule as CallRule}
use Rattle.glk_package.specs.declared.object_rules.HeaderRule.TheVariants as rule
use Rattle.glk_package.specs.ObjectEntry.{ObjectEntry}

-- each object its own, or all that of the first of them, or exactly this one
pub data HeaderRule : Type 0 where
  any : HeaderRule
  uniform : HeaderRule
  exactly : List ℕ → HeaderRule

-- the rule of a call, without where its line is in memory
abbrev pub header_view : CallRule → HeaderRule
header_view rule.Any = any
header_view rule.Uniform = uniform
header_view (rule.Exactly line) = exactly line.now

-- An object may have this line.
abbrev pub Allows : HeaderRule → List ℕ → Type 0
Allows any line = ⊤
Allows uniform line = ⊤
Allows (exactly first) line = line ≡ first

-- The line is `here`, and another one is asked: `first`.
pub record IsMismatch (headers : HeaderRule) (first here : List ℕ) : Type 0 where
  pub asked : headers ≡ exactly first
  pub other : ¬ (here ≡ first)

-- the line of the first of these objects
abbrev pub first_line : List ObjectEntry → Option (List ℕ)
first_line [] = None
first_line (o ∷ os) = Some o.line

-- this line, or one that is yet open
abbrev pub line_or_open : Option (List ℕ) → HeaderRule
line_or_open None = uniform
line_or_open (Some line) = exactly line

-- The rule for the objects after these: the first object, if there is one, settles a line that is yet open.
abbrev pub header_after : HeaderRule → List ObjectEntry → HeaderRule
header_after any objects = any
header_after uniform objects = line_or_open (first_line objects)
header_after (exactly first) objects = exactly first
