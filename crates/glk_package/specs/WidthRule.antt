-- Which length the long hashes of the objects of a file may have.
use Rattle.std.specs.Prelude.{◌≡◌, ℕ, List, [], ◌∷◌, map, ⊤, Option, Some, None}
use Rattle.std.specs.Option.{option_or}
use Rattle.glk_obj.specs.Records.{hash_width}
use Rattle.glk_package.specs.declared.object_rules.WidthRule.{WidthRule as CallRule}
use Rattle.glk_package.specs.declared.object_rules.WidthRule.TheVariants as rule
use Rattle.glk_package.specs.ObjectEntry.{ObjectEntry}

-- each object its own, or all that of the first of them that has long hashes, or exactly this one
pub data WidthRule : Type 0 where
  any_width : WidthRule
  uniform_width : WidthRule
  exactly_width : ℕ → WidthRule

abbrev pub width_view : CallRule → WidthRule
width_view rule.Any = any_width
width_view rule.Uniform = uniform_width
width_view (rule.Exactly width) = exactly_width width

-- An object may have long hashes of this length, or none.
abbrev pub FitsWidth : WidthRule → Option ℕ → Type 0
FitsWidth any_width width = ⊤
FitsWidth uniform_width width = ⊤
FitsWidth (exactly_width first) None = ⊤
FitsWidth (exactly_width first) (Some width) = width ≡ first

-- the length of the long hashes of the first of these objects that has any
abbrev pub first_width : List (List ℕ) → Option ℕ
first_width [] = None
first_width (object ∷ later) = option_or (hash_width object) (first_width later)

-- this length, or one that is yet open
abbrev pub width_or_open : Option ℕ → WidthRule
width_or_open None = uniform_width
width_or_open (Some width) = exactly_width width

-- The rule for the objects after these: the first that has long hashes settles a length that is yet open.
abbrev pub width_after : WidthRule → List ObjectEntry → WidthRule
width_after any_width objects = any_width
width_after uniform_width objects = width_or_open (first_width (map (λ o. o.goobj) objects))
width_after (exactly_width first) objects = exactly_width first
