-- The rules after some objects.
use Rattle.std.proofs.Common.{◌≡◌, ◌∙◌, List, [], ◌∷◌, ◌++◌, map, refl, sym, ap, ℕ, Option, Some, None}
use Rattle.std.specs.Option.{option_or}
use Rattle.std.proofs.lemmas.List.{map-append}
use Rattle.glk_obj.specs.Records.{hash_width}
use Rattle.glk_package.specs.HeaderRule.{HeaderRule, any, uniform, exactly, first_line, line_or_open, header_after}
use Rattle.glk_package.specs.WidthRule.{WidthRule, any_width, uniform_width, exactly_width, first_width, width_or_open, width_after}
use Rattle.glk_package.specs.ObjectRules.{ObjectRules, rules_after}
use Rattle.glk_package.specs.ObjectEntry.{ObjectEntry}

abbrev with_both : HeaderRule → WidthRule → ObjectRules
with_both headers widths = record { headers = headers; widths = widths }

line_none : (headers : HeaderRule) → header_after headers [] ≡ headers
line_none any = refl
line_none uniform = refl
line_none (exactly line) = refl

line_both : (headers : HeaderRule) (xs ys : List ObjectEntry) → header_after (header_after headers xs) ys ≡ header_after headers (xs ++ ys)
line_both any xs ys = refl
line_both uniform [] ys = refl
line_both uniform (x ∷ xs) ys = refl
line_both (exactly line) xs ys = refl

pub or_none : {A : Type 0} (a : Option A) → option_or a None ≡ a
or_none None = refl
or_none (Some x) = refl

pub or_both : {A : Type 0} (a b c : Option A) → option_or (option_or a b) c ≡ option_or a (option_or b c)
or_both None b c = refl
or_both (Some x) b c = refl

pub first_both : (xs ys : List (List ℕ)) → first_width (xs ++ ys) ≡ option_or (first_width xs) (first_width ys)
first_both [] ys = refl
first_both (x ∷ xs) ys = ap (option_or (hash_width x)) (first_both xs ys) ∙ sym (or_both (hash_width x) (first_width xs) (first_width ys))

-- the rules that a first line and a first length leave, after more objects
pub line_behind : (a : Option (List ℕ)) (ys : List ObjectEntry) → header_after (line_or_open a) ys ≡ line_or_open (option_or a (first_line ys))
line_behind None ys = refl
line_behind (Some line) ys = refl

pub width_behind : (a : Option ℕ) (ys : List ObjectEntry) → width_after (width_or_open a) ys ≡ width_or_open (option_or a (first_width (map (λ o. o.goobj) ys)))
width_behind None ys = refl
width_behind (Some width) ys = refl

width_none : (widths : WidthRule) → width_after widths [] ≡ widths
width_none any_width = refl
width_none uniform_width = refl
width_none (exactly_width width) = refl

width_both : (widths : WidthRule) (xs ys : List ObjectEntry) → width_after (width_after widths xs) ys ≡ width_after widths (xs ++ ys)
width_both any_width xs ys = refl
width_both uniform_width xs ys =
    width_behind (first_width (map (λ o. o.goobj) xs)) ys
    ∙ ap width_or_open (sym (first_both (map (λ o. o.goobj) xs) (map (λ o. o.goobj) ys)) ∙ ap first_width (sym (map-append (λ o. o.goobj) xs ys)))
width_both (exactly_width width) xs ys = refl

pub after_none : (rules : ObjectRules) → rules_after rules [] ≡ rules
after_none rules = ap (λ h. with_both h (width_after rules.widths [])) (line_none rules.headers) ∙ ap (λ w. with_both rules.headers w) (width_none rules.widths)

pub after_both : (rules : ObjectRules) (xs ys : List ObjectEntry) → rules_after (rules_after rules xs) ys ≡ rules_after rules (xs ++ ys)
after_both rules xs ys =
    ap (λ h. with_both h (width_after (width_after rules.widths xs) ys)) (line_both rules.headers xs ys)
    ∙ ap (λ w. with_both (header_after rules.headers (xs ++ ys)) w) (width_both rules.widths xs ys)
