use Rattle.std.proofs.Common.{◌≡◌, ℕ, ◌<◌, Option, Some, None, sym, ap, ◌∙◌, subst}
use Rattle.std.specs.Option.{option_map, option_or}
use Rattle.glk_keys.specs.Definitions.{chosen_of, object_definition, made_name_of, made_number}
use Rattle.glk_keys.specs.Keys.{key_id}
use Rattle.glk_keys.specs.Rows.{made_row, row_count}
use Rattle.glk_merge.proofs.PollLaws.{made_of_row}
use Rattle.glk_merge.proofs.RowBounds.{made_within}
use Rattle.glk_merge.proofs.key_tables.chosen_for.Goals as goal

pub returns-in-Some-clause-value : goal.returns-in-Some-clause-value
unfolding chosen_of
returns-in-Some-clause-value c =
    let p = c.args.rows.now in
    let id = c.args.id in
    let made : made_name_of p (key_id p id) ≡ Some c.in-Some.k = made_of_row p id c.requires.row ∙ sym (c.in-Some.ensures.number ∙ ap made_number c.key_in.ensures) in
    ap (λ r. Some r) c.made_row.ensures ∙ sym (ap (λ (o : Option ℕ). option_or (option_map (made_row p) o) (object_definition p (key_id p id))) made)

pub returns-in-Some-clause-within : goal.returns-in-Some-clause-within
returns-in-Some-clause-within c =
    let p = c.args.rows.now in
    let P : ℕ → Type 0 = λ r. r < row_count p in
    subst P (sym c.made_row.ensures) (made_within p c.in-Some.k c.in-Some.ensures.inside)

pub returns-in-None-clause-value : goal.returns-in-None-clause-value
unfolding chosen_of
returns-in-None-clause-value c =
    let p = c.args.rows.now in
    let id = c.args.id in
    let made : made_name_of p (key_id p id) ≡ None = made_of_row p id c.requires.row ∙ sym (c.in-None.ensures.number ∙ ap made_number c.key_in.ensures) in
    c.chosen_in_objects.ensures.value ∙ sym (ap (λ (o : Option ℕ). option_or (option_map (made_row p) o) (object_definition p (key_id p id))) made)
