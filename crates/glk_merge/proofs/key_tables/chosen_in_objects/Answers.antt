use Rattle.std.proofs.Common.{◌≡◌, ℕ, Option, Some, None, sym, ap, ◌∙◌, subst}
use Rattle.glk_keys.proofs.Electing.{chosen_by_rank}
use Rattle.glk_keys.specs.Definitions.{object_definition}
use Rattle.glk_keys.specs.Keys.{key_id}
use Rattle.glk_merge.proofs.PollLaws.{least_of_rows}
use Rattle.glk_merge.proofs.RowBounds.{chosen_within}
use Rattle.glk_merge.specs.Mergings.{IsRow}
use Rattle.glk_merge.proofs.key_tables.chosen_in_objects.Goals as goal

pub returns-in-Some-clause-value : goal.returns-in-Some-clause-value
returns-in-Some-clause-value c =
    let p = c.args.rows.now in
    let id = c.args.id in
    ap (λ r. Some r) c.rank_id.ensures
    ∙ sym (chosen_by_rank p c.count-rows.ensures.small id c.requires.row c.requires.fits (Some c.in-Some.rank) (least_of_rows p c.args.polled.now c.requires.polled id (Some c.in-Some.rank) c.in-Some.ensures))

pub returns-in-Some-clause-within : goal.returns-in-Some-clause-within
returns-in-Some-clause-within c =
    let p = c.args.rows.now in
    let id = c.args.id in
    let is : object_definition p (key_id p id) ≡ Some c.rank_id.result.0 = sym (returns-in-Some-clause-value c) in
    let P : Option ℕ → Type 0 = λ o. IsRow p o in
    subst P is (chosen_within p (key_id p id))

pub returns-in-None-clause-value : goal.returns-in-None-clause-value
returns-in-None-clause-value c =
    let p = c.args.rows.now in
    let id = c.args.id in
    sym (chosen_by_rank p c.count-rows.ensures.small id c.requires.row c.requires.fits None (least_of_rows p c.args.polled.now c.requires.polled id None c.in-None.ensures))
