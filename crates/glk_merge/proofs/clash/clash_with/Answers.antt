use Rattle.std.proofs.Common.{◌≡◌, ℕ, ◌≤◌, Some, None, sym, ◌∙◌, subst, arith}
use Rattle.glk_keys.proofs.Clashing.{clash_alone, clash_two, clash_made, clash_begins, clash_begins_none}
use Rattle.glk_keys.proofs.Electing.{greatest_of, none_strong}
use Rattle.glk_keys.specs.Choices.{IsGreatestStrong}
use Rattle.glk_keys.specs.Keys.{key_id}
use Rattle.glk_merge.proofs.PollLaws.{greatest_of_rows}
use Rattle.glk_merge.proofs.clash.clash_with.Goals as goal

pub returns-then-is_made-clause-value : goal.returns-then-is_made-clause-value
returns-then-is_made-clause-value c =
    let p = c.args.rows.now in
    let id = c.args.id in
    sym (clash_begins_none p id (clash_made p (key_id p id) (sym c.is_made.ensures ∙ c.if-is_made.true)))

pub returns-then-id-last-clause-value : goal.returns-then-id-last-clause-value
returns-then-id-last-clause-value c =
    let p = c.args.rows.now in
    let id = c.args.id in
    let g = c.in-Some.last.0 in
    let greatest : IsGreatestStrong p (key_id p id) g = greatest_of p c.count-rows.ensures.small id c.requires.row g (greatest_of_rows p c.args.polled.now c.requires.polled id (Some g) c.in-Some.ensures) in
    sym (clash_begins p id g (clash_two p (key_id p id) id g c.requires.least greatest c.if-id-last.true (sym c.is_made.ensures ∙ c.if-is_made.false)))

pub returns-else-id-last-clause-value : goal.returns-else-id-last-clause-value
returns-else-id-last-clause-value c =
    let p = c.args.rows.now in
    let id = c.args.id in
    let g = c.in-Some.last.0 in
    let greatest : IsGreatestStrong p (key_id p id) g = greatest_of p c.count-rows.ensures.small id c.requires.row g (greatest_of_rows p c.args.polled.now c.requires.polled id (Some g) c.in-Some.ensures) in
    let above : id ≤ g = c.requires.least.least g greatest.strong in
    let below : g ≤ id = c.if-id-last.false in
    let same : g ≡ id = omega arith in
    let P : ℕ → Type 0 = λ i. IsGreatestStrong p (key_id p id) i in
    sym (clash_begins_none p id (clash_alone p (key_id p id) id c.requires.least (subst P same greatest)))

pub returns-in-None-clause-value : goal.returns-in-None-clause-value
returns-in-None-clause-value c =
    let p = c.args.rows.now in
    let id = c.args.id in
    absurd (none_strong p c.count-rows.ensures.small id c.requires.row (greatest_of_rows p c.args.polled.now c.requires.polled id None c.in-None.ensures) id c.requires.least.strong)
