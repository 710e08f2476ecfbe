use Rattle.std.proofs.Common.{◌≡◌, ℕ, ◌^◌, ◌<◌, inl, inr, Some, None, sym, subst, arith}
use Rattle.glk_elect.specs.Answers.{IsLeastRankOf}
use Rattle.glk_keys.proofs.Clashing.{clash_none, clash_elsewhere, clash_begins_not, clash_begins_none}
use Rattle.glk_keys.proofs.Electing.{least_of, least_strong_of, none_at_all}
use Rattle.glk_keys.specs.Choices.{IsLeastStrong}
use Rattle.glk_keys.specs.KeyNumbers.{keys_of}
use Rattle.glk_keys.specs.Keys.{key_id}
use Rattle.glk_keys.specs.Votes.{votes_of}
use Rattle.glk_merge.proofs.PollLaws.{least_of_rows}
use Rattle.glk_merge.proofs.clash.clash_from.Goals as goal

pub clash_with-requires-clause-least : goal.clash_with-requires-clause-least
clash_with-requires-clause-least c =
    let p = c.args.rows.now in
    let id = c.args.id in
    let rank = c.in-Some.rank in
    let few = c.count-rows.ensures.small in
    let h = c.requires.row in
    let same : rank ≡ id = c.if-rank-id.true in
    let small : rank < 2 ^ 62 = omega arith in
    let P : ℕ → Type 0 = λ i. IsLeastStrong p (key_id p id) i in
    subst P same (least_strong_of p few id h rank small (least_of_rows p c.args.polled.now c.requires.polled id (Some rank) c.in-Some.ensures))

pub returns-else-rank-id-clause-value : goal.returns-else-rank-id-clause-value
returns-else-rank-id-clause-value c =
    let p = c.args.rows.now in
    let id = c.args.id in
    let rank = c.in-Some.rank in
    let l : IsLeastRankOf (keys_of p) (votes_of p) id (Some rank) = least_of_rows p c.args.polled.now c.requires.polled id (Some rank) c.in-Some.ensures in
    elim (least_of p c.count-rows.ensures.small id c.requires.row rank l) [
      | inl least ↦ sym (clash_begins_not p id (clash_elsewhere p (key_id p id) id rank least c.if-rank-id.false))
      | inr none ↦ sym (clash_begins_none p id (clash_none p (key_id p id) none))
    ]

pub returns-in-None-clause-value : goal.returns-in-None-clause-value
returns-in-None-clause-value c =
    let p = c.args.rows.now in
    let id = c.args.id in
    sym (clash_begins_none p id (clash_none p (key_id p id) (none_at_all p c.count-rows.ensures.small id c.requires.row (least_of_rows p c.args.polled.now c.requires.polled id None c.in-None.ensures))))
