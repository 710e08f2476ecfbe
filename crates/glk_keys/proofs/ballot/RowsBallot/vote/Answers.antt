use Rattle.std.proofs.Common.{◌≡◌, ◌<◌, sym, ap, ◌∙◌, arith, Option, Some, None}
use Rattle.glk_obj.specs.Records.{Symbol}
use Rattle.glk_elect.specs.declared.ballot.Vote.{Vote}
use Rattle.glk_table.specs.declared.ranks.RankClass.{RankClass}
use Rattle.glk_keys.specs.GroupLaws.{long_keys}
use Rattle.glk_keys.specs.KeyLaws.{nth_vote}
use Rattle.glk_keys.specs.Rows.{row_at, row_count}
use Rattle.glk_keys.specs.Votes.{class_of, vote_by}
use Rattle.glk_keys.proofs.ballot.RowsBallot.vote.Goals as goal

pub returns-in-Some-clause-value : goal.returns-in-Some-clause-value
returns-in-Some-clause-value c =
    let p = c.args.self.now in
    let id = c.args.id in
    let h : id < row_count p = let l = long_keys p in let r = c.requires in omega arith in
    let rank = c.rank.ensures.is in
    let strong = c.is_strong.ensures in
    let voted : Option Vote = Some (record { rank = c.rank.result; strong = c.is_strong.result }) in
    let is : voted ≡ vote_by (Some c.in-Some.class) c.row.result.size id = (λ z. Some (record { rank = rank z; strong = strong z })) in
    let class : class_of (row_at p id) ≡ Some c.in-Some.class = sym c.class.ensures ∙ c.in-Some.is in
    is ∙ ap (λ (k : Option RankClass). vote_by k c.row.result.size id) (sym class) ∙ ap (λ (s : Symbol). vote_by (class_of (row_at p id)) s.size id) c.row.ensures ∙ sym (nth_vote p id h)

pub returns-in-None-clause-value : goal.returns-in-None-clause-value
returns-in-None-clause-value c =
    let p = c.args.self.now in
    let id = c.args.id in
    let h : id < row_count p = let l = long_keys p in let r = c.requires in omega arith in
    let class : class_of (row_at p id) ≡ None = sym c.class.ensures ∙ c.in-None.is in
    ap (λ (k : Option RankClass). vote_by k (row_at p id).symbol.size id) (sym class) ∙ sym (nth_vote p id h)
