use Rattle.std.proofs.Common.{◌≡◌, length, sym, ap, ◌∙◌, arith}
use Rattle.glk_arena.specs.World.{objects_of}
use Rattle.glk_base.specs.Groups.{group_start}
use Rattle.glk_base.proofs.Groups.{start_all}
use Rattle.glk_obj.specs.Records.{symbols}
use Rattle.glk_elect.specs.Ballots.{first_of}
use Rattle.glk_keys.specs.GroupLaws.{start_in_front, long_groups, long_keys, grouped_rows}
use Rattle.glk_keys.specs.Votes.{groups_of}
use Rattle.glk_keys.proofs.ballot.RowsBallot.first.Goals as goal

pub returns-then-group-objects : goal.returns-then-group-objects
returns-then-group-objects c =
    let a = c.if-group-objects.true in
    let b = c.objects.ensures.value in
    c.first_row.ensures ∙ sym (start_in_front c.args.self.now c.args.group (omega arith))

pub returns-then-group-objects-2 : goal.returns-then-group-objects-2
returns-then-group-objects-2 c =
    let p = c.args.self.now in
    let a = c.if-group-objects-2.true in
    let b = c.objects-else-group-objects.ensures.value in
    let e : length (objects_of p.world) ≡ c.args.group = omega arith in
    c.of_objects.ensures.value ∙ sym (start_all symbols (objects_of p.world)) ∙ ap (group_start symbols (objects_of p.world)) e ∙ sym (start_in_front p c.args.group (omega arith))

pub returns-else-group-objects-2 : goal.returns-else-group-objects-2
returns-else-group-objects-2 c =
    let p = c.args.self.now in
    let a = c.if-group-objects.false in
    let f = c.if-group-objects-2.false in
    let b = c.objects.ensures.value in
    let d = c.objects-else-group-objects.ensures.value in
    let l = long_groups p in
    let h = c.requires in
    let e : length (groups_of p) ≡ c.args.group = omega arith in
    c.count.ensures.value ∙ sym (long_keys p) ∙ sym (grouped_rows p) ∙ sym (start_all (λ n. n) (groups_of p)) ∙ ap (first_of (groups_of p)) e
