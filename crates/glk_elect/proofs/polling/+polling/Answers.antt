use Rattle.std.proofs.Common.{◌≡◌, ℕ, ◌+◌, ◌-◌, ◌++◌, ◌≤◌, length, sym, ap, subst, arith, length-append}
use Rattle.std.specs.List.{sum}
use Rattle.glk_table.specs.Seats.{view_of}
use Rattle.glk_table.specs.declared.view.View.{View}
use Rattle.glk_elect.specs.Ballots.{first_of}
use Rattle.glk_elect.specs.Steps.{Adds}
use Rattle.glk_elect.proofs.Gaining.{adds_parts}
use Rattle.glk_elect.proofs.Starts.{part_inside, cut_after, cut_before, front_part, back_part}
use Rattle.glk_elect.proofs.polling.+polling.Goals as goal

pub poll-poll_each-requires-clause-ids : goal.poll-poll_each-requires-clause-ids
poll-poll_each-requires-clause-ids g t c κs within =
    let groups = g.B.Ballot.groups c.args.ballot.now in
    let all = length (g.B.Keys.list c.args.ballot.now) in
    let whole : sum groups ≡ all = (g.met.B.Ballot g.world.𝓛 g.world.𝓜 g.world.𝓡 ((λ s x. x), (λ x. x), (λ x. x), λ x. x)).grouped c.args.ballot.now in
    let inside : first_of groups c.args.part.from + length c.args.places.now ≤ all = part_inside groups all whole c.args.part (length c.args.places.now) _ c.requires.part in
    let first = c.first-first.ensures in
    let few = c.requires.few in
    omega arith

pub poll-overflow_cast-places : goal.poll-overflow_cast-places
poll-overflow_cast-places g t c =
    let groups = g.B.Ballot.groups c.args.ballot.now in
    let all = length (g.B.Keys.list c.args.ballot.now) in
    let whole : sum groups ≡ all = (g.met.B.Ballot g.world.𝓛 g.world.𝓜 g.world.𝓡 ((λ s x. x), (λ x. x), (λ x. x), λ x. x)).grouped c.args.ballot.now in
    let inside : first_of groups c.args.part.from + length c.args.places.now ≤ all = part_inside groups all whole c.args.part (length c.args.places.now) _ c.requires.part in
    let few = c.requires.few in
    let same = c.poll_each.auto.places in
    omega arith

pub poll-overflow_cast-places-2 : goal.poll-overflow_cast-places-2
poll-overflow_cast-places-2 g t c =
    let groups = g.B.Ballot.groups c.args.ballot.now in
    let all = length (g.B.Keys.list c.args.ballot.now) in
    let whole : sum groups ≡ all = (g.met.B.Ballot g.world.𝓛 g.world.𝓜 g.world.𝓡 ((λ s x. x), (λ x. x), (λ x. x), λ x. x)).grouped c.args.ballot.now in
    let inside : first_of groups c.args.part.from + length c.args.places.now ≤ all = part_inside groups all whole c.args.part (length c.args.places.now) _ c.requires.part in
    let few = c.requires.few in
    omega arith

pub poll-halves-requires-clause-ids : goal.poll-halves-requires-clause-ids
poll-halves-requires-clause-ids g t c κs within =
    let groups = g.B.Ballot.groups c.args.ballot.now in
    let all = length (g.B.Keys.list c.args.ballot.now) in
    let whole : sum groups ≡ all = (g.met.B.Ballot g.world.𝓛 g.world.𝓜 g.world.𝓡 ((λ s x. x), (λ x. x), (λ x. x), λ x. x)).grouped c.args.ballot.now in
    let inside : first_of groups c.args.part.from + length c.args.places.now ≤ all = part_inside groups all whole c.args.part (length c.args.places.now) _ c.requires.part in
    let first = c.first-first.ensures in
    let few = c.requires.few in
    omega arith

pub poll-overflow_sub-middle : goal.poll-overflow_sub-middle
poll-overflow_sub-middle g t c =
    let groups = g.B.Ballot.groups c.args.ballot.now in
    let all = length (g.B.Keys.list c.args.ballot.now) in
    let whole : sum groups ≡ all = (g.met.B.Ballot g.world.𝓛 g.world.𝓜 g.world.𝓡 ((λ s x. x), (λ x. x), (λ x. x), λ x. x)).grouped c.args.ballot.now in
    let inside : first_of groups c.args.part.from + length c.args.places.now ≤ all = part_inside groups all whole c.args.part (length c.args.places.now) _ c.requires.part in
    let h = c.halves.result in
    let after : first_of groups c.args.part.from ≤ first_of groups h.1.from = cut_after groups all whole c.args.part (length c.args.places.now) _ c.requires.part h.0 h.1 c.halves.ensures in
    let before : first_of groups h.1.from ≤ first_of groups c.args.part.from + length c.args.places.now = cut_before groups all whole c.args.part (length c.args.places.now) _ c.requires.part h.0 h.1 c.halves.ensures in
    let first = c.first-first.ensures in
    let middle = c.first-middle.ensures in
    omega arith

pub poll-split_at_mut-front_places-requires : goal.poll-split_at_mut-front_places-requires
poll-split_at_mut-front_places-requires g t c =
    let groups = g.B.Ballot.groups c.args.ballot.now in
    let all = length (g.B.Keys.list c.args.ballot.now) in
    let whole : sum groups ≡ all = (g.met.B.Ballot g.world.𝓛 g.world.𝓜 g.world.𝓡 ((λ s x. x), (λ x. x), (λ x. x), λ x. x)).grouped c.args.ballot.now in
    let inside : first_of groups c.args.part.from + length c.args.places.now ≤ all = part_inside groups all whole c.args.part (length c.args.places.now) _ c.requires.part in
    let h = c.halves.result in
    let after : first_of groups c.args.part.from ≤ first_of groups h.1.from = cut_after groups all whole c.args.part (length c.args.places.now) _ c.requires.part h.0 h.1 c.halves.ensures in
    let before : first_of groups h.1.from ≤ first_of groups c.args.part.from + length c.args.places.now = cut_before groups all whole c.args.part (length c.args.places.now) _ c.requires.part h.0 h.1 c.halves.ensures in
    let first = c.first-first.ensures in
    let middle = c.first-middle.ensures in
    omega arith

pub poll-poll_parts-requires-clause-front : goal.poll-poll_parts-requires-clause-front
poll-poll_parts-requires-clause-front g t c κs within =
    let groups = g.B.Ballot.groups c.args.ballot.now in
    let all = length (g.B.Keys.list c.args.ballot.now) in
    let whole : sum groups ≡ all = (g.met.B.Ballot g.world.𝓛 g.world.𝓜 g.world.𝓡 ((λ s x. x), (λ x. x), (λ x. x), λ x. x)).grouped c.args.ballot.now in
    let inside : first_of groups c.args.part.from + length c.args.places.now ≤ all = part_inside groups all whole c.args.part (length c.args.places.now) _ c.requires.part in
    let first = c.first-first.ensures in
    let middle = c.first-middle.ensures in
    let h = c.halves.result in
    let many = c.if-part-lt2.false in
    let n : length c.split_at_mut-front_places.result.0.now ≡ first_of groups h.1.from - first_of groups c.args.part.from = let e = c.split_at_mut-front_places.ensures.front_len in omega arith in
    let share = ap (λ (v : View). v.part) c.fork-other.ensures.kept in
    let seats = c.requires.part.seats in
    front_part groups all whole c.args.part (length c.args.places.now) _ c.requires.part h.0 h.1 c.halves.ensures (length c.split_at_mut-front_places.result.0.now) (view_of c.fork-other.new.seat).part (omega arith) n (omega arith)

pub poll-poll_parts-requires-clause-back : goal.poll-poll_parts-requires-clause-back
poll-poll_parts-requires-clause-back g t c κs within =
    let groups = g.B.Ballot.groups c.args.ballot.now in
    let all = length (g.B.Keys.list c.args.ballot.now) in
    let whole : sum groups ≡ all = (g.met.B.Ballot g.world.𝓛 g.world.𝓜 g.world.𝓡 ((λ s x. x), (λ x. x), (λ x. x), λ x. x)).grouped c.args.ballot.now in
    let inside : first_of groups c.args.part.from + length c.args.places.now ≤ all = part_inside groups all whole c.args.part (length c.args.places.now) _ c.requires.part in
    let first = c.first-first.ensures in
    let middle = c.first-middle.ensures in
    let h = c.halves.result in
    let many = c.if-part-lt2.false in
    let n : length c.split_at_mut-front_places.result.1.now ≡ length c.args.places.now - (first_of groups h.1.from - first_of groups c.args.part.from) = let e = c.split_at_mut-front_places.ensures.back_len in omega arith in
    let share = ap (λ (v : View). v.part) c.fork-other.ensures.given in
    let seats = c.requires.part.seats in
    back_part groups all whole c.args.part (length c.args.places.now) _ c.requires.part h.0 h.1 c.halves.ensures (length c.split_at_mut-front_places.result.1.now) (view_of c.fork-other.result).part (omega arith) n (omega arith)

pub poll-returns-clause-added : goal.poll-returns-clause-added
poll-returns-clause-added g t c =
    let groups = g.B.Ballot.groups c.args.ballot.now in
    let all = length (g.B.Keys.list c.args.ballot.now) in
    let whole : sum groups ≡ all = (g.met.B.Ballot g.world.𝓛 g.world.𝓜 g.world.𝓡 ((λ s x. x), (λ x. x), (λ x. x), λ x. x)).grouped c.args.ballot.now in
    let inside : first_of groups c.args.part.from + length c.args.places.now ≤ all = part_inside groups all whole c.args.part (length c.args.places.now) _ c.requires.part in
    let h = c.halves.result in
    let after : first_of groups c.args.part.from ≤ first_of groups h.1.from = cut_after groups all whole c.args.part (length c.args.places.now) _ c.requires.part h.0 h.1 c.halves.ensures in
    let before : first_of groups h.1.from ≤ first_of groups c.args.part.from + length c.args.places.now = cut_before groups all whole c.args.part (length c.args.places.now) _ c.requires.part h.0 h.1 c.halves.ensures in
    let first = c.first-first.ensures in
    let middle = c.first-middle.ensures in
    let v = view_of c.args.seat.now in
    let w = view_of c.poll_parts.new.seat in
    let u = view_of c.poll_parts.new.other in
    let votes = g.B.Ballot.votes c.args.ballot.now in
    let fp = c.poll_parts.new.front_places in
    let bp = c.poll_parts.new.back_places in
    let begin : ℕ = first_of groups c.args.part.from in
    let cut : ℕ = first_of groups h.1.from in
    let same : first_of groups h.0.from ≡ begin = ap (first_of groups) c.halves.ensures.begins in
    let long = c.poll_parts.auto.front_places in
    let meets : cut ≡ begin + length fp = let e = c.split_at_mut-front_places.ensures.front_len in omega arith in
    let P : View × ℕ → Type 0 = λ x. Adds x.0 w votes x.1 fp (length fp) in
    let Q : View → Type 0 = λ x. Adds x u votes cut bp (length bp) in
    let R : View → Type 0 = λ x. Adds v x votes begin (fp ++ bp) (length (fp ++ bp)) in
    subst R (sym c.rejoin.ensures.both) (adds_parts v w u votes begin cut fp bp (length (fp ++ bp)) meets (length-append fp bp) (subst P (λ k. (c.fork-other.ensures.kept k, same k)) c.poll_parts.ensures.front) (subst Q c.fork-other.ensures.given c.poll_parts.ensures.back))
