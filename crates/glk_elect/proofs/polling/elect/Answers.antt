use Rattle.std.proofs.Common.{◌≡◌, ℕ, ◌++◌, ◌^◌, List, length, take, drop, sym, ap, ◌∙◌, subst, arith, rules}
use Rattle.std.specs.List.{sum}
use Rattle.glk_table.specs.Rule.{fresh_view}
use Rattle.glk_table.specs.Seats.{view_of}
use Rattle.glk_table.specs.declared.view.View.{View}
use Rattle.glk_elect.specs.Ballots.{first_of}
use Rattle.glk_elect.specs.Polls.{IsPolled}
use Rattle.glk_elect.specs.Steps.{Adds}
use Rattle.glk_elect.proofs.Gaining.{of_own_keys, polled, refilled}
use Rattle.glk_elect.proofs.Starts.{start_of_all, start_of_none}
use Rattle.glk_elect.proofs.polling.elect.Goals as goal

pub poll-requires-clause-part : goal.poll-requires-clause-part
poll-requires-clause-part g c κs within =
    let groups = g.B.Ballot.groups c.args.ballot.now in
    let whole : sum groups ≡ length (g.B.Keys.list c.args.ballot.now) = (g.met.B.Ballot g.world.𝓛 g.world.𝓜 g.world.𝓡 ((λ s x. x), (λ x. x), (λ x. x), λ x. x)).grouped c.args.ballot.now in
    let count = c.groups.ensures in
    let long : length c.as_mut_slice.result.now ≡ length (g.B.Keys.list c.args.ballot.now) = search rules in
    let share : (view_of c.in_ok-table.seat).part ≡ 2 ^ 32 = ap (λ (v : View). v.part) c.in_ok-table.ensures.view in
    let workers = c.requires.workers in record {
      order = omega arith;
      inside = omega arith;
      ids_are =
          let a = start_of_none groups in
          let b : first_of groups c.groups.result ≡ sum groups = ap (first_of groups) count ∙ start_of_all groups in
          omega arith;
      some = workers.0;
      seats = omega arith;
      few = omega arith;
    }

pub returns : goal.returns
returns g c =
    let keys = g.B.Keys.list c.args.ballot.now in
    let votes = g.B.Ballot.votes c.args.ballot.now in
    let places = c.poll.new.places in
    let v = view_of c.poll.new.seat in
    let e = c.in_ok-elected.elected in
    let long : length places ≡ length keys = search rules in
    let size : c.resize.new.self.len ≡ length places = search rules in
    let same : take c.resize.new.self.len (places ++ drop (length places) c.resize.new.self.items) ≡ places = refilled c.resize.new.self.len c.resize.new.self.items places size in
    let P : List ℕ → Type 0 = λ l. IsPolled keys votes (record { election = e; places = l }) in
    let Q : View × ℕ → Type 0 = λ x. Adds x.0 v votes x.1 places (length places) in
    let begin : first_of (g.B.Ballot.groups c.args.ballot.now) 0 ≡ 0 = start_of_none (g.B.Ballot.groups c.args.ballot.now) in
    let all : Adds (fresh_view c.in_ok-table.table.size keys) v votes 0 places (length places) = subst Q (λ k. (c.in_ok-table.ensures.view k, begin k)) c.poll.ensures.added in
    subst P (sym same) (polled keys votes c.in_ok-table.table.size v places e all long c.in_ok-elected.ensures.lists c.in_ok-elected.ensures.places)

pub invariant_of-result : goal.invariant_of-result
invariant_of-result g c =
    let votes = g.B.Ballot.votes c.args.ballot.now in
    (votes, of_own_keys (g.B.Keys.list c.args.ballot.now) votes _ (returns g c))
