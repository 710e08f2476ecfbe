use Rattle.std.proofs.Common.{◌≡◌, ◌<◌, ◌∙◌, ◌++◌, ℕ, Bool, List, false, length, get_or, take, drop, sym, subst, arith}
use Rattle.std.specs.List.{Contains}
use Rattle.std.proofs.lemmas.List.{take_at, get_or_default}
use Rattle.std.proofs.lemmas.List.Elements.{Contains-push}
use Rattle.glk_order.specs.Search.{SeesTargets}
use Rattle.glk_order.proofs.Searches.{IsSearching, start_searching, more_searching, end_searching, seen_inside}
use Rattle.glk_order.proofs.search.reaches_itself.Goals as goal

pub loop-next-init : goal.loop-next-init
loop-next-init c =
    let now = c.see_targets.new.seen in
    let long : length now ≡ c.in_ok-seen.seen.len = c.in_ok-see_targets.ensures.size ∙ c.as_mut_slice.ensures.len in
    let whole : take c.in_ok-seen.seen.len (now ++ drop (length now) c.in_ok-seen.seen.items) ≡ now = take_at now (drop (length now) c.in_ok-seen.seen.items) c.in_ok-seen.seen.len long in
    let searching : IsSearching c.args.needs.now.edges.now c.args.count c.args.task now c.see_targets.new.work.items =
    start_searching c.args.needs.now.edges.now c.args.count c.args.task c.as_mut_slice.result.now now c.new-work.result.items c.see_targets.new.work.items
    (c.as_mut_slice.ensures.value ∙ c.in_ok-seen.ensures.items_if_clones_equal (λ y e. e)) c.new-work.ensures.items c.in_ok-see_targets.ensures in
    rw whole searching

pub see_targets-requires-in-Some-clause-task : goal.see_targets-requires-in-Some-clause-task
see_targets-requires-in-Some-clause-task c =
    let there : Contains c.loop-next.work.items c.in-Some.next = subst (λ (l : List ℕ). Contains l c.in-Some.next) (sym c.in-Some.ensures.items) (Contains-push c.pop.new.self.items c.in-Some.next) in
    let inside : c.in-Some.next < length c.loop-next.seen.items = seen_inside c.loop-next.seen.items c.in-Some.next (c.loop-next.invariant.work_seen c.in-Some.next there) in
    let size = c.loop-next.invariant.size in
    let tasks = c.requires.tasks in
    omega (arith, inside, size, tasks)

pub loop-next-preserved : goal.loop-next-preserved
loop-next-preserved c =
    let seen = c.loop-next.seen.items in
    let now = c.see_targets-in-Some.new.seen in
    let rest = c.pop.new.self.items in
    let edges = c.args.needs.now.edges.now in
    let sees : SeesTargets edges c.in-Some.next seen now rest c.see_targets-in-Some.new.work.items =
    subst (λ (l : List Bool). SeesTargets edges c.in-Some.next l now rest c.see_targets-in-Some.new.work.items) c.as_mut_slice-in-Some.ensures.value c.in_ok-see_targets-2.ensures in
    let long : length now ≡ c.loop-next.seen.len = c.in_ok-see_targets-2.ensures.size ∙ c.as_mut_slice-in-Some.ensures.len in
    let whole : take c.loop-next.seen.len (now ++ drop (length now) seen) ≡ now = take_at now (drop (length now) seen) c.loop-next.seen.len long in
    let searching : IsSearching edges c.args.count c.args.task now c.see_targets-in-Some.new.work.items =
    more_searching edges c.args.count c.args.task c.in-Some.next seen now c.loop-next.work.items rest c.see_targets-in-Some.new.work.items c.loop-next.invariant c.in-Some.ensures.items sees in
    rw whole searching

pub returns : goal.returns
returns c =
    let seen = c.loop-next.seen.items in
    let none = c.in_default.ensures.cases in
    let empty : length c.loop-next.work.items ≡ 0 = omega (arith, none) in
    let size : length seen ≡ c.args.count = c.loop-next.invariant.size in
    let inside : c.args.task < length seen = let task = c.requires.task in omega (arith, size, task) in
    let is : c.index.result.now ≡ get_or seen c.args.task false = c.index.ensures ∙ get_or_default seen c.args.task _ false inside in
    let both = end_searching c.args.needs.now.edges.now c.args.count c.args.task seen c.loop-next.work.items c.loop-next.invariant empty c.args.task in
    (λ h. both.0 (sym is ∙ h), λ y. is ∙ both.1 y)
