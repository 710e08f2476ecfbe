use Rattle.std.proofs.Common.{◌≡◌, ◌<◌, ◌+◌, ◌∙◌, ◌++◌, [], ℕ, Bool, List, true, false, not, length, set, inl, inr, take, drop, ap, sym, subst, arith}
use Rattle.std.specs.List.{count_by}
use Rattle.std.proofs.lemmas.Bool.{cases_lt, false≢true}
use Rattle.std.proofs.lemmas.List.{length-set, take_at, get_or_past}
use Rattle.glk_order.specs.Progress.{AreReady}
use Rattle.glk_order.proofs.Closing.{IsListing, IsTaken, start_listing, chained_listing, stuck}
use Rattle.glk_order.proofs.Orders.{fewer}
use Rattle.glk_order.proofs.order.list_ready.Goals as goal

pub first_ready-requires : goal.first_ready-requires
first_ready-requires c =
    let size = (c.in_ok-open_counts.ensures [] (λ t. get_or_past [] t false (omega arith))).size in
    let long = ap length c.as_slice.ensures.value in
    omega (arith, size, long, c.ranges.count)

pub loop-task-init : goal.loop-task-init
loop-task-init c =
    let counts = c.in_ok-open_counts.open_counts.items in
    let size : length counts ≡ c.args.count = (c.in_ok-open_counts.ensures [] (λ t. get_or_past [] t false (omega arith))).size in
    start_listing c.args.count c.args.edges.now c.in_ok-list.list.items c.in_ok-listed.listed.items counts c.in_ok-ready.ready (c.in_ok-listed.ensures.items_if_clones_equal (λ y e. e)) c.in_ok-list.ensures.items c.in_ok-open_counts.ensures
    (λ listed none.
    let fit : AreReady (length counts) listed counts c.in_ok-ready.ready = subst (λ (l : List ℕ). AreReady (length l) listed l c.in_ok-ready.ready) c.as_slice.ensures.value (c.in_ok-ready.ensures listed none) in
    subst (λ n. AreReady n listed counts c.in_ok-ready.ready) size fit)

pub loop-task-smaller : goal.loop-task-smaller
loop-task-smaller c =
    let task = c.in-Some.task in
    let marks = c.loop-task.listed.items in
    let marks_now = c.close_edges.new.listed in
    let value : c.as_mut_slice.result.now ≡ marks = c.as_mut_slice.ensures.value in
    let marks_are : marks_now ≡ set marks task true = c.in_ok-close_edges.ensures.marks ∙ ap (λ (l : List Bool). set l task true) value in
    let long : length marks_now ≡ c.loop-task.listed.len = ap length marks_are ∙ length-set marks task true ∙ ap length (sym value) ∙ c.as_mut_slice.ensures.len in
    let size : length marks ≡ c.args.count = c.loop-task.invariant.size in
    let low : task < c.args.count = c.loop-task.invariant.is_ready.inside task c.in-Some.ensures.member in
    let f = fewer marks task (omega (arith, size, low)) (c.loop-task.invariant.is_ready.unlisted task c.in-Some.ensures.member) in
    let whole : take c.loop-task.listed.len (marks_now ++ drop (length marks_now) marks) ≡ marks_now = take_at marks_now (drop (length marks_now) marks) c.loop-task.listed.len long in
    let now : count_by not (take c.loop-task.listed.len (marks_now ++ drop (length marks_now) marks)) + 1 ≡ count_by not marks = ap (λ (l : List Bool). count_by not l + 1) (whole ∙ marks_are) ∙ f in
    omega (arith, now)

pub loop-task-preserved : goal.loop-task-preserved
loop-task-preserved c =
    let users = c.in_ok-users.users in
    let task = c.in-Some.task in
    let marks = c.loop-task.listed.items in
    let counts = c.loop-task.open_counts.items in
    let marks_now = c.close_edges.new.listed in
    let counts_now = c.close_edges.new.open_counts in
    let value : c.as_mut_slice.result.now ≡ marks = c.as_mut_slice.ensures.value in
    let marks_are : marks_now ≡ set marks task true = c.in_ok-close_edges.ensures.marks ∙ ap (λ (l : List Bool). set l task true) value in
    let long : length marks_now ≡ c.loop-task.listed.len = ap length marks_are ∙ length-set marks task true ∙ ap length (sym value) ∙ c.as_mut_slice.ensures.len in
    let counts_long : length counts_now ≡ c.loop-task.open_counts.len = let same = c.close_edges.auto.open_counts in let len = c.as_mut_slice-in-Some.ensures.len in omega (arith, same, len) in
    let taken : IsTaken c.loop-task.ready c.pop_first.new.self task = record {
      member = c.in-Some.ensures.member;
      least = c.in-Some.ensures.least;
      updates = c.in-Some.ensures.updates;
    } in
    let step : IsListing c.args.count c.args.edges.now c.push.new.self.items marks_now counts_now c.close_edges.new.ready =
    chained_listing (length users.lasts.items) c.args.count users.edges.now c.args.edges.now c.loop-task.list.items c.push.new.self.items marks marks_now counts counts_now c.loop-task.ready c.pop_first.new.self c.close_edges.new.ready task
    c.in_ok-users.ensures.tasks c.in_ok-users.ensures.edges c.loop-task.invariant taken c.in_ok-push.ensures.items marks_are c.in_ok-close_edges.ensures.counts c.in_ok-close_edges.ensures.closed c.in_ok-close_edges.ensures.ready in
    let whole : take c.loop-task.listed.len (marks_now ++ drop (length marks_now) marks) ≡ marks_now = take_at marks_now (drop (length marks_now) marks) c.loop-task.listed.len long in
    let counts_whole : take c.loop-task.open_counts.len (counts_now ++ drop (length counts_now) counts) ≡ counts_now = take_at counts_now (drop (length counts_now) counts) c.loop-task.open_counts.len counts_long in
    rw (whole, counts_whole) step

pub returns-clause-stuck : goal.returns-clause-stuck
returns-clause-stuck c =
    let empty : length c.loop-task.ready.keys ≡ 0 = elim (cases_lt 0 (length c.loop-task.ready.keys)) [
      | inl some ↦ absurd (false≢true (c.in_default.ensures.variant.1 some))
      | inr none ↦ omega (arith, none)
    ] in
    stuck c.args.count c.args.edges.now c.loop-task.list.items c.loop-task.listed.items c.loop-task.open_counts.items c.loop-task.ready c.loop-task.invariant empty
