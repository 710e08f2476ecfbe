use Rattle.std.proofs.Common.{ap, ◌∙◌, arith}
use Rattle.std.proofs.lemmas.Grind.{common_steps}
use Rattle.glk_io.specs.Paths.{FoundAt}
use Rattle.glk_io.proofs.PathLemmas.{found_below, found_path, set_replaces, push_replaces, set_once, push_once}
use Rattle.glk_io.proofs.paths.put.Goals as goal

pub index_mut-requires : goal.index_mut-requires
index_mut-requires c =
    let below = found_below _ _ _ c.in-Some.ensures in
    grind (arith, common_steps, below)

pub returns-in-Some-clause-ok : goal.returns-in-Some-clause-ok
returns-in-Some-clause-ok c =
    let at : FoundAt c.args.files.now.items c.args.path.now c.in-Some.i = rw (← c.deref.ensures.value) c.in-Some.ensures in
    rw c.in_ok-text.ensures
    (set_replaces c.args.files.now.items c.args.path.now c.index_mut.result.now.0 c.args.bytes.now c.in-Some.i at
    (ap (λ e. e.0) c.index_mut.ensures.value ∙ found_path _ _ _ _ at))

pub returns-in_ok-push-in-None-clause-ok : goal.returns-in_ok-push-in-None-clause-ok
returns-in_ok-push-in-None-clause-ok c =
    let absent = rw c.deref.ensures.value at c.in-None.ensures in
    rw (c.in_ok-push-in-None.ensures.items, c.of.ensures, c.in_ok-name-in-None.ensures.ok, c.in_ok-text.ensures)
    (push_replaces c.args.files.now.items c.args.path.now c.args.bytes.now absent)

pub returns-in-Some-clause-once : goal.returns-in-Some-clause-once
returns-in-Some-clause-once c =
    let at : FoundAt c.args.files.now.items c.args.path.now c.in-Some.i = rw (← c.deref.ensures.value) c.in-Some.ensures in
    set_once c.args.files.now.items c.args.path.now c.index_mut.result.now.0 c.in_ok-text.text c.in-Some.i at
    (ap (λ e. e.0) c.index_mut.ensures.value ∙ found_path _ _ _ _ at) c.requires

pub returns-in_ok-push-in-None-clause-once : goal.returns-in_ok-push-in-None-clause-once
returns-in_ok-push-in-None-clause-once c =
    let absent = rw c.deref.ensures.value at c.in-None.ensures in
    rw (c.in_ok-push-in-None.ensures.items, c.of.ensures, c.in_ok-name-in-None.ensures.ok)
    (push_once c.args.files.now.items c.args.path.now c.in_ok-text.text absent c.requires)
