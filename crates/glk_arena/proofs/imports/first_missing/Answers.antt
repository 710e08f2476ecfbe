use Rattle.std.proofs.Common.{◌∙◌, Bool, Some, cond, ap, sym, drop, arith, ◌+◌}
use Rattle.std.specs.List.{find}
use Rattle.glk_arena.specs.Imports.{Import, imports_of}
use Rattle.glk_arena.specs.Waves.{is_missing}
use Rattle.glk_arena.specs.ConfigViews.{file_in}
use Rattle.glk_arena.specs.ImportRefs.{import_view}
use Rattle.glk_arena.proofs.PathLemmas.{find_step, find_end}
use Rattle.glk_arena.proofs.ImportRefLemmas.{place_is, refs_long}
use Rattle.glk_arena.proofs.imports.first_missing.Goals as goal

pub returns-then-is_unresolved : goal.returns-then-is_unresolved
returns-then-is_unresolved c =
    let i : Import = import_view c.import_at-import.result in
    let there = place_is c.args.list.now c.args.refs.now c.loop-k.k _ i c.requires.refs c.loop-k-test.true c.import_at-import.ensures in
    let test : Import → Bool = is_missing (file_in c.args.config.now) c.args.names.now in
    let step = find_step test (imports_of c.args.list.now) c.loop-k.k i there.0 (there.1 i) in
    sym (step ∙ ap (λ b. cond b (Some i) (find test (drop (c.loop-k.k + 1) (imports_of c.args.list.now)))) (sym c.is_unresolved.ensures ∙ c.if-is_unresolved.true)) ∙ c.loop-k.invariant

pub loop-k-preserved : goal.loop-k-preserved
loop-k-preserved c =
    let i : Import = import_view c.import_at-import.result in
    let there = place_is c.args.list.now c.args.refs.now c.loop-k.k _ i c.requires.refs c.loop-k-test.true c.import_at-import.ensures in
    let test : Import → Bool = is_missing (file_in c.args.config.now) c.args.names.now in
    let step = find_step test (imports_of c.args.list.now) c.loop-k.k i there.0 (there.1 i) in
    sym (step ∙ ap (λ b. cond b (Some i) (find test (drop (c.loop-k.k + 1) (imports_of c.args.list.now)))) (sym c.is_unresolved.ensures ∙ c.if-is_unresolved.false)) ∙ c.loop-k.invariant

pub returns : goal.returns
returns c =
    let test : Import → Bool = is_missing (file_in c.args.config.now) c.args.names.now in
    let long = refs_long c.args.list.now c.args.refs.now c.requires.refs in
    sym (find_end test (imports_of c.args.list.now) c.loop-k.k (omega (arith, long, c.loop-k-test.false))) ∙ c.loop-k.invariant
