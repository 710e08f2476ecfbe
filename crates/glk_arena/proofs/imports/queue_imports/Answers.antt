use Rattle.std.proofs.Common.{◌∙◌, [], ap, sym, arith}
use Rattle.std.proofs.lemmas.List.{get_or-map, length-map}
use Rattle.glk_arena.specs.Imports.{Import, imports_of}
use Rattle.glk_arena.specs.ImportRefs.{import_view}
use Rattle.glk_arena.proofs.ImportRefLemmas.{place_is, refs_long}
use Rattle.glk_arena.proofs.ImportLemmas.{step_one, at_end}
use Rattle.glk_arena.proofs.imports.queue_imports.Goals as goal

pub loop-k-preserved : goal.loop-k-preserved
loop-k-preserved c =
    let i : Import = import_view c.import_at-import.result in
    let there = place_is c.args.list.now c.args.refs.now c.loop-k.k _ i c.requires.refs c.loop-k-test.true c.import_at-import.ensures in
    let long = length-map (imports_of c.args.list.now) (λ j. j.imported) in
    let name = ap (λ j. j.imported) (there.1 i) ∙ sym (get_or-map (λ j. j.imported) (imports_of c.args.list.now) c.loop-k.k i [] there.0) in
    step_one _ c.loop-k.names c.queue_path.new.names _ c.import_at-import.result.imported.now c.loop-k.k (omega (arith, there.0, long)) name c.in_ok-queue_path.ensures c.loop-k.invariant

pub returns : goal.returns
returns c =
    let long = length-map (imports_of c.args.list.now) (λ j. j.imported) in
    let all = refs_long c.args.list.now c.args.refs.now c.requires.refs in
    at_end _ c.loop-k.names _ c.loop-k.k (omega (arith, long, all, c.loop-k-test.false)) c.loop-k.invariant
