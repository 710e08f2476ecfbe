use Rattle.std.proofs.Common.{◌++◌, List, map, sym, subst}
use Rattle.glk_closure.specs.Graph.{Effect}
use Rattle.glk_keys.specs.Relocations.{relocs_of, auxes_of}
use Rattle.glk_keys.specs.Rows.{row_count}
use Rattle.glk_reach.specs.Effects.{found_effects, method_effects, reloc_read, aux_read}
use Rattle.glk_effects.specs.Views.{Appends}
use Rattle.glk_effects.proofs.Added.{both}
use Rattle.glk_effects.proofs.Parts.{effects_some}
use Rattle.glk_effects.proofs.graph.ReachGraph.push_effects.Goals as goal

pub returns : goal.returns
returns c =
    let p = c.args.self.now.read.now.merged.now.program in
    let n = row_count p in
    let k = c.args.key in
    let r = c.args.id.0 in
    let a = c.args.out.now.items in
    let b = c.push_relocs.new.out.items in
    let d = c.push_methods.new.out.items in
    let e = c.push_auxes.new.out.items in
    let x = found_effects (map (reloc_read p k r) (relocs_of p r)) in
    let y = method_effects p k in
    let z = found_effects (map (aux_read p k r) (auxes_of p r)) in
    let Q : List Effect → Type 0 = λ added. Appends n a e added in
    subst Q (sym (effects_some p k r c.requires.chosen))
    (both n a d e (x ++ y) z (both n a b d x y c.in_ok-push_relocs.ensures c.in_ok-push_methods.ensures) c.in_ok-push_auxes.ensures)
