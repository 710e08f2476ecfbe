use Rattle.std.proofs.Common.{◌<◌, length, arith}
use Rattle.std.proofs.lemmas.List.Elements.{All-get_or}
use Rattle.glk_closure.specs.Views.{AreBelow}
use Rattle.glk_keys.specs.Rows.{row_count}
use Rattle.glk_readings.specs.declared.triples.MethodTriple.{MethodTriple}
use Rattle.glk_reach.specs.Effects.{triple_keys}
use Rattle.glk_reach.specs.Reasons.{no_triple}
use Rattle.glk_effects.proofs.Added.{none}
use Rattle.glk_effects.proofs.MethodSteps.{add_method, add_methods}
use Rattle.glk_effects.proofs.program.ReadProgram.push_triples.Goals as goal

pub loop-j-init : goal.loop-j-init
loop-j-init c = none (row_count c.args.self.now.merged.now.program) c.args.out.now.items

pub loop-j-preserved : goal.loop-j-preserved
loop-j-preserved c =
    let p = c.args.self.now.merged.now.program in
    let inside : c.loop-j.j < length c.args.triples.now = omega arith in
    let P : MethodTriple → Type 0 = λ triple. AreBelow (row_count p) (triple_keys triple) in
    add_method p c.args.key c.args.triples.now no_triple c.loop-j.j inside (row_count p) c.args.out.now.items c.loop-j.out.items c.loop-j.invariant c.push.new.self.items c.method.result c.in_ok-push.ensures.items c.method.ensures (All-get_or P c.args.triples.now c.loop-j.j no_triple inside c.requires.within)

pub returns : goal.returns
returns c =
    let p = c.args.self.now.merged.now.program in
    add_methods p c.args.key c.args.triples.now c.loop-j.j (row_count p) c.args.out.now.items c.loop-j.out.items (omega arith) c.loop-j.invariant
