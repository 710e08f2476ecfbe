use Rattle.std.proofs.Common.{length, sym, ◌∙◌, arith, below_more}
use Rattle.glk_reach.specs.Chosen.{key_relocs}
use Rattle.glk_faults.specs.Rules.{breaks}
use Rattle.glk_faults.proofs.Finds.{find_at, find_none}
use Rattle.glk_faults.proofs.relocs.SymbolRelocs.first_breaking.Goals as goal

pub loop-i-preserved : goal.loop-i-preserved
loop-i-preserved c = below_more _ _ c.loop-i.invariant (sym c.breaks.ensures ∙ c.if-breaks.false)

pub returns-then-breaks : goal.returns-then-breaks
returns-then-breaks c =
    let s = c.args.self.now in
    let p = s.merged.now.program in
    let n = length (key_relocs p s.key) in
    sym (find_at (breaks p s.key c.args.rule) n c.loop-i.i (omega arith) (sym c.breaks.ensures ∙ c.if-breaks.true) c.loop-i.invariant)

pub returns : goal.returns
returns c =
    let s = c.args.self.now in
    let p = s.merged.now.program in
    let n = length (key_relocs p s.key) in
    sym (find_none (breaks p s.key c.args.rule) n (λ j h. c.loop-i.invariant j (omega arith)))
