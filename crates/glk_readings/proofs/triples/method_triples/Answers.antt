use Rattle.std.proofs.Common.{◌∙◌, sym, refl}
use Rattle.glk_readings.proofs.RelocationWalks.{phase_more, triples_more, triples_same}
use Rattle.glk_readings.proofs.triples.method_triples.Goals as goal

pub loop-i-preserved-in_default : goal.loop-i-preserved-in_default
loop-i-preserved-in_default g c =
    let relocs = (g.S.Symbols.table c.args.symbols.now).relocs c.args.key in
    record {
      phase = c.next_phase-phase.ensures ∙ phase_more relocs c.loop-i.i c.reloc.result c.reloc.ensures.value c.reloc.result.is_methodoff refl c.loop-i.phase c.loop-i.invariant.phase;
      triples = c.loop-i.invariant.triples ∙ sym (triples_same relocs c.loop-i.i (sym c.triple_from-triple.ensures ∙ c.in_default.is));
    }

pub loop-i-preserved : goal.loop-i-preserved
loop-i-preserved g c =
    let relocs = (g.S.Symbols.table c.args.symbols.now).relocs c.args.key in
    record {
      phase = c.next_phase-phase.ensures ∙ phase_more relocs c.loop-i.i c.reloc.result c.reloc.ensures.value c.reloc.result.is_methodoff refl c.loop-i.phase c.loop-i.invariant.phase;
      triples = rw (c.in_ok-push.ensures.items, c.loop-i.invariant.triples, triples_more relocs c.loop-i.i c.in-Some.found (sym c.in-Some.ensures)) refl;
    }
