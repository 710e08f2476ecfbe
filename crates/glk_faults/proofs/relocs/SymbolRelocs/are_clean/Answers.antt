use Rattle.std.proofs.Common.{◌≡◌, false, not, Option, sym, ap, ◌∙◌}
use Rattle.std.specs.Prelude.{◌&&◌, is_some}
use Rattle.std.specs.Option.{option_map_or}
use Rattle.glk_obj.specs.declared.kinds.RelocKind.{RelocKind}
use Rattle.glk_reach.specs.RelocFaults.{has_no_kind, has_other_size, is_without_target}
use Rattle.glk_reach.specs.RelocKinds.{may_have_size, needs_no_target}
use Rattle.glk_faults.proofs.Rising.{none_clean, none_before, before_more, clean_more}
use Rattle.glk_faults.proofs.relocs.SymbolRelocs.are_clean.Goals as goal

pub loop-i-init : goal.loop-i-init
loop-i-init c =
    let s = c.args.self.now in
    record { clean = none_clean s.merged.now.program s.key; before = none_before s.merged.now.program s.key 0 }

pub loop-i-preserved : goal.loop-i-preserved
loop-i-preserved c =
    let s = c.args.self.now in
    let p = s.merged.now.program in
    let i = c.loop-i.i in
    let facts = c.facts-facts.result in
    let e = c.facts-facts.ensures in
    let kinds : has_no_kind p s.key i ≡ false = ap (λ (o : Option RelocKind). not (is_some o)) (sym e.kind) ∙ ap not (sym c.is_some.ensures ∙ c.if-not-is_some.false) in
    let sizes : has_other_size p s.key i ≡ false =
    (λ z. option_map_or (λ kind. not (may_have_size kind ((sym e.size) z))) ((sym e.kind) z) false) ∙ sym c.has_other_size.ensures ∙ c.if-has_other_size.false in
    let targets : is_without_target p s.key i ≡ false =
    (λ z. not ((sym e.target) z) && not (option_map_or needs_no_target ((sym e.kind) z) false)) ∙ sym c.lacks_target.ensures ∙ c.if-lacks_target.false in
    record {
      clean = clean_more p s.key i facts e.kind e.start e.size s.zeros s.zeros_are c.loop-i.end c.in-Some.next c.in-Some.ensures c.loop-i.invariant.before c.loop-i.invariant.clean kinds sizes targets;
      before = before_more p s.key i facts e.kind e.start e.size s.zeros s.zeros_are c.loop-i.end c.in-Some.next c.in-Some.ensures c.loop-i.invariant.before;
    }
