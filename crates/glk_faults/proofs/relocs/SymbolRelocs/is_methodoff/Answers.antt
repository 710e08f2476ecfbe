use Rattle.std.proofs.Common.{Option, sym, ap, ◌∙◌}
use Rattle.glk_obj.specs.declared.kinds.RelocKind.{RelocKind}
use Rattle.glk_obj.specs.declared.kinds.RelocKind.TheVariants.{MethodOff}
use Rattle.glk_reach.specs.RelocKinds.{is_kind}
use Rattle.glk_faults.proofs.Lookups.{methodoff_is}
use Rattle.glk_faults.proofs.relocs.SymbolRelocs.is_methodoff.Goals as goal

pub returns : goal.returns
returns c =
    let s = c.args.self.now in
    c.is_methodoff.ensures ∙ ap (λ (kind : Option RelocKind). is_kind MethodOff kind) c.facts.ensures.kind ∙ sym (methodoff_is s.merged.now.program s.key s.id.0 s.chosen c.args.i c.requires)
