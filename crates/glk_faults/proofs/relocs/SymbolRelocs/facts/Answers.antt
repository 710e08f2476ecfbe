use Rattle.std.proofs.Common.{Option, sym, ap, ◌∙◌}
use Rattle.std.specs.Prelude.{is_some}
use Rattle.glk_keys.specs.Relocations.{reloc_kind, reloc_target}
use Rattle.glk_obj.specs.Records.{Reloc, field_start}
use Rattle.glk_readings.specs.declared.symbols.TargetSymbol.{TargetSymbol}
use Rattle.glk_reach.specs.Chosen.{target_symbol}
use Rattle.glk_faults.proofs.Lookups.{reloc_is, target_is, inside_row}
use Rattle.glk_faults.proofs.relocs.SymbolRelocs.facts.Goals as goal

pub reloc-reloc-requires-clause-index : goal.reloc-reloc-requires-clause-index
reloc-reloc-requires-clause-index c = let s = c.args.self.now in inside_row s.merged.now.program s.key s.id.0 s.chosen c.args.i c.requires

pub reloc_kind-requires-clause-index : goal.reloc_kind-requires-clause-index
reloc_kind-requires-clause-index c = let s = c.args.self.now in inside_row s.merged.now.program s.key s.id.0 s.chosen c.args.i c.requires

pub reloc_target-requires-clause-index : goal.reloc_target-requires-clause-index
reloc_target-requires-clause-index c = let s = c.args.self.now in inside_row s.merged.now.program s.key s.id.0 s.chosen c.args.i c.requires

pub returns-clause-kind : goal.returns-clause-kind
returns-clause-kind c =
    let s = c.args.self.now in
    let p = s.merged.now.program in
    c.reloc_kind.ensures ∙ ap (λ (r : Reloc). reloc_kind p r) (sym (reloc_is p s.key s.id.0 s.chosen c.args.i))

pub returns-clause-start : goal.returns-clause-start
returns-clause-start c =
    let s = c.args.self.now in
    let p = s.merged.now.program in
    c.field_start.ensures ∙ ap (λ (r : Reloc). field_start r) (c.reloc-reloc.ensures.value ∙ sym (reloc_is p s.key s.id.0 s.chosen c.args.i))

pub returns-clause-size : goal.returns-clause-size
returns-clause-size c =
    let s = c.args.self.now in
    let p = s.merged.now.program in
    ap (λ (r : Reloc). r.size) (c.reloc-reloc.ensures.value ∙ sym (reloc_is p s.key s.id.0 s.chosen c.args.i))

pub returns-clause-target : goal.returns-clause-target
returns-clause-target c =
    let s = c.args.self.now in
    let p = s.merged.now.program in
    c.is_some.ensures ∙ ap (λ (o : Option TargetSymbol). is_some o)
    (c.target_symbol.ensures ∙ ap target_symbol (c.reloc_target.ensures.value ∙ ap (λ (r : Reloc). reloc_target p s.id.0 r) (sym (reloc_is p s.key s.id.0 s.chosen c.args.i)))
    ∙ sym (target_is p s.key s.id.0 s.chosen c.args.i c.requires))
