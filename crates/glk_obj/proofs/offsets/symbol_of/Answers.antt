use Rattle.std.proofs.Common.{◌≡◌, sym, subst}
use Rattle.glk_obj.specs.Records.{Symbol, symbol_at}
use Rattle.glk_obj.specs.Rules.{IsContentKind, IsAlign}
use Rattle.glk_obj.specs.Views.{symbol_view}
use Rattle.glk_obj.proofs.Laws.{is_aligned}
use Rattle.glk_obj.proofs.offsets.symbol_of.Goals as goal

pub returns-clause-aligned : goal.returns-clause-aligned
returns-clause-aligned c =
    let value : symbol_view c.symbol.result ≡ symbol_at c.args.bytes.now c.args.i = rw c.named_symbol_offset.ensures.value at c.symbol.ensures in
    let P : Symbol → Type 0 = λ s. IsContentKind s.kind → IsAlign s.align in
    subst P (sym value) (λ content. is_aligned c.args.bytes.now c.args.i c.requires.object c.requires.index content)
