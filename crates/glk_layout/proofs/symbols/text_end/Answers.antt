use Rattle.std.proofs.Common.{◌≡◌, ℕ, get_or, sym, ap, ◌∙◌, subst, arith}
use Rattle.glk_elf.specs.Sections.{text}
use Rattle.glk_elf.specs.Placing.{text_start}
use Rattle.glk_layout.specs.Layout.{no_symbol}
use Rattle.glk_layout.proofs.Boxing.{with_symbol, symbols_more, symbols_none}
use Rattle.glk_layout.proofs.symbols.text_end.Goals as goal

pub loop-symbol-init : goal.loop-symbol-init
loop-symbol-init c = record {
  ends = sym (symbols_none text text_start c.args.symbols.now);
  small = omega arith;
}

pub loop-symbol-preserved : goal.loop-symbol-preserved
loop-symbol-preserved c = record {
  ends =
      let Number : ℕ → Type 0 = λ n. c.place_symbol-end.result.0 ≡ with_symbol n c.loop-symbol.end (get_or c.args.symbols.now c.loop-symbol.symbol-index no_symbol) in
      subst Number c.number.ensures.number c.place_symbol-end.ensures.end
      ∙ (ap (λ e. with_symbol text e (get_or c.args.symbols.now c.loop-symbol.symbol-index no_symbol)) c.loop-symbol.invariant.ends
      ∙ sym (symbols_more text text_start c.args.symbols.now c.loop-symbol.symbol-index no_symbol c.loop-symbol-test.true));
  small =
      let s = c.loop-symbol.invariant.small in
      let t = c.place_symbol-end.ensures.small in
      omega arith;
}
