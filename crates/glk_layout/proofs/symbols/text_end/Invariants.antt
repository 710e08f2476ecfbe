use Rattle.std.proofs.Common.{◌≡◌, ◌≤◌, ◌+◌, ◌*◌, ◌^◌, take}
use Rattle.glk_elf.specs.Sections.{text}
use Rattle.glk_elf.specs.Placing.{text_start}
use Rattle.glk_layout.specs.Boxes.{end_after}
use Rattle.glk_layout.specs.Symbols.{boxes_in}
use Rattle.glk_layout.proofs.symbols.text_end.Given as goal

abbrev pub invariant-loop-symbol : goal.invariant-loop-symbol
invariant-loop-symbol l = record {
  ends : l.end ≡ end_after text_start (boxes_in text (take l.symbol-index l.symbols));
  small : l.end ≤ text_start + l.symbol-index * 2 ^ 33;
}
