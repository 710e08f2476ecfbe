use Rattle.glk_layout.specs.Placed.{placed_view}
use Rattle.std.proofs.Common.{◌≡◌, ◌≢◌, ◌+◌, ◌∷◌, [], true, false, sym, ap, ◌∙◌, arith}
use Rattle.std.specs.Prelude.{if◌then◌else◌, ◌==◌, map}
use Rattle.std.proofs.lemmas.Bool.Decides.{nat_tests}
use Rattle.glk_elf.specs.Sections.{rodata}
use Rattle.glk_layout.specs.Boxes.{end_after}
use Rattle.glk_layout.specs.Symbols.{boxes_in}
use Rattle.glk_layout.specs.Layout.{made_boxes, made_box, whole_box, table_size}
use Rattle.glk_layout.proofs.Boxing.{end_append, whole_end}
use Rattle.glk_layout.proofs.placing.place_section.Goals as goal

pub returns-then-number-clause-end : goal.returns-then-number-clause-end
returns-then-number-clause-end c =
    let made : made_boxes (placed_view c.args.contents.now) c.args.number ≡ map made_box c.args.contents.now.made.now =
    ap (λ b. if b then map made_box c.args.contents.now.made.now else whole_box (table_size c.args.contents.now.tables c.args.number) ∷ [])
    (let here : c.args.number ≡ rodata = c.if-number.true ∙ c.number.ensures.number in let t : (c.args.number == rodata) ≡ true = grind (arith, nat_tests) in t) in
    c.place_made.ensures.end
    ∙ (ap (λ e. end_after e (map made_box c.args.contents.now.made.now)) c.place_symbols-end.ensures.end
    ∙ (ap (λ l. end_after (end_after c.args.start (boxes_in c.args.number c.args.contents.now.symbols.now)) l) (sym made)
    ∙ sym (end_append c.args.start (boxes_in c.args.number c.args.contents.now.symbols.now) (made_boxes (placed_view c.args.contents.now) c.args.number))))

pub returns-else-number-clause-end : goal.returns-else-number-clause-end
returns-else-number-clause-end c =
    let made : made_boxes (placed_view c.args.contents.now) c.args.number ≡ whole_box c.table_size.result ∷ [] =
    ap (λ b. if b then map made_box c.args.contents.now.made.now else whole_box (table_size c.args.contents.now.tables c.args.number) ∷ [])
    (let other : c.args.number ≢ rodata = λ e. c.if-number.false (e ∙ sym c.number.ensures.number) in let t : (c.args.number == rodata) ≡ false = grind (arith, nat_tests) in t) ∙ ap (λ t. whole_box t ∷ []) (sym c.table_size.ensures.value) in
    ap (λ e. e + c.table_size.result) c.place_symbols-end.ensures.end
    ∙ (sym (whole_end (end_after c.args.start (boxes_in c.args.number c.args.contents.now.symbols.now)) c.table_size.result)
    ∙ (ap (λ l. end_after (end_after c.args.start (boxes_in c.args.number c.args.contents.now.symbols.now)) l) (sym made)
    ∙ sym (end_append c.args.start (boxes_in c.args.number c.args.contents.now.symbols.now) (made_boxes (placed_view c.args.contents.now) c.args.number))))
