use Rattle.std.proofs.Common.{◌≡◌, ◌+◌, Bool, true, sym, ap, ◌∙◌, subst}
use Rattle.std.specs.Prelude.{if◌then◌else◌}
use Rattle.glk_layout.specs.Boxes.{box_address, box_end}
use Rattle.glk_layout.specs.Symbols.{is_in, box_of}
use Rattle.glk_layout.proofs.Boxing.{least_is_from}
use Rattle.glk_layout.proofs.symbols.place_symbol.Goals as goal

found : (c : goal.After-room) → c.least_multiple-address.result ≡ box_address c.args.end (box_of c.args.symbol.now)
found c =
    least_is_from c.alignment.result c.args.end c.least_multiple-address.result c.alignment.ensures.some c.least_multiple-address.ensures
    ∙ ap (λ n. box_address c.args.end (record { align = n; room = 0 })) c.alignment.ensures.value

pub returns-clause-end : goal.returns-clause-end
returns-clause-end c =
    let here : is_in c.args.number c.args.symbol.now ≡ true = sym c.is_home.ensures ∙ c.if-not-is_home.false in
    let P : Bool → Type 0 = λ b. c.least_multiple-address.result + c.room.result ≡ (if b then box_end c.args.end (box_of c.args.symbol.now) else c.args.end) in
    subst P (sym here) (ap (λ a. a + c.room.result) (found c) ∙ ap (λ r. box_address c.args.end (box_of c.args.symbol.now) + r) c.room.ensures.value)

pub returns-clause-place : goal.returns-clause-place
returns-clause-place c =
    let here : is_in c.args.number c.args.symbol.now ≡ true = sym c.is_home.ensures ∙ c.if-not-is_home.false in
    let P : Bool → Type 0 = λ b. c.least_multiple-address.result ≡ (if b then box_address c.args.end (box_of c.args.symbol.now) else c.args.place) in
    subst P (sym here) (found c)
