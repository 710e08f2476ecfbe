use Rattle.std.proofs.Common.{◌≡◌, ◌∙◌, arith}
use Rattle.glk_obj.proofs.KindNumbers.{one_spelling}
use Rattle.glk_obj.proofs.numbers.entry.Goals as goal

pub returns-then-number-eq0 : goal.returns-then-number-eq0
returns-then-number-eq0 c = λ kind number gives.
    let same : number ≡ c.in_ok-number.number = one_spelling c.after_word.result.now number c.in_ok-number.number (c.after_word.ensures ∙ gives.digits) c.in_ok-number.ensures (omega (arith, gives.high)) (omega arith) in
    let low = gives.low in
    absurd (omega arith)

pub returns-then-number-gt-GREATEST : goal.returns-then-number-gt-GREATEST
returns-then-number-gt-GREATEST c = λ kind number gives.
    let same : number ≡ c.in_ok-number.number = one_spelling c.after_word.result.now number c.in_ok-number.number (c.after_word.ensures ∙ gives.digits) c.in_ok-number.ensures (omega (arith, gives.high)) (omega arith) in
    let high = gives.high in
    absurd (omega arith)
