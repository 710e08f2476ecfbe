use Rattle.std.proofs.Common.{◌≡◌, ◌<◌, sym, ◌∙◌, eqb, eq-eqb, add-one, false, arith}
use Rattle.std.proofs.lemmas.Bool.{false_from_ne_true, eqb-true}
use Rattle.glk_obj.specs.Numbers.{kinds, number_in}
use Rattle.glk_obj.proofs.KindNumbers.{some_kind, find_here, find_past}
use Rattle.glk_obj.proofs.numbers.Numbers.kind.Goals as goal

pub returns-then-number : goal.returns-then-number
returns-then-number c =
    let some : 0 < c.args.number = omega arith in
    let e : number_in c.args.self.now c.at-kind.result ≡ c.args.number = cc in
    sym (some_kind c.args.self.now c.args.number some ∙ c.loop-index.invariant ∙ find_here (λ kind. eqb (number_in c.args.self.now kind) c.args.number) kinds c.loop-index.index c.at-kind.result c.at-kind.ensures (eq-eqb _ _ e))

pub loop-index-preserved : goal.loop-index-preserved
loop-index-preserved c =
    let fails : eqb (number_in c.args.self.now c.at-kind.result) c.args.number ≡ false = false_from_ne_true (eqb (number_in c.args.self.now c.at-kind.result) c.args.number) (λ t. let e : number_in c.args.self.now c.at-kind.result ≡ c.args.number = eqb-true _ _ t in absurd (omega arith)) in
    c.loop-index.invariant ∙ rw add-one (find_past (λ kind. eqb (number_in c.args.self.now kind) c.args.number) kinds c.loop-index.index c.at-kind.result c.at-kind.ensures fails)
