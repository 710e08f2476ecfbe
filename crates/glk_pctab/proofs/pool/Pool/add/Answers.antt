use Rattle.glk_pctab.specs.Views.{texts_of}
use Rattle.glk_pctab.proofs.PoolLemmas.{pool_old, pool_new, noted, not_noted, texts_push, fits_more}
use Rattle.glk_pctab.proofs.pool.Pool.add.Goals as goal

pub returns-in-Some : goal.returns-in-Some
returns-in-Some c =
    let mark = c.self.inside.mark.now in
    let xs = texts_of c.self.inside.elements.items in
    let there = noted mark c.self.inside.offsets xs c.args.element.now c.self.inside.size c.in-Some.field-0 c.self.invariant c.in-Some.ensures in
    pool_old mark c.args.self.now xs c.args.element.now c.self.view_is there

pub invariant_of-self-2 : goal.invariant_of-self-2
invariant_of-self-2 c =
    let mark = c.self.inside.mark.now in
    let xs = texts_of c.self.inside.elements.items in
    let pushed = texts_push mark c.push.new.self.items c.reserve.new.self.items c.self.inside.elements.items c.args.element c.in_ok-push.ensures.items c.in_ok-reserve.ensures.items in
    fits_more mark c.self.inside.offsets c.insert.new.self xs (texts_of c.push.new.self.items) c.args.element.now c.self.inside.size c.saturating_add-size.result c.saturating_add-self-inside.result
    c.self.invariant c.in-None.ensures pushed c.in_ok-insert.ensures.updates c.saturating_add-size.ensures c.saturating_add-self-inside.ensures

pub returns : goal.returns
returns c =
    let mark = c.self.inside.mark.now in
    let xs = texts_of c.self.inside.elements.items in
    let pushed = texts_push mark c.push.new.self.items c.reserve.new.self.items c.self.inside.elements.items c.args.element c.in_ok-push.ensures.items c.in_ok-reserve.ensures.items in
    let none = not_noted mark c.self.inside.offsets xs c.args.element.now c.self.inside.size c.self.invariant c.in-None.ensures in
    pool_new mark c.args.self.now xs (texts_of c.push.new.self.items) c.args.element.now c.self.view_is pushed none
