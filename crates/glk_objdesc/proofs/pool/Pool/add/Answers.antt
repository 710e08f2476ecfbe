use Rattle.std.proofs.Common.{◌∙◌, sym, ap, ℕ, List}
use Rattle.glk_objdesc.specs.FirstUse.{with_first}
use Rattle.glk_objdesc.specs.Views.{texts_of}
use Rattle.glk_objdesc.proofs.PoolLemmas.{first_empty, first_old, first_new, noted, not_noted, texts_push, fits_more}
use Rattle.glk_objdesc.proofs.pool.Pool.add.Goals as goal

pub returns-then-is_empty : goal.returns-then-is_empty
returns-then-is_empty c = first_empty c.args.self.now c.args.string.now (sym c.is_empty.ensures ∙ c.if-is_empty.true)

pub returns-in-Some : goal.returns-in-Some
returns-in-Some c =
    let xs = texts_of c.self.inside.strings.items in
    let there = noted c.self.inside.offsets xs c.args.string.now c.self.inside.size c.in-Some.field-0 c.self.invariant c.in-Some.ensures in
    ap (λ (ys : List (List ℕ)). ys) (sym c.self.view_is) ∙ first_old xs c.args.string.now (sym c.is_empty.ensures ∙ c.if-is_empty.false) there
    ∙ ap (λ (ys : List (List ℕ)). with_first ys c.args.string.now) c.self.view_is

pub invariant_of-self-2 : goal.invariant_of-self-2
invariant_of-self-2 c =
    let xs = texts_of c.self.inside.strings.items in
    let pushed = texts_push c.push.new.self.items c.reserve.new.self.items c.self.inside.strings.items c.args.string c.in_ok-push.ensures.items c.in_ok-reserve.ensures.items in
    fits_more c.self.inside.offsets c.insert.new.self xs (texts_of c.push.new.self.items) c.args.string.now c.self.inside.size c.saturating_add-self-inside.result
    c.self.invariant c.in-None.ensures pushed c.in_ok-insert.ensures.updates c.saturating_add-self-inside.ensures

pub returns : goal.returns
returns c =
    let xs = texts_of c.self.inside.strings.items in
    let pushed = texts_push c.push.new.self.items c.reserve.new.self.items c.self.inside.strings.items c.args.string c.in_ok-push.ensures.items c.in_ok-reserve.ensures.items in
    let none = not_noted c.self.inside.offsets xs c.args.string.now c.self.inside.size c.self.invariant c.in-None.ensures in
    pushed ∙ first_new xs c.args.string.now (sym c.is_empty.ensures ∙ c.if-is_empty.false) none ∙ ap (λ (ys : List (List ℕ)). with_first ys c.args.string.now) c.self.view_is
