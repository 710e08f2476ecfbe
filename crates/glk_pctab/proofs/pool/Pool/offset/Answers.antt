use Rattle.std.proofs.Common.{arith, ◌≡◌, ◌∙◌, ap, subst, sym, ℕ, ◌<◌, ◌^◌, length}
use Rattle.std.specs.Prelude.{unwrap_or, Option}
use Rattle.glk_pctab.specs.FirstUse.{concat_of, offset_in}
use Rattle.glk_pctab.specs.Contents.{Contents}
use Rattle.glk_pctab.specs.Views.{texts_of}
use Rattle.glk_pctab.proofs.PoolLemmas.{offset_value, offset_exact, offset_le}
use Rattle.glk_pctab.proofs.pool.Pool.offset.Goals as goal

is_offset : (c : goal.After-unwrap_or) → c.unwrap_or.result ≡ offset_in c.args.self.now.mark c.args.self.now.elements c.args.element.now
is_offset c =
    let mark = c.self.inside.mark.now in
    let xs = texts_of c.self.inside.elements.items in
    let small : length (concat_of mark xs) < 2 ^ 32 = subst (λ (p : Contents). length (concat_of p.mark p.elements) < 2 ^ 32) (sym c.self.view_is) c.requires in
    c.unwrap_or.ensures ∙ ap (λ (r : Option ℕ). unwrap_or r c.self.inside.size) c.found.ensures
    ∙ offset_value mark c.self.inside.offsets xs c.args.element.now c.self.inside.size c.self.invariant
    ∙ offset_exact mark xs c.args.element.now small ∙ ap (λ (p : Contents). offset_in p.mark p.elements c.args.element.now) c.self.view_is

pub overflow_cast-result : goal.overflow_cast-result
overflow_cast-result c = let e = is_offset c in omega (arith, e, offset_le c.args.self.now.mark c.args.self.now.elements c.args.element.now, c.requires)

pub returns : goal.returns
returns c = is_offset c
