use Rattle.std.proofs.Common.{arith, ◌≡◌, ◌∙◌, sym, ap, subst, ℕ, ◌≤◌, length, List}
use Rattle.std.specs.Prelude.{unwrap_or, Option}
use Rattle.glk_objdesc.specs.FirstUse.{concat_of, offset_in}
use Rattle.glk_objdesc.specs.Canonical.{object_limit}
use Rattle.glk_objdesc.specs.Views.{texts_of}
use Rattle.glk_objdesc.proofs.PoolLemmas.{offset_value, offset_exact, offset_empty, offset_full, offset_le}
use Rattle.glk_objdesc.proofs.pool.Pool.offset.Goals as goal

is_offset : (c : goal.After-unwrap_or) → c.unwrap_or.result ≡ offset_in c.args.self.now c.args.string.now
is_offset c =
    let xs = texts_of c.self.inside.strings.items in
    let small : length (concat_of xs) ≤ object_limit = subst (λ (ys : List (List ℕ)). length (concat_of ys) ≤ object_limit) (sym c.self.view_is) c.requires in
    c.unwrap_or.ensures ∙ ap (λ (r : Option ℕ). unwrap_or r c.self.inside.size) c.found.ensures
    ∙ offset_value c.self.inside.offsets xs c.args.string.now c.self.inside.size c.self.invariant
    ∙ offset_exact xs c.args.string.now small ∙ ap (λ (ys : List (List ℕ)). offset_in ys c.args.string.now) c.self.view_is

pub returns-then-is_empty : goal.returns-then-is_empty
returns-then-is_empty c = offset_empty c.args.self.now c.args.string.now (sym c.is_empty.ensures ∙ c.if-is_empty.true)

pub overflow_cast-result : goal.overflow_cast-result
overflow_cast-result c = let e = is_offset c in omega (arith, e, offset_le c.args.self.now c.args.string.now, c.requires)

pub overflow_add-result : goal.overflow_add-result
overflow_add-result c = let e = is_offset c in omega (arith, e, offset_le c.args.self.now c.args.string.now, c.requires)

pub returns : goal.returns
returns c = offset_full c.args.self.now c.args.string.now c.unwrap_or.result (sym c.is_empty.ensures ∙ c.if-is_empty.false) (is_offset c)
