use Rattle.std.proofs.Common.{◌≡◌, ◌∙◌, List, ℕ, ℤ, sym, subst}
use Rattle.std.specs.List.Sorted.{IsNonDecreasingBy}
use Rattle.glk_pcval.specs.Table.{ranges}
use Rattle.glk_tables.proofs.calls.callers_of.Goals as goal

pub callers_by-requires : goal.callers_by-requires
callers_by-requires c =
    let P : List (ℤ × ℕ) → Type 0 = λ xs. IsNonDecreasingBy (λ range. range.1) xs in
    let is : c.deref.result.now ≡ ranges c.args.pcinline.now = c.deref.ensures.value ∙ c.in_ok-list.ensures in
    subst P (sym is) (c.ends_never_fall.ensures c.args.pcinline.now)
