use Rattle.std.proofs.Common.{◌∙◌, ◌-◌, ap, refl, arith}
use Rattle.glk_obj.specs.Records.{Symbol}
use Rattle.glk_effects.proofs.Parts.{some_rows, own_begin, local_within, entry_at}
use Rattle.glk_effects.proofs.entry.entry_name.Goals as goal

pub overflow_sub-last : goal.overflow_sub-last
overflow_sub-last c = let some = some_rows c.args.merged.now.program in omega (arith, c.rows-last.ensures.value)

pub owner-local-requires : goal.owner-local-requires
owner-local-requires c = let some = some_rows c.args.merged.now.program in omega (arith, c.rows-last.ensures.value)

pub overflow_sub-last-2 : goal.overflow_sub-last-2
overflow_sub-last-2 c = local_within c.args.merged.now.program c.rows-last.result c.owner-local.result.1 c.rows-last.ensures.value c.owner-local.ensures.local

pub row-requires : goal.row-requires
row-requires c = let some = some_rows c.args.merged.now.program in omega (arith, c.rows-last.ensures.value)

pub returns : goal.returns
returns c =
    let p = c.args.merged.now.program in
    let last = c.rows-last.result - 1 in
    ap (λ (s : Symbol). s.name) c.row.ensures
    ∙ entry_at p (last - c.owner-local.result.1) (own_begin p c.rows-last.result last c.owner-local.result.1 c.rows-last.ensures.value refl c.owner-local.ensures.local)
