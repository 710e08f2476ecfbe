use Rattle.std.proofs.Common.{◌≡◌, ◌∙◌, ℕ, List, Option, [], ◌∷◌, length, get_or, None, ap, inl, inr, arith, rules, to_z, of_z, w32, length-append}
use Rattle.std.proofs.lemmas.Bool.{cases_lt}
use Rattle.std.proofs.lemmas.List.{get_or_append_left, get_or_at}
use Rattle.glk_obj.specs.FuncInfos.{Node}
use Rattle.glk_tables.specs.Calls.{caller}
use Rattle.glk_tables.proofs.ValueLemmas.{caller_is}
use Rattle.glk_tables.proofs.calls.callers_by.Goals as goal

pub loop-k-preserved : goal.loop-k-preserved
loop-k-preserved c =
    let had = c.loop-k.callers.items in
    let made = c.node_of.result in
    let is = c.in_ok-push.ensures.items in
    record {
      count = ap length is ∙ length-append had (made ∷ []) ∙ omega (arith, c.loop-k.invariant.count);
      each = λ table ranged j below. ap (λ (xs : List (Option ℕ)). get_or xs j None) is ∙ elim (cases_lt j c.loop-k.k) [
        | inl less ↦ get_or_append_left had (made ∷ []) None j (omega (arith, c.loop-k.invariant.count)) ∙ c.loop-k.invariant.each table ranged j less
        | inr more ↦
            let same : c.loop-k.k ≡ j = omega arith in
            let place : length had ≡ j = c.loop-k.invariant.count ∙ same in
            let node = ap (λ (n : Node). n.parent_pc) c.node.ensures in
            let held : to_z w32 (of_z w32 c.node.result.parent_pc) ≡ c.node.result.parent_pc = search rules in
            let read = rw held at (c.value_at-value.ensures table ranged) in
            let here = caller_is c.args.info.now table c.loop-k.k c.value_at-value.result c.node.result.parent_pc node read in
            get_or_at had made [] None j place ∙ c.node_of.ensures ∙ rw (c.nodes-count.ensures) here ∙ ap (caller c.args.info.now table) same
      ];
    }
