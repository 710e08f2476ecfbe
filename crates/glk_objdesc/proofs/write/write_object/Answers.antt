use Rattle.std.proofs.Common.{arith, ◌∙◌, ap, ◌++◌, length, List, ℕ}
use Rattle.glk_objdesc.specs.FirstUse.{concat_of}
use Rattle.glk_objdesc.specs.Canonical.{clamped}
use Rattle.glk_objdesc.proofs.SizeLemmas.{past_is, object_is, sum_small}
use Rattle.glk_objdesc.proofs.write.write_object.Goals as goal

pub returns-then-number-gt-OBJECT_LIMIT-clause-refused : goal.returns-then-number-gt-OBJECT_LIMIT-clause-refused
returns-then-number-gt-OBJECT_LIMIT-clause-refused c =
    (past_is c.args.d.now c.object_length-number.result c.object_length-number.ensures.value c.if-number-gt-OBJECT_LIMIT.true, c.object_length-number.ensures.value)

pub object_length-number-requires-clause-strings : goal.object_length-number-requires-clause-strings
object_length-number-requires-clause-strings c = c.size-strings.ensures ∙ ap (λ (p : List (List ℕ)). clamped (length (concat_of p))) c.in_ok-pool.ensures

pub push_header-requires-clause-strings : goal.push_header-requires-clause-strings
push_header-requires-clause-strings c =
    let small = c.object_length-number.ensures.small c.if-number-gt-OBJECT_LIMIT.false in
    c.size-strings.ensures ∙ ap (λ (p : List (List ℕ)). clamped (length (concat_of p))) c.in_ok-pool.ensures ∙ small.strings

pub push_header-requires-clause-lengths : goal.push_header-requires-clause-lengths
push_header-requires-clause-lengths c =
    let small = c.object_length-number.ensures.small c.if-number-gt-OBJECT_LIMIT.false in
    c.block_lengths-lengths.ensures ∙ small.lengths

pub push_header-requires-clause-small : goal.push_header-requires-clause-small
push_header-requires-clause-small c =
    let small = c.object_length-number.ensures.small c.if-number-gt-OBJECT_LIMIT.false in
    sum_small c.args.d.now c.size-strings.result c.block_lengths-lengths.result small
    (c.size-strings.ensures ∙ ap (λ (p : List (List ℕ)). clamped (length (concat_of p))) c.in_ok-pool.ensures) c.block_lengths-lengths.ensures

pub push_named_blocks-requires : goal.push_named_blocks-requires
push_named_blocks-requires c =
    let small = c.object_length-number.ensures.small c.if-number-gt-OBJECT_LIMIT.false in
    record { names = small.names; pool = c.in_ok-pool.ensures; small = omega (arith, small.sum) }

pub push_other_blocks-requires : goal.push_other_blocks-requires
push_other_blocks-requires c =
    let small = c.object_length-number.ensures.small c.if-number-gt-OBJECT_LIMIT.false in
    record { names = small.names; pool = c.in_ok-pool.ensures; small = omega (arith, small.sum); relocs = small.relocs; auxes = small.auxes; content = small.content }

pub returns-clause-bytes : goal.returns-clause-bytes
returns-clause-bytes c =
    object_is c.args.d.now c.in_ok-out.out.items c.push_header.new.out.items c.write.new.out.items c.push_named_blocks.new.out.items c.push_other_blocks.new.out.items
    c.in_ok-out.ensures.items c.in_ok-push_header.ensures
    (c.in_ok-write.ensures ∙ ap (λ (p : List (List ℕ)). c.push_header.new.out.items ++ concat_of p) c.in_ok-pool.ensures)
    c.in_ok-push_named_blocks.ensures c.in_ok-push_other_blocks.ensures

pub returns-clause-small : goal.returns-clause-small
returns-clause-small c = (c.object_length-number.ensures.small c.if-number-gt-OBJECT_LIMIT.false).whole
