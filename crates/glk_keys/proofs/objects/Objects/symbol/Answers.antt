use Rattle.std.proofs.Common.{◌≡◌, ℕ, ◌-◌, List, length, ap, subst, vec_len, arith, rules}
use Rattle.glk_keys.proofs.ObjectLaws.{owner_is, owner_inside, owner_begun, first_is, first_before, row_within}
use Rattle.glk_keys.specs.ObjectTables.{AreTables}
use Rattle.glk_keys.proofs.objects.Objects.symbol.Goals as goal

pub index-requires : goal.index-requires
index-requires c =
    let P : List (List ℕ) → Type 0 = λ o. AreTables o c.self.inside.blocks.items c.self.inside.firsts.items c.self.inside.owners.items in
    let t = subst P c.self.view_is c.self.invariant.tables in
    let begun = owner_begun c.args.self.now c.self.inside.blocks.items c.self.inside.firsts.items c.self.inside.owners.items t c.args.row c.index-object.result.now c.requires c.index-object.ensures in
    let len : vec_len c.self.inside.firsts ≡ length c.self.inside.firsts.items = search rules in
    omega (arith, begun, len)

pub overflow_sub-result : goal.overflow_sub-result
overflow_sub-result c =
    let P : List (List ℕ) → Type 0 = λ o. AreTables o c.self.inside.blocks.items c.self.inside.firsts.items c.self.inside.owners.items in
    let t = subst P c.self.view_is c.self.invariant.tables in
    first_before c.args.self.now c.self.inside.blocks.items c.self.inside.firsts.items c.self.inside.owners.items t c.args.row c.index-object.result.now c.requires c.index-object.ensures c.index.result.now c.index.ensures

pub returns-clause-object : goal.returns-clause-object
returns-clause-object c =
    let P : List (List ℕ) → Type 0 = λ o. AreTables o c.self.inside.blocks.items c.self.inside.firsts.items c.self.inside.owners.items in
    let t = subst P c.self.view_is c.self.invariant.tables in
    owner_is c.args.self.now c.self.inside.blocks.items c.self.inside.firsts.items c.self.inside.owners.items t c.args.row c.index-object.result.now c.requires c.index-object.ensures

pub returns-clause-index : goal.returns-clause-index
returns-clause-index c =
    let P : List (List ℕ) → Type 0 = λ o. AreTables o c.self.inside.blocks.items c.self.inside.firsts.items c.self.inside.owners.items in
    let t = subst P c.self.view_is c.self.invariant.tables in
    ap (λ k. c.args.row - k) (first_is c.args.self.now c.self.inside.blocks.items c.self.inside.firsts.items c.self.inside.owners.items t c.args.row c.index-object.result.now c.requires c.index-object.ensures c.index.result.now c.index.ensures)

pub returns-clause-inside : goal.returns-clause-inside
returns-clause-inside c =
    let P : List (List ℕ) → Type 0 = λ o. AreTables o c.self.inside.blocks.items c.self.inside.firsts.items c.self.inside.owners.items in
    let t = subst P c.self.view_is c.self.invariant.tables in
    owner_inside c.args.self.now c.self.inside.blocks.items c.self.inside.firsts.items c.self.inside.owners.items t c.args.row c.index-object.result.now c.requires c.index-object.ensures

pub returns-clause-within : goal.returns-clause-within
returns-clause-within c =
    let P : List (List ℕ) → Type 0 = λ o. AreTables o c.self.inside.blocks.items c.self.inside.firsts.items c.self.inside.owners.items in
    let t = subst P c.self.view_is c.self.invariant.tables in
    row_within c.args.self.now c.self.inside.blocks.items c.self.inside.firsts.items c.self.inside.owners.items t c.args.row c.index-object.result.now c.requires c.index-object.ensures c.index.result.now c.index.ensures
