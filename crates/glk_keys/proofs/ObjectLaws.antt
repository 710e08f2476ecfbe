-- The symbol that a row is, by the tables of objects.
use Rattle.std.proofs.Common.{◌≡◌, ℕ, ◌+◌, ◌-◌, ◌<◌, ◌≤◌, List, [], length, get_or, sym, ◌∙◌, subst, arith}
use Rattle.std.specs.List.{sum_by}
use Rattle.std.proofs.lemmas.Grind.{get_or_default_zero}
use Rattle.glk_base.specs.Groups.{group_of, group_start}
use Rattle.glk_base.proofs.Groups.{group_within, group_holds}
use Rattle.glk_obj.specs.Records.{symbols}
use Rattle.glk_keys.specs.ObjectTables.{AreTables}
use Rattle.glk_keys.specs.declared.blocks.BlockStarts.{BlockStarts}

module _ (objects : List (List ℕ)) (blocks : List BlockStarts) (firsts owners : List ℕ) (t : AreTables objects blocks firsts owners) (r n : ℕ) (h : r < sum_by symbols objects) (owner : n ≡ get_or owners r n) where
  pub owner_is : n ≡ group_of symbols objects r
  owner_is = let owned = t.owned in owner ∙ get_or_default_zero owners r n (omega arith) ∙ t.owner r h

  pub owner_inside : n < length objects
  owner_inside = let e = owner_is in let w = group_within symbols objects r h in omega (arith, e, w)

  pub owner_begun : n < length firsts
  owner_begun = let e = owner_inside in let b = t.begun in omega (arith, e, b)

  module _ (first : ℕ) (is_first : first ≡ get_or firsts n first) where
    pub first_is : first ≡ group_start symbols objects n
    first_is = is_first ∙ get_or_default_zero firsts n first owner_begun ∙ t.first n owner_inside

    there : (group_start symbols objects n ≤ r) × (r < group_start symbols objects n + symbols (get_or objects n []))
    there =
        let Q : ℕ → Type 0 = λ k. (group_start symbols objects k ≤ r) × (r < group_start symbols objects k + symbols (get_or objects k [])) in
        subst Q (sym owner_is) (group_holds symbols objects [] r h)

    pub first_before : first ≤ r
    first_before = let f = first_is in let w = there in omega (arith, f, w.0)

    pub row_within : r - first < symbols (get_or objects n [])
    row_within = let f = first_is in let w = there in omega (arith, f, w.0, w.1)
