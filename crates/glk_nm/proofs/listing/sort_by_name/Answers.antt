use Rattle.std.proofs.Common.{rules}
use Rattle.std.proofs.lemmas.List.Sorted.{answers_always}
use Rattle.glk_nm.specs.Listing.{name_cmp}
use Rattle.glk_nm.proofs.ListingLemmas.{ordered}
use Rattle.glk_nm.proofs.listing.sort_by_name.Goals as goal

pub returns : goal.returns
returns c =
    ordered (λ symbol. symbol.name) name_cmp _ _ c.in_ok-sort_by_key.ensures.permutation
    (c.in_ok-sort_by_key.ensures.sorted (λ symbol. symbol.name) (answers_always _ _ _ (λ f a r g h. search rules)))
    (c.in_ok-sort_by_key.ensures.stable (λ symbol. symbol.name) (answers_always _ _ _ (λ f a r g h. search rules)))
