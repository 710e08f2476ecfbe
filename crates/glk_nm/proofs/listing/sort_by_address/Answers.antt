use Rattle.std.proofs.Common.{rules}
use Rattle.std.proofs.lemmas.List.Sorted.{answers_always}
use Rattle.std.specs.Ordering.{nat_cmp}
use Rattle.glk_nm.proofs.ListingLemmas.{ordered}
use Rattle.glk_nm.proofs.listing.sort_by_address.Goals as goal

pub returns : goal.returns
returns c =
    ordered (λ symbol. symbol.value) nat_cmp _ _ c.in_ok-sort_by_key.ensures.permutation
    (c.in_ok-sort_by_key.ensures.sorted (λ symbol. symbol.value) (answers_always _ _ _ (λ f a r g h. search rules)))
    (c.in_ok-sort_by_key.ensures.stable (λ symbol. symbol.value) (answers_always _ _ _ (λ f a r g h. search rules)))
