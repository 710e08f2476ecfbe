use Rattle.std.proofs.Common.{rules}
use Rattle.std.proofs.lemmas.List.Sorted.{answers_always}
use Rattle.glk_nm.specs.Listing.{falling}
use Rattle.glk_nm.proofs.ListingLemmas.{ordered}
use Rattle.glk_nm.proofs.listing.sort_by_size.Goals as goal

pub returns : goal.returns
returns c =
    ordered (λ symbol. symbol.size) falling _ _ c.in_ok-sort_by_key.ensures.permutation
    (c.in_ok-sort_by_key.ensures.sorted (λ symbol. record { 0 = symbol.size }) (answers_always _ _ _ (λ f a r g h. search rules)))
    (c.in_ok-sort_by_key.ensures.stable (λ symbol. record { 0 = symbol.size }) (answers_always _ _ _ (λ f a r g h. search rules)))
