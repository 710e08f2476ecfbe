-- A list of sections, spelled out.
use Rattle.std.proofs.Common.{◌≡◌, ◌+◌, ◌∙◌, ℕ, zero, suc, List, [], ◌∷◌, length, drop, get_or, arith, ap}
use Rattle.std.proofs.lemmas.List.{drop_more}
use Rattle.std.proofs.Math.ListN.{drop_of_length-le}
use Rattle.glk_elf.specs.Image.{Section, no_section}

-- n elements, from this one on
unfoldable pub elements : List Section → ℕ → ℕ → List Section
elements ss k zero = []
elements ss k (suc n) = get_or ss k no_section ∷ elements ss (k + 1) n

pub elements_are : (ss : List Section) (k n : ℕ) → length ss ≡ k + n → drop k ss ≡ elements ss k n
unfolding elements
elements_are ss k zero long = drop_of_length-le ss (omega arith)
elements_are ss k (suc n) long =
    drop_more ss k no_section (omega arith) ∙ ap (λ x. get_or ss k no_section ∷ x) (elements_are ss (k + 1) n (omega arith))
