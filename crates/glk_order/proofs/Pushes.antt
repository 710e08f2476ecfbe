-- Lists that one more element is pushed to.
use Rattle.std.proofs.Common.{◌≡◌, ◌<◌, ◌-◌, ◌∙◌, ◌++◌, ℕ, List, [], ◌∷◌, length, get_or, refl, ap, sym, arith}
use Rattle.std.proofs.lemmas.List.{get_or-take, get_or-append_right, take_at}

pub at_front : (list : List ℕ) (x i : ℕ) → i < length list → get_or (list ++ x ∷ []) i 0 ≡ get_or list i 0
at_front list x i low =
    sym (get_or-take (length list) (list ++ x ∷ []) i 0 low) ∙ ap (λ (l : List ℕ). get_or l i 0) (take_at list (x ∷ []) (length list) refl)

pub at_end : (list : List ℕ) (x : ℕ) → get_or (list ++ x ∷ []) (length list) 0 ≡ x
at_end list x =
    let none : length list - length list ≡ 0 = omega arith in
    get_or-append_right list (x ∷ []) (length list) (length list) 0 refl (omega arith) ∙ ap (λ n. get_or (x ∷ []) n 0) none
