-- Bytes written into a list, and zeros after them.
use Rattle.std.proofs.Common.{◌≡◌, ℕ, ◌+◌, ◌-◌, ◌≤◌, List, ◌++◌, length, take, drop, ap, ◌∙◌, subst, arith, length-append}
use Rattle.std.proofs.lemmas.List.{append_assoc, drop-drop, length-take-le}
use Rattle.std.proofs.Math.Seq.{drop-append-add, take-append_seam}

pub written_then : (xs ys zs : List ℕ) (at n m size : ℕ) → at + size ≤ length xs → n ≡ length ys → m ≡ size - n → n ≤ size
    → let now : List ℕ = take at xs ++ ys ++ drop (at + n) xs in
    take (at + n) now ++ zs ++ drop (at + n + m) now ≡ take at xs ++ (ys ++ zs) ++ drop (at + size) xs
written_then xs ys zs at n m size inside n_is m_is fits =
    let front : List ℕ = take at xs ++ ys in
    let rest : List ℕ = drop (at + n) xs in
    let before : length (take at xs) ≡ at = length-take-le at xs (omega arith) in
    let long : length front ≡ at + n = let e = length-append (take at xs) ys in omega arith in
    let P : ℕ → Type 0 = λ k. take k (front ++ rest) ≡ front in
    let Q : ℕ → Type 0 = λ k. drop (k + m) (front ++ rest) ≡ drop m rest in
    let left : take (at + n) (front ++ rest) ≡ front = subst P long (take-append_seam front rest) in
    let right : drop (at + n + m) (front ++ rest) ≡ drop m rest = subst Q long (drop-append-add front rest m) in
    let e : at + n + m ≡ at + size = omega arith in
    let tail : drop m rest ≡ drop (at + size) xs = drop-drop m (at + n) xs ∙ ap (λ k. drop k xs) e in
    ap (λ l. l ++ zs ++ drop (at + n + m) (front ++ rest)) left
    ∙ (ap (λ l. front ++ zs ++ l) (right ∙ tail)
    ∙ ap (λ l. l ++ drop (at + size) xs) (append_assoc (take at xs) ys zs))
