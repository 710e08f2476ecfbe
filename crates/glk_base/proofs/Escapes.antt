-- Steps of the comparison with the escaped spelling, and of writing it.
use Rattle.std.proofs.Common.{◌≡◌, ◌+◌, ◌-◌, ◌<◌, ◌≤◌, ◌∙◌, ◌++◌, ◌↔◌, ℕ, true, false, List, [], length, take, drop, get_or, refl, ap, sym, nat_eq, nat_le, true≢false, drop-cons, add-one, append_assoc}
use Rattle.std.specs.List.{starts_with}
use Rattle.std.specs.Cmp.Lexicographic.{bytes_decides}
use Rattle.std.proofs.lemmas.List.{take_rest, take-append-drop, append_cancel_left, append-nil}
use Rattle.std.proofs.Math.Seq.{take-append_seam}
use Rattle.std.proofs.Math.ListN.{drop_of_length-le}
use Rattle.glk_base.specs.Paths.{byte_spelling, escaped_spelling_from}

pub front_is : (rest needle : List ℕ) (n : ℕ) → length needle ≡ n → starts_with nat_eq rest needle ≡ true → rest ≡ needle ++ take (length rest - n) (drop n rest)
front_is rest needle n long h =
    let same : needle ≡ take n rest = (bytes_decides needle (take (length needle) rest)).0 h ∙ ap (λ k. take k rest) long in
    sym (take-append-drop n rest) ∙ ap (λ l. l ++ drop n rest) (sym same) ∙ ap (λ l. needle ++ l) (sym (take_rest rest n))

pub front_not : (rest needle more : List ℕ) → starts_with nat_eq rest needle ≡ false → rest ≡ needle ++ more → ⊥
front_not rest needle more h e =
    let yes_ : starts_with nat_eq rest needle ≡ true = (bytes_decides needle (take (length needle) rest)).1 (sym (ap (take (length needle)) e ∙ take-append_seam needle more)) in
    true≢false (sym yes_ ∙ h)

pub escaped_step : (base i : ℕ) (path : List ℕ) → i < length path → escaped_spelling_from base i (drop i path) ≡ byte_spelling (nat_le base i) (get_or path i 0) ++ escaped_spelling_from base (i + 1) (drop (i + 1) path)
unfolding escaped_spelling_from
escaped_step base i path h = rw (drop-cons path i 0, add-one) refl

pub step_on : (P : Type 0) (rest after sp more : List ℕ) (all : List ℕ) → P ↔ (rest ≡ all) → all ≡ sp ++ more → rest ≡ sp ++ after → P ↔ (after ≡ more)
step_on P rest after sp more all h is e = (λ p. append_cancel_left sp after more (sym e ∙ h.0 p ∙ is), λ same. h.1 (e ∙ ap (λ l. sp ++ l) same ∙ sym is))

pub end_nil : (base i : ℕ) (path : List ℕ) → length path ≤ i → escaped_spelling_from base i (drop i path) ≡ []
unfolding escaped_spelling_from
end_nil base i path h = rw (drop_of_length-le path h) refl

pub escape_more : (out now piece : List ℕ) (base i : ℕ) (path whole : List ℕ) → i < length path → piece ≡ byte_spelling (nat_le base i) (get_or path i 0) → now ≡ out ++ piece → out ++ escaped_spelling_from base i (drop i path) ≡ whole → now ++ escaped_spelling_from base (i + 1) (drop (i + 1) path) ≡ whole
escape_more out now piece base i path whole h is more e =
    ap (λ l. l ++ escaped_spelling_from base (i + 1) (drop (i + 1) path)) (more ∙ ap (λ p. out ++ p) is)
    ∙ append_assoc out (byte_spelling (nat_le base i) (get_or path i 0)) (escaped_spelling_from base (i + 1) (drop (i + 1) path))
    ∙ ap (λ l. out ++ l) (sym (escaped_step base i path h)) ∙ e

pub escape_end : (out : List ℕ) (base i : ℕ) (path whole : List ℕ) → length path ≤ i → out ++ escaped_spelling_from base i (drop i path) ≡ whole → out ≡ whole
escape_end out base i path whole h e = sym (append-nil out) ∙ ap (λ l. out ++ l) (sym (end_nil base i path h)) ∙ e
