-- Lists of boxes, one after the other.
use Rattle.std.proofs.Common.{◌≡◌, ℕ, suc, ◌+◌, ◌*◌, ◌/◌, ◌%◌, ◌<◌, ◌≤◌, inl, inr, List, [], ◌∷◌, ◌++◌, length, take, get_or, Bool, true, false, cond, refl, sym, ap, ◌∙◌, arith}
use Rattle.std.specs.Prelude.{filter, map, fold, All, if◌then◌else◌}
use Rattle.std.proofs.Math.Nat.{div-add-mod, lt_of_mul-lt-mul_left, mul-le-mul_left}
use Rattle.std.proofs.lemmas.Bool.{cases_lt}
use Rattle.std.proofs.lemmas.List.Sums.{fold-append, fold_more}
use Rattle.glk_base.specs.Multiples.{IsLeastMultiple}
use Rattle.glk_base.proofs.MultipleLemmas.{multiple_is_least}
use Rattle.glk_elf.specs.Image.{multiple_from}
use Rattle.glk_layout.specs.declared.input.KeptSymbol.{KeptSymbol}
use Rattle.glk_layout.specs.Boxes.{Box, box_address, box_end, end_after}
use Rattle.glk_layout.specs.Symbols.{is_in, box_of, boxes_in}

-- two multiples of a number are no nearer to each other than the number
apart : (n a b : ℕ) → 0 < n → a < b → a % n ≡ 0 → b % n ≡ 0 → b < a + n → ⊥
apart n a b some lt x y near =
    let a_is : n * (a / n) + a % n ≡ a = div-add-mod a n in
    let b_is : n * (b / n) + b % n ≡ b = div-add-mod b n in
    let less : a / n < b / n = lt_of_mul-lt-mul_left n (omega (arith, a_is, b_is, x, y, lt)) in
    let room : n * (a / n + 1) ≤ n * (b / n) = mul-le-mul_left n (omega (arith, less)) in
    omega (arith, a_is, b_is, x, y, room, near)

pub from_is_least : (n bound : ℕ) → 0 < n → IsLeastMultiple n bound (multiple_from n bound)
from_is_least n bound some = multiple_is_least n bound some

-- the least multiple is the function's
pub least_is_from : (n bound a : ℕ) → 0 < n → IsLeastMultiple n bound a → a ≡ multiple_from n bound
least_is_from n bound a some x =
    let b : ℕ = multiple_from n bound in
    let y : IsLeastMultiple n bound b = from_is_least n bound some in
    elim (cases_lt a b) [
      | inl l ↦ absurd (apart n a b some l x.multiple y.multiple (omega (arith, x.above, y.least)))
      | inr g ↦ elim (cases_lt b a) [
        | inl l ↦ absurd (apart n b a some l y.multiple x.multiple (omega (arith, y.above, x.least)))
        | inr h ↦ omega arith
      ]
    ]

-- memory from a bound on is not before the bound
pub address_above : (bound : ℕ) (b : Box) → 0 < b.align → bound ≤ box_address bound b
address_above bound b some = (from_is_least b.align bound some).above

pub end_none : (bound : ℕ) → end_after bound [] ≡ bound
unfolding end_after
end_none bound = refl

pub end_first : (bound : ℕ) (b : Box) (boxes : List Box) → end_after bound (b ∷ boxes) ≡ end_after (box_end bound b) boxes
unfolding end_after
end_first bound b boxes = refl

pub end_append : (bound : ℕ) (xs ys : List Box) → end_after bound (xs ++ ys) ≡ end_after (end_after bound xs) ys
unfolding end_after
end_append bound xs ys = fold-append box_end bound xs ys

pub end_more : (bound : ℕ) (boxes : List Box) (i : ℕ) (d : Box) → i < length boxes
    → end_after bound (take (i + 1) boxes) ≡ box_end (end_after bound (take i boxes)) (get_or boxes i d)
unfolding end_after
end_more bound boxes i d lt = fold_more box_end bound boxes i d lt

pub end_above : (bound : ℕ) (boxes : List Box) → All (λ b. 0 < b.align) boxes → bound ≤ end_after bound boxes
unfolding end_after
end_above bound [] some = let e : bound ≤ bound = omega arith in e
end_above bound (b ∷ boxes) some =
    let here = address_above bound b (some 0 b (omega arith)) in
    let later : box_end bound b ≤ end_after (box_end bound b) boxes = end_above (box_end bound b) boxes (λ k d lt. some (suc k) d (omega arith)) in
    let first : bound ≤ box_end bound b = omega arith in
    let goal : bound ≤ end_after (box_end bound b) boxes = omega arith in
    goal

-- The boxes of a section's symbols, symbol by symbol.

-- where a section ends after one more symbol
abbrev pub with_symbol : ℕ → ℕ → KeptSymbol → ℕ
with_symbol n end s = if is_in n s then box_end end (box_of s) else end

fold_step : (b : Bool) (end : ℕ) (s : KeptSymbol) (rest : List KeptSymbol) → fold box_end end (map box_of (cond b (s ∷ rest) rest)) ≡ fold box_end (cond b (box_end end (box_of s)) end) (map box_of rest)
fold_step true end s rest = refl
fold_step false end s rest = refl

fold_boxes : (n end : ℕ) (symbols : List KeptSymbol) → end_after end (boxes_in n symbols) ≡ fold (with_symbol n) end symbols
unfolding end_after boxes_in
fold_boxes n end [] = refl
fold_boxes n end (s ∷ symbols) =
    fold_step (is_in n s) end s (filter (is_in n) symbols) ∙ fold_boxes n (with_symbol n end s) symbols

-- where the symbols of a section end, one symbol further
pub symbols_more : (n start : ℕ) (symbols : List KeptSymbol) (i : ℕ) (d : KeptSymbol) → i < length symbols
    → end_after start (boxes_in n (take (i + 1) symbols)) ≡ with_symbol n (end_after start (boxes_in n (take i symbols))) (get_or symbols i d)
symbols_more n start symbols i d lt =
    fold_boxes n start (take (i + 1) symbols)
    ∙ (fold_more (with_symbol n) start symbols i d lt
    ∙ ap (λ e. with_symbol n e (get_or symbols i d)) (sym (fold_boxes n start (take i symbols))))

pub symbols_none : (n start : ℕ) (symbols : List KeptSymbol) → end_after start (boxes_in n (take 0 symbols)) ≡ start
unfolding end_after boxes_in
symbols_none n start symbols = refl

-- a box without an alignment begins at once
pub whole_end : (bound size : ℕ) → end_after bound (record { align = 1; room = size } ∷ []) ≡ bound + size
whole_end bound size =
    end_first bound (record { align = 1; room = size }) []
    ∙ (end_none (multiple_from 1 bound + size) ∙ ap (λ a. a + size) (let e : multiple_from 1 bound ≡ bound = omega arith in e))
