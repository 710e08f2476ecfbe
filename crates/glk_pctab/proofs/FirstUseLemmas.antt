-- What is in a list is in its list of first use, and where it is among the byte strings one after the other.
use Rattle.std.proofs.Common.{◌≡◌, ℕ, ◌+◌, List, [], ◌∷◌, ◌++◌, length, Bool, true, false, cond, refl, subst, arith, length-append}
use Rattle.std.proofs.lemmas.Slice.Eq.{bytes_eq-Decides}
use Rattle.std.specs.Str.{bytes_eq}
use Rattle.glk_base.specs.BytesAt.{IsAt}
use Rattle.glk_base.proofs.BytesAt.{is_at_here, is_at_same}
use Rattle.glk_frames.proofs.AtLemmas.{is_at_after}
use Rattle.glk_pctab.specs.FirstUse.{is_among, with_first, with_each, concat_of, offset_in}

pub bytes_same : (x q : List ℕ) → bytes_eq x q ≡ true → x ≡ q
bytes_same x q is = let d = bytes_eq-Decides x q in grind (arith, d, is)

pub bytes_itself : (q : List ℕ) → bytes_eq q q ≡ true
bytes_itself q = let d = bytes_eq-Decides q q in grind (arith, d)

-- ---- offsets
here_or_later : (b t : Bool) (n m : ℕ) (P : ℕ → Type 0) → cond b true t ≡ true → (b ≡ true → P 0) → (t ≡ true → P (n + m)) → P (cond b 0 (n + m))
here_or_later true t n m P is here later = here refl
here_or_later false t n m P is here later = later is

-- an element is where its offset says, with its mark
pub element_is_at : (mark : List ℕ) (xs : List (List ℕ)) (q : List ℕ) → is_among xs q ≡ true → IsAt (concat_of mark xs) (offset_in mark xs q) (q ++ mark)
unfolding is_among concat_of offset_in
element_is_at mark [] q is = absurd (let bad : false ≡ true = is in cc)
element_is_at mark (x ∷ xs) q is =
    let size : length (x ++ mark) ≡ length x + length mark = length-append x mark in
    here_or_later (bytes_eq x q) (is_among xs q) (length x + length mark) (offset_in mark xs q) (λ k. IsAt ((x ++ mark) ++ concat_of mark xs) k (q ++ mark)) is
    (λ same. subst (λ (y : List ℕ). IsAt ((x ++ mark) ++ concat_of mark xs) 0 (y ++ mark)) (bytes_same x q same) (is_at_here [] (x ++ mark) (concat_of mark xs)))
    (λ later. is_at_same ((x ++ mark) ++ concat_of mark xs) (length (x ++ mark) + offset_in mark xs q) (length x + length mark + offset_in mark xs q) (q ++ mark)
    (is_at_after (x ++ mark) (concat_of mark xs) (offset_in mark xs q) (q ++ mark) (element_is_at mark xs q later)) (omega (arith, size)))

-- ---- membership
or_true : (b t u : Bool) → cond b true t ≡ true → (t ≡ true → u ≡ true) → cond b true u ≡ true
or_true true t u is h = refl
or_true false t u is h = h is

last_or : (b t : Bool) → t ≡ true → cond b true t ≡ true
last_or true t is = refl
last_or false t is = is

among_push : (xs : List (List ℕ)) (q p : List ℕ) → is_among xs p ≡ true → is_among (xs ++ q ∷ []) p ≡ true
unfolding is_among
among_push [] q p is = let bad : false ≡ true = is in cc
among_push (x ∷ xs) q p is = or_true (bytes_eq x p) (is_among xs p) (is_among (xs ++ q ∷ []) p) is (λ h. among_push xs q p h)

among_last : (xs : List (List ℕ)) (q : List ℕ) → is_among (xs ++ q ∷ []) q ≡ true
unfolding is_among
among_last [] q = rw (bytes_itself q) refl
among_last (x ∷ xs) q = last_or (bytes_eq x q) (is_among (xs ++ q ∷ []) q) (among_last xs q)

keeps_by : (b : Bool) (xs : List (List ℕ)) (q p : List ℕ) → is_among xs p ≡ true → is_among (cond b xs (xs ++ q ∷ [])) p ≡ true
keeps_by true xs q p is = is
keeps_by false xs q p is = among_push xs q p is

has_by : (b : Bool) (xs : List (List ℕ)) (q : List ℕ) → is_among xs q ≡ b → is_among (cond b xs (xs ++ q ∷ [])) q ≡ true
has_by true xs q is = is
has_by false xs q is = among_last xs q

first_keeps : (xs : List (List ℕ)) (q p : List ℕ) → is_among xs p ≡ true → is_among (with_first xs q) p ≡ true
unfolding with_first
first_keeps xs q p is = keeps_by (is_among xs q) xs q p is

first_has : (xs : List (List ℕ)) (q : List ℕ) → is_among (with_first xs q) q ≡ true
unfolding with_first
first_has xs q = has_by (is_among xs q) xs q refl

each_keeps : (xs qs : List (List ℕ)) (p : List ℕ) → is_among xs p ≡ true → is_among (with_each xs qs) p ≡ true
unfolding with_each
each_keeps xs [] p is = is
each_keeps xs (q ∷ qs) p is = each_keeps (with_first xs q) qs p (first_keeps xs q p is)

either : {P : Type 0} (b t : Bool) → cond b true t ≡ true → (b ≡ true → P) → (t ≡ true → P) → P
either true t is here later = here refl
either false t is here later = later is

pub each_has : (xs qs : List (List ℕ)) (p : List ℕ) → is_among qs p ≡ true → is_among (with_each xs qs) p ≡ true
unfolding with_each is_among
each_has xs [] p is = let bad : false ≡ true = is in cc
each_has xs (q ∷ qs) p is = either (bytes_eq q p) (is_among qs p) is
    (λ same. each_keeps (with_first xs q) qs p (subst (λ (k : List ℕ). is_among (with_first xs q) k ≡ true) (bytes_same q p same) (first_has xs q)))
    (λ later. each_has (with_first xs q) qs p later)

-- ---- lists in lists
pub among_left : (xs ys : List (List ℕ)) (q : List ℕ) → is_among xs q ≡ true → is_among (xs ++ ys) q ≡ true
unfolding is_among
among_left [] ys q is = let bad : false ≡ true = is in cc
among_left (x ∷ xs) ys q is = or_true (bytes_eq x q) (is_among xs q) (is_among (xs ++ ys) q) is (λ h. among_left xs ys q h)

pub among_right : (xs ys : List (List ℕ)) (q : List ℕ) → is_among ys q ≡ true → is_among (xs ++ ys) q ≡ true
unfolding is_among
among_right [] ys q is = is
among_right (x ∷ xs) ys q is = last_or (bytes_eq x q) (is_among (xs ++ ys) q) (among_right xs ys q is)

pub among_first : (x : List ℕ) (xs : List (List ℕ)) → is_among (x ∷ xs) x ≡ true
unfolding is_among
among_first x xs = rw (bytes_itself x) refl

pub among_next : (x : List ℕ) (xs : List (List ℕ)) (q : List ℕ) → is_among xs q ≡ true → is_among (x ∷ xs) q ≡ true
unfolding is_among
among_next x xs q is = last_or (bytes_eq x q) (is_among xs q) is

pub among_rest : (x : List ℕ) (xs : List (List ℕ)) (q : List ℕ) → is_among xs q ≡ true → (b : Bool) → cond b true (is_among xs q) ≡ true
among_rest x xs q is b = last_or b (is_among xs q) is

-- lists in two parts
pub each_append : (xs ys zs : List (List ℕ)) → with_each xs (ys ++ zs) ≡ with_each (with_each xs ys) zs
unfolding with_each
each_append xs [] zs = refl
each_append xs (y ∷ ys) zs = each_append (with_first xs y) ys zs
