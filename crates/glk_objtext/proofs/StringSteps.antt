-- One byte of a quoted string.
use Rattle.std.proofs.Common.{◌≡◌, ℕ, ◌+◌, ◌<◌, ◌≤◌, ◌∙◌, List, [], ◌∷◌, ◌++◌, length, drop, get_or, refl, ap, sym, arith, add-one, drop-cons, append_assoc, length-drop, Option, Some, None, Ok, Err}
use Rattle.std.proofs.lemmas.List.{drop_all, append-nil}
use Rattle.glk_objtext.specs.Answers.{or_rule}
use Rattle.glk_objtext.specs.Strings.{inside, step, onto, closing}
use Rattle.glk_objtext.specs.declared.strings.Inside.{Inside}
use Rattle.glk_objtext.specs.declared.strings.Inside.TheVariants.{Plain}
use Rattle.glk_objtext.specs.declared.strings.Step.TheVariants.{Into, Stands, End, Broken}

-- what was read, and what follows it where that is well formed
abbrev pub behind : List ℕ → Option (List ℕ) → Option (List ℕ)
behind before (Some s) = Some (before ++ s)
behind before None = None

behind_onto : (xs : List ℕ) (v : ℕ) (r : Option (List ℕ)) → behind xs (onto v r) ≡ behind (xs ++ v ∷ []) r
behind_onto xs v (Some s) = ap (λ (l : List ℕ). Some l) (sym (append_assoc xs (v ∷ []) s))
behind_onto xs v None = refl

at_byte : (at : Inside) (bytes : List ℕ) (i : ℕ) → i < length bytes → inside at (drop i bytes) ≡ inside at (get_or bytes i 0 ∷ drop (i + 1) bytes)
at_byte at bytes i h = rw (add-one, drop-cons bytes i 0) refl

pub one_into : (at next : Inside) (b : ℕ) (s : List ℕ) → step at b ≡ Into next → inside at (b ∷ s) ≡ inside next s
unfolding inside
one_into at next b s h = rw (h, inside) refl

pub one_stands : (at : Inside) (b v : ℕ) (s : List ℕ) → step at b ≡ Stands v → inside at (b ∷ s) ≡ onto v (inside Plain s)
unfolding inside
one_stands at b v s h = rw (h, inside) refl

pub one_end : (at : Inside) (b : ℕ) (s : List ℕ) → step at b ≡ End → inside at (b ∷ s) ≡ closing s
unfolding inside
one_end at b s h = rw (h, inside) refl

pub one_broken : (at : Inside) (b : ℕ) (s : List ℕ) → step at b ≡ Broken → inside at (b ∷ s) ≡ None
unfolding inside
one_broken at b s h = rw (h, inside) refl

pub goes_into : (at next : Inside) (out bytes : List ℕ) (i : ℕ) (all : Option (List ℕ)) → i < length bytes → step at (get_or bytes i 0) ≡ Into next
    → behind out (inside at (drop i bytes)) ≡ all → behind out (inside next (drop (i + 1) bytes)) ≡ all
goes_into at next out bytes i all h is had = sym (ap (behind out) (at_byte at bytes i h ∙ one_into at next (get_or bytes i 0) (drop (i + 1) bytes) is)) ∙ had

pub stands_for : (at : Inside) (v : ℕ) (out bytes : List ℕ) (i : ℕ) (all : Option (List ℕ)) → i < length bytes → step at (get_or bytes i 0) ≡ Stands v
    → behind out (inside at (drop i bytes)) ≡ all → behind (out ++ v ∷ []) (inside Plain (drop (i + 1) bytes)) ≡ all
stands_for at v out bytes i all h is had =
    sym (behind_onto out v (inside Plain (drop (i + 1) bytes))) ∙ sym (ap (behind out) (at_byte at bytes i h ∙ one_stands at (get_or bytes i 0) v (drop (i + 1) bytes) is)) ∙ had

closing_more : (s : List ℕ) → 0 < length s → closing s ≡ None
closing_more [] h = absurd (omega arith)
closing_more (b ∷ s) h = refl

pub ends_early : (at : Inside) (out bytes : List ℕ) (i rule : ℕ) (all : Option (List ℕ)) → i + 1 < length bytes → step at (get_or bytes i 0) ≡ End
    → behind out (inside at (drop i bytes)) ≡ all → or_rule rule all ≡ Err rule
ends_early at out bytes i rule all h is had =
    let low : i < length bytes = omega arith in
    let more : 0 < length (drop (i + 1) bytes) = simp length-drop (omega arith) in
    let none : behind out (inside at (drop i bytes)) ≡ None = ap (behind out) (at_byte at bytes i low ∙ one_end at (get_or bytes i 0) (drop (i + 1) bytes) is ∙ closing_more (drop (i + 1) bytes) more) in
    rw (sym had ∙ none) refl

pub ends_here : (at : Inside) (out bytes : List ℕ) (i rule : ℕ) (all : Option (List ℕ)) → i < length bytes → length bytes ≤ i + 1 → step at (get_or bytes i 0) ≡ End
    → behind out (inside at (drop i bytes)) ≡ all → or_rule rule all ≡ Ok out
ends_here at out bytes i rule all h last is had =
    let none = drop_all (i + 1) bytes last in
    let closed : closing (drop (i + 1) bytes) ≡ Some [] = rw none refl in
    let some : behind out (inside at (drop i bytes)) ≡ Some (out ++ []) = ap (behind out) (at_byte at bytes i h ∙ one_end at (get_or bytes i 0) (drop (i + 1) bytes) is ∙ closed) in
    let whole = append-nil out in
    rw (sym had ∙ some) (rw whole refl)

pub breaks_here : (at : Inside) (out bytes : List ℕ) (i rule : ℕ) (all : Option (List ℕ)) → i < length bytes → step at (get_or bytes i 0) ≡ Broken
    → behind out (inside at (drop i bytes)) ≡ all → or_rule rule all ≡ Err rule
breaks_here at out bytes i rule all h is had =
    let none : behind out (inside at (drop i bytes)) ≡ None = ap (behind out) (at_byte at bytes i h ∙ one_broken at (get_or bytes i 0) (drop (i + 1) bytes) is) in
    rw (sym had ∙ none) refl

pub open_end : (at : Inside) → inside at [] ≡ None
unfolding inside
open_end at = refl

pub runs_out : (at : Inside) (out bytes : List ℕ) (i rule : ℕ) (all : Option (List ℕ)) → length bytes ≤ i
    → behind out (inside at (drop i bytes)) ≡ all → or_rule rule all ≡ Err rule
runs_out at out bytes i rule all h had =
    let none = drop_all i bytes h in
    let is : behind out (inside at (drop i bytes)) ≡ None = rw none (ap (behind out) (open_end at)) in
    rw (sym had ∙ is) refl
