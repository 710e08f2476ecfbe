-- A whole list in order leaves no cycle.
use Rattle.std.proofs.Common.{◌≡◌, ◌<◌, ◌≤◌, ℕ, zero, suc, min, List, length, get_or, take, sym, ◌∙◌, subst, arith, length-take}
use Rattle.std.specs.List.{Contains}
use Rattle.std.proofs.lemmas.List.{get_or-take, get_or_default}
use Rattle.glk_order.specs.declared.edges.Edge.{Edge}
use Rattle.glk_order.specs.Order.{Needs, InOrder, Walk, IsOnCycle}

Contains-take : (l : List ℕ) (i j x : ℕ) → j ≤ i → Contains (take j l) x → Contains (take i l) x
Contains-take l i j x le c =
    let k = c.0 in
    let a : k < min j (length l) = rw (length-take j l) at c.1 in
    let kj : k < j = omega (arith, a) in
    let ki : k < i = omega (arith, a) in
    let within : k < length (take i l) = rw (length-take i l) (omega (arith, a)) in
    (k, within, get_or-take i l k x ki ∙ sym (get_or-take j l k x kj) ∙ c.2)

-- a place of a prefix holds its element in the list
at_take : (l : List ℕ) (i x : ℕ) → (c : Contains (take i l) x) → (c.0 < i) × (c.0 < length l) × (get_or l c.0 0 ≡ x)
at_take l i x c =
    let k = c.0 in
    let a : k < min i (length l) = rw (length-take i l) at c.1 in
    let ki : k < i = omega (arith, a) in
    let kl : k < length l = omega (arith, a) in
    (ki, kl, get_or_default l k 0 x kl ∙ sym (get_or-take i l k x ki) ∙ c.2)

-- what a task reaches stands before it
before : (count : ℕ) (g : List Edge) (l : List ℕ) → InOrder count g l → (n : ℕ) (i b : ℕ) → i < length l → Walk g (get_or l i 0) b n → Contains (take i l) b
before count g l o zero i b h w = (o i h).ready.targets b w
before count g l o (suc n) i b h w =
    let c : Contains (take i l) w.0 = before count g l o n i w.0 h w.1 in
    let p = at_take l i w.0 c in
    let P : ℕ → Type 0 = λ x. Needs g x b in
    let e : Needs g (get_or l c.0 0) b = subst P (sym p.2) w.2 in
    let d : Contains (take c.0 l) b = (o c.0 p.1).ready.targets b e in
    Contains-take l i c.0 b (omega (arith, p.0)) d

-- no task of a list in order reaches itself
pub no_cycle : (count : ℕ) (g : List Edge) (l : List ℕ) → InOrder count g l → (t : ℕ) → Contains l t → IsOnCycle g t → ⊥
no_cycle count g l o t c y =
    let e : get_or l c.0 0 ≡ t = get_or_default l c.0 0 t c.1 ∙ c.2 in
    let P : ℕ → Type 0 = λ x. Walk g x t y.0 in
    let b : Contains (take c.0 l) t = before count g l o y.0 c.0 t c.1 (subst P (sym e) y.1) in
    let Q : ℕ → Type 0 = λ x. Contains (take c.0 l) x in
    (o c.0 c.1).ready.later (subst Q (sym e) b)
