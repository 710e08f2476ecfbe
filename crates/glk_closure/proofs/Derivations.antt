-- Laws of derivations: what is reached is closed under the rules, and lies in every closed set.
use Rattle.std.proofs.Common.{◌≡◌, ◌<◌, ℕ, zero, suc, List, [], ◌∷◌, ◌++◌, length, get_or, ◌⊎◌, inl, inr, refl, subst, arith}
use Rattle.std.specs.List.{Contains}
use Rattle.std.proofs.lemmas.List.Elements.{Contains-append_left, Contains-append_right}
use Rattle.glk_closure.specs.Graph.{Graph}
use Rattle.glk_closure.specs.Reach.{Fact, Kept, Iface, Step, K1, K2, K3, I1, I2, I3, I4, S1, G1, F1, M1, IsDerivation, Reach}

cons_cases : {X : Type 0} (y : X) (xs : List X) (x : X) (k : ℕ) → k < length (y ∷ xs) → get_or (y ∷ xs) k x ≡ x → (y ≡ x) ⊎ Contains xs x
cons_cases y xs x zero l e = inl e
cons_cases y xs x (suc k) l e = inr (k, omega arith, e)

-- an element of a longer list is its head, or stands behind it
pub Contains-cons_cases : {X : Type 0} (y : X) (xs : List X) (x : X) → Contains (y ∷ xs) x → (y ≡ x) ⊎ Contains xs x
Contains-cons_cases y xs x c = cons_cases y xs x c.0 c.1 c.2

pub Contains-head : {X : Type 0} (x : X) (xs : List X) → Contains (x ∷ xs) x
Contains-head x xs = (0, omega arith, refl)

pub Contains-nil : {X : Type 0} (x : X) → Contains [] x → ⊥
Contains-nil x c = omega (arith, c.1)

-- a rule that has its premises in one set has them in a larger one
pub Step-weaker : {w : Graph} {P Q : Fact → Type 0} {f : Fact} → ((g : Fact) → P g → Q g) → Step w P f → Step w Q f
Step-weaker up (K1 r c d) = K1 r c d
Step-weaker up (K2 k t h a d) = K2 k t (up (Kept k) h) a d
Step-weaker up (K3 k t h a d) = K3 k t (up (Kept k) h) a d
Step-weaker up (I1 k l f d) = I1 k l f d
Step-weaker up (I2 k t h j a d) = I2 k t (up (Kept k) h) (up (Iface k) j) a d
Step-weaker up (I3 k t h a d) = I3 k t (up (Kept k) h) a d
Step-weaker up (I4 k t n x h j a is d) = I4 k t n x (up (Kept k) h) (up (Iface k) j) a is d
Step-weaker up (S1 k t n h a d) = S1 k t n (up (Kept k) h) a d
Step-weaker up (G1 k n h a) = G1 k n (up (Kept k) h) a
Step-weaker up (F1 k h r) = F1 k (up (Kept k) h) r
Step-weaker up (M1 k t n x f h j a wakes v o d) = M1 k t n x f (up (Kept k) h) (up (Iface k) j) a wakes (up f v) o d

-- two derivations, one before the other, are one
pub IsDerivation-append : (w : Graph) (d e : List Fact) → IsDerivation w d → IsDerivation w e → IsDerivation w (d ++ e)
IsDerivation-append w [] e a b = b
IsDerivation-append w (f ∷ d) e a b =
    (Step-weaker (λ g h. Contains-append_left d e g h) a.0, IsDerivation-append w d e a.1 b)

-- what holds of the facts of one derivation
abbrev Joint : Graph → ((Fact → Type 0) → Type 0) → Type 0
Joint w P = (d : List Fact) × IsDerivation w d × P (Contains d)

both : (w : Graph) {f g : Fact} → Reach w f → Reach w g → Joint w (λ holds. holds f × holds g)
both w {f} {g} x y =
    (x.0 ++ y.0, IsDerivation-append w x.0 y.0 x.1 y.1, (Contains-append_left x.0 y.0 f x.2, Contains-append_right x.0 y.0 g y.2))

-- the premises of a rule stand in one derivation
joint : {w : Graph} {f : Fact} → Step w (Reach w) f → Joint w (λ holds. Step w holds f)
joint (K1 r c d) = ([], tt, K1 r c d)
joint (K2 k t h a d) = (h.0, h.1, K2 k t h.2 a d)
joint (K3 k t h a d) = (h.0, h.1, K3 k t h.2 a d)
joint (I1 k l f d) = ([], tt, I1 k l f d)
joint {w} (I2 k t h j a d) = let b = both w h j in (b.0, b.1, I2 k t b.2.0 b.2.1 a d)
joint (I3 k t h a d) = (h.0, h.1, I3 k t h.2 a d)
joint {w} (I4 k t n x h j a is d) = let b = both w h j in (b.0, b.1, I4 k t n x b.2.0 b.2.1 a is d)
joint (S1 k t n h a d) = (h.0, h.1, S1 k t n h.2 a d)
joint (G1 k n h a) = (h.0, h.1, G1 k n h.2 a)
joint (F1 k h r) = (h.0, h.1, F1 k h.2 r)
joint {w} (M1 k t n x f h j a wakes v o d) =
    let b = both w h j in
    let left = λ (e : Fact) (y : Contains b.0 e). Contains-append_left b.0 v.0 e y in
    (b.0 ++ v.0, IsDerivation-append w b.0 v.0 b.1 v.1, M1 k t n x f (left (Kept k) b.2.0) (left (Iface k) b.2.1) a wakes (Contains-append_right b.0 v.0 f v.2) o d)

-- what a rule gives from reached facts is reached
pub Reach-step : {w : Graph} {f : Fact} → Step w (Reach w) f → Reach w f
Reach-step {w} {f} s =
    let j : Joint w (λ holds. Step w holds f) = joint s in
    (f ∷ j.0, (j.2, j.1), Contains-head f j.0)

least_on : (w : Graph) (P : Fact → Type 0) → ((f : Fact) → Step w P f → P f) → (d : List Fact) → IsDerivation w d → (f : Fact) → Contains d f → P f
least_on w P closed [] s f c = absurd (Contains-nil f c)
least_on w P closed (g ∷ d) s f c =
    elim (Contains-cons_cases g d f c) [
      | inl e ↦ subst P e (closed g (Step-weaker (least_on w P closed d s.1) s.0))
      | inr b ↦ least_on w P closed d s.1 f b
    ]

-- what is reached lies in every set that is closed under the rules
pub Reach-least : (w : Graph) (P : Fact → Type 0) → ((f : Fact) → Step w P f → P f) → (f : Fact) → Reach w f → P f
Reach-least w P closed f r = least_on w P closed r.0 r.1 f r.2
