-- The search between two turns, at its start and at its end.
use Rattle.std.proofs.Common.{◌≡◌, ◌↔◌, ℕ, List, Some, None, true, false, [], ◌∷◌, ◌++◌, length, get_or, replicate, ◌⊎◌, inl, inr, refl, sym, ap, ◌∙◌, subst}
use Rattle.std.specs.Prelude.{IsTrue}
use Rattle.std.specs.List.{Contains}
use Rattle.std.proofs.lemmas.Bool.{cases_lt, cases_Bool, both_ways}
use Rattle.std.proofs.lemmas.List.{get_or_past, get_or-replicate, length-replicate}
use Rattle.std.proofs.lemmas.List.Elements.{Contains-push_cases, Contains-append_left}
use Rattle.glk_closure.specs.declared.effect.Targets.{Targets}
use Rattle.glk_closure.specs.declared.marks.Marks.{Marks}
use Rattle.glk_closure.specs.Graph.{Graph, Keeps, Links, Funcdata, Uses, Calls, Names, Method}
use Rattle.glk_closure.specs.Views.{OneOf}
use Rattle.glk_closure.specs.Reach.{Fact, Kept, Iface, Sig, Named, Reflect, Wakes, by_sig, by_name, by_reflection, Step, K1, K2, K3, I1, I2, I3, I4, S1, G1, F1, M1, Reach}
use Rattle.glk_closure.specs.Marks.{called_at, IsCalled, Holds, Waits, Grows, Covers, Extends, SameRows}
use Rattle.glk_closure.specs.Rows.{Stands}
use Rattle.glk_closure.specs.Search.{Concludes, HasRoots, HasFlagged, Searching}
use Rattle.glk_closure.proofs.Derivations.{Reach-least, Contains-nil}
use Rattle.glk_closure.proofs.Growth.{IsCalled-same, IsCalled-back, Waits-same, Waits-back}
use Rattle.glk_closure.proofs.Steps.{Up, Concludes-keeps, Concludes-iface}

-- a key that has its conclusions for the Iface that it had has them all, or waits
settle : (w : Graph) (k : ℕ) (b c : Marks) → Grows b c → Concludes w k (get_or b.iface k false) c → Contains c.work.items k ⊎ Concludes w k (get_or c.iface k false) c
settle w k b c x d =
    elim (cases_Bool (get_or c.iface k false)) [
      | inl t ↦ elim (x.anew_iface k t) [
        | inl o ↦ inr (Concludes-iface w k (get_or b.iface k false) (get_or c.iface k false) c (λ _. o) d)
        | inr p ↦ inl p
      ]
      | inr f ↦ inr (Concludes-iface w k (get_or b.iface k false) (get_or c.iface k false) c (λ t. absurd (both_ways (get_or c.iface k false) f t)) d)
    ]

-- the facts that are marked are the same
pub record SameMarks (a b : Marks) : Type 0 where
  pub kept : b.kept ≡ a.kept
  pub iface : b.iface ≡ a.iface
  pub rows : SameRows a b

back : {a b : Marks} → SameMarks a b → (f : Fact) → Holds b f → Holds a f
back t (Kept k) h = rw t.kept at h
back t (Iface k) h = rw t.iface at h
back t (Sig n u) h = IsCalled-back t.rows h
back t (Named n) h = IsCalled-back t.rows h
back t Reflect h = IsCalled-back t.rows h

forth : {a b : Marks} → SameMarks a b → (f : Fact) → Holds a f → Holds b f
forth t (Kept k) h = rw t.kept h
forth t (Iface k) h = rw t.iface h
forth t (Sig n u) h = IsCalled-same t.rows h
forth t (Named n) h = IsCalled-same t.rows h
forth t Reflect h = IsCalled-same t.rows h

-- a turn takes keys off the waiting ones, does what they give, and marks more
pub Searching-turn : (w : Graph) (a b c : Marks) → Searching w a → SameMarks a b → Extends w b c
    → ((k : ℕ) → Contains b.work.items k → Contains a.work.items k)
    → ((k : ℕ) → Contains a.work.items k → Contains b.work.items k ⊎ (Holds b (Kept k) → Concludes w k (get_or b.iface k false) c))
    → Searching w c
Searching-turn w a b c s t x sub taken = record {
  covers = x.covers (record {
    kept = ap length t.kept ∙ s.covers.kept;
    iface = ap length t.iface ∙ s.covers.iface;
    rows = ap length t.rows.rows ∙ s.covers.rows ∙ ap length (sym t.rows.calls);
    below = λ r y h. s.covers.below r y (rw t.rows.rows at h);
    once = λ r q f h i. s.covers.once r q f (rw t.rows.calls at h) (rw t.rows.calls at i);
  });
  sound = x.sound (record { facts = λ f h. s.sound.facts f (back t f h); called = λ f h. s.sound.called f (IsCalled-back t.rows h); waiting = λ f y h. s.sound.waiting f y (Waits-back t.rows h) });
  ready = x.ready (λ r y h i u o d. forth t (Kept u) (s.ready r y (rw t.rows.rows at h) (rw t.rows.rows at i) u o d));
  roots = λ r h d. up (Kept r) (s.roots r h d);
  flagged = λ k l f d. up (Iface k) (s.flagged k l f d);
  in_range = λ k p. rw x.grows.size (x.grows.in_range (λ j q. rw t.kept (s.in_range j (sub j q))) k p);
  settled = λ k h. elim (x.grows.anew k h) [
    | inr p ↦ inl p
    | inl o ↦ elim (s.settled k (back t (Kept k) o)) [
      | inr d ↦ settle w k b c x.grows (rw t.iface (Concludes-keeps w k (get_or a.iface k false) a c goes d))
      | inl q ↦ elim (taken k q) [
        | inl p ↦ inl (x.grows.waits k p)
        | inr d ↦ settle w k b c x.grows (d o)
      ]
    ]
  ];
}
  where
    up : (f : Fact) → Holds a f → Holds c f
    up f h = x.grows.keeps f (forth t f h)

    goes : Up a c
    goes = record { facts = up; waits = λ f y h. x.grows.still f y (Waits-same t.rows h) }

-- the key that was taken off was the last one
pub taken_last : (w : Graph) (a b c : Marks) (key : ℕ) → a.work.items ≡ b.work.items ++ key ∷ [] → (Holds b (Kept key) → Concludes w key (get_or b.iface key false) c) → (k : ℕ) → Contains a.work.items k → Contains b.work.items k ⊎ (Holds b (Kept k) → Concludes w k (get_or b.iface k false) c)
taken_last w a b c key e d k p =
    elim (Contains-push_cases b.work.items key k (rw e at p)) [
      | inl q ↦ inl q
      | inr is ↦ let P : ℕ → Type 0 = λ i. Holds b (Kept i) → Concludes w i (get_or b.iface i false) c in inr (subst P is d)
    ]

pub still_waits : (a b : Marks) (key : ℕ) → a.work.items ≡ b.work.items ++ key ∷ [] → (k : ℕ) → Contains b.work.items k → Contains a.work.items k
still_waits a b key e k p = rw e (Contains-append_left b.work.items (key ∷ []) k p)

-- a fact that wakes methods is marked by its row
called_of : (m : Marks) {n : List ℕ} {x : Targets} {f : Fact} → Wakes n x f → Holds m f → IsCalled m f
called_of m (by_sig a is) h = h
called_of m by_name h = h
called_of m (by_reflection e) h = h

-- no key waits: the marks are closed under the rules
module _ (w : Graph) (c : Marks) (s : Searching w c) (none : c.work.items ≡ []) where
  done : (k : ℕ) → Holds c (Kept k) → Concludes w k (get_or c.iface k false) c
  done k h = elim (s.settled k h) [ inl p ↦ absurd (Contains-nil k (rw none at p)) | inr d ↦ d ]

  woken : (f : Fact) (x : Targets) → Waits c f x → IsCalled c f → (t : ℕ) → OneOf t x → IsTrue (w.defined t) → Holds c (Kept t)
  woken f x y v =
      let P : ℕ → Type 0 = λ r. called_at c.rows.items r ≡ true in
      s.ready y.0 x (subst P (s.covers.once v.0 y.0 f v.1 y.1) v.2) y.2

  closed : {f : Fact} → Step w (Holds c) f → Holds c f
  closed (K1 r h d) = s.roots r h d
  closed (K2 k t h a d) = elim a [ inl at ↦ (done k h).each (Keeps t) at d | inr at ↦ ((done k h).each (Links t) at).0 d ]
  closed (K3 k t h at d) = (done k h).each (Funcdata t) at d
  closed (I1 k l f d) = s.flagged k l f d
  closed (I2 k t h j at d) = ((done k h).each (Links t) at).1 j d
  closed (I3 k t h at d) = (done k h).each (Uses t) at d
  closed (I4 k t n x h j at is d) = ((done k h).each (Method n x) at j).first t is d
  closed (S1 k t n h at d) = (done k h).each (Calls n t) at d
  closed (G1 k n h at) = (done k h).each (Names n) at
  closed (F1 k h r) = (done k h).reflects r
  closed (M1 k t n x f h j at y v o d) = woken f x (((done k h).each (Method (Some n) x) at j).waits n refl f y) (called_of c y v) t o d

  -- the marks are what is reached
  pub finished : (f : Fact) → Holds c f ↔ Reach w f
  finished f = (λ h. s.sound.facts f h, λ r. Reach-least w (Holds c) (λ g y. closed y) f r)

-- nothing is marked at the start
none_marked : (n k : ℕ) → get_or (replicate n false) k false ≡ true → ⊥
none_marked n k h =
    both_ways (get_or (replicate n false) k false) (elim (cases_lt k n) [ inl l ↦ get_or-replicate n k false false l | inr g ↦ get_or_past (replicate n false) k false (rw length-replicate g) ]) h

pub record IsBlank (w : Graph) (m : Marks) : Type 0 where
  pub kept : m.kept ≡ replicate w.keys false
  pub iface : m.iface ≡ replicate w.keys false
  pub work : m.work.items ≡ []
  pub calls : m.calls ≡ []
  pub rows : m.rows.items ≡ []

no_row : (m : Marks) (r : ℕ) (f : Fact) → m.calls ≡ [] → Stands m.calls r f → ⊥
no_row m r f e h = let bad : Stands [] r f = rw e at h in let b : None ≡ Some f = bad in cc

nothing_holds : (w : Graph) (m : Marks) → IsBlank w m → (f : Fact) → Holds m f → ⊥
nothing_holds w m b (Kept k) h = none_marked w.keys k (rw b.kept at h)
nothing_holds w m b (Iface k) h = none_marked w.keys k (rw b.iface at h)
nothing_holds w m b (Sig n t) h = no_row m h.0 (Sig n t) b.calls h.1
nothing_holds w m b (Named n) h = no_row m h.0 (Named n) b.calls h.1
nothing_holds w m b Reflect h = no_row m h.0 Reflect b.calls h.1

pub blank_covers : (w : Graph) (a : Marks) → IsBlank w a → Covers a w.keys
blank_covers w a b = record {
  kept = ap length b.kept ∙ length-replicate w.keys false;
  iface = ap length b.iface ∙ length-replicate w.keys false;
  rows = ap length b.rows ∙ ap length (sym b.calls);
  below = λ r y h. absurd (Contains-nil y (rw b.rows at h));
  once = λ r q f h i. absurd (no_row a r f b.calls h);
}

pub Searching-start : (w : Graph) (a c : Marks) → IsBlank w a → Extends w a c → HasRoots w c → HasFlagged w c → Searching w c
Searching-start w a c b x roots flagged = record {
  covers = x.covers (blank_covers w a b);
  sound = x.sound (record { facts = λ f h. absurd (nothing_holds w a b f h); called = λ f h. absurd (no_row a h.0 f b.calls h.1); waiting = λ f y h. absurd (no_row a h.0 f b.calls h.1) });
  ready = x.ready (λ r y h i. absurd (Contains-nil y (rw b.rows at i)));
  roots = roots;
  flagged = flagged;
  in_range = λ k p. rw x.grows.size (x.grows.in_range (λ j q. absurd (Contains-nil j (rw b.work at q))) k p);
  settled = λ k h. elim (x.grows.anew k h) [ inl o ↦ absurd (nothing_holds w a b (Kept k) o) | inr p ↦ inl p ];
}
