-- Marks that only grow.
use Rattle.std.proofs.Common.{◌≡◌, ◌<◌, ◌≤◌, ◌+◌, ℕ, Bool, true, false, cond, not, List, [], ◌∷◌, ◌++◌, length, get_or, set, ◌⊎◌, inl, inr, refl, sym, ap, ◌∙◌, subst, arith}
use Rattle.std.specs.Prelude.{IsTrue}
use Rattle.std.specs.List.{Contains, count_by}
use Rattle.std.proofs.lemmas.List.{length-set, get_or-set_same, get_or-set_other, length_push}
use Rattle.std.proofs.lemmas.List.Elements.{Contains-append_left, Contains-push, Contains-push_cases}
use Rattle.std.proofs.lemmas.List.Sums.{sum_by-set}
use Rattle.std.proofs.lemmas.Bool.{cases_eq}
use Rattle.glk_closure.specs.declared.marks.Marks.{Marks}
use Rattle.glk_closure.specs.declared.effect.Targets.{Targets}
use Rattle.glk_closure.specs.Graph.{Graph}
use Rattle.glk_closure.specs.Reach.{Fact, Kept, Iface, Sig, Named, Reflect, Reach}
use Rattle.glk_closure.specs.Rows.{Stands}
use Rattle.glk_closure.specs.Marks.{called_at, methods_at, IsCalled, Waits, Holds, unmarked, Grows, Adds, Covers, IsSound, IsReady, Backs, Extends, ExtendsIf, SameRows}

-- the rows are the same: what was called is, and what waited does
pub IsCalled-same : {a b : Marks} {f : Fact} → SameRows a b → IsCalled a f → IsCalled b f
IsCalled-same s c = (c.0, rw s.calls c.1, rw s.rows c.2)

pub IsCalled-back : {a b : Marks} {f : Fact} → SameRows a b → IsCalled b f → IsCalled a f
IsCalled-back s c = (c.0, rw s.calls at c.1, rw s.rows at c.2)

pub Waits-same : {a b : Marks} {f : Fact} {t : Targets} → SameRows a b → Waits a f t → Waits b f t
Waits-same s c = (c.0, rw s.calls c.1, rw s.rows c.2)

pub Waits-back : {a b : Marks} {f : Fact} {t : Targets} → SameRows a b → Waits b f t → Waits a f t
Waits-back s c = (c.0, rw s.calls at c.1, rw s.rows at c.2)

pub Grows-refl : (m : Marks) → Grows m m
Grows-refl m = record {
  size = refl;
  iface_size = refl;
  keeps = λ f h. h;
  still = λ f t h. h;
  stands = λ r f h. h;
  waits = λ k c. c;
  anew = λ k h. inl h;
  anew_iface = λ k h. inl h;
  in_range = λ h. h;
  fewer = omega arith;
  paid = omega arith;
}

pub Grows-trans : {a b c : Marks} → Grows a b → Grows b c → Grows a c
Grows-trans x y = record {
  size = y.size ∙ x.size;
  iface_size = y.iface_size ∙ x.iface_size;
  keeps = λ f h. y.keeps f (x.keeps f h);
  still = λ f t h. y.still f t (x.still f t h);
  stands = λ r f h. y.stands r f (x.stands r f h);
  waits = λ k h. y.waits k (x.waits k h);
  anew = λ k h. elim (y.anew k h) [
    | inl b ↦ elim (x.anew k b) [ inl a ↦ inl a | inr p ↦ inr (y.waits k p) ]
    | inr p ↦ inr p
  ];
  anew_iface = λ k h. elim (y.anew_iface k h) [
    | inl b ↦ elim (x.anew_iface k b) [ inl a ↦ inl a | inr p ↦ inr (y.waits k p) ]
    | inr p ↦ inr p
  ];
  in_range = λ h k p. rw x.size at (y.in_range (λ j q. rw (← x.size) at (x.in_range h j q)) k p);
  fewer = omega (arith, x.fewer, y.fewer);
  paid = omega (arith, x.paid, y.paid);
}

pub Extends-refl : (w : Graph) (m : Marks) → Extends w m m
Extends-refl w m = record { grows = Grows-refl m; covers = λ c. c; sound = λ s. s; ready = λ r. r }

pub Extends-trans : {w : Graph} {a b c : Marks} → Extends w a b → Extends w b c → Extends w a c
Extends-trans x y = record { grows = Grows-trans x.grows y.grows; covers = λ c. y.covers (x.covers c); sound = λ s. y.sound (x.sound s); ready = λ r. y.ready (x.ready r) }

pub SameRows-refl : (a : Marks) → SameRows a a
SameRows-refl a = record { calls = refl; rows = refl }

pub SameRows-trans : {a b c : Marks} → SameRows a b → SameRows b c → SameRows a c
SameRows-trans x y = record { calls = y.calls ∙ x.calls; rows = y.rows ∙ x.rows }

pub Covers-same : {a b : Marks} {n : ℕ} → Grows a b → SameRows a b → Covers a n → Covers b n
Covers-same g s c = record {
  kept = g.size ∙ c.kept;
  iface = g.iface_size ∙ c.iface;
  rows = ap length s.rows ∙ c.rows ∙ ap length (sym s.calls);
  below = λ r t h. c.below r t (rw s.rows at h);
  once = λ r q f h i. c.once r q f (rw s.calls at h) (rw s.calls at i);
}

-- a fact that is added is sound where it is reached
pub Extends-adds : (w : Graph) {a b : Marks} {g : Fact} {test : Bool} → Adds a b g test → (IsSound w a → IsTrue test → Reach w g) → Extends w a b
Extends-adds w {a} {b} {g} x r = record {
  grows = x.grows;
  covers = λ c. Covers-same x.grows x.same c;
  sound = λ s. record {
    facts = λ f h. elim (x.only f h) [
      | inl o ↦ s.facts f o
      | inr e ↦ let P : Fact → Type 0 = λ i. Reach w i in subst P (sym e.0) (r s e.1)
    ];
    called = λ f c. s.called f (IsCalled-back x.same c);
    waiting = λ f t h. s.waiting f t (Waits-back x.same h);
  };
  ready = λ h r t c m o p d. x.grows.keeps (Kept o) (h r t (rw x.same.rows at c) (rw x.same.rows at m) o p d);
}

-- a place that is marked after one write was marked before, or is the place
after_set : (xs : List Bool) (key k : ℕ) → get_or (set xs key true) k false ≡ true → (get_or xs k false ≡ true) ⊎ (k ≡ key)
after_set xs key k h =
    elim (cases_eq k key) [
      | inl e ↦ inr e
      | inr ne ↦ inl (sym (get_or-set_other xs key k true false ne) ∙ h)
    ]

-- a mark stays
stays_set : (xs : List Bool) (key k : ℕ) → key < length xs → get_or xs k false ≡ true → get_or (set xs key true) k false ≡ true
stays_set xs key k l h =
    elim (cases_eq k key) [
      | inl e ↦ let P : ℕ → Type 0 = λ j. get_or (set xs key true) j false ≡ true in subst P (sym e) (get_or-set_same xs key true false l)
      | inr ne ↦ get_or-set_other xs key k true false ne ∙ h
    ]

-- one place that was not marked is one fewer
fewer : (xs : List Bool) (key : ℕ) → key < length xs → get_or xs key false ≡ false → count_by not (set xs key true) + 1 ≡ count_by not xs
fewer xs key l e =
    let s = sum_by-set (λ (x : Bool). cond (not x) 1 0) xs key true false l in
    let one = ap (λ (b : Bool). cond {A = ℕ} (not b) 1 0) e in
    omega (arith, s, one)

module _ (old new : Marks) (key : ℕ) (e : get_or old.kept key false ≡ false) (within : key < length old.kept) (kept : new.kept ≡ set old.kept key true) (iface : new.iface ≡ old.iface) (work : new.work.items ≡ old.work.items ++ key ∷ []) (same : SameRows old new) where
  kept_stays : (f : Fact) → Holds old f → Holds new f
  kept_stays (Kept k) h = rw kept (stays_set old.kept key k within h)
  kept_stays (Iface k) h = rw iface h
  kept_stays (Sig n t) h = IsCalled-same same h
  kept_stays (Named n) h = IsCalled-same same h
  kept_stays Reflect h = IsCalled-same same h

  kept_only : (f : Fact) → Holds new f → Holds old f ⊎ ((f ≡ Kept key) × IsTrue true)
  kept_only (Kept k) h = elim (after_set old.kept key k (rw kept at h)) [ inl b ↦ inl b | inr is ↦ inr (ap Kept is, refl) ]
  kept_only (Iface k) h = inl (rw iface at h)
  kept_only (Sig n t) h = inl (IsCalled-back same h)
  kept_only (Named n) h = inl (IsCalled-back same h)
  kept_only Reflect h = inl (IsCalled-back same h)

  -- a key that was not kept is kept now, and waits
  pub Adds-keep : Adds old new (Kept key) true
  Adds-keep = record {
    grows = record {
      size = ap length kept ∙ length-set old.kept key true;
      iface_size = ap length iface;
      keeps = kept_stays;
      still = λ f t h. Waits-same same h;
      stands = λ r f h. rw same.calls h;
      waits = λ k c. rw work (Contains-append_left old.work.items (key ∷ []) k c);
      anew = λ k h. elim (after_set old.kept key k (rw kept at h)) [
        | inl b ↦ inl b
        | inr is ↦ inr (rw (work, is) (Contains-push old.work.items key))
      ];
      anew_iface = λ k h. inl (rw iface at h);
      in_range = λ h k c. elim (Contains-push_cases old.work.items key k (rw work at c)) [
        | inl b ↦ h k b
        | inr is ↦ let P : ℕ → Type 0 = λ i. i < length old.kept in subst P is within
      ];
      fewer = less;
      paid = pays;
    };
    holds = λ _. rw kept (get_or-set_same old.kept key true false within);
    only = kept_only;
    same = same;
  }
    where
      c1 : count_by not new.kept + 1 ≡ count_by not old.kept
      c1 = ap (λ l. count_by not l + 1) kept ∙ fewer old.kept key within e

      c2 : count_by not new.iface ≡ count_by not old.iface
      c2 = ap (λ l. count_by not l) iface

      n : length new.work.items ≡ length old.work.items + 1
      n = ap length work ∙ length_push old.work.items key

      less : unmarked new ≤ unmarked old
      less = omega (arith, c1, c2)

      pays : unmarked new + length new.work.items ≤ unmarked old + length old.work.items
      pays = omega (arith, c1, c2, n)

module _ (old new : Marks) (key : ℕ) (e : get_or old.iface key false ≡ false) (within : key < length old.iface) (in_kept : key < length old.kept) (kept : new.kept ≡ old.kept) (iface : new.iface ≡ set old.iface key true) (work : new.work.items ≡ old.work.items ++ key ∷ []) (same : SameRows old new) where
  iface_stays : (f : Fact) → Holds old f → Holds new f
  iface_stays (Kept k) h = rw kept h
  iface_stays (Iface k) h = rw iface (stays_set old.iface key k within h)
  iface_stays (Sig n t) h = IsCalled-same same h
  iface_stays (Named n) h = IsCalled-same same h
  iface_stays Reflect h = IsCalled-same same h

  iface_only : (f : Fact) → Holds new f → Holds old f ⊎ ((f ≡ Iface key) × IsTrue true)
  iface_only (Kept k) h = inl (rw kept at h)
  iface_only (Iface k) h = elim (after_set old.iface key k (rw iface at h)) [ inl b ↦ inl b | inr is ↦ inr (ap Iface is, refl) ]
  iface_only (Sig n t) h = inl (IsCalled-back same h)
  iface_only (Named n) h = inl (IsCalled-back same h)
  iface_only Reflect h = inl (IsCalled-back same h)

  -- a key that had no Iface has it now, and waits
  pub Adds-iface : Adds old new (Iface key) true
  Adds-iface = record {
    grows = record {
      size = ap length kept;
      iface_size = ap length iface ∙ length-set old.iface key true;
      keeps = iface_stays;
      still = λ f t h. Waits-same same h;
      stands = λ r f h. rw same.calls h;
      waits = λ k c. rw work (Contains-append_left old.work.items (key ∷ []) k c);
      anew = λ k h. inl (rw kept at h);
      anew_iface = λ k h. elim (after_set old.iface key k (rw iface at h)) [
        | inl b ↦ inl b
        | inr is ↦ inr (rw (work, is) (Contains-push old.work.items key))
      ];
      in_range = λ h k c. elim (Contains-push_cases old.work.items key k (rw work at c)) [
        | inl b ↦ h k b
        | inr is ↦ let P : ℕ → Type 0 = λ i. i < length old.kept in subst P is in_kept
      ];
      fewer = less;
      paid = pays;
    };
    holds = λ _. rw iface (get_or-set_same old.iface key true false within);
    only = iface_only;
    same = same;
  }
    where
      c1 : count_by not new.iface + 1 ≡ count_by not old.iface
      c1 = ap (λ l. count_by not l + 1) iface ∙ fewer old.iface key within e

      c2 : count_by not new.kept ≡ count_by not old.kept
      c2 = ap (λ l. count_by not l) kept

      n : length new.work.items ≡ length old.work.items + 1
      n = ap length work ∙ length_push old.work.items key

      less : unmarked new ≤ unmarked old
      less = omega (arith, c1, c2)

      pays : unmarked new + length new.work.items ≤ unmarked old + length old.work.items
      pays = omega (arith, c1, c2, n)

-- a fact that is added, where P says that it is reached
pub ExtendsIf-adds : (w : Graph) (P : Type 0) {a b : Marks} {g : Fact} {test : Bool} → Adds a b g test → (P → IsTrue test → Reach w g) → ExtendsIf w P a b
ExtendsIf-adds w P {a} {b} {g} x r = record {
  grows = x.grows;
  covers = λ c. Covers-same x.grows x.same c;
  sound = λ p s. (Extends-adds w x (λ _. r p)).sound s;
  ready = λ h r t c m o q d. x.grows.keeps (Kept o) (h r t (rw x.same.rows at c) (rw x.same.rows at m) o q d);
}

pub ExtendsIf-refl : (w : Graph) (P : Type 0) (m : Marks) → ExtendsIf w P m m
ExtendsIf-refl w P m = record { grows = Grows-refl m; covers = λ c. c; sound = λ p s. s; ready = λ r. r }

-- two steps; what each asks for holds where the marks are sound
pub ExtendsIf-then : {w : Graph} {P Q : Type 0} (R : Type 0) {a b c : Marks} → ExtendsIf w P a b → ExtendsIf w Q b c → (R → IsSound w a → P) → (R → IsSound w a → Q) → ExtendsIf w R a c
ExtendsIf-then R x y p q = record {
  grows = Grows-trans x.grows y.grows;
  covers = λ c. y.covers (x.covers c);
  sound = λ r s. y.sound (q r s) (x.sound (p r s) s);
  ready = λ r. y.ready (x.ready r);
}

-- one step, where what it asks for holds
pub ExtendsIf-weaker : {w : Graph} {P : Type 0} (R : Type 0) {a b : Marks} → ExtendsIf w P a b → (R → IsSound w a → P) → ExtendsIf w R a b
ExtendsIf-weaker R x p = record { grows = x.grows; covers = x.covers; sound = λ r s. x.sound (p r s) s; ready = x.ready }

pub Extends-from : {w : Graph} {P : Type 0} {a b : Marks} → ExtendsIf w P a b → (IsSound w a → P) → Extends w a b
Extends-from x p = record { grows = x.grows; covers = x.covers; sound = λ s. x.sound (p s) s; ready = x.ready }

pub ExtendsIf-of : {w : Graph} (P : Type 0) {a b : Marks} → Extends w a b → ExtendsIf w P a b
ExtendsIf-of P x = record { grows = x.grows; covers = x.covers; sound = λ p s. x.sound s; ready = x.ready }

-- the marks of keys are the same, and rows grow
pub record Rowwise (w : Graph) (P : Type 0) (old new : Marks) : Type 0 where
  pub kept : new.kept ≡ old.kept
  pub iface : new.iface ≡ old.iface
  pub work : new.work.items ≡ old.work.items
  pub stands : (r : ℕ) (f : Fact) → Stands old.calls r f → Stands new.calls r f
  pub called : (r : ℕ) → called_at old.rows.items r ≡ true → called_at new.rows.items r ≡ true
  pub methods : (r : ℕ) (x : Targets) → Contains (methods_at old.rows.items r) x → Contains (methods_at new.rows.items r) x
  pub back_called : (r : ℕ) (f : Fact) → Stands new.calls r f → called_at new.rows.items r ≡ true → (Stands old.calls r f × (called_at old.rows.items r ≡ true)) ⊎ (P → IsSound w old → Reach w f)
  pub back_waits : (r : ℕ) (f : Fact) (x : Targets) → Stands new.calls r f → Contains (methods_at new.rows.items r) x → (Stands old.calls r f × Contains (methods_at old.rows.items r) x) ⊎ (P → IsSound w old → Backs w f x)
  pub covers : Covers old w.keys → Covers new w.keys
  pub ready : IsReady w old → IsReady w new

pub Extends-rows : {w : Graph} {P : Type 0} {old new : Marks} → Rowwise w P old new → ExtendsIf w P old new
Extends-rows {w} {P} {old} {new} s = record {
  grows = record {
    size = ap length s.kept;
    iface_size = ap length s.iface;
    keeps = keeps;
    still = λ f t h. (h.0, s.stands h.0 f h.1, s.methods h.0 t h.2);
    stands = s.stands;
    waits = λ k c. rw s.work c;
    anew = λ k h. inl (rw s.kept at h);
    anew_iface = λ k h. inl (rw s.iface at h);
    in_range = λ h k c. h k (rw s.work at c);
    fewer = omega (arith, c1, c2);
    paid = omega (arith, c1, c2, ap length s.work);
  };
  covers = s.covers;
  sound = λ p h. record { facts = facts p h; called = called p h; waiting = λ f x c. elim (s.back_waits c.0 f x c.1 c.2) [ inl o ↦ h.waiting f x (c.0, o.0, o.1) | inr b ↦ b p h ] };
  ready = s.ready;
}
  where
    up : {f : Fact} → IsCalled old f → IsCalled new f
    up {f} c = (c.0, s.stands c.0 f c.1, s.called c.0 c.2)

    keeps : (f : Fact) → Holds old f → Holds new f
    keeps (Kept k) h = rw s.kept h
    keeps (Iface k) h = rw s.iface h
    keeps (Sig n t) h = up h
    keeps (Named n) h = up h
    keeps Reflect h = up h

    called : P → IsSound w old → (f : Fact) → IsCalled new f → Reach w f
    called p h f x = elim (s.back_called x.0 f x.1 x.2) [ inl o ↦ h.called f (x.0, o.0, o.1) | inr b ↦ b p h ]

    facts : P → IsSound w old → (f : Fact) → Holds new f → Reach w f
    facts p h (Kept k) x = h.facts (Kept k) (rw s.kept at x)
    facts p h (Iface k) x = h.facts (Iface k) (rw s.iface at x)
    facts p h (Sig n t) x = called p h (Sig n t) x
    facts p h (Named n) x = called p h (Named n) x
    facts p h Reflect x = called p h Reflect x

    c1 : count_by not new.kept ≡ count_by not old.kept
    c1 = ap (λ l. count_by not l) s.kept

    c2 : count_by not new.iface ≡ count_by not old.iface
    c2 = ap (λ l. count_by not l) s.iface
